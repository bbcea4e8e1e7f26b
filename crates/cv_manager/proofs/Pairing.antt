-- Entries and tables side by side.
use Rattle.std.proofs.Common.{◌≡◌, ℕ, zero, suc, ◌<◌, List, [], ◌∷◌, ◌++◌, ◌∙◌, refl, sym, ap, length, get_or, arith}
use Rattle.std.proofs.lemmas.List.{length-reverse, reverse-append, reverse-reverse}
use Rattle.std.proofs.lemmas.List.Elements.{All-from_recursion, All-push, recursion_from_All}
use Rattle.std.specs.List.{AllByRecursion}
use Rattle.std.specs.Prelude.{reverse}
use Rattle.cv_base.specs.declared.entries.Entry.{Entry}
use Rattle.cv_histories.specs.Seen.{Seen}
use Rattle.cv_manager.proofs.Reversed.{map_reverse}
use Rattle.cv_manager.specs.Journal.{EnforcesOne, entries_of, paired, seen_of}
use Rattle.cv_runs.specs.PatchedRun.{Table}

length_paired : (es : List Entry) (ts : List Table) → length ts ≡ length es → length (paired es ts) ≡ length es
length_paired [] ts same = refl
length_paired (e ∷ es) [] same = absurd (omega arith)
length_paired (e ∷ es) (t ∷ ts) same = ap suc (length_paired es ts (omega arith))

entries_paired : (es : List Entry) (ts : List Table) → length ts ≡ length es → entries_of (paired es ts) ≡ es
entries_paired [] ts same = refl
entries_paired (e ∷ es) [] same = absurd (omega arith)
entries_paired (e ∷ es) (t ∷ ts) same = ap (λ rest. e ∷ rest) (entries_paired es ts (omega arith))

paired_push : (es : List Entry) (ts : List Table) (e : Entry) (t : Table) → length ts ≡ length es → paired (es ++ e ∷ []) (ts ++ t ∷ []) ≡ paired es ts ++ record { entry = e; last = t } ∷ []
paired_push [] [] e t same = refl
paired_push [] (u ∷ ts) e t same = absurd (omega arith)
paired_push (f ∷ es) [] e t same = absurd (omega arith)
paired_push (f ∷ es) (u ∷ ts) e t same = ap (λ rest. record { entry = f; last = u } ∷ rest) (paired_push es ts e t (omega arith))

paired_at : (es : List Entry) (ts : List Table) (i : ℕ) (d : Seen) (e : Entry) (t : Table) → length ts ≡ length es → i < length es → get_or (paired es ts) i d ≡ record { entry = get_or es i e; last = get_or ts i t }
paired_at [] ts i d e t same within = absurd (omega arith)
paired_at (f ∷ es) [] i d e t same within = absurd (omega arith)
paired_at (f ∷ es) (u ∷ ts) zero d e t same within = refl
paired_at (f ∷ es) (u ∷ ts) (suc i) d e t same within = paired_at es ts i d e t (omega arith) (omega arith)

module _ (es : List Entry) (ts : List Table) (same : length ts ≡ length es) where
  pub length_seen : length (seen_of es ts) ≡ length es
  length_seen = length-reverse (paired es ts) ∙ length_paired es ts same

  pub entries_seen : es ≡ reverse (entries_of (seen_of es ts))
  entries_seen =
      sym
      (ap reverse (map_reverse (λ (s : Seen). s.entry) (paired es ts))
      ∙ reverse-reverse (entries_of (paired es ts))
      ∙ entries_paired es ts same)

  pub seen_push : (e : Entry) (t : Table) → seen_of (es ++ e ∷ []) (ts ++ t ∷ []) ≡ record { entry = e; last = t } ∷ seen_of es ts
  seen_push e t = ap reverse (paired_push es ts e t same) ∙ reverse-append (paired es ts) (record { entry = e; last = t } ∷ [])

  pub seen_at : (i : ℕ) (d : Seen) (e : Entry) (t : Table) → i < length es → get_or (reverse (seen_of es ts)) i d ≡ record { entry = get_or es i e; last = get_or ts i t }
  seen_at i d e t within = ap (λ s. get_or s i d) (reverse-reverse (paired es ts)) ∙ paired_at es ts i d e t same within

pub one_push : (ts : List Table) (t : Table) → AllByRecursion EnforcesOne ts → EnforcesOne t → AllByRecursion EnforcesOne (ts ++ t ∷ [])
one_push ts t all one = recursion_from_All EnforcesOne (ts ++ t ∷ []) (All-push EnforcesOne ts t (All-from_recursion EnforcesOne ts all) one)

pub one_at : (ts : List Table) (i : ℕ) (t : Table) → AllByRecursion EnforcesOne ts → i < length ts → EnforcesOne (get_or ts i t)
one_at ts i t all within = All-from_recursion EnforcesOne ts all i t within
