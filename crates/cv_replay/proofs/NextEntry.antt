-- One more block entry, by what an entry says.
use Rattle.std.proofs.Common.{◌≡◌, ◌≤◌, ◌<◌, ◌+◌, ℕ, zero, suc, Bool, true, false, List, [], ◌∷◌, ◌++◌, length, replicate, refl, sym, ap, ◌∙◌, arith, append_assoc, length-append}
use Rattle.std.proofs.lemmas.Bool.{eqb-true}
use Rattle.std.proofs.lemmas.List.{append-nil}
use Rattle.std.specs.Prelude.{◌==◌, if◌then◌else◌, map, slice_index_or}
use Rattle.cv_exec.specs.LiveRun.{MayAdopt, Span, adoptions_of, one_entry_more}
use Rattle.cv_histories.specs.Flight.{Adoption}
use Rattle.cv_replay.specs.Left.{IsLeft, MayFollow}
use Rattle.cv_replay.specs.Script.{Rises, ScriptOf}
use Rattle.cv_replay.specs.Statements.{adoption}
use Rattle.cv_runs.specs.PatchedRun.{Table}

abbrev of : ℕ → Table → Adoption
of version table = record { version = version; table = table }

-- copies, and one more behind them
one_behind : (n : ℕ) (a : Adoption) → replicate (suc n) a ≡ replicate n a ++ a ∷ []
one_behind zero a = refl
one_behind (suc n) a = ap (λ (l : List Adoption). a ∷ l) (one_behind n a)

-- the last span of these, by whether it is of the version
last_more : (s : Span) (v : ℕ) (t : Table) (same : Bool) → (s.version == v) ≡ same → (s.version ≡ v → s.table ≡ t)
    → adoptions_of (if same then record s { entries = s.entries + 1 } ∷ [] else s ∷ record { version = v; entries = 1; table = t } ∷ []) ≡ adoptions_of (s ∷ []) ++ of v t ∷ []
last_more s v t true is table =
    let version : s.version ≡ v = eqb-true s.version v is in
    let one_more : s.entries + 1 ≡ suc s.entries = omega arith in
    append-nil (replicate (s.entries + 1) (of s.version s.table))
    ∙ ap (λ (n : ℕ). replicate n (of s.version s.table)) one_more
    ∙ one_behind s.entries (of s.version s.table)
    ∙ ap (λ (l : List Adoption). l ++ of s.version s.table ∷ []) (sym (append-nil (replicate s.entries (of s.version s.table))))
    ∙ ap (λ (w : ℕ). adoptions_of (s ∷ []) ++ of w s.table ∷ []) version
    ∙ ap (λ (u : Table). adoptions_of (s ∷ []) ++ of v u ∷ []) (table version)
last_more s v t false is table =
    ap (λ (l : List Adoption). l ++ of v t ∷ []) (sym (append-nil (replicate s.entries (of s.version s.table))))

-- one more adoption stands behind the others
pub one_more : (spans : List Span) (v : ℕ) (t : Table) → MayAdopt v t spans → adoptions_of (one_entry_more v t spans) ≡ adoptions_of spans ++ of v t ∷ []
one_more [] v t may = refl
one_more (s ∷ []) v t may = last_more s v t (s.version == v) refl may.1
one_more (s ∷ u ∷ rest) v t may =
    ap (λ (l : List Adoption). replicate s.entries (of s.version s.table) ++ l) (one_more (u ∷ rest) v t may)
    ∙ sym (append_assoc (replicate s.entries (of s.version s.table)) (adoptions_of (u ∷ rest)) (of v t ∷ []))

-- behind more spans
may_behind : (s : Span) (spans : List Span) (w : ℕ) (u : Table) → 0 < length spans → MayAdopt w u spans → MayAdopt w u (s ∷ spans)
may_behind s [] w u some may = absurd (omega arith)
may_behind s (r ∷ spans) w u some may = may

some_more : (spans : List Span) (v : ℕ) (t : Table) → 0 < length (one_entry_more v t spans)
some_more [] v t = omega arith
some_more (s ∷ []) v t = by_test (s.version == v)
  where
    by_test : (same : Bool) → 0 < length (if same then record s { entries = s.entries + 1 } ∷ [] else s ∷ record { version = v; entries = 1; table = t } ∷ [])
    by_test true = omega arith
    by_test false = omega arith
some_more (s ∷ u ∷ rest) v t = omega arith

last_may : (s : Span) (v w : ℕ) (t u : Table) (same : Bool) → (s.version == v) ≡ same → v ≤ w → (v ≡ w → t ≡ u) → (s.version ≡ v → s.table ≡ t)
    → MayAdopt w u (if same then record s { entries = s.entries + 1 } ∷ [] else s ∷ record { version = v; entries = 1; table = t } ∷ [])
last_may s v w t u true is rises next table =
    let version : s.version ≡ v = eqb-true s.version v is in
    (omega arith, λ (at : s.version ≡ w). table version ∙ next (sym version ∙ at))
last_may s v w t u false is rises next table = (rises, next)

-- a later version may come behind it
pub may_next : (spans : List Span) (v w : ℕ) (t u : Table) → MayAdopt v t spans → v ≤ w → (v ≡ w → t ≡ u) → MayAdopt w u (one_entry_more v t spans)
may_next [] v w t u may rises next = (rises, next)
may_next (s ∷ []) v w t u may rises next = last_may s v w t u (s.version == v) refl rises next may.1
may_next (s ∷ r ∷ rest) v w t u may rises next =
    may_behind s (one_entry_more v t (r ∷ rest)) w u (some_more (r ∷ rest) v t) (may_next (r ∷ rest) v w t u may rises next)

next_follows : (versions : List Table) (spans : List Span) (v : ℕ) (left : List ℕ) → MayAdopt v (slice_index_or versions v []) spans → Rises (v ∷ left) → MayFollow versions left (one_entry_more v (slice_index_or versions v []) spans)
next_follows versions spans v [] may rises = tt
next_follows versions spans v (w ∷ left) may rises =
    may_next spans v w (slice_index_or versions v []) (slice_index_or versions w []) may rises.0 (λ (same : v ≡ w). ap (λ (k : ℕ). slice_index_or versions k []) same)

rises_on : (v : ℕ) (left : List ℕ) → Rises (v ∷ left) → Rises left
rises_on v [] rises = tt
rises_on v (w ∷ left) rises = rises.1

-- what is left after it
pub left_next : (s : ScriptOf) (spans : List Span) (v : ℕ) (left : List ℕ) → IsLeft s spans (v ∷ left) → IsLeft s (one_entry_more v (slice_index_or s.versions v []) spans) left
left_next s spans v left is = record {
  whole = ap (λ (l : List Adoption). l ++ map (adoption s.versions) left) (one_more spans v (slice_index_or s.versions v []) is.may)
      ∙ append_assoc (adoptions_of spans) (adoption s.versions v ∷ []) (map (adoption s.versions) left)
      ∙ is.whole;
  rises = rises_on v left is.rises;
  may = next_follows s.versions spans v left is.may is.rises;
}

-- and how many were adopted with it
pub number_next : (spans : List Span) (v : ℕ) (t : Table) → MayAdopt v t spans → length (adoptions_of (one_entry_more v t spans)) ≡ suc (length (adoptions_of spans))
number_next spans v t may =
    let counted = length-append (adoptions_of spans) (of v t ∷ []) in
    ap length (one_more spans v t may) ∙ omega arith
