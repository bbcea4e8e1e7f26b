-- Rows, names and ends: what is read back of each, and which marks it has not.
use Rattle.std.proofs.Common.{◌≡◌, ℕ, ◌==◌, Bool, true, false, cond, List, [], ◌∷◌, ◌++◌, ◌∙◌, Option, Some, None, codes, refl, sym, ap, subst, append_assoc}
use Rattle.std.specs.Prelude.{bytes_eq, option_map, unwrap_or}
use Rattle.std.specs.Cmp.Lexicographic.{bytes_decides}
use Rattle.std.specs.Char.{is_ascii_digit}
use Rattle.std.specs.Fmt.{decimal}
use Rattle.cv_base.specs.EndText.{end_text, kind_text}
use Rattle.cv_base.specs.Text.{address_text}
use Rattle.cv_base.specs.declared.ends.CrashCause.TheVariants.{IllegalInstruction, Break, Deep, Misaligned, Unreadable, Code, Unwritable}
use Rattle.cv_base.specs.declared.ends.End.{End}
use Rattle.cv_base.specs.declared.ends.End.TheVariants.{Exit, Failure, Budget}
use Rattle.cv_base.specs.declared.ends.FailureKind.{FailureKind}
use Rattle.cv_base.specs.declared.ends.FailureKind.TheVariants.{IllegalTransfer, HeapGuard, ShadowStack, Crash}
use Rattle.cv_base.specs.declared.entries.Adopted.{Adopted}
use Rattle.cv_base.specs.declared.entries.FiredRow.{FiredRow}
use Rattle.cv_base.specs.declared.entries.TallyRow.{TallyRow}
use Rattle.cv_base.specs.declared.plan.Mode.{Mode}
use Rattle.cv_base.specs.declared.plan.Mode.TheVariants.{Learn, Live}
use Rattle.cv_histories.specs.Texts.{adopted_text, fired_text, held_text, mode_text, tally_text}
use Rattle.cv_journal.specs.EntryReading.{adopted_in, all_kinds, end_in, exit_or_failure, failure_in, failure_with, fired_in, fired_with, held_in, kind_in, mode_in, tally_in, tally_with}
use Rattle.cv_journal.specs.LineOf.{IsAdopted, IsEnd, IsFired, IsTally, IsWord}
use Rattle.cv_journal.specs.Reading.{address_in, behind, number_in, pair_in}
use Rattle.cv_journal.proofs.CutLaw.{behind_at, behind_back, lacks, lacks_append, lacks_pair}
use Rattle.cv_journal.proofs.HexLaw.{address_lacks, address_reads}
use Rattle.cv_journal.proofs.NumberLaw.{number_lacks, number_reads}
use Rattle.cv_journal.proofs.ReadBack.{Reads, as_reads, map_back, named_reads, pair_reads}

-- ---- adopted versions

two_joined : (a b : List ℕ) → a ++ codes ":" ++ b ≡ a ++ 58 ∷ b
two_joined a b = append_assoc a (codes ":") b

pub adopted_reads : Reads IsAdopted adopted_text adopted_in
unfolding adopted_in
adopted_reads =
    as_reads (pair_reads 58 number_reads (number_lacks 58 refl) number_reads)
    (λ (p : ℕ × ℕ). record { version = p.0; entries = p.1 }) (λ (a : Adopted). (a.version, a.entries)) (λ a. refl) (λ b. refl)
    (λ b fit. fit) (λ b fit. fit) (λ b. two_joined (decimal b.version) (decimal b.entries))

pub adopted_lacks : (mark : ℕ) → is_ascii_digit mark ≡ false → (58 == mark) ≡ false → (a : Adopted) → IsAdopted a → lacks mark (adopted_text a) ≡ true
adopted_lacks mark digit colon a fit =
    ap (lacks mark) (two_joined (decimal a.version) (decimal a.entries))
    ∙ lacks_pair mark 58 (decimal a.version) (decimal a.entries) colon (number_lacks mark digit a.version fit.0) (number_lacks mark digit a.entries fit.1)

-- ---- tallies

five_joined : (a b c d e : List ℕ) → a ++ codes "." ++ b ++ codes ":" ++ c ++ codes ":" ++ d ++ codes ":" ++ e ≡ a ++ 46 ∷ (b ++ 58 ∷ (c ++ 58 ∷ (d ++ 58 ∷ e)))
five_joined a b c d e = simp append_assoc

held_known : (b : Bool) → held_in (held_text b) ≡ Some b
unfolding held_in
held_known true = refl
held_known false = refl

held_reads : Reads (λ (b : Bool). Unit {0}) held_text held_in
unfolding held_in
held_reads = named_reads held_text (true ∷ false ∷ []) held_known

pub tally_reads : Reads IsTally tally_text tally_in
unfolding tally_in
tally_reads =
    as_reads (pair_reads 46 number_reads (number_lacks 46 refl) (pair_reads 58 number_reads (number_lacks 58 refl) (pair_reads 58 number_reads (number_lacks 58 refl) (pair_reads 58 number_reads (number_lacks 58 refl) held_reads))))
    tally_with (λ (r : TallyRow). (r.case, (r.index, (r.checks, (r.violations, r.last_held))))) (λ a. refl) (λ b. refl)
    (λ b fit. (fit.0, fit.1.0, fit.1.1.0, fit.1.1.1.0)) (λ b fit. (fit.0, (fit.1, (fit.2, (fit.3, tt)))))
    (λ b. five_joined (decimal b.case) (decimal b.index) (decimal b.checks) (decimal b.violations) (held_text b.last_held))

pub held_lacks : (mark : ℕ) → lacks mark (codes "held") ≡ true → lacks mark (codes "failed") ≡ true → (b : Bool) → lacks mark (held_text b) ≡ true
held_lacks mark yes_ no_ true = yes_
held_lacks mark yes_ no_ false = no_

pub tally_lacks : (mark : ℕ) → is_ascii_digit mark ≡ false → (46 == mark) ≡ false → (58 == mark) ≡ false → ((b : Bool) → lacks mark (held_text b) ≡ true)
    → (r : TallyRow) → IsTally r → lacks mark (tally_text r) ≡ true
tally_lacks mark digit point colon held r fit =
    ap (lacks mark) (five_joined (decimal r.case) (decimal r.index) (decimal r.checks) (decimal r.violations) (held_text r.last_held))
    ∙ lacks_pair mark 46 _ _ point (number_lacks mark digit r.case fit.0)
    (lacks_pair mark 58 _ _ colon (number_lacks mark digit r.index fit.1)
    (lacks_pair mark 58 _ _ colon (number_lacks mark digit r.checks fit.2) (lacks_pair mark 58 _ _ colon (number_lacks mark digit r.violations fit.3) (held r.last_held))))

-- ---- fired repairs

three_joined : (a b c : List ℕ) → a ++ codes "." ++ b ++ codes ":" ++ c ≡ a ++ 46 ∷ (b ++ 58 ∷ c)
three_joined a b c = simp append_assoc

pub fired_reads : Reads IsFired fired_text fired_in
unfolding fired_in
fired_reads =
    as_reads (pair_reads 46 number_reads (number_lacks 46 refl) (pair_reads 58 number_reads (number_lacks 58 refl) number_reads))
    fired_with (λ (r : FiredRow). (r.case, (r.index, r.count))) (λ a. refl) (λ b. refl)
    (λ b fit. (fit.0, fit.1.0, fit.1.1)) (λ b fit. (fit.0, (fit.1, fit.2)))
    (λ b. three_joined (decimal b.case) (decimal b.index) (decimal b.count))

pub fired_lacks : (mark : ℕ) → is_ascii_digit mark ≡ false → (46 == mark) ≡ false → (58 == mark) ≡ false → (r : FiredRow) → IsFired r → lacks mark (fired_text r) ≡ true
fired_lacks mark digit point colon r fit =
    ap (lacks mark) (three_joined (decimal r.case) (decimal r.index) (decimal r.count))
    ∙ lacks_pair mark 46 _ _ point (number_lacks mark digit r.case fit.0) (lacks_pair mark 58 _ _ colon (number_lacks mark digit r.index fit.1) (number_lacks mark digit r.count fit.2))

-- ---- modes and kinds

mode_known : (m : Mode) → mode_in (mode_text m) ≡ Some m
unfolding mode_in
mode_known Learn = refl
mode_known Live = refl

pub mode_reads : Reads (λ (m : Mode). Unit {0}) mode_text mode_in
unfolding mode_in
mode_reads = named_reads mode_text (Learn ∷ Live ∷ []) mode_known

kind_known : (k : FailureKind) → kind_in (kind_text k) ≡ Some k
unfolding kind_in
kind_known IllegalTransfer = refl
kind_known HeapGuard = refl
kind_known ShadowStack = refl
kind_known (Crash IllegalInstruction) = refl
kind_known (Crash Break) = refl
kind_known (Crash Deep) = refl
kind_known (Crash Misaligned) = refl
kind_known (Crash Unreadable) = refl
kind_known (Crash Code) = refl
kind_known (Crash Unwritable) = refl

kind_reads : Reads (λ (k : FailureKind). Unit {0}) kind_text kind_in
unfolding kind_in
kind_reads = named_reads kind_text all_kinds kind_known

pub mode_lacks_blank : (m : Mode) → lacks 32 (mode_text m) ≡ true
mode_lacks_blank Learn = refl
mode_lacks_blank Live = refl

kind_lacks_blank : (k : FailureKind) → lacks 32 (kind_text k) ≡ true
kind_lacks_blank IllegalTransfer = refl
kind_lacks_blank HeapGuard = refl
kind_lacks_blank ShadowStack = refl
kind_lacks_blank (Crash IllegalInstruction) = refl
kind_lacks_blank (Crash Break) = refl
kind_lacks_blank (Crash Deep) = refl
kind_lacks_blank (Crash Misaligned) = refl
kind_lacks_blank (Crash Unreadable) = refl
kind_lacks_blank (Crash Code) = refl
kind_lacks_blank (Crash Unwritable) = refl

kind_lacks_colon : (k : FailureKind) → lacks 58 (kind_text k) ≡ true
kind_lacks_colon IllegalTransfer = refl
kind_lacks_colon HeapGuard = refl
kind_lacks_colon ShadowStack = refl
kind_lacks_colon (Crash IllegalInstruction) = refl
kind_lacks_colon (Crash Break) = refl
kind_lacks_colon (Crash Deep) = refl
kind_lacks_colon (Crash Misaligned) = refl
kind_lacks_colon (Crash Unreadable) = refl
kind_lacks_colon (Crash Code) = refl
kind_lacks_colon (Crash Unwritable) = refl

-- ---- ends

told_text : FailureKind × (ℕ × ℕ) → List ℕ
told_text p = kind_text p.0 ++ 58 ∷ (address_text p.1.0 ++ 58 ∷ address_text p.1.1)

told_reads : Reads (λ (p : FailureKind × (ℕ × ℕ)). Unit {0} × (IsWord p.1.0 × IsWord p.1.1)) told_text (pair_in 58 kind_in (pair_in 58 address_in address_in))
unfolding told_text
told_reads = pair_reads 58 kind_reads (λ k fit. kind_lacks_colon k) (pair_reads 58 address_reads (address_lacks 58 refl) address_reads)

failure_joined : (w a b c : List ℕ) → w ++ a ++ codes ":" ++ b ++ codes ":" ++ c ≡ w ++ (a ++ 58 ∷ (b ++ 58 ∷ c))
failure_joined w a b c = simp append_assoc

failure_told : (p : FailureKind × (ℕ × ℕ)) → end_text (failure_with p) ≡ codes "failure:" ++ told_text p
unfolding told_text
failure_told p = failure_joined (codes "failure:") (kind_text p.0) (address_text p.1.0) (address_text p.1.1)

failure_back : (s told : List ℕ) (x : End) → s ≡ codes "failure:" ++ told → failure_in told ≡ Some x → IsEnd x × (s ≡ end_text x)
unfolding failure_in
failure_back s told x is e =
    let found = map_back failure_with (pair_in 58 kind_in (pair_in 58 address_in address_in) told) x e in
    let got = told_reads.back told found.0 found.1.0 in
    subst (λ (y : End). IsEnd y × (s ≡ end_text y)) found.1.1
    (got.0.1, is ∙ ap (λ l. codes "failure:" ++ l) got.1 ∙ sym (failure_told found.0))

exit_back : (s code : List ℕ) (x : End) → s ≡ codes "exit:" ++ code → option_map (λ n. Exit n) (number_in code) ≡ Some x → IsEnd x × (s ≡ end_text x)
exit_back s code x is e =
    let found = map_back (λ n. Exit n) (number_in code) x e in
    let got = number_reads.back code found.0 found.1.0 in
    subst (λ (y : End). IsEnd y × (s ≡ end_text y)) found.1.1 (got.0, is ∙ ap (λ l. codes "exit:" ++ l) got.1)

other_end_back : (s : List ℕ) (x : End) (code told : Option (List ℕ)) → behind (codes "exit:") s ≡ code → behind (codes "failure:") s ≡ told
    → exit_or_failure code told ≡ Some x → IsEnd x × (s ≡ end_text x)
other_end_back s x (Some code) told is it e = exit_back s code x (behind_back (codes "exit:") s code is) e
other_end_back s x None (Some told) is it e = failure_back s told x (behind_back (codes "failure:") s told it) e
other_end_back s x None None is it e = absurd (cc)

end_cases : (s : List ℕ) (x : End) (budget : Bool) → bytes_eq s (codes "budget") ≡ budget
    → cond budget (Some Budget) (exit_or_failure (behind (codes "exit:") s) (behind (codes "failure:") s)) ≡ Some x → IsEnd x × (s ≡ end_text x)
end_cases s x true is e =
    let same : Budget ≡ x = ap (λ o. unwrap_or o x) e in
    subst (λ (y : End). IsEnd y × (s ≡ end_text y)) same (tt, (bytes_decides s (codes "budget")).0 is)
end_cases s x false is e = other_end_back s x (behind (codes "exit:") s) (behind (codes "failure:") s) refl refl e

end_back : (s : List ℕ) (x : End) → end_in s ≡ Some x → IsEnd x × (s ≡ end_text x)
unfolding end_in
end_back s x e = end_cases s x (bytes_eq s (codes "budget")) refl e

not_exit : (t : List ℕ) → behind (codes "exit:") (codes "failure:" ++ t) ≡ None
unfolding behind
not_exit t = refl

failure_forth : (p : FailureKind × (ℕ × ℕ)) → IsWord p.1.0 × IsWord p.1.1 → failure_in (told_text p) ≡ Some (failure_with p)
unfolding failure_in
failure_forth p fit = ap (option_map failure_with) (told_reads.forth p (tt, fit))

end_forth : (x : End) → IsEnd x → end_in (end_text x) ≡ Some x
unfolding end_in
end_forth (Exit n) fit =
    ap (λ o. exit_or_failure o (behind (codes "failure:") (codes "exit:" ++ decimal n))) (behind_at (codes "exit:") (decimal n))
    ∙ ap (option_map (λ m. Exit m)) (number_reads.forth n fit)
end_forth (Failure id detail) fit =
    ap end_in (failure_told (id.kind, (id.pc, detail)))
    ∙ ap (λ o. exit_or_failure o (behind (codes "failure:") (codes "failure:" ++ told_text (id.kind, (id.pc, detail))))) (not_exit (told_text (id.kind, (id.pc, detail))))
    ∙ ap (λ o. exit_or_failure None o) (behind_at (codes "failure:") (told_text (id.kind, (id.pc, detail))))
    ∙ failure_forth (id.kind, (id.pc, detail)) fit
end_forth Budget fit = refl

pub end_reads : Reads IsEnd end_text end_in
end_reads = record { back = end_back; forth = end_forth }

told_lacks_blank : (p : FailureKind × (ℕ × ℕ)) → IsWord p.1.0 × IsWord p.1.1 → lacks 32 (told_text p) ≡ true
unfolding told_text
told_lacks_blank p fit =
    lacks_pair 32 58 (kind_text p.0) (address_text p.1.0 ++ 58 ∷ address_text p.1.1) refl (kind_lacks_blank p.0)
    (lacks_pair 32 58 (address_text p.1.0) (address_text p.1.1) refl (address_lacks 32 refl p.1.0 fit.0) (address_lacks 32 refl p.1.1 fit.1))

pub end_lacks_blank : (x : End) → IsEnd x → lacks 32 (end_text x) ≡ true
end_lacks_blank (Exit n) fit = lacks_append 32 (codes "exit:") (decimal n) refl (number_lacks 32 refl n fit)
end_lacks_blank (Failure id detail) fit =
    ap (lacks 32) (failure_told (id.kind, (id.pc, detail)))
    ∙ lacks_append 32 (codes "failure:") (told_text (id.kind, (id.pc, detail))) refl (told_lacks_blank (id.kind, (id.pc, detail)) fit)
end_lacks_blank Budget fit = refl
