-- What a live run keeps through one more turn: its notes are counted, and no count rises too high.
use Rattle.std.proofs.Common.{◌≡◌, ◌≤◌, ℕ, true, List, [], ◌∷◌, ◌++◌, ◌+◌, refl, sym, ap, ◌∙◌, subst, arith}
use Rattle.std.specs.Prelude.{nat_le}
use Rattle.std.proofs.lemmas.Bool.{and_from, and_parts}
use Rattle.std.proofs.lemmas.Bool.Decides.{nat_tests}
use Rattle.std.proofs.lemmas.Grind.{flat_map-append}
use Rattle.std.proofs.lemmas.List.{append-nil}
use Rattle.cv_base.specs.declared.entries.FiredRow.{FiredRow}
use Rattle.cv_base.specs.declared.entries.TallyRow.{TallyRow}
use Rattle.cv_exec.specs.declared.patched.Patched.{Patched}
use Rattle.cv_exec.specs.Keeping.{IsKept, IsNoted, IsUpTo}
use Rattle.cv_histories.specs.Rows.{checks_in, firings_in}
use Rattle.cv_base.specs.declared.patches.Patch.{Patch}
use Rattle.cv_patch.specs.Counts.{CountsChecks, CountsFirings, FiredGoesOn, TallyGoesOn, fired_ready, fired_up_to, tally_ready, tally_up_to}
use Rattle.cv_runs.specs.Apply.{Checked, Fired, Note}
use Rattle.cv_runs.specs.PatchedRun.{PatchedStep, notes_of}

-- ---- notes

checks_in-append : (a b : List Note) → checks_in (a ++ b) ≡ checks_in a ++ checks_in b
checks_in-append [] b = refl
checks_in-append (Checked case index held ∷ a) b = ap (λ l. record { case = case; index = index; held = held } ∷ l) (checks_in-append a b)
checks_in-append (Fired case index ∷ a) b = checks_in-append a b

firings_in-append : (a b : List Note) → firings_in (a ++ b) ≡ firings_in a ++ firings_in b
firings_in-append [] b = refl
firings_in-append (Checked case index held ∷ a) b = firings_in-append a b
firings_in-append (Fired case index ∷ a) b = ap (λ l. record { case = case; index = index } ∷ l) (firings_in-append a b)

notes_more : (done : List PatchedStep) (step : PatchedStep) → notes_of (done ++ step ∷ []) ≡ notes_of done ++ step.notes
notes_more done step =
    flat_map-append (λ (s : PatchedStep). s.notes) done (step ∷ []) ∙ ap (λ l. notes_of done ++ l) (append-nil step.notes)

checks_more : (done : List PatchedStep) (step : PatchedStep) → checks_in (notes_of done) ++ checks_in step.notes ≡ checks_in (notes_of (done ++ step ∷ []))
checks_more done step = sym (ap checks_in (notes_more done step) ∙ checks_in-append (notes_of done) step.notes)

firings_more : (done : List PatchedStep) (step : PatchedStep) → firings_in (notes_of done) ++ firings_in step.notes ≡ firings_in (notes_of (done ++ step ∷ []))
firings_more done step = sym (ap firings_in (notes_more done step) ∙ firings_in-append (notes_of done) step.notes)

-- what is kept through one more turn
pub kept_on : (done : List PatchedStep) (step : PatchedStep) (old new : Patched) → IsKept done old → IsNoted (record { notes = step.notes; outcome = step.outcome }) old new → IsKept (done ++ step ∷ []) new
kept_on done step old new kept noted =
    let spans = ap (λ v. v.items) noted.spans in
    record {
      joined = rw spans kept.joined;
      rises = rw spans kept.rises;
      checks = rw (← checks_more done step) (noted.tally.counts (checks_in (notes_of done)) kept.checks);
      firings = rw (← firings_more done step) (noted.fired.counts (firings_in (notes_of done)) kept.firings);
    }

-- ---- counts

at_most : (a n k : ℕ) → n ≤ k → nat_le a n ≡ true → nat_le a k ≡ true
at_most a n k more is = grind (arith, nat_tests)

pub tally_rises : (n k : ℕ) (rows : List TallyRow) → n ≤ k → tally_up_to n rows ≡ true → tally_up_to k rows ≡ true
tally_rises n k [] more all = refl
tally_rises n k (row ∷ rows) more all =
    let parts = and_parts (nat_le row.checks n) (tally_up_to n rows) all in
    and_from (nat_le row.checks k) (tally_up_to k rows) (at_most row.checks n k more parts.0) (tally_rises n k rows more parts.1)

pub fired_rises : (n k : ℕ) (rows : List FiredRow) → n ≤ k → fired_up_to n rows ≡ true → fired_up_to k rows ≡ true
fired_rises n k [] more all = refl
fired_rises n k (row ∷ rows) more all =
    let parts = and_parts (nat_le row.count n) (fired_up_to n rows) all in
    and_from (nat_le row.count k) (fired_up_to k rows) (at_most row.count n k more parts.0) (fired_rises n k rows more parts.1)

pub up_to_more : (n k : ℕ) (p : Patched) → n ≤ k → IsUpTo n p → IsUpTo k p
up_to_more n k p more is = record { tally = tally_rises n k p.tally more is.tally; fired = fired_rises n k p.fired more is.fired }

-- ---- rows that noted nothing

pub tally_still : (table : List Patch) (rows : List TallyRow) → tally_ready table rows ≡ true → TallyGoesOn table rows rows []
tally_still table rows ready = record {
  counts = λ before is. subst (CountsChecks rows) (sym (append-nil before)) is;
  ready = ready;
  rises = λ n low. tally_rises n (n + 1) rows (omega arith) low;
}

pub fired_still : (table : List Patch) (rows : List FiredRow) → fired_ready table rows ≡ true → FiredGoesOn table rows rows []
fired_still table rows ready = record {
  counts = λ before is. subst (CountsFirings rows) (sym (append-nil before)) is;
  ready = ready;
  rises = λ n low. fired_rises n (n + 1) rows (omega arith) low;
}
