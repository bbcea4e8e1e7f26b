-- The serial history is legal and whole.
use Rattle.std.proofs.Common.{◌≡◌, ◌+◌, ℕ, List, [], ◌∷◌, drop, refl, sym, subst}
use Rattle.std.specs.Prelude.{map}
use Rattle.cv_base.specs.declared.entries.Entry.{Entry}
use Rattle.cv_base.specs.PlanOf.{IsPlan, PlanOf}
use Rattle.cv_histories.specs.Legal.{IsLegal, IsWhole}
use Rattle.cv_histories.specs.Runs.{Run, runs}
use Rattle.cv_histories.specs.Seen.{Seen}
use Rattle.cv_histories.specs.Serial.{next_entry, serial_from}
use Rattle.cv_histories.specs.Versions.{ledger}
use Rattle.cv_laws.specs.InOrder.{AreBelow}
use Rattle.cv_laws.specs.Statements.{SerialIsLegal}
use Rattle.cv_laws.proofs.InOrder.{below_is_whole, entries_seen, one_more}
use Rattle.cv_laws.proofs.RunOrder.{first_left, none_left}
use Rattle.cv_laws.proofs.SerialEntry.{next_is}
use Rattle.cv_laws.proofs.SerialMayFollow.{next_may_follow}

-- legal and whole
abbrev Stands : PlanOf → List Entry → Type 0
Stands plan history = IsLegal plan history × IsWhole plan history

-- what is left of the runs, after a legal history of those before them
stands_from : (plan : PlanOf) (left : List Run) (k : ℕ) (past : List Entry) → IsPlan plan → drop k (runs plan) ≡ left → AreBelow k past → IsLegal plan past
    → Stands plan (map (λ (s : Seen). s.entry) (serial_from plan k left (ledger plan past)).seen)
stands_from plan [] k past is left are legal =
    subst (Stands plan) (sym (entries_seen plan past)) (legal, below_is_whole plan k past are (none_left (runs plan) k left))
stands_from plan (r ∷ rest) k past is left are legal =
    let first = first_left (runs plan) k r rest left in
    let e = next_entry plan (ledger plan past) k r in
    let next = next_is plan past k r is.some_budget first.at in
    stands_from plan rest (k + 1) (e ∷ past) is first.later (one_more k past e next.run are) (next_may_follow plan k past e is are next, legal)

-- of all runs, after none
pub serial_is_legal : SerialIsLegal
serial_is_legal plan is = stands_from plan (runs plan) 0 [] is refl refl tt
