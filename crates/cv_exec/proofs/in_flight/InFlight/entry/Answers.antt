use Rattle.std.proofs.Common.{◌∙◌, sym}
use Rattle.std.specs.Prelude.{IfOk}
use Rattle.std.proofs.lemmas.Result.{IfOk-weaker}
use Rattle.cv_exec.proofs.Ended.{IsEntryOf, known}
use Rattle.cv_exec.proofs.in_flight.InFlight.entry.Goals as goal

known_here : (c : goal.After-entry_of) → IfOk c.entry_of.result (IsEntryOf c.self.inside.plan c.self.inside.flying)
known_here c =
    IfOk-weaker c.entry_of.result _ _
    (λ e is. rw is (known c.flown_is_honest.ensures c.flown_is_plain.ensures c.rows_are_joined.ensures c.self.inside.plan c.self.inside.machine c.self.inside.flying c.in-Some.started c.in-Some.end c.in_ok-told.told c.self.invariant.run (sym c.ending.ensures ∙ c.in-Some.is) c.in_ok-told.ensures))
    c.entry_of.ensures

pub returns-clause-entry : goal.returns-clause-entry
returns-clause-entry c = rw (← c.self.view_is) (IfOk-weaker c.entry_of.result _ _ (λ e is. is.entry) (known_here c))

pub returns-clause-honest : goal.returns-clause-honest
returns-clause-honest c = rw (← c.self.view_is) (IfOk-weaker c.entry_of.result _ _ (λ e is. is.honest) (known_here c))

pub returns-clause-rows : goal.returns-clause-rows
returns-clause-rows c = rw (← c.self.view_is) (IfOk-weaker c.entry_of.result _ _ (λ e is. is.rows) (known_here c))

pub returns-clause-learned : goal.returns-clause-learned
returns-clause-learned c = rw (← c.self.view_is) (IfOk-weaker c.entry_of.result _ _ (λ e is. is.learned) (known_here c))

pub returns-clause-unseen : goal.returns-clause-unseen
returns-clause-unseen c = rw (← c.self.view_is) (IfOk-weaker c.entry_of.result _ _ (λ e is. is.unseen) (known_here c))

pub returns-clause-run : goal.returns-clause-run
returns-clause-run c = rw (← c.self.view_is) (IfOk-weaker c.entry_of.result _ _ (λ e is. is.there) (known_here c))

pub returns-clause-going : goal.returns-clause-going
returns-clause-going c = rw (← c.self.view_is) (IfOk-weaker c.entry_of.result _ _ (λ e is. is.going) (known_here c))

pub returns-clause-rises : goal.returns-clause-rises
returns-clause-rises c = IfOk-weaker c.entry_of.result _ _ (λ e is. is.rises) (known_here c)

pub returns-clause-turns : goal.returns-clause-turns
returns-clause-turns c = rw (← c.self.view_is) (IfOk-weaker c.entry_of.result _ _ (λ e is. is.turns) (known_here c))

pub returns-clause-worker : goal.returns-clause-worker
returns-clause-worker c = rw (← c.self.view_is) (IfOk-weaker c.entry_of.result _ _ (λ e is. is.worker) (known_here c))
