use Rattle.std.proofs.Common.{Ok, Err, sym}
use Rattle.std.specs.Prelude.{IfOk}
use Rattle.cv_exec.specs.ArenaOf.{adopted_in}
use Rattle.cv_exec.specs.LiveRun.{MayAdopt}
use Rattle.cv_exec.specs.Keeping.{IsNotBelow, last_span}
use Rattle.cv_exec.proofs.Adopting.{again, anew, there}
use Rattle.cv_exec.proofs.arena.Arena.table_of.Goals as goal

pub returns-in-Some-clause-may : goal.returns-in-Some-clause-may
returns-in-Some-clause-may g c = λ above.
    again c.args.version c.in-Some.table.value (adopted_in c.args.self.now.going) above (sym (rw c.in-Some.is at c.in_ok-table.ensures))

pub returns-in-Some-clause-table : goal.returns-in-Some-clause-table
returns-in-Some-clause-table g c = λ have.
    there (g.A.Adopter.tables c.args.adopter.now) c.args.version c.in-Some.table.value (adopted_in c.args.self.now.going) have (sym (rw c.in-Some.is at c.in_ok-table.ensures))

pub returns-in-None-clause-may : goal.returns-in-None-clause-may
returns-in-None-clause-may g c =
    elim c.table.result as (λ r. IfOk r (λ t. IsNotBelow c.args.version (last_span (adopted_in c.args.self.now.going)) → MayAdopt c.args.version t.value (adopted_in c.args.self.now.going))) [
      | Ok t ↦ λ above. anew c.args.version t.value (adopted_in c.args.self.now.going) above (sym (rw c.in-None.is at c.in_ok-table.ensures))
      | Err e ↦ tt
    ]
