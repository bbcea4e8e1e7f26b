use Rattle.std.proofs.Common.{◌≡◌, ◌++◌, ◌-◌, ℕ, List, Some}
use Rattle.std.specs.List.{AllByRecursion}
use Rattle.cv_exec.specs.ArenaOf.{adopted_in, has_ended, turns_in}
use Rattle.cv_exec.specs.LiveRun.{HaveTables, Span, rows_of}
use Rattle.cv_histories.specs.Legal.{NeverFalls}
use Rattle.cv_histories.specs.Rows.{written}
use Rattle.cv_patch.specs.Adopting.{IsGrown}
use Rattle.cv_exec.proofs.arena.Arena.live.Given as goal

abbrev pub invariant-loop-over : goal.invariant-loop-over
invariant-loop-over g l = record {
  plan : l.self.plan ≡ l.plan;
  going : l.self.going ≡ Some (record { run = l.run; worker = l.worker; turns = turns_in l.self.going; adopted = adopted_in l.self.going });
  over : l.over ≡ has_ended l.self;
  rises : NeverFalls (rows_of (adopted_in l.self.going));
  tables : HaveTables (g.A.Adopter.tables l.adopter) (adopted_in l.self.going);
  answered : AllByRecursion (λ (s : Span). g.A.Adopter.HasAnswered l.adopter s.version) (adopted_in l.self.going);
  answers : (before : List ℕ) → g.A.Adopter.Answers l.initial.adopter before → g.A.Adopter.Answers l.adopter (before ++ written (rows_of (adopted_in l.self.going)));
  grown : IsGrown (g.A.Adopter.tables l.initial.adopter) (g.A.Adopter.tables l.adopter);
  origin : g.A.Adopter.origin l.adopter ≡ g.A.Adopter.origin l.initial.adopter;
}

abbrev pub decreases-loop-over : goal.decreases-loop-over
decreases-loop-over g l = l.plan.budget - turns_in l.self.going
