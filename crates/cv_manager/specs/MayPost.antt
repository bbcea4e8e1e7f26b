-- When an entry may be posted (docs/REPAIR.md, "Histories").
use Rattle.std.specs.Prelude.{◌≡◌, ◌<◌, true, List, length}
use Rattle.std.specs.List.{list_all}
use Rattle.cv_base.specs.declared.entries.Entry.{Entry}
use Rattle.cv_base.specs.Picture.{is_point}
use Rattle.cv_base.specs.PlanOf.{PlanOf}
use Rattle.cv_blocks.specs.TextMap.{text_only}
use Rattle.cv_histories.specs.Runs.{run_at, runs}
use Rattle.cv_histories.specs.Seen.{is_observed, observed_of}
use Rattle.cv_observe.specs.StandsFor.{StandsFor, SummaryOf}

-- there is a run left, its sites are points, and where the run is learned from the summary is of it
pub record MayPost (plan : PlanOf) (past : List Entry) (e : Entry) (s : SummaryOf) : Type 0 where
  pub room : length past < length (runs plan)
  pub sites : list_all (is_point plan.image) e.sites ≡ true
  pub text : s.text ≡ text_only plan.image
  pub seen : is_observed e ≡ true → StandsFor s (observed_of plan (run_at plan e.run))
