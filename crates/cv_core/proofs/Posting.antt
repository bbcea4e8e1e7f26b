-- An entry that may follow a legal history may be posted.
use Rattle.std.proofs.Common.{◌≡◌, List, true, subst, sym}
use Rattle.std.specs.List.{list_all}
use Rattle.cv_base.specs.declared.entries.Entry.{Entry}
use Rattle.cv_base.specs.Picture.{is_point}
use Rattle.cv_base.specs.PlanOf.{PlanOf}
use Rattle.cv_base.specs.WellFormed.{IsImage}
use Rattle.cv_blocks.specs.TextMap.{text_only}
use Rattle.cv_histories.specs.Honest.{IsHonest}
use Rattle.cv_histories.specs.Legal.{IsLegal, MayFollow}
use Rattle.cv_runs.specs.PatchedRun.{Table}
use Rattle.cv_histories.specs.Runs.{run_at}
use Rattle.cv_histories.specs.Seen.{is_observed, observed_of}
use Rattle.cv_histories.specs.Versions.{ledger}
use Rattle.cv_laws.specs.Statements.{FollowedHasRoom}
use Rattle.cv_manager.specs.MayPost.{MayPost}
use Rattle.cv_manager.specs.ManagerOf.{ManagerOf}
use Rattle.cv_observe.specs.StandsFor.{StandsFor, SummaryOf}

-- the law that the sites of an honest entry are points
abbrev pub SitesArePoints : Type 0
SitesArePoints = (plan : PlanOf) (versions : List Table) (e : Entry) → IsImage plan.image → IsHonest plan versions e → list_all (is_point plan.image) e.sites ≡ true

may_post : FollowedHasRoom → SitesArePoints → (plan : PlanOf) (past : List Entry) (e : Entry) (s : SummaryOf) → IsImage plan.image → IsLegal plan past → MayFollow plan past e → s.text ≡ text_only plan.image
    → (is_observed e ≡ true → StandsFor s (observed_of plan (run_at plan e.run))) → MayPost plan past e s
may_post has_room points plan past e s image legal may text seen = record {
  room = has_room plan past e legal may;
  sites = points plan (ledger plan past).versions e image may.honest;
  text = text;
  seen = seen;
}

-- a copy of it, to a manager that stands for the same history
pub may_post_copy : FollowedHasRoom → SitesArePoints → (m n : ManagerOf) (copy e : Entry) (s : SummaryOf) → m ≡ n → copy ≡ e → IsImage m.plan.image → IsLegal m.plan m.past → MayFollow n.plan n.past e
    → s.text ≡ text_only n.plan.image → (is_observed e ≡ true → StandsFor s (observed_of n.plan (run_at n.plan e.run))) → MayPost m.plan m.past copy s
may_post_copy has_room points m n copy e s same equal image legal may text seen =
    subst (λ (o : Entry). MayPost m.plan m.past o s) (sym equal)
    (may_post has_room points m.plan m.past e s image legal (rw same may) (rw same text) (rw same seen))
