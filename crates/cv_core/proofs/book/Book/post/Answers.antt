use Rattle.std.proofs.Common.{◌∙◌, subst}
use Rattle.cv_base.specs.PlanOf.{PlanOf}
use Rattle.cv_base.specs.WellFormed.{IsImage}
use Rattle.cv_core.proofs.Posting.{may_post_copy}
use Rattle.cv_core.proofs.book.Book.post.Goals as goal

pub post-requires : goal.post-requires
post-requires c =
    may_post_copy c.followed_has_room.ensures c.sites_are_points.ensures c.self.inside.manager c.args.self.now c.in-Ok.entry c.args.outcome.entry c.args.summary.now c.self.view_is (c.in-Ok.ensures ∙ c.entry.ensures.value)
    (subst (λ (plan : PlanOf). IsImage plan.image) c.plan.ensures c.keeps_image.ensures)
    c.self.invariant c.requires.follows c.requires.text c.requires.seen
