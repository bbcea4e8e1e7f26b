use Rattle.std.proofs.Common.{◌∙◌, ap, refl, subst}
use Rattle.cv_desk.proofs.Seating.{desk_is}
use Rattle.cv_desk.proofs.office.Office.make.Goals as goal
use Rattle.cv_desk.specs.Openings.{IsSetting}

-- src/office.rt
pub invariant_of-new : goal.invariant_of-new
invariant_of-new g c =
    let made = c.seats_for-made.ensures.seat in
    let s = c.draft.inside.setting in (
      made.0 ∙ (c.draft.invariant.2 ∙ (ap (λ d. d.table) c.draft.view_is ∙ c.requires.named)),
      made.1 ∙ ap (λ m. m.1) c.draft.invariant.3,
      desk_is s s.plan.workers c.seats_for-made.new.master.me.0 c.setting.inside.book (subst (λ x. IsSetting x) c.setting.view_is c.setting.invariant) refl c.in-Ok.ensures.seated
          (ap (λ x. record { plan = x.plan; past = x.past }) c.setting.view_is),
    )
