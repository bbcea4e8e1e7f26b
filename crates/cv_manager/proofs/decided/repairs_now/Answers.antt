use Rattle.std.proofs.Common.{◌≡◌, ◌<◌, ◌∙◌, length}
use Rattle.std.proofs.lemmas.Result.{IfOk-weaker}
use Rattle.cv_histories.specs.Repairs.{repairs_for}
use Rattle.cv_manager.proofs.Choosing.{are_within}
use Rattle.cv_manager.proofs.Deciding.{chosen_now, few_classes, few_repairs_now, judged_now, repairs_from_judged}
use Rattle.cv_manager.proofs.decided.repairs_now.Goals as goal

pub chosen-requires : goal.chosen-requires
chosen-requires c =
    few_classes c.args.posting.now c.args.number c.args.case.now c.requires.case c.args.classes.now c.requires.classes

pub repairs-requires-clause-chosen : goal.repairs-requires-clause-chosen
repairs-requires-clause-chosen c =
    let numbers = c.as_slice.ensures.value ∙ c.in_ok-chosen.ensures in
    are_within c.args.case.now.candidates c.as_slice.result.now (judged_now c.args.posting.now c.args.number c.args.case.now)
    (chosen_now c.args.posting.now c.args.number c.args.case.now c.args.classes.now c.requires.classes c.as_slice.result.now numbers)

pub returns-clause-repairs : goal.returns-clause-repairs
returns-clause-repairs c =
    let p = c.args.posting.now in
    let case = c.args.case.now in
    let numbers = c.as_slice.ensures.value ∙ c.in_ok-chosen.ensures in
    rw (repairs_from_judged p c.args.number case c.requires.decided)
    (c.repairs.ensures (judged_now p c.args.number case) (chosen_now p c.args.number case c.args.classes.now c.requires.classes c.as_slice.result.now numbers))

pub returns-clause-few : goal.returns-clause-few
returns-clause-few c =
    let p = c.args.posting.now in
    let case = c.args.case.now in
    let numbers = c.as_slice.ensures.value ∙ c.in_ok-chosen.ensures in
    IfOk-weaker c.repairs.result (λ r. r ≡ repairs_for p.plan.image case.candidates (judged_now p c.args.number case)) (λ r. length r < 4294967296)
    (λ r made. rw made (few_repairs_now p c.args.number case c.requires.case))
    (c.repairs.ensures (judged_now p c.args.number case) (chosen_now p c.args.number case c.args.classes.now c.requires.classes c.as_slice.result.now numbers))
