use Rattle.std.proofs.Common.{◌<◌, ◌∙◌, List, length, refl, sym, ap, arith}
use Rattle.std.specs.List.{list_all}
use Rattle.cv_base.specs.declared.invariants.Invariant.{Invariant}
use Rattle.cv_base.specs.Invariants.{is_invariant}
use Rattle.cv_base.specs.Picture.{Picture, is_point}
use Rattle.cv_histories.specs.Cases.{candidates_at}
use Rattle.cv_histories.specs.Seen.{observed}
use Rattle.cv_manager.specs.Kept.{seen_as}
use Rattle.cv_manager.proofs.Sizes.{few_candidates}
use Rattle.cv_manager.proofs.Opening.{beginnings_text, learned_text, opened_now}
use Rattle.cv_runs.specs.Invariants.{point_of}
use Rattle.cv_runs.specs.Learned.{learned}
use Rattle.cv_runs.specs.Text.{beginnings}
use Rattle.cv_manager.proofs.kept.Kept.opened.Goals as goal

pub open_case-requires-clause-points : goal.open_case-requires-clause-points
open_case-requires-clause-points c =
    let k = c.args.self.now in
    let all = λ (text : Picture) (ks : List Invariant). list_all (λ (i : Invariant). is_point text (point_of i)) ks in
    let before = observed k.plan k.journal in
    ap (all k.map) (c.as_slice.ensures ∙ c.in_ok-learned.ensures before c.requires.kept.learned)
    ∙ ap (λ (t : Picture). all t (learned k.summary.text before)) (c.requires.kept.text ∙ sym c.requires.kept.summary)
    ∙ c.learned_are_at_points.ensures k.summary.text before c.requires.kept.learned.at_points

pub returns-clause-opened : goal.returns-clause-opened
returns-clause-opened c =
    let k = c.args.self.now in
    let e = c.args.entry.now in
    let before = observed k.plan k.journal in
    let room : length k.cases.items < 64 = omega arith in
    opened_now k.plan k.cases.items (seen_as k e) k.journal c.in-Some.id c.in_ok-case.case
    (sym c.in-Some.ensures)
    (sym c.has_case.ensures ∙ c.if-has_case.false)
    room
    c.in_ok-case.ensures.id
    (c.in_ok-case.ensures.opened ∙ c.len-2.ensures.count)
    (c.in_ok-case.ensures.candidates
    ∙ ap (λ (t : Picture). candidates_at (beginnings t) c.as_slice.result.now e.sites) c.requires.kept.text
    ∙ ap (λ (starts : List _). candidates_at starts c.as_slice.result.now e.sites) (beginnings_text k.plan.image)
    ∙ ap (λ (ks : List Invariant). candidates_at (beginnings k.plan.image) ks e.sites)
    (c.as_slice.ensures
    ∙ c.in_ok-learned.ensures before c.requires.kept.learned
    ∙ ap (λ (t : Picture). learned t before) c.requires.kept.summary
    ∙ learned_text k.plan.image before))

pub returns-clause-each : goal.returns-clause-each
returns-clause-each c =
    let k = c.args.self.now in
    let before = observed k.plan k.journal in (
      record {
        kinds = c.in_ok-case.ensures.kinds (ap (list_all is_invariant) (c.as_slice.ensures ∙ c.in_ok-learned.ensures before c.requires.kept.learned) ∙ c.learned_are_invariants.ensures k.summary.text before);
        points = ap (λ (t : Picture). list_all (λ (i : Invariant). is_point t (point_of i)) c.in_ok-case.case.candidates) (sym c.requires.kept.text) ∙ c.in_ok-case.ensures.points;
        few = rw c.in_ok-case.ensures.candidates (few_candidates (beginnings k.map) c.as_slice.result.now c.args.entry.now.sites);
      },
      tt,
    )
