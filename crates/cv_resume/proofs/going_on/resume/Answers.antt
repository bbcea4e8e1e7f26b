use Rattle.std.proofs.Common.{◌≡◌, ◌∙◌, ℕ, ◌≤◌, ◌^◌, List, Ok, length, refl, sym, ap, subst, ⊎_elim, arith}
use Rattle.std.proofs.lemmas.Bool.{cases_lt}
use Rattle.cv_base.specs.PlanOf.{PlanOf}
use Rattle.cv_histories.specs.Legal.{IsLegal}
use Rattle.cv_keep.specs.Keeping.{IsSettled}
use Rattle.cv_keep.specs.declared.errors.KeepEnd.TheVariants.{Kept, TooLong}
use Rattle.cv_resume.proofs.Growing.{kept_more, kept_none, leaves_more}
use Rattle.cv_resume.proofs.Rounds.{whole_up_to}
use Rattle.cv_resume.specs.Resumed.{HasKept, IsPieceOf}
use Rattle.cv_resume.proofs.going_on.resume.Goals as goal

pub loop-next-init : goal.loop-next-init
loop-next-init g c = record {
  of_plan = refl;
  up_to = c.requires.up_to;
  legal = c.manager-legal.ensures.legal;
  settled = c.requires.settled;
  kept = kept_none g.D.Disk.means g.met.D.Disk.only_now c.args.book.plan c.args.round c.args.book.past c.args.disk.now c.args.keep.now c.requires.settled;
  faults = omega arith;
}

pub returns-in_err-keep-clause-images : goal.returns-in_err-keep-clause-images
returns-in_err-keep-clause-images g c =
    let loop = c.loop-next in
    let plan = c.args.book.plan in
    let after = c.in_ok-more.more.past in
    let piece = c.as_slice.result.now in
    let legal : IsLegal plan after = subst (λ (p : PlanOf). IsLegal p after) loop.invariant.of_plan c.in_ok-more.ensures.legal in
    let its : IsPieceOf plan loop.next loop.book.past after c.in_ok-more.piece = subst (λ (p : PlanOf). IsPieceOf p loop.next loop.book.past after c.in_ok-more.piece) loop.invariant.of_plan c.in_ok-more.ensures.piece in
    let is : IsPieceOf plan loop.next loop.book.past after piece = subst (λ (l : List ℕ). IsPieceOf plan loop.next loop.book.past after l) (sym c.as_slice.ensures) its in
    let failed = c.in_err-keep.was in
    let short : length piece ≤ 2 ^ 28 = ⊎_elim (λ long. let told = c.keep.ensures.too_long.1 long in absurd cc) (λ low. low) (cases_lt (2 ^ 28) (length piece)) in
    leaves_more g.D.Disk.means plan c.args.round loop.next c.args.book.past loop.book.past after c.args.disk.now loop.disk c.keep.new.disk piece legal loop.invariant.kept is short c.keep.ensures.images

pub returns-in-TooLong-clause-settled : goal.returns-in-TooLong-clause-settled
returns-in-TooLong-clause-settled g c =
    let M = g.D.Disk.means in
    let was = c.in_ok-keep.was in
    let is = c.in-TooLong.is in
    let told : c.keep.result ≡ Ok TooLong = cc in
    let same = c.keep.ensures.unwritten (c.keep.ensures.too_long.0 told) in
    subst (λ (k : ℕ). IsSettled M c.keep.new.disk k) (sym same.1) (subst (λ (d : g.row.D.Denot). IsSettled M d c.loop-next.keep) (sym same.0) c.loop-next.invariant.settled)

pub loop-next-preserved : goal.loop-next-preserved
loop-next-preserved g c =
    let M = g.D.Disk.means in
    let loop = c.loop-next in
    let plan = c.args.book.plan in
    let after = c.in_ok-more.more.past in
    let piece = c.as_slice.result.now in
    let legal : IsLegal plan after = subst (λ (p : PlanOf). IsLegal p after) loop.invariant.of_plan c.in_ok-more.ensures.legal in
    let its : IsPieceOf plan loop.next loop.book.past after c.in_ok-more.piece = subst (λ (p : PlanOf). IsPieceOf p loop.next loop.book.past after c.in_ok-more.piece) loop.invariant.of_plan c.in_ok-more.ensures.piece in
    let is : IsPieceOf plan loop.next loop.book.past after piece = subst (λ (l : List ℕ). IsPieceOf plan loop.next loop.book.past after l) (sym c.as_slice.ensures) its in
    let was = c.in_ok-keep.was in
    let end = c.in-Kept.is in
    let told : c.keep.result ≡ Ok Kept = cc in
    let short : length piece ≤ 2 ^ 28 = ⊎_elim (λ long. let other = c.keep.ensures.too_long.1 long in absurd cc) (λ low. low) (cases_lt (2 ^ 28) (length piece)) in
    record {
      of_plan = c.in_ok-more.ensures.plan ∙ loop.invariant.of_plan;
      up_to = is.up_to;
      legal = legal;
      settled = c.keep.ensures.kept told;
      kept = kept_more M plan c.args.round loop.next c.args.book.past loop.book.past after c.args.disk.now loop.disk c.keep.new.disk piece loop.invariant.kept is short (c.keep.ensures.pieces told) c.keep.ensures.images;
      faults = omega (arith, loop.invariant.faults, c.keep.ensures.cause.later);
    }

pub returns-clause-resumed : goal.returns-clause-resumed
returns-clause-resumed g c =
    let loop = c.loop-next in
    let plan = c.args.book.plan in
    let last : c.rounds_of-next-end.result ≡ length plan.rounds = c.rounds_of-next-end.ensures ∙ ap (λ (p : PlanOf). length p.rounds) c.plan.ensures in
    let all : loop.next ≡ length plan.rounds = omega (arith, last, c.requires.within, c.loop-next-test.false, loop.auto.next-end) in
    record {
      of_plan = loop.invariant.of_plan;
      legal = loop.invariant.legal;
      whole = whole_up_to plan loop.book.past loop.next (omega (arith, all)) loop.invariant.up_to;
      kept = subst (λ (n : ℕ). HasKept g.D.Disk.means plan c.args.round n c.args.book.past loop.book.past c.args.disk.now loop.disk) all loop.invariant.kept;
    }
