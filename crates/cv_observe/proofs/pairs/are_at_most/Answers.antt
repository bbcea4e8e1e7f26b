use Rattle.std.proofs.Common.{◌≡◌, ℕ, Bool, true, false, ◌∙◌, refl, sym, ap}
use Rattle.cv_base.specs.Registers.{register}
use Rattle.cv_runs.specs.Invariants.{signed_le}
use Rattle.cv_observe.proofs.OneOut.{narrowed_with, narrowed_all}
use Rattle.cv_observe.proofs.pairs.are_at_most.Goals as goal

pub loop-b-preserved : goal.loop-b-preserved
loop-b-preserved c =
    let test : ℕ → Bool = λ b. signed_le (register c.args.regs.now b) c.args.value in
    let passes : test c.in-Some.b ≡ true = ap (λ v. signed_le v c.args.value) (sym c.get.ensures) ∙ sym c.is_at_most.ensures ∙ c.if-not-is_at_most.false in
    narrowed_with c.args.set test c.loop-b.left c.without-left.result c.args.set c.in-Some.b c.without-left.ensures.others passes c.loop-b.invariant

pub returns : goal.returns
returns c all =
    narrowed_all c.args.set (λ b. signed_le (register c.args.regs.now b) c.args.value) c.loop-b.left c.args.set (c.in_default.ensures.none refl) c.loop-b.invariant
