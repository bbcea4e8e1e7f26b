use Rattle.std.proofs.Common.{◌≡◌, ◌<◌, ◌^◌, arith}
use Rattle.std.proofs.lemmas.Bool.Decides.{nat_tests}
use Rattle.std.proofs.lemmas.Nat.Bits.{bit_at_above}
use Rattle.std.specs.Int.{bit_at}
use Rattle.cv_repair.proofs.actions.is_in.Goals as goal

pub returns-else-reg-lt32 : goal.returns-else-reg-lt32
returns-else-reg-lt32 c =
    let small : c.args.set.bits < 2 ^ 32 = omega arith in
    let none : bit_at c.args.set.bits c.args.reg ≡ 0 = bit_at_above c.args.set.bits 32 c.args.reg small c.if-reg-lt32.false in
    grind (arith, nat_tests)
