use Rattle.std.proofs.Common.{◌≡◌, arith}
use Rattle.std.proofs.lemmas.Bool.Decides.{nat_tests}
use Rattle.cv_mem.proofs.BytesAt.{put_one, put_two, put_four}
use Rattle.cv_mem.proofs.bytes.put_number.Goals as goal

pub returns-then-size-eq1 : goal.returns-then-size-eq1
returns-then-size-eq1 c =
    let e : c.args.size ≡ 1 = omega arith in
    rw e (put_one c.args.bytes.now c.to_le_bytes.result c.args.at c.args.value c.to_le_bytes.ensures (omega arith))

pub returns-then-size-eq2 : goal.returns-then-size-eq2
returns-then-size-eq2 c =
    let e : c.args.size ≡ 2 = omega arith in
    rw e (put_two c.args.bytes.now c.to_le_bytes.result c.args.at c.args.value c.to_le_bytes.ensures (omega arith))

pub returns : goal.returns
returns c =
    let e : c.args.size ≡ 4 = grind (arith, nat_tests) in
    rw e (put_four c.args.bytes.now c.to_le_bytes.result c.args.at c.args.value c.to_le_bytes.ensures (omega arith))
