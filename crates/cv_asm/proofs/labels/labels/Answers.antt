use Rattle.std.proofs.Common.{◌≡◌, ℕ, ◌+◌, ◌<◌, Bool, cond, List, [], length, nat_lt, get_or, take, ap, arith}
use Rattle.std.specs.Borrow.{Bor}
use Rattle.cv_asm.specs.Labels.{read_lines}
use Rattle.cv_asm.specs.Lines.{instructions, line_of}
use Rattle.cv_asm.proofs.FirstDefinitions.{instructions_more, more_labels, same_read}
use Rattle.cv_asm.proofs.labels.labels.Goals as goal
use Rattle.cv_asm.proofs.labels.labels.Goals.{then-branch, else-branch}

abbrev if_so : Bool → ℕ
if_so b = cond b 1 0

pub loop-i-preserved : goal.loop-i-preserved
loop-i-preserved c =
    let d : Bor (List ℕ) = record { ref_ptr = (0, 0); now = [] } in
    let line : Bor (List ℕ) = get_or c.args.lines.now c.loop-i.i d in
    let within : c.loop-i.i < length c.args.lines.now = omega arith in
    let read : line ≡ get_or c.args.lines.now c.loop-i.i line = same_read c.args.lines.now c.loop-i.i d line within in
    let known = more_labels c.args.lines.now c.loop-i.i c.loop-i.before line c.loop-i.labels c.define_line.new.labels within read c.loop-i.invariant.known c.loop-i.invariant.counted c.in_ok-define_line.ensures.put in
    let more : instructions (read_lines (take (c.loop-i.i + 1) c.args.lines.now)) ≡ instructions (read_lines (take c.loop-i.i c.args.lines.now)) + cond (nat_lt 0 (length (line_of line.now).code)) 1 0 = instructions_more c.args.lines.now c.loop-i.i line within read in
    let code : ◌≡◌ {A = ℕ} (cond c.in_ok-define_line.field-0 1 0) (cond (nat_lt 0 (length (line_of line.now).code)) 1 0) = ap if_so c.in_ok-define_line.ensures.code in
    elim c.if-branch.branch [
      | then-branch w ↦ record { known = known; counted = omega (arith, more, code, c.loop-i.invariant.counted, w.before-is, ap if_so w.if-branch.true); few = omega (arith, c.loop-i.invariant.few, w.before-is) }
      | else-branch w ↦ record { known = known; counted = omega (arith, more, code, c.loop-i.invariant.counted, w.before-is, ap if_so w.if-branch.false); few = omega (arith, c.loop-i.invariant.few, w.before-is) }
    ]
