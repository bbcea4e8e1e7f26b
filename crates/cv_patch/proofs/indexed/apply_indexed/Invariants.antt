use Rattle.std.proofs.Common.{◌≡◌, ◌<◌, ◌-◌, drop, length}
use Rattle.cv_base.specs.declared.patches.Patch.{Patch}
use Rattle.cv_base.specs.Points.{is_point_in}
use Rattle.cv_patch.specs.Indexing.{slot_at, slot_of}
use Rattle.cv_patch.proofs.InOrder.{Comes}
use Rattle.cv_patch.proofs.indexed.apply_indexed.Given as goal

abbrev pub invariant-loop-at : goal.invariant-loop-at
invariant-loop-at l = record {
  comes : Comes (is_point_in l.text.base l.text.count) l.pc l.table l.fn.core l.fn.tally l.fn.fired (drop l.at l.patches) l.core l.tally l.fired;
  place : (none : Patch) → l.at < length l.patches → slot_at l.patches l.at none ≡ slot_of l.pc;
}

abbrev pub decreases-loop-at : goal.decreases-loop-at
decreases-loop-at l = length l.patches - l.at
