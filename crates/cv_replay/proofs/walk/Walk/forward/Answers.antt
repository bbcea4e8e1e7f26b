use Rattle.std.proofs.Common.{◌≡◌, ◌+◌, ℕ, ap, refl, sym, subst, ◌∙◌}
use Rattle.std.specs.Prelude.{option_map, slice_get, slice_index}
use Rattle.cv_base.specs.PlanOf.{PlanOf}
use Rattle.cv_replay.specs.Changed.{AreSince, cell_after}
use Rattle.cv_replay.specs.Script.{steps_by_script}
use Rattle.cv_replay.specs.Standing.{plan_of, turn_of}
use Rattle.cv_replay.proofs.LastChange.{regs_at, since_more}
use Rattle.cv_replay.proofs.walk.Walk.forward.Goals as goal

pub returns-clause-at : goal.returns-clause-at
returns-clause-at c =
    let script = c.args.script.now in
    let old = c.args.self.now in
    let new = c.forward.new.self in
    let at = turn_of old.stand in
    let told = c.in_ok-forward.ensures in
    let before = c.core.result.now.regs in
    let after = c.core-2.result.now.regs in
    let next : c.turn.result ≡ at + 1 = c.turn.ensures ∙ told.turn in
    let since =
    since_more (steps_by_script (plan_of old) script) at before after old.changes.cells c.note.new.self.cells
    (regs_at script (plan_of old) at old.stand c.machine.result.now c.core.result.now refl refl c.machine.ensures c.core.ensures)
    (regs_at script (plan_of old) (at + 1) new c.machine-2.result.now c.core-2.result.now c.forward.ensures.plan told.turn c.machine-2.ensures c.core-2.ensures)
    (λ reg below. c.note.ensures.each reg below ∙ ap (λ (n : ℕ). option_map (cell_after (slice_index before reg) (slice_index after reg) n) (slice_get old.changes.cells reg)) next)
    c.note.ensures.all c.requires.at.since in
    record {
      at = told.at;
      since =
          subst (λ (n : ℕ). AreSince (steps_by_script new.flight.plan script) n c.note.new.self.cells) (sym told.turn)
          (subst (λ (p : PlanOf). AreSince (steps_by_script p script) (at + 1) c.note.new.self.cells) (sym c.forward.ensures.plan) since);
    }
