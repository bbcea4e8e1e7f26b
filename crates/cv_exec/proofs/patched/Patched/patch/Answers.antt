use Rattle.std.proofs.Common.{◌≡◌, ◌∙◌, refl, ap}
use Rattle.cv_exec.specs.Keeping.{indexed_table, last_table, patches_left}
use Rattle.cv_exec.proofs.Patching.{fired_by, left_is, noted_by}
use Rattle.cv_machine.specs.Held.{state_of}
use Rattle.cv_patch.specs.Applied.{applied, left_at}
use Rattle.cv_runs.specs.Apply.{Left}
use Rattle.cv_shadow.specs.declared.frames.Core.{Core}
use Rattle.cv_exec.proofs.patched.Patched.patch.Goals as goal

left : (c : goal.After-machine-1) → left_at c.args.self.now.text (indexed_table c.args.self.now.index) c.core_mut.result.now ≡ patches_left c.args.machine.now.image (last_table c.args.self.now.spans.items) (state_of c.args.machine.now)
left c =
    left_is c.args.machine.now.image c.args.self.now.text (indexed_table c.args.self.now.index) (last_table c.args.self.now.spans.items) c.core_mut.result.now c.args.machine.now
    c.requires.text c.requires.ready.index c.core_mut.ensures.value

pub returns-clause-core : goal.returns-clause-core
returns-clause-core c =
    ap (λ (core : Core). record c.args.machine.now { core = core }) (c.apply_with.ensures.core ∙ ap (λ (l : Left). l.core) (left c))

pub returns-clause-applied : goal.returns-clause-applied
returns-clause-applied c =
    c.apply_with.ensures.applied
    ∙ ap (λ (core : Core). applied core (left_at c.args.self.now.text (indexed_table c.args.self.now.index) c.core_mut.result.now)) c.core_mut.ensures.value
    ∙ ap (applied c.args.machine.now.core) (left c)

pub returns-clause-noted : goal.returns-clause-noted
returns-clause-noted c = record {
  text = refl;
  spans = refl;
  prepared = refl;
  index = refl;
  tally =
      noted_by c.args.machine.now.image c.args.self.now.text (indexed_table c.args.self.now.index) (last_table c.args.self.now.spans.items) c.core_mut.result.now c.args.machine.now c.args.self.now.tally c.apply_with.new.tally
      c.requires.text c.requires.ready.index c.core_mut.ensures.value c.apply_with.ensures.tally;
  fired =
      fired_by c.args.machine.now.image c.args.self.now.text (indexed_table c.args.self.now.index) (last_table c.args.self.now.spans.items) c.core_mut.result.now c.args.machine.now c.args.self.now.fired c.apply_with.new.fired
      c.requires.text c.requires.ready.index c.core_mut.ensures.value c.apply_with.ensures.fired;
}
