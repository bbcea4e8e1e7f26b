use Rattle.std.proofs.Common.{◌≡◌, ◌∙◌, true, false, refl, sym, arith}
use Rattle.cv_machine.specs.Held.{state_of}
use Rattle.cv_machine.specs.declared.quick.Quick.TheVariants.{On, Jump}
use Rattle.cv_machine.proofs.Leading.{quick_more, stretched}
use Rattle.cv_machine.proofs.machine.Machine.quick_turns.Goals.{in-On, in-Jump}
use Rattle.cv_machine.proofs.machine.Machine.quick_turns.Goals as goal

pub returns-in-Jump-2-clause-turns : goal.returns-in-Jump-2-clause-turns
returns-in-Jump-2-clause-turns c =
    rw c.stand_at.ensures.state
    (quick_more c.args.self.now.image c.turns.turns (state_of c.args.self.now) c.turns.self c.quick.new.self c.turns.at c.in-Jump.next (Jump c.in-Jump.next) c.turns.invariant.image c.turns.invariant.leads c.in-Jump.ensures.turn refl)

pub returns-in-Jump-2-clause-stretch : goal.returns-in-Jump-2-clause-stretch
returns-in-Jump-2-clause-stretch c = λ near.
    rw c.stand_at.ensures.state
    (stretched c.args.self.now.image c.turns.turns (state_of c.args.self.now) c.turns.self c.quick.new.self c.turns.at c.in-Jump.next true c.turns.invariant.image (c.turns.invariant.straight near) c.in-Jump.ensures.turn)

pub turns-preserved : goal.turns-preserved
turns-preserved c =
    let same = c.turns.invariant.image in
    elim c.match-quick.branch [
      | in-On w ↦ rw w.at-is (record {
        image = c.quick.ensures.image ∙ same;
        place = w.in-On.ensures.place;
        within = omega arith;
        leads = quick_more c.args.self.now.image c.turns.turns (state_of c.args.self.now) c.turns.self c.quick.new.self c.turns.at w.in-On.next (On w.in-On.next) same c.turns.invariant.leads w.in-On.ensures.turn refl;
        straight = λ near. stretched c.args.self.now.image c.turns.turns (state_of c.args.self.now) c.turns.self c.quick.new.self c.turns.at w.in-On.next false same (c.turns.invariant.straight near) w.in-On.ensures.turn;
      })
      | in-Jump w ↦ rw w.at-is (record {
        image = c.quick.ensures.image ∙ same;
        place = w.in-Jump.ensures.place;
        within = omega arith;
        leads = quick_more c.args.self.now.image c.turns.turns (state_of c.args.self.now) c.turns.self c.quick.new.self c.turns.at w.in-Jump.next (Jump w.in-Jump.next) same c.turns.invariant.leads w.in-Jump.ensures.turn refl;
        straight = λ near. let no : false ≡ true = sym near ∙ w.if-far.true in cc;
      })
    ]
