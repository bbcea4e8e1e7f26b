use Rattle.cv_worker.proofs.Seating.{all_done, all_of_setting, all_ready}
use Rattle.cv_worker.proofs.all_rounds.close.Goals as goal

-- src/all_rounds.rt
pub run_each-requires-clause-ready : goal.run_each-requires-clause-ready
run_each-requires-clause-ready g c κs within = all_ready c.requires.new.0 c.args.plan.now c.args.round c.args.passes.items c.in_ok-instances.instances.items c.requires.new.1 c.in_ok-instances.ensures

pub close-requires : goal.close-requires
close-requires g c =
    let s = c.requires.new.0 in
    let start = c.requires.new.1 in
    let vs = c.args.passes.items in
    let is = c.in_ok-instances.instances.items in
    record {
      done = (
        s,
        all_done s c.args.plan.now c.args.round vs is c.in_ok-ended.ended.items c.in_ok-passes.passes.items start c.limits.ensures.some_worker c.in_ok-instances.ensures c.in_ok-ended.ensures.count
            (c.in_ok-ended.ensures.end s (all_of_setting s c.args.plan.now c.args.round vs is start c.in_ok-instances.ensures)) c.in_ok-passes.ensures,
      );
    }

pub returns : goal.returns
returns g c = λ s start.
    let vs = c.args.passes.items in
    let is = c.in_ok-instances.instances.items in
    c.close.ensures s
    (all_done s c.args.plan.now c.args.round vs is c.in_ok-ended.ended.items c.in_ok-passes.passes.items start c.limits.ensures.some_worker c.in_ok-instances.ensures c.in_ok-ended.ensures.count
    (c.in_ok-ended.ensures.end s (all_of_setting s c.args.plan.now c.args.round vs is start c.in_ok-instances.ensures)) c.in_ok-passes.ensures)
