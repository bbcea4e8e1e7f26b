use Rattle.std.proofs.Common.{length, ap, subst, sym, arith}
use Rattle.cv_histories.specs.Seen.{last_version}
use Rattle.cv_manager.specs.Journal.{EnforcesOne}
use Rattle.cv_manager.specs.Kept.{past_of}
use Rattle.cv_manager.proofs.Committing.{few_makers, kept_with_none, kept_with_one, learned_now, text_now}
use Rattle.cv_manager.proofs.One.{enforces_one}
use Rattle.cv_manager.proofs.kept.Kept.commit.Goals as goal

pub push-requires-clause-one : goal.push-requires-clause-one
push-requires-clause-one c =
    subst EnforcesOne (sym c.requires.next.last) (enforces_one c.args.self.now.plan (past_of c.args.self.now) (last_version c.args.entry.adopted))

pub returns-in_err-version-clause-kept : goal.returns-in_err-version-clause-kept
returns-in_err-version-clause-kept c =
    let k = c.args.self.now in
    let s = c.learn_from.new.learned in
    let text = text_now k c.requires.kept c.args.entry c.args.summary.now c.requires.may s c.learn_from.ensures.text in
    let learned = learned_now k c.requires.kept c.args.entry c.args.summary.now c.requires.may s c.learn_from.ensures.learned in
    kept_with_none k c.requires.kept c.args.entry c.args.next c.requires.next c.add_opened.new.cases c.add_opened.ensures.items c.add_opened.ensures.room
    c.push.new.self c.push.ensures s text learned c.in_err-version.was

pub unwrap-requires-2 : goal.unwrap-requires-2
unwrap-requires-2 c =
    let k = c.args.self.now in
    c.push-3.ensures.succeeds
    (omega (arith, k.makers.ok, few_makers k.plan (past_of k), ap length c.requires.kept.makers, c.requires.kept.room_for_makers, c.requires.room))

pub returns-clause-kept : goal.returns-clause-kept
returns-clause-kept c =
    let k = c.args.self.now in
    let s = c.learn_from.new.learned in
    let text = text_now k c.requires.kept c.args.entry c.args.summary.now c.requires.may s c.learn_from.ensures.text in
    let learned = learned_now k c.requires.kept c.args.entry c.args.summary.now c.requires.may s c.learn_from.ensures.learned in
    kept_with_one k c.requires.kept c.args.entry c.args.next c.requires.next c.add_opened.new.cases c.add_opened.ensures.items c.add_opened.ensures.room
    c.push.new.self c.push.ensures s text learned
    c.in_ok-version.version c.push-2.new.self c.push-3.new.self c.in_ok-version.was
    (rw c.unwrap.ensures at c.push-2.ensures.items)
    (rw (c.unwrap-2.ensures, c.len-number.ensures.count) at c.push-3.ensures.items)
    c.push-2.ensures.capacity c.push-3.ensures.capacity
