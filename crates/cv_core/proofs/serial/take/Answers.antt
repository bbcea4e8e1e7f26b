use Rattle.cv_core.proofs.serial.take.Goals as goal

pub post-requires-clause-follows : goal.post-requires-clause-follows
post-requires-clause-follows c =
    c.next_may_follow.ensures c.args.book.now.plan c.args.run c.args.book.now.past c.in_ok-record.record.entry c.requires.limits c.requires.below c.in_ok-record.ensures.next
