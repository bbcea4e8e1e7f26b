use Rattle.std.proofs.Common.{◌≡◌, ◌<◌, ◌∙◌, length, get_or, ap, sym, arith}
use Rattle.std.proofs.lemmas.List.{get_or_read}
use Rattle.cv_patch.specs.Indexing.{Finds, slot_at}
use Rattle.cv_patch.proofs.indexed.Indexed.next_after.Goals as goal

pub returns : goal.returns
returns c =
    let low : c.args.at < length c.self.inside.table.value = rw (← c.self.view_is) at c.requires in
    let fits : c.args.at < length c.self.inside.next.items = rw c.self.invariant.places low in
    let read = get_or_read c.self.inside.next.items c.args.at _ fits c.index.ensures 0 in
    λ none. rw (← c.self.view_is, read) (c.self.invariant.next_is c.args.at none (omega arith) low)
