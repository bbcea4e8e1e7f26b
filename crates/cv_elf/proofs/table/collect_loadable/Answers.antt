use Rattle.std.proofs.Common.{◌≡◌, ◌+◌, true, refl, arith, rules}
use Rattle.std.proofs.lemmas.Grind.{common_steps}
use Rattle.cv_elf.specs.Headers.{header_at, is_loadable}
use Rattle.cv_elf.proofs.TableSteps.{loadable_kept, left, more_than_64, moved_over}
use Rattle.cv_elf.proofs.table.collect_loadable.Goals as goal

pub returns-then-len-eq-MOST_SEGMENTS : goal.returns-then-len-eq-MOST_SEGMENTS
returns-then-len-eq-MOST_SEGMENTS c =
    let bytes = c.args.bytes.now in
    let place = c.loop-place.place in
    let is : is_loadable (header_at bytes place) ≡ true = search rules in
    let kept = loadable_kept bytes place c.from-count.result (omega arith) is in
    let whole = rw kept at c.loop-place.invariant.0 in
    (refl, more_than_64 c.loop-place.headers.items (left bytes (place + 1) c.from-count.result) _ (header_at bytes place) whole (search rules))

pub loop-place-preserved : goal.loop-place-preserved
loop-place-preserved c =
    let bytes = c.args.bytes.now in
    let place = c.loop-place.place in
    let is : is_loadable (header_at bytes place) ≡ true = search rules in
    let kept = loadable_kept bytes place c.from-count.result (omega arith) is in
    let whole = rw kept at c.loop-place.invariant.0 in
    (moved_over c.loop-place.headers.items _ (left bytes (place + 1) c.from-count.result) _ (header_at bytes place) whole (grind (arith, common_steps)), grind (arith, common_steps))
