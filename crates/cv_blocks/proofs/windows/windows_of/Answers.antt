use Rattle.std.proofs.Common.{◌≡◌, ◌+◌, ◌*◌, [], ◌∷◌, ◌++◌, arith, rules}
use Rattle.cv_blocks.proofs.WindowSets.{windows_more}
use Rattle.cv_blocks.proofs.windows.windows_of.Goals as goal

pub loop-k-preserved : goal.loop-k-preserved
loop-k-preserved c =
    let items : c.push.new.self.items ≡ c.loop-k.sets.items ++ c.window_of.result ∷ [] = search rules in
    let image = c.args.listing.now in
    let point : c.base-base.result + 4 * c.loop-k.k ≡ image.text_base + 4 * c.loop-k.k = omega (arith, c.base-base.ensures.value) in
    rw items (windows_more image c.loop-k.k _ c.loop-k.sets.items c.window_of.result point c.loop-k.invariant c.window_of.ensures)
