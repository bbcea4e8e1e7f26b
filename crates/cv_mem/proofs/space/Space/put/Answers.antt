use Rattle.std.proofs.Common.{◌≡◌, length, sym, refl, ap, arith}
use Rattle.cv_mem.specs.SpaceOf.{memory_size}
use Rattle.cv_mem.proofs.Kept.{put_kept, given_back, space_kept, mark_within}
use Rattle.cv_mem.proofs.Within.{some_size, store_within}
use Rattle.cv_mem.proofs.space.Space.put.Goals as goal

pub mark-requires : goal.mark-requires
mark-requires c =
    mark_within c.self.inside.bytes.items c.self.inside.written.items c.as_mut_slice.result.now c.args.addr c.args.size (some_size c.args.size c.requires.sized) (store_within _ c.args.self.now c.args.addr c.args.size c.self.inside.bytes.items c.self.view_is c.self.invariant.0 c.requires.sized (sym c.requires.allowed) refl) c.self.invariant.0.whole c.self.invariant.1.pages c.as_mut_slice.ensures.value

pub put_number-requires-clause-within : goal.put_number-requires-clause-within
put_number-requires-clause-within c =
    store_within _ c.args.self.now c.args.addr c.args.size c.as_mut_slice-2.result.now c.self.view_is c.self.invariant.0 c.requires.sized (sym c.requires.allowed) c.as_mut_slice-2.ensures.value

pub invariant_of-self : goal.invariant_of-self
invariant_of-self c =
    let bytes : c.self.inside.bytes.len ≡ length c.put_number.new.bytes = omega (arith, c.self.inside.bytes.ok.0, ap length c.as_mut_slice-2.ensures.value) in
    let marks : c.self.inside.written.len ≡ length c.mark.new.written = omega (arith, c.self.inside.written.ok.0, ap length c.as_mut_slice.ensures.value) in
    let same : length c.mark.new.written ≡ length c.as_mut_slice.result.now = omega arith in
    let whole : length c.put_number.new.bytes ≡ memory_size = omega (arith, c.self.invariant.0.whole, ap length c.as_mut_slice-2.ensures.value) in
    space_kept c.put_number.new.bytes _ c.self.inside.start.items c.mark.new.written _ c.self.inside.regions (given_back _ _ _ bytes) (given_back _ _ _ marks) whole c.self.invariant.0.low
    (put_kept _ _ _ _ _ _ _ c.args.self.now.regions c.args.addr c.args.size c.args.value c.as_mut_slice-2.ensures.value c.as_mut_slice.ensures.value c.requires.sized c.requires.allowed c.put_number.ensures c.mark.ensures.covers c.mark.ensures.others same c.self.invariant.1)
