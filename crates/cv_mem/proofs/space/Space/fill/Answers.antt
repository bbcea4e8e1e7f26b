use Rattle.std.proofs.Common.{◌≡◌, ◌<◌, length, refl, ap, arith}
use Rattle.std.proofs.lemmas.Bool.Decides.{nat_tests}
use Rattle.cv_mem.specs.declared.regions.Access.TheVariants.{Write}
use Rattle.cv_mem.specs.SpaceOf.{memory_size}
use Rattle.cv_mem.proofs.Kept.{fill_kept, given_back, space_kept, marks_within}
use Rattle.cv_mem.proofs.Within.{open_within, memory_size-is}
use Rattle.cv_mem.proofs.space.Space.fill.Goals as goal

pub mark_all-requires-clause-pages : goal.mark_all-requires-clause-pages
mark_all-requires-clause-pages c =
    let some : 0 < length c.args.bytes.now = grind (arith, nat_tests) in
    marks_within c.self.inside.bytes.items c.self.inside.written.items c.as_mut_slice.result.now c.args.addr (length c.args.bytes.now) (open_within Write _ c.args.self.now c.args.addr (length c.args.bytes.now) c.self.inside.bytes.items c.self.view_is c.self.invariant.0 some c.requires refl) c.self.invariant.0.whole c.self.invariant.1.pages c.as_mut_slice.ensures.value

pub mark_all-requires-clause-fits : goal.mark_all-requires-clause-fits
mark_all-requires-clause-fits c =
    let some : 0 < length c.args.bytes.now = grind (arith, nat_tests) in
    let within = open_within Write _ c.args.self.now c.args.addr (length c.args.bytes.now) c.self.inside.bytes.items c.self.view_is c.self.invariant.0 some c.requires refl in
    omega (arith, memory_size-is, within, c.self.invariant.0.whole)

pub write_at-requires : goal.write_at-requires
write_at-requires c =
    let some : 0 < length c.args.bytes.now = grind (arith, nat_tests) in
    open_within Write _ c.args.self.now c.args.addr (length c.args.bytes.now) c.as_mut_slice-then-not-is_empty.result.now c.self.view_is c.self.invariant.0 some c.requires c.as_mut_slice-then-not-is_empty.ensures.value

pub invariant_of-self : goal.invariant_of-self
invariant_of-self c =
    let bytes : c.self.inside.bytes.len ≡ length c.write_at.new.bytes = omega (arith, c.self.inside.bytes.ok.0, ap length c.as_mut_slice-then-not-is_empty.ensures.value) in
    let marks : c.self.inside.written.len ≡ length c.mark_all.new.written = omega (arith, c.self.inside.written.ok.0, ap length c.as_mut_slice.ensures.value) in
    let same : length c.mark_all.new.written ≡ length c.as_mut_slice.result.now = omega arith in
    let whole : length c.write_at.new.bytes ≡ memory_size = omega (arith, c.self.invariant.0.whole, ap length c.as_mut_slice-then-not-is_empty.ensures.value) in
    space_kept c.write_at.new.bytes _ c.self.inside.start.items c.mark_all.new.written _ c.self.inside.regions (given_back _ _ _ bytes) (given_back _ _ _ marks) whole c.self.invariant.0.low
    (fill_kept _ _ _ _ c.args.bytes.now _ _ _ c.args.addr c.as_mut_slice-then-not-is_empty.ensures.value c.as_mut_slice.ensures.value c.write_at.ensures c.mark_all.ensures.covers c.mark_all.ensures.others same c.self.invariant.1)
