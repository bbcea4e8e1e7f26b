use Rattle.std.proofs.Common.{◌≡◌, ◌∙◌, sym, ap, length, length-append, length-take, length-drop, arith}
use Rattle.std.proofs.lemmas.List.{length-replicate}
use Rattle.cv_mem.specs.Memory.{memory_of}
use Rattle.cv_mem.specs.SpaceOf.{memory_size}
use Rattle.cv_mem.proofs.Kept.{given_back}
use Rattle.cv_mem.proofs.SegmentsPlaced.{regions_low}
use Rattle.cv_mem.proofs.Within.{memory_size-is}
use Rattle.cv_mem.proofs.space.Space.make.Goals as goal
use Rattle.cv_mem.proofs.space.Space.make.Goals.{After-deref_mut}

long : (c : After-deref_mut) → length c.deref_mut.result.now ≡ memory_size
long c = rw (c.deref_mut.ensures.value, c.in_ok-bytes.ensures) (length-replicate c.size.result 0 ∙ c.size.ensures)

pub write_segments-requires-clause-room : goal.write_segments-requires-clause-room
write_segments-requires-clause-room c =
    let e = long ((goal.at.write_segments-requires-clause-room c).After-deref_mut) in
    omega (arith, memory_size-is)

pub invariant_of-result : goal.invariant_of-result
invariant_of-result c = (
  record {
    whole =
        let e = long ((goal.at.invariant_of-result c).After-deref_mut) in
        simp (length-take, length-append, length-drop) (omega (arith, c.in_ok-bytes.bytes.ok.0));
    low = rw c.in_ok-regions.ensures (regions_low c.as_slice-segments.result.now (rw c.as_slice-segments.ensures c.image.invariant.placed));
  },
  record {
    pages = c.in_ok-written.ensures.length;
    same = λ a h.
        let e = long ((goal.at.invariant_of-result c).After-deref_mut) in
        let f : length c.in_ok-bytes.bytes.items ≡ memory_size = rw c.in_ok-bytes.ensures (length-replicate c.size.result 0 ∙ c.size.ensures) in
        let whole : c.in_ok-bytes.bytes.len ≡ length c.write_segments.new.bytes = omega (arith, c.in_ok-bytes.bytes.ok.0) in
        ap (λ xs. memory_of xs a) (given_back c.in_ok-bytes.bytes.len c.write_segments.new.bytes _ whole)
        ∙ ap (λ m. m a) c.write_segments.ensures
        ∙ sym (ap (λ m. m a) c.in_ok-start.ensures);
  },
)
