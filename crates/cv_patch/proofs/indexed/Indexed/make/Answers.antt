use Rattle.std.proofs.Common.{◌≡◌, ◌∙◌, ℕ, List, length, ap, subst}
use Rattle.cv_base.specs.declared.patches.Patch.{Patch}
use Rattle.cv_patch.specs.Indexing.{AllEmpty, FindsFirst, FindsNext}
use Rattle.cv_patch.proofs.indexed.Indexed.make.Goals as goal

pub invariant_of-result : goal.invariant_of-result
invariant_of-result c =
    let same : c.as_slice-patches.result.now ≡ c.args.table.value = c.as_slice-patches.ensures ∙ c.behind-table.view_is ∙ c.deref.ensures in
    let first = c.chain.new.first.items in
    record {
      slots = c.chain.ensures.slots;
      places = c.chain.ensures.places ∙ ap length same;
      frees = c.count_free.ensures.frees;
      first_is = subst (λ (items : List Patch). FindsFirst items first 0) same c.chain.ensures.first;
      next_is = subst (λ (items : List Patch). FindsNext items c.chain.new.next.items 0) same c.chain.ensures.next;
      free_is = subst (λ (items : List Patch). AllEmpty (length items) first c.count_free.new.free.items 0) same (subst (λ (l : List ℕ). AllEmpty (length c.as_slice-patches.result.now) l c.count_free.new.free.items 0) c.as_slice.ensures.value c.count_free.ensures.free);
    }
