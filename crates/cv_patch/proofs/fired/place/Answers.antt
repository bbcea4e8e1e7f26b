use Rattle.std.proofs.Common.{rules}
use Rattle.std.proofs.lemmas.Fn.{always_returns_same}
use Rattle.cv_base.specs.declared.entries.FiredRow.{FiredRow}
use Rattle.cv_patch.proofs.Ordered.{place_found}
use Rattle.cv_patch.proofs.fired.place.Goals as goal

pub returns : goal.returns
returns c =
    place_found (λ (r : FiredRow). r.case) (λ (r : FiredRow). r.index) _ _ _ _ c.requires c.binary_search_by_key.ensures.bound
    (c.binary_search_by_key.ensures.position (λ (r : FiredRow). (r.case, r.index)) (always_returns_same _ _ _ (λ a r f' k. search rules)))
