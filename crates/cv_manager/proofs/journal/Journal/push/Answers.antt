use Rattle.std.proofs.Common.{◌≡◌, ◌++◌, ◌∷◌, [], ◌∙◌, sym, ap, length, map, arith}
use Rattle.std.proofs.lemmas.List.{length-append, length-map, map-append}
use Rattle.std.specs.Arc.{arc_value}
use Rattle.cv_manager.specs.Journal.{seen_of}
use Rattle.cv_manager.proofs.Pairing.{length_seen, one_push, seen_push}
use Rattle.cv_manager.proofs.journal.Journal.push.Goals as goal

pub unwrap-requires : goal.unwrap-requires
unwrap-requires c =
    let same = ap length (sym c.self.view_is) ∙ length_seen _ _ c.self.invariant.each in
    c.push.ensures.succeeds (omega (arith, c.self.inside.entries.ok))

pub unwrap-requires-2 : goal.unwrap-requires-2
unwrap-requires-2 c =
    let same = ap length (sym c.self.view_is) ∙ length_seen _ _ c.self.invariant.each in
    let each = sym (length-map c.self.inside.lasts.items arc_value) ∙ c.self.invariant.each in
    c.push-2.ensures.succeeds (omega (arith, c.self.inside.lasts.ok))

module _ (c : goal.After-unwrap-2) where
  entries_new : c.push.new.self.items ≡ c.self.inside.entries.items ++ c.args.entry ∷ []
  entries_new = rw c.unwrap.ensures at c.push.ensures.items

  lasts_new : map arc_value c.push-2.new.self.items ≡ map arc_value c.self.inside.lasts.items ++ c.args.last.value ∷ []
  lasts_new = ap (map arc_value) (rw c.unwrap-2.ensures at c.push-2.ensures.items) ∙ map-append arc_value c.self.inside.lasts.items (c.args.last ∷ [])

pub invariant_of-self : goal.invariant_of-self
invariant_of-self c =
    let same = ap length (sym c.self.view_is) ∙ length_seen _ _ c.self.invariant.each in
    let entries = ap length (entries_new c) in
    let lasts = ap length (lasts_new c) in
    record {
      each = omega (arith, c.self.invariant.each, simp length-append at entries, simp length-append at lasts);
      one = rw (lasts_new c) (one_push _ _ c.self.invariant.one c.requires.one);
      few = omega (arith, simp length-append at entries);
      room_for_entries = omega (arith, c.push.ensures.capacity);
      room_for_lasts = omega (arith, c.push-2.ensures.capacity);
    }

pub returns : goal.returns
returns c =
    ap (λ es. seen_of es (map arc_value c.push-2.new.self.items)) (entries_new c)
    ∙ ap (seen_of (c.self.inside.entries.items ++ c.args.entry ∷ [])) (lasts_new c)
    ∙ seen_push _ _ c.self.invariant.each c.args.entry c.args.last.value
    ∙ ap (λ past. record { entry = c.args.entry; last = c.args.last.value } ∷ past) c.self.view_is
