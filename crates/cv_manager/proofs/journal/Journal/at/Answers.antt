use Rattle.std.proofs.Common.{◌≡◌, ◌<◌, ◌∙◌, sym, ap, length, get_or, map, subst, arith}
use Rattle.std.proofs.lemmas.List.{get_or-map, length-map}
use Rattle.std.specs.Arc.{arc_value}
use Rattle.std.specs.Prelude.{reverse}
use Rattle.cv_histories.specs.Seen.{Seen}
use Rattle.cv_manager.specs.Journal.{EnforcesOne}
use Rattle.cv_manager.proofs.Pairing.{length_seen, one_at, seen_at}
use Rattle.cv_manager.proofs.journal.Journal.at.Goals as goal

pub index-requires : goal.index-requires
index-requires c =
    let same = ap length (sym c.self.view_is) ∙ length_seen _ _ c.self.invariant.each in
    omega (arith, c.self.inside.entries.ok)

pub index-requires-2 : goal.index-requires-2
index-requires-2 c =
    let same = ap length (sym c.self.view_is) ∙ length_seen _ _ c.self.invariant.each in
    let each = sym (length-map c.self.inside.lasts.items arc_value) ∙ c.self.invariant.each in
    omega (arith, c.self.inside.lasts.ok)

module _ (c : goal.After-deref) where
  within : c.args.place < length c.self.inside.entries.items
  within =
      let same = ap length (sym c.self.view_is) ∙ length_seen _ _ c.self.invariant.each in
      omega arith

  last_within : c.args.place < length c.self.inside.lasts.items
  last_within =
      let same = within in
      let each = sym (length-map c.self.inside.lasts.items arc_value) ∙ c.self.invariant.each in
      omega arith

  last_is : get_or (map arc_value c.self.inside.lasts.items) c.args.place c.deref.result.now ≡ c.deref.result.now
  last_is =
      get_or-map arc_value c.self.inside.lasts.items c.args.place c.index-2.result.now c.deref.result.now last_within
      ∙ ap arc_value (sym c.index-2.ensures)
      ∙ sym c.deref.ensures

pub returns-clause-seen : goal.returns-clause-seen
returns-clause-seen c = λ d.
    ap (λ past. get_or (reverse past) c.args.place d) (sym c.self.view_is)
    ∙ seen_at _ _ c.self.invariant.each c.args.place d c.index.result.now c.deref.result.now (within c)
    ∙ ap (λ e. let s : Seen = record { entry = e; last = get_or (map arc_value c.self.inside.lasts.items) c.args.place c.deref.result.now } in s) (sym c.index.ensures)
    ∙ ap (λ t. let s : Seen = record { entry = c.index.result.now; last = t } in s) (last_is c)

pub returns-clause-one : goal.returns-clause-one
returns-clause-one c =
    let long : c.args.place < length (map arc_value c.self.inside.lasts.items) = rw length-map (last_within c) in
    subst EnforcesOne (last_is c) (one_at (map arc_value c.self.inside.lasts.items) c.args.place c.deref.result.now c.self.invariant.one long)
