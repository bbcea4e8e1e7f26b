-- The patches of a table, in their order, up to one that acts.
use Rattle.std.proofs.Common.{◌≡◌, ℕ, ◌+◌, ◌<◌, drop, get_or, Bool, true, false, not, cond, eqb, List, [], ◌∷◌, ◌++◌, ◌∙◌, length, refl, sym, ap, subst}
use Rattle.std.specs.List.{list_all, list_any}
use Rattle.std.proofs.lemmas.Bool.{and_parts, not-true}
use Rattle.std.proofs.lemmas.List.{append-nil, append_assoc, drop_more}
use Rattle.cv_base.specs.declared.entries.FiredRow.{FiredRow}
use Rattle.cv_base.specs.declared.entries.TallyRow.{TallyRow}
use Rattle.cv_base.specs.declared.patches.Action.{Action}
use Rattle.cv_base.specs.declared.patches.Action.TheVariants.{SetConst, SetCopy, SetSp, Skip, Return}
use Rattle.cv_base.specs.declared.patches.Patch.{Patch}
use Rattle.cv_base.specs.declared.patches.Patch.TheVariants.{Check, Enforce}
use Rattle.cv_base.specs.Patches.{has_no_twins, is_patch, is_table, is_twin}
use Rattle.cv_histories.specs.Rows.{checks_in, firings_in}
use Rattle.cv_patch.specs.declared.applying.Applied.{Applied}
use Rattle.cv_patch.specs.declared.applying.Applied.TheVariants.{Go, Skipped, Returned}
use Rattle.cv_patch.specs.Applied.{applied}
use Rattle.cv_patch.specs.Counts.{FiredGoesOn, TallyGoesOn, fired_ready, fired_up_to, has_its_fired, has_its_tally, tally_ready, tally_up_to}
use Rattle.cv_patch.specs.Noted.{has_its_check_room, has_its_firing_room, with_checks, with_firings}
use Rattle.cv_patch.proofs.Checks.{has_its_room as tally_room, TallyComes, TallyComes-begin, TallyComes-more, TallyComes-past, TallyGoesOn-from_comes}
use Rattle.cv_patch.proofs.FiringNotes.{has_its_room as fired_room, FiredComes, FiredComes-begin, FiredComes-more, FiredComes-past, FiredGoesOn-from_comes}
use Rattle.cv_runs.specs.Apply.{Note, Checked, Fired, Left, act, acted_with, after, apply, core_holds, one_patch, patch_point, returned, went_on}
use Rattle.cv_runs.specs.Arithmetic.{plus32}
use Rattle.cv_shadow.specs.declared.frames.Core.{Core}
use Rattle.cv_shadow.specs.declared.frames.Frame.{Frame}

checks_in-append : (a b : List Note) → checks_in (a ++ b) ≡ checks_in a ++ checks_in b
checks_in-append [] b = refl
checks_in-append (Checked case index held ∷ a) b = ap (λ l. record { case = case; index = index; held = held } ∷ l) (checks_in-append a b)
checks_in-append (Fired case index ∷ a) b = checks_in-append a b

firings_in-append : (a b : List Note) → firings_in (a ++ b) ≡ firings_in a ++ firings_in b
firings_in-append [] b = refl
firings_in-append (Checked case index held ∷ a) b = firings_in-append a b
firings_in-append (Fired case index ∷ a) b = ap (λ l. record { case = case; index = index } ∷ l) (firings_in-append a b)

module _ (point : ℕ → Bool) where
  -- what does not act takes no frame
  either_frames : (b : Bool) (x y : Core) (notes : List Note) → (cond b (acted_with x notes) (went_on y notes)).acted ≡ false → (cond b (acted_with x notes) (went_on y notes)).core.frames ≡ y.frames
  either_frames true x y notes none = cc
  either_frames false x y notes none = refl

  returned_frames : (offset : ℕ) (core : Core) (frames : List Frame) (notes : List Note) → (returned point offset core frames notes).acted ≡ false → (returned point offset core frames notes).core.frames ≡ core.frames
  returned_frames offset core [] notes none = refl
  returned_frames offset core (f ∷ fs) notes none = either_frames (point f.back) _ core notes none

  act_frames : (action : Action) (core : Core) (notes : List Note) → (act point action core notes).acted ≡ false → (act point action core notes).core.frames ≡ core.frames
  act_frames (SetConst reg value) core notes none = refl
  act_frames (SetCopy reg source) core notes none = refl
  act_frames (SetSp offset) core notes none = refl
  act_frames Skip core notes none = either_frames (point (plus32 core.pc 4)) _ core notes none
  act_frames (Return offset) core notes none = returned_frames offset core core.frames notes none

  enforced_frames : (held : Bool) (action : Action) (core : Core) (notes : List Note) → (cond held (went_on core []) (act point action core notes)).acted ≡ false → (cond held (went_on core []) (act point action core notes)).core.frames ≡ core.frames
  enforced_frames true action core notes none = refl
  enforced_frames false action core notes none = act_frames action core notes none

  one_frames : (q : Patch) (core : Core) → (one_patch point q core).acted ≡ false → (one_patch point q core).core.frames ≡ core.frames
  one_frames (Check case index k) core none = refl
  one_frames (Enforce case index k action) core none = enforced_frames (core_holds k core) action core (Fired case index ∷ []) none

  -- the pc stays a point
  either_point : (b : Bool) (x y : Core) (notes : List Note) → (b ≡ true → point x.pc ≡ true) → point y.pc ≡ true → point (cond b (acted_with x notes) (went_on y notes)).core.pc ≡ true
  either_point true x y notes moved stayed = moved refl
  either_point false x y notes moved stayed = stayed

  returned_point : (offset : ℕ) (core : Core) (frames : List Frame) (notes : List Note) → point core.pc ≡ true → point (returned point offset core frames notes).core.pc ≡ true
  returned_point offset core [] notes at = at
  returned_point offset core (f ∷ fs) notes at = either_point (point f.back) _ core notes (λ moved. moved) at

  act_point : (action : Action) (core : Core) (notes : List Note) → point core.pc ≡ true → point (act point action core notes).core.pc ≡ true
  act_point (SetConst reg value) core notes at = at
  act_point (SetCopy reg source) core notes at = at
  act_point (SetSp offset) core notes at = at
  act_point Skip core notes at = either_point (point (plus32 core.pc 4)) _ core notes (λ moved. moved) at
  act_point (Return offset) core notes at = returned_point offset core core.frames notes at

  enforced_point : (held : Bool) (action : Action) (core : Core) (notes : List Note) → point core.pc ≡ true → point (cond held (went_on core []) (act point action core notes)).core.pc ≡ true
  enforced_point true action core notes at = at
  enforced_point false action core notes at = act_point action core notes at

  one_point : (q : Patch) (core : Core) → point core.pc ≡ true → point (one_patch point q core).core.pc ≡ true
  one_point (Check case index k) core at = at
  one_point (Enforce case index k action) core at = enforced_point (core_holds k core) action core (Fired case index ∷ []) at

  module _ (p : ℕ) where
    abbrev chosen : Bool → Bool → Left → List Patch → Core → Left
    chosen stands acted one rest core =
        elim stands [
          | false ↦ apply point p rest core
          | true ↦ elim acted [
            | true ↦ one
            | false ↦ after one (apply point p rest one.core)
          ]
        ]

    apply_past : (q : Patch) (rest : List Patch) (core : Core) → eqb (patch_point q) p ≡ false → apply point p (q ∷ rest) core ≡ apply point p rest core
    apply_past q rest core is = ap (λ (b : Bool). chosen b (one_patch point q core).acted (one_patch point q core) rest core) is

    apply_on : (q : Patch) (rest : List Patch) (core : Core) (acted : Bool) → eqb (patch_point q) p ≡ true → (one_patch point q core).acted ≡ acted → apply point p (q ∷ rest) core ≡ chosen true acted (one_patch point q core) rest core
    apply_on q rest core acted is acts =
        ap (λ (b : Bool). chosen b (one_patch point q core).acted (one_patch point q core) rest core) is
        ∙ ap (λ (b : Bool). chosen true b (one_patch point q core) rest core) acts

    chosen_point : (stands acted : Bool) (q : Patch) (rest : List Patch) (core : Core) → ((c : Core) → point c.pc ≡ true → point (apply point p rest c).core.pc ≡ true) → point core.pc ≡ true → point (chosen stands acted (one_patch point q core) rest core).core.pc ≡ true
    chosen_point false acted q rest core stays at = stays core at
    chosen_point true true q rest core stays at = one_point q core at
    chosen_point true false q rest core stays at = stays (one_patch point q core).core (one_point q core at)

    -- after the patches at a point the pc is a point
    apply_point : (patches : List Patch) (core : Core) → point core.pc ≡ true → point (apply point p patches core).core.pc ≡ true
    apply_point [] core at = at
    apply_point (q ∷ rest) core at =
        chosen_point (eqb (patch_point q) p) (one_patch point q core).acted q rest core (apply_point rest) at

    after_after : (now : Core) (notes : List Note) (one later : Left) → after (went_on now notes) (after one later) ≡ after (went_on one.core (notes ++ one.notes)) later
    after_after now notes one later =
        ap (λ (l : List Note). record { core = later.core; notes = l; acted = later.acted }) (sym (append_assoc notes one.notes later.notes))

    module _ (patches : List Patch) (before : Core) (old_tally : List TallyRow) (old_fired : List FiredRow) where
      -- some patches did not act; the rest is still to come
      pub record Comes (rest : List Patch) (now : Core) (tally : List TallyRow) (fired : List FiredRow) : Type 0 where
        pub notes : List Note
        pub whole : apply point p patches before ≡ after (went_on now notes) (apply point p rest now)
        pub depth : length now.frames ≡ length before.frames
        pub tallied : TallyComes patches rest old_tally tally (checks_in notes)
        pub counted : FiredComes patches rest old_fired fired (firings_in notes)
        pub apart : has_no_twins rest ≡ true

      -- what the patches leave, and answer
      pub record Ends (now : Core) (answer : Applied) (tally : List TallyRow) (fired : List FiredRow) : Type 0 where
        pub core : now ≡ (apply point p patches before).core
        pub applied : answer ≡ applied before (apply point p patches before)
        pub tallied : TallyGoesOn patches old_tally tally (checks_in (apply point p patches before).notes)
        pub counted : FiredGoesOn patches old_fired fired (firings_in (apply point p patches before).notes)

      comes_begin : tally_ready patches old_tally ≡ true → fired_ready patches old_fired ≡ true → is_table patches ≡ true → Comes patches before old_tally old_fired
      comes_begin ready too table =
          record {
            notes = [];
            whole = refl;
            depth = refl;
            tallied = TallyComes-begin patches old_tally ready;
            counted = FiredComes-begin patches old_fired too;
            apart = (and_parts (list_all is_patch patches) (has_no_twins patches) table).1;
          }

      pub comes_from : (items : List Patch) → items ≡ patches → is_table items ≡ true → tally_ready patches old_tally ≡ true → fired_ready patches old_fired ≡ true → Comes items before old_tally old_fired
      comes_from items same table ready too =
          rw same (comes_begin ready too (rw same at table))

      pub comes_past : (q : Patch) (rest : List Patch) (now : Core) (tally : List TallyRow) (fired : List FiredRow) → eqb (patch_point q) p ≡ false → Comes (q ∷ rest) now tally fired → Comes rest now tally fired
      comes_past q rest now tally fired is h = record {
        notes = h.notes;
        whole = h.whole ∙ ap (after (went_on now h.notes)) (apply_past q rest now is);
        depth = h.depth;
        tallied = TallyComes-past patches rest old_tally tally (checks_in h.notes) q h.tallied;
        counted = FiredComes-past patches rest old_fired fired (firings_in h.notes) q h.counted;
        apart = (and_parts (not (list_any (is_twin q) rest)) (has_no_twins rest) h.apart).1;
      }

      module _ (q : Patch) (rest : List Patch) (now : Core) (tally : List TallyRow) (fired : List FiredRow) (h : Comes (q ∷ rest) now tally fired) where
        abbrev one : Left
        one = one_patch point q now

        no_twin : list_any (is_twin q) rest ≡ false
        no_twin = not-true (list_any (is_twin q) rest) (and_parts (not (list_any (is_twin q) rest)) (has_no_twins rest) h.apart).0

        tallied_more : TallyComes patches rest old_tally (with_checks (checks_in one.notes) tally) (checks_in (h.notes ++ one.notes))
        tallied_more = rw (checks_in-append h.notes one.notes) (TallyComes-more point patches rest old_tally tally (checks_in h.notes) q now no_twin h.tallied)

        counted_more : FiredComes patches rest old_fired (with_firings (firings_in one.notes) fired) (firings_in (h.notes ++ one.notes))
        counted_more = rw (firings_in-append h.notes one.notes) (FiredComes-more point patches rest old_fired fired (firings_in h.notes) q now no_twin h.counted)

        pub comes_more : eqb (patch_point q) p ≡ true → one.acted ≡ false → Comes rest one.core (with_checks (checks_in one.notes) tally) (with_firings (firings_in one.notes) fired)
        comes_more is none = record {
          notes = h.notes ++ one.notes;
          whole =
              h.whole
              ∙ ap (after (went_on now h.notes)) (apply_on q rest now false is none)
              ∙ after_after now h.notes one (apply point p rest one.core);
          depth = ap length (one_frames q now none) ∙ h.depth;
          tallied = tallied_more;
          counted = counted_more;
          apart = (and_parts (not (list_any (is_twin q) rest)) (has_no_twins rest) h.apart).1;
        }

        acts_whole : eqb (patch_point q) p ≡ true → one.acted ≡ true → apply point p patches before ≡ after (went_on now h.notes) one
        acts_whole is acts = h.whole ∙ ap (after (went_on now h.notes)) (apply_on q rest now true is acts)

        pub ends_acting : eqb (patch_point q) p ≡ true → one.acted ≡ true → Ends one.core (applied now one) (with_checks (checks_in one.notes) tally) (with_firings (firings_in one.notes) fired)
        ends_acting is acts =
            let whole = acts_whole is acts in
            record {
              core = ap (λ (l : Left). l.core) (sym whole);
              applied =
                  ap (λ n. cond one.acted (cond (eqb (length one.core.frames) n) Skipped Returned) Go) h.depth
                  ∙ ap (applied before) (sym whole);
              tallied =
                  subst (λ (l : Left). TallyGoesOn patches old_tally (with_checks (checks_in one.notes) tally) (checks_in l.notes)) (sym whole)
                  (TallyGoesOn-from_comes patches rest old_tally _ _ tallied_more);
              counted =
                  subst (λ (l : Left). FiredGoesOn patches old_fired (with_firings (firings_in one.notes) fired) (firings_in l.notes)) (sym whole)
                  (FiredGoesOn-from_comes patches rest old_fired _ _ counted_more);
            }

      pub ends_all : (now : Core) (tally : List TallyRow) (fired : List FiredRow) → Comes [] now tally fired → Ends now Go tally fired
      ends_all now tally fired h =
          let whole : apply point p patches before ≡ went_on now h.notes = h.whole ∙ ap (went_on now) (append-nil h.notes) in
          record {
            core = ap (λ (l : Left). l.core) (sym whole);
            applied = ap (applied before) (sym whole);
            tallied =
                subst (λ (l : Left). TallyGoesOn patches old_tally tally (checks_in l.notes)) (sym whole)
                (TallyGoesOn-from_comes patches [] old_tally _ _ h.tallied);
            counted =
                subst (λ (l : Left). FiredGoesOn patches old_fired fired (firings_in l.notes)) (sym whole)
                (FiredGoesOn-from_comes patches [] old_fired _ _ h.counted);
          }

not_acted : (acted same : Bool) → cond acted (cond same Skipped Returned) Go ≡ Go → acted ≡ false
not_acted true true h = cc
not_acted true false h = cc
not_acted false same h = refl

has_acted : (acted same : Bool) → (cond acted (cond same Skipped Returned) Go ≡ Go → ⊥) → acted ≡ true
has_acted true same h = refl
has_acted false same h = absurd (h refl)

room_of_check : (rows : List TallyRow) (q : Patch) → tally_room 4294967294 rows q ≡ true → has_its_check_room rows q ≡ true
room_of_check rows (Check case index k) room = room
room_of_check rows (Enforce case index k action) room = refl

room_of_firing : (rows : List FiredRow) (q : Patch) → fired_room 4294967294 rows q ≡ true → has_its_firing_room rows q ≡ true
room_of_firing rows (Check case index k) room = refl
room_of_firing rows (Enforce case index k action) room = room

module _ {point : ℕ → Bool} {p : ℕ} {patches : List Patch} {before : Core} {old_tally : List TallyRow} {old_fired : List FiredRow} where
  pub ends_point : {core : Core} {answer : Applied} {tally : List TallyRow} {fired : List FiredRow} → Ends point p patches before old_tally old_fired core answer tally fired → point before.pc ≡ true → point core.pc ≡ true
  ends_point end at = ap (λ (c : Core). point c.pc) end.core ∙ apply_point point p patches before at

  -- at the place i of the patches
  module _ (items : List Patch) (i : ℕ) {q : Patch} {now : Core} {tally : List TallyRow} {fired : List FiredRow} (within : i < length items) (read : q ≡ get_or items i q) (h : Comes point p patches before old_tally old_fired (drop i items) now tally fired) where
    abbrev later : List Patch
    later = drop (i + 1) items

    abbrev done : Left
    done = one_patch point q now

    first : Comes point p patches before old_tally old_fired (q ∷ later) now tally fired
    first =
        let split : drop i items ≡ q ∷ later = drop_more items i q within ∙ ap (λ (x : Patch). x ∷ later) (sym read) in
        subst (λ (l : List Patch). Comes point p patches before old_tally old_fired l now tally fired) split h

    pub has_row : has_its_tally tally q ≡ true
    has_row = (and_parts (has_its_tally tally q) (tally_ready later tally) first.tallied.rest_ready).0

    pub has_fired_row : has_its_fired fired q ≡ true
    has_fired_row = (and_parts (has_its_fired fired q) (fired_ready later fired) first.counted.rest_ready).0

    pub has_room : tally_up_to 4294967294 old_tally ≡ true → has_its_check_room tally q ≡ true
    has_room low =
        room_of_check tally q
        (and_parts (tally_room 4294967294 tally q) (list_all (tally_room 4294967294 tally) later) (first.tallied.room 4294967294 low)).0

    pub has_fired_room : fired_up_to 4294967294 old_fired ≡ true → has_its_firing_room fired q ≡ true
    has_fired_room low =
        room_of_firing fired q
        (and_parts (fired_room 4294967294 fired q) (list_all (fired_room 4294967294 fired) later) (first.counted.room 4294967294 low)).0

    pub past : eqb (patch_point q) p ≡ false → Comes point p patches before old_tally old_fired later now tally fired
    past is = comes_past point p patches before old_tally old_fired q later now tally fired is first

    -- what was done at that place
    module _ {core : Core} {answer : Applied} {new_tally : List TallyRow} {new_fired : List FiredRow} (stands : eqb (patch_point q) p ≡ true) (core_is : core ≡ done.core) (answer_is : answer ≡ applied now done) (tally_is : new_tally ≡ with_checks (checks_in done.notes) tally) (fired_is : new_fired ≡ with_firings (firings_in done.notes) fired) where
      pub goes_on : answer ≡ Go → Comes point p patches before old_tally old_fired later core new_tally new_fired
      goes_on go =
          let none = not_acted done.acted (eqb (length done.core.frames) (length now.frames)) (sym answer_is ∙ go) in
          rw (core_is, tally_is, fired_is) (comes_more point p patches before old_tally old_fired q later now tally fired first stands none)

      pub ends : (answer ≡ Go → ⊥) → Ends point p patches before old_tally old_fired core answer new_tally new_fired
      ends acts =
          let acted = has_acted done.acted (eqb (length done.core.frames) (length now.frames)) (λ go. acts (answer_is ∙ go)) in
          rw (core_is, answer_is, tally_is, fired_is) (ends_acting point p patches before old_tally old_fired q later now tally fired first stands acted)
