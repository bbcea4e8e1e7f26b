-- That a set restores its invariant.
use Rattle.std.proofs.Common.{◌≡◌, ◌≢◌, ◌≤◌, ℕ, zero, suc, ◌<◌, ◌^◌, Bool, true, false, not, ◌&&◌, cond, eqb, leb, ltb, ℤ, pos, negsuc, List, [], ◌∷◌, length, get_or, set, map, refl, sym, ap, subst, ◌∙◌, inl, inr, arith, get_or-set_same, get_or-set_other, lit<}
use Rattle.std.specs.Prelude.{int_lt}
use Rattle.std.specs.List.{AllByRecursion, Contains, filter}
use Rattle.std.specs.Int.{w32, cast_signed}
use Rattle.std.proofs.lemmas.Bool.{and_parts, cases_Bool, cond_both, cond-false, cond-true, eq-eqb, eqb-false, le-ltb, leb-true, ltb-true, ne_eqb, not-true}
use Rattle.std.proofs.lemmas.List.{get_or-map, length-map}
use Rattle.std.proofs.lemmas.List.Folds.{list_any_at}
use Rattle.cv_base.specs.declared.invariants.Invariant.{Invariant}
use Rattle.cv_base.specs.declared.invariants.Invariant.TheVariants.{OneOf, Lower, LessThan, SpOffset}
use Rattle.cv_base.specs.declared.patches.Action.{Action}
use Rattle.cv_base.specs.declared.patches.Action.TheVariants.{SetConst, SetCopy, SetSp}
use Rattle.cv_base.specs.declared.patches.Patch.{Patch}
use Rattle.cv_base.specs.declared.patches.Patch.TheVariants.{Enforce}
use Rattle.cv_base.specs.Invariants.{is_ascending, is_invariant, is_register}
use Rattle.cv_base.specs.Picture.{Picture}
use Rattle.cv_base.specs.Registers.{register, with_register}
use Rattle.cv_histories.specs.Repairs.{sets_of}
use Rattle.cv_runs.specs.Apply.{Left, Note, Fired, act, after, apply, core_holds, one_patch, patch_point, went_on}
use Rattle.cv_runs.specs.Arithmetic.{minus32, plus32}
use Rattle.cv_runs.specs.Invariants.{signed_le}
use Rattle.cv_runs.specs.Text.{inst_at, reads}
use Rattle.cv_shadow.specs.declared.frames.Core.{Core}
use Rattle.cv_shadow.specs.declared.frames.Frame.{Frame}
use Rattle.cv_shadow.specs.Frames.{frame_sp}
use Rattle.cv_patch.specs.Restoring.{HasWordOffset, IsCore, SetRestores}

-- a register that is written
low_register : (r : ℕ) → is_register r ≡ true → 1 ≤ r
low_register r is = leb-true 1 r (and_parts (leb 1 r) (ltb r 32) is).0

high_register : (r : ℕ) → is_register r ≡ true → r < 32
high_register r is = ltb-true r 32 (and_parts (leb 1 r) (ltb r 32) is).1

with_register_is : (regs : List ℕ) (r v : ℕ) → is_register r ≡ true → with_register regs r v ≡ set regs r v
with_register_is regs r v is = cond-false (eqb r 0) regs (set regs r v) (ne_eqb r 0 (λ e. omega (arith, low_register r is)))

written : (regs : List ℕ) (r v : ℕ) → length regs ≡ 32 → is_register r ≡ true → register (with_register regs r v) r ≡ v
written regs r v all is =
    let within : r < length regs = omega (arith, high_register r is) in
    rw (with_register_is regs r v is) (get_or-set_same regs r v 0 within)

untouched : (regs : List ℕ) (r s v : ℕ) → is_register r ≡ true → s ≢ r → register (with_register regs r v) s ≡ register regs s
untouched regs r s v is other = rw (with_register_is regs r v is) (get_or-set_other regs r s v 0 other)

-- a number is at most itself
not_below_itself : (z : ℤ) → int_lt z z ≡ false
not_below_itself (pos n) = le-ltb n n (omega arith)
not_below_itself (negsuc n) = le-ltb n n (omega arith)

at_most_itself : (a : ℕ) → signed_le a a ≡ true
at_most_itself a = ap not (not_below_itself (cast_signed w32 a))

-- an offset that was added is the difference again
offset_back : (sp offset : ℕ) → sp < 2 ^ 32 → offset < 2 ^ 32 → minus32 (plus32 sp offset) sp ≡ offset
offset_back sp offset low small = omega arith

frame_sp_low : (core : Core) → IsCore core → frame_sp core.frames < 2 ^ 32
frame_sp_low core is = sp_low core.frames is.frames
  where
    sp_low : (frames : List Frame) → AllByRecursion (λ (f : Frame). f.sp < 2 ^ 32) frames → frame_sp frames < 2 ^ 32
    sp_low [] low = lit< tt
    sp_low (f ∷ fs) low = low.0

-- the one element of a list
only : {X : Type 0} (x y : X) → Contains (x ∷ []) y → x ≡ y
only x y contains = at_place contains.0 contains.1 contains.2
  where
    at_place : (k : ℕ) → k < 1 → get_or (x ∷ []) k y ≡ y → x ≡ y
    at_place zero within is = is
    at_place (suc k) within is = absurd (omega arith)

-- the register that an invariant is restored by
one_of_register : (p reg : ℕ) (values : List ℕ) → is_invariant (OneOf p reg values) ≡ true → is_register reg ≡ true
one_of_register p reg values is =
    (and_parts (is_register reg) (leb 1 (length values))
    (and_parts (is_register reg && leb 1 (length values)) (leb (length values) 4)
    (and_parts (is_register reg && leb 1 (length values) && leb (length values) 4) (is_ascending values) is).0).0).0

module _ (point : ℕ → Bool) (core : Core) (is_core : IsCore core) (notes : List Note) where
  abbrev HoldsAfter : Invariant → Action → Type 0
  HoldsAfter k action = core_holds k (act point action core notes).core ≡ true

  value_restores : (p reg : ℕ) (values : List ℕ) (i : ℕ) → is_register reg ≡ true → i < length values → HoldsAfter (OneOf p reg values) (SetConst reg (get_or values i 0))
  value_restores p reg values i is within =
      let v : ℕ = get_or values i 0 in
      list_any_at (λ w. eqb w (register (with_register core.regs reg v) reg)) values i 0 within
      (eq-eqb v (register (with_register core.regs reg v) reg) (sym (written core.regs reg v is_core.all is)))

  one_of_restores : (p reg : ℕ) (values : List ℕ) (action : Action) → is_register reg ≡ true → Contains (map (λ v. SetConst reg v) values) action → HoldsAfter (OneOf p reg values) action
  one_of_restores p reg values action is contains =
      let within : contains.0 < length values = omega (arith, length-map values (λ v. SetConst reg v), contains.1) in
      let same : SetConst reg (get_or values contains.0 0) ≡ action =
      sym (get_or-map (λ v. SetConst reg v) values contains.0 0 action within) ∙ contains.2 in
      subst (HoldsAfter (OneOf p reg values)) same (value_restores p reg values contains.0 is within)

  bound_restores : (p reg bound : ℕ) → is_register reg ≡ true → HoldsAfter (Lower p reg bound) (SetConst reg bound)
  bound_restores p reg bound is = rw (written core.regs reg bound is_core.all is) (at_most_itself bound)

  low_restores : (p low high : ℕ) → is_register low ≡ true → high ≢ low → HoldsAfter (LessThan p low high) (SetCopy low high)
  low_restores p low high is differs =
      rw (written core.regs low (register core.regs high) is_core.all is, untouched core.regs low high (register core.regs high) is differs)
      (at_most_itself (register core.regs high))

  high_restores : (p low high : ℕ) → is_register high ≡ true → low ≢ high → HoldsAfter (LessThan p low high) (SetCopy high low)
  high_restores p low high is differs =
      rw (written core.regs high (register core.regs low) is_core.all is, untouched core.regs high low (register core.regs low) is differs)
      (at_most_itself (register core.regs low))

  offset_restores : (p offset : ℕ) → offset < 2 ^ 32 → HoldsAfter (SpOffset p offset) (SetSp offset)
  offset_restores p offset small =
      let sp : ℕ = frame_sp core.frames in
      rw (written core.regs 2 (plus32 sp offset) is_core.all refl)
      (eq-eqb (minus32 (plus32 sp offset) sp) offset (offset_back sp offset (frame_sp_low core is_core) small))

  less_than_restores : (p low high : ℕ) (reads_low : Bool) → is_invariant (LessThan p low high) ≡ true → HoldsAfter (LessThan p low high) (cond reads_low (SetCopy low high) (SetCopy high low))
  less_than_restores p low high reads_low is =
      let parts = and_parts (is_register low && is_register high) (not (eqb low high)) is in
      let both = and_parts (is_register low) (is_register high) parts.0 in
      let differs : low ≢ high = eqb-false low high (not-true (eqb low high) parts.1) in
      cond_both reads_low (SetCopy low high) (SetCopy high low) (HoldsAfter (LessThan p low high))
      (λ _. low_restores p low high both.0 (λ e. differs (sym e)))
      (λ _. high_restores p low high both.1 differs)

  set_restores_one : (image : Picture) (k : Invariant) (action : Action) → is_invariant k ≡ true → HasWordOffset k → Contains (sets_of image k) action → HoldsAfter k action
  set_restores_one image (OneOf p reg values) action is word contains =
      one_of_restores p reg values action (one_of_register p reg values is) contains
  set_restores_one image (Lower p reg bound) action is word contains =
      subst (HoldsAfter (Lower p reg bound)) (only (SetConst reg bound) action contains) (bound_restores p reg bound is)
  set_restores_one image (LessThan p low high) action is word contains =
      let chosen : Action = cond (reads (inst_at image p) low) (SetCopy low high) (SetCopy high low) in
      subst (HoldsAfter (LessThan p low high)) (only chosen action contains) (less_than_restores p low high (reads (inst_at image p) low) is)
  set_restores_one image (SpOffset p offset) action is word contains =
      subst (HoldsAfter (SpOffset p offset)) (only (SetSp offset) action contains) (offset_restores p offset word)

-- the patches at a point where there is none, and where there is one
module _ (point : ℕ → Bool) (p : ℕ) where
  abbrev stands : Patch → Bool
  stands q = eqb (patch_point q) p

  apply_passed : (q : Patch) (qs : List Patch) (core : Core) → stands q ≡ false → apply point p (q ∷ qs) core ≡ apply point p qs core
  apply_passed q qs core passed =
      ap (λ (b : Bool). elim b as (λ _. Left) [
        | false ↦ apply point p qs core
        | true ↦ elim ((one_patch point q core).acted) as (λ _. Left) [
          | true ↦ one_patch point q core
          | false ↦ after (one_patch point q core) (apply point p qs (one_patch point q core).core)
        ]
      ]) passed

  apply_none : (patches : List Patch) (core : Core) → filter stands patches ≡ [] → (apply point p patches core).core ≡ core
  apply_none [] core none = refl
  apply_none (q ∷ qs) core none =
      elim (cases_Bool (stands q)) [
        | inl is ↦ absurd (let some : q ∷ filter stands qs ≡ [] = sym (cond-true (stands q) _ _ is) ∙ none in cc)
        | inr passed ↦
            ap (λ (l : Left). l.core) (apply_passed q qs core passed)
            ∙ apply_none qs core (sym (cond-false (stands q) (q ∷ filter stands qs) (filter stands qs) passed) ∙ none)
      ]

  core_left : (acted : Bool) (one rest : Left) → rest.core ≡ one.core → (elim acted as (λ _. Left) [ true ↦ one | false ↦ after one rest ]).core ≡ one.core
  core_left true one rest same = refl
  core_left false one rest same = same

  apply_here : (q : Patch) (qs : List Patch) (core : Core) → stands q ≡ true → filter stands qs ≡ [] → (apply point p (q ∷ qs) core).core ≡ (one_patch point q core).core
  apply_here q qs core is none =
      let one : Left = one_patch point q core in
      let rest : Left = apply point p qs one.core in
      ap (λ (b : Bool). (elim b as (λ _. Left) [
        | false ↦ apply point p qs core
        | true ↦ elim (one.acted) as (λ _. Left) [ true ↦ one | false ↦ after one rest ]
      ]).core) is
      ∙ core_left one.acted one rest (apply_none qs one.core none)

  apply_one : (e : Patch) (patches : List Patch) (core : Core) → filter stands patches ≡ e ∷ [] → (apply point p patches core).core ≡ (one_patch point e core).core
  apply_one e [] core alone = absurd (cc)
  apply_one e (q ∷ qs) core alone =
      elim (cases_Bool (stands q)) [
        | inl is ↦
            let found : q ∷ filter stands qs ≡ e ∷ [] = sym (cond-true (stands q) (q ∷ filter stands qs) (filter stands qs) is) ∙ alone in
            let same : q ≡ e = cc in
            let none : filter stands qs ≡ [] = cc in
            apply_here q qs core is none ∙ ap (λ (x : Patch). (one_patch point x core).core) same
        | inr passed ↦
            ap (λ (l : Left). l.core) (apply_passed q qs core passed)
            ∙ apply_one e qs core (sym (cond-false (stands q) (q ∷ filter stands qs) (filter stands qs) passed) ∙ alone)
      ]

pub set_restores : SetRestores
set_restores image point p case index k action patches core is word contains alone is_core =
    let enforced : core_holds k (one_patch point (Enforce case index k action) core).core ≡ true =
    cond_both (core_holds k core) (went_on core []) (act point action core (Fired case index ∷ [])) (λ (l : Left). core_holds k l.core ≡ true)
    (λ held. held)
    (λ _. set_restores_one point core is_core (Fired case index ∷ []) image k action is word contains) in
    rw (apply_one point p (Enforce case index k action) patches core alone) enforced
