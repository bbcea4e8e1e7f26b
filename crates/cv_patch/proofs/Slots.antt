-- The patches of each slot of an index, one after the other, and the slots that have none.
use Rattle.std.proofs.Common.{◌≡◌, ◌≤◌, ◌<◌, ◌+◌, ◌-◌, ℕ, zero, suc, Bool, true, false, List, [], ◌∷◌, length, get_or, set, drop, cond, eqb, refl, sym, ap, ◌∙◌, subst, arith}
use Rattle.std.specs.Prelude.{◌==◌, ◌||◌, nat_lt}
use Rattle.std.proofs.lemmas.Bool.{or_from}
use Rattle.std.proofs.lemmas.Bool.Decides.{nat_tests}
use Rattle.std.proofs.lemmas.List.{get_or_default, get_or-set_same, get_or-set_other}
use Rattle.cv_base.specs.declared.entries.FiredRow.{FiredRow}
use Rattle.cv_base.specs.declared.entries.TallyRow.{TallyRow}
use Rattle.cv_base.specs.declared.patches.Patch.{Patch}
use Rattle.cv_patch.specs.Indexing.{AllEmpty, AreEmpty, AreFree, Finds, FindsFirst, FindsNext, has_patch, slot_at, slot_of}
use Rattle.cv_patch.proofs.InOrder.{Comes, past}
use Rattle.cv_runs.specs.Apply.{patch_point}
use Rattle.cv_runs.specs.Arithmetic.{plus32}
use Rattle.cv_shadow.specs.declared.frames.Core.{Core}

-- ---- chains

to_test : (x y : ℕ) → (x ≡ y → ⊥) → (b : Bool) → (x == y) ≡ b → b ≡ false
to_test x y apart true is =
    let same : x ≡ y = grind (arith, nat_tests) in
    absurd (apart same)
to_test x y apart false is = refl

apart_by : (x y : ℕ) → (x == y) ≡ false → x ≡ y → ⊥
apart_by x y test same =
    let is : (x == y) ≡ true = grind (arith, nat_tests) in
    cc

module _ (patches : List Patch) where
  widened_by : (slot at place k : ℕ) (none : Patch) (b : Bool) → ((none : Patch) → slot_at patches at none ≡ slot → ⊥) → Finds patches slot (at + 1) place → (k == at) ≡ b → at ≤ k → k < place → slot_at patches k none ≡ slot → ⊥
  widened_by slot at place k none true other f test from to is =
      let same : k ≡ at = grind (arith, nat_tests) in
      other none (ap (λ (x : ℕ). slot_at patches x none) (sym same) ∙ is)
  widened_by slot at place k none false other f test from to is =
      let more : at + 1 ≤ k = grind (arith, nat_tests) in
      f.before k none more to is

  -- one patch more in front, of another slot
  widened : (slot at place : ℕ) → ((none : Patch) → slot_at patches at none ≡ slot → ⊥) → Finds patches slot (at + 1) place → Finds patches slot at place
  widened slot at place other f = record {
    behind = let behind = f.behind in omega arith;
    within = f.within;
    before = λ k none from to is. widened_by slot at place k none (k == at) other f refl from to is;
    found = f.found;
  }

  module _ (at : ℕ) (q : Patch) (low : at < length patches) (read : q ≡ get_or patches at q) (slot : ℕ) (slot_is : slot ≡ slot_of (patch_point q)) where
    pub slot_here : (none : Patch) → slot_at patches at none ≡ slot
    slot_here none = ap (λ (x : Patch). slot_of (patch_point x)) (get_or_default patches at none q low ∙ sym read) ∙ sym slot_is

    found_here : Finds patches slot at at
    found_here = record {
      behind = omega arith;
      within = omega arith;
      before = λ k none from to is. absurd (omega arith);
      found = λ none within. slot_here none;
    }

    first_by : (first : List ℕ) (x : ℕ) (b : Bool) → slot < length first → (x == slot) ≡ b → Finds patches x (at + 1) (get_or first x 0) → Finds patches x at (get_or (set first slot at) x 0)
    first_by first x true fits test finds =
        let same : x ≡ slot = grind (arith, nat_tests) in
        rw (same, get_or-set_same first slot at 0 fits) found_here
    first_by first x false fits test finds =
        let apart = apart_by x slot test in
        rw (get_or-set_other first slot x at 0 apart) (widened x at (get_or first x 0) (λ none is. apart (sym is ∙ slot_here none)) finds)

    pub first_on : (first : List ℕ) → length first ≡ 4096 → slot < 4096 → FindsFirst patches first (at + 1) → FindsFirst patches (set first slot at) at
    first_on first slots within finds x low_x = first_by first x (x == slot) (omega arith) refl (finds x low_x)

    next_by : (next : List ℕ) (v k : ℕ) (none : Patch) (b : Bool) → at < length next → (k == at) ≡ b → at ≤ k → Finds patches slot (at + 1) v → (at + 1 ≤ k → Finds patches (slot_at patches k none) (k + 1) (get_or next k 0)) → Finds patches (slot_at patches k none) (k + 1) (get_or (set next at v) k 0)
    next_by next v k none true fits test from here there =
        let same : k ≡ at = grind (arith, nat_tests) in
        rw (same, get_or-set_same next at v 0 fits, slot_here none) here
    next_by next v k none false fits test from here there =
        let more : at + 1 ≤ k = grind (arith, nat_tests) in
        rw (get_or-set_other next at k v 0 (apart_by k at test)) (there more)

    pub next_on : (next : List ℕ) (v : ℕ) → length next ≡ length patches → Finds patches slot (at + 1) v → FindsNext patches next (at + 1) → FindsNext patches (set next at v) at
    next_on next v places here finds k none from to = next_by next v k none (k == at) (omega arith) refl from here (λ more. finds k none more to)

  -- before the first step

  pub first_none : (first : List ℕ) → ((slot : ℕ) → slot < 4096 → get_or first slot 0 ≡ length patches) → FindsFirst patches first (length patches)
  first_none first all slot low =
      rw (all slot low) (record {
        behind = omega arith;
        within = omega arith;
        before = λ k none from to is. absurd (omega arith);
        found = λ none within. absurd (omega arith);
      })

  pub next_none : (next : List ℕ) → FindsNext patches next (length patches)
  next_none next k none from to = absurd (omega arith)

  -- ---- words without a patch

  abbrev Apart : List Patch → ℕ → Type 0
  Apart qs pc = (k : ℕ) (none : Patch) → k < length qs → slot_at qs k none ≡ slot_of pc → ⊥

  pub stands_not : (q : Patch) (pc : ℕ) → (slot_of (patch_point q) ≡ slot_of pc → ⊥) → (patch_point q == pc) ≡ false
  stands_not q pc apart = to_test (patch_point q) pc (λ same. apart (ap slot_of same)) (patch_point q == pc) refl

  none_in : (qs : List Patch) (pc : ℕ) → Apart qs pc → has_patch qs pc ≡ false
  none_in [] pc apart = refl
  none_in (q ∷ qs) pc apart =
      or_from (patch_point q == pc) (has_patch qs pc) (stands_not q pc (apart 0 q (omega arith))) (none_in qs pc (λ k none low. apart (suc k) none (omega arith)))

  no_patch : (pc place : ℕ) → Finds patches (slot_of pc) 0 place → length patches ≤ place → has_patch patches pc ≡ false
  no_patch pc place f all = none_in patches pc (λ k none low. f.before k none (omega arith) (omega arith))

next_slot : (pc : ℕ) → slot_of pc + 1 < 4096 → slot_of (plus32 pc 4) ≡ slot_of pc + 1
next_slot pc low = omega arith

module _ (patches : List Patch) (first : List ℕ) (finds : FindsFirst patches first 0) where
  one_free : (pc free : ℕ) → AreEmpty (length patches) first (slot_of pc) (suc free) → has_patch patches pc ≡ false
  one_free pc free e =
      let within = e.within in
      no_patch patches pc (get_or first (slot_of pc) 0) (finds (slot_of pc) (omega arith)) (e.empty (slot_of pc) (omega arith) (omega arith))

  less_free : (pc free : ℕ) → AreEmpty (length patches) first (slot_of pc) (suc (suc free)) → AreEmpty (length patches) first (slot_of (plus32 pc 4)) (suc free)
  less_free pc free e =
      let within = e.within in
      let next = next_slot pc (omega arith) in
      record {
        within = omega arith;
        empty = λ k from to. e.empty k (omega arith) (omega arith);
      }

  pub all_free : (free pc : ℕ) → AreEmpty (length patches) first (slot_of pc) free → AreFree patches free pc
  all_free zero pc e = tt
  all_free (suc zero) pc e = (one_free pc 0 e, tt)
  all_free (suc (suc free)) pc e = (one_free pc (suc free) e, all_free (suc free) (plus32 pc 4) (less_free pc free e))

-- ---- counting the slots that have none

module _ (count : ℕ) (first : List ℕ) where
  empty_by : (slot run k : ℕ) (b : Bool) → (k == slot) ≡ b → count ≤ get_or first slot 0 → AreEmpty count first (slot + 1) run → slot ≤ k → k < slot + (run + 1) → count ≤ get_or first k 0
  empty_by slot run k true test here e from to =
      let same : k ≡ slot = grind (arith, nat_tests) in
      rw same here
  empty_by slot run k false test here e from to =
      let more : slot + 1 ≤ k = grind (arith, nat_tests) in
      e.empty k more (omega arith)

  run_by : (slot run : ℕ) (b : Bool) → slot < 4096 → nat_lt (get_or first slot 0) count ≡ b → AreEmpty count first (slot + 1) run → AreEmpty count first slot (cond b 0 (run + 1))
  run_by slot run true low test e = record { within = omega arith; empty = λ k from to. absurd (omega arith) }
  run_by slot run false low test e =
      let within = e.within in
      let here : count ≤ get_or first slot 0 = grind (arith, nat_tests) in
      record { within = omega arith; empty = λ k from to. empty_by slot run k (k == slot) refl here e from to }

  pub run_on : (slot run : ℕ) → slot < 4096 → AreEmpty count first (slot + 1) run → AreEmpty count first slot (cond (nat_lt (get_or first slot 0) count) 0 (run + 1))
  run_on slot run low e = run_by slot run (nat_lt (get_or first slot 0) count) low refl e

  free_by : (free : List ℕ) (slot run x : ℕ) (b : Bool) → slot < length free → (x == slot) ≡ b → AreEmpty count first slot run → slot ≤ x → (slot + 1 ≤ x → AreEmpty count first x (get_or free x 0)) → AreEmpty count first x (get_or (set free slot run) x 0)
  free_by free slot run x true fits test e from there =
      let same : x ≡ slot = grind (arith, nat_tests) in
      rw (same, get_or-set_same free slot run 0 fits) e
  free_by free slot run x false fits test e from there =
      let more : slot + 1 ≤ x = grind (arith, nat_tests) in
      rw (get_or-set_other free slot x run 0 (apart_by x slot test)) (there more)

  pub free_on : (free : List ℕ) (slot run : ℕ) → slot < length free → AreEmpty count first slot run → AllEmpty count first free (slot + 1) → AllEmpty count first (set free slot run) slot
  free_on free slot run fits e all x from low = free_by free slot run x (x == slot) fits refl e from (λ more. all x more low)

  pub empty_none : AreEmpty count first 4096 0
  empty_none = record { within = omega arith; empty = λ k from to. absurd (omega arith) }

  pub free_none : (free : List ℕ) → AllEmpty count first free 4096
  free_none free x from low = absurd (omega arith)

-- ---- a walk along a chain

module _ (point : ℕ → Bool) (p : ℕ) (patches : List Patch) (before : Core) (old_tally : List TallyRow) (old_fired : List FiredRow) (items : List Patch) (now : Core) (tally : List TallyRow) (fired : List FiredRow) where
  abbrev From : ℕ → Type 0
  From i = Comes point p patches before old_tally old_fired (drop i items) now tally fired

  skipped : (m i : ℕ) (none : Patch) → i + m ≤ length items → ((k : ℕ) → i ≤ k → k < i + m → eqb (patch_point (get_or items k none)) p ≡ false) → From i → From (i + m)
  skipped zero i none within apart h =
      let same : i ≡ i + 0 = omega arith in
      subst From same h
  skipped (suc m) i none within apart h =
      let low : i < length items = omega arith in
      let there : eqb (patch_point (get_or items i none)) p ≡ false = apart i (omega arith) (omega arith) in
      let one : From (i + 1) = past items i low (get_or_default items i none (get_or items i none) low) h there in
      let same : i + 1 + m ≡ i + suc m = omega arith in
      subst From same (skipped m (i + 1) none (omega arith) (λ k from to. apart k (omega arith) (omega arith)) one)

  skipped_to : (i place : ℕ) (none : Patch) → Finds items (slot_of p) i place → From i → From place
  skipped_to i place none f h =
      let behind = f.behind in
      let within = f.within in
      let same : i + (place - i) ≡ place = omega arith in
      subst From same (skipped (place - i) i none (omega arith) (λ k from to. stands_not items (get_or items k none) p (f.before k none from (omega arith))) h)

  to_place : (qs : List Patch) (i place : ℕ) → qs ≡ items → Finds items (slot_of p) i place → From i → From place
  to_place [] i place same f h =
      let behind = f.behind in
      let within = f.within in
      let none : length items ≡ 0 = ap length (sym same) in
      let at : i ≡ place = omega arith in
      subst From at h
  to_place (q ∷ qs) i place same f h = skipped_to i place q f h

  -- on to the next patch of the slot
  pub goes_to : (i place : ℕ) → Finds items (slot_of p) i place → From i → From place
  goes_to i place f h = to_place items i place refl f h
