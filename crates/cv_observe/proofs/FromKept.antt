-- What is learned of what is kept at a point is what is learned of the observations made there.
use Rattle.std.proofs.Common.{◌≡◌, ℕ, ◌<◌, Bool, true, false, cond, not, ◌&&◌, ◌||◌, eqb, leb, List, [], ◌∷◌, ◌++◌, ◌∙◌, Option, refl, sym, ap, map, length, unwrap_or, arith}
use Rattle.std.proofs.lemmas.Bool.Decides.{nat_tests}
use Rattle.std.proofs.lemmas.List.Elements.{recursion_from_All}
use Rattle.std.specs.List.{AllByRecursion, filter, flat_map, list_any}
use Rattle.cv_base.specs.declared.entries.Observation.{Observation}
use Rattle.cv_base.specs.declared.invariants.Invariant.{Invariant}
use Rattle.cv_base.specs.declared.invariants.Invariant.TheVariants.{OneOf, Lower, LessThan}
use Rattle.cv_base.specs.Picture.{Picture}
use Rattle.cv_blocks.specs.TextMap.{is_in_window}
use Rattle.cv_isa.specs.Uses.{has, registers}
use Rattle.cv_observe.specs.AtPoint.{IsPoint, IsRegister, numbers_of, offset_of}
use Rattle.cv_observe.specs.Kept.{IsFew}
use Rattle.cv_observe.specs.Learning.{one_of_kept, lower_kept, tells_pair, pair_kept, above_kept, offset_kept, learned_kept}
use Rattle.cv_observe.specs.declared.point.Point.{Point}
use Rattle.cv_observe.specs.declared.register.Register.{Register}
use Rattle.cv_runs.specs.Learned.{distinct, values_of, signed_least, one_of, one_ofs, lower, lowers, is_pair, is_ordered, less_thans, sp_offset, learned_at}
use Rattle.cv_runs.specs.Text.{window_registers}

-- values of one register

few_values : (p r : ℕ) (kept : List ℕ) (more : Bool) (t : Bool) (values : List ℕ) → more ≡ t → IsFew 4 kept more values → cond t [] (OneOf p r kept ∷ []) ≡ one_of p r (distinct values)
few_values p r kept more true values is few =
    let over = few.over is in
    let e : leb (length (distinct values)) 4 ≡ false = grind (arith, nat_tests) in
    sym (ap (λ (b : Bool). cond b (OneOf p r (distinct values) ∷ []) []) e)
few_values p r kept more false values is few =
    let all = few.all is in
    let small = few.few is in
    let long = ap length all in
    let e : leb (length (distinct values)) 4 ≡ true = grind (arith, nat_tests) in
    ap (λ l. OneOf p r l ∷ []) all ∙ sym (ap (λ (b : Bool). cond b (OneOf p r (distinct values) ∷ []) []) e)

many_values : (p r low : ℕ) (kept : List ℕ) (more : Bool) (t : Bool) (values : List ℕ) → more ≡ t → low ≡ signed_least values → IsFew 4 kept more values → cond t (Lower p r low ∷ []) [] ≡ lower p r values
many_values p r low kept more true values is least few =
    let over = few.over is in
    let e : leb (length (distinct values)) 4 ≡ false = grind (arith, nat_tests) in
    ap (λ v. Lower p r v ∷ []) least ∙ sym (ap (λ (b : Bool). cond b [] (Lower p r (signed_least values) ∷ [])) e)
many_values p r low kept more false values is least few =
    let all = few.all is in
    let small = few.few is in
    let long = ap length all in
    let e : leb (length (distinct values)) 4 ≡ true = grind (arith, nat_tests) in
    sym (ap (λ (b : Bool). cond b [] (Lower p r (signed_least values) ∷ [])) e)

module _ (window : ℕ → Bool) (p : ℕ) (here : List Observation) where
  one_of_same : (k : Register) → IsRegister window k here → one_of_kept p k ≡ one_of p k.number (distinct (values_of k.number here))
  one_of_same k is = few_values p k.number k.values.numbers.items k.values.more k.values.more (values_of k.number here) refl is.values

  lower_same : (k : Register) → IsRegister window k here → lower_kept p k ≡ lower p k.number (values_of k.number here)
  lower_same k is = many_values p k.number (unwrap_or k.least 0) k.values.numbers.items k.values.more k.values.more (values_of k.number here) refl (ap (λ (o : Option ℕ). unwrap_or o 0) is.least) is.values

  one_ofs_same : (list : List Register) → AllByRecursion (λ k. IsRegister window k here) list → flat_map (one_of_kept p) list ≡ one_ofs p (numbers_of list) here
  one_ofs_same [] all = refl
  one_ofs_same (k ∷ list) all =
      ap (λ l. l ++ flat_map (one_of_kept p) list) (one_of_same k all.0)
      ∙ ap (λ l. one_of p k.number (distinct (values_of k.number here)) ++ l) (one_ofs_same list all.1)

  lowers_same : (list : List Register) → AllByRecursion (λ k. IsRegister window k here) list → flat_map (lower_kept p) list ≡ lowers p (numbers_of list) here
  lowers_same [] all = refl
  lowers_same (k ∷ list) all =
      ap (λ l. l ++ flat_map (lower_kept p) list) (lower_same k all.0)
      ∙ ap (λ l. lower p k.number (values_of k.number here) ++ l) (lowers_same list all.1)

-- pairs

and_in : (s t : Bool) → t ≡ true → (t && s) ≡ s
and_in s t is = ap (λ b. b && s) is

either : (s t o x : Bool) → ((s && o) || (t && o)) || (x && o) ≡ ((s || t) || x) && o
either true t true x = refl
either false true true x = refl
either false false true x = refl
either true true false true = refl
either true true false false = refl
either true false false true = refl
either true false false false = refl
either false true false true = refl
either false true false false = refl
either false false false true = refl
either false false false false = refl

sorted_out : (s t x y : Bool) → (s || t) || (x || y) ≡ (s || x) || (t || y)
sorted_out true t x y = refl
sorted_out false true true y = refl
sorted_out false true false y = refl
sorted_out false false x y = refl

module _ (window : ℕ → Bool) (here : List Observation) (a b : ℕ) (in_a : window a ≡ true) (in_b : window b ≡ true) where
  o : Bool
  o = is_ordered here a b

  first : (k : Register) (t : Bool) → eqb k.number a ≡ t → IsRegister window k here → (t && has k.above b) ≡ (t && is_ordered here a b)
  first k true same is =
      let e : k.number ≡ a = grind (arith, nat_tests) in
      is.above b ∙ and_in (is_ordered here k.number b) (window b) in_b ∙ ap (λ r. is_ordered here r b) e
  first k false same is = refl

  second : (k : Register) (t : Bool) → eqb k.number b ≡ t → IsRegister window k here → (t && has k.below a) ≡ (t && is_ordered here a b)
  second k true same is =
      let e : k.number ≡ b = grind (arith, nat_tests) in
      is.below a ∙ and_in (is_ordered here a k.number) (window a) in_a ∙ ap (λ r. is_ordered here a r) e
  second k false same is = refl

  told : (list : List Register) → AllByRecursion (λ k. IsRegister window k here) list
      → list_any (tells_pair a b) list ≡ ((list_any (λ r. eqb r a) (numbers_of list) || list_any (λ r. eqb r b) (numbers_of list)) && is_ordered here a b)
  told [] all = refl
  told (k ∷ list) all =
      let s = eqb k.number a in
      let t = eqb k.number b in
      let x = list_any (λ r. eqb r a) (numbers_of list) in
      let y = list_any (λ r. eqb r b) (numbers_of list) in
      let ord = is_ordered here a b in
      ap (λ (l : Bool). (l || (t && has k.below a)) || list_any (tells_pair a b) list) (first k s refl all.0)
      ∙ ap (λ (l : Bool). ((s && ord) || l) || list_any (tells_pair a b) list) (second k t refl all.0)
      ∙ ap (λ (l : Bool). ((s && ord) || (t && ord)) || l) (told list all.1)
      ∙ either s t ord (x || y)
      ∙ ap (λ (l : Bool). l && ord) (sorted_out s t x y)

  and_grouped : (m n q : Bool) → (m && (n && q)) ≡ ((m && n) && q)
  and_grouped true n q = refl
  and_grouped false n q = refl

  pair_same : (list : List Register) → AllByRecursion (λ k. IsRegister window k here) list → pair_kept list a b ≡ (is_pair (numbers_of list) a b && is_ordered here a b)
  pair_same list all =
      ap (λ (l : Bool). not (eqb a b) && l) (told list all)
      ∙ and_grouped (not (eqb a b)) (list_any (λ r. eqb r a) (numbers_of list) || list_any (λ r. eqb r b) (numbers_of list)) (is_ordered here a b)

-- what holds of the members of a filtered list

members_agree : (w s t : ℕ → Bool) (xs : List ℕ) → ((b : ℕ) → w b ≡ true → s b ≡ t b) → filter s (filter w xs) ≡ filter t (filter w xs)
members_agree w s t [] same = refl
members_agree w s t (x ∷ xs) same = by_member (members_agree w s t xs same) (w x) refl
  where
    by_member : filter s (filter w xs) ≡ filter t (filter w xs) → (m : Bool) → w x ≡ m → filter s (cond m (x ∷ filter w xs) (filter w xs)) ≡ filter t (cond m (x ∷ filter w xs) (filter w xs))
    by_member rest true is =
        ap (λ l. cond (s x) (x ∷ l) l) rest ∙ ap (λ b. cond b (x ∷ filter t (filter w xs)) (filter t (filter w xs))) (same x is)
    by_member rest false is = rest

flat_agree : (w : ℕ → Bool) (f g : ℕ → List Invariant) (xs : List ℕ) → ((a : ℕ) → w a ≡ true → f a ≡ g a) → flat_map f (filter w xs) ≡ flat_map g (filter w xs)
flat_agree w f g [] same = refl
flat_agree w f g (x ∷ xs) same = by_member (flat_agree w f g xs same) (w x) refl
  where
    by_member : flat_map f (filter w xs) ≡ flat_map g (filter w xs) → (m : Bool) → w x ≡ m → flat_map f (cond m (x ∷ filter w xs) (filter w xs)) ≡ flat_map g (cond m (x ∷ filter w xs) (filter w xs))
    by_member rest true is = ap (λ l. l ++ flat_map f (filter w xs)) (same x is) ∙ ap (λ l. g x ++ l) rest
    by_member rest false is = rest

-- the offset

offset_same : (p : ℕ) (kept : List ℕ) (more t : Bool) (numbers : List ℕ) → more ≡ t → IsFew 1 kept more numbers → cond t [] (sp_offset p kept) ≡ sp_offset p (distinct numbers)
offset_same p kept more true numbers is few = sym (several (distinct numbers) (few.over is))
  where
    several : (d : List ℕ) → 1 < length d → sp_offset p d ≡ []
    several [] h = absurd (omega arith)
    several (a ∷ []) h = absurd (omega arith)
    several (a ∷ b ∷ d) h = refl
offset_same p kept more false numbers is few = ap (sp_offset p) (few.all is)

-- all of it

module _ (text : Picture) (p : ℕ) (k : Point) (here : List Observation) (is : IsPoint (is_in_window text p) k here) where
  all : AllByRecursion (λ r. IsRegister (is_in_window text p) r here) k.registers.items
  all = recursion_from_All (λ r. IsRegister (is_in_window text p) r here) k.registers.items is.registers

  less_thans_same : flat_map (above_kept p k.registers.items (window_registers text p)) (window_registers text p) ≡ less_thans p (numbers_of k.registers.items) (window_registers text p) here
  less_thans_same =
      flat_agree (is_in_window text p) (above_kept p k.registers.items (window_registers text p)) (λ a. map (λ b. LessThan p a b) (filter (λ b. is_pair (numbers_of k.registers.items) a b && is_ordered here a b) (window_registers text p))) registers
      (λ a in_a. ap (map (λ b. LessThan p a b))
      (members_agree (is_in_window text p) (λ b. pair_kept k.registers.items a b) (λ b. is_pair (numbers_of k.registers.items) a b && is_ordered here a b) registers
      (λ b in_b. pair_same (is_in_window text p) here a b in_a in_b k.registers.items all)))

  pub learned_same : (reads : List ℕ) → numbers_of k.registers.items ≡ reads → learned_kept p (window_registers text p) k ≡ learned_at p reads (window_registers text p) here
  learned_same reads same =
      ap (λ l. l ++ flat_map (lower_kept p) k.registers.items ++ flat_map (above_kept p k.registers.items (window_registers text p)) (window_registers text p) ++ offset_kept p k) (one_ofs_same (is_in_window text p) p here k.registers.items all)
      ∙ ap (λ l. one_ofs p (numbers_of k.registers.items) here ++ l ++ flat_map (above_kept p k.registers.items (window_registers text p)) (window_registers text p) ++ offset_kept p k) (lowers_same (is_in_window text p) p here k.registers.items all)
      ∙ ap (λ l. one_ofs p (numbers_of k.registers.items) here ++ lowers p (numbers_of k.registers.items) here ++ l ++ offset_kept p k) less_thans_same
      ∙ ap (λ l. one_ofs p (numbers_of k.registers.items) here ++ lowers p (numbers_of k.registers.items) here ++ less_thans p (numbers_of k.registers.items) (window_registers text p) here ++ l) (offset_same p k.offsets.numbers.items k.offsets.more k.offsets.more (map offset_of here) refl is.offsets)
      ∙ ap (λ r. learned_at p r (window_registers text p) here) same
