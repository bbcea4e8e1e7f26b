-- A summary stands for its observations in any order.
use Rattle.std.proofs.Common.{◌≡◌, ℕ, suc, ◌+◌, ◌^◌, ◌<◌, Bool, true, false, ◌&&◌, eqb, ltb, List, [], ◌∷◌, ◌∙◌, Option, None, refl, sym, ap, subst, fold, map, length, arith}
use Rattle.std.proofs.lemmas.Bool.Decides.{nat_tests}
use Rattle.std.proofs.lemmas.List.Elements.{All-from_recursion, All-weaker, recursion_from_All}
use Rattle.std.proofs.lemmas.List.Folds.{fold-map}
use Rattle.std.specs.List.{All, AllByRecursion, list_all}
use Rattle.std.specs.List.Sorted.{IsPermutation}
use Rattle.cv_base.specs.declared.entries.Observation.{Observation}
use Rattle.cv_base.specs.Picture.{is_point}
use Rattle.cv_base.specs.Registers.{register}
use Rattle.cv_observe.proofs.AnyOrder.{all_so_far, and_flips, distinct_same, ordered_same, tests_same}
use Rattle.cv_observe.proofs.Folds.{fold-IsPermutation, fold-passing}
use Rattle.cv_observe.proofs.Least.{least_flips, least_is, least_so_far}
use Rattle.cv_observe.specs.AtPoint.{IsPoint, IsRegister, offset_of}
use Rattle.cv_observe.specs.Kept.{IsFew, least_of}
use Rattle.cv_observe.specs.StandsFor.{StandsFor, SummaryOf, point_at}
use Rattle.cv_observe.specs.declared.point.Point.{Point}
use Rattle.cv_observe.specs.declared.register.Register.{Register}
use Rattle.cv_runs.specs.Learned.{seen_at}

counted : (n : ℕ) (zs : List Observation) → fold (λ m o. suc m) n zs ≡ n + length zs
counted n [] = omega arith
counted n (z ∷ zs) = let e : suc n + length zs ≡ n + suc (length zs) = omega arith in counted (suc n) zs ∙ e

sized : (zs : List Observation) → fold (λ m o. suc m) 0 zs ≡ length zs
sized zs = let e : 0 + length zs ≡ length zs = omega arith in counted 0 zs ∙ e

empty : (zs : List Observation) → length zs ≡ 0 → zs ≡ []
empty [] is = refl
empty (z ∷ zs) is = absurd (omega arith)

-- numbers are words exactly where they pass a test

abbrev Words : List ℕ → Type 0
Words numbers = All (λ (v : ℕ). v < 2 ^ 32) numbers

abbrev is_word : ℕ → Bool
is_word n = ltb n (2 ^ 32)

first_true : (b c : Bool) → (b && c) ≡ true → b ≡ true
first_true true c is = refl
first_true false c is = is

second_true : (b c : Bool) → (b && c) ≡ true → c ≡ true
second_true true c is = is
second_true false c is = cc

module _ (g : Observation → ℕ) where
  tested : (zs : List Observation) → AllByRecursion (λ (v : ℕ). v < 2 ^ 32) (map g zs) → list_all (λ o. is_word (g o)) zs ≡ true
  tested [] all = refl
  tested (z ∷ zs) all =
      let below = all.0 in
      let e : is_word (g z) ≡ true = grind (arith, nat_tests) in
      ap (λ b. b && list_all (λ o. is_word (g o)) zs) e ∙ tested zs all.1

  untested : (zs : List Observation) → list_all (λ o. is_word (g o)) zs ≡ true → AllByRecursion (λ (v : ℕ). v < 2 ^ 32) (map g zs)
  untested [] is = tt
  untested (z ∷ zs) is =
      let e : is_word (g z) ≡ true = first_true (is_word (g z)) (list_all (λ o. is_word (g o)) zs) is in
      let below : g z < 2 ^ 32 = grind (arith, nat_tests) in
      (below, untested zs (second_true (is_word (g z)) (list_all (λ o. is_word (g o)) zs) is))

module _ (xs ys : List Observation) (same : IsPermutation xs ys) where
  all_same : (test : Observation → Bool) → list_all test xs ≡ true → list_all test ys ≡ true
  all_same test all =
      sym (all_so_far test true ys)
      ∙ fold-IsPermutation (λ s o. s && test o) (λ s c d. and_flips s (test c) (test d)) true xs ys same
      ∙ all_so_far test true xs
      ∙ all

  -- what was seen at a point

  module _ (p : ℕ) where
    length_same : length (seen_at xs p) ≡ length (seen_at ys p)
    length_same =
        sym (sized (seen_at xs p))
        ∙ fold-passing (λ (o : Observation). eqb o.point p) (λ m o. suc m) (λ m a b. refl) 0 xs ys same
        ∙ sized (seen_at ys p)

    few_same : (n : ℕ) (kept : List ℕ) (more : Bool) (g : Observation → ℕ) → IsFew n kept more (map g (seen_at xs p)) → IsFew n kept more (map g (seen_at ys p))
    few_same n kept more g few =
        let numbers = distinct_same xs ys same p g in
        record { all = λ is. few.all is ∙ numbers; few = few.few; over = λ is. subst (λ (l : List ℕ). n < length l) numbers (few.over is) }

    module _ (g : Observation → ℕ) (words : Words (map g (seen_at xs p))) where
      words_same : Words (map g (seen_at ys p))
      words_same =
          All-from_recursion (λ (v : ℕ). v < 2 ^ 32) (map g (seen_at ys p))
          (untested g (seen_at ys p) (sym (tests_same xs ys same p (λ o. is_word (g o))) ∙ tested g (seen_at xs p) (recursion_from_All (λ (v : ℕ). v < 2 ^ 32) (map g (seen_at xs p)) words)))

      least_same : least_of (map g (seen_at xs p)) ≡ least_of (map g (seen_at ys p))
      least_same =
          let flips = λ (s : Option ℕ) (a b : Observation). least_flips s (g a) (g b) in
          least_is (map g (seen_at xs p)) (recursion_from_All (λ (v : ℕ). v < 2 ^ 32) (map g (seen_at xs p)) words)
          ∙ fold-map least_so_far g None (seen_at xs p)
          ∙ fold-passing (λ (o : Observation). eqb o.point p) (λ s o. least_so_far s (g o)) flips None xs ys same
          ∙ sym (fold-map least_so_far g None (seen_at ys p))
          ∙ sym (least_is (map g (seen_at ys p)) (recursion_from_All (λ (v : ℕ). v < 2 ^ 32) (map g (seen_at ys p)) words_same))

    register_same : (window : ℕ → Bool) (k : Register) → IsRegister window k (seen_at xs p) → IsRegister window k (seen_at ys p)
    register_same window k is =
        let g : Observation → ℕ = λ o. register o.regs k.number in record {
          values = few_same 4 k.values.numbers.items k.values.more g is.values;
          words = words_same g is.words;
          least = is.least ∙ least_same g is.words;
          above = λ b. is.above b ∙ ap (λ t. window b && t) (ordered_same xs ys same p k.number b);
          below = λ b. is.below b ∙ ap (λ t. window b && t) (ordered_same xs ys same p b k.number);
        }

    point_same : (window : ℕ → Bool) (k : Point) → IsPoint window k (seen_at xs p) → IsPoint window k (seen_at ys p)
    point_same window k is = record {
      unseen = λ e. empty (seen_at ys p) (sym length_same ∙ ap length (is.unseen e));
      seen = λ e. subst (λ (n : ℕ). 0 < n) length_same (is.seen e);
      offsets = few_same 1 k.offsets.numbers.items k.offsets.more offset_of is.offsets;
      registers = All-weaker (λ r. IsRegister window r (seen_at xs p)) (λ r. IsRegister window r (seen_at ys p)) (λ r of. register_same window r of) k.registers.items is.registers;
    }

  pub stands_same : (s : SummaryOf) → StandsFor s xs → StandsFor s ys
  stands_same s stands = record {
    at_points = all_same (λ (o : Observation). is_point s.text o.point) stands.at_points;
    each = λ x d within. point_same (point_at s.text x) _ _ (stands.each x d within);
  }
