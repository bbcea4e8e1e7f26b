-- What is learned does not depend on the order of the observations.
use Rattle.std.proofs.Common.{◌≡◌, ℕ, ◌^◌, ◌<◌, Bool, true, false, cond, ◌&&◌, eqb, leb, List, [], ◌∷◌, ◌∙◌, Option, None, refl, sym, ap, fold, map, length, get_or, unwrap_or, ⊎_elim, arith}
use Rattle.std.proofs.Math.Path.{fun_ext}
use Rattle.std.proofs.lemmas.Bool.{cases_lt}
use Rattle.std.proofs.lemmas.List.{get_or_past}
use Rattle.std.proofs.lemmas.List.Elements.{All-filter, All-map, All-weaker, recursion_from_All}
use Rattle.std.proofs.lemmas.List.Folds.{fold-map}
use Rattle.std.proofs.lemmas.List.Sorted.{All-permutation}
use Rattle.std.specs.List.{All, filter, flat_map, list_all}
use Rattle.std.specs.List.Sorted.{IsPermutation}
use Rattle.cv_base.specs.declared.entries.Observation.{Observation}
use Rattle.cv_base.specs.declared.invariants.Invariant.{Invariant}
use Rattle.cv_base.specs.declared.invariants.Invariant.TheVariants.{Lower, LessThan}
use Rattle.cv_base.specs.Picture.{Picture}
use Rattle.cv_base.specs.Registers.{register}
use Rattle.cv_runs.specs.Arithmetic.{minus32}
use Rattle.cv_runs.specs.Invariants.{signed_le}
use Rattle.cv_runs.specs.Learned.{distinct, values_of, signed_least, one_of, one_ofs, lowers, is_pair, is_ordered, less_thans, offsets_of, sp_offset, learned_at, seen_at, learned}
use Rattle.cv_runs.specs.Text.{reads_at, window_registers}
use Rattle.cv_observe.proofs.Folds.{fold-IsPermutation, fold-passing}
use Rattle.cv_observe.proofs.Insertions.{put, put_put}
use Rattle.cv_observe.proofs.Least.{least_so_far, least_flips, signed_least_is}
use Rattle.cv_observe.specs.Words.{HaveWords}

pub and_flips : (s p q : Bool) → ((s && p) && q) ≡ ((s && q) && p)
and_flips true true true = refl
and_flips true true false = refl
and_flips true false true = refl
and_flips true false false = refl
and_flips false p q = refl

pub and_joined : (s p q : Bool) → ((s && p) && q) ≡ (s && (p && q))
and_joined true p q = refl
and_joined false p q = refl

pub and_alone : (s : Bool) → s ≡ (s && true)
and_alone true = refl
and_alone false = refl

pub all_so_far : {X : Type 0} (test : X → Bool) (s : Bool) (xs : List X) → fold (λ b x. b && test x) s xs ≡ (s && list_all test xs)
all_so_far test s [] = and_alone s
all_so_far test s (x ∷ xs) = all_so_far test (s && test x) xs ∙ and_joined s (test x) (list_all test xs)

register_below : (r : ℕ) (regs : List ℕ) → All (λ (v : ℕ). v < 2 ^ 32) regs → register regs r < 2 ^ 32
register_below r regs all =
    ⊎_elim
    (λ within. all r 0 within)
    (λ past. let e : get_or regs r 0 ≡ 0 = get_or_past regs r 0 past in omega arith)
    (cases_lt r (length regs))

module _ (xs ys : List Observation) (same : IsPermutation xs ys) where
  points_same : distinct (map (λ (o : Observation). o.point) xs) ≡ distinct (map (λ (o : Observation). o.point) ys)
  points_same =
      let g : Observation → ℕ = λ o. o.point in
      let flips = λ (s : List ℕ) (a b : Observation). put_put s (g a) (g b) in
      fold-map put g [] xs ∙ sym (fold-IsPermutation (λ s o. put s (g o)) flips [] xs ys same) ∙ sym (fold-map put g [] ys)

  module _ (p : ℕ) where
    pub distinct_same : (g : Observation → ℕ) → distinct (map g (seen_at xs p)) ≡ distinct (map g (seen_at ys p))
    distinct_same g =
        let flips = λ (s : List ℕ) (a b : Observation). put_put s (g a) (g b) in
        fold-map put g [] (seen_at xs p)
        ∙ fold-passing (λ (o : Observation). eqb o.point p) (λ s o. put s (g o)) flips [] xs ys same
        ∙ sym (fold-map put g [] (seen_at ys p))

    least_same : HaveWords xs → (r : ℕ) → signed_least (values_of r (seen_at xs p)) ≡ signed_least (values_of r (seen_at ys p))
    least_same words r =
        let g : Observation → ℕ = λ o. register o.regs r in
        let at : Observation → Bool = λ o. eqb o.point p in
        let Whole : Observation → Type 0 = λ o. All (λ (v : ℕ). v < 2 ^ 32) o.regs in
        let flips = λ (s : Option ℕ) (a b : Observation). least_flips s (g a) (g b) in
        let below = λ (zs : List Observation) (all : HaveWords zs).
        recursion_from_All (λ (v : ℕ). v < 2 ^ 32) (values_of r (seen_at zs p))
        (All-map (λ (v : ℕ). v < 2 ^ 32) g (seen_at zs p) (All-filter at (λ (o : Observation). g o < 2 ^ 32) zs (All-weaker Whole (λ (o : Observation). g o < 2 ^ 32) (λ o h. register_below r o.regs h) zs all))) in
        signed_least_is (values_of r (seen_at xs p)) (below xs words)
        ∙ ap (λ (t : Option ℕ). unwrap_or t 0)
        (fold-map least_so_far g None (seen_at xs p)
        ∙ fold-passing at (λ s o. least_so_far s (g o)) flips None xs ys same
        ∙ sym (fold-map least_so_far g None (seen_at ys p)))
        ∙ sym (signed_least_is (values_of r (seen_at ys p)) (below ys (All-permutation Whole xs ys same words)))

    pub tests_same : (test : Observation → Bool) → list_all test (seen_at xs p) ≡ list_all test (seen_at ys p)
    tests_same test =
        sym (all_so_far test true (seen_at xs p))
        ∙ fold-passing (λ (o : Observation). eqb o.point p) (λ s o. s && test o) (λ s c d. and_flips s (test c) (test d)) true xs ys same
        ∙ all_so_far test true (seen_at ys p)

    pub ordered_same : (a b : ℕ) → is_ordered (seen_at xs p) a b ≡ is_ordered (seen_at ys p) a b
    ordered_same a b = tests_same (λ (o : Observation). signed_le (register o.regs a) (register o.regs b))

    one_ofs_same : (reads : List ℕ) → one_ofs p reads (seen_at xs p) ≡ one_ofs p reads (seen_at ys p)
    one_ofs_same reads =
        ap (λ (d : ℕ → List ℕ). flat_map (λ r. one_of p r (d r)) reads) (fun_ext (λ r. distinct_same (λ (o : Observation). register o.regs r)))

    lowers_same : HaveWords xs → (reads : List ℕ) → lowers p reads (seen_at xs p) ≡ lowers p reads (seen_at ys p)
    lowers_same words reads =
        ap (λ (d : ℕ → List ℕ). flat_map (λ r. cond (leb (length (d r)) 4) [] (Lower p r (signed_least (values_of r (seen_at xs p))) ∷ [])) reads) (fun_ext (λ r. distinct_same (λ (o : Observation). register o.regs r)))
        ∙ ap (λ (l : ℕ → ℕ). flat_map (λ r. cond (leb (length (distinct (values_of r (seen_at ys p)))) 4) [] (Lower p r (l r) ∷ [])) reads) (fun_ext (λ r. least_same words r))

    less_thans_same : (reads window : List ℕ) → less_thans p reads window (seen_at xs p) ≡ less_thans p reads window (seen_at ys p)
    less_thans_same reads window =
        ap (λ (t : ℕ → ℕ → Bool). flat_map (λ a. map (λ b. LessThan p a b) (filter (λ b. is_pair reads a b && t a b) window)) window)
        (fun_ext (λ a. fun_ext (λ b. ordered_same a b)))

    sp_offset_same : sp_offset p (offsets_of (seen_at xs p)) ≡ sp_offset p (offsets_of (seen_at ys p))
    sp_offset_same = ap (λ offsets. sp_offset p offsets) (distinct_same (λ (o : Observation). minus32 (register o.regs 2) o.frame_sp))

    learned_at_same : HaveWords xs → (reads window : List ℕ) → learned_at p reads window (seen_at xs p) ≡ learned_at p reads window (seen_at ys p)
    learned_at_same words reads window =
        rw (one_ofs_same reads, lowers_same words reads, less_thans_same reads window, sp_offset_same) refl

  pub learned_same : (image : Picture) → HaveWords xs → learned image xs ≡ learned image ys
  learned_same image words =
      ap (λ (points : List ℕ). flat_map (λ p. learned_at p (reads_at image p) (window_registers image p) (seen_at xs p)) points) points_same
      ∙ ap (λ (at : ℕ → List Invariant). flat_map at (distinct (map (λ (o : Observation). o.point) ys)))
      (fun_ext (λ p. learned_at_same p words (reads_at image p) (window_registers image p)))
