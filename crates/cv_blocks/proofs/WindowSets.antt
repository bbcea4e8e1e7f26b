-- Windows: one more point, and the sets of the points so far.
use Rattle.std.proofs.Common.{◌≡◌, ℕ, zero, suc, Bool, true, false, ◌||◌, ◌+◌, ◌*◌, ◌-◌, ◌<◌, ◌≤◌, max, eqb, List, [], ◌∷◌, ◌++◌, length, get_or, map, refl, sym, ap, ◌∙◌, inl, inr, arith}
use Rattle.std.specs.List.{list_any}
use Rattle.std.specs.Int.{bit_at}
use Rattle.std.specs.Int.Bits.{bit_or}
use Rattle.std.proofs.lemmas.Bool.{cases_lt}
use Rattle.std.proofs.lemmas.Bool.Decides.{nat_tests}
use Rattle.std.proofs.lemmas.Nat.Bits.{bit_at_or, bit_at-lt}
use Rattle.std.proofs.lemmas.List.{get_or_append_left, length_push}
use Rattle.std.proofs.Math.Seq.{get_or-append_seam}
use Rattle.cv_base.specs.Picture.{Picture}
use Rattle.cv_isa.specs.declared.registers.RegSet.{RegSet}
use Rattle.cv_isa.specs.Uses.{has}
use Rattle.cv_runs.specs.Text.{inst_at, points_before, reads, transfers}
use Rattle.cv_blocks.specs.TextMap.{is_in_window, AreWindows}

bit_or_test : (a b : ℕ) → a < 2 → b < 2 → eqb (max a b) 1 ≡ (eqb a 1 || eqb b 1)
bit_or_test a b small other = grind (arith, nat_tests)

-- a register is in the union of two sets where it is in one of them
pub has_union : (a b r : ℕ) → eqb (bit_at (bit_or a b) r) 1 ≡ (eqb (bit_at a r) 1 || eqb (bit_at b r) 1)
has_union a b r =
    ap (λ (n : ℕ). eqb n 1) (bit_at_or a b r) ∙ bit_or_test (bit_at a r) (bit_at b r) (bit_at-lt a r) (bit_at-lt b r)

-- no point before the first one, none before what follows a transfer, and else one more
pub none_counted : (image : Picture) (p count : ℕ) → count ≡ 0 → points_before image p count ≡ []
none_counted image p zero is = refl
none_counted image p (suc count) is = absurd (omega arith)

pub stopped : (image : Picture) (p count : ℕ) → (eqb p image.text_base || transfers (inst_at image (p - 4))) ≡ true → points_before image p count ≡ []
stopped image p zero is = refl
stopped image p (suc count) is =
    ap (λ (b : Bool). elim b as (λ _. List ℕ) [ true ↦ [] | false ↦ (p - 4) ∷ points_before image (p - 4) count ]) is

pub went_on : (image : Picture) (p count : ℕ) → 1 ≤ count → (eqb p image.text_base || transfers (inst_at image (p - 4))) ≡ false → points_before image p count ≡ (p - 4) ∷ points_before image (p - 4) (count - 1)
went_on image p zero some is = absurd (omega arith)
went_on image p (suc count) some is =
    let e : count ≡ suc count - 1 = omega arith in
    ap (λ (b : Bool). elim b as (λ _. List ℕ) [ true ↦ [] | false ↦ (p - 4) ∷ points_before image (p - 4) count ]) is
    ∙ ap (λ (n : ℕ). (p - 4) ∷ points_before image (p - 4) n) e

or_true : (b : Bool) → (b || true) ≡ true
or_true true = refl
or_true false = refl

or_false : (a b : Bool) → a ≡ false → b ≡ false → (a || b) ≡ false
or_false true b is other = cc
or_false false b is other = other

-- what is read at the points before one
abbrev read_at : Picture → ℕ → List ℕ → Bool
read_at image r points = list_any (λ i. reads i r) (map (inst_at image) points)

pub stopped_sets : (image : Picture) (p count : ℕ) (set : RegSet) → transfers (inst_at image (p - 4)) ≡ true → ((r : ℕ) → has set r ≡ false) → (r : ℕ) → has set r ≡ list_any (λ i. reads i r) (map (inst_at image) (points_before image p count))
stopped_sets image p count set is empty r =
    let test : (eqb p image.text_base || transfers (inst_at image (p - 4))) ≡ true = rw is (or_true (eqb p image.text_base)) in
    empty r ∙ sym (ap (read_at image r) (stopped image p count test))

pub more_sets : (image : Picture) (p count : ℕ) (set here rest : RegSet) → 1 ≤ count → eqb p image.text_base ≡ false → transfers (inst_at image (p - 4)) ≡ false → ((r : ℕ) → has set r ≡ (has here r || has rest r)) → ((r : ℕ) → has here r ≡ reads (inst_at image (p - 4)) r) → ((r : ℕ) → has rest r ≡ list_any (λ i. reads i r) (map (inst_at image) (points_before image (p - 4) (count - 1)))) → (r : ℕ) → has set r ≡ list_any (λ i. reads i r) (map (inst_at image) (points_before image p count))
more_sets image p count set here rest some inside goes union is_here is_rest r =
    union r
    ∙ ap (λ (b : Bool). b || has rest r) (is_here r)
    ∙ ap (λ (b : Bool). reads (inst_at image (p - 4)) r || b) (is_rest r)
    ∙ sym (ap (read_at image r) (went_on image p count some (or_false (eqb p image.text_base) (transfers (inst_at image (p - 4))) inside goes)))

-- one more set
pub no_windows : (image : Picture) → AreWindows image 0 []
no_windows image = record { as_many = refl; each = λ k d h. absurd (omega arith) }

last_set : (f : ℕ → Bool) (j k : ℕ) (sets : List RegSet) (set d : RegSet) (r : ℕ) → length sets ≡ k → j ≡ k → has set r ≡ f k → has (get_or (sets ++ set ∷ []) j d) r ≡ f j
last_set f j k sets set d r size at here =
    let read : get_or (sets ++ set ∷ []) j d ≡ set = ap (λ (n : ℕ). get_or (sets ++ set ∷ []) n d) (at ∙ sym size) ∙ get_or-append_seam sets set [] d in
    ap (λ (s : RegSet). has s r) read ∙ here ∙ ap f (sym at)

earlier_set : (f : ℕ → Bool) (j k : ℕ) (sets : List RegSet) (set d : RegSet) (r : ℕ) → length sets ≡ k → j < k → has (get_or sets j d) r ≡ f j → has (get_or (sets ++ set ∷ []) j d) r ≡ f j
earlier_set f j k sets set d r size below here =
    ap (λ (s : RegSet). has s r) (get_or_append_left sets (set ∷ []) d j (omega arith)) ∙ here

pub windows_more : (image : Picture) (k p : ℕ) (sets : List RegSet) (set : RegSet) → p ≡ image.text_base + 4 * k → AreWindows image k sets → ((r : ℕ) → has set r ≡ is_in_window image p r) → AreWindows image (k + 1) (sets ++ set ∷ [])
windows_more image k p sets set is are here = record {
  as_many = omega (arith, length_push sets set, are.as_many);
  each = λ j d below r.
      let f = λ (n : ℕ). is_in_window image (image.text_base + 4 * n) r in
      elim (cases_lt j k) [
        | inl before ↦ earlier_set f j k sets set d r are.as_many before (are.each j d before r)
        | inr last ↦ last_set f j k sets set d r are.as_many (omega arith) (here r ∙ ap (λ (n : ℕ). is_in_window image n r) is)
      ];
}
