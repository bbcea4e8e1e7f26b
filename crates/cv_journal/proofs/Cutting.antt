-- How the code cuts a text.
use Rattle.std.proofs.Common.{◌≡◌, ℕ, suc, ◌+◌, ◌-◌, ◌<◌, ◌≤◌, ◌==◌, Bool, true, false, not, cond, List, [], ◌∷◌, ◌∙◌, Option, Some, None, length, take, drop, refl, sym, ap, arith, lt-ltb, inl, inr}
use Rattle.std.specs.Prelude.{nat_lt, option_map, position}
use Rattle.std.specs.List.{position_or_len}
use Rattle.std.proofs.lemmas.List.{length-drop, take_all}
use Rattle.std.proofs.lemmas.Bool.{and_from, cases_lt, le-ltb}
use Rattle.cv_journal.specs.Reading.{cut, pieces}
use Rattle.cv_journal.proofs.CutLaw.{cut_back, cut_shorter, front, lacks, pieces_at, pieces_plain}

-- the texts on both sides of a place
abbrev pub apart : List ℕ → ℕ → List ℕ × List ℕ
apart s at = (take at s, drop (at + 1) s)

cut_step : (b : ℕ) (bs : List ℕ) (k : ℕ) (same : Bool) (rest : Option (List ℕ × List ℕ)) → rest ≡ option_map (apart bs) (cond (nat_lt k (length bs)) (Some k) None)
    → cond {A = Option (List ℕ × List ℕ)} same (Some ([], bs)) (option_map (λ (p : List ℕ × List ℕ). (b ∷ p.0, p.1)) rest)
    ≡ option_map (apart (b ∷ bs)) (cond (nat_lt (cond (not same) (1 + k) 0) (suc (length bs))) (Some (cond (not same) (1 + k) 0)) None)
cut_step b bs k true rest is = let lt : nat_lt 0 (suc (length bs)) ≡ true = lt-ltb _ _ (omega arith) in rw lt refl
cut_step b bs k false rest is =
    elim (cases_lt k (length bs)) [
      | inl less ↦
          let lt : nat_lt k (length bs) ≡ true = lt-ltb _ _ less in
          let lt_too : nat_lt (1 + k) (suc (length bs)) ≡ true = lt-ltb _ _ (omega arith) in
          let one : suc k ≡ 1 + k = omega arith in
          let two : suc (k + 1) ≡ suc k + 1 = omega arith in
          ap (option_map (λ (p : List ℕ × List ℕ). (b ∷ p.0, p.1))) (is ∙ ap (λ t. option_map (apart bs) (cond t (Some k) None)) lt)
          ∙ ap (λ i. Some (take (suc k) (b ∷ bs), drop i (b ∷ bs))) two
          ∙ ap (λ i. Some (apart (b ∷ bs) i)) one
          ∙ ap (λ t. option_map (apart (b ∷ bs)) (cond t (Some (1 + k)) None)) (sym lt_too)
      | inr most ↦
          let ge : nat_lt k (length bs) ≡ false = le-ltb _ _ most in
          let ge_too : nat_lt (1 + k) (suc (length bs)) ≡ false = le-ltb _ _ (omega arith) in
          ap (option_map (λ (p : List ℕ × List ℕ). (b ∷ p.0, p.1))) (is ∙ ap (λ t. option_map (apart bs) (cond t (Some k) None)) ge)
          ∙ ap (λ t. option_map (apart (b ∷ bs)) (cond t (Some (1 + k)) None)) (sym ge_too)
    ]

pub cut_is : (mark : ℕ) (s : List ℕ) → cut mark s ≡ option_map (λ at. (take at s, drop (at + 1) s)) (position (λ b. b == mark) s)
unfolding cut
cut_is mark [] = refl
cut_is mark (b ∷ bs) = cut_step b bs (position_or_len (λ c. c == mark) bs) (b == mark) (cut mark bs) (cut_is mark bs)

pub cut_found : (mark at : ℕ) (s : List ℕ) → Some at ≡ position (λ b. b == mark) s → cut mark s ≡ Some (take at s, take (length s - (at + 1)) (drop (at + 1) s))
cut_found mark at s h =
    let all : length (drop (at + 1) s) ≤ length s - (at + 1) = omega (arith, length-drop {A = ℕ}) in
    cut_is mark s ∙ ap (option_map (λ i. (take i s, drop (i + 1) s))) (sym h) ∙ ap (λ l. Some (take at s, l)) (sym (take_all (length s - (at + 1)) (drop (at + 1) s) all))

pub cut_nowhere : (mark : ℕ) (s : List ℕ) → None ≡ position (λ b. b == mark) s → cut mark s ≡ None
cut_nowhere mark s h = cut_is mark s ∙ ap (option_map (λ i. (take i s, drop (i + 1) s))) (sym h)

-- no mark stands before the first one
front_step : (mark b : ℕ) (bs a t : List ℕ) (same : Bool) (rest : Option (List ℕ × List ℕ)) → (b == mark) ≡ same → ((u v : List ℕ) → rest ≡ Some (u, v) → lacks mark u ≡ true)
    → cond {A = Option (List ℕ × List ℕ)} same (Some ([], bs)) (option_map (λ (p : List ℕ × List ℕ). (b ∷ p.0, p.1)) rest) ≡ Some (a, t) → lacks mark a ≡ true
front_step mark b bs a t true rest is rec h = ap (lacks mark) (sym (ap front h))
front_step mark b bs a t false None is rec h = absurd (cc)
front_step mark b bs a t false (Some p) is rec h = ap (lacks mark) (sym (ap front h)) ∙ and_from _ _ (ap not is) (rec p.0 p.1 refl)

front_lacks : (mark : ℕ) (s a t : List ℕ) → cut mark s ≡ Some (a, t) → lacks mark a ≡ true
unfolding cut
front_lacks mark [] a t h = absurd (cc)
front_lacks mark (b ∷ bs) a t h = front_step mark b bs a t (b == mark) (cut mark bs) refl (λ u v e. front_lacks mark bs u v e) h

uncut_step : (mark b : ℕ) (bs : List ℕ) (same : Bool) (rest : Option (List ℕ × List ℕ)) → (b == mark) ≡ same → (rest ≡ None → lacks mark bs ≡ true)
    → cond {A = Option (List ℕ × List ℕ)} same (Some ([], bs)) (option_map (λ (p : List ℕ × List ℕ). (b ∷ p.0, p.1)) rest) ≡ None → lacks mark (b ∷ bs) ≡ true
uncut_step mark b bs true rest is rec h = absurd (cc)
uncut_step mark b bs false None is rec h = and_from _ _ (ap not is) (rec refl)
uncut_step mark b bs false (Some p) is rec h = absurd (cc)

uncut_lacks : (mark : ℕ) (s : List ℕ) → cut mark s ≡ None → lacks mark s ≡ true
unfolding cut
uncut_lacks mark [] h = refl
uncut_lacks mark (b ∷ bs) h = uncut_step mark b bs (b == mark) (cut mark bs) refl (λ e. uncut_lacks mark bs e) h

pub piece_first : (mark : ℕ) (s a t : List ℕ) → Some (a, t) ≡ cut mark s → pieces mark s ≡ a ∷ pieces mark t
piece_first mark s a t h = ap (pieces mark) (cut_back mark s a t (sym h)) ∙ pieces_at mark a t (front_lacks mark s a t (sym h))

pub piece_alone : (mark : ℕ) (s : List ℕ) → None ≡ cut mark s → pieces mark s ≡ s ∷ []
piece_alone mark s h = pieces_plain mark s (uncut_lacks mark s (sym h))

pub rest_shorter : (mark : ℕ) (s a t : List ℕ) → Some (a, t) ≡ cut mark s → length t < length s
rest_shorter mark s a t h = let e : length a + length t + 1 ≡ length s = cut_shorter mark s a t (sym h) in omega arith
