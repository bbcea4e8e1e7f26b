-- The registers of a set, by a loop over 1 to 31.
use Rattle.std.proofs.Common.{◌≡◌, ℕ, suc, ◌+◌, ◌-◌, ◌<◌, ◌≤◌, Bool, true, false, cond, List, [], ◌∷◌, ◌++◌, ◌∙◌, refl, ap, sym, append_assoc, append-nil, arith}
use Rattle.std.specs.List.{filter, range_with_len}
use Rattle.cv_isa.specs.declared.registers.RegSet.{RegSet}
use Rattle.cv_isa.specs.Uses.{has, registers, members_of}

-- the members from r on
abbrev pub members_from : (ℕ → Bool) → ℕ → List ℕ
members_from p r = filter p (range_with_len r (32 - r))

first : (p : ℕ → Bool) (r : ℕ) → r < 32 → members_from p r ≡ cond (p r) (r ∷ members_from p (r + 1)) (members_from p (r + 1))
first p r below =
    let e : 32 - r ≡ suc (32 - (r + 1)) = omega arith in
    rw e refl

pub members_taken : (p : ℕ → Bool) (r : ℕ) (xs ys all : List ℕ) → r < 32 → p r ≡ true → ys ≡ xs ++ r ∷ [] → xs ++ members_from p r ≡ all → ys ++ members_from p (r + 1) ≡ all
members_taken p r xs ys all below is more before =
    rw more (append_assoc xs (r ∷ []) (members_from p (r + 1)) ∙ ap (λ t. xs ++ t) (sym (first p r below ∙ ap (λ (b : Bool). cond b (r ∷ members_from p (r + 1)) (members_from p (r + 1))) is)) ∙ before)

pub members_left : (p : ℕ → Bool) (r : ℕ) (xs ys all : List ℕ) → r < 32 → p r ≡ false → ys ≡ xs → xs ++ members_from p r ≡ all → ys ++ members_from p (r + 1) ≡ all
members_left p r xs ys all below is same before =
    rw same (ap (λ t. xs ++ t) (sym (first p r below ∙ ap (λ (b : Bool). cond b (r ∷ members_from p (r + 1)) (members_from p (r + 1))) is)) ∙ before)

pub members_end : (p : ℕ → Bool) (r : ℕ) (xs all : List ℕ) → 32 ≤ r → xs ++ members_from p r ≡ all → xs ≡ all
members_end p r xs all end before =
    let e : 32 - r ≡ 0 = omega arith in
    let none : members_from p r ≡ [] = rw e refl in
    sym (ap (λ t. xs ++ t) none ∙ append-nil xs) ∙ before

pub members_all : (set : RegSet) → members_from (has set) 1 ≡ members_of set
unfolding registers
members_all set = refl
