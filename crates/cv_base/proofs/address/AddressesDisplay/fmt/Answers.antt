use Rattle.std.proofs.Common.{map, sym, ap, arith, ◌≡◌, ℕ, ◌≤◌, ◌-◌, List, [], ◌∷◌, ◌++◌, length, get_or, take, drop}
use Rattle.std.specs.List.{flat_map, join_with_byte}
use Rattle.std.proofs.lemmas.List.{append-nil, take_rest}
use Rattle.cv_base.specs.Text.{address_text}
use Rattle.cv_base.specs.InvariantText.{list_text}
use Rattle.cv_base.proofs.address.AddressesDisplay.fmt.Goals as goal

joined : (x : ℕ) (xs : List ℕ) → join_with_byte 44 (address_text x ∷ map address_text xs) ≡ address_text x ++ flat_map (λ n. 44 ∷ address_text n) xs
joined x [] = sym (append-nil (address_text x))
joined x (y ∷ ys) = ap (λ (l : List ℕ). address_text x ++ 44 ∷ l) (joined y ys)

first_and_rest : (xs : List ℕ) → 1 ≤ length xs → list_text (map address_text xs) ≡ address_text (get_or xs 0 0) ++ flat_map (λ n. 44 ∷ address_text n) (drop 1 xs)
first_and_rest [] some = absurd (omega arith)
first_and_rest (x ∷ xs) some = joined x xs

list_joined : (xs : List ℕ) → 1 ≤ length xs → list_text (map address_text xs) ≡ address_text (get_or xs 0 0) ++ flat_map (λ n. 44 ∷ address_text n) (take (length xs - 1) (drop 1 xs))
list_joined xs some = rw (take_rest xs 1) (first_and_rest xs some)

pub returns-in-len1-up-clause-writes : goal.returns-in-len1-up-clause-writes
returns-in-len1-up-clause-writes g c =
    λ plain ok. rw (list_joined c.args.self.now.0.now c.in-len1-up.len_at_least) (c.write-in-len1-up.ensures.writes plain ok)
