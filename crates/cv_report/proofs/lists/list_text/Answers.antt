use Rattle.std.proofs.Common.{◌≡◌, ◌≤◌, ℕ, List, [], ◌∷◌, ◌++◌, ◌-◌, ◌∙◌, length, get_or, take, drop, map, sym, ap, arith}
use Rattle.std.specs.List.{flat_map, join_with_byte}
use Rattle.std.proofs.lemmas.List.{append-nil, take_rest}
use Rattle.cv_base.specs.InvariantText.{list_text}
use Rattle.cv_report.proofs.lists.list_text.Goals as goal

module _ {A : Type 0} (written : A → List ℕ) where
  joined : (x : A) (xs : List A) → join_with_byte 44 (written x ∷ map written xs) ≡ written x ++ flat_map (λ n. 44 ∷ written n) xs
  joined x [] = sym (append-nil (written x))
  joined x (y ∷ ys) = ap (λ (l : List ℕ). written x ++ 44 ∷ l) (joined y ys)

  first_and_rest : (xs : List A) (x : A) → 1 ≤ length xs → x ≡ get_or xs 0 x → list_text (map written xs) ≡ written x ++ flat_map (λ n. 44 ∷ written n) (drop 1 xs)
  first_and_rest [] x some first = absurd (omega arith)
  first_and_rest (y ∷ ys) x some first = rw first (joined y ys)

  list_joined : (xs : List A) (x : A) → 1 ≤ length xs → x ≡ get_or xs 0 x → list_text (map written xs) ≡ written x ++ flat_map (λ n. 44 ∷ written n) (take (length xs - 1) (drop 1 xs))
  list_joined xs x some first = rw (take_rest xs 1) (first_and_rest xs x some first)

pub returns-in_ok-add_rest-in-len1-up : goal.returns-in_ok-add_rest-in-len1-up
returns-in_ok-add_rest-in-len1-up g c =
    c.in_ok-add_rest-in-len1-up.ensures
    ∙ ap (λ l. l ++ flat_map (λ n. 44 ∷ g.R.Row.written n) (take (length c.args.rows.now - 1) (drop 1 c.args.rows.now))) c.in_ok-text-in-len1-up.ensures
    ∙ sym (list_joined g.R.Row.written c.args.rows.now c.first-item.result c.in-len1-up.len_at_least c.first-item.is)
