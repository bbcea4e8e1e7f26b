-- What is called from the first points, and from one more.
use Rattle.std.proofs.Common.{◌≡◌, ℕ, Bool, ◌+◌, List, [], ◌∷◌, ◌++◌, map, Option, Some, None, refl, sym, ap, ◌∙◌, zero-add}
use Rattle.std.specs.Prelude.{option_to_list}
use Rattle.std.specs.List.{filter, filter_map, cons_option, range_with_len}
use Rattle.std.proofs.lemmas.List.Elements.{filter-append, filter_map-append}
use Rattle.std.proofs.lemmas.List.FromFn.{map-range_with_len_more}

cons_nothing : (o : Option ℕ) → cons_option o [] ≡ option_to_list o
cons_nothing None = refl
cons_nothing (Some x) = refl

more : (p : ℕ → Bool) (h : ℕ → Option ℕ) (f : ℕ → ℕ) (k : ℕ) → filter p (filter_map h (map f (range_with_len 0 (k + 1)))) ≡ filter p (filter_map h (map f (range_with_len 0 k))) ++ filter p (option_to_list (h (f k)))
more p h f k =
    ap (λ (l : List ℕ). filter p (filter_map h l)) (map-range_with_len_more f 0 k k (zero-add k))
    ∙ ap (λ (l : List ℕ). filter p l) (filter_map-append h (map f (range_with_len 0 k)) (f k ∷ []))
    ∙ filter-append p (filter_map h (map f (range_with_len 0 k))) (cons_option (h (f k)) [])
    ∙ ap (λ (l : List ℕ). filter p (filter_map h (map f (range_with_len 0 k))) ++ filter p l) (cons_nothing (h (f k)))

pub starts_more : (p : ℕ → Bool) (h : ℕ → Option ℕ) (f : ℕ → ℕ) (k a b : ℕ) (before after : List ℕ) → before ≡ a ∷ b ∷ filter p (filter_map h (map f (range_with_len 0 k))) → after ≡ before ++ filter p (option_to_list (h (f k))) → after ≡ a ∷ b ∷ filter p (filter_map h (map f (range_with_len 0 (k + 1))))
starts_more p h f k a b before after was added =
    added ∙ ap (λ (l : List ℕ). l ++ filter p (option_to_list (h (f k)))) was ∙ ap (λ (l : List ℕ). a ∷ b ∷ l) (sym (more p h f k))
