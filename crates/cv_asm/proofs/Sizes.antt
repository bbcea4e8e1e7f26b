-- Sizes kept up to the cap are the capped sizes.
use Rattle.std.proofs.Common.{◌≡◌, ℕ, ◌+◌, ◌*◌, ◌<◌, ◌⊎◌, inl, inr, Bool, true, false, cond, ◌&&◌, nat_lt, List, [], ◌∷◌, length, None, refl, sym, ap, ◌∙◌, arith}
use Rattle.std.proofs.lemmas.Bool.Decides.{nat_tests}
use Rattle.std.specs.List.{list_all}
use Rattle.std.specs.Option.{option_map}
use Rattle.std.specs.Char.{digit_value, is_digit}
use Rattle.std.specs.Str.Parse.{digits_value, digits_value_after}
use Rattle.cv_asm.specs.Capped.{capped, sized}
use Rattle.cv_asm.specs.Operands.{digits_in}
use Rattle.cv_asm.specs.Results.{only_where}

-- one digit more, over the capped value or over the value
one_more : (base n d : ℕ) → (base ≡ 10) ⊎ (base ≡ 16) → capped (capped n * base + d) ≡ capped (n * base + d)
one_more base n d (inl ten) = ap (λ b. capped (capped n * b + d)) ten ∙ at_ten ∙ sym (ap (λ b. capped (n * b + d)) ten)
  where
    at_ten : capped (capped n * 10 + d) ≡ capped (n * 10 + d)
    at_ten = omega arith
one_more base n d (inr more) = ap (λ b. capped (capped n * b + d)) more ∙ at_sixteen ∙ sym (ap (λ b. capped (n * b + d)) more)
  where
    at_sixteen : capped (capped n * 16 + d) ≡ capped (n * 16 + d)
    at_sixteen = omega arith

digit_by : (base n : ℕ) (c : ℕ) (cs : List ℕ) (passes : Bool) → (base ≡ 10) ⊎ (base ≡ 16)
    → sized base (capped (n * base + digit_value c)) cs ≡ option_map capped (only_where (list_all (λ c. is_digit c base) cs) (digits_value_after base (n * base + digit_value c) cs))
    → cond passes (sized base (capped (capped n * base + digit_value c)) cs) None ≡ option_map capped (only_where (passes && list_all (λ c. is_digit c base) cs) (digits_value_after base (n * base + digit_value c) cs))
digit_by base n c cs true of more = ap (λ m. sized base m cs) (one_more base n (digit_value c) of) ∙ more
digit_by base n c cs false of more = refl

sized_from : (base n : ℕ) (ds : List ℕ) → (base ≡ 10) ⊎ (base ≡ 16) → sized base (capped n) ds ≡ option_map capped (only_where (list_all (λ c. is_digit c base) ds) (digits_value_after base n ds))
sized_from base n [] of = refl
sized_from base n (c ∷ cs) of = digit_by base n c cs (is_digit c base) of (sized_from base (n * base + digit_value c) cs of)

pub sized_is : (base : ℕ) (ds : List ℕ) → (base ≡ 10) ⊎ (base ≡ 16) → 0 < length ds → sized base 0 ds ≡ option_map capped (digits_in base ds)
sized_is base [] of some = absurd (omega arith)
sized_is base (c ∷ cs) of some = start ∙ whole (list_all (λ c. is_digit c base) (c ∷ cs)) ∙ none
  where
    start : sized base 0 (c ∷ cs) ≡ option_map capped (only_where (list_all (λ c. is_digit c base) (c ∷ cs)) (digits_value base (c ∷ cs)))
    start = sized_from base 0 (c ∷ cs) of

    whole : (b : Bool) → option_map capped (only_where b (digits_value base (c ∷ cs))) ≡ option_map capped (only_where (true && b) (digits_value base (c ∷ cs)))
    whole b = refl

    positive : nat_lt 0 (length (c ∷ cs)) ≡ true
    positive = grind (arith, nat_tests)

    none : option_map capped (only_where (true && list_all (λ c. is_digit c base) (c ∷ cs)) (digits_value base (c ∷ cs))) ≡ option_map capped (digits_in base (c ∷ cs))
    none = ap (λ b. option_map capped (only_where (b && list_all (λ c. is_digit c base) (c ∷ cs)) (digits_value base (c ∷ cs)))) (sym positive)
