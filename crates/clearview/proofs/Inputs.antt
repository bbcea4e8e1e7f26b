-- Which words are inputs.
use Rattle.std.proofs.Common.{◌≡◌, ℕ, ◌%◌, ◌≤◌, true, false, List, [], ◌∷◌, length, codes, is_some, IsSome, Ok, Err, refl, sym, ◌∙◌, arith}
use Rattle.std.proofs.lemmas.Bool.Decides.{nat_tests}
use Rattle.std.proofs.lemmas.List.Sums.{AllPass-from_list_all, list_all-from_AllPass}
use Rattle.std.specs.Char.{is_ascii_hexdigit}
use Rattle.std.specs.List.{list_all}
use Rattle.std.specs.Result.{result_ok}
use Rattle.std.specs.Str.{bytes_eq}
use Rattle.hex.proofs.HexLemmas.{decode_of-digits, decode_of-ok}
use Rattle.hex.specs.Hex.{decode_of, is_hex_digit}
use Rattle.clearview.specs.Words.{input_of}

same_digit : (c : ℕ) → is_ascii_hexdigit c ≡ is_hex_digit c
same_digit c = grind (arith, nat_tests)

same_digits : (word : List ℕ) → list_all is_ascii_hexdigit word ≡ list_all is_hex_digit word
same_digits [] = refl
same_digits (c ∷ word) = let e = same_digit c in let rest = same_digits word in cc

-- an even number of characters decodes where they are digits
decodes : (word : List ℕ) → length word % 2 ≡ 0 → is_some (result_ok (decode_of word)) ≡ list_all is_hex_digit word
decodes word even =
    elim (decode_of word) as (λ r. decode_of word ≡ r → is_some (result_ok r) ≡ list_all is_hex_digit word) [
      | Ok bytes ↦ λ e. sym (list_all-from_AllPass is_hex_digit word (decode_of-ok word bytes e).1)
      | Err x ↦ λ e.
          elim (list_all is_hex_digit word) as (λ b. list_all is_hex_digit word ≡ b → false ≡ b) [
            | true ↦ λ h. let d = decode_of-digits word even (AllPass-from_list_all is_hex_digit word h) in cc (sym e ∙ d.1)
            | false ↦ λ h. refl
          ] refl
    ] refl

pub input_test : (word : List ℕ) → bytes_eq word (codes "none") ≡ false → 2 ≤ length word → length word ≤ 131072
    → length word % 2 ≡ 0 → list_all is_ascii_hexdigit word ≡ is_some (input_of word)
input_test word other some few even = let e = same_digits word in let d = decodes word even in grind (arith, nat_tests)

pub decoded_short : (word bytes : List ℕ) → IsSome (input_of word) → bytes_eq word (codes "none") ≡ false
    → decode_of word ≡ Ok bytes → length bytes ≤ 65536
decoded_short word bytes is other ok = let e = (decode_of-ok word bytes ok).2 in grind (arith, nat_tests)
