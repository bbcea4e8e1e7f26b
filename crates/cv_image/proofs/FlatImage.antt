-- A file of 1 to 65,536 words is an image.
use Rattle.std.proofs.Common.{◌≡◌, ◌≤◌, ◌<◌, ℕ, ◌%◌, List, length, refl, arith}
use Rattle.std.proofs.lemmas.Bool.Decides.{nat_tests}
use Rattle.cv_base.specs.WellFormed.{IsImage}
use Rattle.cv_image.specs.FlatReading.{flat_picture}
use Rattle.cv_image.proofs.WordsOf.{length-words_of, words_of-whole}

pub IsImage-flat : (bytes : List ℕ) → 0 < length bytes → length bytes % 4 ≡ 0 → length bytes ≤ 262144 → IsImage (flat_picture bytes)
IsImage-flat bytes some whole few =
    let n = length-words_of bytes in
    record {
      few_segments = omega arith;
      placed = grind (arith, nat_tests);
      apart = refl;
      one_text = refl;
      code_fixed = refl;
      some_words = omega arith;
      few_words = omega arith;
      aligned = refl;
      text = record { starts = omega arith; ends = omega arith; spelled = words_of-whole bytes };
      entry = grind (arith, nat_tests);
    }
