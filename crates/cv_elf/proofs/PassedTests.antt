-- What is known where no test of an ELF file gave a fault.
use Rattle.std.proofs.Common.{◌≡◌, ◌≤◌, ◌==◌, ℕ, Bool, true, false, not, nat_lt, List, [], ◌∷◌, length, find, Option, Some, None, refl, arith}
use Rattle.std.specs.List.{filter, list_any}
use Rattle.std.proofs.lemmas.Bool.{not-false}
use Rattle.std.proofs.lemmas.Bool.Decides.{nat_tests}
use Rattle.cv_base.specs.declared.image.ImageFault.{ImageFault}
use Rattle.cv_base.specs.declared.image.ImageFault.TheVariants as fault
use Rattle.cv_base.specs.Points.{is_point_in}
use Rattle.cv_elf.specs.declared.header.ProgramHeader.{ProgramHeader}
use Rattle.cv_elf.specs.Headers.{headers_of, is_dynamic, is_executable, is_outside, loadable_of}
use Rattle.cv_elf.specs.Fields.{e_entry}
use Rattle.cv_elf.specs.Loading.{text_base_of, text_words}
use Rattle.cv_elf.specs.Passes.{AllInside}
use Rattle.cv_elf.specs.Tests.{fault_at, fault_between, fault_if, first_fault, first_two, pairs_of, table_tests, segment_tests, text_tests}
use Rattle.cv_elf.proofs.LoadedImage.{PassedTests, is_writable_code}
use Rattle.cv_elf.proofs.Pairs.{sharing}

record NoneOfTwo (a b : Bool) : Type 0 where
  first : a ≡ false
  second : b ≡ false

two_passed : (a b : Bool) (f g : ImageFault) → first_fault (fault_if a f ∷ fault_if b g ∷ []) ≡ None → NoneOfTwo a b
two_passed true b f g none = absurd (cc)
two_passed false true f g none = absurd (cc)
two_passed false false f g none = record { first = refl; second = refl }

record NoneOfThree (a b c : Bool) : Type 0 where
  first : a ≡ false
  second : b ≡ false
  third : c ≡ false

three_passed : (a b c : Bool) (f g h : ImageFault) → first_fault (fault_if a f ∷ fault_if b g ∷ fault_if c h ∷ []) ≡ None → NoneOfThree a b c
three_passed true b c f g h none = absurd (cc)
three_passed false true c f g h none = absurd (cc)
three_passed false false true f g h none = absurd (cc)
three_passed false false false f g h none = record { first = refl; second = refl; third = refl }

record NoneFound (outside writable : Option ProgramHeader) (overlap texts : Option (ProgramHeader × ProgramHeader)) : Type 0 where
  first : outside ≡ None
  second : writable ≡ None
  third : overlap ≡ None
  fourth : texts ≡ None

none_found : (outside writable : Option ProgramHeader) (overlap texts : Option (ProgramHeader × ProgramHeader)) →
    first_fault (fault_at fault.SegmentOutside outside ∷ fault_at fault.WritableCode writable ∷ fault_between fault.SegmentsOverlap overlap ∷ fault_between fault.TwoTexts texts ∷ []) ≡ None →
    NoneFound outside writable overlap texts
none_found (Some h) writable overlap texts none = absurd (cc)
none_found None (Some h) overlap texts none = absurd (cc)
none_found None None (Some p) texts none = absurd (cc)
none_found None None None (Some p) none = absurd (cc)
none_found None None None None none = record { first = refl; second = refl; third = refl; fourth = refl }

pub few_segments : (bytes : List ℕ) → first_fault (table_tests bytes) ≡ None → length (loadable_of bytes) ≤ 64
unfolding table_tests
few_segments bytes none =
    let many = two_passed (list_any is_dynamic (headers_of bytes)) (nat_lt 64 (length (loadable_of bytes))) fault.Dynamic fault.TooManySegments none in
    grind (arith, nat_tests, many.second)

pub PassedTests-from : (bytes : List ℕ) (hs : List ProgramHeader) (text : ProgramHeader) →
    length hs ≤ 64 → AllInside (length bytes) hs → first_fault (segment_tests (length bytes) hs) ≡ None →
    find is_executable hs ≡ Some text → is_outside (length bytes) text ≡ false → first_fault (text_tests bytes text) ≡ None → PassedTests bytes hs text
unfolding segment_tests text_tests
PassedTests-from bytes hs text few all_inside segments found text_inside words =
    let none = none_found (find (is_outside (length bytes)) hs) (find is_writable_code hs) (find sharing (pairs_of hs)) (first_two (filter is_executable hs)) segments in
    let count = length (text_words bytes text) in
    let passed = three_passed (count == 0) (nat_lt 65536 count) (not (is_point_in (text_base_of text) count (e_entry bytes)))
    fault.NoText fault.TextLong fault.EntryNotText words in
    record {
      few = few;
      all_inside = all_inside;
      none_writable = none.second;
      none_sharing = none.third;
      one_text = none.fourth;
      found = found;
      text_inside = text_inside;
      some_words = grind (arith, nat_tests, passed.first);
      few_words = grind (arith, nat_tests, passed.second);
      entry = not-false _ passed.third;
    }
