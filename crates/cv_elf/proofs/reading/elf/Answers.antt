use Rattle.std.proofs.Common.{◌≡◌, ◌≤◌, List, length, ◌∙◌, rules}
use Rattle.cv_elf.specs.declared.header.ProgramHeader.{ProgramHeader}
use Rattle.cv_elf.specs.Headers.{loadable_of}
use Rattle.cv_elf.proofs.LoadedImage.{IsImage-loaded}
use Rattle.cv_elf.proofs.PassedTests.{few_segments, PassedTests-from}
use Rattle.cv_elf.proofs.reading.elf.Goals as goal

pub load-requires-clause-is_image : goal.load-requires-clause-is_image
load-requires-clause-is_image c =
    let bytes = c.args.bytes.now in
    let hs : List ProgramHeader = c.deref-3.result.now in
    let text : ProgramHeader = c.in-Some.text.now in
    let known : hs ≡ loadable_of bytes = c.deref-3.ensures.value ∙ c.in_ok-headers.ensures.headers in
    let few : length hs ≤ 64 = rw known (few_segments bytes c.in_ok-headers.ensures.passes) in
    IsImage-loaded bytes hs text
    (PassedTests-from bytes hs text few (search rules) (search rules) (search rules) (search rules) c.in_ok-check_text.ensures)
