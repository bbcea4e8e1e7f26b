use Rattle.std.proofs.Common.{◌≡◌, ℕ, List, sym, ◌∙◌}
use Rattle.cv_keep.specs.Pieces.{pieces}
use Rattle.cv_keep.proofs.Moments.{stands_still}
use Rattle.cv_keep.proofs.Steps.{shut_stands, shut_content}
use Rattle.cv_keep.proofs.recovery.shut.Goals as goal

pub returns-in_err-write_at-clause-images : goal.returns-in_err-write_at-clause-images
returns-in_err-write_at-clause-images g c tells =
    (shut_stands g.D.Disk.means g.met.D.Disk.only_now c.args.disk.now c.write_at.new.self c.args.end (c.requires.only tells) (c.requires.place tells) (c.requires.broken tells) c.write_at.ensures.time c.write_at.ensures.torn).leaves

pub returns-in_err-sync-clause-images : goal.returns-in_err-sync-clause-images
returns-in_err-sync-clause-images g c tells =
    let M = g.D.Disk.means in
    let law = g.met.D.Disk.only_now in
    let old = c.args.disk.now in
    let P : List ℕ → Type 0 = λ x. pieces x ≡ pieces (M.content old) in
    let one = shut_stands M law old c.write_at.new.self c.args.end (c.requires.only tells) (c.requires.place tells) (c.requires.broken tells) c.write_at.ensures.time c.write_at.ensures.torn in
    (stands_still M law old c.write_at.new.self c.sync.new.self P one c.sync.ensures.time c.sync.ensures.images).leaves

pub returns-clause-images : goal.returns-clause-images
returns-clause-images g c tells =
    let M = g.D.Disk.means in
    let law = g.met.D.Disk.only_now in
    let old = c.args.disk.now in
    let P : List ℕ → Type 0 = λ x. pieces x ≡ pieces (M.content old) in
    let one = shut_stands M law old c.write_at.new.self c.args.end (c.requires.only tells) (c.requires.place tells) (c.requires.broken tells) c.write_at.ensures.time c.write_at.ensures.torn in
    (stands_still M law old c.write_at.new.self c.sync.new.self P one c.sync.ensures.time c.sync.ensures.images).leaves

pub returns-clause-pieces : goal.returns-clause-pieces
returns-clause-pieces g c tells =
    let M = g.D.Disk.means in
    let law = g.met.D.Disk.only_now in
    let old = c.args.disk.now in
    let new = c.sync.new.self in
    let P : List ℕ → Type 0 = λ x. pieces x ≡ pieces (M.content old) in
    let one = shut_stands M law old c.write_at.new.self c.args.end (c.requires.only tells) (c.requires.place tells) (c.requires.broken tells) c.write_at.ensures.time c.write_at.ensures.torn in
    (stands_still M law old c.write_at.new.self new P one c.sync.ensures.time c.sync.ensures.images).has (M.content new) (g.met.D.Disk.among new tells)

pub returns-clause-settled : goal.returns-clause-settled
returns-clause-settled g c tells =
    let M = g.D.Disk.means in
    let same = c.sync.ensures.content tells in (
      shut_content (M.content c.args.disk.now) c.args.end (M.content c.sync.new.self) (c.requires.place tells) (same ∙ c.in_ok-write_at.ensures.content tells) (returns-clause-pieces g c tells),
      λ x is. c.in_ok-sync.ensures.only tells x is ∙ sym same,
    )
