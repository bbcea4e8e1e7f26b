use Rattle.std.proofs.Common.{◌≡◌, ℕ, ◌^◌, ◌≤◌, List, [], ◌∷◌, length, sym, ap, ◌∙◌, subst, arith}
use Rattle.cv_edge.specs.Disk.{written, Only}
use Rattle.cv_keep.specs.Pieces.{pieces}
use Rattle.cv_keep.specs.Keeping.{Settled, IsBeforeOrAfter}
use Rattle.cv_keep.proofs.Images.{staged}
use Rattle.cv_keep.proofs.Moments.{stands_still}
use Rattle.cv_keep.proofs.Steps.{first_fronts, short_front, front_of, framed, gate_stands, kept_pieces, kept_settled}
use Rattle.cv_keep.proofs.keeping.Keep.keep.Goals as goal

pub returns-in_err-write_frame-clause-images : goal.returns-in_err-write_frame-clause-images
returns-in_err-write_frame-clause-images g c tells =
    let M = g.D.Disk.means in
    let law = g.met.D.Disk.only_now in
    let old = c.args.disk.now in
    let d = M.content old in
    let e = c.self.inside.end in
    let p = c.args.piece.now in
    let S : ℕ → Type 0 = λ n. Settled d n in
    let s : Settled d e = subst S (sym c.self.view_is) (c.requires tells).0 in
    let P : List ℕ → Type 0 = IsBeforeOrAfter (pieces d) p in
    let a = c.write_frame.new.disk in
    let one = framed M law old e p s a (c.write_frame.ensures.images (front_of d e) (short_front d e s) (first_fronts M law old e p s (c.requires tells).1)) in
    one.leaves

pub returns-in_err-sync-clause-images : goal.returns-in_err-sync-clause-images
returns-in_err-sync-clause-images g c tells =
    let M = g.D.Disk.means in
    let law = g.met.D.Disk.only_now in
    let old = c.args.disk.now in
    let d = M.content old in
    let e = c.self.inside.end in
    let p = c.args.piece.now in
    let S : ℕ → Type 0 = λ n. Settled d n in
    let s : Settled d e = subst S (sym c.self.view_is) (c.requires tells).0 in
    let P : List ℕ → Type 0 = IsBeforeOrAfter (pieces d) p in
    let a = c.write_frame.new.disk in
    let one = framed M law old e p s a (c.write_frame.ensures.images (front_of d e) (short_front d e s) (first_fronts M law old e p s (c.requires tells).1)) in
    let b = c.sync.new.self in
    let two = stands_still M law old a b P one c.sync.ensures.time c.sync.ensures.images in
    two.leaves

pub returns-in_err-write_at-clause-images : goal.returns-in_err-write_at-clause-images
returns-in_err-write_at-clause-images g c tells =
    let M = g.D.Disk.means in
    let law = g.met.D.Disk.only_now in
    let old = c.args.disk.now in
    let d = M.content old in
    let e = c.self.inside.end in
    let p = c.args.piece.now in
    let S : ℕ → Type 0 = λ n. Settled d n in
    let s : Settled d e = subst S (sym c.self.view_is) (c.requires tells).0 in
    let short : length p ≤ 2 ^ 28 = omega (arith, c.if-piece-gt-LONGEST.false) in
    let P : List ℕ → Type 0 = IsBeforeOrAfter (pieces d) p in
    let a = c.write_frame.new.disk in
    let one = framed M law old e p s a (c.write_frame.ensures.images (front_of d e) (short_front d e s) (first_fronts M law old e p s (c.requires tells).1)) in
    let b = c.sync.new.self in
    let two = stands_still M law old a b P one c.sync.ensures.time c.sync.ensures.images in
    let only : Only (staged d e p) (M.image b) = λ x is. c.in_ok-sync.ensures.only tells x is ∙ c.in_ok-write_frame.ensures.content tells in
    let three = gate_stands M law old e p s b c.write_at.new.self short two only c.write_at.ensures.time c.write_at.ensures.torn in
    three.leaves

pub returns-in_err-sync-2-clause-images : goal.returns-in_err-sync-2-clause-images
returns-in_err-sync-2-clause-images g c tells =
    let M = g.D.Disk.means in
    let law = g.met.D.Disk.only_now in
    let old = c.args.disk.now in
    let d = M.content old in
    let e = c.self.inside.end in
    let p = c.args.piece.now in
    let S : ℕ → Type 0 = λ n. Settled d n in
    let s : Settled d e = subst S (sym c.self.view_is) (c.requires tells).0 in
    let short : length p ≤ 2 ^ 28 = omega (arith, c.if-piece-gt-LONGEST.false) in
    let P : List ℕ → Type 0 = IsBeforeOrAfter (pieces d) p in
    let a = c.write_frame.new.disk in
    let one = framed M law old e p s a (c.write_frame.ensures.images (front_of d e) (short_front d e s) (first_fronts M law old e p s (c.requires tells).1)) in
    let b = c.sync.new.self in
    let two = stands_still M law old a b P one c.sync.ensures.time c.sync.ensures.images in
    let only : Only (staged d e p) (M.image b) = λ x is. c.in_ok-sync.ensures.only tells x is ∙ c.in_ok-write_frame.ensures.content tells in
    let three = gate_stands M law old e p s b c.write_at.new.self short two only c.write_at.ensures.time c.write_at.ensures.torn in
    let four = stands_still M law old c.write_at.new.self c.sync-2.new.self P three c.sync-2.ensures.time c.sync-2.ensures.images in
    four.leaves

pub returns-clause-images : goal.returns-clause-images
returns-clause-images g c tells =
    let M = g.D.Disk.means in
    let law = g.met.D.Disk.only_now in
    let old = c.args.disk.now in
    let d = M.content old in
    let e = c.self.inside.end in
    let p = c.args.piece.now in
    let S : ℕ → Type 0 = λ n. Settled d n in
    let s : Settled d e = subst S (sym c.self.view_is) (c.requires tells).0 in
    let short : length p ≤ 2 ^ 28 = omega (arith, c.if-piece-gt-LONGEST.false) in
    let P : List ℕ → Type 0 = IsBeforeOrAfter (pieces d) p in
    let a = c.write_frame.new.disk in
    let one = framed M law old e p s a (c.write_frame.ensures.images (front_of d e) (short_front d e s) (first_fronts M law old e p s (c.requires tells).1)) in
    let b = c.sync.new.self in
    let two = stands_still M law old a b P one c.sync.ensures.time c.sync.ensures.images in
    let only : Only (staged d e p) (M.image b) = λ x is. c.in_ok-sync.ensures.only tells x is ∙ c.in_ok-write_frame.ensures.content tells in
    let three = gate_stands M law old e p s b c.write_at.new.self short two only c.write_at.ensures.time c.write_at.ensures.torn in
    let four = stands_still M law old c.write_at.new.self c.sync-2.new.self P three c.sync-2.ensures.time c.sync-2.ensures.images in
    four.leaves

pub returns-clause-kept : goal.returns-clause-kept
returns-clause-kept g c _ tells =
    let M = g.D.Disk.means in
    let law = g.met.D.Disk.only_now in
    let old = c.args.disk.now in
    let d = M.content old in
    let e = c.self.inside.end in
    let p = c.args.piece.now in
    let S : ℕ → Type 0 = λ n. Settled d n in
    let s : Settled d e = subst S (sym c.self.view_is) (c.requires tells).0 in
    let short : length p ≤ 2 ^ 28 = omega (arith, c.if-piece-gt-LONGEST.false) in
    let is : M.content c.sync-2.new.self ≡ written e (1 ∷ []) (staged d e p) =
    c.sync-2.ensures.content tells ∙ c.in_ok-write_at.ensures.content tells ∙ ap (λ (l : List ℕ). written e (1 ∷ []) l) (c.sync.ensures.content tells ∙ c.in_ok-write_frame.ensures.content tells) in
    (kept_settled d e p (M.content c.sync-2.new.self) s short is, λ x now. c.in_ok-sync-2.ensures.only tells x now ∙ sym (c.sync-2.ensures.content tells))

pub returns-clause-pieces : goal.returns-clause-pieces
returns-clause-pieces g c _ tells =
    let M = g.D.Disk.means in
    let law = g.met.D.Disk.only_now in
    let old = c.args.disk.now in
    let d = M.content old in
    let e = c.self.inside.end in
    let p = c.args.piece.now in
    let S : ℕ → Type 0 = λ n. Settled d n in
    let s : Settled d e = subst S (sym c.self.view_is) (c.requires tells).0 in
    let short : length p ≤ 2 ^ 28 = omega (arith, c.if-piece-gt-LONGEST.false) in
    let is : M.content c.sync-2.new.self ≡ written e (1 ∷ []) (staged d e p) =
    c.sync-2.ensures.content tells ∙ c.in_ok-write_at.ensures.content tells ∙ ap (λ (l : List ℕ). written e (1 ∷ []) l) (c.sync.ensures.content tells ∙ c.in_ok-write_frame.ensures.content tells) in
    kept_pieces d e p (M.content c.sync-2.new.self) s short is
