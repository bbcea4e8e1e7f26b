-- The steps of `keep`, from what stands before each to what stands behind it.
use Rattle.std.proofs.Common.{◌≡◌, ◌⊎◌, inl, ℕ, ◌+◌, ◌^◌, ◌<◌, ◌≤◌, List, [], ◌∷◌, ◌++◌, length, take, get_or, sym, ap, ◌∙◌, subst, arith}
use Rattle.std.proofs.lemmas.List.{length-take-le}
use Rattle.cv_edge.specs.Disk.{Meaning, written, Torn, Follows, Only, Elapses}
use Rattle.cv_edge.specs.DiskLaws.{leaves_weaker}
use Rattle.cv_keep.specs.Pieces.{pieces, end_of}
use Rattle.cv_keep.specs.Keeping.{Settled, IsBeforeOrAfter, Fronts, KeepsFront}
use Rattle.cv_keep.proofs.Moments.{Stands, stands_at_first, stands_then}
use Rattle.cv_keep.proofs.Pieces.{whole}
use Rattle.cv_keep.proofs.Images.{staged, end_within, front_image, gate_image, gate_open, gate_settled, opened, broken_image, shut_settled}

-- the content up to and with the closed byte
abbrev pub front_of : List ℕ → ℕ → List ℕ
front_of d e = take (e + 1) d

pub length-front : (d : List ℕ) (e : ℕ) → Settled d e → length (front_of d e) ≡ e + 1
length-front d e s = let within = end_within d e s in length-take-le (e + 1) d (omega arith)

pub short_front : (d : List ℕ) (e : ℕ) → Settled d e → length (front_of d e) ≤ e + 1
short_front d e s = omega (arith, length-front d e s)

-- an image with the front has the old pieces
front_has : (d : List ℕ) (e : ℕ) (p c : List ℕ) → Settled d e → take (length (front_of d e)) c ≡ front_of d e → IsBeforeOrAfter (pieces d) p c
front_has d e p c s same =
    let F : ℕ → Type 0 = λ n. take n c ≡ take (e + 1) d in inl (front_image d e c s (subst F (length-front d e s) same))

module _ {D : Type 0} (means : Meaning D) (only_now : (disk : D) (c : List ℕ) → means.image_since disk (means.moment disk) c → means.image disk c) (old : D) (e : ℕ) (p : List ℕ) (s : Settled (means.content old) e) where
  -- old and with the piece
  abbrev After : List ℕ → Type 0
  After = IsBeforeOrAfter (pieces (means.content old)) p

  pub first_fronts : Only (means.content old) (means.image old) → Fronts means old (front_of (means.content old) e)
  first_fronts only c is =
      let d = means.content old in
      let F : List ℕ → Type 0 = λ l. take (length (front_of d e)) l ≡ front_of d e in
      subst F (sym (only c is)) (ap (λ (n : ℕ). take n d) (length-front d e s))

  -- the frame was written, or a part of it
  pub framed : (a : D) → KeepsFront means old a (front_of (means.content old) e) → Stands means old a After
  framed a keeps =
      let d = means.content old in
      record {
        leaves = leaves_weaker means old a (λ c. take (length (front_of d e)) c ≡ front_of d e) After (λ c same. front_has d e p c s same) keeps.leaves;
        has = λ c is. front_has d e p c s (keeps.now c is);
      }

  -- the byte at the end place was written, or not
  pub gate_stands : (b c : D) → length p ≤ 2 ^ 28 → Stands means old b After → Only (staged (means.content old) e p) (means.image b) → Elapses means b c → Follows (Torn e 1) (means.image b) (means.image c) → Stands means old c After
  gate_stands b c short so_far only time torn =
      let d = means.content old in
      stands_then means only_now old b c After so_far time (λ x is.
      let from = torn x is in
      let T : List ℕ → Type 0 = λ l. Torn e 1 l x in
      gate_image d e p s short x (subst T (only from.0 from.1) from.2))

-- what the last write leaves
pub kept_pieces : (d : List ℕ) (e : ℕ) (p c : List ℕ) → Settled d e → length p ≤ 2 ^ 28 → c ≡ written e (1 ∷ []) (staged d e p) → pieces c ≡ pieces d ++ p ∷ []
kept_pieces d e p c s short is =
    ap pieces is ∙ gate_open d e p s short 1 (written e (1 ∷ []) (staged d e p)) (omega arith) (opened d e p s short)

pub kept_settled : (d : List ℕ) (e : ℕ) (p c : List ℕ) → Settled d e → length p ≤ 2 ^ 28 → c ≡ written e (1 ∷ []) (staged d e p) → Settled c (e + (5 + length p))
kept_settled d e p c s short is =
    let S : List ℕ → Type 0 = λ l. Settled l (e + (5 + length p)) in
    subst S (sym is) (gate_settled d e p s short (written e (1 ∷ []) (staged d e p)) (opened d e p s short))

-- the byte 0 was written at the end place, or not
pub shut_stands : {D : Type 0} (means : Meaning D) → ((disk : D) (c : List ℕ) → means.image_since disk (means.moment disk) c → means.image disk c) → (old b : D) (e : ℕ)
    → Only (means.content old) (means.image old) → e ≡ end_of (pieces (means.content old)) → (length (means.content old) ≡ e) ⊎ (0 < get_or (means.content old) e 0)
    → Elapses means old b → Follows (Torn e 1) (means.image old) (means.image b) → Stands means old b (λ c. pieces c ≡ pieces (means.content old))
shut_stands means only_now old b e only place broken time torn =
    let d = means.content old in
    let P : List ℕ → Type 0 = λ c. pieces c ≡ pieces d in
    stands_then means only_now old old b P (stands_at_first means only_now old P (λ c is. ap pieces (only c is))) time (λ x is.
    let from = torn x is in
    let T : List ℕ → Type 0 = λ l. Torn e 1 l x in
    broken_image d e x place broken (subst T (only from.0 from.1) from.2))

pub shut_content : (d : List ℕ) (e : ℕ) (c : List ℕ) → e ≡ end_of (pieces d) → c ≡ written e (0 ∷ []) d → pieces c ≡ pieces d → Settled c e
shut_content d e c place is same =
    let Within : ℕ → Type 0 = λ i. i ≤ length d in
    let S : List ℕ → Type 0 = λ l. Settled l e in
    subst S (sym is) (shut_settled d e place (subst Within (sym place) (whole d).within) (sym (ap pieces is) ∙ same))
