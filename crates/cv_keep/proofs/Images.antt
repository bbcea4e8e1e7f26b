-- What the images of each step have for pieces.
use Rattle.std.proofs.Common.{◌≡◌, ◌⊎◌, inl, inr, ⊎_elim, ℕ, zero, suc, ◌+◌, ◌^◌, ◌<◌, ◌≤◌, min, List, [], ◌∷◌, ◌++◌, length, take, drop, get_or, None, refl, sym, ap, ◌∙◌, subst, arith, append_assoc, length-append, length-drop}
use Rattle.std.proofs.Math.ListN.{get_or-eq_default}
use Rattle.std.proofs.lemmas.List.{take-take, take-append-le, length-take-le, get_or-take, get_or-drop, drop-drop, drop_more, append-nil, take_at, drop_at}
use Rattle.std.proofs.lemmas.Grind.{get_or_default_zero}
use Rattle.std.proofs.lemmas.Bool.{cases_lt}
use Rattle.cv_edge.specs.Disk.{written, Torn}
use Rattle.cv_keep.specs.Pieces.{next, pieces, end_of, frame}
use Rattle.cv_keep.specs.Keeping.{Settled, IsBeforeOrAfter}
use Rattle.cv_keep.proofs.Pieces.{next_closed, next_gate, pieces_none, pieces_frame, behind_frame, pieces_from, whole, end_of_push}

-- the byte at a place, as the first byte behind it
first_at : (c : List ℕ) (e x : ℕ) → get_or (drop e c) 0 x ≡ get_or c e x
first_at c e x = let here : e + 0 ≡ e = omega arith in get_or-drop e c 0 x ∙ ap (λ (i : ℕ). get_or c i x) here

-- the same up to the end place, and no piece there
pub same_from : (c d : List ℕ) (e : ℕ) → e ≡ end_of (pieces d) → take e c ≡ take e d → next (drop e c) ≡ None → pieces c ≡ pieces d
same_from c d e place same none =
    let n = end_of (pieces d) in
    let Same : ℕ → Type 0 = λ i. take i c ≡ take i d in
    let Ends : ℕ → Type 0 = λ i. next (drop i c) ≡ None in
    pieces_from d c (subst Same place same) ∙ ap (λ (l : List (List ℕ)). pieces d ++ l) (pieces_none (drop n c) (subst Ends place none)) ∙ append-nil (pieces d)

-- what a write of one byte at a place within leaves in front of it
below_one : (d c : List ℕ) (e : ℕ) → e ≤ length d → Torn e 1 d c → take e c ≡ take e d
below_one d c e within torn =
    let n : e ≡ min e (length d) = omega arith in ap (λ (i : ℕ). take i c) n ∙ torn.below

-- the byte 0 written at the end place of an image, before a frame that is not whole
pub broken_image : (d : List ℕ) (e : ℕ) (c : List ℕ) → e ≡ end_of (pieces d) → (length d ≡ e) ⊎ (0 < get_or d e 0) → Torn e 1 d c → pieces c ≡ pieces d
broken_image d e c place broken torn =
    let Within : ℕ → Type 0 = λ i. i ≤ length d in
    let Ends : ℕ → Type 0 = λ i. next (drop i d) ≡ None in
    let within : e ≤ length d = subst Within (sym place) (whole d).within in
    let none : next (drop e d) ≡ None = subst Ends (sym place) (whole d).none in
    let same : drop 1 (drop e c) ≡ drop 1 (drop e d) = drop-drop 1 e c ∙ torn.above ∙ sym (drop-drop 1 e d) in
    same_from c d e place (below_one d c e within torn) (next_gate (drop e c) (drop e d) same none (at_end d e broken))
  where
    at_end : (d : List ℕ) (e : ℕ) → (length d ≡ e) ⊎ (0 < get_or d e 0) → (length (drop e d) ≡ 0) ⊎ (0 < get_or (drop e d) 0 0)
    at_end d e (inl ends) = inl (omega (arith, length-drop e d))
    at_end d e (inr ajar) = inr (subst (λ (n : ℕ). 0 < n) (sym (first_at d e 0)) ajar)

-- and then the end place is as it was, with the byte 0
pub shut_settled : (d : List ℕ) (e : ℕ) → e ≡ end_of (pieces d) → e ≤ length d → pieces (written e (0 ∷ []) d) ≡ pieces d → Settled (written e (0 ∷ []) d) e
shut_settled d e place within same =
    let rest = drop (e + 1) d in
    let front : length (take e d) ≡ e = length-take-le e d within in
    let behind : drop e (written e (0 ∷ []) d) ≡ 0 ∷ rest =
    ap (λ (l : List ℕ). drop e l) (append_assoc (take e d) (0 ∷ []) rest) ∙ drop_at (take e d) (0 ∷ rest) e front in
    record {
      place = place ∙ ap end_of (sym same);
      closed = sym (first_at (written e (0 ∷ []) d) e 1) ∙ ap (λ (l : List ℕ). get_or l 0 1) behind;
    }

-- the byte at the end place is there
pub end_within : (d : List ℕ) (e : ℕ) → Settled d e → e < length d
end_within d e s =
    ⊎_elim (λ within. within) (λ (past : length d ≤ e). let none = get_or-eq_default d 1 past in absurd (omega (arith, none, s.closed))) (cases_lt e (length d))

-- the same up to and with the closed byte at the end place
pub front_image : (d : List ℕ) (e : ℕ) (c : List ℕ) → Settled d e → take (e + 1) c ≡ take (e + 1) d → pieces c ≡ pieces d
front_image d e c s same =
    let within = end_within d e s in
    let front : take e c ≡ take e d = sym (take-take e (e + 1) c (omega arith)) ∙ ap (λ (l : List ℕ). take e l) same ∙ take-take e (e + 1) d (omega arith) in
    let closed : get_or c e 0 ≡ 0 =
    sym (get_or-take (e + 1) c e 0 (omega arith)) ∙ ap (λ (l : List ℕ). get_or l e 0) same ∙ get_or-take (e + 1) d e 0 (omega arith)
    ∙ sym (get_or_default_zero d e 1 within) ∙ s.closed in
    same_from c d e s.place front (next_closed (drop e c) (first_at c e 0 ∙ closed))

-- the content with the frame of a piece behind the closed byte
abbrev pub staged : List ℕ → ℕ → List ℕ → List ℕ
staged d e p = written (e + 1) (frame p) d

-- an image with this byte at the end place, before the whole frame
pub record Gated (d : List ℕ) (e : ℕ) (p : List ℕ) (gate : ℕ) (c : List ℕ) : Type 0 where
  pub front : take e c ≡ take e d
  pub rest : drop e c ≡ gate ∷ (frame p ++ drop (e + 1 + length (frame p)) d)

module _ (d : List ℕ) (e : ℕ) (p : List ℕ) (s : Settled d e) (short : length p ≤ 2 ^ 28) where
  -- the content up to and with the closed byte
  first_length : length (take (e + 1) d) ≡ e + 1
  first_length = let within = end_within d e s in length-take-le (e + 1) d (omega arith)

  staged_split : staged d e p ≡ take (e + 1) d ++ (frame p ++ drop (e + 1 + length (frame p)) d)
  staged_split = append_assoc (take (e + 1) d) (frame p) (drop (e + 1 + length (frame p)) d)

  pub staged_long : e < length (staged d e p)
  staged_long =
      omega (arith, first_length, ap length staged_split, length-append (take (e + 1) d) (frame p ++ drop (e + 1 + length (frame p)) d))

  staged_front : take e (staged d e p) ≡ take e d
  staged_front =
      ap (λ (l : List ℕ). take e l) staged_split
      ∙ take-append-le e (take (e + 1) d) (frame p ++ drop (e + 1 + length (frame p)) d) (omega (arith, first_length))
      ∙ take-take e (e + 1) d (omega arith)

  staged_rest : drop (e + 1) (staged d e p) ≡ frame p ++ drop (e + 1 + length (frame p)) d
  staged_rest =
      ap (λ (l : List ℕ). drop (e + 1) l) staged_split
      ∙ drop_at (take (e + 1) d) (frame p ++ drop (e + 1 + length (frame p)) d) (e + 1) first_length

  gated : (c : List ℕ) → Torn e 1 (staged d e p) c → Gated d e p (get_or c e 0) c
  gated c torn =
      let long = staged_long in
      let gate = get_or c e 0 in
      record {
        front = below_one (staged d e p) c e (omega (arith, long)) torn ∙ staged_front;
        rest = drop_more c e 0 (omega (arith, long, torn.no_shorter)) ∙ ap (λ (l : List ℕ). gate ∷ l) (torn.above ∙ staged_rest);
      }

  pub gate_open : (gate : ℕ) (c : List ℕ) → 0 < gate → Gated d e p gate c → pieces c ≡ pieces d ++ p ∷ []
  gate_open gate c ajar g =
      let Same : ℕ → Type 0 = λ i. take i c ≡ take i d in
      let From : ℕ → Type 0 = λ i. pieces c ≡ pieces d ++ pieces (drop i c) in
      let all : pieces c ≡ pieces d ++ pieces (drop e c) = subst From (sym s.place) (pieces_from d c (subst Same s.place g.front)) in
      all ∙ ap (λ (l : List ℕ). pieces d ++ pieces l) g.rest
      ∙ ap (λ (l : List (List ℕ)). pieces d ++ l) (pieces_frame gate p (drop (e + 1 + length (frame p)) d) ajar short)

  gate_shut : (c : List ℕ) → Gated d e p 0 c → pieces c ≡ pieces d
  gate_shut c g =
      let Ends : List ℕ → Type 0 = λ l. next l ≡ None in
      same_from c d e s.place g.front (subst Ends (sym g.rest) (next_closed (0 ∷ (frame p ++ drop (e + 1 + length (frame p)) d)) refl))

  by_gate : (gate : ℕ) (c : List ℕ) → Gated d e p gate c → IsBeforeOrAfter (pieces d) p c
  by_gate zero c g = inl (gate_shut c g)
  by_gate (suc n) c g = inr (gate_open (suc n) c (omega arith) g)

  -- a crash while the byte at the end place is written
  pub gate_image : (c : List ℕ) → Torn e 1 (staged d e p) c → IsBeforeOrAfter (pieces d) p c
  gate_image c torn = by_gate (get_or c e 0) c (gated c torn)

  pub opened : Gated d e p 1 (written e (1 ∷ []) (staged d e p))
  opened =
      let long = staged_long in
      let front : length (take e (staged d e p)) ≡ e = length-take-le e (staged d e p) (omega (arith, long)) in
      let rest = drop (e + 1) (staged d e p) in
      let split : written e (1 ∷ []) (staged d e p) ≡ take e (staged d e p) ++ (1 ∷ rest) = append_assoc (take e (staged d e p)) (1 ∷ []) rest in
      record {
        front = ap (λ (l : List ℕ). take e l) split ∙ take_at (take e (staged d e p)) (1 ∷ rest) e front ∙ staged_front;
        rest = ap (λ (l : List ℕ). drop e l) split ∙ drop_at (take e (staged d e p)) (1 ∷ rest) e front ∙ ap (λ (l : List ℕ). 1 ∷ l) staged_rest;
      }

  -- after the byte at the end place was opened
  pub gate_settled : (c : List ℕ) → Gated d e p 1 c → Settled c (e + (5 + length p))
  gate_settled c g =
      let tail = drop (e + 1 + length (frame p)) d in
      let here : 5 + length p + 0 ≡ 5 + length p = omega arith in
      let all = gate_open 1 c (omega arith) g in
      record {
        place = omega (arith, s.place, ap end_of all, end_of_push (pieces d) p);
        closed =
            sym (get_or-drop e c (5 + length p) 1) ∙ ap (λ (l : List ℕ). get_or l (5 + length p) 1) g.rest
            ∙ ap (λ (i : ℕ). get_or (1 ∷ (frame p ++ tail)) i 1) (sym here)
            ∙ sym (get_or-drop (5 + length p) (1 ∷ (frame p ++ tail)) 0 1)
            ∙ ap (λ (l : List ℕ). get_or l 0 1) (behind_frame 1 p tail);
      }

-- what is read at the end place of the content says whether it is broken
pub broken_by_byte : (bytes d : List ℕ) (e : ℕ) → bytes ≡ d → (get_or bytes e 0 ≡ 0 → ⊥) → (length d ≡ e) ⊎ (0 < get_or d e 0)
broken_by_byte bytes d e same other =
    let B : List ℕ → Type 0 = λ l. (length l ≡ e) ⊎ (0 < get_or l e 0) in subst B same (inr (omega arith))

pub broken_by_end : (bytes d : List ℕ) (e : ℕ) → bytes ≡ d → e ≡ end_of (pieces bytes) → length bytes ≤ e → (length d ≡ e) ⊎ (0 < get_or d e 0)
broken_by_end bytes d e same place ends =
    let B : List ℕ → Type 0 = λ l. (length l ≡ e) ⊎ (0 < get_or l e 0) in
    let w = whole bytes in
    subst B same (inl (omega (arith, w.within)))

-- the content was closed at its end place already
pub settled_by_byte : (bytes d : List ℕ) (e : ℕ) → bytes ≡ d → e ≡ end_of (pieces bytes) → e < length bytes → get_or bytes e 0 ≡ 0 → Settled d e
settled_by_byte bytes d e same place within closed =
    let S : List ℕ → Type 0 = λ l. Settled l e in
    subst S same (record { place = place; closed = get_or_default_zero bytes e 1 within ∙ closed })

-- a write behind another one is one write of both
pub written_more : (at k : ℕ) (p q c : List ℕ) → at ≤ length c → k ≡ at + length p → written k q (written at p c) ≡ written at (p ++ q) c
written_more at k p q c within is =
    let front = take at c ++ p in
    let rest = drop (at + length p) c in
    let long : length front ≡ k = omega (arith, length-append (take at c) p, length-take-le at c within) in
    let behind : drop (k + length q) (front ++ rest) ≡ drop (at + length (p ++ q)) c =
    sym (drop-drop (length q) k (front ++ rest)) ∙ ap (λ (l : List ℕ). drop (length q) l) (drop_at front rest k long) ∙ drop-drop (length q) (at + length p) c
    ∙ (let n : at + length p + length q ≡ at + length (p ++ q) = omega (arith, length-append p q) in ap (λ (i : ℕ). drop i c) n) in
    ap (λ (l : List ℕ). l ++ q ++ drop (k + length q) (front ++ rest)) (take_at front rest k long)
    ∙ ap (λ (l : List ℕ). front ++ q ++ l) behind
    ∙ ap (λ (l : List ℕ). l ++ drop (at + length (p ++ q)) c) (append_assoc (take at c) p q)

pub written_long : (at : ℕ) (p c : List ℕ) → at ≤ length c → at + length p ≤ length (written at p c)
written_long at p c within =
    omega (arith, length-append (take at c ++ p) (drop (at + length p) c), length-append (take at c) p, length-take-le at c within)
