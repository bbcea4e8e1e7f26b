-- What is learned of a table of points is what is learned of the observations it stands for.
use Rattle.std.proofs.Common.{◌≡◌, ℕ, suc, ◌+◌, ◌-◌, ◌*◌, ◌/◌, ◌%◌, ◌<◌, ◌≤◌, Bool, true, false, cond, ◌&&◌, ◌||◌, eqb, List, [], ◌∷◌, ◌++◌, ◌∙◌, refl, sym, ap, subst, map, length, get_or, drop, drop-cons, append_assoc, append-nil, ⊎_elim, arith}
use Rattle.std.proofs.lemmas.Bool.{cases_eq}
use Rattle.std.proofs.lemmas.Bool.Decides.{nat_tests}
use Rattle.std.proofs.lemmas.List.{drop_all}
use Rattle.std.specs.List.{filter, flat_map, list_all}
use Rattle.cv_base.specs.declared.entries.Observation.{Observation}
use Rattle.cv_base.specs.declared.invariants.Invariant.{Invariant}
use Rattle.cv_base.specs.Picture.{Picture, is_point}
use Rattle.cv_base.specs.Points.{is_point_in}
use Rattle.cv_blocks.specs.TextMap.{is_in_window}
use Rattle.cv_observe.proofs.FromKept.{learned_same}
use Rattle.cv_observe.proofs.PointsSeen.{AreAmong, grown, points_from, points_seen}
use Rattle.cv_observe.specs.AtPoint.{IsPoint, numbers_of}
use Rattle.cv_observe.specs.StandsFor.{IsTable, StandsFor, point_at}
use Rattle.cv_observe.specs.Learning.{learned_from, learned_if_seen, learned_kept}
use Rattle.cv_observe.specs.declared.point.Point.{Point}
use Rattle.cv_runs.specs.Learned.{learned, learned_at, seen_at}
use Rattle.cv_runs.specs.Text.{reads_at, window_registers}

-- one point after another

pub learned_step : (text : Picture) (points : List Point) (whole list new : List Invariant) (x p : ℕ) (was : Point) → x < length points → whole ≡ list ++ learned_from text (point_at text x) (drop x points) → p ≡ point_at text x → was ≡ get_or points x was → new ≡ list ++ learned_if_seen text p was
    → whole ≡ new ++ learned_from text (point_at text (x + 1)) (drop (x + 1) points)
learned_step text points whole list new x p was within so_far at is added =
    let next : suc x ≡ x + 1 = omega arith in
    let behind : point_at text x + 4 ≡ point_at text (x + 1) = omega arith in
    let head : learned_if_seen text (point_at text x) (get_or points x was) ≡ learned_if_seen text p was = ap (λ q. learned_if_seen text q (get_or points x was)) (sym at) ∙ ap (learned_if_seen text p) (sym is) in
    so_far
    ∙ ap (λ l. list ++ learned_from text (point_at text x) l) (drop-cons points x was within)
    ∙ ap (λ l. list ++ (l ++ learned_from text (point_at text x + 4) (drop (suc x) points))) head
    ∙ sym (append_assoc list (learned_if_seen text p was) (learned_from text (point_at text x + 4) (drop (suc x) points)))
    ∙ ap (λ l. l ++ learned_from text (point_at text x + 4) (drop (suc x) points)) (sym added)
    ∙ ap (λ q. new ++ learned_from text q (drop (suc x) points)) behind
    ∙ ap (λ k. new ++ learned_from text (point_at text (x + 1)) (drop k points)) next

pub learned_end : (text : Picture) (points : List Point) (whole list : List Invariant) (x : ℕ) → length points ≤ x → whole ≡ list ++ learned_from text (point_at text x) (drop x points) → list ≡ whole
learned_end text points whole list x end so_far =
    sym (so_far ∙ ap (λ l. list ++ learned_from text (point_at text x) l) (drop_all x points end) ∙ append-nil list)

-- whether something was seen

abbrev some : List Observation → Bool
some [] = false
some (o ∷ os) = true

or_true : (b c : Bool) → b ≡ true → (b || c) ≡ true
or_true b c is = ap (λ x. x || c) is

or_last : (c : Bool) → (c || true) ≡ true
or_last true = refl
or_last false = refl

grown_some : (t : ℕ → Bool) (p : ℕ) (os : List Observation) → grown t (map (λ (o : Observation). o.point) os) p ≡ (t p || some (seen_at os p))
grown_some t p [] = none (t p)
  where
    none : (b : Bool) → b ≡ (b || false)
    none true = refl
    none false = refl
grown_some t p (o ∷ os) =
    grown_some (λ q. eqb q o.point || t q) p os
    ∙ ⊎_elim
    (λ same.
    let e : eqb o.point p ≡ true = grind (arith, nat_tests) in
    let f : eqb p o.point ≡ true = grind (arith, nat_tests) in
    ap (λ b. (b || t p) || some (seen_at os p)) f ∙ sym (ap (λ b. t p || some (cond b (o ∷ seen_at os p) (seen_at os p))) e ∙ or_last (t p)))
    (λ other.
    let e : eqb o.point p ≡ false = grind (arith, nat_tests) in
    let f : eqb p o.point ≡ false = grind (arith, nat_tests) in
    ap (λ b. (b || t p) || some (seen_at os p)) f ∙ sym (ap (λ b. t p || some (cond b (o ∷ seen_at os p) (seen_at os p))) e))
    (cases_eq o.point p)

flag : (window : ℕ → Bool) (k : Point) (here : List Observation) (b : Bool) → k.seen ≡ b → IsPoint window k here → some here ≡ b
flag window k [] true is kept = let h = kept.seen is in absurd (omega arith)
flag window k [] false is kept = refl
flag window k (o ∷ os) true is kept = refl
flag window k (o ∷ os) false is kept = let h = ap length (kept.unseen is) in absurd (omega arith)

module _ (text : Picture) (seen : List Observation) (g : ℕ → Bool) (agrees : (q : ℕ) → g q ≡ some (seen_at seen q)) where
  abbrev at : ℕ → List Invariant
  at q = learned_at q (reads_at text q) (window_registers text q) (seen_at seen q)

  one : (p : ℕ) (k : Point) (b : Bool) (rest : List Invariant) (xs : List ℕ) → k.seen ≡ b → g p ≡ b → learned_kept p (window_registers text p) k ≡ at p → rest ≡ flat_map at xs
      → cond b (learned_kept p (window_registers text p) k) [] ++ rest ≡ flat_map at (cond b (p ∷ xs) xs)
  one p k true rest xs is gives same more = ap (λ l. l ++ rest) same ∙ ap (λ l. at p ++ l) more
  one p k false rest xs is gives same more = more

  from_same : (points : List Point) (p : ℕ)
      → ((j : ℕ) (d : Point) → j < length points → IsPoint (is_in_window text (p + 4 * j)) (get_or points j d) (seen_at seen (p + 4 * j)))
      → ((j : ℕ) (d : Point) → j < length points → numbers_of (get_or points j d).registers.items ≡ reads_at text (p + 4 * j))
      → learned_from text p points ≡ flat_map at (filter g (points_from p (length points)))
  from_same [] p each reads = refl
  from_same (k ∷ points) p each reads =
      let here : p + 4 * 0 ≡ p = omega arith in
      let first : IsPoint (is_in_window text p) k (seen_at seen p) = subst (λ q. IsPoint (is_in_window text q) k (seen_at seen q)) here (each 0 k (omega arith)) in
      let number : numbers_of k.registers.items ≡ reads_at text p = reads 0 k (omega arith) ∙ ap (reads_at text) here in
      let gives : g p ≡ k.seen = agrees p ∙ flag (is_in_window text p) k (seen_at seen p) k.seen refl first in
      one p k k.seen (learned_from text (p + 4) points) (filter g (points_from (p + 4) (length points))) refl gives
      (learned_same text p k (seen_at seen p) first (reads_at text p) number)
      (from_same points (p + 4)
      (λ j d within. let e : p + 4 * suc j ≡ (p + 4) + 4 * j = omega arith in subst (λ q. IsPoint (is_in_window text q) (get_or points j d) (seen_at seen q)) e (each (suc j) d (omega arith)))
      (λ j d within. let e : p + 4 * suc j ≡ (p + 4) + 4 * j = omega arith in reads (suc j) d (omega arith) ∙ ap (reads_at text) e))
      ∙ ap (λ b. flat_map at (cond b (p ∷ filter g (points_from (p + 4) (length points))) (filter g (points_from (p + 4) (length points))))) (sym gives)

-- the points where something was seen are points of the text

place_of : (base n a : ℕ) → is_point_in base n a ≡ true → (j : ℕ) × (j < n) × (a ≡ base + 4 * j)
place_of base n a is =
    let low : base ≤ a = grind (arith, nat_tests) in
    let whole : (a - base) % 4 ≡ 0 = grind (arith, nat_tests) in
    let within : (a - base) / 4 < n = grind (arith, nat_tests) in
    ((a - base) / 4, within, omega arith)

among : (text : Picture) (seen : List Observation) → list_all (λ (o : Observation). is_point text o.point) seen ≡ true → AreAmong text.text_base (length text.words) (map (λ (o : Observation). o.point) seen)
among text [] all = tt
among text (o ∷ seen) all = (place_of text.text_base (length text.words) o.point (first_true (is_point text o.point) (list_all (λ (x : Observation). is_point text x.point) seen) all), among text seen (second_true (is_point text o.point) (list_all (λ (x : Observation). is_point text x.point) seen) all))
  where
    first_true : (b c : Bool) → (b && c) ≡ true → b ≡ true
    first_true true c is = refl
    first_true false c is = is

    second_true : (b c : Bool) → (b && c) ≡ true → c ≡ true
    second_true true c is = is
    second_true false c is = cc

pub learned_is : (text : Picture) (points : List Point) → IsTable text points → (seen : List Observation) → StandsFor (record { text = text; points = points }) seen → learned_from text text.text_base points ≡ learned text seen
learned_is text points table seen stands =
    let keys = map (λ (o : Observation). o.point) seen in
    let g = grown (λ p. false) keys in
    let f = λ (p : ℕ). learned_at p (reads_at text p) (window_registers text p) (seen_at seen p) in
    from_same text seen g (λ q. grown_some (λ p. false) q seen) points text.text_base stands.each table.reads
    ∙ ap (λ n. flat_map f (filter g (points_from text.text_base n))) table.words
    ∙ ap (flat_map f) (sym (points_seen text.text_base (length text.words) keys (among text seen stands.at_points)))
