-- A table of points: one observation more, those of another one, and none.
use Rattle.std.proofs.Common.{◌≡◌, ◌≢◌, ℕ, ◌+◌, ◌<◌, ◌≤◌, ◌&&◌, Bool, true, false, cond, eqb, List, [], ◌∷◌, ◌++◌, ◌∙◌, refl, sym, ap, subst, length, get_or, set, append-nil, ⊎_elim, arith}
use Rattle.std.proofs.Math.Path.{fun_ext}
use Rattle.std.proofs.lemmas.Bool.{cases_eq}
use Rattle.std.proofs.lemmas.Bool.Decides.{nat_tests}
use Rattle.std.proofs.lemmas.List.{length-map, get_or-map, length-set, get_or-set_other, get_or-set_same}
use Rattle.std.proofs.lemmas.List.Elements.{filter-append, All-filter}
use Rattle.std.proofs.lemmas.List.Folds.{list_all-append}
use Rattle.std.proofs.lemmas.List.FromFn.{get_or-range_with_len, length-range_with_len}
use Rattle.std.specs.List.{All, list_all, range_with_len}
use Rattle.cv_base.specs.declared.entries.Observation.{Observation}
use Rattle.cv_base.specs.Picture.{Picture, is_point}
use Rattle.cv_blocks.specs.TextMap.{is_in_window}
use Rattle.cv_isa.specs.Uses.{has, registers}
use Rattle.cv_isa.specs.declared.registers.RegSet.{RegSet}
use Rattle.cv_observe.proofs.EachPlace.{Each}
use Rattle.cv_observe.specs.AtPoint.{IsPoint, numbers_of}
use Rattle.cv_observe.specs.StandsFor.{IsTable, StandsFor, point_at}
use Rattle.cv_observe.specs.declared.point.Point.{Point}
use Rattle.cv_observe.specs.declared.register.Register.{Register}
use Rattle.cv_runs.specs.Learned.{seen_at}
use Rattle.cv_runs.specs.Text.{inst_at, reads, reads_at}

-- the registers that are read are below 32

registers_below : All (λ (r : ℕ). r < 32) registers
unfolding registers
registers_below k d within =
    let long = length-range_with_len 1 31 in
    let e : get_or (range_with_len 1 31) k d ≡ 1 + k = get_or-range_with_len 1 31 k d (omega arith) in
    rw e (omega arith)

reads_below : (text : Picture) (p : ℕ) → All (λ (r : ℕ). r < 32) (reads_at text p)
reads_below text p = All-filter (reads (inst_at text p)) (λ (r : ℕ). r < 32) registers registers_below

pub numbers_below : (text : Picture) (p : ℕ) (k : Point) → numbers_of k.registers.items ≡ reads_at text p → All (λ (r : Register). r.number < 32) k.registers.items
numbers_below text p k same x d within =
    let part = λ (r : Register). r.number in
    let items = k.registers.items in
    let long : length (reads_at text p) ≡ length items = sym (ap length same) ∙ length-map items part in
    let e : get_or (reads_at text p) x d.number ≡ (get_or items x d).number = ap (λ l. get_or l x d.number) (sym same) ∙ get_or-map part items x d d.number within in
    let below : get_or (reads_at text p) x d.number < 32 = reads_below text p x d.number (omega arith) in
    rw (sym e) below

-- a window as a set

pub in_window : (text : Picture) (p : ℕ) (set : RegSet) (k : Point) (here : List Observation) → ((r : ℕ) → has set r ≡ is_in_window text p r) → IsPoint (has set) k here → IsPoint (is_in_window text p) k here
in_window text p set k here each is = subst (λ (w : ℕ → Bool). IsPoint w k here) (fun_ext each) is

pub of_window : (text : Picture) (p : ℕ) (set : RegSet) (k : Point) (here : List Observation) → ((r : ℕ) → has set r ≡ is_in_window text p r) → IsPoint (is_in_window text p) k here → IsPoint (has set) k here
of_window text p set k here each is = subst (λ (w : ℕ → Bool). IsPoint w k here) (sym (fun_ext each)) is

-- what was seen at a point, with one observation more

at_more : (t : Observation → Bool) (seen : List Observation) (o : Observation) → list_all t seen ≡ true → t o ≡ true → list_all t (seen ++ o ∷ []) ≡ true
at_more t seen o all one = list_all-append t seen (o ∷ []) ∙ ap (λ s. s && (t o && true)) all ∙ ap (λ s. s && true) one

at_both : (t : Observation → Bool) (xs ys : List Observation) → list_all t xs ≡ true → list_all t ys ≡ true → list_all t (xs ++ ys) ≡ true
at_both t xs ys all more = list_all-append t xs ys ∙ ap (λ s. s && list_all t ys) all ∙ more

here_more : (seen : List Observation) (o : Observation) (p : ℕ) → o.point ≡ p → seen_at (seen ++ o ∷ []) p ≡ seen_at seen p ++ o ∷ []
here_more seen o p same =
    let e : eqb o.point p ≡ true = grind (arith, nat_tests) in
    filter-append (λ (x : Observation). eqb x.point p) seen (o ∷ []) ∙ ap (λ (b : Bool). seen_at seen p ++ cond b (o ∷ []) []) e

here_same : (seen : List Observation) (o : Observation) (p : ℕ) → o.point ≢ p → seen_at (seen ++ o ∷ []) p ≡ seen_at seen p
here_same seen o p other =
    let e : eqb o.point p ≡ false = grind (arith, nat_tests) in
    filter-append (λ (x : Observation). eqb x.point p) seen (o ∷ []) ∙ ap (λ (b : Bool). seen_at seen p ++ cond b (o ∷ []) []) e ∙ append-nil (seen_at seen p)

-- what joining and clearing make of a point

abbrev pub Joined : List Point → ℕ → Point → Point → Type 0
Joined others x old new = (numbers_of new.registers.items ≡ numbers_of old.registers.items) × (new.seen ≡ false → new ≡ old) × ((d : Point) (window : ℕ → Bool) (xs ys : List Observation) → IsPoint window old xs → IsPoint window (get_or others x d) ys → IsPoint window new (xs ++ ys))

abbrev pub Cleared : Picture → ℕ → Point → Point → Type 0
Cleared text x old new = (numbers_of new.registers.items ≡ numbers_of old.registers.items) × ((old.seen ≡ false → IsPoint (is_in_window text (point_at text x)) old []) → IsPoint (is_in_window text (point_at text x)) new [])

module _ (text : Picture) (points : List Point) (table : IsTable text points) where
  abbrev at : ℕ → ℕ → Bool
  at x = is_in_window text (point_at text x)

  -- one point set

  module _ (i : ℕ) (e y : Point) (within : i < length points) (numbers : numbers_of y.registers.items ≡ numbers_of (get_or points i e).registers.items) where
    abbrev pub changed : List Point
    changed = set points i y

    long : length changed ≡ length points
    long = length-set points i y

    by_place : (P : ℕ → Point → Type 0) → P i y → ((x : ℕ) (d : Point) → x < length points → P x (get_or points x d)) → (x : ℕ) (d : Point) → x < length changed → P x (get_or changed x d)
    by_place P here others x d inside =
        let l = long in
        ⊎_elim
        (λ same. subst (λ k. P k (get_or changed k d)) (sym same) (subst (P i) (sym (get_or-set_same points i y d within)) here))
        (λ other. subst (P x) (sym (get_or-set_other points i x y d other)) (others x d (omega arith)))
        (cases_eq x i)

    pub table_set : y.seen ≡ true → IsTable text changed
    table_set seen = record {
      words = long ∙ table.words;
      reads = by_place (λ x k. numbers_of k.registers.items ≡ reads_at text (point_at text x)) (numbers ∙ table.reads i e within) table.reads;
      fresh = by_place (λ x k. k.seen ≡ false → IsPoint (at x) k []) (λ h. cc) table.fresh;
    }

    pub stands_set : (o : Observation) → point_at text i ≡ o.point → is_point text o.point ≡ true → ((window : ℕ → Bool) (here : List Observation) → IsPoint window (get_or points i e) here → IsPoint window y (here ++ o ∷ []))
        → (seen : List Observation) → StandsFor (record { text = text; points = points }) seen → StandsFor (record { text = text; points = changed }) (seen ++ o ∷ [])
    stands_set o here is kept seen stands = record {
      at_points = at_more (λ (x : Observation). is_point text x.point) seen o stands.at_points is;
      each = λ x d inside.
          let l = long in
          ⊎_elim
          (λ same.
          subst (λ k. IsPoint (at k) (get_or changed k d) (seen_at (seen ++ o ∷ []) (point_at text k))) (sym same)
          (subst (λ k. IsPoint (at i) k (seen_at (seen ++ o ∷ []) (point_at text i))) (sym (get_or-set_same points i y d within))
          (subst (λ h. IsPoint (at i) y h) (sym (here_more seen o (point_at text i) (sym here))) (kept (at i) (seen_at seen (point_at text i)) (stands.each i e within)))))
          (λ other.
          let apart : o.point ≢ point_at text x = omega arith in
          subst (λ k. IsPoint (at x) k (seen_at (seen ++ o ∷ []) (point_at text x))) (sym (get_or-set_other points i x y d other))
          (subst (λ h. IsPoint (at x) (get_or points x d) h) (sym (here_same seen o (point_at text x) apart)) (stands.each x d (omega arith))))
          (cases_eq x i);
    }

  -- the points of another table joined

  module _ (others : List Point) (other : IsTable text others) (n : ℕ) (list : List Point) (end : length list ≤ n) (each : Each (Joined others) points n list) where
    pub table_joined : IsTable text list
    table_joined =
        let l = each.length in record {
          words = each.length ∙ table.words;
          reads = λ x d inside. (each.done x (omega arith) d).0 ∙ table.reads x d (omega arith);
          fresh = λ x d inside unseen. let j = each.done x (omega arith) d in let same = j.1 unseen in subst (λ k. IsPoint (at x) k []) (sym same) (table.fresh x d (omega arith) (ap (λ (k : Point). k.seen) (sym same) ∙ unseen));
        }

    pub stands_joined : (xs ys : List Observation) → StandsFor (record { text = text; points = points }) xs → StandsFor (record { text = text; points = others }) ys → StandsFor (record { text = text; points = list }) (xs ++ ys)
    stands_joined xs ys a b = record {
      at_points = at_both (λ (x : Observation). is_point text x.point) xs ys a.at_points b.at_points;
      each = λ x d inside.
          let l = each.length in
          let k = table.words in
          let m = other.words in
          let p = point_at text x in
          subst (IsPoint (at x) (get_or list x d)) (sym (filter-append (λ (o : Observation). eqb o.point p) xs ys))
          ((each.done x (omega arith) d).2 d (at x) (seen_at xs p) (seen_at ys p) (a.each x d (omega arith)) (b.each x d (omega arith)));
    }

  -- all points cleared

  module _ (n : ℕ) (list : List Point) (end : length list ≤ n) (each : Each (Cleared text) points n list) where
    cleared_at : (x : ℕ) (d : Point) → x < length list → IsPoint (at x) (get_or list x d) []
    cleared_at x d inside = let l = each.length in (each.done x (omega arith) d).1 (table.fresh x d (omega arith))

    pub table_cleared : IsTable text list
    table_cleared =
        let l = each.length in record {
          words = each.length ∙ table.words;
          reads = λ x d inside. (each.done x (omega arith) d).0 ∙ table.reads x d (omega arith);
          fresh = λ x d inside unseen. cleared_at x d inside;
        }

    pub stands_cleared : StandsFor (record { text = text; points = list }) []
    stands_cleared = record { at_points = refl; each = λ x d inside. cleared_at x d inside }
