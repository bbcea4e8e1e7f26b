-- Rows, passes and entries that are counted.
use Rattle.std.proofs.Common.{◌≡◌, ◌≢◌, ◌≤◌, ◌<◌, ◌+◌, ◌⊎◌, ◌==◌, ℕ, suc, Bool, true, false, cond, List, [], ◌∷◌, ◌++◌, length, Option, Some, None, inl, ⊎_elim, refl, sym, ap, ◌∙◌, arith}
use Rattle.std.specs.Prelude.{nat_le, nat_lt}
use Rattle.std.specs.List.{AllByRecursion}
use Rattle.std.proofs.lemmas.Bool.{cases_eq, cases_lt}
use Rattle.std.proofs.lemmas.Bool.Decides.{eqb_tells, leb_tells}
use Rattle.std.proofs.lemmas.Option.{same_Some}
use mathlib.Core.List.{IsPrefix}
use Rattle.cv_rule.proofs.Prefixes.{all_append, all_more}
use Rattle.cv_rule.proofs.Totals.{total_append}
use Rattle.cv_rule.specs.Counts.{IsAbove, Rises, awaited, below, carried, entry_with, has_draw, idle_rows, idle_rows_of, if_so, is_pass, is_pass_of, last_after, last_of, posted_of, rows_like, rows_of, times, version_after}
use Rattle.cv_rule.specs.Rule.{IsPassHand}
use Rattle.cv_rule.specs.Steps.{first_of, others_of, way_with}
use Rattle.cv_rule.specs.declared.view.Posted.{Posted}
use Rattle.cv_rule.specs.declared.view.Role.{Role}
use Rattle.cv_rule.specs.declared.view.Role.TheVariants.{Master, Pass, Note, Spent}
use Rattle.cv_rule.specs.declared.view.Row.{Row}

-- ---- tests

pub eq_one : (a b : ℕ) → a ≡ b → if_so (a == b) 1 ≡ 1
eq_one a b e = ⊎_elim (λ t. ap (λ (x : Bool). if_so x 1) t.0) (λ t. absurd (t.1 e)) (eqb_tells a b)

pub ne_zero : (a b n : ℕ) → a ≢ b → if_so (a == b) n ≡ 0
ne_zero a b n e = ⊎_elim (λ t. absurd (e t.1)) (λ t. ap (λ (x : Bool). if_so x n) t.0) (eqb_tells a b)

pub eq_that : (a b n : ℕ) → a ≡ b → if_so (a == b) n ≡ n
eq_that a b n e = ⊎_elim (λ t. ap (λ (x : Bool). if_so x n) t.0) (λ t. absurd (t.1 e)) (eqb_tells a b)

pub lt_that : (a b n : ℕ) → a < b → if_so (nat_lt a b) n ≡ n
lt_that a b n h = ⊎_elim (λ t. ap (λ (x : Bool). if_so x n) t.0) (λ t. absurd (omega (arith, t.1))) (leb_tells (suc a) b)

pub ge_none : (a b n : ℕ) → b ≤ a → if_so (nat_lt a b) n ≡ 0
ge_none a b n h = ⊎_elim (λ t. absurd (omega (arith, t.1))) (λ t. ap (λ (x : Bool). if_so x n) t.0) (leb_tells (suc a) b)

pub le_that : (a b n : ℕ) → a ≤ b → if_so (nat_le a b) n ≡ n
le_that a b n h = ⊎_elim (λ t. ap (λ (x : Bool). if_so x n) t.0) (λ t. absurd (omega (arith, t.1))) (leb_tells a b)

pub gt_none : (a b n : ℕ) → b < a → if_so (nat_le a b) n ≡ 0
gt_none a b n h = ⊎_elim (λ t. absurd (omega (arith, t.1))) (λ t. ap (λ (x : Bool). if_so x n) t.0) (leb_tells a b)

pub if_zero : (b : Bool) → if_so b 0 ≡ 0
if_zero true = refl
if_zero false = refl

pub if_add : (b : Bool) (x y : ℕ) → if_so b (x + y) ≡ if_so b x + if_so b y
if_add true x y = refl
if_add false x y = refl

pub if_most : (b : Bool) (n : ℕ) → if_so b n ≤ n
if_most true n = omega arith
if_most false n = omega arith

-- the test that is true where a number is above none
pub if_some : (a b n : ℕ) → 0 < if_so (a == b) n → (a ≡ b) × (0 < n)
if_some a b n h =
    ⊎_elim
    (λ t. (t.1, let e : if_so (a == b) n ≡ n = ap (λ (x : Bool). if_so x n) t.0 in omega arith))
    (λ t. absurd (let e : if_so (a == b) n ≡ 0 = ap (λ (x : Bool). if_so x n) t.0 in omega arith))
    (eqb_tells a b)

pub below_most : (n bound : ℕ) → below n bound ≤ 1
below_most n bound = if_most (nat_lt n bound) 1

pub below_some : (n bound : ℕ) → 0 < below n bound → n < bound
below_some n bound h = ⊎_elim (λ lt. lt) (λ ge. absurd (let e = ge_none n bound 1 ge in omega arith)) (cases_lt n bound)

-- one more number is below the next bound
pub below_more : (n bound : ℕ) → below n (bound + 1) ≡ below n bound + if_so (bound == n) 1
below_more n bound =
    ⊎_elim
    (λ lt. let a = lt_that n bound 1 lt in let b = lt_that n (bound + 1) 1 (omega arith) in let c = ne_zero bound n 1 (λ e. omega arith) in omega arith)
    (λ ge. let a = ge_none n bound 1 ge in
    ⊎_elim
    (λ e. let b = lt_that n (bound + 1) 1 (omega arith) in let c = eq_one bound n e in omega arith)
    (λ ne. let b = ge_none n (bound + 1) 1 (omega arith) in let c = ne_zero bound n 1 ne in omega arith)
    (cases_eq bound n))
    (cases_lt n bound)

-- ---- rows

like_most : (a b c : Bool) → if_so a (if_so b (if_so c 1)) ≤ if_so b 1
like_most true b true = omega arith
like_most true true false = omega arith
like_most true false false = omega arith
like_most false b c = omega arith

pub like_of : (worker draw floor : ℕ) (hand : List Row) → rows_like worker draw floor hand ≤ rows_of draw hand
like_of worker draw floor [] = omega arith
like_of worker draw floor (r ∷ rs) = omega (arith, like_most (r.worker == worker) (r.draw == draw) (r.floor == floor), like_of worker draw floor rs)

pub carried_of : (runs worker draw floor : ℕ) (role : Role) (hand : List Row) → carried runs worker draw floor role hand ≤ rows_of draw hand
carried_of runs worker draw floor Master hand = omega (arith, if_most (nat_lt draw runs) (rows_like worker draw floor hand), like_of worker draw floor hand)
carried_of runs worker draw floor Note hand = omega (arith, if_most (nat_lt draw runs) (rows_like worker draw floor hand), like_of worker draw floor hand)
carried_of runs worker draw floor (Pass w) hand = omega arith
carried_of runs worker draw floor Spent hand = omega arith

-- a row of a hand counts as one that is like it
pub row_like : (draw : ℕ) (hand : List Row) → 0 < rows_of draw hand → (r : Row) × (0 < rows_like r.worker draw r.floor hand)
row_like draw [] h = absurd (omega arith)
row_like draw (r ∷ rs) h =
    ⊎_elim
    (λ (e : r.draw ≡ draw).
    let a = eq_that r.worker r.worker (if_so (r.draw == draw) (if_so (r.floor == r.floor) 1)) refl in
    let b = eq_that r.draw draw (if_so (r.floor == r.floor) 1) e in
    let c = eq_one r.floor r.floor refl in
    (r, omega arith))
    (λ (ne : r.draw ≢ draw).
    let a = ne_zero r.draw draw 1 ne in
    let later = row_like draw rs (omega arith) in
    (later.0, let b = later.1 in omega arith))
    (cases_eq r.draw draw)

-- each row of a hand counts
pub each_counts : (hand : List Row) → AllByRecursion (λ (x : Row). 0 < rows_like x.worker x.draw x.floor hand) hand
each_counts [] = tt
each_counts (r ∷ rs) =
    let a = eq_that r.worker r.worker (if_so (r.draw == r.draw) (if_so (r.floor == r.floor) 1)) refl in
    let b = eq_that r.draw r.draw (if_so (r.floor == r.floor) 1) refl in
    let c = eq_one r.floor r.floor refl in
    (omega arith, all_more (λ (x : Row). 0 < rows_like x.worker x.draw x.floor rs) (λ (x : Row). 0 < rows_like x.worker x.draw x.floor (r ∷ rs)) (λ x h. omega arith) rs (each_counts rs))

-- an idle row counts by its draw
pub idle_row : (runs : ℕ) (hand : List Row) → 0 < idle_rows runs hand → (draw : ℕ) × (runs ≤ draw) × (0 < rows_of draw hand)
idle_row runs [] h = absurd (omega arith)
idle_row runs (r ∷ rs) h =
    ⊎_elim
    (λ (lt : r.draw < runs). let none = gt_none runs r.draw 1 lt in let later = idle_row runs rs (omega arith) in (later.0, later.1, let more = later.2 in omega arith))
    (λ (ge : runs ≤ r.draw). let one = eq_one r.draw r.draw refl in (r.draw, ge, omega arith))
    (cases_lt r.draw runs)

-- rows that are runs are not idle
pub none_idle : (runs : ℕ) (hand : List Row) → AllByRecursion (λ (r : Row). r.draw < runs) hand → idle_rows runs hand ≡ 0
none_idle runs [] all = refl
none_idle runs (r ∷ rs) all = omega (arith, gt_none runs r.draw 1 all.0, none_idle runs rs all.1)

pub none_idle_of : (runs worker : ℕ) (hand : List Row) → AllByRecursion (λ (r : Row). r.draw < runs) hand → idle_rows_of runs worker hand ≡ 0
none_idle_of runs worker [] all = refl
none_idle_of runs worker (r ∷ rs) all = omega (arith, ap (λ (n : ℕ). if_so (r.worker == worker) n) (gt_none runs r.draw 1 all.0), if_zero (r.worker == worker), none_idle_of runs worker rs all.1)

-- idle rows are not carried
none_like : (worker draw floor : ℕ) (hand : List Row) → AllByRecursion (λ (r : Row). draw < r.draw ⊎ r.draw < draw) hand → rows_like worker draw floor hand ≡ 0
none_like worker draw floor [] all = refl
none_like worker draw floor (r ∷ rs) all =
    let apart : r.draw ≢ draw = λ e. ⊎_elim (λ (h : draw < r.draw). omega arith) (λ (h : r.draw < draw). omega arith) all.0 in
    omega (arith, ap (λ (n : ℕ). if_so (r.worker == worker) n) (ne_zero r.draw draw (if_so (r.floor == floor) 1) apart), if_zero (r.worker == worker), none_like worker draw floor rs all.1)

all_apart : (runs draw : ℕ) (hand : List Row) → draw < runs → AllByRecursion (λ (r : Row). runs ≤ r.draw) hand → AllByRecursion (λ (r : Row). draw < r.draw ⊎ r.draw < draw) hand
all_apart runs draw [] h all = tt
all_apart runs draw (r ∷ rs) h all = (inl (omega (arith, all.0)), all_apart runs draw rs h all.1)

pub idle_not_carried : (runs worker draw floor : ℕ) (hand : List Row) → AllByRecursion (λ (r : Row). runs ≤ r.draw) hand → if_so (nat_lt draw runs) (rows_like worker draw floor hand) ≡ 0
idle_not_carried runs worker draw floor hand all =
    ⊎_elim
    (λ lt. lt_that draw runs (rows_like worker draw floor hand) lt ∙ none_like worker draw floor hand (all_apart runs draw hand lt all))
    (λ ge. ge_none draw runs (rows_like worker draw floor hand) ge)
    (cases_lt draw runs)

-- a pass's hand has one idle row at most, its worker's
pub few_idle : (runs worker floor : ℕ) (way : Option ℕ) (hand : List Row) → IsPassHand worker floor way hand → idle_rows runs hand ≤ 1
few_idle runs worker floor way [] is = omega arith
few_idle runs worker floor way (r ∷ []) is = omega (arith, if_most (nat_le runs r.draw) 1)
few_idle runs worker floor way (r ∷ s ∷ rest) is = absurd is

pub own_idle : (runs worker floor w : ℕ) (way : Option ℕ) (hand : List Row) → IsPassHand worker floor way hand → idle_rows_of runs w hand ≤ if_so (worker == w) 1
own_idle runs worker floor w way [] is = omega arith
own_idle runs worker floor w way (r ∷ []) is =
    let same : if_so (r.worker == w) (if_so (nat_le runs r.draw) 1) ≡ if_so (worker == w) (if_so (nat_le runs r.draw) 1) = ap (λ (n : ℕ). if_so (n == w) (if_so (nat_le runs r.draw) 1)) is.0 in
    let most : if_so (worker == w) (if_so (nat_le runs r.draw) 1) ≤ if_so (worker == w) 1 = nested (worker == w) (nat_le runs r.draw) in
    omega arith
  where
    nested : (a b : Bool) → if_so a (if_so b 1) ≤ if_so a 1
    nested true true = omega arith
    nested true false = omega arith
    nested false b = omega arith
own_idle runs worker floor w way (r ∷ s ∷ rest) is = absurd is

-- ---- who awaits what

pub awaits_none : (worker draw floor : ℕ) (role : Role) (f : ℕ) → awaited worker draw floor role f None ≡ 0
awaits_none worker draw floor (Pass w) f = ap (λ (n : ℕ). if_so (w == worker) n) (if_zero (f == floor)) ∙ if_zero (w == worker)
awaits_none worker draw floor Master f = refl
awaits_none worker draw floor Note f = refl
awaits_none worker draw floor Spent f = refl

pub awaits_tells : (worker draw floor : ℕ) (role : Role) (f : ℕ) (way : Option ℕ) → 0 < awaited worker draw floor role f way → (role ≡ Pass worker) × (f ≡ floor) × (way ≡ Some draw)
awaits_tells worker draw floor Master f way h = absurd (omega arith)
awaits_tells worker draw floor Note f way h = absurd (omega arith)
awaits_tells worker draw floor Spent f way h = absurd (omega arith)
awaits_tells worker draw floor (Pass w) f None h = absurd (let e = awaits_none worker draw floor (Pass w) f in omega arith)
awaits_tells worker draw floor (Pass w) f (Some d) h =
    let a = if_some w worker (if_so (f == floor) (if_so (d == draw) 1)) h in
    let b = if_some f floor (if_so (d == draw) 1) a.1 in
    let c = if_some d draw 1 b.1 in
    (ap (λ (n : ℕ). Pass n) a.0, b.0, ap (λ (n : ℕ). Some n) c.0)

pub awaits_pass : (worker draw floor : ℕ) (role : Role) (f : ℕ) (way : Option ℕ) → awaited worker draw floor role f way ≤ is_pass_of worker role
awaits_pass worker draw floor Master f way = omega arith
awaits_pass worker draw floor Note f way = omega arith
awaits_pass worker draw floor Spent f way = omega arith
awaits_pass worker draw floor (Pass w) f None = let e = awaits_none worker draw floor (Pass w) f in omega arith
awaits_pass worker draw floor (Pass w) f (Some d) = nested (w == worker) (f == floor) (d == draw)
  where
    nested : (a b c : Bool) → if_so a (if_so b (if_so c 1)) ≤ if_so a 1
    nested true true true = omega arith
    nested true true false = omega arith
    nested true false c = omega arith
    nested false b c = omega arith

pub pass_is : (worker : ℕ) (role : Role) → is_pass_of worker role ≤ is_pass role
pass_is worker Master = omega arith
pass_is worker Note = omega arith
pass_is worker Spent = omega arith
pass_is worker (Pass w) = if_most (w == worker) 1

-- a pass awaits one draw at most
pub awaits_one : (worker draw draw' floor floor' : ℕ) (role : Role) (f : ℕ) (way : Option ℕ) → draw ≢ draw' → awaited worker draw floor role f way + awaited worker draw' floor' role f way ≤ is_pass_of worker role
awaits_one worker draw draw' floor floor' role f way apart =
    ⊎_elim
    (λ some. let first = awaits_tells worker draw floor role f way some in
    ⊎_elim
    (λ also. absurd (let second = awaits_tells worker draw' floor' role f way also in apart (cc (first.2, second.2))))
    (λ none. let a = awaits_pass worker draw floor role f way in omega arith)
    (cases_lt 0 (awaited worker draw' floor' role f way)))
    (λ none. let a = awaits_pass worker draw' floor' role f way in omega arith)
    (cases_lt 0 (awaited worker draw floor role f way))

-- a row that is a run is carried as the pass awaits it that gave it away
pub row_awaited : (runs worker draw floor : ℕ) (r : Row) → r.draw < runs → if_so (nat_lt draw runs) (rows_like worker draw floor (r ∷ [])) ≡ awaited worker draw floor (Pass r.worker) r.floor (Some r.draw)
row_awaited runs worker draw floor r run =
    ⊎_elim
    (λ t. let lt : draw < runs = omega (arith, t.1) in lt_that draw runs (rows_like worker draw floor (r ∷ [])) lt ∙ swapped (r.worker == worker) (r.draw == draw) (r.floor == floor))
    (λ t. ap (λ (b : Bool). if_so (nat_lt draw runs) (if_so (r.worker == worker) (if_so b (if_so (r.floor == floor) 1)) + 0)) t.0 ∙ none (nat_lt draw runs) (r.worker == worker) (r.floor == floor)
    ∙ ap (λ (b : Bool). if_so (r.worker == worker) (if_so (r.floor == floor) (if_so b 1))) (sym t.0))
    (eqb_tells r.draw draw)
  where
    swapped : (a b c : Bool) → if_so a (if_so b (if_so c 1)) + 0 ≡ if_so a (if_so c (if_so b 1))
    swapped true true true = refl
    swapped true true false = refl
    swapped true false true = refl
    swapped true false false = refl
    swapped false b c = refl

    none : (x a c : Bool) → if_so x (if_so a 0 + 0) ≡ if_so a (if_so c 0)
    none true true true = refl
    none true true false = refl
    none true false c = refl
    none false true true = refl
    none false true false = refl
    none false false c = refl

-- the only row of a hand, as it counts
pub row_here : (runs : ℕ) (r : Row) → r.draw < runs → if_so (nat_lt r.draw runs) (rows_like r.worker r.draw r.floor (r ∷ [])) ≡ 1
row_here runs r run =
    lt_that r.draw runs (rows_like r.worker r.draw r.floor (r ∷ [])) run
    ∙ (let a = eq_that r.worker r.worker (if_so (r.draw == r.draw) (if_so (r.floor == r.floor) 1)) refl in
    let b = eq_that r.draw r.draw (if_so (r.floor == r.floor) 1) refl in
    let c = eq_one r.floor r.floor refl in
    omega arith)

-- ---- the book list

pub last_push : (worker : ℕ) (found : Option Posted) (book : List Posted) (t : Posted) → last_after worker found (book ++ t ∷ []) ≡ cond (t.worker == worker) (Some t) (last_after worker found book)
last_push worker found [] t = refl
last_push worker found (u ∷ us) t = last_push worker (cond (u.worker == worker) (Some u) found) us t

pub last_same : (worker : ℕ) (book : List Posted) (t : Posted) → t.worker ≡ worker → last_of worker (book ++ t ∷ []) ≡ Some t
last_same worker book t e =
    ⊎_elim
    (λ x. last_push worker None book t ∙ ap (λ (b : Bool). cond b (Some t) (last_of worker book)) x.0)
    (λ x. absurd (x.1 e))
    (eqb_tells t.worker worker)

pub last_other : (worker : ℕ) (book : List Posted) (t : Posted) → t.worker ≢ worker → last_of worker (book ++ t ∷ []) ≡ last_of worker book
last_other worker book t e =
    ⊎_elim
    (λ x. absurd (e x.1))
    (λ x. last_push worker None book t ∙ ap (λ (b : Bool). cond b (Some t) (last_of worker book)) x.0)
    (eqb_tells t.worker worker)

-- an entry that was found counts
pub found_counts : (draw : ℕ) (ts : List Posted) (t : Posted) → entry_with draw ts ≡ Some t → 0 < posted_of draw ts
found_counts draw [] t e = absurd cc
found_counts draw (u ∷ us) t e =
    ⊎_elim
    (λ x. let a = ap (λ (b : Bool). if_so b 1) x.0 in omega arith)
    (λ x. let later : entry_with draw us ≡ Some t = sym (ap (λ (b : Bool). cond b (Some u) (entry_with draw us)) x.0) ∙ e in omega (arith, found_counts draw us t later))
    (eqb_tells u.draw draw)

-- no entry has a draw that is no run
pub none_posted : (runs draw : ℕ) (book : List Posted) → runs ≤ draw → AllByRecursion (λ (t : Posted). t.draw < runs) book → posted_of draw book ≡ 0
none_posted runs draw [] h all = refl
none_posted runs draw (t ∷ ts) h all = omega (arith, ne_zero t.draw draw 1 (λ e. omega (arith, all.0)), none_posted runs draw ts h all.1)

pub begins_counts : (draw : ℕ) (ts book : List Posted) → IsPrefix ts book → posted_of draw ts ≤ posted_of draw book
begins_counts draw ts book p =
    let parts = total_append (λ (t : Posted). if_so (t.draw == draw) 1) ts p.0 in
    let whole : posted_of draw (ts ++ p.0) ≡ posted_of draw book = ap (λ (l : List Posted). posted_of draw l) p.1 in
    omega arith

-- each entry counts
pub each_posted : (book : List Posted) → AllByRecursion (λ (t : Posted). 0 < posted_of t.draw book) book
each_posted [] = tt
each_posted (t ∷ ts) =
    let a = eq_one t.draw t.draw refl in
    (omega arith, all_more (λ (u : Posted). 0 < posted_of u.draw ts) (λ (u : Posted). 0 < posted_of u.draw (t ∷ ts)) (λ u h. omega arith) ts (each_posted ts))

-- an entry that was found in a beginning is found in the whole
pub found_begins : (draw : ℕ) (ts rest : List Posted) (t : Posted) → entry_with draw ts ≡ Some t → entry_with draw (ts ++ rest) ≡ Some t
found_begins draw [] rest t e = absurd cc
found_begins draw (u ∷ us) rest t e =
    ⊎_elim
    (λ x. ap (λ (b : Bool). cond b (Some u) (entry_with draw (us ++ rest))) x.0 ∙ (sym (ap (λ (b : Bool). cond b (Some u) (entry_with draw us)) x.0) ∙ e))
    (λ x. ap (λ (b : Bool). cond b (Some u) (entry_with draw (us ++ rest))) x.0 ∙ found_begins draw us rest t (sym (ap (λ (b : Bool). cond b (Some u) (entry_with draw us)) x.0) ∙ e))
    (eqb_tells u.draw draw)

-- where no entry has a draw, the last one with it was found before
last_before : (worker draw : ℕ) (found : Option Posted) (book : List Posted) (t : Posted) → posted_of draw book ≡ 0 → last_after worker found book ≡ Some t → t.draw ≡ draw → found ≡ Some t
last_before worker draw found [] t none e is = e
last_before worker draw found (u ∷ us) t none e is =
    ⊎_elim
    (λ x. absurd (let a = ap (λ (b : Bool). if_so b 1) x.0 in omega arith))
    (λ x.
    let a = ap (λ (b : Bool). if_so b 1) x.0 in
    let before = last_before worker draw (cond (u.worker == worker) (Some u) found) us t (omega arith) e is in
    ⊎_elim
    (λ y. absurd (x.1 (let same : u ≡ t = same_Some u t (sym (ap (λ (b : Bool). cond b (Some u) found) y.0) ∙ before) in ap (λ (p : Posted). p.draw) same ∙ is)))
    (λ y. sym (ap (λ (b : Bool). cond b (Some u) found) y.0) ∙ before)
    (eqb_tells u.worker worker))
    (eqb_tells u.draw draw)

-- the only entry with a draw is the one that was found, and the last one where that has the draw
pub last_found : (worker draw : ℕ) (found : Option Posted) (book : List Posted) (t last : Posted)
    → entry_with draw book ≡ Some t → posted_of draw book ≤ 1 → last_after worker found book ≡ Some last → last.draw ≡ draw → ((u : Posted) → found ≡ Some u → u.draw ≢ draw) → t ≡ last
last_found worker draw found [] t last e once is has fresh = absurd cc
last_found worker draw found (u ∷ us) t last e once is has fresh =
    ⊎_elim
    (λ x.
    let a = ap (λ (b : Bool). if_so b 1) x.0 in
    let here : u ≡ t = same_Some u t (sym (ap (λ (b : Bool). cond b (Some u) (entry_with draw us)) x.0) ∙ e) in
    let before = last_before worker draw (cond (u.worker == worker) (Some u) found) us last (omega arith) is has in
    ⊎_elim
    (λ y. sym here ∙ same_Some u last (sym (ap (λ (b : Bool). cond b (Some u) found) y.0) ∙ before))
    (λ y. absurd (fresh last (sym (ap (λ (b : Bool). cond b (Some u) found) y.0) ∙ before) has))
    (eqb_tells u.worker worker))
    (λ x.
    let a = ap (λ (b : Bool). if_so b 1) x.0 in
    let later : entry_with draw us ≡ Some t = sym (ap (λ (b : Bool). cond b (Some u) (entry_with draw us)) x.0) ∙ e in
    last_found worker draw (cond (u.worker == worker) (Some u) found) us t last later (omega arith) is has
    (λ v f.
    ⊎_elim
    (λ y. let same : u ≡ v = same_Some u v (sym (ap (λ (b : Bool). cond b (Some u) found) y.0) ∙ f) in λ e. x.1 (ap (λ (p : Posted). p.draw) same ∙ e))
    (λ y. fresh v (sym (ap (λ (b : Bool). cond b (Some u) found) y.0) ∙ f))
    (eqb_tells u.worker worker)))
    (eqb_tells u.draw draw)

pub has_some : (draw : ℕ) (found : Option Posted) → 0 < has_draw draw found → (t : Posted) × (found ≡ Some t) × (t.draw ≡ draw)
has_some draw None h = absurd (omega arith)
has_some draw (Some t) h = (t, refl, (if_some t.draw draw 1 h).0)

-- a bound of all versions bounds the last one
pub last_version : (worker bound : ℕ) (found : Option Posted) (book : List Posted) → AllByRecursion (λ (t : Posted). t.version ≤ bound) book → version_after found ≤ bound → version_after (last_after worker found book) ≤ bound
last_version worker bound found [] all low = low
last_version worker bound found (t ∷ ts) all low =
    last_version worker bound (cond (t.worker == worker) (Some t) found) ts all.1
    (⊎_elim
    (λ x. let e = ap (λ (b : Bool). version_after (cond b (Some t) found)) x.0 in omega (arith, all.0))
    (λ x. let e = ap (λ (b : Bool). version_after (cond b (Some t) found)) x.0 in omega arith)
    (eqb_tells t.worker worker))

-- one more entry, above all of its worker's
pub rises_push : (book : List Posted) (t : Posted) → Rises book → IsAbove book t.worker t.draw → Rises (book ++ t ∷ [])
rises_push [] t rises above = (tt, tt)
rises_push (u ∷ us) t rises above = (all_append (λ (x : Posted). x.worker ≡ u.worker → u.draw < x.draw) us (t ∷ []) rises.0 ((λ e. above.0 (sym e)), tt), rises_push us t rises.1 above.1)

-- ---- workers without a pass

pub times_split : (worker : ℕ) (absent : List ℕ) → 0 < length absent → times worker absent ≡ if_so (first_of absent == worker) 1 + times worker (others_of absent)
times_split worker [] h = absurd (omega arith)
times_split worker (w ∷ ws) h = refl

pub length_split : (absent : List ℕ) → 0 < length absent → length absent ≡ 1 + length (others_of absent)
length_split [] h = absurd (omega arith)
length_split (w ∷ ws) h = omega arith

pub way_some : (hand : List Row) (way : Option ℕ) (draw : ℕ) → way_with hand way ≡ Some draw → way ≡ Some draw
way_some [] way draw e = e
way_some (r ∷ rs) way draw e = absurd cc
