-- Each step keeps what the rule says of the order of one worker's runs.
use Rattle.std.proofs.Common.{◌≡◌, ◌≢◌, ◌≤◌, ◌<◌, ◌+◌, ◌-◌, ◌==◌, ℕ, List, [], ◌∷◌, ◌++◌, length, Option, Some, None, ⊎_elim, refl, sym, ap, ◌∙◌, subst, arith}
use Rattle.std.specs.Prelude.{slice_set}
use Rattle.std.specs.List.{AllByRecursion}
use Rattle.std.proofs.lemmas.Bool.{cases_eq}
use mathlib.Core.List.{IsPrefix}
use Rattle.cv_rule.proofs.Counting.{awaits_one, below_most, below_some, carried_of, each_counts, each_posted, eq_one, eq_that, found_begins, found_counts, has_some, last_found, last_other, last_version, like_of, lt_that, rises_push, row_here}
use Rattle.cv_rule.proofs.Draws.{Awaits, Carries, Rows, Seats, carries_as, row_is_awaited}
use Rattle.cv_rule.proofs.Places.{each_join, each_set, each_split, only_one, set_again, set_else, set_here, set_twice}
use Rattle.cv_rule.proofs.Prefixes.{all_append, all_more, longer_begins}
use Rattle.cv_rule.proofs.Totals.{at_most_total, total_le, total_sum_le, two_places}
use Rattle.cv_rule.proofs.Versions.{found_in}
use Rattle.cv_rule.specs.Counts.{IsAbove, awaited, carried, entry_with, if_so, last_of, posted_of, rows_like, rows_of, total, version_after}
use Rattle.cv_rule.specs.Rule.{AreDraws, AreInOrder, Has, IsFloor, IsOrderView, IsPassHand}
use Rattle.cv_rule.specs.Steps.{drawn, entered, entries_of, first_draw, giving_back, joined, master_at_start, merging, new_pass, note_of, posting, renewed, seating, sending, settled, settled_by, spent, way_with, worker_of}
use Rattle.cv_rule.specs.declared.view.Opening.{Opening}
use Rattle.cv_rule.specs.declared.view.Posted.{Posted}
use Rattle.cv_rule.specs.declared.view.Role.{Role}
use Rattle.cv_rule.specs.declared.view.Role.TheVariants.{Master, Pass, Note, Spent}
use Rattle.cv_rule.specs.declared.view.Row.{Row}
use Rattle.cv_rule.specs.declared.view.View.{View}

-- all entries are of draws below the next one
below_next : (word : ℕ) (book ts : List Posted) → ((draw : ℕ) → 0 < posted_of draw book → draw < word) → AllByRecursion (λ (t : Posted). 0 < posted_of t.draw book) ts → (worker : ℕ) → IsAbove ts worker word
below_next word book [] low all worker = tt
below_next word book (t ∷ ts) low all worker = ((λ e. low t.draw all.0), below_next word book ts low all.1 worker)

-- a pass that awaits a run's draw has no row of its worker
alone_pass : (worker floor : ℕ) (way : Option ℕ) (hand : List Row) (r : Row) → (worker ≡ r.worker → way ≡ Some r.draw) → IsPassHand worker floor way hand → AllByRecursion (λ (x : Row). x.worker ≢ r.worker) hand
alone_pass worker floor way [] r awaits is = tt
alone_pass worker floor way (x ∷ []) r awaits is = ((λ e. absurd (let w = awaits (sym is.0 ∙ e) in cc (w, is.2))), tt)
alone_pass worker floor way (x ∷ y ∷ rest) r awaits is = absurd is

-- what is said of the rows of other workers
later_still : (book : List Posted) (t : Posted) (hand : List Row) → AllByRecursion (λ (x : Row). x.worker ≢ t.worker) hand
    → AllByRecursion (λ (x : Row). IsAbove book x.worker x.draw) hand → AllByRecursion (λ (x : Row). IsAbove (book ++ t ∷ []) x.worker x.draw) hand
later_still book t [] others later = tt
later_still book t (x ∷ xs) others later =
    let apart = others.0 in
    (all_append (λ (y : Posted). y.worker ≡ x.worker → y.draw < x.draw) book (t ∷ []) later.0 ((λ e. absurd (apart (sym e))), tt), later_still book t xs others.1 later.1)

floor_still : {M : Type 0} (o : Opening M) (book : List Posted) (t : Posted) (worker floor : ℕ) → worker ≢ t.worker → IsFloor o book worker floor → IsFloor o (book ++ t ∷ []) worker floor
floor_still o book t worker floor apart is = (is.0, let e = ap (λ (x : Option Posted). version_after x) (last_other worker book t (λ e. apart (sym e))) in let f = is.1 in omega arith)

floors_still : {M : Type 0} (o : Opening M) (book : List Posted) (t : Posted) (hand : List Row) → AllByRecursion (λ (x : Row). x.worker ≢ t.worker) hand
    → AllByRecursion (λ (x : Row). x.draw < o.runs → IsFloor o book x.worker x.floor) hand → AllByRecursion (λ (x : Row). x.draw < o.runs → IsFloor o (book ++ t ∷ []) x.worker x.floor) hand
floors_still o book t [] others floors = tt
floors_still o book t (x ∷ xs) others floors = ((λ run. floor_still o book t x.worker x.floor others.0 (floors.0 run)), floors_still o book t xs others.1 floors.1)

module _ {M T : Type 0} where
  abbrev OrderOf : Opening M → List Posted → ℕ → View M T → Type 0
  OrderOf o book id v = IsOrderView o book v

  note_order : (o : Opening M) (book : List Posted) (v : View M T) (hand : List Row)
      → AllByRecursion (λ (r : Row). IsAbove book r.worker r.draw) hand → AllByRecursion (λ (r : Row). r.draw < o.runs → IsFloor o book r.worker r.floor) hand
      → IsOrderView o book (note_of v hand)
  note_order o book v hand later floors = record { later = later; floor = λ w e. absurd cc; row_floors = floors }

  spent_order : (o : Opening M) (book : List Posted) → IsOrderView o book (spent {M = M} {T = T})
  spent_order o book = record { later = tt; floor = λ w e. absurd cc; row_floors = tt }

  -- ---- draw

  pub draws_in_order : (o : Opening M) (word : ℕ) (book : List Posted) (absent : List ℕ) (master : ℕ) (views : List (View M T)) (id : ℕ) (v : View M T) (worker : ℕ)
      → AreDraws o word book absent master views → AreInOrder o book views → Has views id v → v.role ≡ Pass worker → v.on_its_way ≡ None
      → AreInOrder o book (slice_set views id (drawn v word))
  draws_in_order o word book absent master views id v worker d k at role way =
      let is = k.each id v at in
      let low : (draw : ℕ) → 0 < posted_of draw book → draw < word = λ draw h. below_some draw word (let once = d.once draw in omega arith) in
      let worker_is : worker ≡ worker_of v.role = ap (λ (r : Role). worker_of r) (sym role) in
      record {
        rises = k.rises;
        each = each_set (OrderOf o book) views id (drawn v word)
            (record {
              later = (below_next word book book low (each_posted book) (worker_of v.role), is.later);
              floor = is.floor;
              row_floors = ((λ run. subst (λ (n : ℕ). IsFloor o book n v.floor) worker_is (is.floor worker role way)), is.row_floors);
            })
            (λ j u _ has. k.each j u has);
      }

  -- ---- split a note

  pub notes_in_order : (o : Opening M) (book : List Posted) (views : List (View M T)) (id : ℕ) (v : View M T)
      → AreInOrder o book views → Has views id v
      → AreInOrder o book (slice_set views id v ++ note_of v [] ∷ [])
  notes_in_order o book views id v k at = record {
    rises = k.rises;
    each = each_split (OrderOf o book) views id v (note_of v []) (k.each id v at) (λ j. note_order o book v [] tt tt) (λ j u _ has. k.each j u has);
  }

  pub sends_in_order : (o : Opening M) (book : List Posted) (views : List (View M T)) (id : ℕ) (v : View M T) (r : Row)
      → AreInOrder o book views → Has views id v → v.hand ≡ r ∷ []
      → AreInOrder o book (slice_set views id (sending v) ++ note_of v v.hand ∷ [])
  sends_in_order o book views id v r k at hand =
      let is = k.each id v at in
      let way : first_draw v.hand ≡ Some r.draw = ap (λ (h : List Row). first_draw h) hand in
      record {
        rises = k.rises;
        each = each_split (OrderOf o book) views id (sending v) (note_of v v.hand)
            (record { later = tt; floor = λ w e f. absurd (cc (way, f)); row_floors = tt })
            (λ j. note_order o book v v.hand is.later is.row_floors)
            (λ j u _ has. k.each j u has);
      }

  pub gives_back_in_order : (o : Opening M) (book : List Posted) (views : List (View M T)) (id : ℕ) (v : View M T)
      → AreInOrder o book views → Has views id v
      → AreInOrder o book (slice_set views id (giving_back v) ++ note_of v v.hand ∷ [])
  gives_back_in_order o book views id v k at =
      let is = k.each id v at in
      record {
        rises = k.rises;
        each = each_split (OrderOf o book) views id (giving_back v) (note_of v v.hand)
            (record { later = tt; floor = is.floor; row_floors = tt })
            (λ j. note_order o book v v.hand is.later is.row_floors)
            (λ j u _ has. k.each j u has);
      }

  -- ---- joins

  pub joins_in_order : (o : Opening M) (book : List Posted) (views : List (View M T)) (id other : ℕ) (v w : View M T)
      → AreInOrder o book views → Has views id v → other ≢ id → Has (slice_set views id (joined v w)) other w
      → ((worker : ℕ) → v.role ≡ Pass worker → way_with w.hand v.on_its_way ≡ None → IsFloor o book worker v.floor)
      → AreInOrder o book (slice_set (slice_set views id (joined v w)) other spent)
  joins_in_order o book views id other v w k at apart beside floor =
      let is = k.each id v at in
      let of = k.each other w (sym (set_else views id other (joined v w) apart) ∙ beside) in
      record {
        rises = k.rises;
        each = each_join (OrderOf o book) views id other (joined v w) spent apart
            (record {
              later = all_append (λ (r : Row). IsAbove book r.worker r.draw) v.hand w.hand is.later of.later;
              floor = floor;
              row_floors = all_append (λ (r : Row). r.draw < o.runs → IsFloor o book r.worker r.floor) v.hand w.hand is.row_floors of.row_floors;
            })
            (spent_order o book)
            (λ j u _ _ has. k.each j u has);
      }

  -- the floor of a pass that takes its own row back is the row's
  pub floor_back : (o : Opening M) (word : ℕ) (book : List Posted) (absent : List ℕ) (master : ℕ) (views : List (View M T)) (id other : ℕ) (v w : View M T) (r : Row)
      → AreDraws o word book absent master views → AreInOrder o book views → Has views id v → Has views other w → v.role ≡ Pass r.worker → w.role ≡ Note → w.hand ≡ r ∷ []
      → (worker : ℕ) → v.role ≡ Pass worker → IsFloor o book worker v.floor
  floor_back o word book absent master views id other v w r d k at there role note hand worker role' =
      let runs : AllByRecursion (λ (x : Row). x.draw < o.runs) (r ∷ []) = subst (λ (h : List Row). AllByRecursion (λ (x : Row). x.draw < o.runs) h) hand ((d.each other w there).note note) in
      let one : carried o.runs r.worker r.draw r.floor w.role w.hand ≡ 1 = (λ i. carried o.runs r.worker r.draw r.floor (note i) (hand i)) ∙ row_here o.runs r runs.0 in
      let awaits = row_is_awaited o word book absent master views id other v w r d at there role one in
      let floors : AllByRecursion (λ (x : Row). x.draw < o.runs → IsFloor o book x.worker x.floor) (r ∷ []) = subst (λ (h : List Row). AllByRecursion (λ (x : Row). x.draw < o.runs → IsFloor o book x.worker x.floor) h) hand (k.each other w there).row_floors in
      let same : r.worker ≡ worker = cc (role, role') in
      subst (λ (n : ℕ). IsFloor o book n v.floor) same (subst (λ (f : ℕ). IsFloor o book r.worker f) (sym awaits.0) (floors.0 runs.0))

  -- ---- make a pass's seat

  pub seats_in_order : (o : Opening M) (book : List Posted) (views : List (View M T)) (id : ℕ) (m : View M T)
      → AreInOrder o book views → Has views id m → o.newest < length m.known.versions → AllByRecursion (λ (t : Posted). t.version < length m.known.versions) book
      → AreInOrder o book (slice_set views id (seating m) ++ new_pass m ∷ [])
  seats_in_order o book views id m k at newest versions =
      let is = k.each id m at in
      let low = all_more (λ (t : Posted). t.version < length m.known.versions) (λ (t : Posted). t.version ≤ length m.known.versions - 1) (λ t lt. omega arith) book versions in
      record {
        rises = k.rises;
        each = each_split (OrderOf o book) views id (seating m) (new_pass m)
            (record { later = is.later; floor = is.floor; row_floors = is.row_floors })
            (λ j. record { later = tt; floor = λ w e f. (omega arith, last_version w (length m.known.versions - 1) None book low (omega arith)); row_floors = tt })
            (λ j u _ has. k.each j u has);
      }

  -- ---- loads

  pub enters_in_order : (o : Opening M) (book : List Posted) (views : List (View M T)) (id : ℕ) (v : View M T) (version : ℕ)
      → AreInOrder o book views → Has views id v → AreInOrder o book (slice_set views id (entered v version))
  enters_in_order o book views id v version k at =
      let is = k.each id v at in
      record {
        rises = k.rises;
        each = each_set (OrderOf o book) views id (entered v version) (record { later = is.later; floor = is.floor; row_floors = is.row_floors }) (λ j u _ has. k.each j u has);
      }

  merges_in_order : (o : Opening M) (book : List Posted) (views : List (View M T)) (id : ℕ) (v : View M T)
      → AreInOrder o book views → Has views id v → AreInOrder o book (slice_set views id (merging v))
  merges_in_order o book views id v k at =
      let is = k.each id v at in
      record {
        rises = k.rises;
        each = each_set (OrderOf o book) views id (merging v) (record { later = is.later; floor = is.floor; row_floors = is.row_floors }) (λ j u _ has. k.each j u has);
      }

  -- the version after the entry of the draw on its way is a floor for the next run
  floor_after : (o : Opening M) (word : ℕ) (book : List Posted) (absent : List ℕ) (master : ℕ) (views : List (View M T)) (id : ℕ) (v : View M T) (worker draw : ℕ) (t : Posted)
      → AreDraws o word book absent master views → Has views id v → v.role ≡ Pass worker → v.on_its_way ≡ Some draw → entry_with draw book ≡ Some t → o.newest ≤ t.version
      → IsFloor o book worker t.version
  floor_after o word book absent master views id v worker draw t d at role way met newest =
      let here : Awaits worker draw v.floor v ≡ 1 = (λ i. awaited worker draw v.floor (role i) v.floor (way i)) ∙ one worker v.floor draw in
      let a = at_most_total (Awaits worker draw v.floor) views id v at in
      let b = d.awaited_found worker draw v.floor in
      let counts = found_counts draw book t met in
      let rows = total_le (Carries o.runs worker draw v.floor) (Rows draw) views (λ j u _. carried_of o.runs worker draw v.floor u.role u.hand) in
      let once = d.once draw in
      let most = below_most draw word in
      let last = has_some draw (last_of worker book) (omega arith) in
      let same : t ≡ last.0 = last_found worker draw None book t last.0 met (omega arith) last.1 last.2 (λ u e. absurd cc) in
      (newest, let e = ap (λ (x : Option Posted). version_after x) last.1 in let f = ap (λ (p : Posted). p.version) same in omega arith)
    where
      one : (worker floor draw : ℕ) → awaited worker draw floor (Pass worker) floor (Some draw) ≡ 1
      one worker floor draw = let a = eq_that worker worker (if_so (floor == floor) (if_so (draw == draw) 1)) refl in let b = eq_that floor floor (if_so (draw == draw) 1) refl in let c = eq_one draw draw refl in omega arith

  settled_in_order : (o : Opening M) (word : ℕ) (book : List Posted) (absent : List ℕ) (master : ℕ) (views : List (View M T)) (id : ℕ) (v : View M T) (draw : ℕ) (found : Option Posted)
      → AreDraws o word book absent master views → AreInOrder o book views → Has views id v → v.on_its_way ≡ Some draw → entry_with draw v.known.posted ≡ found → IsPrefix v.known.posted book
      → AllByRecursion (λ (t : Posted). o.newest ≤ t.version) book
      → AreInOrder o book (slice_set views id (settled v draw found))
  settled_in_order o word book absent master views id v draw None d k at way met begins newest = subst (λ (l : List (View M T)). AreInOrder o book l) (sym (set_again views id v at)) k
  settled_in_order o word book absent master views id v draw (Some t) d k at way met begins newest =
      let is = k.each id v at in
      let whole : entry_with draw book ≡ Some t = subst (λ (l : List Posted). entry_with draw l ≡ Some t) begins.1 (found_begins draw v.known.posted begins.0 t met) in
      record {
        rises = k.rises;
        each = each_set (OrderOf o book) views id (settled v draw (Some t))
            (record {
              later = is.later;
              floor = λ w e f. floor_after o word book absent master views id v w draw t d at e way whole (found_in (λ (x : Posted). o.newest ≤ x.version) draw book t newest whole);
              row_floors = is.row_floors;
            })
            (λ j u _ has. k.each j u has);
      }

  settled_by_in_order : (o : Opening M) (word : ℕ) (book : List Posted) (absent : List ℕ) (master : ℕ) (views : List (View M T)) (id : ℕ) (v : View M T) (way : Option ℕ)
      → AreDraws o word book absent master views → AreInOrder o book views → Has views id v → v.on_its_way ≡ way → IsPrefix v.known.posted book
      → AllByRecursion (λ (t : Posted). o.newest ≤ t.version) book
      → AreInOrder o book (slice_set views id (settled_by v way))
  settled_by_in_order o word book absent master views id v None d k at way begins newest = subst (λ (l : List (View M T)). AreInOrder o book l) (sym (set_again views id v at)) k
  settled_by_in_order o word book absent master views id v (Some draw) d k at way begins newest = settled_in_order o word book absent master views id v draw (entry_with draw v.known.posted) d k at way refl begins newest

  -- the draws are those after the lists grew
  pub renews_in_order : (o : Opening M) (word : ℕ) (book : List Posted) (absent : List ℕ) (master : ℕ) (views : List (View M T)) (id : ℕ) (v : View M T)
      → AreDraws o word book absent master (slice_set views id (merging v)) → AreInOrder o book views → Has views id v → IsPrefix v.known.posted book → IsPrefix v.beside.posted book
      → AllByRecursion (λ (t : Posted). o.newest ≤ t.version) book
      → AreInOrder o book (slice_set views id (renewed v))
  renews_in_order o word book absent master views id v d k at begins also newest =
      subst (λ (l : List (View M T)). AreInOrder o book l) (set_twice views id (merging v) (renewed v))
      (settled_by_in_order o word book absent master (slice_set views id (merging v)) id (merging v) v.on_its_way d
      (merges_in_order o book views id v k at) (set_here views id v (merging v) at) refl
      (longer_begins v.known.posted v.beside.posted book begins also) newest)

  -- ---- the master's row goes to its book list

  -- no other hand has a row of a worker whose run's row the master has, and its pass awaits a draw
  alone_row : (o : Opening M) (word : ℕ) (book : List Posted) (absent : List ℕ) (master : ℕ) (views : List (View M T)) (id j : ℕ) (v u : View M T) (r x : Row)
      → AreDraws o word book absent master views → Has views id v → Has views j u → j ≢ id → v.role ≡ Master → v.hand ≡ r ∷ [] → r.draw < o.runs
      → u.role ≡ Note → x.draw < o.runs → 0 < rows_like x.worker x.draw x.floor u.hand → x.worker ≢ r.worker
  alone_row o word book absent master views id j v u r x d at has other role hand run note x_run counts same =
      let one : Carries o.runs r.worker r.draw r.floor v ≡ 1 = (λ i. carried o.runs r.worker r.draw r.floor (role i) (hand i)) ∙ row_here o.runs r run in
      let mine = at_most_total (Carries o.runs r.worker r.draw r.floor) views id v at in
      let mine' = d.carried_awaited r.worker r.draw r.floor in
      let its : Carries o.runs x.worker x.draw x.floor u ≡ rows_like x.worker x.draw x.floor u.hand = carries_as o.runs x.worker x.draw x.floor u Note note ∙ lt_that x.draw o.runs (rows_like x.worker x.draw x.floor u.hand) x_run in
      let its_total : 0 < total (Carries o.runs r.worker x.draw x.floor) views =
      subst (λ (n : ℕ). 0 < total (Carries o.runs n x.draw x.floor) views) same (let a = at_most_total (Carries o.runs x.worker x.draw x.floor) views j u has in omega arith) in
      let its' = d.carried_awaited r.worker x.draw x.floor in
      let seats = d.seated r.worker in
      let most = below_most r.worker o.workers in
      ⊎_elim
      (λ (e : r.draw ≡ x.draw).
      let places = two_places (Rows x.draw) views id j v u at has other in
      let once = d.once x.draw in
      let few = below_most x.draw word in
      let its_row = like_of x.worker x.draw x.floor u.hand in
      let my_row : Rows x.draw v ≡ if_so (r.draw == x.draw) 1 + 0 = ap (λ (h : List Row). rows_of x.draw h) hand in
      let is_one = eq_one r.draw x.draw e in
      omega arith)
      (λ (ne : r.draw ≢ x.draw).
      let both = total_sum_le (Awaits r.worker r.draw r.floor) (Awaits r.worker x.draw x.floor) (Seats r.worker) views (λ i y _. awaits_one r.worker r.draw x.draw r.floor x.floor y.role y.floor y.on_its_way ne) in
      omega arith)
      (cases_eq r.draw x.draw)

  alone_hand : (o : Opening M) (u : View M T) (r : Row) (hand : List Row)
      → ((x : Row) → x.draw < o.runs → 0 < rows_like x.worker x.draw x.floor u.hand → x.worker ≢ r.worker)
      → AllByRecursion (λ (x : Row). x.draw < o.runs) hand → AllByRecursion (λ (x : Row). 0 < rows_like x.worker x.draw x.floor u.hand) hand
      → AllByRecursion (λ (x : Row). x.worker ≢ r.worker) hand
  alone_hand o u r [] each runs counts = tt
  alone_hand o u r (x ∷ xs) each runs counts = (each x runs.0 counts.0, alone_hand o u r xs each runs.1 counts.1)

  alone : (o : Opening M) (word : ℕ) (book : List Posted) (absent : List ℕ) (master : ℕ) (views : List (View M T)) (id j : ℕ) (v u : View M T) (r : Row) (role' : Role)
      → AreDraws o word book absent master views → Has views id v → Has views j u → j ≢ id → v.role ≡ Master → v.hand ≡ r ∷ [] → r.draw < o.runs → u.role ≡ role'
      → AllByRecursion (λ (x : Row). x.worker ≢ r.worker) u.hand
  alone o word book absent master views id j v u r Master d at has other role hand run is =
      absurd (other (((d.each j u has).own is).0 ∙ sym ((d.each id v at).own role).0))
  alone o word book absent master views id j v u r (Pass worker) d at has other role hand run is =
      let one : Carries o.runs r.worker r.draw r.floor v ≡ 1 = (λ i. carried o.runs r.worker r.draw r.floor (role i) (hand i)) ∙ row_here o.runs r run in
      alone_pass worker u.floor u.on_its_way u.hand r
      (λ e. (row_is_awaited o word book absent master views j id u v r d has at (is ∙ ap (λ (n : ℕ). Pass n) e) one).1)
      ((d.each j u has).hand worker is)
  alone o word book absent master views id j v u r Note d at has other role hand run is =
      alone_hand o u r u.hand (λ x x_run counts. alone_row o word book absent master views id j v u r x d at has other role hand run is x_run counts)
      ((d.each j u has).note is) (each_counts u.hand)
  alone o word book absent master views id j v u r Spent d at has other role hand run is =
      subst (λ (h : List Row). AllByRecursion (λ (x : Row). x.worker ≢ r.worker) h) (sym ((d.each j u has).spent is)) tt

  pub posts_in_order : (o : Opening M) (word : ℕ) (book : List Posted) (absent : List ℕ) (master : ℕ) (views : List (View M T)) (id : ℕ) (v : View M T) (more : List T) (version : ℕ) (r : Row)
      → AreDraws o word book absent master views → AreInOrder o book views → Has views id v → v.role ≡ Master → v.hand ≡ r ∷ [] → r.draw < o.runs
      → AreInOrder o (book ++ entries_of version v.hand) (slice_set views id (posting v more version))
  posts_in_order o word book absent master views id v more version r d k at role hand run =
      let is = k.each id v at in
      let t : Posted = record { worker = r.worker; draw = r.draw; version = version } in
      let at_book : book ++ t ∷ [] ≡ book ++ entries_of version v.hand = ap (λ (h : List Row). book ++ entries_of version h) (sym hand) in
      let above : AllByRecursion (λ (x : Row). IsAbove book x.worker x.draw) (r ∷ []) = subst (λ (h : List Row). AllByRecursion (λ (x : Row). IsAbove book x.worker x.draw) h) hand is.later in
      subst (λ (l : List Posted). AreInOrder o l (slice_set views id (posting v more version))) at_book
      (record {
        rises = rises_push book t k.rises above.0;
        each = each_set (OrderOf o (book ++ t ∷ [])) views id (posting v more version)
            (record { later = tt; floor = λ w e. absurd (cc (role, e)); row_floors = tt })
            (λ j u other has.
            let of = k.each j u has in
            let apart = alone o word book absent master views id j v u r u.role d at has other role hand run refl in
            let one : Carries o.runs r.worker r.draw r.floor v ≡ 1 = (λ i. carried o.runs r.worker r.draw r.floor (role i) (hand i)) ∙ row_here o.runs r run in
            record {
              later = later_still book t u.hand apart of.later;
              floor = λ w e f. floor_still o book t w u.floor
                  (λ same. absurd (let waits = (row_is_awaited o word book absent master views j id u v r d has at (e ∙ ap (λ (n : ℕ). Pass n) same) one).1 in cc (waits, f)))
                  (of.floor w e f);
              row_floors = floors_still o book t u.hand apart of.row_floors;
            });
      })

  -- ---- the start

  pub starts_in_order : (o : Opening M) (versions : List T) (absent : List ℕ) → AreInOrder o [] (master_at_start o versions absent ∷ [])
  starts_in_order o versions absent = record {
    rises = tt;
    each = only_one (OrderOf o []) (master_at_start o versions absent) (record { later = tt; floor = λ w e. absurd cc; row_floors = tt });
  }
