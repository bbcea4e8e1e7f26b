-- Each step keeps what the rule says of draws.
use Rattle.std.proofs.Common.{◌≡◌, ◌≢◌, ◌≤◌, ◌<◌, ◌+◌, ◌-◌, ◌==◌, ℕ, List, [], ◌∷◌, ◌++◌, length, Option, Some, None, ⊎_elim, refl, sym, ap, ◌∙◌, subst, arith, append-nil}
use Rattle.std.specs.Prelude.{nat_le, nat_lt, slice_set}
use Rattle.std.specs.List.{AllByRecursion}
use Rattle.std.proofs.lemmas.Bool.{cases_eq, cases_lt}
use Rattle.std.proofs.lemmas.Option.{same_Some}
use Rattle.cv_rule.proofs.Counting.{awaits_none, awaits_one, awaits_pass, awaits_tells, below_more, below_most, eq_one, few_idle, gt_none, idle_not_carried, if_add, if_zero, last_other, last_same, le_that, length_split, ne_zero, none_idle, none_idle_of, own_idle, row_awaited, row_here, times_split, way_some}
use Rattle.cv_rule.proofs.Places.{each_join, each_set, each_split, set_else}
use Rattle.cv_rule.proofs.Prefixes.{all_append}
use Rattle.cv_rule.proofs.Totals.{at_most_total, total_append, total_gap, total_join, total_le, total_set, total_split, total_sum_le}
use Rattle.cv_rule.specs.Counts.{awaited, carried, has_draw, idle_rows, idle_rows_of, if_so, is_pass, is_pass_of, last_of, posted_of, rows_like, rows_of, times}
use Rattle.cv_rule.specs.Rule.{AreDraws, Has, IsDrawsView, IsPassHand}
use Rattle.cv_rule.specs.Steps.{absent_with, drawn, entries_of, first_draw, first_of, giving_back, joined, new_pass, note_of, others_of, posting, seating, sending, spent, way_with, worker_of}
use Rattle.cv_rule.specs.declared.view.Opening.{Opening}
use Rattle.cv_rule.specs.declared.view.Posted.{Posted}
use Rattle.cv_rule.specs.declared.view.Role.{Role}
use Rattle.cv_rule.specs.declared.view.Role.TheVariants.{Master, Pass, Note}
use Rattle.cv_rule.specs.declared.view.Row.{Row}
use Rattle.cv_rule.specs.declared.view.View.{View}

-- a pass for which a draw is on its way has an empty hand
pub busy_hand : (worker floor draw : ℕ) (way : Option ℕ) (hand : List Row) → way ≡ Some draw → IsPassHand worker floor way hand → hand ≡ []
busy_hand worker floor draw way [] e is = refl
busy_hand worker floor draw way (r ∷ []) e is = absurd (cc (is.2, e))
busy_hand worker floor draw way (r ∷ s ∷ rest) e is = absurd is

module _ {M T : Type 0} where
  -- ---- what is counted of a view

  abbrev pub Rows : ℕ → View M T → ℕ
  Rows draw v = rows_of draw v.hand

  abbrev pub Seats : ℕ → View M T → ℕ
  Seats worker v = is_pass_of worker v.role

  abbrev pub Passes : View M T → ℕ
  Passes v = is_pass v.role

  abbrev pub Carries : ℕ → ℕ → ℕ → ℕ → View M T → ℕ
  Carries runs worker draw floor v = carried runs worker draw floor v.role v.hand

  abbrev pub Awaits : ℕ → ℕ → ℕ → View M T → ℕ
  Awaits worker draw floor v = awaited worker draw floor v.role v.floor v.on_its_way

  abbrev pub Idle : ℕ → View M T → ℕ
  Idle runs v = idle_rows runs v.hand

  -- ---- what these are for one role

  pub carries_as : (runs worker draw floor : ℕ) (v : View M T) (role : Role) → v.role ≡ role → Carries runs worker draw floor v ≡ carried runs worker draw floor role v.hand
  carries_as runs worker draw floor v role e = ap (λ (r : Role). carried runs worker draw floor r v.hand) e

  pub awaits_as : (worker draw floor : ℕ) (v : View M T) (role : Role) → v.role ≡ role → Awaits worker draw floor v ≡ awaited worker draw floor role v.floor v.on_its_way
  awaits_as worker draw floor v role e = ap (λ (r : Role). awaited worker draw floor r v.floor v.on_its_way) e

  pub idles : (worker draw floor : ℕ) (v : View M T) → v.on_its_way ≡ None → Awaits worker draw floor v ≡ 0
  idles worker draw floor v e = ap (λ (w : Option ℕ). awaited worker draw floor v.role v.floor w) e ∙ awaits_none worker draw floor v.role v.floor

  -- ---- views of each role

  pub pass_view : (o : Opening M) (book : List Posted) (absent : List ℕ) (master id : ℕ) (v : View M T) (worker : ℕ)
      → v.role ≡ Pass worker → IsPassHand worker v.floor v.on_its_way v.hand → ((d : ℕ) → v.on_its_way ≡ Some d → d < o.runs)
      → IsDrawsView o book absent master id v
  pass_view o book absent master id v worker role hand way = record {
    own = λ e. absurd (cc (role, e));
    spent = λ e. absurd (cc (role, e));
    hand = λ w e. let same : worker ≡ w = cc (role, e) in subst (λ (n : ℕ). IsPassHand n v.floor v.on_its_way v.hand) same hand;
    on_its_way = way;
    note = λ e. absurd (cc (role, e));
    idle = λ e. absurd (cc (role, e));
    few_idle = λ e. absurd (cc (role, e));
  }

  pub note_draws_view : (o : Opening M) (book : List Posted) (absent : List ℕ) (master id : ℕ) (v : View M T) (hand : List Row)
      → AllByRecursion (λ (r : Row). r.draw < o.runs) hand
      → IsDrawsView o book absent master id (note_of v hand)
  note_draws_view o book absent master id v hand all = record {
    own = λ e. absurd cc;
    spent = λ e. absurd cc;
    hand = λ w e. absurd cc;
    on_its_way = λ d e. absurd cc;
    note = λ e. all;
    idle = λ e. absurd cc;
    few_idle = λ e. absurd cc;
  }

  spent_view : (o : Opening M) (book : List Posted) (absent : List ℕ) (master id : ℕ) → IsDrawsView o book absent master id (spent {M = M} {T = T})
  spent_view o book absent master id = record {
    own = λ e. absurd cc;
    spent = λ e. refl;
    hand = λ w e. absurd cc;
    on_its_way = λ d e. absurd cc;
    note = λ e. absurd cc;
    idle = λ e. absurd cc;
    few_idle = λ e. absurd cc;
  }

  -- what is said of a view that isn't the master stays when the book list or the workers without a pass change
  pub other_view : (o : Opening M) (book book' : List Posted) (absent absent' : List ℕ) (master id j : ℕ) (v u : View M T)
      → id ≡ master → j ≢ id → IsDrawsView o book absent master j u → IsDrawsView o book' absent' master j u
  other_view o book book' absent absent' master id j v u is other k = record {
    own = λ e. absurd (other ((k.own e).0 ∙ sym is));
    spent = k.spent;
    hand = k.hand;
    on_its_way = k.on_its_way;
    note = k.note;
    idle = λ e. absurd (other ((k.own e).0 ∙ sym is));
    few_idle = λ e. absurd (other ((k.own e).0 ∙ sym is));
  }

  -- ---- add 1 to word 1

  pub draws_one : (o : Opening M) (word : ℕ) (book : List Posted) (absent : List ℕ) (master : ℕ) (views : List (View M T)) (id : ℕ) (v : View M T) (worker : ℕ)
      → AreDraws o word book absent master views → Has views id v → v.role ≡ Pass worker → v.hand ≡ [] → v.on_its_way ≡ None
      → AreDraws o (word + 1) book absent master (slice_set views id (drawn v word))
  draws_one o word book absent master views id v worker k at role empty way = record {
    once = λ draw. let a = total_set (Rows draw) views id v (drawn v word) at in let b = k.once draw in let c = below_more draw word in omega arith;
    book_runs = k.book_runs;
    seated = λ w. let a = total_set (Seats w) views id v (drawn v word) at in let b = k.seated w in omega arith;
    workers = let a = total_set Passes views id v (drawn v word) at in let b = k.workers in omega arith;
    carried_awaited = λ w d f.
        let a = total_set (Carries o.runs w d f) views id v (drawn v word) at in
        let b = total_set (Awaits w d f) views id v (drawn v word) at in
        let c = k.carried_awaited w d f in
        let x = carries_as o.runs w d f v (Pass worker) role in
        let y = carries_as o.runs w d f (drawn v word) (Pass worker) role in
        omega arith;
    awaited_found = λ w d f.
        let a = total_set (Carries o.runs w d f) views id v (drawn v word) at in
        let b = total_set (Awaits w d f) views id v (drawn v word) at in
        let c = k.awaited_found w d f in
        let x = carries_as o.runs w d f v (Pass worker) role in
        let y = carries_as o.runs w d f (drawn v word) (Pass worker) role in
        omega arith;
    bound =
        let a = total_set (Idle o.runs) views id v (drawn v word) at in
        let b = k.bound in
        ⊎_elim
        (λ lt. omega arith)
        (λ ge. let c = le_that o.runs word 1 ge in omega arith)
        (cases_lt word o.runs);
    each = each_set (λ (j : ℕ) (u : View M T). IsDrawsView o book absent master j u) views id (drawn v word)
        (pass_view o book absent master id (drawn v word) worker role
        (subst (λ (h : List Row). IsPassHand worker v.floor v.on_its_way (record { worker = worker_of v.role; draw = word; floor = v.floor } ∷ h)) (sym empty) (ap (λ (r : Role). worker_of r) role, refl, way))
        (k.each id v at).on_its_way)
        (λ j u _ has. k.each j u has);
  }

  -- ---- split a note

  pub notes_none : (o : Opening M) (word : ℕ) (book : List Posted) (absent : List ℕ) (master : ℕ) (views : List (View M T)) (id : ℕ) (v : View M T)
      → AreDraws o word book absent master views → Has views id v
      → AreDraws o word book absent master (slice_set views id v ++ note_of v [] ∷ [])
  notes_none o word book absent master views id v k at = record {
    once = λ draw. let a = total_split (Rows draw) views id v v (note_of v []) at in let b = k.once draw in omega arith;
    book_runs = k.book_runs;
    seated = λ w. let a = total_split (Seats w) views id v v (note_of v []) at in let b = k.seated w in omega arith;
    workers = let a = total_split Passes views id v v (note_of v []) at in let b = k.workers in omega arith;
    carried_awaited = λ w d f.
        let a = total_split (Carries o.runs w d f) views id v v (note_of v []) at in
        let b = total_split (Awaits w d f) views id v v (note_of v []) at in
        let c = k.carried_awaited w d f in
        let z = if_zero (nat_lt d o.runs) in
        omega arith;
    awaited_found = λ w d f.
        let a = total_split (Carries o.runs w d f) views id v v (note_of v []) at in
        let b = total_split (Awaits w d f) views id v v (note_of v []) at in
        let c = k.awaited_found w d f in
        let z = if_zero (nat_lt d o.runs) in
        omega arith;
    bound = let a = total_split (Idle o.runs) views id v v (note_of v []) at in let b = k.bound in omega arith;
    each = each_split (λ (j : ℕ) (u : View M T). IsDrawsView o book absent master j u) views id v (note_of v [])
        (k.each id v at) (λ j. note_draws_view o book absent master j v [] tt) (λ j u _ has. k.each j u has);
  }

  -- the note takes the pass's row
  pub sends_row : (o : Opening M) (word : ℕ) (book : List Posted) (absent : List ℕ) (master : ℕ) (views : List (View M T)) (id : ℕ) (v : View M T) (worker : ℕ) (r : Row)
      → AreDraws o word book absent master views → Has views id v → v.role ≡ Pass worker → v.hand ≡ r ∷ [] → r.draw < o.runs
      → AreDraws o word book absent master (slice_set views id (sending v) ++ note_of v v.hand ∷ [])
  sends_row o word book absent master views id v worker r k at role hand run =
      let is : IsPassHand worker v.floor v.on_its_way (r ∷ []) = subst (λ (h : List Row). IsPassHand worker v.floor v.on_its_way h) hand ((k.each id v at).hand worker role) in
      let given : (w d f : ℕ) → carried o.runs w d f Note v.hand ≡ Awaits w d f (sending v) = λ w d f.
      ap (λ (h : List Row). carried o.runs w d f Note h) hand
      ∙ row_awaited o.runs w d f r run
      ∙ (λ i. awaited w d f (Pass (is.0 i)) (is.1 i) (first_draw (sym hand i)))
      ∙ ap (λ (x : Role). awaited w d f x v.floor (first_draw v.hand)) (sym role) in
      record {
        once = λ draw. let a = total_split (Rows draw) views id v (sending v) (note_of v v.hand) at in let b = k.once draw in omega arith;
        book_runs = k.book_runs;
        seated = λ w. let a = total_split (Seats w) views id v (sending v) (note_of v v.hand) at in let b = k.seated w in omega arith;
        workers = let a = total_split Passes views id v (sending v) (note_of v v.hand) at in let b = k.workers in omega arith;
        carried_awaited = λ w d f.
            let a = total_split (Carries o.runs w d f) views id v (sending v) (note_of v v.hand) at in
            let b = total_split (Awaits w d f) views id v (sending v) (note_of v v.hand) at in
            let c = k.carried_awaited w d f in
            let x = carries_as o.runs w d f v (Pass worker) role in
            let y = carries_as o.runs w d f (sending v) (Pass worker) role in
            let z = idles w d f v is.2 in
            let g = given w d f in
            omega arith;
        awaited_found = λ w d f.
            let a = total_split (Carries o.runs w d f) views id v (sending v) (note_of v v.hand) at in
            let b = total_split (Awaits w d f) views id v (sending v) (note_of v v.hand) at in
            let c = k.awaited_found w d f in
            let x = carries_as o.runs w d f v (Pass worker) role in
            let y = carries_as o.runs w d f (sending v) (Pass worker) role in
            let z = idles w d f v is.2 in
            let g = given w d f in
            omega arith;
        bound = let a = total_split (Idle o.runs) views id v (sending v) (note_of v v.hand) at in let b = k.bound in omega arith;
        each = each_split (λ (j : ℕ) (u : View M T). IsDrawsView o book absent master j u) views id (sending v) (note_of v v.hand)
            (pass_view o book absent master id (sending v) worker role tt
            (λ d e. let same : r.draw ≡ d = same_Some r.draw d (ap (λ (h : List Row). first_draw h) (sym hand) ∙ e) in subst (λ (n : ℕ). n < o.runs) same run))
            (λ j. note_draws_view o book absent master j v v.hand (subst (λ (h : List Row). AllByRecursion (λ (x : Row). x.draw < o.runs) h) (sym hand) (run, tt)))
            (λ j u _ has. k.each j u has);
      }

  -- the note takes the row out of the master's hand
  pub gives_row_back : (o : Opening M) (word : ℕ) (book : List Posted) (absent : List ℕ) (master : ℕ) (views : List (View M T)) (id : ℕ) (v : View M T)
      → AreDraws o word book absent master views → Has views id v → v.role ≡ Master → AllByRecursion (λ (r : Row). r.draw < o.runs) v.hand
      → AreDraws o word book absent master (slice_set views id (giving_back v) ++ note_of v v.hand ∷ [])
  gives_row_back o word book absent master views id v k at role all =
      let is = k.each id v at in
      record {
        once = λ draw. let a = total_split (Rows draw) views id v (giving_back v) (note_of v v.hand) at in let b = k.once draw in omega arith;
        book_runs = k.book_runs;
        seated = λ w. let a = total_split (Seats w) views id v (giving_back v) (note_of v v.hand) at in let b = k.seated w in omega arith;
        workers = let a = total_split Passes views id v (giving_back v) (note_of v v.hand) at in let b = k.workers in omega arith;
        carried_awaited = λ w d f.
            let a = total_split (Carries o.runs w d f) views id v (giving_back v) (note_of v v.hand) at in
            let b = total_split (Awaits w d f) views id v (giving_back v) (note_of v v.hand) at in
            let c = k.carried_awaited w d f in
            let x = carries_as o.runs w d f v Master role in
            let y = carries_as o.runs w d f (giving_back v) Master role in
            let z = if_zero (nat_lt d o.runs) in
            omega arith;
        awaited_found = λ w d f.
            let a = total_split (Carries o.runs w d f) views id v (giving_back v) (note_of v v.hand) at in
            let b = total_split (Awaits w d f) views id v (giving_back v) (note_of v v.hand) at in
            let c = k.awaited_found w d f in
            let x = carries_as o.runs w d f v Master role in
            let y = carries_as o.runs w d f (giving_back v) Master role in
            let z = if_zero (nat_lt d o.runs) in
            omega arith;
        bound = let a = total_split (Idle o.runs) views id v (giving_back v) (note_of v v.hand) at in let b = k.bound in omega arith;
        each = each_split (λ (j : ℕ) (u : View M T). IsDrawsView o book absent master j u) views id (giving_back v) (note_of v v.hand)
            (record {
              own = is.own;
              spent = λ e. refl;
              hand = λ w e. absurd (cc (role, e));
              on_its_way = is.on_its_way;
              note = λ e. absurd (cc (role, e));
              idle = λ e w. omega arith;
              few_idle = λ e. omega arith;
            })
            (λ j. note_draws_view o book absent master j v v.hand all)
            (λ j u _ has. k.each j u has);
      }

  -- ---- join a note

  -- the master takes a note and its rows
  pub takes_note : (o : Opening M) (word : ℕ) (book : List Posted) (absent : List ℕ) (master : ℕ) (views : List (View M T)) (id other : ℕ) (v w : View M T)
      → AreDraws o word book absent master views → Has views id v → other ≢ id → Has (slice_set views id (joined v w)) other w → v.role ≡ Master → w.role ≡ Note
      → AreDraws o word book absent master (slice_set (slice_set views id (joined v w)) other spent)
  takes_note o word book absent master views id other v w k at apart beside role note =
      let is = k.each id v at in
      let of = k.each other w (sym (set_else views id other (joined v w) apart) ∙ beside) in
      let runs = of.note note in
      record {
        once = λ draw. let a = total_join (Rows draw) views id other v w (joined v w) spent at beside in let b = k.once draw in let c = total_append (λ (r : Row). if_so (r.draw == draw) 1) v.hand w.hand in omega arith;
        book_runs = k.book_runs;
        seated = λ n. let a = total_join (Seats n) views id other v w (joined v w) spent at beside in let b = k.seated n in let c = ap (λ (r : Role). is_pass_of n r) note in omega arith;
        workers = let a = total_join Passes views id other v w (joined v w) spent at beside in let b = k.workers in let c = ap (λ (r : Role). is_pass r) note in omega arith;
        carried_awaited = λ n d f.
            let a = total_join (Carries o.runs n d f) views id other v w (joined v w) spent at beside in
            let b = total_join (Awaits n d f) views id other v w (joined v w) spent at beside in
            let c = k.carried_awaited n d f in
            let x = carries_as o.runs n d f v Master role in
            let y = carries_as o.runs n d f (joined v w) Master role in
            let z = carries_as o.runs n d f w Note note in
            let p = ap (λ (m : ℕ). if_so (nat_lt d o.runs) m) (total_append (λ (r : Row). if_so (r.worker == n) (if_so (r.draw == d) (if_so (r.floor == f) 1))) v.hand w.hand) in
            let q = if_add (nat_lt d o.runs) (rows_like n d f v.hand) (rows_like n d f w.hand) in
            let s = awaits_as n d f v Master role in
            let t = awaits_as n d f (joined v w) Master role in
            let u = awaits_as n d f w Note note in
            omega arith;
        awaited_found = λ n d f.
            let a = total_join (Carries o.runs n d f) views id other v w (joined v w) spent at beside in
            let b = total_join (Awaits n d f) views id other v w (joined v w) spent at beside in
            let c = k.awaited_found n d f in
            let x = carries_as o.runs n d f v Master role in
            let y = carries_as o.runs n d f (joined v w) Master role in
            let z = carries_as o.runs n d f w Note note in
            let p = ap (λ (m : ℕ). if_so (nat_lt d o.runs) m) (total_append (λ (r : Row). if_so (r.worker == n) (if_so (r.draw == d) (if_so (r.floor == f) 1))) v.hand w.hand) in
            let q = if_add (nat_lt d o.runs) (rows_like n d f v.hand) (rows_like n d f w.hand) in
            let s = awaits_as n d f v Master role in
            let t = awaits_as n d f (joined v w) Master role in
            let u = awaits_as n d f w Note note in
            omega arith;
        bound = let a = total_join (Idle o.runs) views id other v w (joined v w) spent at beside in let b = k.bound in let c = total_append (λ (r : Row). if_so (nat_le o.runs r.draw) 1) v.hand w.hand in omega arith;
        each = each_join (λ (j : ℕ) (u : View M T). IsDrawsView o book absent master j u) views id other (joined v w) spent apart
            (record {
              own = λ e. let own = is.own e in (own.0, own.1, ap (λ (r : Role). absent_with r v.absent) note ∙ own.2);
              spent = λ e. absurd (cc (role, e));
              hand = λ n e. absurd (cc (role, e));
              on_its_way = λ d e. is.on_its_way d (way_some w.hand v.on_its_way d e);
              note = λ e. absurd (cc (role, e));
              idle = λ e n. let a = total_append (λ (r : Row). if_so (r.worker == n) (if_so (nat_le o.runs r.draw) 1)) v.hand w.hand in let b = none_idle_of o.runs n w.hand runs in let c = is.idle e n in omega arith;
              few_idle = λ e. let a = total_append (λ (r : Row). if_so (nat_le o.runs r.draw) 1) v.hand w.hand in let b = none_idle o.runs w.hand runs in let c = is.few_idle e in omega arith;
            })
            (spent_view o book absent master other)
            (λ j u _ _ has. k.each j u has);
      }

  -- a pass takes a note without a row
  pub takes_news : (o : Opening M) (word : ℕ) (book : List Posted) (absent : List ℕ) (master : ℕ) (views : List (View M T)) (id other : ℕ) (v w : View M T) (worker : ℕ)
      → AreDraws o word book absent master views → Has views id v → other ≢ id → Has (slice_set views id (joined v w)) other w → v.role ≡ Pass worker → w.role ≡ Note → w.hand ≡ []
      → AreDraws o word book absent master (slice_set (slice_set views id (joined v w)) other spent)
  takes_news o word book absent master views id other v w worker k at apart beside role note empty =
      let is = k.each id v at in
      let same : v.hand ++ w.hand ≡ v.hand = ap (λ (h : List Row). v.hand ++ h) empty ∙ append-nil v.hand in
      let way : way_with w.hand v.on_its_way ≡ v.on_its_way = ap (λ (h : List Row). way_with h v.on_its_way) empty in
      record {
        once = λ draw. let a = total_join (Rows draw) views id other v w (joined v w) spent at beside in let b = k.once draw in let c = ap (λ (h : List Row). rows_of draw h) same in let e = ap (λ (h : List Row). rows_of draw h) empty in omega arith;
        book_runs = k.book_runs;
        seated = λ n. let a = total_join (Seats n) views id other v w (joined v w) spent at beside in let b = k.seated n in let c = ap (λ (r : Role). is_pass_of n r) note in omega arith;
        workers = let a = total_join Passes views id other v w (joined v w) spent at beside in let b = k.workers in let c = ap (λ (r : Role). is_pass r) note in omega arith;
        carried_awaited = λ n d f.
            let a = total_join (Carries o.runs n d f) views id other v w (joined v w) spent at beside in
            let b = total_join (Awaits n d f) views id other v w (joined v w) spent at beside in
            let c = k.carried_awaited n d f in
            let x = carries_as o.runs n d f v (Pass worker) role in
            let y = carries_as o.runs n d f (joined v w) (Pass worker) role in
            let z = carries_as o.runs n d f w Note note in
            let p = ap (λ (h : List Row). if_so (nat_lt d o.runs) (rows_like n d f h)) empty in
            let q = if_zero (nat_lt d o.runs) in
            let s = ap (λ (x : Option ℕ). awaited n d f v.role v.floor x) way in
            let u = awaits_as n d f w Note note in
            omega arith;
        awaited_found = λ n d f.
            let a = total_join (Carries o.runs n d f) views id other v w (joined v w) spent at beside in
            let b = total_join (Awaits n d f) views id other v w (joined v w) spent at beside in
            let c = k.awaited_found n d f in
            let x = carries_as o.runs n d f v (Pass worker) role in
            let y = carries_as o.runs n d f (joined v w) (Pass worker) role in
            let z = carries_as o.runs n d f w Note note in
            let p = ap (λ (h : List Row). if_so (nat_lt d o.runs) (rows_like n d f h)) empty in
            let q = if_zero (nat_lt d o.runs) in
            let s = ap (λ (x : Option ℕ). awaited n d f v.role v.floor x) way in
            let u = awaits_as n d f w Note note in
            omega arith;
        bound = let a = total_join (Idle o.runs) views id other v w (joined v w) spent at beside in let b = k.bound in let c = ap (λ (h : List Row). idle_rows o.runs h) same in let e = ap (λ (h : List Row). idle_rows o.runs h) empty in omega arith;
        each = each_join (λ (j : ℕ) (u : View M T). IsDrawsView o book absent master j u) views id other (joined v w) spent apart
            (pass_view o book absent master id (joined v w) worker role
            (subst (λ (h : List Row). IsPassHand worker v.floor (way_with w.hand v.on_its_way) h) (sym same) (subst (λ (x : Option ℕ). IsPassHand worker v.floor x v.hand) (sym way) (is.hand worker role)))
            (λ d e. is.on_its_way d (way_some w.hand v.on_its_way d e)))
            (spent_view o book absent master other)
            (λ j u _ _ has. k.each j u has);
      }

  -- the row that a note or the master has is awaited by the pass of its worker
  pub row_is_awaited : (o : Opening M) (word : ℕ) (book : List Posted) (absent : List ℕ) (master : ℕ) (views : List (View M T)) (id other : ℕ) (v w : View M T) (r : Row)
      → AreDraws o word book absent master views → Has views id v → Has views other w → v.role ≡ Pass r.worker → carried o.runs r.worker r.draw r.floor w.role w.hand ≡ 1
      → (v.floor ≡ r.floor) × (v.on_its_way ≡ Some r.draw)
  row_is_awaited o word book absent master views id other v w r k at beside role one =
      let a = at_most_total (Carries o.runs r.worker r.draw r.floor) views other w beside in
      let b = k.carried_awaited r.worker r.draw r.floor in
      let c = total_gap (Awaits r.worker r.draw r.floor) (Seats r.worker) views id v (λ j u _. awaits_pass r.worker r.draw r.floor u.role u.floor u.on_its_way) at in
      let d = k.seated r.worker in
      let e = below_most r.worker o.workers in
      let here : is_pass_of r.worker v.role ≡ 1 = ap (λ (x : Role). is_pass_of r.worker x) role ∙ eq_one r.worker r.worker refl in
      let tells = awaits_tells r.worker r.draw r.floor v.role v.floor v.on_its_way (omega arith) in
      (tells.1, tells.2)

  -- a pass takes its own row back
  pub takes_row_back : (o : Opening M) (word : ℕ) (book : List Posted) (absent : List ℕ) (master : ℕ) (views : List (View M T)) (id other : ℕ) (v w : View M T) (r : Row)
      → AreDraws o word book absent master views → Has views id v → other ≢ id → Has (slice_set views id (joined v w)) other w → v.role ≡ Pass r.worker → w.role ≡ Note → w.hand ≡ r ∷ []
      → AreDraws o word book absent master (slice_set (slice_set views id (joined v w)) other spent)
  takes_row_back o word book absent master views id other v w r k at apart beside role note hand =
      let is = k.each id v at in
      let there : Has views other w = sym (set_else views id other (joined v w) apart) ∙ beside in
      let runs : AllByRecursion (λ (x : Row). x.draw < o.runs) (r ∷ []) = subst (λ (h : List Row). AllByRecursion (λ (x : Row). x.draw < o.runs) h) hand ((k.each other w there).note note) in
      let one : carried o.runs r.worker r.draw r.floor w.role w.hand ≡ 1 = (λ i. carried o.runs r.worker r.draw r.floor (note i) (hand i)) ∙ row_here o.runs r runs.0 in
      let awaits = row_is_awaited o word book absent master views id other v w r k at there role one in
      let empty : v.hand ≡ [] = busy_hand r.worker v.floor r.draw v.on_its_way v.hand awaits.1 (is.hand r.worker role) in
      let same : v.hand ++ w.hand ≡ r ∷ [] = λ i. empty i ++ hand i in
      let way : way_with w.hand v.on_its_way ≡ None = ap (λ (h : List Row). way_with h v.on_its_way) hand in
      let given : (n d f : ℕ) → Carries o.runs n d f w ≡ Awaits n d f v = λ n d f.
      (λ i. carried o.runs n d f (note i) (hand i))
      ∙ row_awaited o.runs n d f r runs.0
      ∙ (λ i. awaited n d f (sym role i) (sym awaits.0 i) (sym awaits.1 i)) in
      record {
        once = λ draw. let a = total_join (Rows draw) views id other v w (joined v w) spent at beside in let b = k.once draw in let c = total_append (λ (x : Row). if_so (x.draw == draw) 1) v.hand w.hand in omega arith;
        book_runs = k.book_runs;
        seated = λ n. let a = total_join (Seats n) views id other v w (joined v w) spent at beside in let b = k.seated n in let c = ap (λ (x : Role). is_pass_of n x) note in omega arith;
        workers = let a = total_join Passes views id other v w (joined v w) spent at beside in let b = k.workers in let c = ap (λ (x : Role). is_pass x) note in omega arith;
        carried_awaited = λ n d f.
            let a = total_join (Carries o.runs n d f) views id other v w (joined v w) spent at beside in
            let b = total_join (Awaits n d f) views id other v w (joined v w) spent at beside in
            let c = k.carried_awaited n d f in
            let x = carries_as o.runs n d f v (Pass r.worker) role in
            let y = carries_as o.runs n d f (joined v w) (Pass r.worker) role in
            let g = given n d f in
            let s = idles n d f (joined v w) way in
            let u = awaits_as n d f w Note note in
            omega arith;
        awaited_found = λ n d f.
            let a = total_join (Carries o.runs n d f) views id other v w (joined v w) spent at beside in
            let b = total_join (Awaits n d f) views id other v w (joined v w) spent at beside in
            let c = k.awaited_found n d f in
            let x = carries_as o.runs n d f v (Pass r.worker) role in
            let y = carries_as o.runs n d f (joined v w) (Pass r.worker) role in
            let g = given n d f in
            let s = idles n d f (joined v w) way in
            let u = awaits_as n d f w Note note in
            omega arith;
        bound = let a = total_join (Idle o.runs) views id other v w (joined v w) spent at beside in let b = k.bound in let c = total_append (λ (x : Row). if_so (nat_le o.runs x.draw) 1) v.hand w.hand in omega arith;
        each = each_join (λ (j : ℕ) (u : View M T). IsDrawsView o book absent master j u) views id other (joined v w) spent apart
            (pass_view o book absent master id (joined v w) r.worker role
            (subst (λ (h : List Row). IsPassHand r.worker v.floor (way_with w.hand v.on_its_way) h) (sym same) (refl, sym awaits.0, way))
            (λ d e. absurd (cc (way, e))))
            (spent_view o book absent master other)
            (λ j u _ _ has. k.each j u has);
      }

  -- ---- the master's row goes to its book list

  pub posts_row : (o : Opening M) (word : ℕ) (book : List Posted) (absent : List ℕ) (master : ℕ) (views : List (View M T)) (id : ℕ) (v : View M T) (more : List T) (version : ℕ) (r : Row)
      → AreDraws o word book absent master views → Has views id v → v.role ≡ Master → v.hand ≡ r ∷ [] → r.draw < o.runs
      → AreDraws o word (book ++ entries_of version v.hand) absent master (slice_set views id (posting v more version))
  posts_row o word book absent master views id v more version r k at role hand run =
      let is = k.each id v at in
      let own = is.own role in
      let t : Posted = record { worker = r.worker; draw = r.draw; version = version } in
      let entry : entries_of version v.hand ≡ t ∷ [] = ap (λ (h : List Row). entries_of version h) hand in
      let at_book : book ++ entries_of version v.hand ≡ book ++ t ∷ [] = ap (λ (ts : List Posted). book ++ ts) entry in
      record {
        once = λ draw.
            let a = total_set (Rows draw) views id v (posting v more version) at in
            let b = k.once draw in
            let c = ap (λ (h : List Row). rows_of draw h) hand in
            let e = ap (λ (ts : List Posted). posted_of draw ts) at_book in
            let f = total_append (λ (x : Posted). if_so (x.draw == draw) 1) book (t ∷ []) in
            omega arith;
        book_runs = subst (λ (ts : List Posted). AllByRecursion (λ (x : Posted). x.draw < o.runs) ts) (sym at_book) (all_append (λ (x : Posted). x.draw < o.runs) book (t ∷ []) k.book_runs (run, tt));
        seated = λ n. let a = total_set (Seats n) views id v (posting v more version) at in let b = k.seated n in omega arith;
        workers = let a = total_set Passes views id v (posting v more version) at in let b = k.workers in omega arith;
        carried_awaited = λ n d f.
            let a = total_set (Carries o.runs n d f) views id v (posting v more version) at in
            let b = total_set (Awaits n d f) views id v (posting v more version) at in
            let c = k.carried_awaited n d f in
            let y = carries_as o.runs n d f (posting v more version) Master role in
            let z = if_zero (nat_lt d o.runs) in
            omega arith;
        awaited_found = λ n d f.
            let a = total_set (Carries o.runs n d f) views id v (posting v more version) at in
            let b = total_set (Awaits n d f) views id v (posting v more version) at in
            let c = k.awaited_found n d f in
            let y = carries_as o.runs n d f (posting v more version) Master role in
            let z = if_zero (nat_lt d o.runs) in
            let here : Carries o.runs n d f v ≡ if_so (nat_lt d o.runs) (rows_like n d f (r ∷ [])) = λ i. carried o.runs n d f (role i) (hand i) in
            let as_pass = row_awaited o.runs n d f r run in
            let low = at_most_total (Carries o.runs n d f) views id v at in
            let seats = k.seated n in
            let most = below_most n o.workers in
            ⊎_elim
            (λ (same : r.worker ≡ n).
            let last : last_of n (book ++ entries_of version v.hand) ≡ Some t = ap (λ (ts : List Posted). last_of n ts) at_book ∙ last_same n book t same in
            let has = ap (λ (x : Option Posted). has_draw d x) last in
            let pass = total_le (Awaits n d f) (Seats n) views (λ j u _. awaits_pass n d f u.role u.floor u.on_its_way) in
            ⊎_elim
            (λ (draw : r.draw ≡ d). let e = eq_one r.draw d draw in omega arith)
            (λ (other : r.draw ≢ d).
            let none : Carries o.runs n d f v ≡ 0 = here ∙ as_pass ∙ ap (λ (m : ℕ). if_so (r.worker == n) m) (ap (λ (m : ℕ). if_so (r.floor == f) m) (ne_zero r.draw d 1 other) ∙ if_zero (r.floor == f)) ∙ if_zero (r.worker == n) in
            let one : carried o.runs r.worker r.draw r.floor v.role v.hand ≡ 1 = (λ i. carried o.runs r.worker r.draw r.floor (role i) (hand i)) ∙ row_here o.runs r run in
            let one' : Carries o.runs n r.draw r.floor v ≡ 1 = subst (λ (m : ℕ). carried o.runs m r.draw r.floor v.role v.hand ≡ 1) same one in
            let row = at_most_total (Carries o.runs n r.draw r.floor) views id v at in
            let waits = k.carried_awaited n r.draw r.floor in
            let both = total_sum_le (Awaits n d f) (Awaits n r.draw r.floor) (Seats n) views (λ j u _. awaits_one n d r.draw f r.floor u.role u.floor u.on_its_way (λ e. other (sym e))) in
            omega arith)
            (cases_eq r.draw d))
            (λ (other : r.worker ≢ n).
            let last : last_of n (book ++ entries_of version v.hand) ≡ last_of n book = ap (λ (ts : List Posted). last_of n ts) at_book ∙ last_other n book t other in
            let has = ap (λ (x : Option Posted). has_draw d x) last in
            let none : Carries o.runs n d f v ≡ 0 = here ∙ as_pass ∙ ne_zero r.worker n (if_so (r.floor == f) (if_so (r.draw == d) 1)) other in
            omega arith)
            (cases_eq r.worker n);
        bound =
            let a = total_set (Idle o.runs) views id v (posting v more version) at in
            let b = k.bound in
            let c = ap (λ (h : List Row). idle_rows o.runs h) hand in
            let e = gt_none o.runs r.draw 1 run in
            omega arith;
        each = each_set (λ (j : ℕ) (u : View M T). IsDrawsView o (book ++ entries_of version v.hand) absent master j u) views id (posting v more version)
            (record {
              own = λ e. (own.0, ap (λ (ts : List Posted). ts ++ entries_of version v.hand) own.1, own.2);
              spent = λ e. refl;
              hand = λ n e. absurd (cc (role, e));
              on_its_way = is.on_its_way;
              note = λ e. tt;
              idle = λ e n. omega arith;
              few_idle = λ e. omega arith;
            })
            (λ j u other has. other_view o book (book ++ entries_of version v.hand) absent absent master id j v u own.0 other (k.each j u has));
      }

  -- ---- make a pass's seat

  pub seats_pass : (o : Opening M) (word : ℕ) (book : List Posted) (absent : List ℕ) (master : ℕ) (views : List (View M T)) (id : ℕ) (m : View M T)
      → AreDraws o word book absent master views → Has views id m → m.role ≡ Master → m.hand ≡ [] → 0 < length m.absent
      → AreDraws o word book (others_of m.absent) master (slice_set views id (seating m) ++ new_pass m ∷ [])
  seats_pass o word book absent master views id m k at role empty left =
      let is = k.each id m at in
      let own = is.own role in
      record {
        once = λ draw. let a = total_split (Rows draw) views id m (seating m) (new_pass m) at in let b = k.once draw in omega arith;
        book_runs = k.book_runs;
        seated = λ n.
            let a = total_split (Seats n) views id m (seating m) (new_pass m) at in
            let b = k.seated n in
            let c = times_split n m.absent left in
            let e = ap (λ (l : List ℕ). times n l) own.2 in
            omega arith;
        workers =
            let a = total_split Passes views id m (seating m) (new_pass m) at in
            let b = k.workers in
            let c = length_split m.absent left in
            let e = ap (λ (l : List ℕ). length l) own.2 in
            omega arith;
        carried_awaited = λ n d f.
            let a = total_split (Carries o.runs n d f) views id m (seating m) (new_pass m) at in
            let b = total_split (Awaits n d f) views id m (seating m) (new_pass m) at in
            let c = k.carried_awaited n d f in
            let z = awaits_none n d f (Pass (first_of m.absent)) (length m.known.versions - 1) in
            omega arith;
        awaited_found = λ n d f.
            let a = total_split (Carries o.runs n d f) views id m (seating m) (new_pass m) at in
            let b = total_split (Awaits n d f) views id m (seating m) (new_pass m) at in
            let c = k.awaited_found n d f in
            let z = awaits_none n d f (Pass (first_of m.absent)) (length m.known.versions - 1) in
            omega arith;
        bound = let a = total_split (Idle o.runs) views id m (seating m) (new_pass m) at in let b = k.bound in omega arith;
        each = each_split (λ (j : ℕ) (u : View M T). IsDrawsView o book (others_of m.absent) master j u) views id (seating m) (new_pass m)
            (record {
              own = λ e. (own.0, own.1, refl);
              spent = is.spent;
              hand = λ n e. absurd (cc (role, e));
              on_its_way = is.on_its_way;
              note = λ e. absurd (cc (role, e));
              idle = λ e n. let a = ap (λ (h : List Row). idle_rows_of o.runs n h) empty in omega arith;
              few_idle = λ e. let a = ap (λ (h : List Row). idle_rows o.runs h) empty in omega arith;
            })
            (λ j. pass_view o book (others_of m.absent) master j (new_pass m) (first_of m.absent) refl tt (λ d e. absurd cc))
            (λ j u other has. other_view o book book absent (others_of m.absent) master id j m u own.0 other (k.each j u has));
      }

  -- ---- join a pass

  pub ends_pass : (o : Opening M) (word : ℕ) (book : List Posted) (absent : List ℕ) (master : ℕ) (views : List (View M T)) (id other : ℕ) (v w : View M T) (worker : ℕ)
      → AreDraws o word book absent master views → Has views id v → other ≢ id → Has (slice_set views id (joined v w)) other w → v.role ≡ Master → w.role ≡ Pass worker
      → w.on_its_way ≡ None → AllByRecursion (λ (r : Row). o.runs ≤ r.draw) w.hand
      → AreDraws o word book (worker ∷ absent) master (slice_set (slice_set views id (joined v w)) other spent)
  ends_pass o word book absent master views id other v w worker k at apart beside role pass way idle =
      let is = k.each id v at in
      let own = is.own role in
      let of = k.each other w (sym (set_else views id other (joined v w) apart) ∙ beside) in
      let hand = of.hand worker pass in
      record {
        once = λ draw. let a = total_join (Rows draw) views id other v w (joined v w) spent at beside in let b = k.once draw in let c = total_append (λ (r : Row). if_so (r.draw == draw) 1) v.hand w.hand in omega arith;
        book_runs = k.book_runs;
        seated = λ n. let a = total_join (Seats n) views id other v w (joined v w) spent at beside in let b = k.seated n in let c = ap (λ (r : Role). is_pass_of n r) pass in omega arith;
        workers = let a = total_join Passes views id other v w (joined v w) spent at beside in let b = k.workers in let c = ap (λ (r : Role). is_pass r) pass in omega arith;
        carried_awaited = λ n d f.
            let a = total_join (Carries o.runs n d f) views id other v w (joined v w) spent at beside in
            let b = total_join (Awaits n d f) views id other v w (joined v w) spent at beside in
            let c = k.carried_awaited n d f in
            let x = carries_as o.runs n d f v Master role in
            let y = carries_as o.runs n d f (joined v w) Master role in
            let z = carries_as o.runs n d f w (Pass worker) pass in
            let p = ap (λ (m : ℕ). if_so (nat_lt d o.runs) m) (total_append (λ (r : Row). if_so (r.worker == n) (if_so (r.draw == d) (if_so (r.floor == f) 1))) v.hand w.hand) in
            let q = if_add (nat_lt d o.runs) (rows_like n d f v.hand) (rows_like n d f w.hand) in
            let i = idle_not_carried o.runs n d f w.hand idle in
            let s = awaits_as n d f v Master role in
            let t = awaits_as n d f (joined v w) Master role in
            let u = idles n d f w way in
            omega arith;
        awaited_found = λ n d f.
            let a = total_join (Carries o.runs n d f) views id other v w (joined v w) spent at beside in
            let b = total_join (Awaits n d f) views id other v w (joined v w) spent at beside in
            let c = k.awaited_found n d f in
            let x = carries_as o.runs n d f v Master role in
            let y = carries_as o.runs n d f (joined v w) Master role in
            let z = carries_as o.runs n d f w (Pass worker) pass in
            let p = ap (λ (m : ℕ). if_so (nat_lt d o.runs) m) (total_append (λ (r : Row). if_so (r.worker == n) (if_so (r.draw == d) (if_so (r.floor == f) 1))) v.hand w.hand) in
            let q = if_add (nat_lt d o.runs) (rows_like n d f v.hand) (rows_like n d f w.hand) in
            let i = idle_not_carried o.runs n d f w.hand idle in
            let s = awaits_as n d f v Master role in
            let t = awaits_as n d f (joined v w) Master role in
            let u = idles n d f w way in
            omega arith;
        bound = let a = total_join (Idle o.runs) views id other v w (joined v w) spent at beside in let b = k.bound in let c = total_append (λ (r : Row). if_so (nat_le o.runs r.draw) 1) v.hand w.hand in omega arith;
        each = each_join (λ (j : ℕ) (u : View M T). IsDrawsView o book (worker ∷ absent) master j u) views id other (joined v w) spent apart
            (record {
              own = λ e. (own.0, own.1, ap (λ (r : Role). absent_with r v.absent) pass ∙ ap (λ (l : List ℕ). worker ∷ l) own.2);
              spent = λ e. absurd (cc (role, e));
              hand = λ n e. absurd (cc (role, e));
              on_its_way = λ d e. is.on_its_way d (way_some w.hand v.on_its_way d e);
              note = λ e. absurd (cc (role, e));
              idle = λ e n.
                  let a = total_append (λ (r : Row). if_so (r.worker == n) (if_so (nat_le o.runs r.draw) 1)) v.hand w.hand in
                  let b = own_idle o.runs worker w.floor n w.on_its_way w.hand hand in
                  let c = is.idle role n in omega arith;
              few_idle = λ e.
                  let a = total_append (λ (r : Row). if_so (nat_le o.runs r.draw) 1) v.hand w.hand in
                  let b = few_idle o.runs worker w.floor w.on_its_way w.hand hand in
                  let c = is.few_idle role in omega arith;
            })
            (spent_view o book (worker ∷ absent) master other)
            (λ j u away _ has. other_view o book book absent (worker ∷ absent) master id j v u own.0 away (k.each j u has));
      }
