-- Loads, the start and the end: what the rule says of draws.
use Rattle.std.proofs.Common.{◌≡◌, ◌≤◌, ◌<◌, ◌+◌, ◌⊎◌, ℕ, zero, suc, List, [], ◌∷◌, length, Option, Some, None, inl, inr, ⊎_elim, refl, sym, ap, ◌∙◌, subst, arith}
use Rattle.std.specs.Prelude.{nat_lt, slice_set}
use Rattle.std.proofs.lemmas.Bool.{cases_lt}
use Rattle.std.proofs.lemmas.Option.{same_Some}
use mathlib.Core.List.{IsPrefix}
use Rattle.cv_rule.proofs.Counting.{awaits_pass, awaits_tells, begins_counts, below_most, carried_of, few_idle, found_counts, ge_none, if_zero, lt_that, none_posted, none_idle, pass_is, row_like}
use Rattle.cv_rule.proofs.Places.{each_set, only_one, set_again, set_here, set_twice}
use Rattle.cv_rule.proofs.Prefixes.{longer_begins, longer_whole}
use Rattle.cv_rule.proofs.Totals.{at_most_total, total_le, total_none, total_set}
use Rattle.cv_rule.specs.Counts.{below, entry_with, idle_rows, is_pass, posted_of, rows_like, rows_of, times, total}
use Rattle.cv_rule.specs.Rule.{AreDraws, Has, IsDrawsView, IsPassHand}
use Rattle.cv_rule.specs.Steps.{entered, master_at_start, merging, renewed, settled, settled_by}
use Rattle.cv_rule.specs.declared.view.Opening.{Opening}
use Rattle.cv_rule.specs.declared.view.Posted.{Posted}
use Rattle.cv_rule.specs.declared.view.Role.{Role}
use Rattle.cv_rule.specs.declared.view.Role.TheVariants.{Master, Pass, Note, Spent}
use Rattle.cv_rule.specs.declared.view.Row.{Row}
use Rattle.cv_rule.specs.declared.view.View.{View}
use Rattle.cv_rule.proofs.Draws.{Awaits, Carries, Idle, Passes, Rows, Seats, busy_hand, carries_as, idles}

module _ {M T : Type 0} where
  -- ---- load after a join

  -- the seat's lists grew; nothing else did
  pub merges : (o : Opening M) (word : ℕ) (book : List Posted) (absent : List ℕ) (master : ℕ) (views : List (View M T)) (id : ℕ) (v : View M T)
      → AreDraws o word book absent master views → Has views id v → IsPrefix v.beside.posted book
      → AreDraws o word book absent master (slice_set views id (merging v))
  merges o word book absent master views id v k at begins =
      let is = k.each id v at in
      record {
        once = λ draw. let a = total_set (Rows draw) views id v (merging v) at in let b = k.once draw in omega arith;
        book_runs = k.book_runs;
        seated = λ n. let a = total_set (Seats n) views id v (merging v) at in let b = k.seated n in omega arith;
        workers = let a = total_set Passes views id v (merging v) at in let b = k.workers in omega arith;
        carried_awaited = λ n d f.
            let a = total_set (Carries o.runs n d f) views id v (merging v) at in
            let b = total_set (Awaits n d f) views id v (merging v) at in
            let c = k.carried_awaited n d f in omega arith;
        awaited_found = λ n d f.
            let a = total_set (Carries o.runs n d f) views id v (merging v) at in
            let b = total_set (Awaits n d f) views id v (merging v) at in
            let c = k.awaited_found n d f in omega arith;
        bound = let a = total_set (Idle o.runs) views id v (merging v) at in let b = k.bound in omega arith;
        each = each_set (λ (j : ℕ) (u : View M T). IsDrawsView o book absent master j u) views id (merging v)
            (record {
              own = λ e. let own = is.own e in (own.0, longer_whole v.known.posted v.beside.posted (subst (λ (l : List Posted). IsPrefix v.beside.posted l) (sym own.1) begins) ∙ own.1, own.2);
              spent = is.spent;
              hand = is.hand;
              on_its_way = is.on_its_way;
              note = is.note;
              idle = is.idle;
              few_idle = is.few_idle;
            })
            (λ j u _ has. k.each j u has);
      }

  -- a pass, or the master, met the draw on its way in the book list
  settled_one : (o : Opening M) (word : ℕ) (book : List Posted) (absent : List ℕ) (master : ℕ) (views : List (View M T)) (id : ℕ) (v : View M T) (draw : ℕ) (t : Posted)
      → AreDraws o word book absent master views → Has views id v → v.on_its_way ≡ Some draw → 0 < posted_of draw book
      → AreDraws o word book absent master (slice_set views id (settled v draw (Some t)))
  settled_one o word book absent master views id v draw t k at way met =
      let is = k.each id v at in
      record {
        once = λ draw'. let a = total_set (Rows draw') views id v (settled v draw (Some t)) at in let b = k.once draw' in omega arith;
        book_runs = k.book_runs;
        seated = λ n. let a = total_set (Seats n) views id v (settled v draw (Some t)) at in let b = k.seated n in omega arith;
        workers = let a = total_set Passes views id v (settled v draw (Some t)) at in let b = k.workers in omega arith;
        carried_awaited = λ n d f.
            let a = total_set (Carries o.runs n d f) views id v (settled v draw (Some t)) at in
            let b = total_set (Awaits n d f) views id v (settled v draw (Some t)) at in
            let c = k.carried_awaited n d f in
            let e = idles n d f (settled v draw (Some t)) refl in
            ⊎_elim
            (λ (waits : 0 < Awaits n d f v).
            let tells = awaits_tells n d f v.role v.floor v.on_its_way waits in
            let same : draw ≡ d = same_Some draw d (sym way ∙ tells.2) in
            let rows = total_le (Carries o.runs n d f) (Rows d) views (λ j u _. carried_of o.runs n d f u.role u.hand) in
            let once = k.once d in
            let most = below_most d word in
            let met' : 0 < posted_of d book = subst (λ (m : ℕ). 0 < posted_of m book) same met in
            omega arith)
            (λ (none : Awaits n d f v ≤ 0). omega arith)
            (cases_lt 0 (Awaits n d f v));
        awaited_found = λ n d f.
            let a = total_set (Carries o.runs n d f) views id v (settled v draw (Some t)) at in
            let b = total_set (Awaits n d f) views id v (settled v draw (Some t)) at in
            let c = k.awaited_found n d f in
            let e = idles n d f (settled v draw (Some t)) refl in
            omega arith;
        bound = let a = total_set (Idle o.runs) views id v (settled v draw (Some t)) at in let b = k.bound in omega arith;
        each = each_set (λ (j : ℕ) (u : View M T). IsDrawsView o book absent master j u) views id (settled v draw (Some t))
            (record {
              own = is.own;
              spent = is.spent;
              hand = λ n e. subst (λ (h : List Row). IsPassHand n t.version None h) (sym (busy_hand n v.floor draw v.on_its_way v.hand way (is.hand n e))) tt;
              on_its_way = λ d e. absurd cc;
              note = is.note;
              idle = is.idle;
              few_idle = is.few_idle;
            })
            (λ j u _ has. k.each j u has);
      }

  settled_draws : (o : Opening M) (word : ℕ) (book : List Posted) (absent : List ℕ) (master : ℕ) (views : List (View M T)) (id : ℕ) (v : View M T) (draw : ℕ) (found : Option Posted)
      → AreDraws o word book absent master views → Has views id v → v.on_its_way ≡ Some draw → entry_with draw v.known.posted ≡ found → IsPrefix v.known.posted book
      → AreDraws o word book absent master (slice_set views id (settled v draw found))
  settled_draws o word book absent master views id v draw None k at way met begins = subst (λ (l : List (View M T)). AreDraws o word book absent master l) (sym (set_again views id v at)) k
  settled_draws o word book absent master views id v draw (Some t) k at way met begins =
      settled_one o word book absent master views id v draw t k at way (let a = found_counts draw v.known.posted t met in let b = begins_counts draw v.known.posted book begins in omega arith)

  settled_by_draws : (o : Opening M) (word : ℕ) (book : List Posted) (absent : List ℕ) (master : ℕ) (views : List (View M T)) (id : ℕ) (v : View M T) (way : Option ℕ)
      → AreDraws o word book absent master views → Has views id v → v.on_its_way ≡ way → IsPrefix v.known.posted book
      → AreDraws o word book absent master (slice_set views id (settled_by v way))
  settled_by_draws o word book absent master views id v None k at way begins = subst (λ (l : List (View M T)). AreDraws o word book absent master l) (sym (set_again views id v at)) k
  settled_by_draws o word book absent master views id v (Some draw) k at way begins = settled_draws o word book absent master views id v draw (entry_with draw v.known.posted) k at way refl begins

  pub renews_draws : (o : Opening M) (word : ℕ) (book : List Posted) (absent : List ℕ) (master : ℕ) (views : List (View M T)) (id : ℕ) (v : View M T)
      → AreDraws o word book absent master views → Has views id v → IsPrefix v.known.posted book → IsPrefix v.beside.posted book
      → AreDraws o word book absent master (slice_set views id (renewed v))
  renews_draws o word book absent master views id v k at begins also =
      subst (λ (l : List (View M T)). AreDraws o word book absent master l) (set_twice views id (merging v) (renewed v))
      (settled_by_draws o word book absent master (slice_set views id (merging v)) id (merging v) v.on_its_way
      (merges o word book absent master views id v k at also) (set_here views id v (merging v) at) refl
      (longer_begins v.known.posted v.beside.posted book begins also))

  -- a step that leaves role, hand, floor and draws on their way alone
  pub keeps_draws : (o : Opening M) (word : ℕ) (book : List Posted) (absent : List ℕ) (master : ℕ) (views : List (View M T)) (id : ℕ) (v : View M T) (version : ℕ)
      → AreDraws o word book absent master views → Has views id v
      → AreDraws o word book absent master (slice_set views id (entered v version))
  keeps_draws o word book absent master views id v version k at =
      let is = k.each id v at in
      record {
        once = λ draw. let a = total_set (Rows draw) views id v (entered v version) at in let b = k.once draw in omega arith;
        book_runs = k.book_runs;
        seated = λ n. let a = total_set (Seats n) views id v (entered v version) at in let b = k.seated n in omega arith;
        workers = let a = total_set Passes views id v (entered v version) at in let b = k.workers in omega arith;
        carried_awaited = λ n d f.
            let a = total_set (Carries o.runs n d f) views id v (entered v version) at in
            let b = total_set (Awaits n d f) views id v (entered v version) at in
            let c = k.carried_awaited n d f in omega arith;
        awaited_found = λ n d f.
            let a = total_set (Carries o.runs n d f) views id v (entered v version) at in
            let b = total_set (Awaits n d f) views id v (entered v version) at in
            let c = k.awaited_found n d f in omega arith;
        bound = let a = total_set (Idle o.runs) views id v (entered v version) at in let b = k.bound in omega arith;
        each = each_set (λ (j : ℕ) (u : View M T). IsDrawsView o book absent master j u) views id (entered v version)
            (record { own = is.own; spent = is.spent; hand = is.hand; on_its_way = is.on_its_way; note = is.note; idle = is.idle; few_idle = is.few_idle })
            (λ j u _ has. k.each j u has);
      }

  -- ---- the start

  pub starts_draws : (o : Opening M) (versions : List T) (absent : List ℕ) → ((worker : ℕ) → times worker absent ≡ below worker o.workers) → length absent ≡ o.workers
      → AreDraws o 0 [] absent 0 (master_at_start o versions absent ∷ [])
  starts_draws o versions absent each_one all = record {
    once = λ draw. let e = ge_none draw 0 1 (omega arith) in omega arith;
    book_runs = tt;
    seated = λ n. let e = each_one n in omega arith;
    workers = omega arith;
    carried_awaited = λ n d f. let z = if_zero (nat_lt d o.runs) in omega arith;
    awaited_found = λ n d f. omega arith;
    bound = omega arith;
    each = only_one (λ (j : ℕ) (u : View M T). IsDrawsView o [] absent 0 j u) (master_at_start o versions absent)
        (record {
          own = λ e. (refl, refl, refl);
          spent = λ e. refl;
          hand = λ n e. absurd cc;
          on_its_way = λ d e. absurd cc;
          note = λ e. tt;
          idle = λ e n. omega arith;
          few_idle = λ e. omega arith;
        });
  }

  -- ---- the end

  no_carried : (o : Opening M) (word : ℕ) (book : List Posted) (absent : List ℕ) (master : ℕ) (views : List (View M T)) (draw id : ℕ) (v : View M T)
      → AreDraws o word book absent master views → length absent ≡ o.workers → Has views id v → ((w f : ℕ) → Carries o.runs w draw f v ≡ rows_like w draw f v.hand)
      → Rows draw v ≡ 0
  no_carried o word book absent master views draw id v k all at carries =
      ⊎_elim
      (λ (some_row : 0 < Rows draw v).
      let row = row_like draw v.hand some_row in
      let like = row.1 in
      let e = carries row.0.worker row.0.floor in
      let a = at_most_total (Carries o.runs row.0.worker draw row.0.floor) views id v at in
      let b = k.carried_awaited row.0.worker draw row.0.floor in
      let c = total_le (Awaits row.0.worker draw row.0.floor) (Seats row.0.worker) views (λ j u _. awaits_pass row.0.worker draw row.0.floor u.role u.floor u.on_its_way) in
      let d = total_le (Seats row.0.worker) Passes views (λ j u _. pass_is row.0.worker u.role) in
      let f = k.workers in
      absurd (omega arith))
      (λ (none : Rows draw v ≤ 0). omega arith)
      (cases_lt 0 (Rows draw v))

  -- where no pass is left, a run's row is in no hand
  no_row : (o : Opening M) (word : ℕ) (book : List Posted) (absent : List ℕ) (master : ℕ) (views : List (View M T)) (draw id : ℕ) (v : View M T) (role : Role)
      → AreDraws o word book absent master views → length absent ≡ o.workers → draw < o.runs → Has views id v → v.role ≡ role
      → Rows draw v ≡ 0
  no_row o word book absent master views draw id v Spent k all run at role = ap (λ (h : List Row). rows_of draw h) ((k.each id v at).spent role)
  no_row o word book absent master views draw id v (Pass w) k all run at role =
      absurd (let a = at_most_total Passes views id v at in let b = k.workers in let c = ap (λ (r : Role). is_pass r) role in omega arith)
  no_row o word book absent master views draw id v Master k all run at role = no_carried o word book absent master views draw id v k all at (λ w f. carries_as o.runs w draw f v Master role ∙ lt_that draw o.runs (rows_like w draw f v.hand) run)
  no_row o word book absent master views draw id v Note k all run at role = no_carried o word book absent master views draw id v k all at (λ w f. carries_as o.runs w draw f v Note role ∙ lt_that draw o.runs (rows_like w draw f v.hand) run)

  -- each run of the round stands in the book list, once
  pub closes : (o : Opening M) (word : ℕ) (book : List Posted) (absent : List ℕ) (master : ℕ) (views : List (View M T))
      → AreDraws o word book absent master views → length absent ≡ o.workers → o.runs < word
      → (draw : ℕ) → posted_of draw book ≡ below draw o.runs
  closes o word book absent master views k all past draw =
      ⊎_elim
      (λ lt.
      let none = total_none (Rows draw) views (λ id v at. no_row o word book absent master views draw id v v.role k all lt at refl) in
      let once = k.once draw in
      let a = lt_that draw word 1 (omega arith) in
      let b = lt_that draw o.runs 1 lt in
      omega arith)
      (λ ge. none_posted o.runs draw book ge k.book_runs ∙ sym (ge_none draw o.runs 1 ge))
      (cases_lt draw o.runs)

  -- a view that is not the master's has one idle row at most, and none where it is no pass
  idle_view : (o : Opening M) (book : List Posted) (absent : List ℕ) (master id : ℕ) (v : View M T) (role : Role) → v.role ≡ role → IsDrawsView o book absent master id v
      → (Idle o.runs v ≤ Passes v) ⊎ ((id ≡ master) × (Idle o.runs v ≤ length absent))
  idle_view o book absent master id v Master role is = inr ((is.own role).0, is.few_idle role)
  idle_view o book absent master id v (Pass w) role is = inl (let a = few_idle o.runs w v.floor v.on_its_way v.hand (is.hand w role) in let b = ap (λ (r : Role). is_pass r) role in omega arith)
  idle_view o book absent master id v Note role is = inl (let a = none_idle o.runs v.hand (is.note role) in omega arith)
  idle_view o book absent master id v Spent role is = inl (let a = ap (λ (h : List Row). idle_rows o.runs h) (is.spent role) in omega arith)

  idle_bound : (o : Opening M) (book : List Posted) (absent : List ℕ) (master : ℕ) (views : List (View M T)) (place : ℕ)
      → ((id : ℕ) (v : View M T) → Has views id v → (Idle o.runs v ≤ Passes v) ⊎ ((id ≡ place) × (Idle o.runs v ≤ length absent)))
      → total (Idle o.runs) views ≤ total Passes views + length absent
  idle_bound o book absent master [] place each = omega arith
  idle_bound o book absent master (v ∷ vs) zero each =
      let rest = total_le (Idle o.runs) Passes vs (λ i u at. ⊎_elim (λ le. le) (λ t. let e = t.0 in absurd (omega arith)) (each (suc i) u at)) in
      ⊎_elim (λ le. omega arith) (λ t. let le = t.1 in omega arith) (each zero v refl)
  idle_bound o book absent master (v ∷ vs) (suc place) each =
      let rest = idle_bound o book absent master vs place (λ i u at. ⊎_elim (λ le. inl le) (λ t. let e = t.0 in inr (omega arith, t.1)) (each (suc i) u at)) in
      ⊎_elim (λ le. omega arith) (λ t. let e = t.0 in absurd (omega arith)) (each zero v refl)

  -- ---- how many draws there are

  pub few_draws : (o : Opening M) (word : ℕ) (book : List Posted) (absent : List ℕ) (master : ℕ) (views : List (View M T))
      → AreDraws o word book absent master views → word ≤ o.runs + o.workers
  few_draws o word book absent master views k =
      let a = idle_bound o book absent master views master (λ id v at. idle_view o book absent master id v v.role refl (k.each id v at)) in
      let b = k.bound in
      let c = k.workers in
      omega arith
