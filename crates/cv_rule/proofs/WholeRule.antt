-- The laws: the three parts of the rule put together.
use Rattle.std.proofs.Common.{◌≡◌, ◌<◌, ◌+◌, ◌-◌, ◌==◌, ℕ, List, [], ◌∷◌, ◌++◌, length, Option, Some, None, refl, sym, ap, ◌∙◌, subst, arith, length-append}
use Rattle.std.specs.List.{AllByRecursion}
use mathlib.Core.List.{IsPrefix}
use Rattle.cv_rule.proofs.Counting.{awaits_pass, below_most, below_some, eq_one, idle_row, row_here}
use Rattle.cv_rule.proofs.DrawLoads.{closes, few_draws, keeps_draws, merges, renews_draws, starts_draws}
use Rattle.cv_rule.proofs.Draws.{Awaits, Carries, Rows, Seats, draws_one, ends_pass, gives_row_back, notes_none, posts_row, seats_pass, sends_row, takes_news, takes_note, takes_row_back}
use Rattle.cv_rule.proofs.Order.{draws_in_order, enters_in_order, floor_back, gives_back_in_order, joins_in_order, notes_in_order, posts_in_order, renews_in_order, seats_in_order, sends_in_order, starts_in_order}
use Rattle.cv_rule.proofs.Places.{set_else}
use Rattle.cv_rule.proofs.Prefixes.{also_begins_longer, begins_longer, longer_whole, prefix_length}
use Rattle.cv_rule.proofs.Totals.{at_most_total, total_le}
use Rattle.cv_rule.proofs.Versions.{draws, enters, gives_back, joins, notes, posts, renewed_role, renews, seats, sends, starts}
use Rattle.cv_rule.specs.Counts.{IsAbove, Within, carried, entry_with, if_so, longer, posted_of, rows_of}
use Rattle.cv_rule.specs.Laws.{AnnounceKeeps, BookKeeps, CloseHasRuns, DrawKeeps, DrawsAreFew, EndKeeps, EnterKeeps, GiveBackKeeps, IsWithinFloors, LoadedMayBePosted, NewsKeeps, NoteKeeps, PastRuns, RenewKeeps, RenewedStays, RowMayBePosted, SeatKeeps, SendKeeps, StartIsRuled, TakeBackKeeps, TakeKeeps}
use Rattle.cv_rule.specs.Rule.{IsFloor}
use Rattle.cv_rule.specs.Steps.{entries_of, joined, merged, others_of, renewed, settled, settled_by, way_with, merging}
use Rattle.cv_rule.specs.declared.view.Known.{Known}
use Rattle.cv_rule.specs.declared.view.Opening.{Opening}
use Rattle.cv_rule.specs.declared.view.Posted.{Posted}
use Rattle.cv_rule.specs.declared.view.Row.{Row}
use Rattle.cv_rule.specs.declared.view.View.{View}

-- loaded versions are within the floors
loaded_within : {M T : Type 0} (o : Opening M) (m : View M T) (r : Row) (low high : ℕ) (loaded : List ℕ) → Within low high loaded → IsFloor o m.known.posted r.worker low → high < length m.known.versions
    → AllByRecursion (IsWithinFloors o m r) loaded
loaded_within o m r low high [] w floor most = tt
loaded_within o m r low high (n ∷ ns) w floor most =
    let a = floor.0 in let b = floor.1 in let c = w.0 in let d = w.1 in
    let here : IsFloor o m.known.posted r.worker n = (omega arith, omega arith) in
    ((here, omega arith), loaded_within o m r n high ns w.2 here most)

module _ (M T : Type 0) where
  pub start_is_ruled : StartIsRuled M T
  start_is_ruled o versions absent few most each_one all =
      (versions, [], absent, 0, record { are_versions = starts o versions absent few most; are_draws = starts_draws o versions absent each_one all; are_in_order = starts_in_order o versions absent })

  pub seat_keeps : SeatKeeps M T
  seat_keeps o word0 word1 views id m k at role empty left =
      let r = k.4 in
      let is = r.are_versions.each id m at (λ e. absurd (cc (role, e))) in
      let own = is.own role in
      let all : length m.known.versions ≡ length k.0 = ap (λ (l : List T). length l) own.1 in
      let newest = r.are_versions.newest in (
        k.0,
        k.1,
        others_of m.absent,
        k.3,
        record {
          are_versions = seats o word0 k.0 k.1 k.3 views id m r.are_versions at role;
          are_draws = seats_pass o word1 k.1 k.2 k.3 views id m r.are_draws at role empty left;
          are_in_order = seats_in_order o k.1 views id m r.are_in_order at (omega arith) (subst (λ (l : List Posted). AllByRecursion (λ (t : Posted). t.version < length m.known.versions) l) own.2 is.known.below);
        },
      )

  pub enter_keeps : EnterKeeps M T
  enter_keeps o word0 word1 views id worker v k at role =
      let r = k.4 in
      let is = r.are_versions.each id v at (λ e. absurd (cc (role, e))) in
      let reach = is.reach in
      let floor = is.floor in
      let long = prefix_length v.known.versions k.0 is.known.versions_begin in
      let word = r.are_versions.word_is in
      let most = r.are_versions.most in (
        (
          k.0,
          k.1,
          k.2,
          k.3,
          record {
            are_versions = enters o word0 k.0 k.1 k.3 views id v worker r.are_versions at role;
            are_draws = keeps_draws o word1 k.1 k.2 k.3 views id v (word0 - 1) r.are_draws at;
            are_in_order = enters_in_order o k.1 views id v (word0 - 1) r.are_in_order at;
          },
        ),
        record { positive = omega arith; most = omega arith; rises = omega arith; above = omega arith; long = omega arith },
      )

  -- what is known after a load
  settled_known : (v : View M T) (draw : ℕ) (found : Option Posted) → (settled v draw found).known ≡ v.known
  settled_known v draw None = refl
  settled_known v draw (Some t) = refl

  settled_by_known : (v : View M T) (way : Option ℕ) → (settled_by v way).known ≡ v.known
  settled_by_known v None = refl
  settled_by_known v (Some draw) = settled_known v draw (entry_with draw v.known.posted)

  pub renewed_known : (v : View M T) → (renewed v).known ≡ merged v.known v.beside
  renewed_known v = settled_by_known (merging v) v.on_its_way

  settled_hand : (v : View M T) (draw : ℕ) (found : Option Posted) → (settled v draw found).hand ≡ v.hand
  settled_hand v draw None = refl
  settled_hand v draw (Some t) = refl

  settled_by_hand : (v : View M T) (way : Option ℕ) → (settled_by v way).hand ≡ v.hand
  settled_by_hand v None = refl
  settled_by_hand v (Some draw) = settled_hand v draw (entry_with draw v.known.posted)

  pub renewed_hand : (v : View M T) → (renewed v).hand ≡ v.hand
  renewed_hand v = settled_by_hand (merging v) v.on_its_way

  -- loaded versions stay within floor and reach
  settled_within : (v : View M T) (draw : ℕ) (found : Option Posted) → Within v.floor v.reach v.loaded → Within (settled v draw found).floor (settled v draw found).reach (settled v draw found).loaded
  settled_within v draw None w = w
  settled_within v draw (Some t) w = tt

  settled_by_within : (v : View M T) (way : Option ℕ) → Within v.floor v.reach v.loaded → Within (settled_by v way).floor (settled_by v way).reach (settled_by v way).loaded
  settled_by_within v None w = w
  settled_by_within v (Some draw) w = settled_within v draw (entry_with draw v.known.posted) w

  pub renewed_within : (v : View M T) → Within v.floor v.reach v.loaded → Within (renewed v).floor (renewed v).reach (renewed v).loaded
  renewed_within v w = settled_by_within (merging v) v.on_its_way w

  pub renewed_stays : RenewedStays M T
  renewed_stays v = record { role = renewed_role v; hand = renewed_hand v; known = renewed_known v; within = renewed_within v }

  pub renew_keeps : RenewKeeps M T
  renew_keeps o word0 word1 views id v k at live =
      let r = k.4 in
      let is = r.are_versions.each id v at live in
      let known : merged v.known v.beside ≡ (renewed v).known = sym (renewed_known v) in
      let merged_draws = merges o word1 k.1 k.2 k.3 views id v r.are_draws at is.beside.book_begins in (
        (
          k.0,
          k.1,
          k.2,
          k.3,
          record {
            are_versions = renews o word0 k.0 k.1 k.3 views id v r.are_versions at live;
            are_draws = renews_draws o word1 k.1 k.2 k.3 views id v r.are_draws at is.known.book_begins is.beside.book_begins;
            are_in_order = renews_in_order o word1 k.1 k.2 k.3 views id v merged_draws r.are_in_order at is.known.book_begins is.beside.book_begins r.are_versions.book_above;
          },
        ),
        record {
          opening = is.known.opening_is;
          beside = is.beside.opening_is;
          kept = ap (λ (x : Known M T). x.opening) (renewed_known v);
          versions = subst (λ (x : Known M T). IsPrefix v.known.versions x.versions) known (begins_longer v.known.versions v.beside.versions);
          versions_beside = subst (λ (x : Known M T). IsPrefix v.beside.versions x.versions) known (also_begins_longer v.known.versions v.beside.versions k.0 is.known.versions_begin is.beside.versions_begin);
          posted = subst (λ (x : Known M T). IsPrefix v.known.posted x.posted) known (begins_longer v.known.posted v.beside.posted);
          posted_beside = subst (λ (x : Known M T). IsPrefix v.beside.posted x.posted) known (also_begins_longer v.known.posted v.beside.posted k.1 is.known.book_begins is.beside.book_begins);
        },
        λ role.
            let own = is.own role in
            let versions : longer v.known.versions v.beside.versions ≡ v.known.versions = longer_whole v.known.versions v.beside.versions (subst (λ (l : List T). IsPrefix v.beside.versions l) (sym own.1) is.beside.versions_begin) in
            let posted : longer v.known.posted v.beside.posted ≡ v.known.posted = longer_whole v.known.posted v.beside.posted (subst (λ (l : List Posted). IsPrefix v.beside.posted l) (sym own.2) is.beside.book_begins) in
            let same : merged v.known v.beside ≡ v.known = λ i. record v.known { versions = versions i; posted = posted i } in
            record { known = renewed_known v ∙ same; reach = subst (λ (l : List T). v.reach < length l) (sym own.1) is.reach },
      )

  pub book_keeps : BookKeeps M T
  book_keeps o word0 word1 views id m x k at role hand run =
      let r = k.4 in
      let word = r.are_versions.word_is in
      let most = r.are_versions.most in
      let long = length-append k.0 [] in (
        k.0 ++ [],
        k.1 ++ entries_of (word0 - 1) m.hand,
        k.2,
        k.3,
        record {
          are_versions = posts o word0 word0 k.0 [] k.1 (word0 - 1) k.3 views id m r.are_versions at role (omega arith) (omega arith) (omega arith);
          are_draws = posts_row o word1 k.1 k.2 k.3 views id m [] (word0 - 1) x r.are_draws at role hand run;
          are_in_order = posts_in_order o word1 k.1 k.2 k.3 views id m [] (word0 - 1) x r.are_draws r.are_in_order at role hand run;
        },
      )

  pub announce_keeps : AnnounceKeeps M T
  announce_keeps o word0 word1 views id m x table k at role hand run room =
      let r = k.4 in
      let is = r.are_versions.each id m at (λ e. absurd (cc (role, e))) in
      let all : length m.known.versions ≡ length k.0 = ap (λ (l : List T). length l) (is.own role).1 in
      let word = r.are_versions.word_is in
      let long = length-append k.0 (table ∷ []) in
      let version = length m.known.versions in (
        k.0 ++ table ∷ [],
        k.1 ++ entries_of version m.hand,
        k.2,
        k.3,
        record {
          are_versions = posts o word0 (word0 + 1) k.0 (table ∷ []) k.1 version k.3 views id m r.are_versions at role (omega arith) (omega arith) (omega arith);
          are_draws = posts_row o word1 k.1 k.2 k.3 views id m (table ∷ []) version x r.are_draws at role hand run;
          are_in_order = posts_in_order o word1 k.1 k.2 k.3 views id m (table ∷ []) version x r.are_draws r.are_in_order at role hand run;
        },
      )

  pub draw_keeps : DrawKeeps M T
  draw_keeps o word0 word1 views id worker v k at role empty way =
      let r = k.4 in (
        k.0,
        k.1,
        k.2,
        k.3,
        record {
          are_versions = draws o word0 k.0 k.1 k.3 views id v word1 r.are_versions at (λ e. absurd (cc (role, e)));
          are_draws = draws_one o word1 k.1 k.2 k.3 views id v worker r.are_draws at role empty way;
          are_in_order = draws_in_order o word1 k.1 k.2 k.3 views id v worker r.are_draws r.are_in_order at role way;
        },
      )

  pub draws_are_few : DrawsAreFew M T
  draws_are_few o word0 word1 views k = few_draws o word1 k.1 k.2 k.3 views k.4.are_draws

  pub note_keeps : NoteKeeps M T
  note_keeps o word0 word1 views id v k at live =
      let r = k.4 in (
        k.0,
        k.1,
        k.2,
        k.3,
        record {
          are_versions = notes o word0 k.0 k.1 k.3 views id v [] r.are_versions at live;
          are_draws = notes_none o word1 k.1 k.2 k.3 views id v r.are_draws at;
          are_in_order = notes_in_order o k.1 views id v r.are_in_order at;
        },
      )

  pub send_keeps : SendKeeps M T
  send_keeps o word0 word1 views id worker v x k at role hand run =
      let r = k.4 in (
        k.0,
        k.1,
        k.2,
        k.3,
        record {
          are_versions = sends o word0 k.0 k.1 k.3 views id v r.are_versions at (λ e. absurd (cc (role, e)));
          are_draws = sends_row o word1 k.1 k.2 k.3 views id v worker x r.are_draws at role hand run;
          are_in_order = sends_in_order o k.1 views id v x r.are_in_order at hand;
        },
      )

  pub give_back_keeps : GiveBackKeeps M T
  give_back_keeps o word0 word1 views id m k at role runs =
      let r = k.4 in (
        k.0,
        k.1,
        k.2,
        k.3,
        record {
          are_versions = gives_back o word0 k.0 k.1 k.3 views id m r.are_versions at (λ e. absurd (cc (role, e)));
          are_draws = gives_row_back o word1 k.1 k.2 k.3 views id m r.are_draws at role runs;
          are_in_order = gives_back_in_order o k.1 views id m r.are_in_order at;
        },
      )

  pub take_keeps : TakeKeeps M T
  take_keeps o word0 word1 views id other m w k at apart beside role note =
      let r = k.4 in (
        k.0,
        k.1,
        k.2,
        k.3,
        record {
          are_versions = joins o word0 k.0 k.1 k.3 views id other m w r.are_versions at apart beside (λ e. absurd (cc (role, e))) (λ e. absurd (cc (note, e))) (λ e. absurd (cc (note, e)));
          are_draws = takes_note o word1 k.1 k.2 k.3 views id other m w r.are_draws at apart beside role note;
          are_in_order = joins_in_order o k.1 views id other m w r.are_in_order at apart beside (λ n e. absurd (cc (role, e)));
        },
      )

  pub news_keeps : NewsKeeps M T
  news_keeps o word0 word1 views id other worker v w k at apart beside role note empty =
      let r = k.4 in
      let way : way_with w.hand v.on_its_way ≡ v.on_its_way = ap (λ (h : List Row). way_with h v.on_its_way) empty in (
        k.0,
        k.1,
        k.2,
        k.3,
        record {
          are_versions = joins o word0 k.0 k.1 k.3 views id other v w r.are_versions at apart beside (λ e. absurd (cc (role, e))) (λ e. absurd (cc (note, e))) (λ e. absurd (cc (note, e)));
          are_draws = takes_news o word1 k.1 k.2 k.3 views id other v w worker r.are_draws at apart beside role note empty;
          are_in_order = joins_in_order o k.1 views id other v w r.are_in_order at apart beside (λ n e f. (r.are_in_order.each id v at).floor n e (sym way ∙ f));
        },
      )

  pub take_back_keeps : TakeBackKeeps M T
  take_back_keeps o word0 word1 views id other v w x k at apart beside role note hand =
      let r = k.4 in (
        k.0,
        k.1,
        k.2,
        k.3,
        record {
          are_versions = joins o word0 k.0 k.1 k.3 views id other v w r.are_versions at apart beside (λ e. absurd (cc (role, e))) (λ e. absurd (cc (note, e))) (λ e. absurd (cc (note, e)));
          are_draws = takes_row_back o word1 k.1 k.2 k.3 views id other v w x r.are_draws at apart beside role note hand;
          are_in_order = joins_in_order o k.1 views id other v w r.are_in_order at apart beside
              (λ n e _. floor_back o word1 k.1 k.2 k.3 views id other v w x r.are_draws r.are_in_order at (sym (set_else views id other (joined v w) apart) ∙ beside) role note hand n e);
        },
      )

  pub end_keeps : EndKeeps M T
  end_keeps o word0 word1 views id other worker m w k at apart beside role pass way idle =
      let r = k.4 in (
        k.0,
        k.1,
        worker ∷ k.2,
        k.3,
        record {
          are_versions = joins o word0 k.0 k.1 k.3 views id other m w r.are_versions at apart beside (λ e. absurd (cc (role, e))) (λ e. absurd (cc (pass, e))) (λ e. absurd (cc (pass, e)));
          are_draws = ends_pass o word1 k.1 k.2 k.3 views id other m w worker r.are_draws at apart beside role pass way idle;
          are_in_order = joins_in_order o k.1 views id other m w r.are_in_order at apart beside (λ n e. absurd (cc (role, e)));
        },
      )

  pub close_has_runs : CloseHasRuns M T
  close_has_runs o word0 word1 views id m k at role all past draw =
      let r = k.4 in
      let own = (r.are_draws.each id m at).own role in
      ap (λ (l : List Posted). posted_of draw l) own.1 ∙ closes o word1 k.1 k.2 k.3 views r.are_draws (sym (ap (λ (l : List ℕ). length l) own.2) ∙ all) past draw

  pub row_may_be_posted : RowMayBePosted M T
  row_may_be_posted o word0 word1 views id m x k at role hand run =
      let r = k.4 in
      let is = r.are_versions.each id m at (λ e. absurd (cc (role, e))) in
      let own = is.own role in
      let all : length m.known.versions ≡ length k.0 = ap (λ (l : List T). length l) own.1 in
      let word = r.are_versions.word_is in
      let reach = is.reach in
      let order = r.are_in_order.each id m at in
      let posted : k.1 ≡ m.known.posted = sym own.2 in
      let later : AllByRecursion (λ (y : Row). IsAbove k.1 y.worker y.draw) (x ∷ []) = subst (λ (h : List Row). AllByRecursion (λ (y : Row). IsAbove k.1 y.worker y.draw) h) hand order.later in
      let floors : AllByRecursion (λ (y : Row). y.draw < o.runs → IsFloor o k.1 y.worker y.floor) (x ∷ []) = subst (λ (h : List Row). AllByRecursion (λ (y : Row). y.draw < o.runs → IsFloor o k.1 y.worker y.floor) h) hand order.row_floors in
      let rows = at_most_total (Rows x.draw) views id m at in
      let my_row : rows_of x.draw m.hand ≡ if_so (x.draw == x.draw) 1 + 0 = ap (λ (h : List Row). rows_of x.draw h) hand in
      let once = r.are_draws.once x.draw in
      let is_one = eq_one x.draw x.draw refl in
      let few = below_most x.draw word1 in
      let one : carried o.runs x.worker x.draw x.floor m.role m.hand ≡ 1 = (λ i. carried o.runs x.worker x.draw x.floor (role i) (hand i)) ∙ row_here o.runs x run in
      let carries = at_most_total (Carries o.runs x.worker x.draw x.floor) views id m at in
      let awaits = r.are_draws.carried_awaited x.worker x.draw x.floor in
      let pass = total_le (Awaits x.worker x.draw x.floor) (Seats x.worker) views (λ j u _. awaits_pass x.worker x.draw x.floor u.role u.floor u.on_its_way) in
      let seated = r.are_draws.seated x.worker in
      let none : posted_of x.draw k.1 ≡ 0 = omega arith in
      record {
        opening = is.known.opening_is;
        versions = omega arith;
        reach = omega arith;
        worker = below_some x.worker o.workers (omega arith);
        fresh = subst (λ (l : List Posted). posted_of x.draw l ≡ 0) posted none;
        rises = subst (λ (l : List Posted). IsAbove l x.worker x.draw) posted later.0;
        floor = subst (λ (l : List Posted). IsFloor o l x.worker x.floor) posted (floors.0 run);
      }

  pub loaded_may_be_posted : LoadedMayBePosted M T
  loaded_may_be_posted o word0 m v r may within same reach =
      let high = may.reach in
      loaded_within o m r v.floor v.reach v.loaded within (subst (λ (f : ℕ). IsFloor o m.known.posted r.worker f) (sym same) may.floor) (omega arith)

  -- an idle row in a hand shows that some draw was no run
  pub past_runs : PastRuns M T
  past_runs o word0 word1 views id v k at idle =
      let row = idle_row o.runs v.hand idle in
      let rows = at_most_total (Rows row.0) views id v at in
      let mine = row.2 in
      let once = k.4.are_draws.once row.0 in
      let low = below_some row.0 word1 (omega arith) in
      let past = row.1 in
      omega arith
