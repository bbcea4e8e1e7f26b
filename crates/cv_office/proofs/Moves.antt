-- The steps that the table's rule allows; each lemma takes the laws of the office's rule that it needs.
use Rattle.std.proofs.Common.{◌≡◌, ◌≢◌, ◌≤◌, ◌<◌, ◌+◌, ◌-◌, ◌%◌, ◌^◌, ℕ, List, [], ◌∷◌, ◌++◌, length, None, ⊎_elim, refl, sym, ap, ◌∙◌, subst, eqb, arith}
use Rattle.std.specs.Prelude.{max, slice_index, slice_set}
use Rattle.std.specs.List.{AllByRecursion}
use Rattle.std.proofs.Math.Nat.{mod-eq_of_lt}
use Rattle.std.proofs.lemmas.Option.{same_Some}
use lib.ListN.{get_elem?}
use mathlib.Core.Option.{none, some}
use prog.Atomic.{either}
use Rattle.atomic_table.proofs.Lists.{at_set, exchanged}
use Rattle.atomic_table.specs.Table.{Allows, Final, Joins, Seen, Splits, State, keeps, opening, step}
use Rattle.cv_office.specs.Told.{Announced, Booked, Drew, Entered, HasRun, HasRunsOnce, IsAlone, IsHolding, IsIdle, IsMaster, IsOffice, IsPass, IsPostable, IsRun, IsStart, Renewed}
use Rattle.cv_rule.specs.Counts.{idle_rows}
use Rattle.cv_rule.specs.Laws.{AnnounceKeeps, BookKeeps, CloseHasRuns, DrawKeeps, DrawsAreFew, EndKeeps, EnterKeeps, GiveBackKeeps, IsNewVersion, IsRenewal, MayPost, NewsKeeps, NoteKeeps, PastRuns, RenewKeeps, RenewedStays, RowMayBePosted, SeatKeeps, SendKeeps, StartIsRuled, TakeBackKeeps, TakeKeeps, WithinGrows}
use Rattle.cv_rule.specs.Rule.{Has, Ruled}
use Rattle.cv_rule.specs.Steps.{announced, booked, drawn, entered, giving_back, joined, master_at_start, new_pass, note_of, renewed, seating, sending, spent, worker_of}
use Rattle.cv_rule.specs.declared.view.Opening.{Opening}
use Rattle.cv_rule.specs.declared.view.Role.{Role}
use Rattle.cv_rule.specs.declared.view.Role.TheVariants.{Master, Pass, Note, Spent}
use Rattle.cv_rule.specs.declared.view.Row.{Row}
use Rattle.cv_rule.specs.declared.view.View.{View}

-- the words, once word 0 is set
set_first : (words : List ℕ) (a b n m : ℕ) → words ≡ a ∷ b ∷ [] → n ≡ m → slice_set words 0 n ≡ m ∷ b ∷ []
set_first words a b n m e f = ap (λ (l : List ℕ). slice_set l 0 n) e ∙ ap (λ (k : ℕ). k ∷ b ∷ []) f

set_second : (words : List ℕ) (a b n m : ℕ) → words ≡ a ∷ b ∷ [] → n ≡ m → slice_set words 1 n ≡ a ∷ m ∷ []
set_second words a b n m e f = ap (λ (l : List ℕ). slice_set l 1 n) e ∙ ap (λ (k : ℕ). a ∷ k ∷ []) f

module _ {M T : Type 0} where
  -- what a seat knows of the opening is the rule's
  run_of : (o : Opening M) (word0 word1 : ℕ) (views : List (View M T)) (id : ℕ) (v : View M T) (r : Row) → Ruled o word0 word1 views → Has views id v → v.role ≢ Spent → IsRun v r → r.draw < o.runs
  run_of o word0 word1 views id v r k at live run =
      let same : run.0 ≡ o = same_Some run.0 o (sym run.1 ∙ (k.4.are_versions.each id v at live).known.opening_is) in
      subst (λ (x : Opening M). r.draw < x.runs) same run.2

  runs_of : (o : Opening M) (word0 word1 : ℕ) (views : List (View M T)) (id : ℕ) (v : View M T) (hand : List Row) → Ruled o word0 word1 views → Has views id v → v.role ≢ Spent → AllByRecursion (IsRun v) hand → AllByRecursion (λ (r : Row). r.draw < o.runs) hand
  runs_of o word0 word1 views id v [] k at live runs = tt
  runs_of o word0 word1 views id v (r ∷ rs) k at live runs = (run_of o word0 word1 views id v r k at live runs.0, runs_of o word0 word1 views id v rs k at live runs.1)

  -- ---- loads

  pub enters : EnterKeeps M T → (o : Opening M) (slots id worker : ℕ) (v : View M T) (c : List (ℕ × T)) → v.role ≡ Pass worker
      → Allows (IsOffice o) slots id (v, c) 0 (λ n. n) (Entered (step slots 0 0 0 none) (v, c))
  enters keep o slots id worker v c role s h long at small =
      let found : slice_index s.words 0 ≡ h.word0 = ap (λ (l : List ℕ). slice_index l 0) h.words_are in
      let law = keep o h.word0 h.word1 s.views id worker v h.ruled at role in
      let n = slice_index s.words 0 in (
        entered v (n - 1),
        keeps,
        tt,
        record { word0 = h.word0; word1 = h.word1; words_are = set_first s.words h.word0 h.word1 n h.word0 h.words_are found; small = h.small; ruled = subst (λ (k : ℕ). Ruled o h.word0 h.word1 (slice_set s.views id (entered v (k - 1)))) (sym found) law.0 },
        record { slots = refl; view = refl; new = subst (λ (k : ℕ). IsNewVersion k v) (sym found) law.1 },
      )

  pub renews : RenewKeeps M T → RowMayBePosted M T → (o : Opening M) (slots id : ℕ) (v : View M T) (c : List (ℕ × T)) → v.role ≢ Spent
      → Allows (IsOffice o) slots id (v, c) 0 (λ n. n) (Renewed (step slots 0 0 0 none) (v, c))
  renews keep may o slots id v c live s h long at small =
      let found : slice_index s.words 0 ≡ h.word0 = ap (λ (l : List ℕ). slice_index l 0) h.words_are in
      let law = keep o h.word0 h.word1 s.views id v h.ruled at live in
      let n = slice_index s.words 0 in (
        renewed v,
        keeps,
        tt,
        record { word0 = h.word0; word1 = h.word1; words_are = set_first s.words h.word0 h.word1 n h.word0 h.words_are found; small = h.small; ruled = law.0 },
        record {
          slots = refl;
          view = refl;
          opening = o;
          renewal = law.1;
          master = law.2;
          row = λ r role hand run. subst (λ (k : ℕ). MayPost o k v r) (sym found) (may o h.word0 h.word1 s.views id v r h.ruled at role hand run);
        },
      )

  pub books : BookKeeps M T → (o : Opening M) (slots id : ℕ) (v : View M T) (c : List (ℕ × T)) (r : Row) → v.role ≡ Master → v.hand ≡ r ∷ [] → IsRun v r
      → Allows (IsOffice o) slots id (v, c) 0 (λ n. n) (Booked (step slots 0 0 0 none) (v, c))
  books keep o slots id v c r role hand run s h long at small =
      let found : slice_index s.words 0 ≡ h.word0 = ap (λ (l : List ℕ). slice_index l 0) h.words_are in
      let law = keep o h.word0 h.word1 s.views id v r h.ruled at role hand (run_of o h.word0 h.word1 s.views id v r h.ruled at (λ e. absurd (cc (role, e))) run) in
      let n = slice_index s.words 0 in (
        booked v (n - 1),
        keeps,
        tt,
        record { word0 = h.word0; word1 = h.word1; words_are = set_first s.words h.word0 h.word1 n h.word0 h.words_are found; small = h.small; ruled = subst (λ (k : ℕ). Ruled o h.word0 h.word1 (slice_set s.views id (booked v (k - 1)))) (sym found) law },
        record { slots = refl; view = refl; long = found ∙ (h.ruled.4.are_versions.word_is ∙ sym (ap (λ (l : List T). length l) ((h.ruled.4.are_versions.each id v at (λ e. absurd (cc (role, e)))).own role).1)) },
      )

  -- ---- adds

  pub draws : DrawKeeps M T → DrawsAreFew M T → (o : Opening M) (slots id worker : ℕ) (v : View M T) (c : List (ℕ × T)) → v.role ≡ Pass worker → v.hand ≡ [] → v.on_its_way ≡ None
      → Allows (IsOffice o) slots id (v, c) 1 (λ n. (n + 1) % 2 ^ 64) (Drew (step slots 1 1 0 none) (v, c))
  draws keep are_few o slots id worker v c role empty way s h long at small =
      let found : slice_index s.words 1 ≡ h.word1 = ap (λ (l : List ℕ). slice_index l 1) h.words_are in
      let law = keep o h.word0 h.word1 s.views id worker v h.ruled at role empty way in
      let few = are_few o h.word0 h.word1 s.views h.ruled in
      let bound = h.small in
      let n = slice_index s.words 1 in
      let low : n < 2 ^ 32 = omega arith in
      let fits : n + 1 < 2 ^ 64 = omega arith in
      let next : (n + 1) % 2 ^ 64 ≡ h.word1 + 1 = mod-eq_of_lt fits ∙ ap (λ (k : ℕ). k + 1) found in (
        drawn v n,
        keeps,
        tt,
        record { word0 = h.word0; word1 = h.word1 + 1; words_are = set_second s.words h.word0 h.word1 ((n + 1) % 2 ^ 64) (h.word1 + 1) h.words_are next; small = h.small; ruled = subst (λ (k : ℕ). Ruled o h.word0 (h.word1 + 1) (slice_set s.views id (drawn v k))) (sym found) law },
        record { slots = refl; view = refl; few = low },
      )

  -- the word is as long as the master's list, so the exchange does not fail
  announce_found : (o : Opening M) (slots id : ℕ) (v : View M T) (c : List (ℕ × T)) (r : Row) (table : T) (n : ℕ) → v.role ≡ Master → v.hand ≡ r ∷ [] → IsRun v r → n ≡ length v.known.versions → n < 1025
      → (s : State T (View M T)) → IsOffice o s → get_elem? s.views id ≡ some v → slice_index s.words 0 ≡ n
  announce_found o slots id v c r table n role hand run long room s h at =
      let is = h.ruled.4.are_versions.each id v at (λ e. absurd (cc (role, e))) in
      let all = ap (λ (l : List T). length l) (is.own role).1 in
      let word = h.ruled.4.are_versions.word_is in
      let found : slice_index s.words 0 ≡ h.word0 = ap (λ (l : List ℕ). slice_index l 0) h.words_are in
      found ∙ (word ∙ (sym all ∙ sym long))

  pub announces : AnnounceKeeps M T → (o : Opening M) (slots id : ℕ) (v : View M T) (c : List (ℕ × T)) (r : Row) (table : T) (n : ℕ) → v.role ≡ Master → v.hand ≡ r ∷ [] → IsRun v r → n ≡ length v.known.versions → n < 1025
      → Allows (IsOffice o) slots id (v, c) 0 (λ k. either (eqb k n) (n + 1) k) (Announced (step slots 0 n (n + 1) (some table)) (v, c))
  announces keep o slots id v c r table n role hand run long room s h many at small =
      let is_n = announce_found o slots id v c r table n role hand run long room s h at in
      let found : slice_index s.words 0 ≡ h.word0 = ap (λ (l : List ℕ). slice_index l 0) h.words_are in
      let k = slice_index s.words 0 in
      let next : either (eqb k n) (n + 1) k ≡ h.word0 + 1 = exchanged k n (n + 1) (λ (x : ℕ). x ≡ h.word0 + 1) (λ e. ap (λ (x : ℕ). x + 1) (sym e ∙ found)) (λ ne. absurd (ne is_n)) in
      let law = keep o h.word0 h.word1 s.views id v r table h.ruled at role hand (run_of o h.word0 h.word1 s.views id v r h.ruled at (λ e. absurd (cc (role, e))) run) (omega arith) in (
        announced v table,
        keeps,
        tt,
        record { word0 = h.word0 + 1; word1 = h.word1; words_are = set_first s.words h.word0 h.word1 (either (eqb k n) (n + 1) k) (h.word0 + 1) h.words_are next; small = h.small; ruled = law },
        record { slots = refl; table = table; said = refl; view = refl; found_is = is_n },
      )

  -- ---- splits

  pub seats : SeatKeeps M T → (o : Opening M) (id : ℕ) (v : View M T) → v.role ≡ Master → v.hand ≡ [] → 0 < length v.absent → Splits (IsOffice o) id v (seating v) (new_pass v)
  seats keep o id v role hand absent s h at = record { word0 = h.word0; word1 = h.word1; words_are = h.words_are; small = h.small; ruled = keep o h.word0 h.word1 s.views id v h.ruled at role hand absent }

  pub new_is_pass : (v : View M T) → IsPass (new_pass v)
  new_is_pass v = record { role = refl; loaded = tt }

  pub opens : StartIsRuled M T → (o : Opening M) (versions : List T) (workers : List ℕ) (count : ℕ) → IsStart o versions workers → count ≡ length versions → IsOffice o (opening (count ∷ 0 ∷ []) [] (master_at_start o versions workers))
  opens ruled o versions workers count is e = record {
    word0 = length versions;
    word1 = 0;
    words_are = ap (λ (n : ℕ). n ∷ 0 ∷ []) e;
    small = is.small;
    ruled = ruled o versions workers is.newest is.most is.each_once is.all;
  }

  pub notes : NoteKeeps M T → (o : Opening M) (id : ℕ) (v : View M T) → v.role ≢ Spent → Splits (IsOffice o) id v v (note_of v [])
  notes keep o id v live s h at = record { word0 = h.word0; word1 = h.word1; words_are = h.words_are; small = h.small; ruled = keep o h.word0 h.word1 s.views id v h.ruled at live }

  pub sends : SendKeeps M T → (o : Opening M) (id worker : ℕ) (v : View M T) (r : Row) → v.role ≡ Pass worker → v.hand ≡ r ∷ [] → IsRun v r → Splits (IsOffice o) id v (sending v) (note_of v v.hand)
  sends keep o id worker v r role hand run s h at = record { word0 = h.word0; word1 = h.word1; words_are = h.words_are; small = h.small; ruled = keep o h.word0 h.word1 s.views id worker v r h.ruled at role hand (run_of o h.word0 h.word1 s.views id v r h.ruled at (λ e. absurd (cc (role, e))) run) }

  pub gives_back : GiveBackKeeps M T → (o : Opening M) (id : ℕ) (v : View M T) → v.role ≡ Master → AllByRecursion (IsRun v) v.hand → Splits (IsOffice o) id v (giving_back v) (note_of v v.hand)
  gives_back keep o id v role runs s h at = record { word0 = h.word0; word1 = h.word1; words_are = h.words_are; small = h.small; ruled = keep o h.word0 h.word1 s.views id v h.ruled at role (runs_of o h.word0 h.word1 s.views id v v.hand h.ruled at (λ e. absurd (cc (role, e))) runs) }

  -- ---- joins

  pub takes : TakeKeeps M T → (o : Opening M) (id other : ℕ) (v w : View M T) → v.role ≡ Master → w.role ≡ Note → Joins (IsOffice o) id v other w (joined v w) spent
  takes keep o id other v w role note s h at apart beside = record { word0 = h.word0; word1 = h.word1; words_are = h.words_are; small = h.small; ruled = keep o h.word0 h.word1 s.views id other v w h.ruled at apart beside role note }

  pub news : NewsKeeps M T → (o : Opening M) (id other worker : ℕ) (v w : View M T) → v.role ≡ Pass worker → w.role ≡ Note → w.hand ≡ [] → Joins (IsOffice o) id v other w (joined v w) spent
  news keep o id other worker v w role note empty s h at apart beside = record { word0 = h.word0; word1 = h.word1; words_are = h.words_are; small = h.small; ruled = keep o h.word0 h.word1 s.views id other worker v w h.ruled at apart beside role note empty }

  pub takes_back : TakeBackKeeps M T → (o : Opening M) (id other : ℕ) (v w : View M T) (r : Row) → v.role ≡ Pass r.worker → w.role ≡ Note → w.hand ≡ r ∷ [] → Joins (IsOffice o) id v other w (joined v w) spent
  takes_back keep o id other v w r role note hand s h at apart beside = record { word0 = h.word0; word1 = h.word1; words_are = h.words_are; small = h.small; ruled = keep o h.word0 h.word1 s.views id other v w r h.ruled at apart beside role note hand }

  idles_of : (o : Opening M) (word0 word1 : ℕ) (views : List (View M T)) (id : ℕ) (v : View M T) → Ruled o word0 word1 views → Has views id v → v.role ≢ Spent → IsIdle v → AllByRecursion (λ (r : Row). o.runs ≤ r.draw) v.hand
  idles_of o word0 word1 views id v k at live idle =
      let same : idle.0 ≡ o = same_Some idle.0 o (sym idle.1 ∙ (k.4.are_versions.each id v at live).known.opening_is) in
      subst (λ (x : Opening M). AllByRecursion (λ (r : Row). x.runs ≤ r.draw) v.hand) same idle.2

  pub ends : EndKeeps M T → (o : Opening M) (id other worker : ℕ) (v w : View M T) → v.role ≡ Master → w.role ≡ Pass worker → w.on_its_way ≡ None → IsIdle w → Joins (IsOffice o) id v other w (joined v w) spent
  ends keep o id other worker v w role pass way idle s h at apart beside =
      let there : Has s.views other w = ⊎_elim (λ here. absurd (apart here.0)) (λ there. there.1) (at_set s.views id other (joined v w) w beside) in
      record {
        word0 = h.word0;
        word1 = h.word1;
        words_are = h.words_are;
        small = h.small;
        ruled = keep o h.word0 h.word1 s.views id other worker v w h.ruled at apart beside role pass way (idles_of o h.word0 h.word1 s.views other w h.ruled there (λ e. absurd (cc (pass, e))) idle);
      }

  -- ---- close

  pub closes : PastRuns M T → CloseHasRuns M T → (o : Opening M) (alone : Opening M) (words : List ℕ) (slots : List T) (id : ℕ) (m : View M T) → IsAlone alone m → Final (Seen (IsOffice o) id m) words slots → HasRunsOnce alone m
  closes past_runs has_runs o alone words slots id m is final =
      let h = final.1.0 in
      let at = final.1.1 in
      let same : alone ≡ o = same_Some alone o (sym is.opening ∙ (h.ruled.4.are_versions.each id m at (λ e. let role = is.role in absurd (cc (role, e)))).known.opening_is) in
      let past : 0 < idle_rows o.runs m.hand = subst (λ (x : Opening M). 0 < idle_rows x.runs m.hand) same is.past in
      let all : length m.absent ≡ o.workers = subst (λ (x : Opening M). length m.absent ≡ x.workers) same is.absent in
      subst (λ (x : Opening M). HasRunsOnce x m) (sym same)
      (has_runs o h.word0 h.word1 final.0.views id m h.ruled at is.role all (past_runs o h.word0 h.word1 final.0.views id m h.ruled at past))

  -- ---- what stays true of a pass

  pub entered_pass : WithinGrows → (v : View M T) (found : ℕ) → IsPass v → IsNewVersion found v → IsPass (entered v (found - 1))
  entered_pass grows v found is new =
      let low = new.above in let high = new.rises in
      record { role = is.role; loaded = (grows v.floor v.reach (found - 1) v.loaded high is.loaded).1 low }

  -- a pass stays one after a note was joined and word 0 loaded
  pub renewed_pass : RenewedStays M T → WithinGrows → (v w : View M T) → IsPass v → IsPass (renewed (joined v w))
  renewed_pass stays grows v w is =
      let role : (renewed (joined v w)).role ≡ v.role = (stays (joined v w)).role in
      record {
        role = role ∙ (is.role ∙ ap (λ (r : Role). Pass (worker_of r)) (sym role));
        loaded = (stays (joined v w)).within (grows v.floor v.reach (max v.reach w.reach) v.loaded (omega arith) is.loaded).0;
      }

  -- and the master, with the rows of both
  pub renewed_master : RenewedStays M T → (v w : View M T) → IsMaster v → w.hand ≡ [] → IsMaster (renewed (joined v w))
  renewed_master stays v w is empty = record { role = (stays (joined v w)).role ∙ is.role; hand = (stays (joined v w)).hand ∙ (λ i. is.hand i ++ empty i) }

  -- ---- a post

  -- what the master's load tells of the row
  pub postable : (m p j : View M T) (found : ℕ) (o : Opening M) → IsMaster m → HasRun p → j ≡ joined m (note_of p p.hand) → IsRenewal o j (renewed j)
      → ((r : Row) → j.role ≡ Master → j.hand ≡ r ∷ [] → r.draw < o.runs → MayPost o found j r)
      → IsPostable (joined m (note_of p p.hand)) p.hand found
  postable m p j found o is has e renewal row r hand =
      let J = joined m (note_of p p.hand) in
      let P : View M T → Type 0 = λ (x : View M T). IsRenewal o x (renewed x) × ((r : Row) → x.role ≡ Master → x.hand ≡ r ∷ [] → r.draw < o.runs → MayPost o found x r) in
      let here : P J = subst P e (renewal, row) in
      let opening : has.2.0 ≡ o = same_Some has.2.0 o (sym has.2.1 ∙ here.0.beside) in
      let same : has.0.draw ≡ r.draw = ap (λ (h : List Row). draw_of h) (sym has.1 ∙ hand) in
      let run : has.0.draw < o.runs = subst (λ (x : Opening M). has.0.draw < x.runs) opening has.2.2 in
      (o, here.0.beside, here.1 r is.role ((λ i. is.hand i ++ p.hand) ∙ hand) (omega arith))
    where
      draw_of : List Row → ℕ
      draw_of [] = 0
      draw_of (x ∷ xs) = x.draw

  -- the master then holds the row
  pub holding : RenewedStays M T → (m p : View M T) (o : Opening M) → IsMaster m → HasRun p → IsRenewal o (joined m (note_of p p.hand)) (renewed (joined m (note_of p p.hand)))
      → IsHolding p.hand (renewed (joined m (note_of p p.hand)))
  holding stays m p o is has renewal =
      let J = joined m (note_of p p.hand) in
      let hand : (renewed J).hand ≡ p.hand = (stays J).hand ∙ (λ i. is.hand i ++ p.hand) in
      let opening : has.2.0 ≡ o = same_Some has.2.0 o (sym has.2.1 ∙ renewal.beside) in
      record {
        role = (stays J).role ∙ is.role;
        hand_is = hand;
        run = (has.0, hand ∙ has.1, (o, ap (λ k. k.opening) (stays J).known ∙ renewal.opening, subst (λ (x : Opening M). has.0.draw < x.runs) opening has.2.2));
      }
