-- What a post needs and leaves, once the pass's row was sent to the master.
use Rattle.std.proofs.Common.{◌≡◌, ◌<◌, ℕ, List, [], ◌∷◌, ◌++◌, length, Option, Some, None, refl, sym, ap, ◌∙◌, subst, append_assoc, arith}
use Rattle.std.specs.Prelude.{◌-◌, reverse, slice_get}
use Rattle.std.specs.List.{AllByRecursion}
use Rattle.std.proofs.lemmas.Option.{same_Some}
use mathlib.Core.List.{IsPrefix, reverse_aux}
use Rattle.cv_base.specs.PlanOf.{PlanOf}
use Rattle.cv_desk.proofs.Following.{HistoryLaws, IsWithinAt, may_follow}
use Rattle.cv_desk.proofs.Telling.{prefix_get}
use Rattle.cv_desk.specs.Openings.{SettingOf, opening_of}
use Rattle.cv_desk.specs.Passes.{HasGrown, HasPosted, HasTicket, IsOf, IsOutcome, Sight, TicketOf}
use Rattle.cv_desk.specs.Standing.{GoesOn, IsDesk, IsNoted}
use Rattle.cv_desk.specs.declared.making.Making.{Making}
use Rattle.cv_exec.specs.LiveRun.{HaveTables, Span}
use Rattle.cv_exec.specs.RecordOf.{IsHonestUnder, RecordOf}
use Rattle.cv_histories.specs.Honest.{IsHonest}
use Rattle.cv_histories.specs.Legal.{MayFollow, NeverFalls}
use Rattle.cv_histories.specs.Rows.{written}
use Rattle.cv_histories.specs.Versions.{ledger, newest}
use Rattle.cv_histories.specs.World.{numbers_of}
use Rattle.cv_laws.specs.Each.{weaker}
use Rattle.cv_manager.specs.ManagerOf.{ManagerOf, ledger_in, with_entry}
use Rattle.cv_office.specs.Told.{IsPass, IsPostable, IsToldBoth}
use Rattle.cv_rule.specs.Counts.{entry_with}
use Rattle.cv_rule.specs.Laws.{BookedIsFound, IsWithinFloors, LoadedMayBePosted, LongerBegins, MayPost, PostSettles}
use Rattle.cv_rule.specs.Steps.{entries_of, first_draw, joined, merging, note_of, renewed, sending, settled_by, way_with, worker_of}
use Rattle.cv_rule.specs.declared.view.Known.{Known}
use Rattle.cv_rule.specs.declared.view.Opening.{Opening}
use Rattle.cv_rule.specs.declared.view.Posted.{Posted}
use Rattle.cv_rule.specs.declared.view.Row.{Row}
use Rattle.cv_runs.specs.PatchedRun.{Table}

-- ---- settings

-- an opening tells what it was made of
setting_of : Opening Making → SettingOf
setting_of o = record { plan = o.making.plan; past = o.making.past; round = o.making.round }

pub one_setting : (s t : SettingOf) → opening_of s ≡ opening_of t → s ≡ t
unfolding setting_of
one_setting s t e = ap setting_of e

-- one list with its last element first
turned_push : {A : Type 0} (xs : List A) (x : A) (done : List A) → reverse_aux (xs ++ x ∷ []) done ≡ x ∷ reverse_aux xs done
turned_push [] x done = refl
turned_push (y ∷ xs) x done = turned_push xs x (y ∷ done)

pub reverse_push : {A : Type 0} (xs : List A) (x : A) → reverse (xs ++ x ∷ []) ≡ x ∷ reverse xs
reverse_push xs x = turned_push xs x []

-- what begins a list begins one that goes on
begins_more : {A : Type 0} (xs ys more : List A) → IsPrefix xs ys → IsPrefix xs (ys ++ more)
begins_more xs ys more p = (p.0 ++ more, sym (append_assoc xs p.0 more) ∙ ap (λ (l : List _). l ++ more) p.1)

-- ---- the row was sent

-- a desk and a pass with the ticket of a run and its record, whose row the master has and may post
pub record IsSent (book : ManagerOf) (m p : Sight) (t : TicketOf) (r : RecordOf) (found : ℕ) : Type 0 where
  pub desk : IsDesk book m
  pub pass : IsPass p
  pub ticket : HasTicket p t
  pub outcome : IsOutcome p t r
  pub may : IsPostable (joined m (note_of p p.hand)) p.hand found
  pub versions : IsPrefix p.known.versions m.known.versions
  pub posted : IsPrefix p.known.posted m.known.posted

-- so it is once the master heard the pass
pub sent_is : (book : ManagerOf) (m p w : Sight) (t : TicketOf) (r : RecordOf) (found : ℕ) → IsDesk book m → IsPass p → HasTicket p t → IsOutcome p t r → IsPostable (joined m (note_of p p.hand)) p.hand found
    → IsToldBoth (joined m (note_of p p.hand)) → w ≡ renewed (joined m (note_of p p.hand)) → w.known ≡ m.known → IsSent book m p t r found
sent_is book m p w t r found desk pass ticket outcome may told heard known =
    let same : (renewed (joined m (note_of p p.hand))).known ≡ m.known = ap (λ (v : Sight). v.known) (sym heard) ∙ known in
    record {
      desk = desk;
      pass = pass;
      ticket = ticket;
      outcome = outcome;
      may = may;
      versions = subst (λ (k : Known Making Table). IsPrefix p.known.versions k.versions) same told.1.versions_beside;
      posted = subst (λ (k : Known Making Table). IsPrefix p.known.posted k.posted) same told.1.posted_beside;
    }

module _ (book : ManagerOf) (m p : Sight) (t : TicketOf) (r : RecordOf) (found : ℕ) (is : IsSent book m p t r found) where
  abbrev s : SettingOf
  s = is.desk.setting

  abbrev row : Row
  row = record { worker = worker_of p.role; draw = t.draw; floor = p.floor }

  abbrev J : Sight
  J = joined m (note_of p p.hand)

  -- the opening is the desk's
  record IsRow : Type 0 where
    may_post : MayPost (opening_of s) found J row
    of : IsOf s p

  row_is : IsRow
  row_is =
      let got = is.may row is.ticket.hand in
      let same : got.0 ≡ opening_of s = same_Some got.0 (opening_of s) (sym got.2.opening ∙ is.desk.opening) in
      record { may_post = subst (λ (o : Opening Making). MayPost o found J row) same got.2; of = got.1 ∙ ap Some same }

  same_setting : (u : SettingOf) → IsOf u p → u ≡ s
  same_setting u of = one_setting u s (same_Some (opening_of u) (opening_of s) (sym of ∙ row_is.of))

  run : slice_get (numbers_of s.plan s.round) t.draw ≡ Some r.entry.run
  run =
      subst (λ (u : SettingOf). slice_get (numbers_of u.plan u.round) t.draw ≡ Some t.run) (same_setting is.ticket.setting is.ticket.of) is.ticket.run
      ∙ ap Some (sym is.outcome.run)

  plan : r.plan ≡ s.plan
  plan = is.outcome.plan ∙ ap (λ (u : SettingOf). u.plan) (same_setting is.outcome.setting is.outcome.of)

  pub plan_is : r.plan ≡ book.plan
  plan_is = plan ∙ sym is.desk.plan

  versions_are : m.known.versions ≡ (ledger s.plan book.past).versions
  versions_are = is.desk.versions ∙ ap (λ (q : PlanOf). (ledger q book.past).versions) is.desk.plan

  have : HaveTables (ledger s.plan book.past).versions r.adopted
  have = weaker (λ (x : Span). slice_get p.known.versions x.version ≡ Some x.table) (λ (x : Span). slice_get (ledger s.plan book.past).versions x.version ≡ Some x.table)
      (λ x at. subst (λ (l : List Table). slice_get l x.version ≡ Some x.table) versions_are (prefix_get p.known.versions m.known.versions x.version x.table is.versions at))
      r.adopted is.outcome.tables

  within : LoadedMayBePosted Making Table → AllByRecursion (IsWithinAt s book.past m.known.posted row) (written r.entry.adopted)
  within law =
      subst (λ (l : List ℕ). AllByRecursion (IsWithinAt s book.past m.known.posted row) l) (sym is.outcome.loaded)
      (weaker (IsWithinFloors (opening_of s) J row) (IsWithinAt s book.past m.known.posted row)
      (λ v w. (w.0, subst (λ (l : List Table). v < length l) versions_are w.1)) p.loaded
      (law (opening_of s) found J p row row_is.may_post is.pass.loaded refl (omega arith)))

  -- the record's entry may follow
  pub follows : HistoryLaws → LoadedMayBePosted Making Table → IsHonestUnder r.plan r.adopted r.entry → NeverFalls r.entry.adopted → MayFollow book.plan book.past r.entry
  follows laws law honest falls =
      let may = row_is.may_post in
      subst (λ (q : PlanOf). MayFollow q book.past r.entry) (sym is.desk.plan)
      (may_follow laws s is.desk.is_setting book.past m.known.posted is.desk.entries r.entry row run is.outcome.worker
      may.worker may.fresh may.rises
      (subst (λ (q : PlanOf). IsHonest q (ledger s.plan book.past).versions r.entry) plan (honest (ledger s.plan book.past).versions have))
      falls (within law))

  -- ---- once it is posted

  -- its triple
  abbrev triple : List Table → Posted
  triple versions = record { worker = worker_of p.role; draw = t.draw; version = length versions - 1 }

  module _ (v w : Sight) (known : v.known ≡ m.known) (hand : v.hand ≡ p.hand) (absent : v.absent ≡ m.absent) (noted : IsNoted (ledger_in (with_entry book r.entry)).versions v w) where
    posted_is : w.known.posted ≡ m.known.posted ++ triple (ledger_in (with_entry book r.entry)).versions ∷ []
    posted_is =
        noted.posted
        ∙ (λ i. (known i).posted ++ entries_of (length (ledger_in (with_entry book r.entry)).versions - 1) ((hand ∙ is.ticket.hand) i))

    -- the desk has one entry more
    pub stands : IsDesk (with_entry book r.entry) w
    stands = record {
      setting = s;
      is_setting = is.desk.is_setting;
      opening = noted.opening ∙ (ap (λ (k : Known Making Table). k.opening) known ∙ is.desk.opening);
      plan = is.desk.plan;
      empty = record { role = noted.role; hand = noted.hand };
      present = noted.absent ∙ (absent ∙ is.desk.present);
      versions = noted.versions_are;
      entries = subst (λ (l : List Posted). GoesOn s (r.entry ∷ book.past) l)
          (sym (ap (λ (l : List Posted). reverse l) posted_is ∙ reverse_push m.known.posted (triple (ledger_in (with_entry book r.entry)).versions))) (
            record {
              worker = is.outcome.worker;
              run = run;
              version = ap (λ (q : PlanOf). newest q (r.entry ∷ book.past)) is.desk.plan;
            },
            is.desk.entries,
          );
    }

    -- and the pass is where its next run begins
    pub settles : PostSettles Making Table → BookedIsFound → (z : Sight) → z ≡ renewed (joined (sending p) (note_of w [])) → IsToldBoth (joined (sending p) (note_of w [])) → HasPosted t.draw p z
    settles settle found_law z z_is told =
        let one = triple (ledger_in (with_entry book r.entry)).versions in
        let begins : IsPrefix p.known.posted w.known.posted = subst (λ (l : List Posted). IsPrefix p.known.posted l) (sym posted_is) (begins_more p.known.posted m.known.posted (one ∷ []) is.posted) in
        let there : entry_with t.draw w.known.posted ≡ Some one = ap (λ (l : List Posted). entry_with t.draw l) posted_is ∙ found_law m.known.posted one row_is.may_post.fresh in
        let settled = settle (sending p) w t.draw one begins (ap (λ (h : List Row). first_draw h) is.ticket.hand) there in
        subst (λ (x : Sight). HasPosted t.draw p x) (sym z_is)
        (record {
          entry = one;
          found = settled.found;
          by = refl;
          floor = settled.floor;
          role = settled.role;
          opening = told.1.kept;
          versions = told.1.versions;
          posted = told.1.posted;
          hand = settled.hand;
          loaded = settled.loaded;
          on_its_way = settled.on_its_way;
          posts = settled.posts;
        })

    -- which is the newest version after its entry
    pub floor_is : PostSettles Making Table → BookedIsFound → (z : Sight) → z ≡ renewed (joined (sending p) (note_of w [])) → z.floor ≡ newest book.plan (r.entry ∷ book.past)
    floor_is settle found_law z z_is =
        let one = triple (ledger_in (with_entry book r.entry)).versions in
        let begins : IsPrefix p.known.posted w.known.posted = subst (λ (l : List Posted). IsPrefix p.known.posted l) (sym posted_is) (begins_more p.known.posted m.known.posted (one ∷ []) is.posted) in
        let there : entry_with t.draw w.known.posted ≡ Some one = ap (λ (l : List Posted). entry_with t.draw l) posted_is ∙ found_law m.known.posted one row_is.may_post.fresh in
        let settled = settle (sending p) w t.draw one begins (ap (λ (h : List Row). first_draw h) is.ticket.hand) there in
        ap (λ (x : Sight). x.floor) z_is ∙ settled.floor

  -- ---- where it was refused

  -- the pass has its row back
  pub has_back : LongerBegins Table → LongerBegins Posted → (v z : Sight) → v.hand ≡ p.hand → p.on_its_way ≡ None → z ≡ renewed (joined (sending p) (note_of v v.hand)) → HasGrown p z
  has_back tables_begin posts_begin v z hand none z_is =
      let j = joined (sending p) (note_of v v.hand) in
      let way : j.on_its_way ≡ None = ap (λ (h : List Row). way_with h (sending p).on_its_way) (hand ∙ is.ticket.hand) in
      let same : renewed j ≡ merging j = ap (λ (x : Option ℕ). settled_by (merging j) x) way in
      subst (λ (x : Sight). HasGrown p x) (sym (z_is ∙ same))
      (record {
        role = refl;
        opening = refl;
        versions = tables_begin p.known.versions v.known.versions;
        posted = posts_begin p.known.posted v.known.posted;
        reach = omega arith;
        hand = hand;
        loaded = refl;
        floor = refl;
        on_its_way = way ∙ sym none;
        posts = refl;
      })
