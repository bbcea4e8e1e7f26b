-- A tally counts the checks of patches that have no twins, one after another.
use Rattle.std.proofs.Common.{◌≡◌, ℕ, ◌+◌, Bool, true, false, not, cond, ◌&&◌, ◌||◌, eqb, ltb, List, [], ◌∷◌, ◌++◌, ◌∙◌, length, refl, sym, ap}
use Rattle.std.specs.List.{AllByRecursion, filter, list_all, list_any}
use Rattle.std.proofs.lemmas.Bool.{and_parts, and_from, or_parts}
use Rattle.std.proofs.lemmas.List.{append-nil, append_assoc, length_push}
use Rattle.std.proofs.lemmas.List.Elements.{filter-append}
use Rattle.std.proofs.lemmas.List.Folds.{list_all-append}
use Rattle.std.proofs.lemmas.List.Sums.{fold-append}
use Rattle.cv_base.specs.declared.entries.TallyRow.{TallyRow}
use Rattle.cv_base.specs.declared.invariants.Invariant.{Invariant}
use Rattle.cv_base.specs.declared.patches.Patch.{Patch}
use Rattle.cv_base.specs.declared.patches.Patch.TheVariants.{Check, Enforce}
use Rattle.cv_base.specs.Patches.{is_twin}
use Rattle.cv_histories.specs.Rows.{CheckNote, checks_in, last_held, tally_row}
use Rattle.cv_patch.specs.Bumped.{checked_once_more, is_of, with_check}
use Rattle.cv_patch.specs.Counts.{CountsChecks, TallyGoesOn, checks_of, has_its_tally, has_tally, tally_ready, tally_up_to}
use Rattle.cv_patch.specs.Noted.{with_checks}
use Rattle.cv_patch.proofs.Bumps.{all_same, any-bumped, both_flipped, room-bumped, room_from_up_to, up_to-bumped, up_to_more}
use Rattle.cv_patch.proofs.Notes.{enforce_checks}
use Rattle.cv_runs.specs.Apply.{one_patch, core_holds}
use Rattle.cv_shadow.specs.declared.frames.Core.{Core}

abbrev row_case : TallyRow → ℕ
row_case r = r.case

abbrev row_index : TallyRow → ℕ
row_index r = r.index

abbrev row_checks : TallyRow → ℕ
row_checks r = r.checks

-- the row of what a patch checks is below n + 1
abbrev pub has_its_room : ℕ → List TallyRow → Patch → Bool
has_its_room n rows (Check case index k) = list_all (λ (r : TallyRow). not (is_of case index r) || ltb r.checks (n + 1)) rows
has_its_room n rows (Enforce case index k action) = true

-- what was counted since `old`, with the patches that are still to come
pub record TallyComes (patches rest : List Patch) (old new : List TallyRow) (checks : List CheckNote) : Type 0 where
  pub counts : (before : List CheckNote) → CountsChecks old before → CountsChecks new (before ++ checks)
  pub ready : tally_ready patches new ≡ true
  pub rest_ready : tally_ready rest new ≡ true
  pub rises : (n : ℕ) → tally_up_to n old ≡ true → tally_up_to (n + 1) new ≡ true
  pub room : (n : ℕ) → tally_up_to n old ≡ true → list_all (has_its_room n new) rest ≡ true

-- a row says what these checks of its candidate were
abbrev pub CountsIn : List CheckNote → TallyRow → Type 0
CountsIn checks r = r ≡ tally_row r.case r.index (checks_of r.case r.index checks)

one_more_failed : (held : Bool) (failed : List CheckNote) (note : CheckNote) → length (failed ++ cond (not held) (note ∷ []) []) ≡ cond held (length failed) (length failed + 1)
one_more_failed true failed note = ap length (append-nil failed)
one_more_failed false failed note = length_push failed note

module _ (case index : ℕ) (held : Bool) where
  has_tally-with_check : (k j : ℕ) (rows : List TallyRow) → has_tally (with_check case index held rows) k j ≡ has_tally rows k j
  has_tally-with_check k j rows =
      any-bumped row_case row_index row_checks (checked_once_more held) (λ r. refl) (λ r. refl) (λ r. refl) case index k j rows

  its_tally-with_check : (rows : List TallyRow) (p : Patch) → has_its_tally (with_check case index held rows) p ≡ has_its_tally rows p
  its_tally-with_check rows (Check k j invariant) = has_tally-with_check k j rows
  its_tally-with_check rows (Enforce k j invariant action) = refl

  ready-with_check : (patches : List Patch) (rows : List TallyRow) → tally_ready patches (with_check case index held rows) ≡ tally_ready patches rows
  ready-with_check patches rows = all_same _ _ (its_tally-with_check rows) patches

  its_room-with_check : (n : ℕ) (rows : List TallyRow) (k : Invariant) (p : Patch) → is_twin (Check case index k) p ≡ false → has_its_room n rows p ≡ true → has_its_room n (with_check case index held rows) p ≡ true
  its_room-with_check n rows k (Check k' j' invariant) apart room =
      room-bumped row_case row_index row_checks (checked_once_more held) (λ r. refl) (λ r. refl) (λ r. refl) n case index k' j' rows apart room
  its_room-with_check n rows k (Enforce k' j' invariant action) apart room = refl

  room-with_check : (n : ℕ) (rows : List TallyRow) (k : Invariant) (rest : List Patch) → list_any (is_twin (Check case index k)) rest ≡ false → list_all (has_its_room n rows) rest ≡ true → list_all (has_its_room n (with_check case index held rows)) rest ≡ true
  room-with_check n rows k [] apart room = refl
  room-with_check n rows k (p ∷ rest) apart room =
      let others = or_parts (is_twin (Check case index k) p) (list_any (is_twin (Check case index k)) rest) apart in
      let rooms = and_parts (has_its_room n rows p) (list_all (has_its_room n rows) rest) room in
      and_from _ _ (its_room-with_check n rows k p others.0 rooms.0) (room-with_check n rows k rest others.1 rooms.1)

  abbrev note : CheckNote
  note = record { case = case; index = index; held = held }

  violations_more : (checks : List CheckNote) → length (filter (λ (c : CheckNote). not c.held) (checks ++ note ∷ [])) ≡ cond held (length (filter (λ (c : CheckNote). not c.held) checks)) (length (filter (λ (c : CheckNote). not c.held) checks) + 1)
  violations_more checks = ap length (filter-append (λ (c : CheckNote). not c.held) checks (note ∷ [])) ∙ one_more_failed held (filter (λ (c : CheckNote). not c.held) checks) note

  -- the row of some checks and one more
  more_of_row : (k j : ℕ) (checks : List CheckNote) → tally_row k j (checks ++ note ∷ []) ≡ checked_once_more held (tally_row k j checks)
  more_of_row k j checks =
      let n = length_push checks note in
      let v = violations_more checks in
      let l : last_held (checks ++ note ∷ []) ≡ held = fold-append (λ before (c : CheckNote). c.held) false checks (note ∷ []) in
      cc

  picked : (k j : ℕ) (before : List CheckNote) → (eqb k case && eqb j index) ≡ true → checks_of k j (before ++ note ∷ []) ≡ checks_of k j before ++ note ∷ []
  picked k j before is =
      let test : (eqb case k && eqb index j) ≡ true = both_flipped case index k j ∙ is in
      filter-append (λ (c : CheckNote). eqb c.case k && eqb c.index j) before (note ∷ [])
      ∙ ap (λ b. checks_of k j before ++ cond b (note ∷ []) []) test

  passed : (k j : ℕ) (before : List CheckNote) → (eqb k case && eqb j index) ≡ false → checks_of k j (before ++ note ∷ []) ≡ checks_of k j before
  passed k j before is =
      let test : (eqb case k && eqb index j) ≡ false = both_flipped case index k j ∙ is in
      filter-append (λ (c : CheckNote). eqb c.case k && eqb c.index j) before (note ∷ [])
      ∙ ap (λ b. checks_of k j before ++ cond b (note ∷ []) []) test
      ∙ append-nil (checks_of k j before)

  row_counts : (before : List CheckNote) (b : Bool) (r : TallyRow) → is_of case index r ≡ b → CountsIn before r → CountsIn (before ++ note ∷ []) (cond b (checked_once_more held r) r)
  row_counts before true r is row =
      ap (checked_once_more held) row
      ∙ sym (more_of_row r.case r.index (checks_of r.case r.index before))
      ∙ ap (tally_row r.case r.index) (sym (picked r.case r.index before is))
  row_counts before false r is row = row ∙ ap (tally_row r.case r.index) (sym (passed r.case r.index before is))

  rows_count : (before : List CheckNote) (rows : List TallyRow) → AllByRecursion (CountsIn before) rows → AllByRecursion (CountsIn (before ++ note ∷ [])) (with_check case index held rows)
  rows_count before [] all = tt
  rows_count before (r ∷ rows) all = (row_counts before (is_of case index r) r refl all.0, rows_count before rows all.1)

  CountsChecks-with_check : (rows : List TallyRow) (before : List CheckNote) → has_tally rows case index ≡ true → CountsChecks rows before → CountsChecks (with_check case index held rows) (before ++ note ∷ [])
  CountsChecks-with_check rows before has h = record {
    each = rows_count before rows h.each;
    all =
        let after : List TallyRow = with_check case index held rows in
        let kept : list_all (λ (c : CheckNote). has_tally after c.case c.index) before ≡ true =
        all_same _ _ (λ (c : CheckNote). has_tally-with_check c.case c.index rows) before ∙ h.all in
        let one : list_all (λ (c : CheckNote). has_tally after c.case c.index) (note ∷ []) ≡ true =
        and_from _ _ (has_tally-with_check case index rows ∙ has) refl in
        list_all-append (λ (c : CheckNote). has_tally after c.case c.index) before (note ∷ [])
        ∙ and_from _ _ kept one;
  }

  TallyComes-with_check : (patches rest : List Patch) (old rows : List TallyRow) (checks : List CheckNote) (k : Invariant) → list_any (is_twin (Check case index k)) rest ≡ false → TallyComes patches (Check case index k ∷ rest) old rows checks → TallyComes patches rest old (with_check case index held rows) (checks ++ note ∷ [])
  TallyComes-with_check patches rest old rows checks k apart h =
      let first = and_parts (has_tally rows case index) (tally_ready rest rows) h.rest_ready in
      let room = λ (n : ℕ) (low : tally_up_to n old ≡ true). and_parts (has_its_room n rows (Check case index k)) (list_all (has_its_room n rows) rest) (h.room n low) in
      record {
        counts = λ before counted.
            rw (← append_assoc before checks (note ∷ []))
            (CountsChecks-with_check rows (before ++ checks) first.0 (h.counts before counted));
        ready = ready-with_check patches rows ∙ h.ready;
        rest_ready = ready-with_check rest rows ∙ first.1;
        rises = λ n low. up_to-bumped row_case row_index row_checks (checked_once_more held) (λ r. refl) (λ r. refl) (λ r. refl) n case index rows (room n low).0 (h.rises n low);
        room = λ n low. room-with_check n rows k rest apart (room n low).1;
      }

pub TallyComes-begin : (patches : List Patch) (rows : List TallyRow) → tally_ready patches rows ≡ true → TallyComes patches patches rows rows []
TallyComes-begin patches rows ready = record {
  counts = λ before counted. rw append-nil counted;
  ready = ready;
  rest_ready = ready;
  rises = λ n low. up_to_more row_case row_index row_checks n rows low;
  room = λ n low. rooms n rows low patches;
} where
  rooms : (n : ℕ) (rows : List TallyRow) → tally_up_to n rows ≡ true → (rest : List Patch) → list_all (has_its_room n rows) rest ≡ true
  rooms n rows low [] = refl
  rooms n rows low (Check case index k ∷ rest) =
      and_from _ _ (room_from_up_to row_case row_index row_checks n case index rows low) (rooms n rows low rest)
  rooms n rows low (Enforce case index k action ∷ rest) = rooms n rows low rest

-- a patch that notes no check
pub TallyComes-past : (patches rest : List Patch) (old rows : List TallyRow) (checks : List CheckNote) (q : Patch) → TallyComes patches (q ∷ rest) old rows checks → TallyComes patches rest old rows checks
TallyComes-past patches rest old rows checks q h = record {
  counts = h.counts;
  ready = h.ready;
  rest_ready = (and_parts (has_its_tally rows q) (tally_ready rest rows) h.rest_ready).1;
  rises = h.rises;
  room = λ n low. (and_parts (has_its_room n rows q) (list_all (has_its_room n rows) rest) (h.room n low)).1;
}

-- what a patch notes
pub TallyComes-more : (point : ℕ → Bool) (patches rest : List Patch) (old rows : List TallyRow) (checks : List CheckNote) (q : Patch) (core : Core) → list_any (is_twin q) rest ≡ false → TallyComes patches (q ∷ rest) old rows checks → TallyComes patches rest old (with_checks (checks_in (one_patch point q core).notes) rows) (checks ++ checks_in (one_patch point q core).notes)
TallyComes-more point patches rest old rows checks (Check case index k) core apart h =
    TallyComes-with_check case index (core_holds k core) patches rest old rows checks k apart h
TallyComes-more point patches rest old rows checks (Enforce case index k action) core apart h =
    rw (enforce_checks point case index k action core, append-nil)
    (TallyComes-past patches rest old rows checks (Enforce case index k action) h)

pub TallyGoesOn-from_comes : (patches rest : List Patch) (old new : List TallyRow) (checks : List CheckNote) → TallyComes patches rest old new checks → TallyGoesOn patches old new checks
TallyGoesOn-from_comes patches rest old new checks h = record { counts = h.counts; ready = h.ready; rises = h.rises }
