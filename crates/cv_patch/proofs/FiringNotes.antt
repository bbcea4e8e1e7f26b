-- Rows count the firings of patches that have no twins, one after another.
use Rattle.std.proofs.Common.{◌≡◌, ℕ, ◌+◌, Bool, true, false, not, cond, ◌&&◌, ◌||◌, eqb, ltb, List, [], ◌∷◌, ◌++◌, ◌∙◌, length, refl, sym, ap}
use Rattle.std.specs.List.{AllByRecursion, list_all, list_any}
use Rattle.std.proofs.lemmas.Bool.{and_parts, and_from, or_parts}
use Rattle.std.proofs.lemmas.List.{append-nil, append_assoc, length_push}
use Rattle.std.proofs.lemmas.List.Elements.{filter-append}
use Rattle.std.proofs.lemmas.List.Folds.{list_all-append}
use Rattle.cv_base.specs.declared.entries.FiredRow.{FiredRow}
use Rattle.cv_base.specs.declared.invariants.Invariant.{Invariant}
use Rattle.cv_base.specs.declared.patches.Action.{Action}
use Rattle.cv_base.specs.declared.patches.Patch.{Patch}
use Rattle.cv_base.specs.declared.patches.Patch.TheVariants.{Check, Enforce}
use Rattle.cv_base.specs.Patches.{is_twin}
use Rattle.cv_histories.specs.Rows.{FiredNote, firings_in}
use Rattle.cv_patch.specs.Bumped.{is_fired_of, with_firing}
use Rattle.cv_patch.specs.Counts.{CountsFirings, FiredGoesOn, firings_of, has_its_fired, has_fired, fired_ready, fired_up_to}
use Rattle.cv_patch.specs.Noted.{with_firings}
use Rattle.cv_patch.proofs.Bumps.{all_same, any-bumped, both_flipped, room-bumped, room_from_up_to, up_to-bumped, up_to_more}
use Rattle.cv_patch.proofs.Notes.{enforce_firings, fired_once}
use Rattle.cv_runs.specs.Apply.{one_patch, core_holds}
use Rattle.cv_shadow.specs.declared.frames.Core.{Core}

abbrev row_case : FiredRow → ℕ
row_case r = r.case

abbrev row_index : FiredRow → ℕ
row_index r = r.index

abbrev row_count : FiredRow → ℕ
row_count r = r.count

abbrev once_more : FiredRow → FiredRow
once_more r = record r { count = r.count + 1 }

-- the row of what a patch enforces is below n + 1
abbrev pub has_its_room : ℕ → List FiredRow → Patch → Bool
has_its_room n rows (Check case index k) = true
has_its_room n rows (Enforce case index k action) = list_all (λ (r : FiredRow). not (is_fired_of case index r) || ltb r.count (n + 1)) rows

-- what was counted since `old`, with the patches that are still to come
pub record FiredComes (patches rest : List Patch) (old new : List FiredRow) (firings : List FiredNote) : Type 0 where
  pub counts : (before : List FiredNote) → CountsFirings old before → CountsFirings new (before ++ firings)
  pub ready : fired_ready patches new ≡ true
  pub rest_ready : fired_ready rest new ≡ true
  pub rises : (n : ℕ) → fired_up_to n old ≡ true → fired_up_to (n + 1) new ≡ true
  pub room : (n : ℕ) → fired_up_to n old ≡ true → list_all (has_its_room n new) rest ≡ true

-- a row says how many these firings of its repair were
abbrev pub CountsIn : List FiredNote → FiredRow → Type 0
CountsIn firings r = r.count ≡ length (firings_of r.case r.index firings)

module _ (case index : ℕ) where
  has_fired-with_firing : (k j : ℕ) (rows : List FiredRow) → has_fired (with_firing case index rows) k j ≡ has_fired rows k j
  has_fired-with_firing k j rows =
      any-bumped row_case row_index row_count once_more (λ r. refl) (λ r. refl) (λ r. refl) case index k j rows

  its_fired-with_firing : (rows : List FiredRow) (p : Patch) → has_its_fired (with_firing case index rows) p ≡ has_its_fired rows p
  its_fired-with_firing rows (Check k j invariant) = refl
  its_fired-with_firing rows (Enforce k j invariant action) = has_fired-with_firing k j rows

  ready-with_firing : (patches : List Patch) (rows : List FiredRow) → fired_ready patches (with_firing case index rows) ≡ fired_ready patches rows
  ready-with_firing patches rows = all_same _ _ (its_fired-with_firing rows) patches

  its_room-with_firing : (n : ℕ) (rows : List FiredRow) (k : Invariant) (action : Action) (p : Patch) → is_twin (Enforce case index k action) p ≡ false → has_its_room n rows p ≡ true → has_its_room n (with_firing case index rows) p ≡ true
  its_room-with_firing n rows k action (Check k' j' invariant) apart room = refl
  its_room-with_firing n rows k action (Enforce k' j' invariant other) apart room =
      room-bumped row_case row_index row_count once_more (λ r. refl) (λ r. refl) (λ r. refl) n case index k' j' rows apart room

  room-with_firing : (n : ℕ) (rows : List FiredRow) (k : Invariant) (action : Action) (rest : List Patch) → list_any (is_twin (Enforce case index k action)) rest ≡ false → list_all (has_its_room n rows) rest ≡ true → list_all (has_its_room n (with_firing case index rows)) rest ≡ true
  room-with_firing n rows k action [] apart room = refl
  room-with_firing n rows k action (p ∷ rest) apart room =
      let others = or_parts (is_twin (Enforce case index k action) p) (list_any (is_twin (Enforce case index k action)) rest) apart in
      let rooms = and_parts (has_its_room n rows p) (list_all (has_its_room n rows) rest) room in
      and_from _ _ (its_room-with_firing n rows k action p others.0 rooms.0) (room-with_firing n rows k action rest others.1 rooms.1)

  abbrev note : FiredNote
  note = record { case = case; index = index }

  picked : (k j : ℕ) (before : List FiredNote) → (eqb k case && eqb j index) ≡ true → firings_of k j (before ++ note ∷ []) ≡ firings_of k j before ++ note ∷ []
  picked k j before is =
      let test : (eqb case k && eqb index j) ≡ true = both_flipped case index k j ∙ is in
      filter-append (λ (f : FiredNote). eqb f.case k && eqb f.index j) before (note ∷ [])
      ∙ ap (λ b. firings_of k j before ++ cond b (note ∷ []) []) test

  passed : (k j : ℕ) (before : List FiredNote) → (eqb k case && eqb j index) ≡ false → firings_of k j (before ++ note ∷ []) ≡ firings_of k j before
  passed k j before is =
      let test : (eqb case k && eqb index j) ≡ false = both_flipped case index k j ∙ is in
      filter-append (λ (f : FiredNote). eqb f.case k && eqb f.index j) before (note ∷ [])
      ∙ ap (λ b. firings_of k j before ++ cond b (note ∷ []) []) test
      ∙ append-nil (firings_of k j before)

  row_counts : (before : List FiredNote) (b : Bool) (r : FiredRow) → is_fired_of case index r ≡ b → CountsIn before r → CountsIn (before ++ note ∷ []) (cond b (once_more r) r)
  row_counts before true r is row =
      ap (λ n. n + 1) row
      ∙ sym (length_push (firings_of r.case r.index before) note)
      ∙ ap length (sym (picked r.case r.index before is))
  row_counts before false r is row = row ∙ ap length (sym (passed r.case r.index before is))

  rows_count : (before : List FiredNote) (rows : List FiredRow) → AllByRecursion (CountsIn before) rows → AllByRecursion (CountsIn (before ++ note ∷ [])) (with_firing case index rows)
  rows_count before [] all = tt
  rows_count before (r ∷ rows) all = (row_counts before (is_fired_of case index r) r refl all.0, rows_count before rows all.1)

  CountsFirings-with_firing : (rows : List FiredRow) (before : List FiredNote) → has_fired rows case index ≡ true → CountsFirings rows before → CountsFirings (with_firing case index rows) (before ++ note ∷ [])
  CountsFirings-with_firing rows before has h = record {
    each = rows_count before rows h.each;
    all =
        let after : List FiredRow = with_firing case index rows in
        let kept : list_all (λ (f : FiredNote). has_fired after f.case f.index) before ≡ true =
        all_same _ _ (λ (f : FiredNote). has_fired-with_firing f.case f.index rows) before ∙ h.all in
        let one : list_all (λ (f : FiredNote). has_fired after f.case f.index) (note ∷ []) ≡ true =
        and_from _ _ (has_fired-with_firing case index rows ∙ has) refl in
        list_all-append (λ (f : FiredNote). has_fired after f.case f.index) before (note ∷ [])
        ∙ and_from _ _ kept one;
  }

  FiredComes-with_firing : (patches rest : List Patch) (old rows : List FiredRow) (firings : List FiredNote) (k : Invariant) (action : Action) → list_any (is_twin (Enforce case index k action)) rest ≡ false → FiredComes patches (Enforce case index k action ∷ rest) old rows firings → FiredComes patches rest old (with_firing case index rows) (firings ++ note ∷ [])
  FiredComes-with_firing patches rest old rows firings k action apart h =
      let first = and_parts (has_fired rows case index) (fired_ready rest rows) h.rest_ready in
      let room = λ (n : ℕ) (low : fired_up_to n old ≡ true). and_parts (has_its_room n rows (Enforce case index k action)) (list_all (has_its_room n rows) rest) (h.room n low) in
      record {
        counts = λ before counted.
            rw (← append_assoc before firings (note ∷ []))
            (CountsFirings-with_firing rows (before ++ firings) first.0 (h.counts before counted));
        ready = ready-with_firing patches rows ∙ h.ready;
        rest_ready = ready-with_firing rest rows ∙ first.1;
        rises = λ n low. up_to-bumped row_case row_index row_count once_more (λ r. refl) (λ r. refl) (λ r. refl) n case index rows (room n low).0 (h.rises n low);
        room = λ n low. room-with_firing n rows k action rest apart (room n low).1;
      }

pub FiredComes-begin : (patches : List Patch) (rows : List FiredRow) → fired_ready patches rows ≡ true → FiredComes patches patches rows rows []
FiredComes-begin patches rows ready = record {
  counts = λ before counted. rw append-nil counted;
  ready = ready;
  rest_ready = ready;
  rises = λ n low. up_to_more row_case row_index row_count n rows low;
  room = λ n low. rooms n rows low patches;
} where
  rooms : (n : ℕ) (rows : List FiredRow) → fired_up_to n rows ≡ true → (rest : List Patch) → list_all (has_its_room n rows) rest ≡ true
  rooms n rows low [] = refl
  rooms n rows low (Check case index k ∷ rest) = rooms n rows low rest
  rooms n rows low (Enforce case index k action ∷ rest) =
      and_from _ _ (room_from_up_to row_case row_index row_count n case index rows low) (rooms n rows low rest)

-- a patch that notes no firing
pub FiredComes-past : (patches rest : List Patch) (old rows : List FiredRow) (firings : List FiredNote) (q : Patch) → FiredComes patches (q ∷ rest) old rows firings → FiredComes patches rest old rows firings
FiredComes-past patches rest old rows firings q h = record {
  counts = h.counts;
  ready = h.ready;
  rest_ready = (and_parts (has_its_fired rows q) (fired_ready rest rows) h.rest_ready).1;
  rises = h.rises;
  room = λ n low. (and_parts (has_its_room n rows q) (list_all (has_its_room n rows) rest) (h.room n low)).1;
}

-- an enforcement, whose invariant held or not
enforced : (held : Bool) (patches rest : List Patch) (old rows : List FiredRow) (firings : List FiredNote) (case index : ℕ) (k : Invariant) (action : Action) → list_any (is_twin (Enforce case index k action)) rest ≡ false → FiredComes patches (Enforce case index k action ∷ rest) old rows firings → FiredComes patches rest old (with_firings (fired_once held case index) rows) (firings ++ fired_once held case index)
enforced true patches rest old rows firings case index k action apart h =
    rw append-nil (FiredComes-past patches rest old rows firings (Enforce case index k action) h)
enforced false patches rest old rows firings case index k action apart h =
    FiredComes-with_firing case index patches rest old rows firings k action apart h

-- what a patch notes
pub FiredComes-more : (point : ℕ → Bool) (patches rest : List Patch) (old rows : List FiredRow) (firings : List FiredNote) (q : Patch) (core : Core) → list_any (is_twin q) rest ≡ false → FiredComes patches (q ∷ rest) old rows firings → FiredComes patches rest old (with_firings (firings_in (one_patch point q core).notes) rows) (firings ++ firings_in (one_patch point q core).notes)
FiredComes-more point patches rest old rows firings (Check case index k) core apart h =
    rw append-nil (FiredComes-past patches rest old rows firings (Check case index k) h)
FiredComes-more point patches rest old rows firings (Enforce case index k action) core apart h =
    rw (enforce_firings point case index k action core)
    (enforced (core_holds k core) patches rest old rows firings case index k action apart h)

pub FiredGoesOn-from_comes : (patches rest : List Patch) (old new : List FiredRow) (firings : List FiredNote) → FiredComes patches rest old new firings → FiredGoesOn patches old new firings
FiredGoesOn-from_comes patches rest old new firings h = record { counts = h.counts; ready = h.ready; rises = h.rises }
