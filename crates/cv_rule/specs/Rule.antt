-- The office's rule: what is true of the two words and of all views between any two steps
-- (docs/REPAIR.md, "The office").
use Rattle.std.specs.Prelude.{◌≡◌, ◌≢◌, ◌≤◌, ◌<◌, ◌+◌, ℕ, List, [], ◌∷◌, length, Option, Some, None}
use Rattle.std.specs.List.{AllByRecursion}
use lib.ListN.{get_elem?}
use mathlib.Core.List.{IsPrefix}
use mathlib.Core.Option.{some}
use Rattle.cv_rule.specs.Counts.{Within, IsAbove, Rises, awaited, below, carried, has_draw, idle_rows, idle_rows_of, is_pass, is_pass_of, last_of, posted_of, rows_of, times, total, version_after}
use Rattle.cv_rule.specs.declared.view.Known.{Known}
use Rattle.cv_rule.specs.declared.view.Opening.{Opening}
use Rattle.cv_rule.specs.declared.view.Posted.{Posted}
use Rattle.cv_rule.specs.declared.view.Role.TheVariants.{Master, Pass, Note, Spent}
use Rattle.cv_rule.specs.declared.view.Row.{Row}
use Rattle.cv_rule.specs.declared.view.View.{View}

-- ---- versions: word 0, lists, reach, loaded versions, floors

-- what a seat knows is a beginning of what the master knows
pub record IsKnown {M T : Type 0} (opening : Opening M) (versions : List T) (book : List Posted) (k : Known M T) : Type 0 where
  pub opening_is : k.opening ≡ Some opening
  pub versions_begin : IsPrefix k.versions versions
  pub some_version : 0 < length k.versions
  pub book_begins : IsPrefix k.posted book
  pub below : AllByRecursion (λ (t : Posted). t.version < length k.versions) k.posted

-- of one view; the master's number, versions and book list are given
pub record IsVersionsView {M T : Type 0} (opening : Opening M) (versions : List T) (book : List Posted) (master id : ℕ) (v : View M T) : Type 0 where
  pub own : v.role ≡ Master → (id ≡ master) × (v.known.versions ≡ versions) × (v.known.posted ≡ book)
  pub known : IsKnown opening versions book v.known
  pub beside : IsKnown opening versions book v.beside
  pub reach : v.reach < length versions
  pub loaded : Within v.floor v.reach v.loaded
  pub floor : v.floor < length v.known.versions

-- the seat with a number has a view
abbrev pub Has : {M T : Type 0} → List (View M T) → ℕ → View M T → Type 0
Has views id v = get_elem? views id ≡ some v

-- of all views
pub record AreVersions {M T : Type 0} (opening : Opening M) (word : ℕ) (versions : List T) (book : List Posted) (master : ℕ) (views : List (View M T)) : Type 0 where
  pub word_is : word ≡ length versions
  pub most : length versions ≤ 1025
  pub there : (m : View M T) × Has views master m × (m.role ≡ Master)
  pub newest : opening.newest < length versions
  pub book_above : AllByRecursion (λ (t : Posted). opening.newest ≤ t.version) book
  pub each : (id : ℕ) (v : View M T) → Has views id v → v.role ≢ Spent → IsVersionsView opening versions book master id v

-- ---- draws: word 1, hands, book lists, workers without a pass

-- a pass's hand has at most one row, its own, and none while a draw is on its way for it
abbrev pub IsPassHand : ℕ → ℕ → Option ℕ → List Row → Type 0
IsPassHand worker floor on_its_way [] = Unit {0}
IsPassHand worker floor on_its_way (r ∷ []) = (r.worker ≡ worker) × (r.floor ≡ floor) × (on_its_way ≡ None)
IsPassHand worker floor on_its_way (r ∷ s ∷ rest) = ⊥

-- of one view; the master's number, its book list and its workers without a pass are given
pub record IsDrawsView {M T : Type 0} (opening : Opening M) (book : List Posted) (absent : List ℕ) (master id : ℕ) (v : View M T) : Type 0 where
  pub own : v.role ≡ Master → (id ≡ master) × (v.known.posted ≡ book) × (v.absent ≡ absent)
  pub spent : v.role ≡ Spent → v.hand ≡ []
  pub hand : (worker : ℕ) → v.role ≡ Pass worker → IsPassHand worker v.floor v.on_its_way v.hand
  pub on_its_way : (draw : ℕ) → v.on_its_way ≡ Some draw → draw < opening.runs
  pub note : v.role ≡ Note → AllByRecursion (λ (r : Row). r.draw < opening.runs) v.hand
  -- rows of the master's that are no run: of workers without a pass, one of each at most
  pub idle : v.role ≡ Master → (worker : ℕ) → idle_rows_of opening.runs worker v.hand ≤ times worker absent
  pub few_idle : v.role ≡ Master → idle_rows opening.runs v.hand ≤ length absent

-- of all views
pub record AreDraws {M T : Type 0} (opening : Opening M) (word : ℕ) (book : List Posted) (absent : List ℕ) (master : ℕ) (views : List (View M T)) : Type 0 where
  -- each draw stands in one place, once: in a hand or in the book list; and no other number does
  pub once : (draw : ℕ) → total (λ (v : View M T). rows_of draw v.hand) views + posted_of draw book ≡ below draw word
  pub book_runs : AllByRecursion (λ (t : Posted). t.draw < opening.runs) book
  -- each worker has one pass, or is without a pass
  pub seated : (worker : ℕ) → total (λ (v : View M T). is_pass_of worker v.role) views + times worker absent ≡ below worker opening.workers
  pub workers : total (λ (v : View M T). is_pass v.role) views + length absent ≡ opening.workers
  -- a run's row that a note or the master has is awaited by its worker's pass, with the row's floor
  pub carried_awaited : (worker draw floor : ℕ) → total (λ (v : View M T). carried opening.runs worker draw floor v.role v.hand) views ≤ total (λ (v : View M T). awaited worker draw floor v.role v.floor v.on_its_way) views
  -- a draw that a pass awaits is in such a row, or is its worker's last in the book list
  pub awaited_found : (worker draw floor : ℕ) → total (λ (v : View M T). awaited worker draw floor v.role v.floor v.on_its_way) views ≤ total (λ (v : View M T). carried opening.runs worker draw floor v.role v.hand) views + has_draw draw (last_of worker book)
  -- there are no more draws than runs and rows that are no run
  pub bound : word ≤ opening.runs + total (λ (v : View M T). idle_rows opening.runs v.hand) views
  pub each : (id : ℕ) (v : View M T) → Has views id v → IsDrawsView opening book absent master id v

-- ---- order: the draws of one worker rise, and floors

-- a version that is not below the newest one at the making, nor below that of the worker's last entry
abbrev pub IsFloor : {M : Type 0} → Opening M → List Posted → ℕ → ℕ → Type 0
IsFloor opening book worker floor = (opening.newest ≤ floor) × (version_after (last_of worker book) ≤ floor)

-- of one view
pub record IsOrderView {M T : Type 0} (opening : Opening M) (book : List Posted) (v : View M T) : Type 0 where
  pub later : AllByRecursion (λ (r : Row). IsAbove book r.worker r.draw) v.hand
  pub floor : (worker : ℕ) → v.role ≡ Pass worker → v.on_its_way ≡ None → IsFloor opening book worker v.floor
  pub row_floors : AllByRecursion (λ (r : Row). r.draw < opening.runs → IsFloor opening book r.worker r.floor) v.hand

-- of all views
pub record AreInOrder {M T : Type 0} (opening : Opening M) (book : List Posted) (views : List (View M T)) : Type 0 where
  pub rises : Rises book
  pub each : (id : ℕ) (v : View M T) → Has views id v → IsOrderView opening book v

-- ---- the rule

pub record IsRuled {M T : Type 0} (opening : Opening M) (word0 word1 : ℕ) (versions : List T) (book : List Posted) (absent : List ℕ) (master : ℕ) (views : List (View M T)) : Type 0 where
  pub are_versions : AreVersions opening word0 versions book master views
  pub are_draws : AreDraws opening word1 book absent master views
  pub are_in_order : AreInOrder opening book views

abbrev pub Ruled : {M T : Type 0} → Opening M → ℕ → ℕ → List (View M T) → Type 0
Ruled {M} {T} opening word0 word1 views = (versions : List T) × (book : List Posted) × (absent : List ℕ) × (master : ℕ) × IsRuled opening word0 word1 versions book absent master views
