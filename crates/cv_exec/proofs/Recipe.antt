-- A run that is told by its turns and its adoptions: one turn more, and one adoption more.
use Rattle.std.proofs.Common.{◌≡◌, ◌≤◌, ℕ, zero, suc, Bool, true, false, List, [], ◌∷◌, ◌++◌, length, Option, Some, None, refl, sym, ap, ◌∙◌, arith}
use Rattle.std.specs.Prelude.{◌&&◌, ◌||◌, not, slice_get}
use Rattle.std.proofs.lemmas.Option.{slice_get_past}
use Rattle.cv_base.specs.PlanOf.{PlanOf}
use Rattle.cv_histories.specs.Flight.{Adoption, Flight, at_entry, entered, entered_by, entered_next, flight_turn, flown, has_ended, may_enter, may_turn, turned, turned_by, turned_next}
use Rattle.cv_runs.specs.BlockEntries.{is_entry}
use Rattle.cv_runs.specs.PatchedRun.{PatchedStep, patched_step}
use Rattle.cv_runs.specs.State.{Outcome, Next, Ended}

-- ---- tests

same_both : (b : Bool) (f : Flight) → elim b [ true ↦ f | false ↦ f ] ≡ f
same_both true f = refl
same_both false f = refl

pub and_false : (b : Bool) → (b && false) ≡ false
and_false true = refl
and_false false = refl

-- a run that may turn may not enter
turns_no_entry : (ended at inside : Bool) → (not ended && (not at || inside)) ≡ true → (not ended && at && not inside) ≡ false
turns_no_entry true at inside may = cc
turns_no_entry false true true may = refl
turns_no_entry false true false may = cc
turns_no_entry false false inside may = refl

pub no_entry : (plan : PlanOf) (f : Flight) → may_turn plan f ≡ true → may_enter plan f ≡ false
no_entry plan f may = turns_no_entry (has_ended plan f) (at_entry f) f.entered may

-- one that goes on and may not enter may turn
turn_by : (ended at inside : Bool) → ended ≡ false → (not ended && at && not inside) ≡ false → (not ended && (not at || inside)) ≡ true
turn_by true at inside on closed = cc
turn_by false true true on closed = refl
turn_by false true false on closed = cc
turn_by false false inside on closed = refl

pub turns : (plan : PlanOf) (f : Flight) → has_ended plan f ≡ false → may_enter plan f ≡ false → may_turn plan f ≡ true
turns plan f on closed = turn_by (has_ended plan f) (at_entry f) f.entered on closed

-- ---- steps

entered_steps : (f : Flight) (o : Option Adoption) (may : Bool) → (elim may as (λ b. Flight) [ true ↦ entered_by f o | false ↦ f ]).steps ≡ f.steps
entered_steps f None true = refl
entered_steps f (Some a) true = refl
entered_steps f o false = refl

pub turned_count : (f : Flight) (step : PatchedStep) (o : Outcome) → length (turned_by f step o).steps ≡ suc (length f.steps)
turned_count f step (Next next transfer) = refl
turned_count f step (Ended end) = refl

turn_count : (plan : PlanOf) (f : Flight) → length (turned plan f).steps ≡ suc (length f.steps)
turn_count plan f = turned_count f (patched_step f.state (is_entry f.since f.transferred) (flight_turn plan f)) (flight_turn plan f).outcome

module _ (plan : PlanOf) (adoptions : List Adoption) where
  next_steps : (f : Flight) → (entered_next plan adoptions f).steps ≡ f.steps
  next_steps f = entered_steps f (slice_get adoptions (length f.versions)) (may_enter plan f)

  -- ---- one turn more

  -- where there is no adoption more, nothing is adopted
  pub next_none : (f : Flight) → length adoptions ≤ length f.versions → entered_next plan adoptions f ≡ f
  next_none f none =
      ap (λ (o : Option Adoption). elim (may_enter plan f) [ true ↦ entered_by f o | false ↦ f ]) (slice_get_past adoptions (length f.versions) none)
      ∙ same_both (may_enter plan f) f

  pub flown_first : (start : Flight) → flown plan adoptions start 0 ≡ entered_next plan adoptions start
  unfolding flown
  flown_first start = refl

  flown_more : (start : Flight) (n : ℕ) → flown plan adoptions start (suc n) ≡ entered_next plan adoptions (turned_next plan (flown plan adoptions start n))
  unfolding flown
  flown_more start n = refl

  pub turn_more : (start f : Flight) (n : ℕ) → flown plan adoptions start n ≡ f → may_turn plan f ≡ true → length adoptions ≤ length (turned plan f).versions → flown plan adoptions start (suc n) ≡ turned plan f
  turn_more start f n is may none =
      flown_more start n
      ∙ ap (λ (g : Flight). entered_next plan adoptions (turned_next plan g)) is
      ∙ ap (λ (b : Bool). entered_next plan adoptions (elim b [ true ↦ turned plan f | false ↦ f ])) may
      ∙ next_none (turned plan f) none

  -- ---- no more steps than turns

  few_by : (f : Flight) (n : ℕ) (may : Bool) → length f.steps ≤ n → length (elim may as (λ b. Flight) [ true ↦ turned plan f | false ↦ f ]).steps ≤ suc n
  few_by f n true few = let count = turn_count plan f in omega arith
  few_by f n false few = omega arith

  few_steps : (start : Flight) (n : ℕ) → length start.steps ≡ 0 → length (flown plan adoptions start n).steps ≤ n
  few_steps start zero none =
      let same = ap (λ (f : Flight). length f.steps) (flown_first start) ∙ ap length (next_steps start) in
      omega arith
  few_steps start (suc n) none =
      let before = flown plan adoptions start n in
      let same = ap (λ (f : Flight). length f.steps) (flown_more start n) ∙ ap length (next_steps (turned_next plan before)) in
      let few = few_by before n (may_turn plan before) (few_steps start n none) in
      omega arith

-- ---- one adoption more

in_front : (xs ys : List Adoption) (k : ℕ) (x : Adoption) → slice_get xs k ≡ Some x → slice_get (xs ++ ys) k ≡ Some x
in_front [] ys zero x is = cc
in_front [] ys (suc k) x is = cc
in_front (y ∷ xs) ys zero x is = is
in_front (y ∷ xs) ys (suc k) x is = in_front xs ys k x is

at_seam : (xs : List Adoption) (x : Adoption) → slice_get (xs ++ x ∷ []) (length xs) ≡ Some x
at_seam [] x = refl
at_seam (y ∷ xs) x = at_seam xs x

module _ (plan : PlanOf) (adoptions : List Adoption) (a : Adoption) where
  abbrev more : List Adoption
  more = adoptions ++ a ∷ []

  -- what comes next with one more is what comes next without it, and then the one more
  again_by : (f : Flight) (may : Bool) (o : Option Adoption) → may_enter plan f ≡ may → slice_get adoptions (length f.versions) ≡ o
      → entered_next plan more (elim may [ true ↦ entered_by f o | false ↦ f ]) ≡ elim may [ true ↦ entered_by f (slice_get more (length f.versions)) | false ↦ f ]
  again_by f true None is at = ap (λ (b : Bool). elim b [ true ↦ entered_by f (slice_get more (length f.versions)) | false ↦ f ]) is
  again_by f true (Some x) is at =
      let after = entered x.version x.table f in
      ap (λ (b : Bool). elim b [ true ↦ entered_by after (slice_get more (length after.versions)) | false ↦ after ]) (and_false (not (has_ended plan f) && at_entry f))
      ∙ ap (entered_by f) (sym (in_front adoptions (a ∷ []) (length f.versions) x at))
  again_by f false o is at = ap (λ (b : Bool). elim b [ true ↦ entered_by f (slice_get more (length f.versions)) | false ↦ f ]) is

  again : (f : Flight) → entered_next plan more (entered_next plan adoptions f) ≡ entered_next plan more f
  again f = again_by f (may_enter plan f) (slice_get adoptions (length f.versions)) refl refl

  module _ (start : Flight) (none : length start.steps ≡ 0) where
    abbrev old : ℕ → Flight
    old n = flown plan adoptions start n

    abbrev new : ℕ → Flight
    new n = flown plan more start n

    -- through a turn that was made
    through : (n : ℕ) (may : Bool) → may_turn plan (old n) ≡ may → (length (old n).steps ≡ n → new n ≡ entered_next plan more (old n)) → length (old (suc n)).steps ≡ suc n → new (suc n) ≡ entered_next plan more (old (suc n))
    through n true may before all =
        let count = turn_count plan (old n) in
        let now : old (suc n) ≡ entered_next plan adoptions (turned plan (old n)) = flown_more plan adoptions start n ∙ ap (λ (b : Bool). entered_next plan adoptions (elim b [ true ↦ turned plan (old n) | false ↦ old n ])) may in
        let steps : length (old (suc n)).steps ≡ length (turned plan (old n)).steps = ap (λ (f : Flight). length f.steps) now ∙ ap length (next_steps plan adoptions (turned plan (old n))) in
        let whole : length (old n).steps ≡ n = omega arith in
        let same : new n ≡ old n = before whole ∙ ap (λ (b : Bool). elim b [ true ↦ entered_by (old n) (slice_get more (length (old n).versions)) | false ↦ old n ]) (no_entry plan (old n) may) in
        flown_more plan more start n
        ∙ ap (λ (f : Flight). entered_next plan more (turned_next plan f)) same
        ∙ ap (λ (b : Bool). entered_next plan more (elim b [ true ↦ turned plan (old n) | false ↦ old n ])) may
        ∙ sym (again (turned plan (old n)))
        ∙ ap (entered_next plan more) (sym now)
    through n false may before all =
        let now : old (suc n) ≡ entered_next plan adoptions (old n) = flown_more plan adoptions start n ∙ ap (λ (b : Bool). entered_next plan adoptions (elim b [ true ↦ turned plan (old n) | false ↦ old n ])) may in
        let steps : length (old (suc n)).steps ≡ length (old n).steps = ap (λ (f : Flight). length f.steps) now ∙ ap length (next_steps plan adoptions (old n)) in
        let few = few_steps plan adoptions start n none in
        absurd (omega arith)

    adopted : (n : ℕ) → length (old n).steps ≡ n → new n ≡ entered_next plan more (old n)
    adopted zero all = flown_first plan more start ∙ sym (again start) ∙ ap (entered_next plan more) (sym (flown_first plan adoptions start))
    adopted (suc n) all = through n (may_turn plan (old n)) refl (adopted n) all

    pub adopt_more : (n : ℕ) (f : Flight) → old n ≡ f → may_enter plan f ≡ true → length adoptions ≡ length f.versions → length f.steps ≡ n → new n ≡ entered a.version a.table f
    adopt_more n f is may used all =
        adopted n (ap (λ (g : Flight). length g.steps) is ∙ all)
        ∙ ap (entered_next plan more) is
        ∙ ap (λ (b : Bool). elim b [ true ↦ entered_by f (slice_get more (length f.versions)) | false ↦ f ]) may
        ∙ ap (λ (k : ℕ). entered_by f (slice_get more k)) (sym used)
        ∙ ap (entered_by f) (at_seam adoptions a)
