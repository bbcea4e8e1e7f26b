-- What the rows of the repairs that fired keep as rows are added and firings are counted.
use Rattle.std.proofs.Common.{◌≡◌, ℕ, true, false, ◌&&◌, eqb, leb, List, [], ◌∷◌, get_or, length, set, refl, sym, ap, ◌∙◌, inl, inr, arith}
use Rattle.std.specs.List.{list_all}
use Rattle.std.proofs.lemmas.Bool.{and_from, and_parts, both_ways, cases_Bool, le-leb}
use Rattle.cv_base.specs.declared.entries.FiredRow.{FiredRow}
use Rattle.cv_base.specs.declared.patches.Patch.{Patch}
use Rattle.cv_base.specs.declared.patches.Patch.TheVariants.{Check, Enforce}
use Rattle.cv_histories.specs.Rows.{FiredNote}
use Rattle.cv_patch.specs.Bumped.{fired_once_more, is_fired_of, with_firing}
use Rattle.cv_patch.specs.Counts.{CountsFirings, FiredRises, firings_of, has_fired, fired_ready, fired_up_to}
use Rattle.cv_patch.specs.Prepared.{StandsAt, unfired, with_repair, with_fired_for, with_all_fired}
use Rattle.cv_patch.proofs.Ordered.{added_all, added_any, added_each, added_named, added_rises, changed_there, list_all-weaker, rises-changed, same_case, same_index}

abbrev pub case_of : FiredRow → ℕ
case_of r = r.case

abbrev pub index_of : FiredRow → ℕ
index_of r = r.index

-- a repair without a row has not fired where each firing has a row
no_firings : (case index : ℕ) (rows : List FiredRow) (firings : List FiredNote) → has_fired rows case index ≡ false → list_all (λ (f : FiredNote). has_fired rows f.case f.index) firings ≡ true → firings_of case index firings ≡ []
no_firings case index rows [] none all = refl
no_firings case index rows (f ∷ fs) none all =
    let parts = and_parts (has_fired rows f.case f.index) (list_all (λ (f : FiredNote). has_fired rows f.case f.index) fs) all in
    let rest : firings_of case index fs ≡ [] = no_firings case index rows fs none parts.1 in
    elim (cases_Bool (eqb f.case case && eqb f.index index)) [
      | inl is ↦
          let same : has_fired rows case index ≡ true =
          rw (← same_case _ _ case index is, ← same_index _ _ case index is) parts.0 in
          absurd (both_ways _ none same)
      | inr differs ↦ rw differs rest
    ]

repair_counts : (case index : ℕ) (rows : List FiredRow) (firings : List FiredNote) → CountsFirings rows firings → CountsFirings (with_repair case index rows) firings
repair_counts case index rows firings counts = record {
  each = added_each case_of index_of (λ (r : FiredRow). r.count ≡ length (firings_of r.case r.index firings)) (unfired case index) rows counts.each
      (λ none. ap length (sym (no_firings case index rows firings none counts.all)));
  all = list_all-weaker (λ (f : FiredNote). has_fired rows f.case f.index) (λ (f : FiredNote). has_fired (with_repair case index rows) f.case f.index)
      (λ f has. added_any case_of index_of (is_fired_of f.case f.index) (unfired case index) rows has) firings counts.all;
}

pub fired_for_rises : (patch : Patch) (rows : List FiredRow) → FiredRises rows → FiredRises (with_fired_for rows patch)
fired_for_rises (Check case index invariant) rows rises = rises
fired_for_rises (Enforce case index invariant action) rows rises = added_rises case_of index_of (unfired case index) rows rises

-- what one row more keeps, all of them keep
module _ (Q : List FiredRow → Type 0) (step : (case index : ℕ) (rows : List FiredRow) → Q rows → Q (with_repair case index rows)) where
  all_keep : (patches : List Patch) (rows : List FiredRow) → Q rows → Q (with_all_fired patches rows)
  all_keep [] rows q = q
  all_keep (Check case index invariant ∷ patches) rows q = all_keep patches rows q
  all_keep (Enforce case index invariant action ∷ patches) rows q = all_keep patches (with_repair case index rows) (step case index rows q)

pub all_fired_rise : (patches : List Patch) (rows : List FiredRow) → FiredRises rows → FiredRises (with_all_fired patches rows)
all_fired_rise = all_keep FiredRises (λ case index rows rises. added_rises case_of index_of (unfired case index) rows rises)

pub all_fired_count : (firings : List FiredNote) (patches : List Patch) (rows : List FiredRow) → CountsFirings rows firings → CountsFirings (with_all_fired patches rows) firings
all_fired_count firings = all_keep (λ rows. CountsFirings rows firings) (λ case index rows counts. repair_counts case index rows firings counts)

pub all_fired_up_to : (n : ℕ) (patches : List Patch) (rows : List FiredRow) → fired_up_to n rows ≡ true → fired_up_to n (with_all_fired patches rows) ≡ true
all_fired_up_to n =
    all_keep (λ rows. fired_up_to n rows ≡ true) (λ case index rows limit.
    added_all case_of index_of (λ (r : FiredRow). leb r.count n) (unfired case index) rows limit (le-leb 0 n (omega arith)))

pub all_fired_ready : (patches : List Patch) (rows : List FiredRow) → fired_ready patches (with_all_fired patches rows) ≡ true
all_fired_ready [] rows = refl
all_fired_ready (Check case index invariant ∷ patches) rows = all_fired_ready patches rows
all_fired_ready (Enforce case index invariant action ∷ patches) rows =
    and_from _ _
    (all_keep (λ rows. has_fired rows case index ≡ true) (λ c i rows has. added_any case_of index_of (is_fired_of case index) (unfired c i) rows has) patches
    (with_repair case index rows) (added_named case_of index_of (unfired case index) rows))
    (all_fired_ready patches (with_repair case index rows))

-- one more firing
pub firing_rises : (case index : ℕ) (rows : List FiredRow) → FiredRises rows → FiredRises (with_firing case index rows)
firing_rises case index = rises-changed case_of index_of case index fired_once_more (λ r. refl) (λ r. refl)

-- what is written where a repair's row stands
pub firing_written : (case index : ℕ) (rows : List FiredRow) (at : ℕ) (r after : FiredRow) → FiredRises rows → StandsAt (is_fired_of case index) rows at → r ≡ get_or rows at r → after ≡ fired_once_more r → set rows at after ≡ with_firing case index rows
firing_written case index rows at r after rises stands read written =
    ap (λ (x : FiredRow). set rows at x) (written ∙ ap fired_once_more read)
    ∙ changed_there case_of index_of case index fired_once_more rows at r rises stands
