-- What the rows of a tally keep as rows are added and checks are counted.
use Rattle.std.proofs.Common.{◌≡◌, ℕ, Bool, true, false, ◌&&◌, cond, eqb, leb, List, [], ◌∷◌, get_or, set, refl, sym, ap, ◌∙◌, inl, inr, arith}
use Rattle.std.specs.List.{list_all}
use Rattle.std.proofs.lemmas.Bool.{and_from, and_parts, both_ways, cases_Bool, le-leb, leb-true}
use Rattle.std.proofs.lemmas.List.Folds.{list_all-map}
use Rattle.cv_base.specs.declared.entries.TallyRow.{TallyRow}
use Rattle.cv_base.specs.declared.patches.Patch.{Patch}
use Rattle.cv_base.specs.declared.patches.Patch.TheVariants.{Check, Enforce}
use Rattle.cv_histories.specs.Rows.{CheckNote, tally_row}
use Rattle.cv_patch.specs.Bumped.{checked_once_more, is_of, with_check}
use Rattle.cv_patch.specs.Counts.{CountsChecks, TallyRises, checks_of, has_tally, tally_ready, tally_up_to}
use Rattle.cv_patch.specs.Prepared.{StandsAt, unchecked, with_candidate, with_tally_for, with_tallies}
use Rattle.cv_patch.proofs.Ordered.{added_all, added_any, added_each, added_named, added_rises, changed_there, list_all-weaker, rises-changed, same_case, same_index}

abbrev pub case_of : TallyRow → ℕ
case_of r = r.case

abbrev pub index_of : TallyRow → ℕ
index_of r = r.index

-- a candidate without a row has no checks where each check has a row
no_checks : (case index : ℕ) (rows : List TallyRow) (checks : List CheckNote) → has_tally rows case index ≡ false → list_all (λ (c : CheckNote). has_tally rows c.case c.index) checks ≡ true → checks_of case index checks ≡ []
no_checks case index rows [] none all = refl
no_checks case index rows (c ∷ cs) none all =
    let parts = and_parts (has_tally rows c.case c.index) (list_all (λ (c : CheckNote). has_tally rows c.case c.index) cs) all in
    let rest : checks_of case index cs ≡ [] = no_checks case index rows cs none parts.1 in
    elim (cases_Bool (eqb c.case case && eqb c.index index)) [
      | inl is ↦
          let same : has_tally rows case index ≡ true =
          rw (← same_case _ _ case index is, ← same_index _ _ case index is) parts.0 in
          absurd (both_ways _ none same)
      | inr differs ↦ rw differs rest
    ]

pub candidate_counts : (case index : ℕ) (rows : List TallyRow) (checks : List CheckNote) → CountsChecks rows checks → CountsChecks (with_candidate case index rows) checks
candidate_counts case index rows checks counts = record {
  each = added_each case_of index_of (λ (r : TallyRow). r ≡ tally_row r.case r.index (checks_of r.case r.index checks)) (unchecked case index) rows counts.each
      (λ none. ap (tally_row case index) (sym (no_checks case index rows checks none counts.all)));
  all = list_all-weaker (λ (c : CheckNote). has_tally rows c.case c.index) (λ (c : CheckNote). has_tally (with_candidate case index rows) c.case c.index)
      (λ c has. added_any case_of index_of (is_of c.case c.index) (unchecked case index) rows has) checks counts.all;
}

pub tally_for_rises : (patch : Patch) (rows : List TallyRow) → TallyRises rows → TallyRises (with_tally_for rows patch)
tally_for_rises (Check case index invariant) rows rises = added_rises case_of index_of (unchecked case index) rows rises
tally_for_rises (Enforce case index invariant action) rows rises = rises

-- what one row more keeps, all of them keep
module _ (Q : List TallyRow → Type 0) (step : (case index : ℕ) (rows : List TallyRow) → Q rows → Q (with_candidate case index rows)) where
  tallies_keep : (patches : List Patch) (rows : List TallyRow) → Q rows → Q (with_tallies patches rows)
  tallies_keep [] rows q = q
  tallies_keep (Check case index invariant ∷ patches) rows q = tallies_keep patches (with_candidate case index rows) (step case index rows q)
  tallies_keep (Enforce case index invariant action ∷ patches) rows q = tallies_keep patches rows q

tallies_rise : (patches : List Patch) (rows : List TallyRow) → TallyRises rows → TallyRises (with_tallies patches rows)
tallies_rise = tallies_keep TallyRises (λ case index rows rises. added_rises case_of index_of (unchecked case index) rows rises)

pub tallies_count : (checks : List CheckNote) (patches : List Patch) (rows : List TallyRow) → CountsChecks rows checks → CountsChecks (with_tallies patches rows) checks
tallies_count checks = tallies_keep (λ rows. CountsChecks rows checks) (λ case index rows counts. candidate_counts case index rows checks counts)

pub tallies_up_to : (n : ℕ) (patches : List Patch) (rows : List TallyRow) → tally_up_to n rows ≡ true → tally_up_to n (with_tallies patches rows) ≡ true
tallies_up_to n =
    tallies_keep (λ rows. tally_up_to n rows ≡ true) (λ case index rows limit.
    added_all case_of index_of (λ (r : TallyRow). leb r.checks n) (unchecked case index) rows limit (le-leb 0 n (omega arith)))

tallies_violations : (patches : List Patch) (rows : List TallyRow) → list_all (λ (r : TallyRow). leb r.violations r.checks) rows ≡ true → list_all (λ (r : TallyRow). leb r.violations r.checks) (with_tallies patches rows) ≡ true
tallies_violations =
    tallies_keep (λ rows. list_all (λ (r : TallyRow). leb r.violations r.checks) rows ≡ true) (λ case index rows all.
    added_all case_of index_of (λ (r : TallyRow). leb r.violations r.checks) (unchecked case index) rows all (le-leb 0 0 (omega arith)))

pub tallies_kept : (patches : List Patch) (rows : List TallyRow) → TallyRises rows × (list_all (λ (r : TallyRow). leb r.violations r.checks) rows ≡ true) → TallyRises (with_tallies patches rows) × (list_all (λ (r : TallyRow). leb r.violations r.checks) (with_tallies patches rows) ≡ true)
tallies_kept patches rows kept = (tallies_rise patches rows kept.0, tallies_violations patches rows kept.1)

pub tallies_ready : (patches : List Patch) (rows : List TallyRow) → tally_ready patches (with_tallies patches rows) ≡ true
tallies_ready [] rows = refl
tallies_ready (Check case index invariant ∷ patches) rows =
    and_from _ _
    (tallies_keep (λ rows. has_tally rows case index ≡ true) (λ c i rows has. added_any case_of index_of (is_of case index) (unchecked c i) rows has) patches
    (with_candidate case index rows) (added_named case_of index_of (unchecked case index) rows))
    (tallies_ready patches (with_candidate case index rows))
tallies_ready (Enforce case index invariant action ∷ patches) rows = tallies_ready patches rows

-- one more check
check_rises : (case index : ℕ) (held : Bool) (rows : List TallyRow) → TallyRises rows → TallyRises (with_check case index held rows)
check_rises case index held = rises-changed case_of index_of case index (checked_once_more held) (λ r. refl) (λ r. refl)

checked_violations : (held : Bool) (r : TallyRow) → leb r.violations r.checks ≡ true → leb (checked_once_more held r).violations (checked_once_more held r).checks ≡ true
checked_violations true r below = le-leb _ _ (omega (arith, leb-true _ _ below))
checked_violations false r below = le-leb _ _ (omega (arith, leb-true _ _ below))

violations_after : (is held : Bool) (r : TallyRow) → leb r.violations r.checks ≡ true → leb (cond is (checked_once_more held r) r).violations (cond is (checked_once_more held r) r).checks ≡ true
violations_after true held r below = checked_violations held r below
violations_after false held r below = below

check_violations : (case index : ℕ) (held : Bool) (rows : List TallyRow) → list_all (λ (r : TallyRow). leb r.violations r.checks) rows ≡ true → list_all (λ (r : TallyRow). leb r.violations r.checks) (with_check case index held rows) ≡ true
check_violations case index held rows all =
    list_all-map (λ (r : TallyRow). leb r.violations r.checks) (λ (r : TallyRow). cond (is_of case index r) (checked_once_more held r) r) rows
    ∙ list_all-weaker (λ (r : TallyRow). leb r.violations r.checks) (λ (r : TallyRow). leb (cond (is_of case index r) (checked_once_more held r) r).violations (cond (is_of case index r) (checked_once_more held r) r).checks)
    (λ r below. violations_after (is_of case index r) held r below) rows all

-- what is written where a candidate's row stands
pub check_written : (case index : ℕ) (held : Bool) (rows : List TallyRow) (at : ℕ) (r after : TallyRow) → TallyRises rows → StandsAt (is_of case index) rows at → r ≡ get_or rows at r → after ≡ checked_once_more held r → set rows at after ≡ with_check case index held rows
check_written case index held rows at r after rises stands read written =
    ap (λ (x : TallyRow). set rows at x) (written ∙ ap (checked_once_more held) read)
    ∙ changed_there case_of index_of case index (checked_once_more held) rows at r rises stands

pub check_keeps : (case index : ℕ) (held : Bool) (rows : List TallyRow) → TallyRises rows × (list_all (λ (r : TallyRow). leb r.violations r.checks) rows ≡ true) → TallyRises (with_check case index held rows) × (list_all (λ (r : TallyRow). leb r.violations r.checks) (with_check case index held rows) ≡ true)
check_keeps case index held rows kept = (check_rises case index held rows kept.0, check_violations case index held rows kept.1)
