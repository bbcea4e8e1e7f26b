-- The rows of a tally, and of the repairs that fired, are those of the checks and firings that they count.
use Rattle.std.proofs.Common.{◌≡◌, ℕ, not, eqb, List, length, refl}
use Rattle.std.specs.List.{AllByRecursion, filter}
use Rattle.cv_base.specs.declared.entries.FiredRow.{FiredRow}
use Rattle.cv_base.specs.declared.entries.TallyRow.{TallyRow}
use Rattle.cv_histories.specs.Rows.{CheckNote, FiredNote, tally_row, tally_of, fired_of}
use Rattle.cv_patch.specs.Counts.{TallyRises, FiredRises, CountsChecks, CountsFirings, firings_of}
use Rattle.cv_patch.proofs.RowsByKey.{rows_are}
use Rattle.cv_patch.proofs.Standing.{All-at, All-standing}

pub tally_rows_are : (rows : List TallyRow) (checks : List CheckNote) → TallyRises rows → CountsChecks rows checks → filter (λ (r : TallyRow). not (eqb r.checks 0)) rows ≡ tally_of checks
tally_rows_are rows checks rises counts =
    rows_are (λ (c : CheckNote). c.case) (λ (c : CheckNote). c.index) tally_row (λ (r : TallyRow). r.case) (λ (r : TallyRow). r.index) (λ (r : TallyRow). r.checks)
    (λ a b notes. refl) (λ a b notes. refl) (λ a b notes. refl) rows checks counts.each rises counts.all

abbrev fired_row : ℕ → ℕ → List FiredNote → FiredRow
fired_row case index firings = record { case = case; index = index; count = length firings }

each_fired : (rows : List FiredRow) (firings : List FiredNote) → CountsFirings rows firings → AllByRecursion (λ (r : FiredRow). r ≡ fired_row r.case r.index (firings_of r.case r.index firings)) rows
each_fired rows firings counts =
    All-standing (λ (r : FiredRow). r ≡ fired_row r.case r.index (firings_of r.case r.index firings)) rows
    (λ r there.
    let is = All-at (λ (s : FiredRow). s.count ≡ length (firings_of s.case s.index firings)) r rows counts.each there in
    λ i. record { case = r.case; index = r.index; count = is i })

pub fired_rows_are : (rows : List FiredRow) (firings : List FiredNote) → FiredRises rows → CountsFirings rows firings → filter (λ (r : FiredRow). not (eqb r.count 0)) rows ≡ fired_of firings
fired_rows_are rows firings rises counts =
    rows_are (λ (f : FiredNote). f.case) (λ (f : FiredNote). f.index) fired_row (λ (r : FiredRow). r.case) (λ (r : FiredRow). r.index) (λ (r : FiredRow). r.count)
    (λ a b notes. refl) (λ a b notes. refl) (λ a b notes. refl) rows firings (each_fired rows firings counts) rises counts.all
