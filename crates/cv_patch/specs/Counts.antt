-- What the rows of a tally, and those of the repairs that fired, count (docs/REPAIR.md, "Entries").
use Rattle.std.specs.Prelude.{◌≡◌, ℕ, Bool, true, ◌&&◌, ◌||◌, ◌==◌, ◌+◌, ◌++◌, nat_le, nat_lt, List, length, filter}
use Rattle.std.specs.List.{AllByRecursion, AllPairs, list_all, list_any}
use Rattle.cv_base.specs.declared.entries.FiredRow.{FiredRow}
use Rattle.cv_base.specs.declared.entries.TallyRow.{TallyRow}
use Rattle.cv_base.specs.declared.patches.Patch.{Patch}
use Rattle.cv_base.specs.declared.patches.Patch.TheVariants.{Check, Enforce}
use Rattle.cv_histories.specs.Rows.{CheckNote, FiredNote, tally_row}

-- lower in case, or of one case and lower in index
abbrev pub is_before : ℕ → ℕ → ℕ → ℕ → Bool
is_before case index other_case other = nat_lt case other_case || ((case == other_case) && nat_lt index other)

-- rows that rise by case and index
abbrev pub TallyRises : List TallyRow → Type 0
TallyRises = AllPairs (λ (a : TallyRow) (b : TallyRow). is_before a.case a.index b.case b.index ≡ true)

abbrev pub FiredRises : List FiredRow → Type 0
FiredRises = AllPairs (λ (a : FiredRow) (b : FiredRow). is_before a.case a.index b.case b.index ≡ true)

abbrev pub has_tally : List TallyRow → ℕ → ℕ → Bool
has_tally rows case index = list_any (λ (r : TallyRow). (r.case == case) && (r.index == index)) rows

abbrev pub has_fired : List FiredRow → ℕ → ℕ → Bool
has_fired rows case index = list_any (λ (r : FiredRow). (r.case == case) && (r.index == index)) rows

-- the checks of one candidate, and the firings of one repair
abbrev pub checks_of : ℕ → ℕ → List CheckNote → List CheckNote
checks_of case index checks = filter (λ (c : CheckNote). (c.case == case) && (c.index == index)) checks

abbrev pub firings_of : ℕ → ℕ → List FiredNote → List FiredNote
firings_of case index firings = filter (λ (f : FiredNote). (f.case == case) && (f.index == index)) firings

-- each row says what the checks of its candidate were, none perhaps; and each check has a row
pub record CountsChecks (rows : List TallyRow) (checks : List CheckNote) : Type 0 where
  pub each : AllByRecursion (λ (r : TallyRow). r ≡ tally_row r.case r.index (checks_of r.case r.index checks)) rows
  pub all : list_all (λ (c : CheckNote). has_tally rows c.case c.index) checks ≡ true

pub record CountsFirings (rows : List FiredRow) (firings : List FiredNote) : Type 0 where
  pub each : AllByRecursion (λ (r : FiredRow). r.count ≡ length (firings_of r.case r.index firings)) rows
  pub all : list_all (λ (f : FiredNote). has_fired rows f.case f.index) firings ≡ true

-- whether what a patch may note has a row
abbrev pub has_its_tally : List TallyRow → Patch → Bool
has_its_tally rows (Check case index invariant) = has_tally rows case index
has_its_tally rows (Enforce case index invariant action) = true

abbrev pub has_its_fired : List FiredRow → Patch → Bool
has_its_fired rows (Check case index invariant) = true
has_its_fired rows (Enforce case index invariant action) = has_fired rows case index

-- each candidate that a table checks, and each repair that it enforces, has a row
abbrev pub tally_ready : List Patch → List TallyRow → Bool
tally_ready patches rows = list_all (has_its_tally rows) patches

abbrev pub fired_ready : List Patch → List FiredRow → Bool
fired_ready patches rows = list_all (has_its_fired rows) patches

-- no count is above n
abbrev pub tally_up_to : ℕ → List TallyRow → Bool
tally_up_to n rows = list_all (λ (r : TallyRow). nat_le r.checks n) rows

abbrev pub fired_up_to : ℕ → List FiredRow → Bool
fired_up_to n rows = list_all (λ (r : FiredRow). nat_le r.count n) rows

-- rows that go on, through one turn's checks, to count these too; a count rises by 1 at most
pub record TallyGoesOn (patches : List Patch) (old new : List TallyRow) (checks : List CheckNote) : Type 0 where
  pub counts : (before : List CheckNote) → CountsChecks old before → CountsChecks new (before ++ checks)
  pub ready : tally_ready patches new ≡ true
  pub rises : (n : ℕ) → tally_up_to n old ≡ true → tally_up_to (n + 1) new ≡ true

pub record FiredGoesOn (patches : List Patch) (old new : List FiredRow) (firings : List FiredNote) : Type 0 where
  pub counts : (before : List FiredNote) → CountsFirings old before → CountsFirings new (before ++ firings)
  pub ready : fired_ready patches new ≡ true
  pub rises : (n : ℕ) → fired_up_to n old ≡ true → fired_up_to (n + 1) new ≡ true
