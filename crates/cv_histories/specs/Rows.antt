-- What an entry says of a run's steps: sites, and rows of checks and firings
-- (docs/REPAIR.md, "Entries").
use Rattle.std.specs.Prelude.{ℕ, Bool, false, not, ◌==◌, List, [], ◌∷◌, length, filter, map, fold, take, replicate}
use Rattle.std.specs.List.{flat_map}
use Rattle.cv_base.specs.declared.ends.End.{End}
use Rattle.cv_base.specs.declared.ends.End.TheVariants.{Failure}
use Rattle.cv_base.specs.declared.entries.Adopted.{Adopted}
use Rattle.cv_base.specs.declared.entries.FiredRow.{FiredRow}
use Rattle.cv_base.specs.declared.entries.TallyRow.{TallyRow}
use Rattle.cv_runs.specs.Apply.{Note, Checked, Fired}
use Rattle.cv_runs.specs.Learned.{distinct}
use Rattle.cv_runs.specs.PlainRun.{Step, end_of}
use Rattle.cv_runs.specs.State.{State}
use Rattle.cv_shadow.specs.declared.frames.Frame.{Frame}

-- the pc and the call addresses of the top frames, four in all at most
abbrev pub sites_of : State → List ℕ
sites_of s = take 4 (s.core.pc ∷ map (λ (f : Frame). f.call) s.core.frames)

abbrev pub last_sites : List Step → List ℕ
last_sites [] = []
last_sites (step ∷ []) = sites_of step.before
last_sites (step ∷ next ∷ steps) = last_sites (next ∷ steps)

abbrev pub sites_at_end : End → List Step → List ℕ
sites_at_end (Failure id detail) steps = last_sites steps
sites_at_end _ steps = []

abbrev pub sites_in : List Step → List ℕ
sites_in steps = sites_at_end (end_of steps) steps

-- a check of a candidate, and whether it held; a firing of a repair
pub record CheckNote : Type 0 where
  pub case : ℕ
  pub index : ℕ
  pub held : Bool

pub record FiredNote : Type 0 where
  pub case : ℕ
  pub index : ℕ

abbrev pub checks_in : List Note → List CheckNote
checks_in [] = []
checks_in (Checked case index held ∷ notes) = record { case = case; index = index; held = held } ∷ checks_in notes
checks_in (Fired case index ∷ notes) = checks_in notes

abbrev pub firings_in : List Note → List FiredNote
firings_in [] = []
firings_in (Checked case index held ∷ notes) = firings_in notes
firings_in (Fired case index ∷ notes) = record { case = case; index = index } ∷ firings_in notes

-- the last result of checks that are not none
abbrev pub last_held : List CheckNote → Bool
last_held checks = fold (λ before (c : CheckNote). c.held) false checks

abbrev pub tally_row : ℕ → ℕ → List CheckNote → TallyRow
tally_row case index checks =
    record { case = case; index = index; checks = length checks; violations = length (filter (λ (c : CheckNote). not c.held) checks); last_held = last_held checks }

-- the rows of one case, by index
abbrev pub case_tally : ℕ → List CheckNote → List TallyRow
case_tally case checks =
    map (λ index. tally_row case index (filter (λ (c : CheckNote). c.index == index) checks)) (distinct (map (λ (c : CheckNote). c.index) checks))

-- a row for each candidate that was checked, ordered by case and index
abbrev pub tally_of : List CheckNote → List TallyRow
tally_of checks =
    flat_map (λ case. case_tally case (filter (λ (c : CheckNote). c.case == case) checks)) (distinct (map (λ (c : CheckNote). c.case) checks))

abbrev pub case_fired : ℕ → List FiredNote → List FiredRow
case_fired case firings =
    map (λ index. record { case = case; index = index; count = length (filter (λ (f : FiredNote). f.index == index) firings) })
    (distinct (map (λ (f : FiredNote). f.index) firings))

-- a row for each repair that fired, ordered by case and index
abbrev pub fired_of : List FiredNote → List FiredRow
fired_of firings =
    flat_map (λ case. case_fired case (filter (λ (f : FiredNote). f.case == case) firings)) (distinct (map (λ (f : FiredNote). f.case) firings))

-- the versions of the block entries, written out
abbrev pub written : List Adopted → List ℕ
written adopted = flat_map (λ (a : Adopted). replicate a.entries a.version) adopted
