-- An entry that is posted to a history (docs/REPAIR.md, "Histories").
use Rattle.std.specs.Prelude.{◌≡◌, ◌<◌, ℕ, true, false, List, ◌∷◌, length}
use Rattle.cv_base.specs.declared.cases.Case.{Case}
use Rattle.cv_base.specs.PlanOf.{PlanOf}
use Rattle.cv_base.specs.Picture.{Picture}
use Rattle.cv_blocks.specs.TextMap.{text_only}
use Rattle.cv_histories.specs.Classes.{is_decided}
use Rattle.cv_histories.specs.Seen.{Seen}
use Rattle.cv_manager.specs.declared.TheConstants.{MOST_ENTRIES}
use Rattle.cv_manager.specs.Journal.{EnforcesOne}

-- the plan, the entries before, and the new one with the table of its last adopted version
pub record PostingOf : Type 0 where
  pub plan : PlanOf
  pub past : List Seen
  pub new : Seen

-- the history with the new entry
abbrev pub all_of : PostingOf → List Seen
all_of p = p.new ∷ p.past

pub record IsPosting (map : Picture) (p : PostingOf) : Type 0 where
  pub text : map ≡ text_only p.plan.image
  pub room : length p.past < MOST_ENTRIES
  pub one : EnforcesOne p.new.last

-- the new entry is the last checked failure of the case that counts
pub record IsDecidedNow (p : PostingOf) (c : ℕ) (case : Case) : Type 0 where
  pub before : is_decided p.plan c case p.past ≡ false
  pub now : is_decided p.plan c case (all_of p) ≡ true
