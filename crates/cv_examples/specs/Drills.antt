-- What `drill` writes of a few plans.
use Rattle.std.specs.Prelude.{◌≡◌, ℕ, List, codes}
use Rattle.cv_histories.specs.DrillPlan.{drill_plan}
use Rattle.cv_histories.specs.OtherTexts.{drill_text}
use Rattle.cv_histories.specs.Report.{line}
use Rattle.cv_histories.specs.Serial.{serial}

abbrev pub drill : ℕ → ℕ → List ℕ
drill number count = drill_text (drill_plan number count) (serial (drill_plan number count))

abbrev pub DrillGood : Type 0
DrillGood = drill 0 1 ≡ line (codes "runs 3 exits 3 failures 0 budgets 0 cases 0 versions 1 withdrawals 0")

abbrev pub DrillBad : Type 0
DrillBad = drill 2 1 ≡ line (codes "runs 3 exits 2 failures 1 budgets 0 cases 1 versions 2 withdrawals 0")

abbrev pub DrillThree : Type 0
DrillThree = drill 2 3 ≡ line (codes "runs 5 exits 2 failures 3 budgets 0 cases 1 versions 3 withdrawals 0")
