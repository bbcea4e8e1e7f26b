-- Two failures, each with its case. The rest of its report.
use Rattle.std.specs.Prelude.{ℕ, List, [], ◌∷◌, ◌++◌, codes}
use Rattle.std.specs.List.{flat_map}
use Rattle.cv_histories.specs.Report.{line}
use Rattle.cv_examples.specs.TwoFaults.{two_faults_entries}
use Rattle.cv_examples.specs.TwoFaultsCases.{two_faults_cases}

abbrev pub two_faults_rest : List ℕ
two_faults_rest = flat_map line (
    codes "install entry 12 case 1 repair 0" ∷
    codes "learned 107" ∷
    codes "end" ∷ [])

abbrev pub two_faults_report : List ℕ
two_faults_report = two_faults_entries ++ two_faults_cases ++ two_faults_rest
