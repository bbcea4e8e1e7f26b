-- A repair that fails and stays. The rest of its report.
use Rattle.std.specs.Prelude.{ℕ, List, [], ◌∷◌, ◌++◌, codes}
use Rattle.std.specs.List.{flat_map}
use Rattle.cv_histories.specs.Report.{line}
use Rattle.cv_examples.specs.KeptAfterFail.{kept_after_fail_entries}
use Rattle.cv_examples.specs.KeptAfterFailCases.{kept_after_fail_cases}

abbrev pub kept_after_fail_rest : List ℕ
kept_after_fail_rest = flat_map line (
    codes "repair 1.15 candidate 31 set x8 00000010 wins 0 fails 0 score 1" ∷
    codes "repair 1.16 candidate 31 set x8 00000028 wins 0 fails 0 score 1" ∷
    codes "repair 1.17 candidate 31 return 00000000 wins 0 fails 0 score 1" ∷
    codes "install entry 7 case 0 repair 0" ∷
    codes "withdraw entry 13 case 0 repair 0" ∷
    codes "install entry 13 case 0 repair 1" ∷
    codes "withdraw entry 14 case 0 repair 1" ∷
    codes "install entry 14 case 0 repair 2" ∷
    codes "install entry 17 case 1 repair 0" ∷
    codes "learned 97" ∷
    codes "end" ∷ [])

abbrev pub kept_after_fail_report : List ℕ
kept_after_fail_report = kept_after_fail_entries ++ kept_after_fail_cases ++ kept_after_fail_rest
