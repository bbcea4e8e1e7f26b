use Rattle.std.proofs.Common.{◌≡◌, take, string_bytes}
use Rattle.std.specs.List.{flat_map}
use Rattle.cv_base.specs.declared.invariants.Invariant.{Invariant}
use Rattle.cv_base.specs.InvariantText.{invariant_text}
use Rattle.cv_histories.specs.Report.{line}
use Rattle.clearview.proofs.infer.infer_lines.Given as goal

abbrev pub invariant-loop-invariant : goal.invariant-loop-invariant
invariant-loop-invariant l = string_bytes l.text ≡ flat_map (λ (k : Invariant). line (invariant_text k)) (take l.invariant-index l.invariants)
