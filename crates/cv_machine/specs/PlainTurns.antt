-- Plain turns one after another, none of which ends the run.
use Rattle.std.specs.Prelude.{◌≡◌, ℕ, suc, zero, Bool, true, false}
use Rattle.cv_base.specs.Picture.{Picture}
use Rattle.cv_runs.specs.PlainTurn.{turn_of}
use Rattle.cv_runs.specs.State.{State, Outcome, Next, Ended}

abbrev pub GoesOn : Outcome → (State → Bool → Type 0) → Type 0
GoesOn (Next next transfer) Rest = Rest next transfer
GoesOn (Ended end) Rest = ⊥

-- `count` plain turns lead from a state to another
abbrev pub LeadTo : Picture → ℕ → State → State → Type 0
LeadTo image zero s t = t ≡ s
LeadTo image (suc count) s t = GoesOn (turn_of image s) (λ next transfer. LeadTo image count next t)

-- the same, where no turn but the last is a transfer; `transfer` says whether that one is
abbrev pub LastOf : ℕ → State → State → Bool → Bool → Type 0 → Type 0
LastOf count next t transfer true Rest = (count ≡ 0) × (t ≡ next) × (transfer ≡ true)
LastOf count next t transfer false Rest = Rest

abbrev pub IsStretch : Picture → ℕ → State → State → Bool → Type 0
IsStretch image zero s t transfer = (t ≡ s) × (transfer ≡ false)
IsStretch image (suc count) s t transfer =
    GoesOn (turn_of image s) (λ next last. LastOf count next t transfer last (IsStretch image count next t transfer))
