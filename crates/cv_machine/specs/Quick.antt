-- A quick turn: a plain turn that goes on, from a place in the text. What it does not do it leaves
-- to the whole turn, and has then changed nothing.
use Rattle.std.specs.Prelude.{◌≡◌, ℕ, true, false, ◌+◌, ◌*◌, ◌<◌}
use Rattle.cv_base.specs.Picture.{Picture}
use Rattle.cv_machine.specs.declared.quick.Quick.{Quick}
use Rattle.cv_machine.specs.declared.quick.Quick.TheVariants.{On, Jump, Slow}
use Rattle.cv_machine.specs.Held.{Held, state_of}
use Rattle.cv_runs.specs.State.{State, Outcome, Next, moved}

-- the address of the word at a place of the text
abbrev pub address_at : Picture → ℕ → ℕ
address_at image at = image.text_base + 4 * at

-- the state of a machine whose pc is at a place
abbrev pub state_at : Held → ℕ → State
state_at h at = moved (state_of h) (address_at h.image at)

-- what an answer says of the outcome of a turn, and of the machine before and after it
abbrev pub Tells : Held → Held → Outcome → Quick → Type 0
Tells h n outcome (On next) = outcome ≡ Next (state_at n next) false
Tells h n outcome (Jump next) = outcome ≡ Next (state_at n next) true
Tells h n outcome Slow = n ≡ h

-- the next place is one of the `count` of the text
abbrev pub IsPlace : ℕ → Quick → Type 0
IsPlace count (On next) = next < count
IsPlace count (Jump next) = next < count
IsPlace count Slow = Unit {0}

-- where the answer goes on
abbrev pub IsNext : Quick → ℕ → Type 0
IsNext (On place) next = place ≡ next
IsNext (Jump place) next = place ≡ next
IsNext Slow next = ⊥
