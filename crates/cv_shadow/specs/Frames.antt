-- The shadow stack as a list of frames, the top first (docs/MACHINE.md, "Link rules").
use Rattle.std.specs.Prelude.{ℕ, ◌==◌, if◌then◌else◌, List, [], ◌∷◌}
use Rattle.cv_base.specs.declared.TheConstants.{STACK_END}
use Rattle.cv_shadow.specs.declared.frames.Frame.{Frame}
use Rattle.cv_shadow.specs.declared.frames.PopEnd.{PopEnd}
use Rattle.cv_shadow.specs.declared.frames.PopEnd.TheVariants.{Match, Differs, Empty}

-- the stack pointer before the newest call that has not returned
abbrev pub frame_sp : List Frame → ℕ
frame_sp [] = STACK_END
frame_sp (f ∷ fs) = f.sp

-- what a return to the target finds
abbrev pub pop_end : List Frame → ℕ → PopEnd
pop_end [] target = Empty
pop_end (f ∷ fs) target = if f.back == target then Match else Differs f.back

-- the frames after a return to the target
abbrev pub popped : List Frame → ℕ → List Frame
popped [] target = []
popped (f ∷ fs) target = if f.back == target then fs else f ∷ fs
