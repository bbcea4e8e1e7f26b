-- How a run ends with a turn, and its sites, read from the core in which it ended (docs/REPAIR.md,
-- "Entries").
use Rattle.std.specs.Prelude.{ℕ, ◌==◌, ◌-◌, if◌then◌else◌, List, [], ◌∷◌, map, take, Option, Some, None}
use Rattle.cv_base.specs.declared.ends.End.{End}
use Rattle.cv_base.specs.declared.ends.End.TheVariants.{Failure, Budget}
use Rattle.cv_runs.specs.State.{Outcome, Next, Ended}
use Rattle.cv_shadow.specs.declared.frames.Core.{Core}
use Rattle.cv_shadow.specs.declared.frames.Frame.{Frame}

-- how a run ends with a turn of this outcome, if it does; `left` turns were left with it
abbrev pub end_with : ℕ → Outcome → Option End
end_with left (Next s transfer) = if left == 1 then Some Budget else None
end_with left (Ended end) = Some end

-- the pc and the call addresses of the top frames, four in all at most
abbrev pub core_sites : Core → List ℕ
core_sites core = take 4 (core.pc ∷ map (λ (f : Frame). f.call) core.frames)

-- none where the run did not fail
abbrev pub end_sites : End → Core → List ℕ
end_sites (Failure id detail) core = core_sites core
end_sites _ core = []

-- the turns that a budget still allows after one more: none where the run has ended
abbrev pub left_after : ℕ → Outcome → ℕ
left_after left (Next s transfer) = left - 1
left_after left (Ended end) = 0
