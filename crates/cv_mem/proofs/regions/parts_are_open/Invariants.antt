use Rattle.std.proofs.Common.{◌≡◌, ℕ, ◌+◌, ◌-◌, ◌<◌, ◌≤◌, true}
use Rattle.cv_mem.specs.Access.{is_open}
use Rattle.cv_mem.proofs.regions.parts_are_open.Given as goal

abbrev pub invariant-parts : goal.invariant-parts
invariant-parts l = record {
  from : l.addr ≤ l.at;
  each : (k : ℕ) → l.addr ≤ k → k < l.at → is_open l.access l.regions k ≡ true;
}

abbrev pub decreases-parts : goal.decreases-parts
decreases-parts l = l.addr + l.len - l.at
