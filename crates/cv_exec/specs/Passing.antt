-- Plain turns that a live run makes at once, between two block entries and where no patch stands.
use Rattle.std.specs.Prelude.{◌≤◌, ℕ, Bool, false, ◌+◌, ◌-◌, List, Option, option_map, IfSome}
use Rattle.cv_exec.specs.ArenaOf.{Going}
use Rattle.cv_exec.specs.declared.patched.Patched.{Patched}
use Rattle.cv_exec.specs.LiveRun.{Span}
use Rattle.cv_runs.specs.BlockEntries.{is_entry, since_next}

-- `turns` turns end before the next block entry, or with it
abbrev pub EndsBy : Option ℕ → ℕ → Type 0
EndsBy rule turns = IfSome rule (λ since. since + turns ≤ 65)

-- what a live run keeps behind the last turn before which the last block entry was so long ago
abbrev pub passed_by : Option ℕ → Bool → Patched → Patched
passed_by rule transfer p = record p { enters = is_entry rule transfer; rule = since_next (is_entry rule transfer) rule; entered = false }

-- and behind so many turns, of which the last alone may be a transfer
abbrev pub passed : ℕ → Bool → Patched → Patched
passed turns transfer p = passed_by (option_map (λ (since : ℕ). since + (turns - 1)) p.rule) transfer p

-- a run after so many turns, and with these versions adopted
abbrev pub with_turns : ℕ → Option Going → Option Going
with_turns turns going = option_map (λ (g : Going). record g { turns = turns }) going

abbrev pub with_adopted : List Span → Option Going → Option Going
with_adopted adopted going = option_map (λ (g : Going). record g { adopted = adopted }) going
