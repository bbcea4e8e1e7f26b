-- Where a block begins, and so a run adopts a version (docs/REPAIR.md, "Block entries").
use Rattle.std.specs.Prelude.{ℕ, Bool, true, false, ◌||◌, ◌==◌, ◌+◌, Option, Some, None}

-- whether a turn is a block entry: the first one is, the one after a transfer, and the 64th after
-- the last block entry, which was `since` turns ago
abbrev pub is_entry : Option ℕ → Bool → Bool
is_entry None after_transfer = true
is_entry (Some since) after_transfer = after_transfer || (since == 64)

-- how many turns ago the last block entry was, at the next turn
abbrev pub since_next : Bool → Option ℕ → Option ℕ
since_next true since = Some 1
since_next false None = Some 1
since_next false (Some n) = Some (n + 1)
