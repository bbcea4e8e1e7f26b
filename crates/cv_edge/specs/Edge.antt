-- What a store and a sink promise (docs/ARCHITECTURE.md, "The outside").
use Rattle.std.specs.Prelude.{◌≡◌, ℕ, ◌+◌, ◌-◌, ◌^◌, ◌≤◌, min, max, nat_le, if◌then◌else◌, List, ◌++◌, length, take, Option, Some, None}
use Rattle.cv_edge.specs.declared.store.Fetched.{Fetched}
use Rattle.cv_edge.specs.declared.store.Fetched.TheVariants.{Missing, Whole, Longer}

-- what a store tells: the bytes under each name, and how many fetches it has had
pub record Held : Type 0 where
  pub file : List ℕ → Option (List ℕ)
  pub fetches : ℕ

-- what a fetch answers where the name has these bytes, or none
abbrev pub fetched_of : Option (List ℕ) → ℕ → Fetched
fetched_of None limit = Missing
fetched_of (Some bytes) limit = if nat_le (length bytes) limit then Whole bytes else Longer (take (limit + 1) bytes)

-- Whole has at most `limit` bytes, and Longer one more
abbrev pub IsSized : ℕ → Fetched → Type 0
IsSized limit Missing = Unit {0}
IsSized limit (Whole bytes) = length bytes ≤ limit
IsSized limit (Longer bytes) = length bytes ≡ limit + 1

-- a count one higher; it stops at 2^64 - 1
abbrev pub counted : ℕ → ℕ
counted n = max n (min (n + 1) (2 ^ 64 - 1))

-- the same files, after one more fetch
pub record OneMore (old new : Held) : Type 0 where
  pub same : new.file ≡ old.file
  pub counts : new.fetches ≡ counted old.fetches

-- one fetch, where the store tells; a store that tells goes on, and one that does not never begins
abbrev pub Asked : Option Held → Option Held → Type 0
Asked None None = Unit {0}
Asked (Some old) (Some new) = OneMore old new
Asked _ _ = ⊥

-- the same files, after at most n more fetches
pub record UpTo (n : ℕ) (old new : Held) : Type 0 where
  pub same : new.file ≡ old.file
  pub rises : old.fetches ≤ new.fetches
  pub at_most : new.fetches ≤ old.fetches + n

-- at most n fetches, where the store tells
abbrev pub FetchesUpTo : ℕ → Option Held → Option Held → Type 0
FetchesUpTo n None None = Unit {0}
FetchesUpTo n (Some old) (Some new) = UpTo n old new
FetchesUpTo n _ _ = ⊥

-- at most one fetch, where the store tells
abbrev pub FetchesOnce : Option Held → Option Held → Type 0
FetchesOnce old new = FetchesUpTo 1 old new

-- a count of faults rose, or stands at its end
abbrev pub Rose : ℕ → ℕ → Type 0
Rose before now = min (before + 1) (2 ^ 64 - 1) ≤ now

-- a count of faults never falls, and a failure comes only where it rose
pub record HasCause (before now : ℕ) (Failure : Type 0) : Type 0 where
  pub later : before ≤ now
  pub failed : Failure → Rose before now

-- the text was added to what the sink tells; a sink that tells goes on, and one that does not never begins
abbrev pub Appends : Option (List ℕ) → Option (List ℕ) → List ℕ → Type 0
Appends None None text = Unit {0}
Appends (Some old) (Some new) text = new ≡ old ++ text
Appends _ _ text = ⊥

-- some first bytes of the text were added
abbrev pub AppendsPrefix : Option (List ℕ) → Option (List ℕ) → List ℕ → Type 0
AppendsPrefix old new text = (n : ℕ) × (n ≤ length text) × Appends old new (take n text)

-- nothing was added
abbrev pub Keeps : Option (List ℕ) → Option (List ℕ) → Type 0
Keeps old new = new ≡ old
