-- Laws of the tests, of honest entries and of entries that are walked through (docs/REPAIR.md, "Audit").
use Rattle.std.specs.Prelude.{◌≡◌, ◌↔◌, ◌<◌, ◌+◌, ℕ, Contains, List, [], ◌∷◌, get_or, length, reverse, take}
use Rattle.cv_base.specs.declared.entries.Entry.{Entry}
use Rattle.cv_base.specs.PlanOf.{PlanOf}
use Rattle.cv_histories.specs.Honest.{IsHonest}
use Rattle.cv_histories.specs.Legal.{MayFollow}
use Rattle.cv_histories.specs.Rows.{written}
use Rattle.cv_runs.specs.PatchedRun.{Table}
use Rattle.cv_audit.specs.Clauses.{Breaks, PassesAll}

-- an entry may follow a history exactly where it passes all tests, and then it breaks no clause; it
-- breaks one clause first at most
abbrev pub TestsAreFollowing : Type 0
TestsAreFollowing =
    (plan : PlanOf) (past : List Entry) (e : Entry)
    → (PassesAll plan past e ↔ MayFollow plan past e)
    × ((clause : ℕ) → Breaks plan past e clause → MayFollow plan past e → ⊥)
    × ((a b : ℕ) → Breaks plan past e a → Breaks plan past e b → a ≡ b)

-- versions agree as far as both go
abbrev pub AgreeSoFar : List ℕ → List ℕ → Type 0
AgreeSoFar [] ws = Unit {0}
AgreeSoFar (v ∷ vs) [] = Unit {0}
AgreeSoFar (v ∷ vs) (w ∷ ws) = (v ≡ w) × AgreeSoFar vs ws

-- of one run by one worker there is one honest entry whose versions begin so
abbrev pub OneHonestEntry : Type 0
OneHonestEntry =
    (plan : PlanOf) (versions : List Table) (e o : Entry) → IsHonest plan versions e → IsHonest plan versions o
    → e.run ≡ o.run → e.worker ≡ o.worker → AgreeSoFar (written e.adopted) (written o.adopted) → e ≡ o

-- the entries up to one are it and those before it, the newest first
abbrev pub OneMoreEntry : Type 0
OneMoreEntry =
    (history : List Entry) (k : ℕ) (o : Entry) → k < length history → o ≡ get_or history k o
    → reverse (take (k + 1) history) ≡ o ∷ reverse (take k history)

-- the entry at a place is one of them
abbrev pub EntriesAreContained : Type 0
EntriesAreContained = (history : List Entry) (k : ℕ) (o : Entry) → k < length history → o ≡ get_or history k o → Contains (reverse history) o
