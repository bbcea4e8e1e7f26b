-- Histories of the runs below a number, in order.
use Rattle.std.proofs.Common.{◌≡◌, ◌<◌, ◌≤◌, ◌+◌, ℕ, List, [], ◌∷◌, length, refl, sym, ap, ⊎_elim, arith}
use Rattle.std.proofs.lemmas.Bool.{cases_lt}
use Rattle.std.proofs.lemmas.List.Elements.{Contains-append_right}
use Rattle.std.specs.Prelude.{map}
use Rattle.std.specs.List.{AllByRecursion}
use Rattle.cv_base.specs.declared.entries.Entry.{Entry}
use Rattle.cv_base.specs.PlanOf.{PlanOf}
use Rattle.cv_histories.specs.Legal.{IsWhole}
use Rattle.cv_histories.specs.Runs.{runs}
use Rattle.cv_histories.specs.Seen.{Seen}
use Rattle.cv_histories.specs.Versions.{ledger}
use Rattle.cv_laws.specs.InOrder.{AreBelow, HasEntry}
use Rattle.cv_laws.specs.Statements.{BelowIsWhole}

-- no entry has a higher run
pub all_below : (n k : ℕ) (past : List Entry) → AreBelow k past → k ≤ n → AllByRecursion (λ (o : Entry). o.run < n) past
all_below n k [] are few = tt
all_below n k (o ∷ past) are few =
    let next = are.0 in
    (omega arith, all_below n o.run past are.1 (omega arith))

-- with an entry of run k they are those below the next number
pub one_more : (k : ℕ) (past : List Entry) (e : Entry) → e.run ≡ k → AreBelow k past → AreBelow (k + 1) (e ∷ past)
one_more k past e is are = (ap (λ n. n + 1) (sym is), rw is are)

-- ---- each of them has an entry

-- the newest entry, and one of those before it
pub has_first : (number : ℕ) (o : Entry) (past : List Entry) → o.run ≡ number → HasEntry number (o ∷ past)
has_first number o past is = (o, (0, omega arith, refl), is)

pub has_later : (number : ℕ) (o : Entry) (past : List Entry) → HasEntry number past → HasEntry number (o ∷ past)
has_later number o past has = (has.0, Contains-append_right (o ∷ []) past has.0 has.1, has.2)

-- every run below k has one
pub has_entry : (k number : ℕ) (past : List Entry) → AreBelow k past → number < k → HasEntry number past
has_entry k number [] are below = absurd (omega arith)
has_entry k number (o ∷ past) are below =
    let next = are.0 in
    ⊎_elim (λ less. has_later number o past (has_entry o.run number past are.1 less))
    (λ above. has_first number o past (omega arith)) (cases_lt number o.run)

-- so with all runs the history is whole
pub below_is_whole : BelowIsWhole
below_is_whole plan k past are all number below = has_entry k number past are (omega arith)

-- ---- the entries of a ledger

-- are those of its history
pub entries_seen : (plan : PlanOf) (past : List Entry) → map (λ (s : Seen). s.entry) (ledger plan past).seen ≡ past
entries_seen plan [] = refl
entries_seen plan (e ∷ past) = ap (λ (rest : List Entry). e ∷ rest) (entries_seen plan past)
