-- Laws on histories: one more entry, and prefixes.
use Rattle.std.proofs.Common.{◌≡◌, List, [], ◌∷◌, ◌++◌, refl, ap}
use Rattle.std.specs.Prelude.{reverse}
use Rattle.std.proofs.lemmas.List.{reverse-append}
use Rattle.cv_base.specs.declared.entries.Entry.{Entry}
use Rattle.cv_base.specs.PlanOf.{PlanOf}
use Rattle.cv_histories.specs.Legal.{IsLegal}
use Rattle.cv_histories.specs.Versions.{Ledger, ledger, posted, versions_of}

reverse_push : (history : List Entry) (e : Entry) → reverse (history ++ e ∷ []) ≡ e ∷ reverse history
reverse_push history e = rw reverse-append

-- the versions of a history with one more entry are what posting the entry makes of them
pub versions_of-push : (plan : PlanOf) (history : List Entry) (e : Entry) →
    versions_of plan (history ++ e ∷ []) ≡ (posted plan (ledger plan (reverse history)) e).versions
versions_of-push plan history e = ap (λ (entries : List Entry). (ledger plan entries).versions) (reverse_push history e)

-- what came before the newest entries of a legal history is legal
pub IsLegal-before : (plan : PlanOf) (newest past : List Entry) → IsLegal plan (newest ++ past) → IsLegal plan past
IsLegal-before plan [] past legal = legal
IsLegal-before plan (e ∷ newest) past legal = IsLegal-before plan newest past legal.1
