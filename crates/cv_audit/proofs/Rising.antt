-- Rows as a walk through them tells them, and as the definitions do.
use Rattle.std.proofs.Common.{◌≡◌, ◌≤◌, ℕ, List, [], ◌∷◌, Some, None, ap, arith}
use Rattle.std.specs.Prelude.{◌↔◌}
use Rattle.cv_base.specs.declared.entries.Adopted.{Adopted}
use Rattle.cv_histories.specs.Honest.{IsJoined}
use Rattle.cv_histories.specs.Legal.{NeverFalls}
use Rattle.cv_audit.specs.Rising.{JoinedFrom, RiseFrom}

rises : (a : Adopted) (rest : List Adopted) → RiseFrom a.version rest ↔ NeverFalls (a ∷ rest)
rises a [] = (λ rise. tt, λ never. tt)
rises a (b ∷ rest) = let more = rises b rest in (λ rise. (rise.0, more.0 rise.1), λ never. (never.0, more.1 never.1))

pub from_zero : (rows : List Adopted) → RiseFrom 0 rows ↔ NeverFalls rows
from_zero [] = (λ rise. tt, λ never. tt)
from_zero (a ∷ rest) = let more = rises a rest in (λ rise. more.0 rise.1, λ never. (omega arith, more.1 never))

joined : (a : Adopted) (rest : List Adopted) → ((1 ≤ a.entries) × JoinedFrom (Some a.version) rest) ↔ IsJoined (a ∷ rest)
joined a [] = (λ from. from.0, λ is. (is, tt))
joined a (b ∷ rest) =
    let more = joined b rest in (
      λ from. (from.0, λ same. from.1.1 (ap Some same), more.0 (from.1.0, from.1.2)),
      λ is. let inner = more.1 is.2 in (is.0, (inner.0, λ same. is.1 (unwrapped a.version b.version same), inner.1)),
    )
  where
    unwrapped : (v w : ℕ) → Some v ≡ Some w → v ≡ w
    unwrapped v w same = cc

pub from_none : (rows : List Adopted) → JoinedFrom None rows ↔ IsJoined rows
from_none [] = (λ from. tt, λ is. tt)
from_none (a ∷ rest) = let more = joined a rest in (λ from. more.0 (from.0, from.2), λ is. let inner = more.1 is in (inner.0, λ same. no_version a.version same, inner.1))
  where
    no_version : (v : ℕ) → None ≡ Some v → ⊥
    no_version v same = cc
