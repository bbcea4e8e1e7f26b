-- After the runs below a number, in order, the next entry may follow.
use Rattle.std.proofs.Common.{◌≡◌, ◌≤◌, ◌<◌, ℕ, Bool, List, [], ◌∷◌, ap, arith}
use Rattle.std.specs.Prelude.{◌≢◌, ◌==◌, nat_lt}
use Rattle.std.specs.List.{AllByRecursion}
use Rattle.cv_base.specs.declared.entries.Adopted.{Adopted}
use Rattle.cv_base.specs.declared.entries.Entry.{Entry}
use Rattle.cv_base.specs.PlanOf.{IsPlan, PlanOf}
use Rattle.cv_histories.specs.Legal.{MayFollow, NeverFalls, floor_of, round_in, round_of}
use Rattle.cv_histories.specs.Versions.{newest}
use Rattle.cv_laws.specs.InOrder.{AreBelow, IsNext}
use Rattle.cv_laws.specs.Each.{weaker}
use Rattle.cv_laws.proofs.InOrder.{all_below, has_entry}
use Rattle.cv_laws.proofs.RunOrder.{earlier_below}
use Rattle.cv_laws.proofs.VersionTables.{floor_below}
use Rattle.cv_laws.specs.Statements.{NextMayFollow}

-- rows of one version alone never fall
same_never_falls : (v : ℕ) (rows : List Adopted) → AllByRecursion (λ (a : Adopted). a.version ≡ v) rows → NeverFalls rows
same_never_falls v [] all = tt
same_never_falls v (a ∷ []) all = tt
same_never_falls v (a ∷ b ∷ rest) all =
    let first = all.0 in
    let second = all.1.0 in
    (omega arith, same_never_falls v (b ∷ rest) all.1)

-- the next entry may follow
pub next_may_follow : NextMayFollow
next_may_follow plan k past e is_plan are next =
    let some = is_plan.some_worker in
    let is = next.run in
    let worker = next.worker in
    let honest = next.honest in
    let below = all_below k k past are (omega arith) in
    let round : round_of plan e ≡ honest.run.round = ap round_in honest.of_plan in
    let above_floor = λ (test : Entry → Bool). weaker (λ (a : Adopted). a.version ≡ newest plan past) (λ (a : Adopted). floor_of plan test past ≤ a.version)
    (λ a same. let low = floor_below plan test past in omega arith) e.adopted next.newest_alone in
    record {
      worker = omega arith;
      fresh = weaker (λ (o : Entry). o.run < k) (λ (o : Entry). o.run ≢ e.run) (λ o less same. omega arith) past below;
      rounds = λ number run at earlier. has_entry k number past are (rw (← is) (earlier_below plan e.run number honest.run run honest.of_plan at (rw round at earlier)));
      rises = weaker (λ (o : Entry). o.run < k) (λ (o : Entry). round_of plan o ≡ round_of plan e → o.worker ≡ e.worker → o.run < e.run) (λ o less same_round same_worker. omega arith) past below;
      honest = honest;
      never_falls = same_never_falls (newest plan past) e.adopted next.newest_alone;
      above_worker = above_floor (λ (o : Entry). o.worker == e.worker);
      above_rounds = above_floor (λ (o : Entry). nat_lt (round_of plan o) (round_of plan e));
      at_most_newest = weaker (λ (a : Adopted). a.version ≡ newest plan past) (λ (a : Adopted). a.version ≤ newest plan past) (λ a same. omega arith) e.adopted next.newest_alone;
    }
