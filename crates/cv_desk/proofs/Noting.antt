-- The versions after a post, and the row in the master's book list.
use Rattle.std.proofs.Common.{◌≡◌, ◌≤◌, ◌<◌, ◌+◌, ℕ, zero, suc, Bool, true, false, List, [], ◌∷◌, ◌++◌, length, Option, Some, None, refl, sym, ap, ◌∙◌, subst, arith}
use Rattle.std.specs.Prelude.{◌-◌, if◌then◌else◌, slice_get}
use Rattle.std.proofs.lemmas.List.{append-nil, length-append}
use Rattle.std.proofs.lemmas.Option.{same_Some}
use Rattle.cv_base.specs.declared.entries.Entry.{Entry}
use Rattle.cv_base.specs.PlanOf.{IsPlan, PlanOf}
use Rattle.cv_desk.specs.Passes.{Sight}
use Rattle.cv_desk.specs.Standing.{AreAfter, IsNoted}
use Rattle.cv_histories.specs.Legal.{IsLegal, MayFollow}
use Rattle.cv_histories.specs.Versions.{ledger, newest_of, same_table, seen_by, table}
use Rattle.cv_laws.specs.RoundStatements.{RunsAreCounted}
use Rattle.cv_laws.specs.Statements.{FollowedHasRoom}
use Rattle.cv_manager.specs.ManagerOf.{ManagerOf, ledger_in, version_added, with_entry}
use Rattle.cv_rule.specs.Steps.{announced, booked, entries_of}
use Rattle.cv_rule.specs.declared.view.Role.TheVariants.{Master}
use Rattle.cv_runs.specs.PatchedRun.{Table}

-- ---- the row in the book list

pub noted_booked : (versions : List Table) (v w : Sight) (n : ℕ) → v.role ≡ Master → versions ≡ v.known.versions → n ≡ length v.known.versions → w ≡ booked v (n - 1) → IsNoted versions v w
noted_booked versions v w n role same count is =
    subst (λ (x : Sight). IsNoted versions v x) (sym is)
    (record {
      role = role;
      hand = refl;
      absent = refl;
      opening = refl;
      versions_are = append-nil v.known.versions ∙ sym same;
      posted = ap (λ (k : ℕ). v.known.posted ++ entries_of (k - 1) v.hand) (count ∙ ap (λ (l : List Table). length l) (sym same));
    })

-- the last of a list
get_last : (xs : List Table) (t : Table) (n : ℕ) → n ≡ length xs → slice_get (xs ++ t ∷ []) n ≡ Some t
get_last [] t zero is = refl
get_last [] t (suc n) is = absurd (omega arith)
get_last (x ∷ xs) t zero is = absurd (omega arith)
get_last (x ∷ xs) t (suc n) is = get_last xs t n (omega arith)

pub noted_announced : (versions : List Table) (v w : Sight) (n : ℕ) (found : Table) → v.role ≡ Master → AreAfter (Some n) v.known.versions versions → slice_get versions n ≡ Some found → w ≡ announced v found → IsNoted versions v w
noted_announced versions v w n found role after at is =
    let all = after.3 in
    let last : found ≡ after.2 = same_Some found after.2 (sym at ∙ (ap (λ (l : List Table). slice_get l n) all ∙ get_last v.known.versions after.2 n after.0)) in
    let count : length v.known.versions ≡ length versions - 1 = omega (arith, ap (λ (l : List Table). length l) all, length-append v.known.versions (after.2 ∷ [])) in
    subst (λ (x : Sight). IsNoted versions v x) (sym is)
    (record {
      role = role;
      hand = refl;
      absent = refl;
      opening = refl;
      versions_are = ap (λ (t : Table). v.known.versions ++ t ∷ []) last ∙ sym all;
      posted = ap (λ (k : ℕ). v.known.posted ++ entries_of k v.hand) count;
    })

-- ---- the versions after an entry

after_by : (b : Bool) (versions : List Table) (t : Table) → length versions < 1025 → AreAfter (if b then None else Some (length versions)) versions (if b then versions else versions ++ t ∷ [])
after_by true versions t few = refl
after_by false versions t few = (refl, few, t, refl)

-- one at most is new
grows_by : (b : Bool) (versions : List Table) (t : Table) → length (if b then versions else versions ++ t ∷ []) ≤ length versions + 1
grows_by true versions t = omega arith
grows_by false versions t = omega (arith, length-append versions (t ∷ []))

-- a history has one version more than entries at most
pub few_versions : (plan : PlanOf) (past : List Entry) → length (ledger plan past).versions ≤ length past + 1
few_versions plan [] = omega arith
few_versions plan (e ∷ past) =
    let l = ledger plan past in
    omega (arith, few_versions plan past, grows_by (same_table (table plan (seen_by l e)) (newest_of l.versions)) l.versions (table plan (seen_by l e)))

-- by the laws that a history which goes on has room, and that the rounds have all runs
module _ (has_room : FollowedHasRoom) (counted : RunsAreCounted) where
  -- where an entry may follow, there are fewer than 1,025
  room_for : (plan : PlanOf) (past : List Entry) (e : Entry) → IsPlan plan → IsLegal plan past → MayFollow plan past e → length (ledger plan past).versions < 1025
  room_for plan past e limits legal may =
      omega (arith, few_versions plan past, has_room plan past e legal may, counted plan plan.rounds refl, limits.few_runs)

  pub are_after : (book : ManagerOf) (e : Entry) → IsPlan book.plan → IsLegal book.plan book.past → MayFollow book.plan book.past e
      → AreAfter (version_added book e) (ledger_in book).versions (ledger_in (with_entry book e)).versions
  are_after book e limits legal may =
      let l = ledger_in book in
      after_by (same_table (table book.plan (seen_by l e)) (newest_of l.versions)) l.versions (table book.plan (seen_by l e)) (room_for book.plan book.past e limits legal may)

  -- as the calls tell it
  pub after_at : (book now : ManagerOf) (e : Entry) (added : Option ℕ) (before : List Table) → IsPlan book.plan → IsLegal book.plan book.past → MayFollow book.plan book.past e
      → added ≡ version_added book e → now ≡ with_entry book e → before ≡ (ledger_in book).versions → AreAfter added before (ledger_in now).versions
  after_at book now e added before limits legal may is_added is_now is_before =
      subst (λ (a : Option ℕ). AreAfter a before (ledger_in now).versions) (sym is_added)
      (subst (λ (l : List Table). AreAfter (version_added book e) l (ledger_in now).versions) (sym is_before)
      (subst (λ (n : ManagerOf). AreAfter (version_added book e) (ledger_in book).versions (ledger_in n).versions) (sym is_now) (are_after book e limits legal may)))
