-- The round up to which a legal history goes, or its first round of which a part is kept.
use Rattle.std.proofs.Common.{◌≡◌, ℕ, ◌<◌, ◌≤◌, List, [], ◌∷◌, length, Option, Some, None, refl, sym, ap, ◌∙◌, subst, ⊎_elim, arith}
use Rattle.std.specs.Prelude.{◌≢◌, IsSomeAnd}
use Rattle.std.specs.List.{AllByRecursion}
use Rattle.std.proofs.lemmas.Bool.{cases_lt}
use Rattle.std.proofs.lemmas.List.Elements.{Contains-append_right}
use Rattle.std.proofs.lemmas.Option.{slice_get_within}
use Rattle.cv_audit.specs.Clauses.{HasRun}
use Rattle.cv_audit.specs.Judged.{IsLeast}
use Rattle.cv_base.specs.declared.entries.Entry.{Entry}
use Rattle.cv_base.specs.PlanOf.{PlanOf}
use Rattle.cv_desk.specs.Openings.{IsUpTo}
use Rattle.cv_histories.specs.Legal.{IsLegal, IsWhole, round_in, round_of}
use Rattle.cv_histories.specs.Runs.{Run, run_at, runs}
use Rattle.cv_laws.specs.Each.{of_one}
use Rattle.cv_laws.specs.RoundStatements.{EarlierIsBelow}
use Rattle.cv_resume.specs.Refusing.{HasEntryOf}
use Rattle.cv_resume.specs.Restored.{IsFirstPart, IsOfRound}
use Rattle.cv_resume.proofs.Rounds.{get_there, round_within}

-- ---- runs and rounds

pub some_of : {X : Type 0} (P : X → Type 0) (o : Option X) → IsSomeAnd o P → (x : X) × (o ≡ Some x) × P x
some_of P None has = absurd has
some_of P (Some x) has = (x, refl, has)

-- a run that is there is of its round
of_its_round : (plan : PlanOf) (number : ℕ) (run : Run) → run_at plan number ≡ Some run → IsOfRound plan (round_in (run_at plan number)) number
of_its_round plan number run at = subst (λ (o : Option Run). IsSomeAnd o (λ (r : Run). r.round ≡ round_in o)) (sym at) refl

-- and so is that of each entry of a legal history
pub runs_are : (plan : PlanOf) (past : List Entry) → IsLegal plan past → AllByRecursion (λ (o : Entry). IsOfRound plan (round_of plan o) o.run) past
runs_are plan [] legal = tt
runs_are plan (e ∷ past) legal = (of_its_round plan e.run legal.0.honest.run legal.0.honest.of_plan, runs_are plan past legal.1)

-- whose round is the plan's
rounds_are : (plan : PlanOf) (past : List Entry) → IsLegal plan past → AllByRecursion (λ (o : Entry). round_of plan o < length plan.rounds) past
rounds_are plan [] legal = tt
rounds_are plan (e ∷ past) legal =
    let run = legal.0.honest.run in
    let at : run_at plan e.run ≡ Some run = legal.0.honest.of_plan in
    let within = round_within 0 plan.rounds e.run run at in
    let round : round_of plan e ≡ run.round = ap round_in at in
    (omega arith, rounds_are plan past legal.1)

-- ---- all runs

pub whole_is_up_to : (plan : PlanOf) (past : List Entry) (n : ℕ) → n ≡ length plan.rounds → IsLegal plan past → IsWhole plan past → IsUpTo plan n past
whole_is_up_to plan past n is legal whole =
    subst (λ (k : ℕ). IsUpTo plan k past) (sym is)
    (record {
      all = λ number run at below. whole number (slice_get_within (runs plan) number run at);
      no_others = rounds_are plan past legal;
    })

-- ---- the least run that has no entry

with_newer : (k : ℕ) (e : Entry) (past : List Entry) → HasRun past k → HasRun (e ∷ past) k
with_newer k e past has = (has.0, Contains-append_right (e ∷ []) past has.0 has.1, has.2)

-- no entry is of a later round, and where none is of its round, all are of earlier ones
no_later : (plan : PlanOf) (k : ℕ) (r : Run) → run_at plan k ≡ Some r → (past : List Entry) → IsLegal plan past → (HasRun past k → ⊥) → AllByRecursion (λ (o : Entry). round_of plan o ≢ r.round) past
    → AllByRecursion (λ (o : Entry). round_of plan o < r.round) past
no_later plan k r at [] legal lacks apart = tt
no_later plan k r at (e ∷ past) legal lacks apart = (
  ⊎_elim (λ below. below)
      (λ above. ⊎_elim (λ later. absurd (lacks (with_newer k e past (legal.0.rounds k r at later)))) (λ low. absurd (apart.0 (omega arith))) (cases_lt r.round (round_of plan e)))
      (cases_lt (round_of plan e) r.round),
  no_later plan k r at past legal.1 (λ has. lacks (with_newer k e past has)) apart.1,
)

module _ (plan : PlanOf) (past : List Entry) (k : ℕ) (legal : IsLegal plan past) (least : IsLeast plan past k) where
  of_least : (r : Run) × (run_at plan k ≡ Some r)
  of_least = get_there (runs plan) k least.of_plan

  its_round : (round : ℕ) → round ≡ round_in (run_at plan k) → of_least.0.round ≡ round
  its_round round is = sym (is ∙ ap round_in of_least.1)

  -- it is of the plan
  pub least_within : (round : ℕ) → round ≡ round_in (run_at plan k) → round ≤ length plan.rounds
  least_within round is =
      let same = its_round round is in
      let within = round_within 0 plan.rounds k of_least.0 of_least.1 in
      omega arith

  -- all runs of earlier rounds have entries, and where none is of its round, no others have
  pub least_up_to : EarlierIsBelow → (round : ℕ) → round ≡ round_in (run_at plan k) → AllByRecursion (λ (o : Entry). round_of plan o ≢ round) past → IsUpTo plan round past
  least_up_to earlier_is_below round is apart =
      let r = of_least.0 in
      let same = its_round round is in
      subst (λ (n : ℕ). IsUpTo plan n past) same
      (record {
        all = λ number run at below. least.least number (earlier_is_below plan k number r run of_least.1 at below);
        no_others = no_later plan k r of_least.1 past legal least.none (subst (λ (n : ℕ). AllByRecursion (λ (o : Entry). round_of plan o ≢ n) past) (sym same) apart);
      })

  -- else it is the first round of which a part is kept
  pub least_part : EarlierIsBelow → (round : ℕ) → round ≡ round_in (run_at plan k) → HasEntryOf plan round past → IsFirstPart plan past round
  least_part earlier_is_below round is has =
      let r = of_least.0 in
      let same = its_round round is in
      let e = has.0 in
      record {
        part = record {
          kept = e.run;
          kept_in = subst (λ (n : ℕ). IsOfRound plan n e.run) has.2 (of_one (λ (o : Entry). IsOfRound plan (round_of plan o) o.run) past e (runs_are plan past legal) has.1);
          has = (e, has.1, refl);
          other = k;
          other_in = subst (λ (n : ℕ). IsOfRound plan n k) (sym is) (of_its_round plan k r of_least.1);
          lacks = least.none;
        };
        first = λ earlier below part.
            let other = some_of (λ (run : Run). run.round ≡ earlier) (run_at plan part.other) part.other_in in
            part.lacks (least.least part.other (earlier_is_below plan k part.other r other.0 of_least.1 other.1 (omega (arith, same, other.2))));
      }
