-- What is kept once an entry is posted with what it makes anew.
use Rattle.std.proofs.Common.{◌≡◌, ◌<◌, ◌≤◌, ◌+◌, ℕ, Bool, true, false, List, [], ◌∷◌, ◌++◌, length, map, Vec, Global, Option, Some, None, refl, sym, ap, subst, ◌∙◌, arith, length-append}
use Rattle.std.specs.List.{AllByRecursion}
use Rattle.std.specs.Prelude.{◌==◌, if◌then◌else◌, option_map, vec_capacity}
use Rattle.std.specs.declared.sync.Arc.{Arc}
use Rattle.std.proofs.lemmas.Bool.{eq-eqb, ne_eqb}
use Rattle.std.proofs.lemmas.List.{length-map, map-append}
use Rattle.cv_base.specs.declared.cases.Case.{Case}
use Rattle.cv_base.specs.declared.entries.Entry.{Entry}
use Rattle.cv_base.specs.declared.entries.Observation.{Observation}
use Rattle.cv_base.specs.declared.patches.PatchTable.{PatchTable}
use Rattle.cv_base.specs.PlanOf.{PlanOf}
use Rattle.cv_blocks.specs.TextMap.{text_only}
use Rattle.cv_histories.specs.Cases.{cases}
use Rattle.cv_histories.specs.Report.{makers}
use Rattle.cv_histories.specs.Runs.{run_at}
use Rattle.cv_histories.specs.Seen.{Seen, is_observed, observed, observed_of}
use Rattle.cv_histories.specs.Versions.{add_version, ledger, newest_of, same_table, table}
use Rattle.cv_manager.specs.Kept.{IsKept, IsNext, if_new, ledger_of, past_of, seen_as, seen_with, table_with}
use Rattle.cv_manager.specs.MayPost.{MayPost}
use Rattle.cv_manager.specs.Progress.{StandFrom}
use Rattle.cv_manager.specs.Tables.{IsCase, opened_list}
use Rattle.cv_manager.specs.declared.kept.Kept.{Kept}
use Rattle.cv_manager.specs.declared.kept.Next.{Next}
use Rattle.cv_observe.specs.StandsFor.{StandsFor, SummaryOf}
use Rattle.cv_runs.specs.PatchedRun.{Table}
use Rattle.cv_manager.proofs.Sizes.{few_cases, few_versions}
use Rattle.cv_manager.proofs.Observing.{observed_now}
use Rattle.cv_manager.proofs.Posted.{cases_now}
use Rattle.cv_manager.proofs.Stands.{each_append, stand_long}

abbrev Version : Type 0
Version = Arc PatchTable Global

-- the versions with a table, by whether it is a new one
no_new : (versions : List Table) (t : Table) (b : Bool) → None ≡ (if b then None else Some t) → (if b then versions else versions ++ t ∷ []) ≡ versions
no_new versions t true is = refl
no_new versions t false is = cc

one_new : (versions : List Table) (t v : Table) (b : Bool) → Some v ≡ (if b then None else Some t) → (if b then versions else versions ++ t ∷ []) ≡ versions ++ v ∷ []
one_new versions t v true is = cc
one_new versions t v false is = cc

one_more : (same : Bool) (makers : List (Option ℕ)) (entry n : ℕ) → length makers ≤ n → length (if same then makers else makers ++ Some entry ∷ []) ≤ n + 1
one_more true makers entry n few = omega arith
one_more false makers entry n few = omega (arith, length-append makers (Some entry ∷ []))

-- an entry makes one version at most
pub few_makers : (plan : PlanOf) (past : List Entry) → length (makers plan past) ≤ length past + 1
few_makers plan [] = omega arith
few_makers plan (e ∷ past) =
    let more = one_more (length (ledger plan past).versions == length (ledger plan (e ∷ past)).versions) (makers plan past) (length past) (length past + 1) (few_makers plan past) in
    omega (arith, more)

module _ (k : Kept) (kept : IsKept k) (e : Entry) where
  abbrev now : List Table
  now = (ledger k.plan (e ∷ past_of k)).versions

  versions_now : add_version (ledger_of k).versions (table_with k e) ≡ now
  versions_now = ap (λ (seen : List Seen). add_version (ledger_of k).versions (table k.plan (seen_as k e ∷ seen))) kept.seen

  same_versions : None ≡ if_new (ledger_of k).versions (table_with k e) → (ledger_of k).versions ≡ now
  same_versions is = sym (no_new (ledger_of k).versions (table_with k e) (same_table (table_with k e) (newest_of (ledger_of k).versions)) is) ∙ versions_now

  more_versions : (v : Table) → Some v ≡ if_new (ledger_of k).versions (table_with k e) → (ledger_of k).versions ++ v ∷ [] ≡ now
  more_versions v is = sym (one_new (ledger_of k).versions (table_with k e) v (same_table (table_with k e) (newest_of (ledger_of k).versions)) is) ∙ versions_now

  -- by which entry each version was made, by whether there is a new one
  abbrev made : Bool → List (Option ℕ)
  made same = if same then makers k.plan (past_of k) else makers k.plan (past_of k) ++ Some (length (past_of k)) ∷ []

  same_makers : None ≡ if_new (ledger_of k).versions (table_with k e) → makers k.plan (past_of k) ≡ makers k.plan (e ∷ past_of k)
  same_makers is = sym (ap made (eq-eqb (length (ledger_of k).versions) (length now) (ap length (same_versions is))))

  more_makers : (v : Table) → Some v ≡ if_new (ledger_of k).versions (table_with k e) → makers k.plan (past_of k) ++ Some (length k.journal) ∷ [] ≡ makers k.plan (e ∷ past_of k)
  more_makers v is =
      let longer : length (ledger_of k).versions < length now = omega (arith, length-append (ledger_of k).versions (v ∷ []), ap length (more_versions v is)) in
      let other : (length (ledger_of k).versions == length now) ≡ false = ne_eqb (length (ledger_of k).versions) (length now) (λ same. omega arith) in
      ap (λ (n : ℕ). makers k.plan (past_of k) ++ Some n ∷ []) (sym (length-map k.journal (λ (s : Seen). s.entry)))
      ∙ sym (ap made other)

-- what is learned from once an entry is posted with the summary of its run
module _ (k : Kept) (kept : IsKept k) (e : Entry) (run : SummaryOf) (may : MayPost k.plan (past_of k) e run) (s : SummaryOf) where
  pub text_now : s.text ≡ k.summary.text → s.text ≡ text_only k.plan.image
  text_now same = same ∙ kept.summary

  pub learned_now : ((before new : List Observation) → StandsFor k.summary before → (is_observed e ≡ true → StandsFor run new) → StandsFor s (if is_observed e then new ++ before else before)) → StandsFor s (observed k.plan (seen_with k e))
  learned_now learns =
      subst (StandsFor s) (sym (observed_now k.plan (seen_as k e) k.journal))
      (learns (observed k.plan k.journal) (observed_of k.plan (run_at k.plan e.run)) kept.learned may.seen)

module _ (k : Kept) (kept : IsKept k) (e : Entry) (x : Next) (next : IsNext k e x) (cs : Vec Case Global) (cs_is : cs.items ≡ k.cases.items ++ opened_list x.opened) (cs_room : vec_capacity k.cases ≤ vec_capacity cs) where
  abbrev kept_with : List Seen → Vec Version Global → Vec (Option ℕ) Global → SummaryOf → Kept
  kept_with j vs ms s = record { plan = k.plan; map = k.map; journal = j; versions = vs; makers = ms; cases = cs; progress = x.progress; changes = x.changes; summary = s }

  -- what is kept, but for the summary
  abbrev Rest : Vec Version Global → Vec (Option ℕ) Global → Type 0
  Rest vs ms = (map (λ (t : Version). t.value) vs.items ≡ now k kept e) × (ms.items ≡ makers k.plan (e ∷ past_of k)) × (vec_capacity k.versions ≤ vec_capacity vs) × (vec_capacity k.makers ≤ vec_capacity ms)

  whole : (vs : Vec Version Global) (ms : Vec (Option ℕ) Global) (s : SummaryOf) → s.text ≡ text_only k.plan.image → StandsFor s (observed k.plan (seen_with k e)) → Rest vs ms → IsKept (kept_with (seen_with k e) vs ms s)
  whole vs ms s text learned rest =
      let all : cs.items ≡ cases k.plan (seen_with k e) = cs_is ∙ cases_now k kept e (opened_list x.opened) next.opened in
      let long : length vs.items ≡ length (now k kept e) = sym (length-map vs.items (λ (t : Version). t.value)) ∙ ap length rest.0 in
      let past : length (past_of k) ≡ length k.journal = length-map k.journal (λ (s : Seen). s.entry) in
      record {
        limits = kept.limits;
        image = kept.image;
        text = kept.text;
        seen = ap (λ (l : List Seen). seen_as k e ∷ l) kept.seen;
        versions = rest.0;
        makers = rest.1;
        cases = all;
        each = subst (AllByRecursion (IsCase k.plan.image)) (sym cs_is) (each_append (IsCase k.plan.image) k.cases.items (opened_list x.opened) kept.each next.each);
        progress = subst (λ (l : List Case). StandFrom k.plan 0 (seen_with k e) l x.progress.items) (sym cs_is) next.progress;
        changes = next.changes;
        summary = text;
        learned = learned;
        few_cases = rw all (few_cases k.plan (seen_with k e));
        few_versions = omega (arith, long, past, few_versions k.plan (e ∷ past_of k));
        each_progress = stand_long k.plan 0 (seen_with k e) (k.cases.items ++ opened_list x.opened) x.progress.items next.progress ∙ ap length (sym cs_is);
        room_for_cases = omega (arith, kept.room_for_cases);
        room_for_versions = omega (arith, rest.2, kept.room_for_versions);
        room_for_makers = omega (arith, rest.3, kept.room_for_makers);
      }

  module _ (j : List Seen) (j_is : j ≡ record { entry = e; last = x.last.value } ∷ k.journal) (s : SummaryOf) (text : s.text ≡ text_only k.plan.image) (learned : StandsFor s (observed k.plan (seen_with k e))) where
    of_parts : (vs : Vec Version Global) (ms : Vec (Option ℕ) Global) → Rest vs ms → IsKept (kept_with j vs ms s)
    of_parts vs ms rest =
        let seen : j ≡ seen_with k e = j_is ∙ ap (λ (t : Table). let newest : Seen = record { entry = e; last = t } in newest ∷ k.journal) next.last in
        subst (λ (l : List Seen). IsKept (kept_with l vs ms s)) (sym seen) (whole vs ms s text learned rest)

    pub kept_with_none : x.version ≡ None → IsKept (kept_with j k.versions k.makers s)
    kept_with_none is =
        let none : None ≡ if_new (ledger_of k).versions (table_with k e) = ap (option_map (λ (t : Version). t.value)) (sym is) ∙ next.version in
        of_parts k.versions k.makers (kept.versions ∙ same_versions k kept e none, kept.makers ∙ same_makers k kept e none, omega arith, omega arith)

    pub kept_with_one : (v : Version) (vs : Vec Version Global) (ms : Vec (Option ℕ) Global) → x.version ≡ Some v → vs.items ≡ k.versions.items ++ v ∷ [] → ms.items ≡ k.makers.items ++ Some (length k.journal) ∷ []
        → vec_capacity k.versions ≤ vec_capacity vs → vec_capacity k.makers ≤ vec_capacity ms → IsKept (kept_with j vs ms s)
    kept_with_one v vs ms is vs_is ms_is vs_room ms_room =
        let one : Some v.value ≡ if_new (ledger_of k).versions (table_with k e) = ap (option_map (λ (t : Version). t.value)) (sym is) ∙ next.version in
        of_parts vs ms (
          ap (map (λ (t : Version). t.value)) vs_is
              ∙ map-append (λ (t : Version). t.value) k.versions.items (v ∷ [])
              ∙ ap (λ (l : List Table). l ++ v.value ∷ []) kept.versions
              ∙ more_versions k kept e v.value one,
          ms_is ∙ ap (λ (l : List (Option ℕ)). l ++ Some (length k.journal) ∷ []) kept.makers ∙ more_makers k kept e v.value one,
          vs_room,
          ms_room,
        )
