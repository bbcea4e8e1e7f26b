-- The wins and fails over a history with one more entry.
use Rattle.std.proofs.Common.{◌≡◌, ℕ, ◌+◌, ◌<◌, Bool, true, false, cond, ◌&&◌, ◌||◌, List, ◌∷◌, length, Option, Some, refl, sym, ap, ◌∙◌, arith}
use Rattle.std.specs.Prelude.{if◌then◌else◌, filter}
use Rattle.std.proofs.lemmas.Option.{slice_get-get_or, get_or_from_slice_get}
use Rattle.cv_base.specs.declared.cases.Case.{Case}
use Rattle.cv_base.specs.declared.ends.FailureId.{FailureId}
use Rattle.cv_base.specs.declared.entries.Entry.{Entry}
use Rattle.cv_score.specs.declared.scores.Counts.{Counts}
use Rattle.cv_score.specs.Charged.{HasRepair, StandsFor, counts_of}
use Rattle.cv_score.specs.Counting.{AllCounted, counted_with, has_failed, has_won}
use Rattle.cv_histories.specs.Scores.{has_fired, is_fail, is_some_failure, is_win}
use Rattle.cv_histories.specs.Seen.{Seen, failure_at, is_failure}

length_cond : {X : Type 0} (b : Bool) (x : X) (xs : List X) → length (cond b (x ∷ xs) xs) ≡ (if b then length xs + 1 else length xs)
length_cond true x xs = omega arith
length_cond false x xs = refl

counts_more : (c : ℕ) (case : Case) (j : ℕ) (s : Seen) (past : List Seen) → counts_of c case j (s ∷ past) ≡ counted_with (counts_of c case j past) (is_win c j s) (is_fail c case j s)
counts_more c case j s past =
    let wins = length_cond (is_win c j s) s (filter (is_win c j) past) in
    let fails = length_cond (is_fail c case j s) s (filter (is_fail c case j) past) in
    cc

failed_same : (c : ℕ) (case : Case) (j : ℕ) (s : Seen) (there : Option ℕ) → HasRepair c s.last there → is_fail c case j s ≡ has_failed c case.id j there s.entry
failed_same c case j s there has =
    ap (λ b. (has_fired c j s.entry && is_some_failure (failure_at s.entry.end)) || (is_failure case.id (failure_at s.entry.end) && b)) (has j)

pub stands_for_one_more : (c : ℕ) (id : FailureId) (charged : ℕ) (old new : List Counts) (there : Option ℕ) (e : Entry) → length new ≡ length old → AllCounted c id there e old new → (case : Case) (past : List Seen) (s : Seen) → s.entry ≡ e → HasRepair c s.last there → StandsFor (record { case = c; id = id; charged = charged; counts = old }) case past → StandsFor (record { case = c; id = id; charged = charged + 1; counts = new }) case (s ∷ past)
stands_for_one_more c id charged old new there e long counted case past s same has stands = record {
  id = stands.id;
  charged = let before = stands.charged in omega arith;
  each = λ j within.
      let d = counts_of c case j past in
      let inside : j < length old = omega arith in
      slice_get-get_or new j d within
      ∙ ap Some
      (counted j d inside
      ∙ ap (λ n. counted_with n (has_won c j e) (has_failed c id j there e)) (get_or_from_slice_get old j d d (stands.each j inside))
      ∙ ap (λ e. counted_with d (has_won c j e) (has_failed c id j there e)) (sym same)
      ∙ ap (λ id. counted_with d (has_won c j s.entry) (has_failed c id j there s.entry)) (sym stands.id)
      ∙ ap (λ b. counted_with d (has_won c j s.entry) b) (sym (failed_same c case j s there has))
      ∙ sym (counts_more c case j s past));
}
