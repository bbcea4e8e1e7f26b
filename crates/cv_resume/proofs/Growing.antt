-- Rounds behind rounds, and what a crash leaves of them.
use Rattle.std.proofs.Common.{◌≡◌, ℕ, ◌+◌, ◌^◌, ◌≤◌, List, [], ◌∷◌, ◌++◌, ◌∙◌, length, take, refl, sym, ap, subst, ⊎_elim, arith, append_assoc, length-append}
use Rattle.std.specs.List.{concat}
use Rattle.std.proofs.Math.Seq.{take-append-add}
use Rattle.std.proofs.lemmas.List.{append-nil, take-append-le}
use Rattle.cv_base.specs.declared.entries.Entry.{Entry}
use Rattle.cv_base.specs.PlanOf.{PlanOf}
use Rattle.cv_edge.specs.Disk.{LeavesOnly, Meaning}
use Rattle.cv_edge.specs.DiskLaws.{leaves_none, leaves_then, leaves_weaker}
use Rattle.cv_edge.specs.Edge.{Rose}
use Rattle.cv_histories.specs.Legal.{IsLegal}
use Rattle.cv_histories.specs.Report.{entry_lines}
use Rattle.cv_keep.specs.Keeping.{IsBeforeOrAfter, IsSettled}
use Rattle.cv_keep.specs.Pieces.{pieces}
use Rattle.cv_resume.specs.Resumed.{AreRounds, HasKept, HoldsFirst, IsPieceOf, LeavesRounds, RoundsJoin}

-- ---- rounds

pub rounds_join : RoundsJoin
rounds_join plan round before past [] are = ap entry_lines are ∙ sym (append-nil (entry_lines before))
rounds_join plan round before past (piece ∷ more) are =
    rounds_join plan (round + 1) are.0 past more are.3
    ∙ ap (λ (l : List ℕ). l ++ concat more) are.1.lines
    ∙ append_assoc (entry_lines before) piece (concat more)

rounds_append : (plan : PlanOf) (round : ℕ) (before past after : List Entry) (more also : List (List ℕ)) → AreRounds plan round before more past → AreRounds plan (round + length more) past also after
    → AreRounds plan round before (more ++ also) after
rounds_append plan round before past after [] also are rest =
    let same : round + 0 ≡ round = omega arith in
    subst (λ (n : ℕ). AreRounds plan n before also after) same (subst (λ (es : List Entry). AreRounds plan (round + 0) es also after) are rest)
rounds_append plan round before past after (piece ∷ more) also are rest =
    let next : round + length (piece ∷ more) ≡ round + 1 + length more = omega arith in
    (are.0, are.1, are.2, rounds_append plan (round + 1) are.0 past after more also are.3 (subst (λ (n : ℕ). AreRounds plan n past also after) next rest))

one_round : (plan : PlanOf) (round : ℕ) (before past : List Entry) (piece : List ℕ) → IsPieceOf plan round before past piece → length piece ≤ 2 ^ 28 → AreRounds plan round before (piece ∷ []) past
one_round plan round before past piece is short = (past, is, short, refl)

-- ---- images

-- an image with some of the first has some of these and more
holds_more : (old more also : List (List ℕ)) (c : List ℕ) → HoldsFirst old more c → HoldsFirst old (more ++ also) c
holds_more old more also c has =
    (has.0, omega (arith, has.1, length-append more also), has.2 ∙ ap (λ (l : List (List ℕ)). old ++ l) (sym (take-append-le has.0 more also has.1)))

-- and so has one with all of the first, and some behind them
holds_behind : (old more also : List (List ℕ)) (c : List ℕ) → HoldsFirst (old ++ more) also c → HoldsFirst old (more ++ also) c
holds_behind old more also c has = (
  length more + has.0,
  omega (arith, has.1, length-append more also),
  has.2 ∙ append_assoc old more (take has.0 also) ∙ ap (λ (l : List (List ℕ)). old ++ l) (sym (take-append-add more also has.0)),
)

holds_either : (old : List (List ℕ)) (piece c : List ℕ) → IsBeforeOrAfter old piece c → HoldsFirst old (piece ∷ []) c
holds_either old piece c has = ⊎_elim (λ before. (0, omega arith, before ∙ sym (append-nil old))) (λ after. (1, omega arith, after)) has

-- ---- faults

pub rose_later : (a b c : ℕ) → a ≤ b → Rose b c → Rose a c
rose_later a b c later rose = omega arith

module _ {D : Type 0} (means : Meaning D) where
  images_then : (a b c : D) (more also : List (List ℕ)) → LeavesOnly means a b (HoldsFirst (pieces (means.content a)) more) → pieces (means.content b) ≡ pieces (means.content a) ++ more
      → LeavesOnly means b c (HoldsFirst (pieces (means.content b)) also) → LeavesOnly means a c (HoldsFirst (pieces (means.content a)) (more ++ also))
  images_then a b c more also first content second =
      let old = pieces (means.content a) in
      leaves_then means a b c (HoldsFirst old (more ++ also))
      (leaves_weaker means a b (HoldsFirst old more) (HoldsFirst old (more ++ also)) (holds_more old more also) first)
      (leaves_weaker means b c (HoldsFirst (pieces (means.content b)) also) (HoldsFirst old (more ++ also))
      (λ x has. holds_behind old more also x (subst (λ (ps : List (List ℕ)). HoldsFirst ps also x) content has)) second)

  -- nothing is kept yet
  pub kept_none : ((disk : D) (c : List ℕ) → means.image_since disk (means.moment disk) c → means.image disk c) → (plan : PlanOf) (round : ℕ) (past : List Entry) (a : D) (end : ℕ) → IsSettled means a end
      → HasKept means plan round round past past a a
  kept_none only_now plan round past a end settled = record {
    more = [];
    count = omega arith;
    rounds = refl;
    content = λ tells. sym (append-nil (pieces (means.content a)));
    images = λ tells. leaves_none means a (HoldsFirst (pieces (means.content a)) [])
        (λ c left. (0, omega arith, ap pieces ((settled tells).1 c (only_now a c left)) ∙ sym (append-nil (pieces (means.content a)))));
  }

  -- one round more is kept
  pub kept_more : (plan : PlanOf) (round next : ℕ) (before past after : List Entry) (a b c : D) (piece : List ℕ) → HasKept means plan round next before past a b → IsPieceOf plan next past after piece → length piece ≤ 2 ^ 28
      → (means.tells → pieces (means.content c) ≡ pieces (means.content b) ++ piece ∷ []) → (means.tells → LeavesOnly means b c (IsBeforeOrAfter (pieces (means.content b)) piece))
      → HasKept means plan round (next + 1) before after a c
  kept_more plan round next before past after a b c piece kept is short content images = record {
    more = kept.more ++ piece ∷ [];
    count = omega (arith, kept.count, length-append kept.more (piece ∷ []));
    rounds = rounds_append plan round before past after kept.more (piece ∷ []) kept.rounds
        (subst (λ (n : ℕ). AreRounds plan n past (piece ∷ []) after) kept.count (one_round plan next past after piece is short));
    content = λ tells. content tells ∙ ap (λ (ps : List (List ℕ)). ps ++ piece ∷ []) (kept.content tells) ∙ append_assoc (pieces (means.content a)) kept.more (piece ∷ []);
    images = λ tells. images_then a b c kept.more (piece ∷ []) (kept.images tells) (kept.content tells)
        (leaves_weaker means b c (IsBeforeOrAfter (pieces (means.content b)) piece) (HoldsFirst (pieces (means.content b)) (piece ∷ [])) (holds_either (pieces (means.content b)) piece) (images tells));
  }

  -- what a crash leaves of the rounds that were kept
  pub kept_leaves : (plan : PlanOf) (round next : ℕ) (before past : List Entry) (a b : D) → IsLegal plan past → HasKept means plan round next before past a b → LeavesRounds means plan round before a b
  kept_leaves plan round next before past a b legal kept = record { past = past; legal = legal; more = kept.more; rounds = kept.rounds; images = kept.images }

  -- and of these and one more, which may not be kept
  pub leaves_more : (plan : PlanOf) (round next : ℕ) (before past after : List Entry) (a b c : D) (piece : List ℕ) → IsLegal plan after → HasKept means plan round next before past a b → IsPieceOf plan next past after piece → length piece ≤ 2 ^ 28
      → (means.tells → LeavesOnly means b c (IsBeforeOrAfter (pieces (means.content b)) piece)) → LeavesRounds means plan round before a c
  leaves_more plan round next before past after a b c piece legal kept is short images = record {
    past = after;
    legal = legal;
    more = kept.more ++ piece ∷ [];
    rounds = rounds_append plan round before past after kept.more (piece ∷ []) kept.rounds
        (subst (λ (n : ℕ). AreRounds plan n past (piece ∷ []) after) kept.count (one_round plan next past after piece is short));
    images = λ tells. images_then a b c kept.more (piece ∷ []) (kept.images tells) (kept.content tells)
        (leaves_weaker means b c (IsBeforeOrAfter (pieces (means.content b)) piece) (HoldsFirst (pieces (means.content b)) (piece ∷ [])) (holds_either (pieces (means.content b)) piece) (images tells));
  }
