-- A disk recovered, a book restored and its rounds gone on from, as one call.
use Rattle.std.proofs.Common.{◌≡◌, ◌∙◌, ℕ, ◌≤◌, ◌<◌, List, [], ◌∷◌, ◌++◌, length, refl, sym, ap, subst, arith}
use Rattle.std.proofs.lemmas.List.{append-nil}
use Rattle.std.proofs.lemmas.List.Folds.{concat-append}
use Rattle.std.specs.List.{concat}
use Rattle.cv_base.specs.declared.entries.Entry.{Entry}
use Rattle.cv_base.specs.PlanOf.{PlanOf}
use Rattle.cv_edge.specs.Disk.{LeavesOnly, Meaning, Only}
use Rattle.cv_edge.specs.DiskLaws.{leaves_then, leaves_weaker}
use Rattle.cv_histories.specs.Legal.{IsLegal, IsWhole}
use Rattle.cv_histories.specs.Report.{entry_lines}
use Rattle.cv_keep.specs.Pieces.{pieces}
use Rattle.cv_manager.specs.ManagerOf.{ManagerOf}
use Rattle.cv_resume.proofs.Growing.{rounds_join}
use Rattle.cv_resume.specs.KeptRun.{AddsRounds, AreLegalRounds, AreNew, GoesOn, IsKeptDone, IsKeptLong, IsKeptRun, LeavesKept, LeavesKeptOf, pieces_on}
use Rattle.cv_resume.specs.Restored.{IsRestored}
use Rattle.cv_resume.specs.Resumed.{AreRounds, HasKept, HoldsFirst, IsDone, IsPieceOf, IsResumed, IsTooLong, LeavesRounds}
use Rattle.cv_resume.specs.declared.going_on.Resumed.{Resumed}
use Rattle.cv_resume.specs.declared.going_on.Resumed.TheVariants.{Done, TooLong}
use Rattle.cv_resume.specs.declared.restoring.Restored.{Restored}

-- an image with the old pieces alone has the first none of any
holds_none : (old more : List (List ℕ)) (c : List ℕ) → pieces c ≡ old → HoldsFirst old more c
holds_none old more c same = (0, omega arith, same ∙ sym (append-nil old))

new_of : (plan : PlanOf) (old more : List (List ℕ)) → AreLegalRounds plan old more → AreNew plan old more
new_of plan old [] rounds = tt
new_of plan old (piece ∷ more) rounds = rounds

module _ {D : Type 0} (means : Meaning D) (plan : PlanOf) (a b : D) where
  -- recovering leaves the pieces
  pub recovering : (means.tells → Only (means.content a) (means.image a) → LeavesOnly means a b (λ x. pieces x ≡ pieces (means.content a))) → LeavesKeptOf means plan a b
  recovering images = λ tells only. record {
    more = [];
    rounds = tt;
    images = leaves_weaker means a b (λ x. pieces x ≡ pieces (means.content a)) (HoldsFirst (pieces_on means a) []) (holds_none (pieces_on means a) []) (images tells only);
  }

module _ {D : Type 0} (means : Meaning D) (plan : PlanOf) (ps : List (List ℕ)) (r : Restored) (a b c : D) (restored : IsRestored plan ps r) (found : means.tells → ps ≡ pieces_on means a) (content : means.tells → pieces_on means b ≡ pieces_on means a) where
  here : means.tells → IsRestored plan (pieces_on means a) r
  here tells = subst (λ (l : List (List ℕ)). IsRestored plan l r) (found tells) restored

  adds : (more : List (List ℕ)) (past : List Entry) → AreRounds r.book.plan r.rounds r.book.past more past → means.tells → AddsRounds plan (pieces_on means a) more past
  adds more past rounds tells = record {
    from = r;
    restored = here tells;
    rounds = subst (λ (p : PlanOf). AreRounds p r.rounds r.book.past more past) restored.book.of_plan rounds;
  }

  goes_on : (next : ℕ) (past : List Entry) → HasKept means r.book.plan r.rounds next r.book.past past b c → means.tells → GoesOn plan (pieces_on means a) (pieces_on means c) next past
  unfolding adds
  goes_on next past kept tells = record {
    more = kept.more;
    pieces = kept.content tells ∙ ap (λ (l : List (List ℕ)). l ++ kept.more) (content tells);
    adds = adds kept.more past kept.rounds tells;
    count = kept.count;
  }

  all_joined : (past : List Entry) (next : ℕ) → concat ps ≡ entry_lines r.book.past → HasKept means r.book.plan r.rounds next r.book.past past b c → means.tells → concat (pieces_on means c) ≡ entry_lines past
  all_joined past next joined kept tells =
      ap (λ (l : List (List ℕ)). concat l) (kept.content tells ∙ ap (λ (l : List (List ℕ)). l ++ kept.more) (content tells ∙ sym (found tells)))
      ∙ concat-append ps kept.more
      ∙ ap (λ (l : List ℕ). l ++ concat kept.more) joined
      ∙ sym (rounds_join r.book.plan r.rounds r.book.past past kept.more kept.rounds)

  done : (book : ManagerOf) → concat ps ≡ entry_lines r.book.past → IsDone means r.book r.rounds b c book → IsKeptDone means plan a c book
  done book joined is = record {
    of_plan = is.of_plan ∙ restored.book.of_plan;
    legal = subst (λ (p : PlanOf). IsLegal p book.past) restored.book.of_plan is.legal;
    whole = subst (λ (p : PlanOf). IsWhole p book.past) restored.book.of_plan is.whole;
    goes_on = λ tells. subst (λ (p : PlanOf). GoesOn plan (pieces_on means a) (pieces_on means c) (length p.rounds) book.past) restored.book.of_plan (goes_on (length r.book.plan.rounds) book.past is.kept tells);
    joined = all_joined book.past (length r.book.plan.rounds) joined is.kept;
  }

  long : (book : ManagerOf) (last : ℕ) → IsTooLong means r.book r.rounds b c book last → IsKeptLong means plan a c book last
  long book last is = record {
    of_plan = is.of_plan ∙ restored.book.of_plan;
    legal = subst (λ (p : PlanOf). IsLegal p book.past) restored.book.of_plan is.legal;
    within = subst (λ (p : PlanOf). last < length p.rounds) restored.book.of_plan is.within;
    past = is.past;
    goes_on = goes_on last is.past is.kept;
    piece = is.piece;
    last_round = subst (λ (p : PlanOf). IsPieceOf p last is.past book.past is.piece) restored.book.of_plan is.last_round;
    long = is.long;
  }

  pub ran : (out : Resumed) → concat ps ≡ entry_lines r.book.past → IsResumed means r.book r.rounds b c out → IsKeptRun means plan a c out
  ran (Done book) joined is = done book joined is
  ran (TooLong book last) joined is = long book last is

  pub leaves : (means.tells → Only (means.content a) (means.image a) → LeavesOnly means a b (λ x. pieces x ≡ pieces (means.content a))) → LeavesRounds means r.book.plan r.rounds r.book.past b c → LeavesKeptOf means plan a c
  leaves images left = λ tells only. record {
    more = left.more;
    rounds = new_of plan (pieces_on means a) left.more
        (record {
          past = left.past;
          legal = subst (λ (p : PlanOf). IsLegal p left.past) restored.book.of_plan left.legal;
          adds = adds left.more left.past left.rounds tells;
        });
    images = leaves_then means a b c (HoldsFirst (pieces_on means a) left.more)
        (leaves_weaker means a b (λ x. pieces x ≡ pieces (means.content a)) (HoldsFirst (pieces_on means a) left.more) (holds_none (pieces_on means a) left.more) (images tells only))
        (leaves_weaker means b c (HoldsFirst (pieces_on means b) left.more) (HoldsFirst (pieces_on means a) left.more)
        (λ x has. subst (λ (l : List (List ℕ)). HoldsFirst l left.more x) (content tells) has) (left.images tells));
  }
