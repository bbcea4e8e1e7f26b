-- What is decided of a case when it is decided, and with one more entry (docs/REPAIR.md, "Classes"
-- to "Installation").
use Rattle.std.proofs.Common.{◌≡◌, ◌<◌, ℕ, List, ◌∙◌, length, sym, ap, arith}
use Rattle.cv_base.specs.declared.cases.Case.{Case}
use Rattle.cv_base.specs.declared.cases.Class.{Class}
use Rattle.cv_histories.specs.Classes.{first_checked}
use Rattle.cv_histories.specs.Installed.{again}
use Rattle.cv_histories.specs.Repairs.{Judged, chosen, judged_from, repairs_for, repairs_of}
use Rattle.cv_manager.proofs.ByNumber.{as_many_classes}
use Rattle.cv_manager.proofs.Choosing.{are_chosen}
use Rattle.cv_manager.proofs.FewRepairs.{few_repairs}
use Rattle.cv_manager.proofs.Stays.{decided_stays, first_checked_stays, installed_again, repairs_stay, repairs_when_decided}
use Rattle.cv_manager.specs.Posting.{IsDecidedNow, PostingOf, all_of}
use Rattle.cv_manager.specs.Progress.{DecidedOf, Decides, chosen_numbers, classes_from}
use Rattle.cv_manager.specs.Tables.{IsCase}
use Rattle.cv_repair.specs.Chosen.{AreChosen}
use Rattle.cv_score.specs.Charged.{StandsFor}

module _ (p : PostingOf) (c : ℕ) (case : Case) where
  -- the candidates that the repairs come from
  abbrev pub judged_now : List Judged
  judged_now = chosen (judged_from c 0 (first_checked p.plan c case (all_of p)) case.candidates)

  pub few_classes : IsCase p.plan.image case → (classes : List Class) → classes ≡ classes_from c 0 (first_checked p.plan c case (all_of p)) case.candidates → length classes < 4294967296
  few_classes is classes are =
      let candidates = is.few in
      omega (arith, ap length are, as_many_classes c 0 (first_checked p.plan c case (all_of p)) case.candidates)

  pub chosen_now : (classes : List Class) → classes ≡ classes_from c 0 (first_checked p.plan c case (all_of p)) case.candidates → (numbers : List ℕ) → numbers ≡ chosen_numbers classes → AreChosen case.candidates numbers judged_now
  chosen_now classes are numbers chose =
      rw (chose ∙ ap chosen_numbers are) (are_chosen c (first_checked p.plan c case (all_of p)) case.candidates)

  pub repairs_from_judged : IsDecidedNow p c case → repairs_of p.plan c case (all_of p) ≡ repairs_for p.plan.image case.candidates judged_now
  repairs_from_judged h = repairs_when_decided p.plan c case (all_of p) h.now

  pub few_repairs_now : IsCase p.plan.image case → length (repairs_for p.plan.image case.candidates judged_now) < 4294967296
  few_repairs_now is =
      let few = few_repairs c (first_checked p.plan c case (all_of p)) p.plan.image case.candidates is.kinds in
      let candidates = is.few in
      omega arith

  pub decides_still : (old : DecidedOf) → Decides p.plan c case p.past old → (d : DecidedOf) → d.classes ≡ old.classes → d.repairs ≡ old.repairs → d.scores.case ≡ old.scores.case → length d.scores.counts ≡ length old.scores.counts → StandsFor d.scores case (all_of p) → d.installed ≡ again p.plan c case p.new p.past old.installed → Decides p.plan c case (all_of p) d
  decides_still old is d classes repairs number counts scores installation = record {
    decided = decided_stays p.plan c case p.new p.past is.decided;
    classes = classes ∙ is.classes ∙ ap (λ seen. classes_from c 0 seen case.candidates) (sym (first_checked_stays p.plan c case p.new p.past is.decided));
    repairs = repairs ∙ is.repairs ∙ sym (repairs_stay p.plan c case p.new p.past is.decided);
    number = number ∙ is.number;
    counts = counts ∙ is.counts ∙ ap length (sym repairs);
    scores = scores;
    installed = installation
        ∙ ap (again p.plan c case p.new p.past) is.installed
        ∙ sym (installed_again p.plan c case p.new p.past is.decided);
  }
