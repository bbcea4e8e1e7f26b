-- Under a plan pieces come to one answer.
use Rattle.std.proofs.Common.{◌≡◌, ℕ, zero, suc, ◌+◌, ◌<◌, ◌≤◌, true, List, [], ◌∷◌, ◌++◌, ◌∙◌, Some, Ok, length, map, take, drop, get_or, refl, sym, ap, subst, ⊎_elim, arith}
use Rattle.std.specs.Prelude.{nat_le, reverse, slice_get}
use Rattle.std.specs.List.{list_all}
use Rattle.std.proofs.lemmas.Bool.{and_parts, cases_lt, leb-true}
use Rattle.std.proofs.lemmas.List.{reverse-append, take-append-drop, take-take}
use Rattle.std.proofs.lemmas.Option.{get_or_from_slice_get, slice_get_within}
use Rattle.cv_audit.specs.Clauses.{Breaks}
use Rattle.cv_audit.specs.Judged.{IsWrong, before}
use Rattle.cv_audit.specs.Statements.{OneMoreEntry, TestsAreFollowing}
use Rattle.cv_base.specs.declared.entries.Entry.{Entry}
use Rattle.cv_base.specs.declared.plan.Mode.{Mode}
use Rattle.cv_base.specs.declared.plan.Round.{Round}
use Rattle.cv_base.specs.PlanOf.{IsPlan, PlanOf, is_round}
use Rattle.cv_desk.specs.Openings.{IsUpTo}
use Rattle.cv_histories.specs.Legal.{IsLegal, MayFollow, round_in, round_of}
use Rattle.cv_histories.specs.Runs.{Run, run_at, runs_from}
use Rattle.cv_laws.specs.Each.{of_one}
use Rattle.cv_manager.specs.ManagerOf.{ManagerOf}
use Rattle.cv_resume.specs.Kept.{entries_of}
use Rattle.cv_resume.specs.Restored.{AnswersAreOne, IsFault, IsFirstPart, IsPart, IsPartIn, IsRestored, IsWrongIn}
use Rattle.cv_resume.specs.declared.faults.KeptFault.{KeptFault}
use Rattle.cv_resume.specs.declared.faults.KeptFault.TheVariants.{BadPiece, Wrong, Partial, TooLong}
use Rattle.cv_resume.specs.declared.restoring.Restored.{Restored}
use Rattle.cv_resume.proofs.WholeRounds.{some_of}

-- the first items of a list have the same items before their end
get_take : (entries : List Entry) (n k : ℕ) → k < n → slice_get (take n entries) k ≡ slice_get entries k
get_take [] zero k below = refl
get_take [] (suc n) k below = refl
get_take (e ∷ entries) zero k below = absurd (omega arith)
get_take (e ∷ entries) (suc n) zero below = refl
get_take (e ∷ entries) (suc n) (suc k) below = get_take entries n k (omega arith)

-- ---- rounds

-- behind the runs of a round stand those of later rounds
get_behind : (n : ℕ) (mode : Mode) (inputs : List (List ℕ)) (rest : List Run) (k : ℕ)
    → slice_get (map (λ (input : List ℕ). record { round = n; mode = mode; input = input }) inputs ++ rest) (length inputs + k) ≡ slice_get rest k
get_behind n mode [] rest k = ap (λ (j : ℕ). slice_get rest j) (omega arith)
get_behind n mode (x ∷ xs) rest k =
    let next : length (x ∷ xs) + k ≡ suc (length xs + k) = omega arith in
    ap (λ (j : ℕ). slice_get (map (λ (input : List ℕ). record { round = n; mode = mode; input = input }) (x ∷ xs) ++ rest) j) next ∙ get_behind n mode xs rest k

-- a run of a round
record Some_run (rounds : List Run) (round : ℕ) : Type 0 where
  number : ℕ
  run : Run
  at : slice_get rounds number ≡ Some run
  of_round : run.round ≡ round

first_of : (n : ℕ) (mode : Mode) (inputs : List (List ℕ)) (rest : List Run) → 1 ≤ length inputs → Some_run (map (λ (input : List ℕ). record { round = n; mode = mode; input = input }) inputs ++ rest) n
first_of n mode [] rest some = absurd (omega arith)
first_of n mode (x ∷ xs) rest some = record { number = 0; run = record { round = n; mode = mode; input = x }; at = refl; of_round = refl }

-- each round of a plan has one
some_run : (n : ℕ) (rounds : List Round) (i round : ℕ) → list_all is_round rounds ≡ true → i < length rounds → round ≡ n + i → Some_run (runs_from n rounds) round
some_run n [] i round all within is = absurd (omega arith)
some_run n (r ∷ rounds) zero round all within is =
    let parts = and_parts (is_round r) (list_all is_round rounds) all in
    let first = and_parts (nat_le 1 (length r.inputs)) (list_all (λ (input : List ℕ). nat_le (length input) 65536) r.inputs) parts.0 in
    let same : n ≡ round = omega arith in
    subst (Some_run (runs_from n (r ∷ rounds))) same (first_of n r.mode r.inputs (runs_from (n + 1) rounds) (leb-true 1 (length r.inputs) first.0))
some_run n (r ∷ rounds) (suc i) round all within is =
    let parts = and_parts (is_round r) (list_all is_round rounds) all in
    let rest = some_run (n + 1) rounds i round parts.1 (omega arith) (omega arith) in
    record {
      number = length r.inputs + rest.number;
      run = rest.run;
      at = get_behind n r.mode r.inputs (runs_from (n + 1) rounds) rest.number ∙ rest.at;
      of_round = rest.of_round;
    }

-- the round of an entry with a run's number
its_round : (plan : PlanOf) (e : Entry) (number round : ℕ) (run : Run) → e.run ≡ number → run_at plan number ≡ Some run → run.round ≡ round → round_of plan e ≡ round
its_round plan e number round run same at of_round = ap (λ (n : ℕ). round_in (run_at plan n)) same ∙ ap round_in at ∙ of_round

-- a history is up to one round
not_less : (plan : PlanOf) (past : List Entry) (m n : ℕ) → IsPlan plan → IsUpTo plan m past → IsUpTo plan n past → n ≤ length plan.rounds → m < n → ⊥
not_less plan past m n limits low high within less =
    let r = some_run 0 plan.rounds m m limits.each_round (omega arith) (omega arith) in
    let has = high.all r.number r.run r.at (omega (arith, r.of_round)) in
    let round : round_of plan has.0 ≡ m = its_round plan has.0 r.number m r.run has.2 r.at r.of_round in
    let below : round_of plan has.0 < m = of_one (λ (o : Entry). round_of plan o < m) past has.0 low.no_others has.1 in
    omega arith

up_to_one : (plan : PlanOf) (past : List Entry) (m n : ℕ) → IsPlan plan → IsUpTo plan m past → IsUpTo plan n past → m ≤ length plan.rounds → n ≤ length plan.rounds → m ≡ n
up_to_one plan past m n limits first second inside within =
    ⊎_elim (λ less. absurd (not_less plan past m n limits first second within less))
    (λ above. ⊎_elim (λ less. absurd (not_less plan past n m limits second first inside less)) (λ up. omega arith) (cases_lt n m)) (cases_lt m n)

-- of whose rounds none is kept in part
no_part : (plan : PlanOf) (past : List Entry) (n round : ℕ) → IsUpTo plan n past → IsPart plan past round → ⊥
no_part plan past n round up_to part =
    let kept = some_of (λ (run : Run). run.round ≡ round) (run_at plan part.kept) part.kept_in in
    let other = some_of (λ (run : Run). run.round ≡ round) (run_at plan part.other) part.other_in in
    let e = part.has.0 in
    let here : round_of plan e ≡ round = its_round plan e part.kept round kept.0 part.has.2 kept.1 kept.2 in
    let below : round_of plan e < n = of_one (λ (o : Entry). round_of plan o < n) past e up_to.no_others part.has.1 in
    part.lacks (up_to.all part.other other.0 other.1 (omega (arith, here, below, other.2)))

one_part : (plan : PlanOf) (past : List Entry) (m n : ℕ) → IsFirstPart plan past m → IsFirstPart plan past n → m ≡ n
one_part plan past m n first second =
    ⊎_elim (λ less. absurd (second.first m less first.part))
    (λ above. ⊎_elim (λ less. absurd (first.first n less second.part)) (λ up. omega arith) (cases_lt n m)) (cases_lt m n)

-- ---- what is restored, and rounds kept in part

same_held : (ps : List (List ℕ)) (es fs : List Entry) → entries_of ps ≡ Ok es → entries_of ps ≡ Ok fs → es ≡ fs
same_held ps es fs first second = cc

-- what was restored, of the plan and the entries
record Reaches (plan : PlanOf) (es : List Entry) (rounds : ℕ) : Type 0 where
  up_to : IsUpTo plan rounds (reverse es)
  within : rounds ≤ length plan.rounds

reaches : (plan : PlanOf) (ps : List (List ℕ)) (r : Restored) (x : IsRestored plan ps r) → Reaches plan x.entries r.rounds
reaches plan ps r x =
    let past = subst (λ (p : PlanOf). IsUpTo p r.rounds r.book.past) x.book.of_plan x.up_to.up_to in
    record {
      up_to = subst (λ (past : List Entry). IsUpTo plan r.rounds past) x.book.past past;
      within = subst (λ (p : PlanOf). r.rounds ≤ length p.rounds) x.book.of_plan x.up_to.within;
    }

restored_of : ManagerOf → ℕ → Restored
restored_of m rounds = record { book = m; rounds = rounds }

manager_of : PlanOf → List Entry → ManagerOf
manager_of plan past = record { plan = plan; past = past }

same_book : (m n : ManagerOf) → m.plan ≡ n.plan → m.past ≡ n.past → m ≡ n
unfolding manager_of
same_book m n plan past = ap (λ (p : PlanOf). manager_of p m.past) plan ∙ ap (λ (es : List Entry). manager_of n.plan es) past

same_restored : (r s : Restored) → r.book ≡ s.book → r.rounds ≡ s.rounds → r ≡ s
unfolding restored_of
same_restored r s book rounds = ap (λ (m : ManagerOf). restored_of m r.rounds) book ∙ ap (λ (n : ℕ). restored_of s.book n) rounds

restored_one : (plan : PlanOf) (ps : List (List ℕ)) → IsPlan plan → (r s : Restored) → IsRestored plan ps r → IsRestored plan ps s → r ≡ s
restored_one plan ps limits r s x y =
    let es : x.entries ≡ y.entries = same_held ps x.entries y.entries x.held y.held in
    let book : r.book ≡ s.book = same_book r.book s.book (x.book.of_plan ∙ sym y.book.of_plan) (x.book.past ∙ ap (λ (es : List Entry). reverse es) es ∙ sym y.book.past) in
    let first = reaches plan ps r x in
    let second : Reaches plan x.entries s.rounds = subst (λ (fs : List Entry). Reaches plan fs s.rounds) (sym es) (reaches plan ps s y) in
    same_restored r s book (up_to_one plan (reverse x.entries) r.rounds s.rounds limits first.up_to second.up_to first.within second.within)

part_one : (plan : PlanOf) (ps : List (List ℕ)) (m n : ℕ) → IsPartIn plan ps m → IsPartIn plan ps n → Partial m ≡ Partial n
part_one plan ps m n x y =
    let es : y.entries ≡ x.entries = same_held ps y.entries x.entries y.held x.held in
    let same : m ≡ n = one_part plan (reverse x.entries) m n x.part (subst (λ (fs : List Entry). IsFirstPart plan (reverse fs) n) es y.part) in
    cc

-- the law of `cv_histories` on what came before
abbrev LegalBefore : Type 0
LegalBefore = (plan : PlanOf) (newest past : List Entry) → IsLegal plan (newest ++ past) → IsLegal plan past

module _ (law : TestsAreFollowing) (one_more : OneMoreEntry) (legal_before : LegalBefore) where
  -- ---- wrong entries

  -- each entry of a legal history may follow those before it
  legal_at : (plan : PlanOf) (entries : List Entry) (at : ℕ) (e : Entry) → IsLegal plan (reverse entries) → slice_get entries at ≡ Some e → MayFollow plan (before entries at) e
  legal_at plan entries at e legal found =
      let within = slice_get_within entries at e found in
      let here : e ≡ get_or entries at e = sym (get_or_from_slice_get entries at e e found) in
      let newer = reverse (drop (at + 1) entries) in
      let split : reverse entries ≡ newer ++ (e ∷ reverse (take at entries)) =
      ap (λ (es : List Entry). reverse es) (sym (take-append-drop (at + 1) entries))
      ∙ reverse-append (take (at + 1) entries) (drop (at + 1) entries)
      ∙ ap (λ (es : List Entry). newer ++ es) (one_more entries at e within here) in
      (legal_before plan newer (e ∷ reverse (take at entries)) (subst (IsLegal plan) split legal)).0

  wrong_not_legal : (plan : PlanOf) (entries : List Entry) (at clause : ℕ) → IsWrong plan entries at clause → IsLegal plan (reverse entries) → ⊥
  wrong_not_legal plan entries at clause wrong legal =
      (law plan (before entries at) wrong.entry).1 clause wrong.breaks (legal_at plan entries at wrong.entry legal wrong.found)

  -- so the first wrong entry is at one place
  none_before : (plan : PlanOf) (entries : List Entry) (at clause later : ℕ) → at < later → IsWrong plan entries at clause → IsLegal plan (before entries later) → ⊥
  none_before plan entries at clause later below wrong legal =
      let same : take at (take later entries) ≡ take at entries = take-take at later entries (omega arith) in
      let found : slice_get (take later entries) at ≡ Some wrong.entry = get_take entries later at below ∙ wrong.found in
      let follows = legal_at plan (take later entries) at wrong.entry legal found in
      (law plan (before entries at) wrong.entry).1 clause wrong.breaks (subst (λ (es : List Entry). MayFollow plan (reverse es) wrong.entry) same follows)

  one_place : (plan : PlanOf) (entries : List Entry) (at clause other third : ℕ) → IsWrong plan entries at clause → IsWrong plan entries other third → at ≡ other
  one_place plan entries at clause other third first second =
      ⊎_elim (λ below. absurd (none_before plan entries at clause other below first second.legal))
      (λ above. ⊎_elim (λ below. absurd (none_before plan entries other third at below second first.legal)) (λ up. omega arith) (cases_lt other at)) (cases_lt at other)

  one_clause : (plan : PlanOf) (entries : List Entry) (at clause third : ℕ) → IsWrong plan entries at clause → IsWrong plan entries at third → clause ≡ third
  one_clause plan entries at clause third first second =
      let found = first.found in
      let again = second.found in
      let same : second.entry ≡ first.entry = cc in
      (law plan (before entries at) first.entry).2 clause third first.breaks (subst (λ (e : Entry). Breaks plan (before entries at) e third) same second.breaks)

  -- ---- one answer

  wrong_one : (plan : PlanOf) (ps : List (List ℕ)) (a c b d : ℕ) → IsWrongIn plan ps a c → IsWrongIn plan ps b d → Wrong a c ≡ Wrong b d
  wrong_one plan ps a c b d x y =
      let es : y.entries ≡ x.entries = same_held ps y.entries x.entries y.held x.held in
      let other : IsWrong plan x.entries b d = subst (λ (fs : List Entry). IsWrong plan fs b d) es y.wrong in
      let place : a ≡ b = one_place plan x.entries a c b d x.wrong other in
      let clause : c ≡ d = one_clause plan x.entries a c d x.wrong (subst (λ (n : ℕ). IsWrong plan x.entries n d) (sym place) other) in
      cc

  wrong_or_part : (plan : PlanOf) (ps : List (List ℕ)) (a c n : ℕ) → IsWrongIn plan ps a c → IsPartIn plan ps n → ⊥
  wrong_or_part plan ps a c n x y =
      let es : y.entries ≡ x.entries = same_held ps y.entries x.entries y.held x.held in
      wrong_not_legal plan x.entries a c x.wrong (subst (λ (fs : List Entry). IsLegal plan (reverse fs)) es y.legal)

  fault_one : (plan : PlanOf) (ps : List (List ℕ)) (f g : KeptFault) → IsFault plan ps f → IsFault plan ps g → f ≡ g
  fault_one plan ps (BadPiece k) (BadPiece l) x y = cc
  fault_one plan ps (BadPiece k) (Wrong b d) x y = let held = y.held in absurd cc
  fault_one plan ps (BadPiece k) (Partial n) x y = let held = y.held in absurd cc
  fault_one plan ps (BadPiece k) (TooLong n) x y = absurd y
  fault_one plan ps (Wrong a c) (BadPiece l) x y = let held = x.held in absurd cc
  fault_one plan ps (Wrong a c) (Wrong b d) x y = wrong_one plan ps a c b d x y
  fault_one plan ps (Wrong a c) (Partial n) x y = absurd (wrong_or_part plan ps a c n x y)
  fault_one plan ps (Wrong a c) (TooLong n) x y = absurd y
  fault_one plan ps (Partial m) (BadPiece l) x y = let held = x.held in absurd cc
  fault_one plan ps (Partial m) (Wrong b d) x y = absurd (wrong_or_part plan ps b d m y x)
  fault_one plan ps (Partial m) (Partial n) x y = part_one plan ps m n x y
  fault_one plan ps (Partial m) (TooLong n) x y = absurd y
  fault_one plan ps (TooLong m) g x y = absurd x

  never_both : (plan : PlanOf) (ps : List (List ℕ)) (r : Restored) (f : KeptFault) → IsRestored plan ps r → IsFault plan ps f → ⊥
  never_both plan ps r (BadPiece k) x y = let held = x.held in absurd cc
  never_both plan ps r (Wrong a c) x y =
      let es : x.entries ≡ y.entries = same_held ps x.entries y.entries x.held y.held in
      wrong_not_legal plan y.entries a c y.wrong (subst (λ (fs : List Entry). IsLegal plan (reverse fs)) es x.book.legal)
  never_both plan ps r (Partial n) x y =
      let es : x.entries ≡ y.entries = same_held ps x.entries y.entries x.held y.held in
      no_part plan (reverse y.entries) r.rounds n (subst (λ (fs : List Entry). IsUpTo plan r.rounds (reverse fs)) es (reaches plan ps r x).up_to) y.part.part
  never_both plan ps r (TooLong n) x y = y

  pub answers_are_one : AnswersAreOne
  answers_are_one plan ps limits = (restored_one plan ps limits, fault_one plan ps, never_both plan ps)
