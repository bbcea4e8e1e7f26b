-- The rounds of a plan, the numbers of their runs, and the round that is current.
use Rattle.std.proofs.Common.{◌≡◌, ◌≤◌, ◌<◌, ◌+◌, ℕ, zero, suc, Bool, true, false, List, [], ◌∷◌, length, Some, refl, sym, ap, ◌∙◌, ⊎_elim, arith}
use Rattle.std.specs.Prelude.{◌≢◌, ◌==◌, if◌then◌else◌, not, find, slice_get}
use Rattle.std.specs.List.{AllByRecursion, list_all, range_with_len}
use Rattle.std.proofs.lemmas.Bool.{and_from, and_parts, both_ways, cases_lt, cond_both, cond-false, cond-true, eq-eqb, eqb-true, ne_eqb, not-false, not-true, not_from_false, not_from_true, or_cases, or_from, or_right, false_from_ne_true}
use Rattle.std.proofs.lemmas.List.Folds.{list_any_at}
use Rattle.cv_base.specs.declared.entries.Entry.{Entry}
use Rattle.cv_base.specs.PlanOf.{PlanOf}
use Rattle.cv_histories.specs.Legal.{EarlierRoundsDone, IsLegal, round_of}
use Rattle.cv_histories.specs.Runs.{Run, run_at, runs}
use Rattle.cv_histories.specs.World.{current_round, is_posted, numbers_from, numbers_of}
use Rattle.cv_laws.specs.InOrder.{HasEntry}
use Rattle.cv_laws.specs.RoundStatements.{CurrentIsOfPlan, IsOfRound, NumbersAreOfRound, NumbersRise}
use Rattle.cv_laws.specs.Each.{all_at}
use Rattle.cv_laws.proofs.InOrder.{has_first, has_later}

-- ---- lists

-- each element passes a test that follows from what holds of it
passes_all : {X : Type 0} (P : X → Type 0) (test : X → Bool) (xs : List X) → ((x : X) → P x → test x ≡ true) → AllByRecursion P xs → list_all test xs ≡ true
passes_all P test [] step all = refl
passes_all P test (x ∷ xs) step all = and_from (test x) (list_all test xs) (step x all.0) (passes_all P test xs step all.1)

-- ---- the first number of a range that passes a test

-- x is the first of the n numbers from a on that passes
record IsFirst (test : ℕ → Bool) (a n x : ℕ) : Type 0 where
  low : a ≤ x
  within : x < a + n
  passes : test x ≡ true
  first : (y : ℕ) → a ≤ y → y < x → test y ≡ false

-- by whether a passes
first_by : (test : ℕ → Bool) (a n x : ℕ) (b : Bool) → test a ≡ b → ((x : ℕ) → find test (range_with_len (a + 1) n) ≡ Some x → IsFirst test (a + 1) n x) → (if b then Some a else find test (range_with_len (a + 1) n)) ≡ Some x → IsFirst test a (suc n) x
first_by test a n x true is later found =
    let same : a ≡ x = cc in
    record { low = omega arith; within = omega arith; passes = rw (← same) is; first = λ y above below. absurd (omega arith) }
first_by test a n x false is later found =
    let next = later x found in
    let low = next.low in
    let within = next.within in
    record {
      low = omega arith;
      within = omega arith;
      passes = next.passes;
      first = λ y above below. ⊎_elim (λ less. let same : y ≡ a = omega arith in rw same is) (λ more. next.first y more below) (cases_lt y (a + 1));
    }

-- the number that is found is the first one that passes
first_found : (test : ℕ → Bool) (a n x : ℕ) → find test (range_with_len a n) ≡ Some x → IsFirst test a n x
first_found test a zero x found = absurd cc
first_found test a (suc n) x found = first_by test a n x (test a) refl (λ y. first_found test (a + 1) n y) found

-- and the first one that passes is found
finds_first : (test : ℕ → Bool) (a n x : ℕ) → IsFirst test a n x → find test (range_with_len a n) ≡ Some x
finds_first test a zero x is = let low = is.low in let within = is.within in absurd (omega arith)
finds_first test a (suc n) x is =
    let low = is.low in
    let within = is.within in
    let rest = find test (range_with_len (a + 1) n) in
    ⊎_elim
    (λ more.
    cond-false (test a) (Some a) rest (is.first a (omega arith) more)
    ∙ finds_first test (a + 1) n x (record { low = omega arith; within = omega arith; passes = is.passes; first = λ y above below. is.first y (omega arith) below }))
    (λ less. let same : x ≡ a = omega arith in cond-true (test a) (Some a) rest (rw (← same) is.passes) ∙ ap Some (sym same)) (cases_lt a x)

-- ---- the numbers of a round

-- the runs from number n on
abbrev AreFrom : PlanOf → ℕ → List Run → Type 0
AreFrom plan n rs = (j number : ℕ) → number ≡ n + j → run_at plan number ≡ slice_get rs j

-- each number that is taken is that of a run of the round
all_numbers : (plan : PlanOf) (n : ℕ) (rs : List Run) (round : ℕ) → AreFrom plan n rs → AllByRecursion (IsOfRound plan round) (numbers_from n rs round)
all_numbers plan n [] round are = tt
all_numbers plan n (r ∷ rs) round are =
    let rest = all_numbers plan (n + 1) rs round (λ j number is. are (suc j) number (omega arith)) in
    cond_both (r.round == round) (n ∷ numbers_from (n + 1) rs round) (numbers_from (n + 1) rs round) (λ (numbers : List ℕ). AllByRecursion (IsOfRound plan round) numbers)
    (λ same. (record { run = r; of_plan = are 0 n (omega arith); in_round = eqb-true r.round round same }, rest))
    (λ differ. rest)

-- of all runs of the plan
each_number : (plan : PlanOf) (round : ℕ) → AllByRecursion (IsOfRound plan round) (numbers_of plan round)
each_number plan round = all_numbers plan 0 (runs plan) round (λ j number is. let same : number ≡ j = omega arith in ap (slice_get (runs plan)) same)

-- each number of a round is that of a run of this round
pub numbers_are : NumbersAreOfRound
numbers_are plan round k number is = all_at (IsOfRound plan round) (numbers_of plan round) k number (each_number plan round) is

-- each number is below all that follow
abbrev AreRising : List ℕ → Type 0
AreRising [] = Unit {0}
AreRising (m ∷ numbers) = AllByRecursion (λ (n : ℕ). m < n) numbers × AreRising numbers

-- the numbers that are taken from n on are above all below n
low_numbers : (m n : ℕ) (rs : List Run) (round : ℕ) → m < n → AllByRecursion (λ (k : ℕ). m < k) (numbers_from n rs round)
low_numbers m n [] round low = tt
low_numbers m n (r ∷ rs) round low =
    let rest = low_numbers m (n + 1) rs round (omega arith) in
    cond_both (r.round == round) (n ∷ numbers_from (n + 1) rs round) (numbers_from (n + 1) rs round) (λ (numbers : List ℕ). AllByRecursion (λ (k : ℕ). m < k) numbers) (λ same. (low, rest)) (λ differ. rest)

-- the numbers that are taken rise
rising_numbers : (n : ℕ) (rs : List Run) (round : ℕ) → AreRising (numbers_from n rs round)
rising_numbers n [] round = tt
rising_numbers n (r ∷ rs) round =
    let rest = rising_numbers (n + 1) rs round in
    cond_both (r.round == round) (n ∷ numbers_from (n + 1) rs round) (numbers_from (n + 1) rs round) (λ (numbers : List ℕ). AreRising numbers) (λ same. (low_numbers n (n + 1) rs round (omega arith), rest)) (λ differ. rest)

-- of rising numbers a later one is greater
rise_at : (numbers : List ℕ) (j k m n : ℕ) → AreRising numbers → j < k → slice_get numbers j ≡ Some m → slice_get numbers k ≡ Some n → m < n
rise_at [] j k m n rising before at_j at_k = absurd cc
rise_at (x ∷ numbers) zero zero m n rising before at_j at_k = absurd (omega arith)
rise_at (x ∷ numbers) zero (suc k) m n rising before at_j at_k = let same : x ≡ m = cc in rw (← same) (all_at (λ (y : ℕ). x < y) numbers k n rising.0 at_k)
rise_at (x ∷ numbers) (suc j) zero m n rising before at_j at_k = absurd (omega arith)
rise_at (x ∷ numbers) (suc j) (suc k) m n rising before at_j at_k = rise_at numbers j k m n rising.1 (omega arith) at_j at_k

-- they rise
pub numbers_rise : NumbersRise
numbers_rise plan round j k m n before at_j at_k = rise_at (numbers_of plan round) j k m n (rising_numbers 0 (runs plan) round) before at_j at_k

-- ---- rounds whose runs are all posted

-- all runs of a round have entries
abbrev is_over : PlanOf → List Entry → ℕ → Bool
is_over plan past round = list_all (is_posted past) (numbers_of plan round)

-- where all pass, the rest do
rest_passes : (test : ℕ → Bool) (b : Bool) (n : ℕ) (rest : List ℕ) → list_all test (if b then n ∷ rest else rest) ≡ true → list_all test rest ≡ true
rest_passes test true n rest all = (and_parts (test n) (list_all test rest) all).1
rest_passes test false n rest all = all

-- where each number of a round passes, that of a run of this round does
passes_at : (test : ℕ → Bool) (round n : ℕ) (rs : List Run) (j number : ℕ) (run : Run) → list_all test (numbers_from n rs round) ≡ true → number ≡ n + j → slice_get rs j ≡ Some run → run.round ≡ round → test number ≡ true
passes_at test round n [] j number run all is at in_round = absurd cc
passes_at test round n (r ∷ rs) zero number run all is at in_round =
    let same : r ≡ run = cc in
    let now : (r.round == round) ≡ true = eq-eqb r.round round (ap (λ (x : Run). x.round) same ∙ in_round) in
    let rest = numbers_from (n + 1) rs round in
    let here : number ≡ n = omega arith in
    ap test here ∙ (and_parts (test n) (list_all test rest) (ap (list_all test) (sym (cond-true (r.round == round) (n ∷ rest) rest now)) ∙ all)).0
passes_at test round n (r ∷ rs) (suc j) number run all is at in_round =
    passes_at test round (n + 1) rs j number run (rest_passes test (r.round == round) n (numbers_from (n + 1) rs round) all) (omega arith) at in_round

-- the runs of a round that is over are posted
over_posts : (plan : PlanOf) (past : List Entry) (round number : ℕ) → is_over plan past round ≡ true → IsOfRound plan round number → is_posted past number ≡ true
over_posts plan past round number over of = passes_at (is_posted past) round 0 (runs plan) number number of.run over (omega arith) of.of_plan of.in_round

-- and where they are, it is over
posts_over : (plan : PlanOf) (past : List Entry) (round : ℕ) → ((number : ℕ) → IsOfRound plan round number → is_posted past number ≡ true) → is_over plan past round ≡ true
posts_over plan past round posts = passes_all (IsOfRound plan round) (is_posted past) (numbers_of plan round) posts (each_number plan round)

-- ---- entries

-- what is posted has an entry
posted_has : (past : List Entry) (number : ℕ) → is_posted past number ≡ true → HasEntry number past
posted_has [] number posted = absurd cc
posted_has (o ∷ past) number posted =
    ⊎_elim (λ here. has_first number o past (eqb-true o.run number here)) (λ later. has_later number o past (posted_has past number later))
    (or_cases (o.run == number) (is_posted past number) posted)

-- and what has an entry is posted
has_posted : (past : List Entry) (number : ℕ) → HasEntry number past → is_posted past number ≡ true
has_posted past number has =
    list_any_at (λ (e : Entry). e.run == number) past has.1.0 has.0 has.1.1
    (ap (λ (e : Entry). e.run == number) has.1.2 ∙ eq-eqb has.0.run number has.2)

-- what no entry is of is not
not_posted : (past : List Entry) (number : ℕ) → AllByRecursion (λ (o : Entry). o.run ≢ number) past → is_posted past number ≡ false
not_posted [] number fresh = refl
not_posted (o ∷ past) number fresh = or_from (o.run == number) (is_posted past number) (ne_eqb o.run number fresh.0) (not_posted past number fresh.1)

-- what is posted stays so
stays_posted : (past : List Entry) (e : Entry) (number : ℕ) → is_posted past number ≡ true → is_posted (e ∷ past) number ≡ true
stays_posted past e number posted = or_right (e.run == number) (is_posted past number) posted

-- ---- the current round

-- a round that is over stays so
stays_over : (plan : PlanOf) (past : List Entry) (e : Entry) (round : ℕ) → is_over plan past round ≡ true → is_over plan (e ∷ past) round ≡ true
stays_over plan past e round over = posts_over plan (e ∷ past) round (λ number of. stays_posted past e number (over_posts plan past round number over of))

-- the first round that is not over
abbrev IsCurrent : PlanOf → List Entry → ℕ → Type 0
IsCurrent plan past round = IsFirst (λ x. not (is_over plan past x)) 0 (length plan.rounds) round

-- the current round is that one
is_current : (plan : PlanOf) (past : List Entry) (round : ℕ) → current_round plan past ≡ Some round → IsCurrent plan past round
is_current plan past round current = first_found (λ x. not (is_over plan past x)) 0 (length plan.rounds) round current

-- it is a round of the plan
pub current_within : CurrentIsOfPlan
current_within plan past round current = let within = (is_current plan past round current).within in omega arith

-- it is not over
not_over : (plan : PlanOf) (past : List Entry) (round : ℕ) → current_round plan past ≡ Some round → is_over plan past round ≡ false
not_over plan past round current = not-true (is_over plan past round) (is_current plan past round current).passes

-- and those before it are
earlier_over : (plan : PlanOf) (past : List Entry) (round earlier : ℕ) → current_round plan past ≡ Some round → earlier < round → is_over plan past earlier ≡ true
earlier_over plan past round earlier current before = not-false (is_over plan past earlier) ((is_current plan past round current).first earlier (omega arith) before)

-- the rounds before the current one are done
pub earlier_done : (plan : PlanOf) (past : List Entry) (round : ℕ) → current_round plan past ≡ Some round → EarlierRoundsDone plan round past
earlier_done plan past round current = λ number run at before.
    posted_has past number (over_posts plan past run.round number (earlier_over plan past round run.round current before) (record { run = run; of_plan = at; in_round = refl }))

-- the current round stays where a run of it has no entry yet
pub current_stays : (plan : PlanOf) (past : List Entry) (e : Entry) (round number : ℕ) → current_round plan past ≡ Some round → IsOfRound plan round number → AllByRecursion (λ (o : Entry). o.run ≢ number) (e ∷ past) → current_round plan (e ∷ past) ≡ Some round
current_stays plan past e round number current of fresh =
    let was = is_current plan past round current in
    let now : is_over plan (e ∷ past) round ≡ false =
    false_from_ne_true (is_over plan (e ∷ past) round) (λ over. both_ways (is_posted (e ∷ past) number) (not_posted (e ∷ past) number fresh) (over_posts plan (e ∷ past) round number over of)) in
    finds_first (λ x. not (is_over plan (e ∷ past) x)) 0 (length plan.rounds) round (record {
      low = was.low;
      within = was.within;
      passes = not_from_false (is_over plan (e ∷ past) round) now;
      first = λ earlier above before. not_from_true (is_over plan (e ∷ past) earlier) (stays_over plan past e earlier (earlier_over plan past round earlier current before));
    })

-- it never falls
pub current_rises : (plan : PlanOf) (past : List Entry) (e : Entry) (round next : ℕ) → current_round plan past ≡ Some round → current_round plan (e ∷ past) ≡ Some next → round ≤ next
current_rises plan past e round next current now =
    ⊎_elim
    (λ before. absurd (both_ways (is_over plan (e ∷ past) next) (not_over plan (e ∷ past) next now) (stays_over plan past e next (earlier_over plan past round next current before))))
    (λ above. above) (cases_lt next round)

-- ---- the rounds of entries

-- no entry of the beginning of a history is of a round behind one that is not over
none_above : (plan : PlanOf) (whole past : List Entry) (round : ℕ) → IsLegal plan past → is_over plan whole round ≡ false → ((number : ℕ) → HasEntry number past → is_posted whole number ≡ true) → AllByRecursion (λ (o : Entry). round_of plan o ≤ round) past
none_above plan whole [] round legal not_yet posts = tt
none_above plan whole (e ∷ past) round legal not_yet posts =
    let later = λ (number : ℕ) (has : HasEntry number past). posts number (has_later number e past has) in (
      ⊎_elim
          (λ before. absurd (both_ways (is_over plan whole round) not_yet (posts_over plan whole round (λ number of. later number (legal.0.rounds number of.run of.of_plan (let same = of.in_round in omega arith))))))
          (λ below. below) (cases_lt round (round_of plan e)),
      none_above plan whole past round legal.1 not_yet later,
    )

-- no entry of a legal history is of a later round than the current one
pub none_later : (plan : PlanOf) (past : List Entry) (round : ℕ) → IsLegal plan past → current_round plan past ≡ Some round → AllByRecursion (λ (o : Entry). round_of plan o ≤ round) past
none_later plan past round legal current = none_above plan past past round legal (not_over plan past round current) (has_posted past)
