-- The newest version after each entry of a history, and floors as a walk through it tells them.
use Rattle.std.proofs.Common.{◌≡◌, ◌<◌, ◌≤◌, ◌+◌, ℕ, suc, Bool, true, false, List, [], ◌∷◌, ◌++◌, length, get_or, take, refl, sym, ap, ◌∙◌, ⊎_elim, arith}
use Rattle.std.proofs.lemmas.Bool.{cases_lt}
use Rattle.std.proofs.lemmas.Grind.{reverse_onto}
use Rattle.std.proofs.lemmas.List.{get_or_append_left, get_or_push, length-reverse, reverse-append, reverse-reverse, take-append-le, take_all, take_more}
use Rattle.std.proofs.lemmas.Bool.Decides.{nat_tests}
use Rattle.std.specs.Prelude.{◌==◌, ◌≢◌, nat_lt, reverse}
use Rattle.cv_base.specs.declared.entries.Entry.{Entry}
use Rattle.cv_base.specs.PlanOf.{PlanOf}
use Rattle.cv_histories.specs.Legal.{floor_of, up_to}
use Rattle.cv_histories.specs.Versions.{newest}
use Rattle.cv_laws.specs.VersionStatements.{FloorStays}
use Rattle.cv_audit.specs.Floors.{AreFloors, floors_of}

floors_long : (plan : PlanOf) (past : List Entry) → length (floors_of plan past) ≡ length past
floors_long plan [] = refl
floors_long plan (e ∷ past) = ap (λ (n : ℕ). suc n) (floors_long plan past)

-- there is one for each entry
pub floors_reach : (plan : PlanOf) (history : List Entry) (floors : List ℕ) → AreFloors plan (reverse history) floors → length floors ≡ length history
floors_reach plan history floors is =
    ap length is.are ∙ length-reverse (floors_of plan (reverse history)) ∙ floors_long plan (reverse history) ∙ length-reverse history

-- the last one is that of all entries, and the others are those before
floor_at : (plan : PlanOf) (past : List Entry) (k : ℕ) → k < length past → get_or (reverse (floors_of plan past)) k 0 ≡ newest plan (reverse (take (k + 1) (reverse past)))
floor_at plan [] k within = absurd (omega arith)
floor_at plan (e ∷ past) k within =
    let count : length (reverse past) ≡ length past = length-reverse past in
    let many : length (reverse (floors_of plan past)) ≡ length past = length-reverse (floors_of plan past) ∙ floors_long plan past in
    let floors = reverse_onto (floors_of plan past) (newest plan (e ∷ past)) [] in
    let entries = reverse_onto past e [] in
    ⊎_elim
    (λ earlier.
    let inside : k < length (reverse (floors_of plan past)) = omega arith in
    let reach : k + 1 ≤ length (reverse past) = omega arith in
    ap (λ (fs : List ℕ). get_or fs k 0) floors
    ∙ get_or_append_left (reverse (floors_of plan past)) (newest plan (e ∷ past) ∷ []) 0 k inside
    ∙ floor_at plan past k earlier
    ∙ ap (λ (h : List Entry). newest plan (reverse h)) (sym (take-append-le (k + 1) (reverse past) (e ∷ []) reach))
    ∙ ap (λ (h : List Entry). newest plan (reverse (take (k + 1) h))) (sym entries))
    (λ last.
    let here : length (reverse (floors_of plan past)) ≡ k = omega arith in
    let whole : length (reverse (e ∷ past)) ≤ k + 1 = omega (arith, length-reverse (e ∷ past)) in
    ap (λ (fs : List ℕ). get_or fs k 0) floors
    ∙ get_or_push (reverse (floors_of plan past)) (newest plan (e ∷ past)) 0 k here
    ∙ ap (newest plan) (sym (reverse-reverse (e ∷ past)))
    ∙ ap (λ (h : List Entry). newest plan (reverse h)) (sym (take_all (k + 1) (reverse (e ∷ past)) whole)))
    (cases_lt k (length past))

-- one more entry of a history
pub seen_more : (history : List Entry) (k : ℕ) (o : Entry) → k < length history → o ≡ get_or history k o → reverse (take (k + 1) history) ≡ o ∷ reverse (take k history)
seen_more history k o within is =
    ap (λ (h : List Entry). reverse h) (take_more history k o within ∙ ap (λ (x : Entry). take k history ++ x ∷ []) (sym is)) ∙ reverse-append (take k history) (o ∷ [])

-- an entry that passes the test gives the floor
pub taken : (plan : PlanOf) (test : Entry → Bool) (history : List Entry) (floors : List ℕ) (k : ℕ) (o : Entry) → AreFloors plan (reverse history) floors → k < length history → o ≡ get_or history k o → test o ≡ true
    → get_or floors k 0 ≡ floor_of plan test (reverse (take (k + 1) history))
taken plan test history floors k o are within is passes =
    let count : length (reverse history) ≡ length history = length-reverse history in
    let inside : k < length (reverse history) = omega arith in
    ap (λ (fs : List ℕ). get_or fs k 0) are.are
    ∙ floor_at plan (reverse history) k inside
    ∙ ap (λ (h : List Entry). newest plan (reverse (take (k + 1) h))) (reverse-reverse history)
    ∙ ap (newest plan) (seen_more history k o within is)
    ∙ sym (ap (λ (b : Bool). newest plan (elim b [ true ↦ o ∷ reverse (take k history) | false ↦ up_to test (reverse (take k history)) ])) passes)
    ∙ ap (λ (past : List Entry). floor_of plan test past) (sym (seen_more history k o within is))

-- and one that does not leaves it
pub left : FloorStays → (plan : PlanOf) (test : Entry → Bool) (history : List Entry) (floor k : ℕ) (o : Entry) → k < length history → o ≡ get_or history k o → test o ≡ false → floor ≡ floor_of plan test (reverse (take k history))
    → floor ≡ floor_of plan test (reverse (take (k + 1) history))
left floor_stays plan test history floor k o within is fails so_far =
    so_far ∙ sym (floor_stays plan test (reverse (take k history)) o fails) ∙ ap (λ (past : List Entry). floor_of plan test past) (sym (seen_more history k o within is))

-- the newest version of a history is the floor behind its last entry
pub floors_push : (plan : PlanOf) (past : List Entry) (e : Entry) (floors : List ℕ) (n : ℕ) → AreFloors plan past floors → n ≡ newest plan (e ∷ past) → AreFloors plan (e ∷ past) (floors ++ n ∷ [])
floors_push plan past e floors n are is =
    record { are = ap (λ (fs : List ℕ). fs ++ n ∷ []) are.are ∙ ap (λ (m : ℕ). reverse (floors_of plan past) ++ m ∷ []) is ∙ sym (reverse_onto (floors_of plan past) (newest plan (e ∷ past)) []) }

-- ---- tests

pub differ : (a b : ℕ) → a ≢ b → (a == b) ≡ false
differ a b apart = grind (arith, nat_tests)

pub is_before : (a b : ℕ) → a < b → nat_lt a b ≡ true
is_before a b less = grind (arith, nat_tests)

pub is_not_before : (a b : ℕ) → b ≤ a → nat_lt a b ≡ false
is_not_before a b above = grind (arith, nat_tests)
