-- Where worker 0 alone takes runs, each live entry of a legal history adopted the newest version
-- alone, and a legal and whole history is the serial one.
use Rattle.std.proofs.Common.{◌≡◌, ◌≤◌, ◌∙◌, ◌+◌, ℕ, Bool, true, false, List, [], ◌∷◌, length, drop, refl, sym, ap, arith}
use Rattle.std.proofs.lemmas.Bool.{eq-eqb}
use Rattle.std.proofs.lemmas.List.{drop_all}
use Rattle.std.specs.Prelude.{◌==◌, map}
use Rattle.std.specs.List.{AllByRecursion}
use Rattle.cv_base.specs.declared.entries.Adopted.{Adopted}
use Rattle.cv_base.specs.declared.entries.Entry.{Entry}
use Rattle.cv_base.specs.PlanOf.{IsPlan, PlanOf}
use Rattle.cv_histories.specs.Legal.{IsLegal, MayFollow, floor_of, up_to}
use Rattle.cv_histories.specs.Runs.{Run, runs}
use Rattle.cv_histories.specs.Seen.{Seen}
use Rattle.cv_histories.specs.Serial.{serial_from, serial_ledger}
use Rattle.cv_histories.specs.Versions.{Ledger, ledger, newest, posted}
use Rattle.cv_laws.specs.InOrder.{AreBelow, AreByWorkerZero}
use Rattle.cv_laws.specs.Statements.{OneWorkerIsSerial, WorkerZeroIsSerial}
use Rattle.cv_laws.specs.Each.{both}
use Rattle.cv_laws.proofs.InOrder.{entries_seen}
use Rattle.cv_laws.proofs.OneWorkerRises.{whole_in_order}
use Rattle.cv_laws.proofs.RunOrder.{left_at}
use Rattle.cv_laws.proofs.SerialEntry.{next_is_serial}

-- ---- the newest version

-- the newest entry of the past is the worker's
floor_is_newest : (plan : PlanOf) (past : List Entry) (e : Entry) → AreByWorkerZero past → e.worker ≡ 0 → floor_of plan (λ (o : Entry). o.worker == e.worker) past ≡ newest plan past
floor_is_newest plan [] e by worker = refl
floor_is_newest plan (o ∷ past) e by worker =
    ap (λ (b : Bool). newest plan (elim b [ true ↦ o ∷ past | false ↦ up_to (λ (o : Entry). o.worker == e.worker) past ])) (eq-eqb o.worker e.worker (by.0 ∙ sym worker))

-- so an entry that may follow adopted the newest version alone
all_newest : (plan : PlanOf) (past : List Entry) (e : Entry) → AreByWorkerZero past → e.worker ≡ 0 → MayFollow plan past e → AllByRecursion (λ (a : Adopted). a.version ≡ newest plan past) e.adopted
all_newest plan past e by worker follows =
    let floor = floor_is_newest plan past e by worker in
    both (λ (a : Adopted). floor_of plan (λ (o : Entry). o.worker == e.worker) past ≤ a.version) (λ (a : Adopted). a.version ≤ newest plan past) (λ (a : Adopted). a.version ≡ newest plan past)
    (λ a above below. omega arith) e.adopted follows.above_worker follows.at_most_newest

-- ---- the serial history

-- the runs from k on, after a legal history of those before them, make the serial history
serial_so_far : (plan : PlanOf) (k : ℕ) (past : List Entry) → IsPlan plan → AreByWorkerZero past → AreBelow k past → IsLegal plan past → serial_from plan k (drop k (runs plan)) (ledger plan past) ≡ serial_ledger plan
serial_so_far plan k [] is by are legal = ap (λ n. serial_from plan n (drop n (runs plan)) (ledger plan [])) are
serial_so_far plan k (e ∷ past) is by are legal =
    let l = ledger plan past in
    let honest = legal.0.honest in
    let next = next_is_serial plan past e.run e is.some_budget (record { run = refl; worker = by.0; newest_alone = all_newest plan past e by.1 by.0 legal.0; honest = honest }) in
    let rest = drop (e.run + 1) (runs plan) in
    ap (λ n. serial_from plan n (drop n (runs plan)) (posted plan l e)) are.0
    ∙ ap (λ (o : Entry). serial_from plan (e.run + 1) rest (posted plan l o)) next
    ∙ ap (λ (left : List Run). serial_from plan e.run left l) (sym (left_at (runs plan) e.run honest.run honest.of_plan))
    ∙ serial_so_far plan e.run past is by.1 are.1 legal.1

-- after all runs
pub worker_zero_is_serial : WorkerZeroIsSerial
worker_zero_is_serial plan past is by legal whole =
    let n = length (runs plan) in
    let l = ledger plan past in
    let all : l ≡ serial_ledger plan =
    ap (λ (left : List Run). serial_from plan n left l) (sym (drop_all n (runs plan) (omega arith)))
    ∙ serial_so_far plan n past is by (whole_in_order plan past by legal whole) legal in
    sym (entries_seen plan past) ∙ ap (λ (l : Ledger). map (λ (s : Seen). s.entry) l.seen) all

-- ---- with one worker

-- all entries are by worker 0
by_the_one : (plan : PlanOf) (past : List Entry) → plan.workers ≡ 1 → IsLegal plan past → AreByWorkerZero past
by_the_one plan [] one legal = tt
by_the_one plan (e ∷ past) one legal =
    let worker = legal.0.worker in
    (omega arith, by_the_one plan past one legal.1)

-- so a legal and whole history is the serial one
pub one_worker_is_serial : OneWorkerIsSerial
one_worker_is_serial plan past is one legal whole = worker_zero_is_serial plan past is (by_the_one plan past one legal) legal whole
