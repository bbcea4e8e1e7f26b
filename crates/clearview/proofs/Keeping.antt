-- How a call ends that keeps its rounds on a disk.
use Rattle.std.proofs.Common.{◌≡◌, ◌≢◌, ◌∙◌, ◌≤◌, ℕ, List, [], Option, Some, None, Ok, IfSome, IsTrue, inl, inr, refl, sym, ap, subst, arith}
use Rattle.std.specs.Prelude.{◌⊎◌}
use Rattle.cv_base.specs.declared.entries.Entry.{Entry}
use Rattle.cv_base.specs.PlanOf.{IsPlan, PlanOf}
use Rattle.cv_edge.specs.Disk.{Meaning}
use Rattle.cv_edge.specs.Edge.{FetchesUpTo, Held, Rose}
use Rattle.cv_histories.specs.Legal.{IsLegal, IsWhole}
use Rattle.cv_histories.specs.Report.{report}
use Rattle.cv_histories.specs.Unfired.{UnfiredArePlain}
use Rattle.cv_laws.specs.Statements.{OneWorkerIsSerial}
use Rattle.cv_manager.specs.ManagerOf.{ManagerOf}
use Rattle.cv_resume.specs.KeptRun.{IsKeptDone, LeavesKeptOf}
use Rattle.clearview.specs.Causes.{Completes, Ends, Silent, Writes, concerns}
use Rattle.clearview.specs.Gives.{Gives}
use Rattle.clearview.specs.Headline.{Comes, HasBook, IsBookOf, IsPosted, outside, past_of}
use Rattle.clearview.specs.Rounds.{CameTo}
use Rattle.clearview.specs.RoundsEnd.{IsLate, IsUnwritten, IsWritten, RoundsEnd, WholeEnd}
use Rattle.clearview.specs.Verdict.{IsFound, Verdict, plan_in, told_files, verdict_by}
use Rattle.clearview.specs.Words.{Kept, kept_rounds}
use Rattle.clearview.specs.declared.cause.Cause.{Cause}
use Rattle.clearview.specs.declared.cause.Cause.TheVariants as cause
use Rattle.clearview.specs.declared.judgement.Judgement.{Judgement}

-- ---- books

-- the book of all runs is that of one posted history
pub posted : (b : ManagerOf) → OneWorkerIsSerial → IsPlan b.plan → IsLegal b.plan b.past → UnfiredArePlain b.plan b.past → IsWhole b.plan b.past → IsPosted b
posted b law limits legal unfired whole = record {
  legal = legal;
  whole = whole;
  unfired = unfired;
  serial = λ one. law b.plan b.past limits one legal whole;
}

-- ---- with the book of all runs

pub done_book : (c : Cause) (b : ManagerOf) → (c ≡ cause.Done) ⊎ (c ≡ cause.SinkFault) → IsPosted b → IsBookOf c b
done_book c b (inl e) is = subst (λ (c : Cause). IsBookOf c b) (sym e) is
done_book c b (inr e) is = subst (λ (c : Cause). IsBookOf c b) (sym e) is

pub done_has : (c : Cause) → (c ≡ cause.Done) ⊎ (c ≡ cause.SinkFault) → HasBook c
done_has c (inl e) = subst HasBook (sym e) tt
done_has c (inr e) = subst HasBook (sym e) tt

done_silent : (c : Cause) (before after : Option (List ℕ)) → (c ≡ cause.Done) ⊎ (c ≡ cause.SinkFault) → Silent c before after
done_silent c before after (inl e) = subst (λ (c : Cause). Silent c before after) (sym e) tt
done_silent c before after (inr e) = subst (λ (c : Cause). Silent c before after) (sym e) tt

done_late : (c : Cause) → (c ≡ cause.Done) ⊎ (c ≡ cause.SinkFault) → IsLate c
done_late c (inl e) = inl e
done_late c (inr e) = inr (inl e)

no_disk_fault : (c : Cause) → (c ≡ cause.Done) ⊎ (c ≡ cause.SinkFault) → c ≢ cause.DiskFault
no_disk_fault c (inl e) is = absurd (cc (sym e ∙ is))
no_disk_fault c (inr e) is = absurd (cc (sym e ∙ is))

module _ {D : Type 0} (means : Meaning D) (plan : PlanOf) (old new : D) (leaves : LeavesKeptOf means plan old new) where
  done_came : (c : Cause) (b : ManagerOf) → (c ≡ cause.Done) ⊎ (c ≡ cause.SinkFault) → IsKeptDone means plan old new b → CameTo means plan old new (Some b) c
  done_came c b (inl e) done = subst (CameTo means plan old new (Some b)) (sym e) done
  done_came c b (inr e) done = subst (CameTo means plan old new (Some b)) (sym e) done

  -- memory was refused for the report's text
  no_memory : (now : Option (List ℕ)) (faults : ℕ) → means.faults old ≤ means.faults new → RoundsEnd means plan old new now now faults faults cause.NoMemory None
  no_memory now faults later = record {
    late = inr (inr (inl refl));
    book = (λ some. absurd (cc some), λ has. absurd has);
    posted = tt;
    of_plan = tt;
    report = tt;
    silent = refl;
    sink_fault = record { later = omega arith; failed = λ e. absurd (cc e) };
    came_to = tt;
    leaves = leaves;
    disk_fault = record { later = later; failed = λ e. absurd (cc e) };
  }

  written : (b : ManagerOf) (before after : Option (List ℕ)) (faults_before faults_after : ℕ) (c : Cause) → means.faults old ≤ means.faults new → IsKeptDone means plan old new b → IsWritten b before after faults_before faults_after c
      → RoundsEnd means plan old new before after faults_before faults_after c (Some b)
  written b before after faults_before faults_after c later done end = record {
    late = done_late c end.ends;
    book = (λ some. done_has c end.ends, λ has. refl);
    posted = done_book c b end.ends end.posted;
    of_plan = done.of_plan;
    report = end.writes;
    silent = done_silent c before after end.ends;
    sink_fault = end.sink_fault;
    came_to = done_came c b end.ends done;
    leaves = leaves;
    disk_fault = record { later = later; failed = λ e. absurd (no_disk_fault c end.ends e) };
  }

  unwritten : (before after : Option (List ℕ)) (faults_before faults_after : ℕ) (c : Cause) → means.faults old ≤ means.faults new → IsUnwritten before after faults_before faults_after c → RoundsEnd means plan old new before after faults_before faults_after c None
  unwritten before after faults_before faults_after c later end =
      subst (λ (c : Cause). RoundsEnd means plan old new before after faults_before faults_after c None) (sym end.ends)
      (subst (λ (w : Option (List ℕ)). RoundsEnd means plan old new before w faults_before faults_after cause.NoMemory None) (sym end.same)
      (subst (λ (n : ℕ). RoundsEnd means plan old new before before faults_before n cause.NoMemory None) (sym end.sink) (no_memory before faults_before later)))

  pub whole : (b : ManagerOf) (before after : Option (List ℕ)) (faults_before faults_after : ℕ) (c : Cause) (made : Option ManagerOf) → means.faults old ≤ means.faults new → IsKeptDone means plan old new b
      → WholeEnd b before after faults_before faults_after c made → RoundsEnd means plan old new before after faults_before faults_after c made
  whole b before after faults_before faults_after c None later done end = unwritten before after faults_before faults_after c later end
  whole b before after faults_before faults_after c (Some made) later done end =
      subst (λ (m : ManagerOf). RoundsEnd means plan old new before after faults_before faults_after c (Some m)) (sym end.0) (written b before after faults_before faults_after c later done end.1)

-- ---- the call

-- what comes once the plan stands
late_reads : (c : Cause) → IsLate c → IsTrue (concerns kept_rounds c)
late_reads c (inl e) = subst (λ (c : Cause). IsTrue (concerns kept_rounds c)) (sym e) refl
late_reads c (inr (inl e)) = subst (λ (c : Cause). IsTrue (concerns kept_rounds c)) (sym e) refl
late_reads c (inr (inr (inl e))) = subst (λ (c : Cause). IsTrue (concerns kept_rounds c)) (sym e) refl
late_reads c (inr (inr (inr (inl e)))) = subst (λ (c : Cause). IsTrue (concerns kept_rounds c)) (sym e) refl
late_reads c (inr (inr (inr (inr (f, e))))) = subst (λ (c : Cause). IsTrue (concerns kept_rounds c)) (sym e) refl

late_usage : (c : Cause) → IsLate c → c ≢ cause.Usage
late_usage c (inl e) is = absurd (cc (sym e ∙ is))
late_usage c (inr (inl e)) is = absurd (cc (sym e ∙ is))
late_usage c (inr (inr (inl e))) is = absurd (cc (sym e ∙ is))
late_usage c (inr (inr (inr (inl e)))) is = absurd (cc (sym e ∙ is))
late_usage c (inr (inr (inr (inr (f, e))))) is = absurd (cc (sym e ∙ is))

late_store : (c : Cause) → IsLate c → c ≢ cause.StoreFault
late_store c (inl e) is = absurd (cc (sym e ∙ is))
late_store c (inr (inl e)) is = absurd (cc (sym e ∙ is))
late_store c (inr (inr (inl e))) is = absurd (cc (sym e ∙ is))
late_store c (inr (inr (inr (inl e)))) is = absurd (cc (sym e ∙ is))
late_store c (inr (inr (inr (inr (f, e))))) is = absurd (cc (sym e ∙ is))

late_ends : (text : List ℕ) (c : Cause) → IsLate c → Ends (Ok text) c
late_ends text c (inl e) = subst (Ends (Ok text)) (sym e) (text, refl)
late_ends text c (inr (inl e)) = subst (Ends (Ok text)) (sym e) (text, refl)
late_ends text c (inr (inr (inl e))) = subst (Ends (Ok text)) (sym e) (inr (inl refl))
late_ends text c (inr (inr (inr (inl e)))) = subst (Ends (Ok text)) (sym e) (text, refl)
late_ends text c (inr (inr (inr (inr (f, e))))) = subst (Ends (Ok text)) (sym e) (text, refl)

late_complete : (text : List ℕ) (c : Cause) (StoreRose SinkRose : Type 0) → IsLate c → (c ≡ cause.SinkFault → SinkRose) → Completes (Ok text) StoreRose SinkRose c
late_complete text c StoreRose SinkRose (inl e) rose = λ t is store sink. inl e
late_complete text c StoreRose SinkRose (inr (inl e)) rose = λ t is store sink. absurd (sink (rose e))
late_complete text c StoreRose SinkRose (inr (inr (inl e))) rose = λ t is store sink. inr (inl e)
late_complete text c StoreRose SinkRose (inr (inr (inr (inl e)))) rose = subst (Completes (Ok text) StoreRose SinkRose) (sym e) (λ t is store sink. inr (inr tt))
late_complete text c StoreRose SinkRose (inr (inr (inr (inr (f, e))))) rose = subst (Completes (Ok text) StoreRose SinkRose) (sym e) (λ t is store sink. inr (inr tt))

-- nothing is written where there is no book
unwritten_by : (text : List ℕ) (c : Cause) (before after : Option (List ℕ)) → IsLate c → (HasBook c → ⊥) → Silent c before after → Writes (Ok text) c before after
unwritten_by text c before after (inl e) none silent = absurd (none (subst HasBook (sym e) tt))
unwritten_by text c before after (inr (inl e)) none silent = absurd (none (subst HasBook (sym e) tt))
unwritten_by text c before after (inr (inr (inl e))) none silent = subst (λ (c : Cause). Writes (Ok text) c before after) (sym e) (subst (λ (c : Cause). Silent c before after) e silent)
unwritten_by text c before after (inr (inr (inr (inl e)))) none silent = subst (λ (c : Cause). Writes (Ok text) c before after) (sym e) (subst (λ (c : Cause). Silent c before after) e silent)
unwritten_by text c before after (inr (inr (inr (inr (f, e))))) none silent = subst (λ (c : Cause). Writes (Ok text) c before after) (sym e) (subst (λ (c : Cause). Silent c before after) e silent)

abbrev Files : Type 0
Files = List ℕ → Option (List ℕ)

module _ {D : Type 0} (means : Meaning D) (job : List ℕ) (plan : PlanOf) (old new : D) (before after : Option (List ℕ)) (sinks sinks_after : ℕ) (c : Cause) where
  verdict : (file : Files) (past : List Entry) → plan_in file job ≡ Ok plan → verdict_by (Some (Kept job)) file past None ≡ Ok (report plan past)
  verdict file past of_file = rw of_file refl

  plan_of_book : (files : Option Files) (made : Option ManagerOf) → IfSome files (λ file. plan_in file job ≡ Ok plan) → IfSome made (λ (b : ManagerOf). b.plan ≡ plan) → IfSome files (λ file. IfSome made (λ (b : ManagerOf). plan_in file job ≡ Ok b.plan))
  plan_of_book None made of_file of_plan = tt
  plan_of_book (Some file) None of_file of_plan = tt
  plan_of_book (Some file) (Some b) of_file of_plan = of_file ∙ ap (λ (p : PlanOf). Ok p) (sym of_plan)

  ends : (files : Option Files) (past : List Entry) → IfSome files (λ file. plan_in file job ≡ Ok plan) → IsLate c → IfSome files (λ file. Ends (verdict_by (Some (Kept job)) file past None) c)
  ends None past of_file late = tt
  ends (Some file) past of_file late = subst (λ (v : Verdict). Ends v c) (sym (verdict file past of_file)) (late_ends (report plan past) c late)

  complete : (files : Option Files) (past : List Entry) (StoreRose SinkRose : Type 0) → IfSome files (λ file. plan_in file job ≡ Ok plan) → IsLate c → (c ≡ cause.SinkFault → SinkRose) → IfSome files (λ file. Completes (verdict_by (Some (Kept job)) file past None) StoreRose SinkRose c)
  complete None past StoreRose SinkRose of_file late rose = tt
  complete (Some file) past StoreRose SinkRose of_file late rose = subst (λ (v : Verdict). Completes v StoreRose SinkRose c) (sym (verdict file past of_file)) (late_complete (report plan past) c StoreRose SinkRose late rose)

  writes_with : (made : Option ManagerOf) → RoundsEnd means plan old new before after sinks sinks_after c made → Writes (Ok (report plan (past_of made))) c before after
  writes_with None end = unwritten_by (report plan []) c before after end.late (λ has. absurd (cc (end.book.1 has))) end.silent
  writes_with (Some b) end = subst (λ (p : PlanOf). Writes (Ok (report p b.past)) c before after) end.of_plan end.report

  writes : (files : Option Files) (made : Option ManagerOf) → IfSome files (λ file. plan_in file job ≡ Ok plan) → RoundsEnd means plan old new before after sinks sinks_after c made → IfSome files (λ file. Writes (verdict_by (Some (Kept job)) file (past_of made) None) c before after)
  writes None made of_file end = tt
  writes (Some file) made of_file end = subst (λ (v : Verdict). Writes v c before after) (sym (verdict file (past_of made) of_file)) (writes_with made end)

  none_found : (files : Option Files) → IfSome files (λ file. IfSome None (λ (said : Judgement). IsFound (Some (Kept job)) file said))
  none_found None = tt
  none_found (Some file) = tt

  of_files : (told : Option Held) → IfSome told (λ (held : Held). Gives (plan_in held.file job) (Ok plan)) → IfSome (told_files told) (λ file. plan_in file job ≡ Ok plan)
  of_files None gives = tt
  of_files (Some held) gives = gives

  module _ (told left : Option Held) (stores stores_after : ℕ) (made : Option ManagerOf) (gives : IfSome told (λ (held : Held). Gives (plan_in held.file job) (Ok plan)))
      (end : RoundsEnd means plan old new before after sinks sinks_after c made) where
    pub ran_comes : stores ≤ stores_after → FetchesUpTo 2 told left → Comes (Some (Kept job)) (outside told stores before sinks) (outside left stores_after after sinks_after) c made None
    ran_comes later fetches =
        let files = of_files told gives in
        record {
          posted = end.posted;
          report = end.report;
          plan = plan_of_book (told_files told) made files end.of_plan;
          book = (λ some. (refl, end.book.0 some), λ both. end.book.1 both.1);
          judged = none_found (told_files told);
          found_is = (λ some. absurd (cc some), λ both. absurd (cc both.0));
          usage = (λ is. absurd (late_usage c end.late is), λ is. absurd (cc is));
          reads = late_reads c end.late;
          ends = ends (told_files told) (past_of made) files end.late;
          writes = writes (told_files told) made files end;
          complete = complete (told_files told) (past_of made) (Rose stores stores_after) (Rose sinks sinks_after) files end.late end.sink_fault.failed;
          silent = end.silent;
          store_fault = record { later = later; failed = λ is. absurd (late_store c end.late is) };
          sink_fault = end.sink_fault;
          fetches = fetches;
        }
