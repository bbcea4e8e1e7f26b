-- The entry of a run that has ended, from the machine in which it ended and what the run tells
-- besides (docs/REPAIR.md, "Entries"). A condition of private parts.
use Rattle.std.specs.Prelude.{◌≡◌, List, []}
use Rattle.cv_base.specs.declared.ends.End.{End}
use Rattle.cv_base.specs.declared.entries.Entry.{Entry}
use Rattle.cv_base.specs.declared.plan.Mode.TheVariants.{Learn, Live}
use Rattle.cv_exec.specs.declared.ending.Account.{Account}
use Rattle.cv_exec.specs.declared.flying.Flying.{Flying}
use Rattle.cv_exec.specs.declared.flying.Flying.TheVariants.{Nothing, Learning, Living}
use Rattle.cv_exec.specs.declared.flying.Started.{Started}
use Rattle.cv_exec.specs.declared.patched.Patched.{Patched}
use Rattle.cv_exec.specs.Keeping.{IsKept}
use Rattle.cv_exec.specs.LiveRun.{rows_of}
use Rattle.cv_exec.specs.RunEnds.{end_sites}
use Rattle.cv_histories.specs.Rows.{checks_in, fired_of, firings_in, tally_of}
use Rattle.cv_machine.specs.Held.{Held}
use Rattle.cv_runs.specs.PatchedRun.{PatchedStep, notes_of}

-- a learn run tells nothing
abbrev pub plain_told : Account
plain_told = record { mode = Learn; adopted = []; tally = []; fired = [] }

-- a live run, after these steps
abbrev pub live_told : List PatchedStep → Patched → Account
live_told done p = record {
  mode = Live;
  adopted = rows_of p.spans.items;
  tally = tally_of (checks_in (notes_of done));
  fired = fired_of (firings_in (notes_of done));
}

abbrev pub IsTold : Flying → Account → Type 0
IsTold Nothing t = t ≡ plain_told
IsTold (Learning started) t = t ≡ plain_told
IsTold (Living started p) t = (done : List PatchedStep) → IsKept done p → t ≡ live_told done p

-- the entry of a run that has ended so
abbrev pub ended_entry : Started → End → Held → Account → Entry
ended_entry started end machine told = record {
  run = started.run;
  worker = started.worker;
  mode = told.mode;
  adopted = told.adopted;
  end = end;
  turns = started.turns;
  sites = end_sites end machine.core;
  output = machine.output;
  tally = told.tally;
  fired = told.fired;
}
