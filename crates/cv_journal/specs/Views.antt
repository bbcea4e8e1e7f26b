-- The values of a line, as the definitions see them.
use Rattle.cv_journal.specs.declared.values.Values.{Values}
use Rattle.cv_journal.specs.EntryReading.{ValuesOf}

abbrev pub values_view : Values → ValuesOf
values_view v = record {
  number = v.number.now;
  run = v.run.now;
  worker = v.worker.now;
  mode = v.mode.now;
  adopted = v.adopted.now;
  end = v.end.now;
  turns = v.turns.now;
  sites = v.sites.now;
  output = v.output.now;
  tally = v.tally.now;
  fired = v.fired.now;
}
