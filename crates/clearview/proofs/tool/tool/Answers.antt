use Rattle.clearview.proofs.Against.{no_plan_of_words, none_judged_of_words}
use Rattle.clearview.proofs.tool.tool.Goals as goal

-- src/tool.rt
pub returns-clause-comes : goal.returns-clause-comes
returns-clause-comes g c = record {
  posted = tt;
  report = tt;
  plan = no_plan_of_words c.args.words.now (g.S.Store.told c.args.store.now);
  book = (λ some. absurd cc, λ both. let yes = both.0 in let none = c.requires.book in absurd cc);
  judged = none_judged_of_words c.args.words.now (g.S.Store.told c.args.store.now);
  found_is = (λ some. absurd cc, λ both. let yes = both.0 in let none = c.requires.report in absurd cc);
  usage = c.carried_out-cause.ensures.usage;
  reads = c.carried_out-cause.ensures.reads;
  ends = c.carried_out-cause.ensures.ends;
  writes = c.carried_out-cause.ensures.writes;
  complete = c.carried_out-cause.ensures.complete;
  silent = c.carried_out-cause.ensures.silent;
  store_fault = c.carried_out-cause.ensures.store_fault;
  sink_fault = c.carried_out-cause.ensures.sink_fault;
  fetches = c.carried_out-cause.ensures.fetches;
}
