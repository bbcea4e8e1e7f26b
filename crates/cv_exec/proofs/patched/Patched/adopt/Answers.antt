use Rattle.std.proofs.Common.{◌≡◌, ◌∙◌, refl, sym, ap}
use Rattle.cv_exec.specs.LiveRun.{one_entry_more}
use Rattle.cv_exec.specs.Keeping.{last_table}
use Rattle.cv_exec.proofs.Adopting.{last_more, same_table}
use Rattle.cv_exec.proofs.patched.Patched.adopt.Goals as goal

pub prepare-requires-clause-known : goal.prepare-requires-clause-known
prepare-requires-clause-known c = λ is.
    same_table c.args.version c.args.table.value c.args.self.now.spans.items c.requires.may is

pub returns-clause-ok : goal.returns-clause-ok
returns-clause-ok c =
    let rest = c.prepare.ensures.rest in
    let same : c.prepare.new.self.spans.items ≡ c.args.self.now.spans.items = ap (λ p. p.spans.items) rest in
    let spans : c.add_entry.new.spans.items ≡ one_entry_more c.args.version c.args.table.value c.args.self.now.spans.items = c.in_ok-add_entry.ensures.ok ∙ ap (one_entry_more c.args.version c.args.table.value) same in
    let last : last_table c.add_entry.new.spans.items ≡ c.args.table.value = ap last_table spans ∙ last_more c.args.version c.args.table.value c.args.self.now.spans.items c.requires.may in
    record {
      text = ap (λ p. p.text) rest;
      rule = ap (λ p. p.rule) rest;
      enters = ap (λ p. p.enters) rest;
      entered = refl;
      spans = spans;
      prepared = refl;
      ready = record {
        index = c.in_ok-prepare.ensures.index ∙ sym last;
        tally = rw last c.in_ok-prepare.ensures.tally;
        fired = rw last c.in_ok-prepare.ensures.fired;
      };
      counts = record {
        checks = c.prepare.ensures.counts.checks;
        firings = c.prepare.ensures.counts.firings;
        up_to = λ n before. let after = c.prepare.ensures.counts.up_to n before in record { tally = after.tally; fired = after.fired };
      };
    }
