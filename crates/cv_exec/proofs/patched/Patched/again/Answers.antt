use Rattle.std.proofs.Common.{◌≡◌, ◌∙◌, true, refl, sym, ap}
use Rattle.cv_exec.specs.Keeping.{IsReady, is_of_version, last_span, last_table}
use Rattle.cv_exec.proofs.Adopting.{last_more, may_again}
use Rattle.cv_exec.proofs.patched.Patched.again.Goals as goal

pub returns-clause-entered : goal.returns-clause-entered
returns-clause-entered c = λ was.
    let items = c.args.self.now.spans.items in
    let known : is_of_version c.args.version (last_span items) ≡ true = ap (λ l. is_of_version c.args.version (last_span l)) (sym c.as_slice.ensures.value) ∙ sym c.is_last.ensures ∙ c.if-not-is_last.false in
    let last : last_table c.count_entry.new.spans.items ≡ last_table items = ap last_table c.count_entry.ensures ∙ last_more c.args.version (last_table items) items (may_again c.args.version items known) in
    let ready : IsReady c.args.self.now = c.requires.ready c.if-not-self.false in
    record {
      text = refl;
      rule = refl;
      enters = refl;
      entered = refl;
      spans = c.count_entry.ensures;
      prepared = c.if-not-self.false;
      ready = record {
        index = ready.index ∙ sym last;
        tally = rw last ready.tally;
        fired = rw last ready.fired;
      };
      counts = record {
        checks = λ checks counted. counted;
        firings = λ firings counted. counted;
        up_to = λ n before. record { tally = before.tally; fired = before.fired };
      };
    }
