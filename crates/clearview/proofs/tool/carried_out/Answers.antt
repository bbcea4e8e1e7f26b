use Rattle.std.proofs.Common.{Err, [], None, ap, map, string_bytes}
use Rattle.clearview.specs.declared.cause.Cause.{Cause}
use Rattle.clearview.specs.Verdict.{verdict_by}
use Rattle.clearview.specs.Words.{command_of}
use Rattle.clearview.proofs.Against.{complete_against, complete_text, ends_against, ends_text, no_rounds, posts_keeps, writes_of_words, writes_text}
use Rattle.clearview.proofs.tool.carried_out.Goals as goal

-- src/tool.rt
pub returns-in-Err-clause-ends : goal.returns-in-Err-clause-ends
returns-in-Err-clause-ends g c = ends_against _ _ c.in-Err.cause c.in-Err.ensures.gives c.in-Err.ensures.done.0 c.in-Err.ensures.done.1
    (no_rounds (command_of (map string_bytes c.args.words.now)) c.in-Err.cause (posts_keeps (command_of (map string_bytes c.args.words.now)) c.requires.book) c.in-Err.ensures.reads)

pub returns-in-Err-clause-writes : goal.returns-in-Err-clause-writes
returns-in-Err-clause-writes g c = writes_of_words c.args.words.now (g.S.Store.told c.args.store.now) c.in-Err.cause (g.K.Sink.written c.args.sink.now) c.in-Err.ensures.done.0 c.in-Err.ensures.done.1

pub returns-in-Err-clause-complete : goal.returns-in-Err-clause-complete
returns-in-Err-clause-complete g c =
    complete_against _ _ c.in-Err.cause _ _ c.in-Err.ensures.gives (λ e. c.in-Err.ensures.fault.failed (ap (λ (x : Cause). Err x) e))

pub returns-in-Ok-clause-ends : goal.returns-in-Ok-clause-ends
returns-in-Ok-clause-ends g c =
    ends_text _ (λ file. verdict_by (command_of (map string_bytes c.args.words.now)) file [] None) c.in-Ok.text c.written.result c.in-Ok.ensures.gives c.written.ensures.ends

pub returns-in-Ok-clause-writes : goal.returns-in-Ok-clause-writes
returns-in-Ok-clause-writes g c =
    writes_text _ (λ file. verdict_by (command_of (map string_bytes c.args.words.now)) file [] None) c.in-Ok.text c.written.result _ _ c.in-Ok.ensures.gives (rw c.as_slice.ensures at c.written.ensures.writes)

pub returns-in-Ok-clause-complete : goal.returns-in-Ok-clause-complete
returns-in-Ok-clause-complete g c =
    complete_text _ (λ file. verdict_by (command_of (map string_bytes c.args.words.now)) file [] None) c.written.result _ _ c.written.ensures.ends (λ e. c.written.ensures.fault.failed e)
