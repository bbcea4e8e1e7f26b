use Rattle.std.proofs.Common.{◌≡◌, ◌+◌, ◌-◌, ◌∙◌, ap, length, set, arith}
use Rattle.cv_exec.specs.LiveRun.{Span}
use Rattle.cv_exec.specs.Keeping.{last_table}
use Rattle.cv_exec.proofs.Adopting.{entries_fit, joined_at}
use Rattle.cv_exec.proofs.patched.count_entry.Goals as goal

pub overflow_add-index_mut : goal.overflow_add-index_mut
overflow_add-index_mut c =
    let items = c.args.spans.now.items in
    let place : c.len-last.result - 1 ≡ length items - 1 = omega (arith, c.len-last.ensures, c.args.spans.now.ok.0) in
    let few = entries_fit c.args.version items (c.len-last.result - 1) c.index_mut.result.now place c.requires.last c.index_mut.ensures.value in
    let entries = ap (λ s. s.entries) c.behind-spans.view_is in
    omega (arith, c.requires.room)

pub returns : goal.returns
returns c =
    let items = c.args.spans.now.items in
    let place : c.len-last.result - 1 ≡ length items - 1 = omega (arith, c.len-last.ensures, c.args.spans.now.ok.0) in
    ap (λ (s : Span). set items (c.len-last.result - 1) (record s { entries = s.entries + 1 })) c.behind-spans.view_is
    ∙ joined_at c.args.version (last_table items) items (c.len-last.result - 1) c.index_mut.result.now place c.requires.last c.index_mut.ensures.value
