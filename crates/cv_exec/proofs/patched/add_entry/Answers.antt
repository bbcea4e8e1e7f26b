use Rattle.std.proofs.Common.{◌≡◌, ◌+◌, ◌-◌, ◌∙◌, true, sym, ap, length, set, arith}
use Rattle.cv_exec.specs.LiveRun.{Span}
use Rattle.cv_exec.specs.Keeping.{is_of_version, last_span}
use Rattle.cv_exec.proofs.Adopting.{entries_fit, joined_at, pushed}
use Rattle.cv_exec.proofs.patched.add_entry.Goals as goal

pub overflow_add-index_mut : goal.overflow_add-index_mut
overflow_add-index_mut c =
    let items = c.args.spans.now.items in
    let same : is_of_version c.args.version (last_span items) ≡ true = ap (λ l. is_of_version c.args.version (last_span l)) (sym c.as_slice.ensures.value) ∙ sym c.is_last.ensures ∙ c.if-is_last.true in
    let place : c.len-last.result - 1 ≡ length items - 1 = omega (arith, ap length c.as_slice.ensures.value) in
    let few = entries_fit c.args.version items (c.len-last.result - 1) c.index_mut.result.now place same c.index_mut.ensures.value in
    let entries = ap (λ s. s.entries) c.behind-spans.view_is in
    omega arith

pub returns-then-is_last-clause-ok : goal.returns-then-is_last-clause-ok
returns-then-is_last-clause-ok c =
    let items = c.args.spans.now.items in
    let same : is_of_version c.args.version (last_span items) ≡ true = ap (λ l. is_of_version c.args.version (last_span l)) (sym c.as_slice.ensures.value) ∙ sym c.is_last.ensures ∙ c.if-is_last.true in
    let place : c.len-last.result - 1 ≡ length items - 1 = omega (arith, ap length c.as_slice.ensures.value) in
    ap (λ (s : Span). set items (c.len-last.result - 1) (record s { entries = s.entries + 1 })) c.behind-spans.view_is
    ∙ joined_at c.args.version c.args.table.value items (c.len-last.result - 1) c.index_mut.result.now place same c.index_mut.ensures.value

pub returns-in_ok-push-clause-ok : goal.returns-in_ok-push-clause-ok
returns-in_ok-push-clause-ok c =
    c.in_ok-push.ensures.items
    ∙ pushed c.args.version c.args.table.value c.args.spans.now.items
    (ap (λ l. is_of_version c.args.version (last_span l)) (sym c.as_slice.ensures.value) ∙ sym c.is_last.ensures ∙ c.if-is_last.false)
