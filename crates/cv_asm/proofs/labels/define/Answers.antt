use Rattle.std.proofs.Common.{◌≡◌, false, List, ℕ, ap, sym, ◌∙◌, rules}
use Rattle.std.proofs.lemmas.Map.Text.{btree_map_updates_str}
use Rattle.std.specs.Borrow.{Bor}
use Rattle.std.specs.Option.{is_some, option_map}
use Rattle.cv_asm.specs.Labels.{found_in, found_or}
use Rattle.cv_asm.specs.Lines.{is_named}
use Rattle.cv_asm.proofs.FirstDefinitions.{put_in}
use Rattle.cv_asm.proofs.labels.define.Goals as goal

pub returns-in_ok-insert : goal.returns-in_ok-insert
returns-in_ok-insert c = λ wanted.
    let none : is_some (found_in c.args.labels.now c.in-Some.label.now) ≡ false = search rules in
    btree_map_updates_str c.in-Some.label.now c.args.labels.now c.insert.new.self _ c.in_ok-insert.ensures.updates wanted
    ∙ put_in (found_in c.args.labels.now) c.in-Some.label.now wanted (record { line = c.args.line; place = c.args.place }) none
    ∙ ap (λ o. found_or (found_in c.args.labels.now wanted) (is_named wanted o) (record { line = c.args.line; place = c.args.place })) (sym (ap (option_map (λ (l : Bor (List ℕ)). l.now)) c.in-Some.is))
