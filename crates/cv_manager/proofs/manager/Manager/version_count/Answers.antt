use Rattle.std.proofs.Common.{length, ◌≡◌, sym, ap, ◌∙◌, arith}
use Rattle.std.proofs.lemmas.List.{length-map}
use Rattle.cv_manager.specs.Kept.{ledger_of, past_of}
use Rattle.cv_manager.proofs.Sizes.{some_version}
use Rattle.cv_manager.proofs.manager.Manager.version_count.Goals as goal

pub returns-clause-some : goal.returns-clause-some
returns-clause-some c =
    let k = c.self.inside.kept in
    let some = some_version k.plan (past_of k) in
    let long : length k.versions.items ≡ length ((ledger_of k).versions) = sym (length-map k.versions.items (λ t. t.value)) ∙ ap length c.self.invariant.versions in
    omega (arith, some, long, c.len.ensures)
