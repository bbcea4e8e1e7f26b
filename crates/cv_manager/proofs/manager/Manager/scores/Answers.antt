use Rattle.std.proofs.Common.{◌∙◌, Bor, Option, ap, length, subst, arith}
use Rattle.std.specs.Prelude.{option_copied}
use Rattle.cv_base.specs.declared.cases.Case.{Case}
use Rattle.cv_manager.specs.declared.decided.Decided.{Decided}
use Rattle.cv_manager.specs.ManagerOf.{cases_in, seen_in}
use Rattle.cv_manager.specs.Progress.{DecidedOf, Decides, DecidesIf}
use Rattle.cv_manager.proofs.DecidedCase.{is_some, there}
use Rattle.cv_manager.proofs.manager.Manager.scores.Goals as goal

pub unwrap-decided-requires : goal.unwrap-decided-requires
unwrap-decided-requires c =
    let of = there (cases_in c.args.self.now) c.args.case c.requires.case in
    is_some c.args.self.now.plan c.args.case of.0 (seen_in c.args.self.now) c.decided.result (c.decided.ensures of.0 of.1) c.args.repair (c.requires.repair of.0 of.1)

module _ (c : goal.After-decided-2) (of : Case) where
  -- what is said of what was decided is said of the fields
  decides : DecidesIf c.args.self.now.plan c.args.case of (seen_in c.args.self.now) (option_copied c.decided.result) → Decides c.args.self.now.plan c.args.case of (seen_in c.args.self.now) c.unwrap-decided.result.now
  decides said = subst (λ (o : Option (Bor Decided)). DecidesIf c.args.self.now.plan c.args.case of (seen_in c.args.self.now) (option_copied o)) c.unwrap-decided.ensures said

pub returns-clause-number : goal.returns-clause-number
returns-clause-number c =
    let of = there (cases_in c.args.self.now) c.args.case c.requires.case in
    ap (λ (d : DecidedOf). d.scores.case) c.decided-2.view_is ∙ (decides c of.0 (c.decided.ensures of.0 of.1)).number

pub returns-clause-within : goal.returns-clause-within
returns-clause-within c =
    let of = there (cases_in c.args.self.now) c.args.case c.requires.case in
    let is = decides c of.0 (c.decided.ensures of.0 of.1) in
    let many = ap (λ (d : DecidedOf). length d.scores.counts) c.decided-2.view_is ∙ is.counts ∙ ap length is.repairs in
    omega (arith, many, c.requires.repair of.0 of.1)
