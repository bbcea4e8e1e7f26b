use Rattle.cv_manager.proofs.CaseLimits.{case_read_keeps}
use Rattle.cv_manager.specs.Tables.{IsCase}
use Rattle.cv_manager.proofs.manager.Manager.case.Goals as goal

keeps : (c : goal.After-index) → IsCase c.args.self.now.plan.image c.index.result.now
keeps c = case_read_keeps c.self.inside.kept c.self.invariant c.args.self.now c.self.view_is c.args.index c.index.result.now c.index.ensures c.requires

pub returns-clause-kinds : goal.returns-clause-kinds
returns-clause-kinds c = (keeps c).kinds

pub returns-clause-points : goal.returns-clause-points
returns-clause-points c = (keeps c).points

pub returns-clause-few : goal.returns-clause-few
returns-clause-few c = (keeps c).few
