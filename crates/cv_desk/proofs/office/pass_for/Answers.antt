use Rattle.std.proofs.Common.{ap}
use Rattle.cv_desk.proofs.Seating.{one_seated}
use Rattle.cv_desk.proofs.office.pass_for.Goals as goal

-- src/office.rt
pub returns-clause-seated : goal.returns-clause-seated
returns-clause-seated g c =
    one_seated c.args.setting.now c.args.worker c.args.master.now.me.0 c.requires.first c.requires.within c.seat-place.new.master.me.0 (ap (λ m. m.0) c.seat-place.ensures.master.2)
