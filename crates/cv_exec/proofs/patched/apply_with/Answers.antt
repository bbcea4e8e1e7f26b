use Rattle.std.proofs.Common.{[], refl}
use Rattle.cv_exec.proofs.Notes.{fired_still, tally_still}
use Rattle.cv_exec.proofs.patched.apply_with.Goals as goal

pub returns-in-None : goal.returns-in-None
returns-in-None c =
    rw c.in-None.is (record {
      core = refl;
      applied = refl;
      tally = tally_still [] c.args.tally.now refl;
      fired = fired_still [] c.args.fired.now refl;
      point = c.requires.point;
    })
