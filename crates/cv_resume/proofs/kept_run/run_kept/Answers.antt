use Rattle.std.proofs.Common.{◌∙◌}
use Rattle.cv_resume.proofs.Running.{leaves, ran, recovering}
use Rattle.cv_resume.proofs.kept_run.run_kept.Goals as goal

-- src/kept_run.rt
pub returns-in_err-keep-clause-leaves : goal.returns-in_err-keep-clause-leaves
returns-in_err-keep-clause-leaves g c = recovering g.D.Disk.means c.args.plan c.args.disk.now c.recover.new.disk c.recover.ensures.images

pub returns-in_err-book-clause-leaves : goal.returns-in_err-book-clause-leaves
returns-in_err-book-clause-leaves g c = recovering g.D.Disk.means c.args.plan c.args.disk.now c.recover.new.disk c.recover.ensures.images

pub returns-in_err-resume-clause-leaves : goal.returns-in_err-resume-clause-leaves
returns-in_err-resume-clause-leaves g c =
    leaves g.D.Disk.means c.args.plan c.as_slice.result.now c.in_ok-book.field-0 c.args.disk.now c.recover.new.disk c.resume.new.disk
    c.in_ok-book.ensures.restored (λ tells. c.as_slice.ensures.value ∙ c.in_ok-keep.ensures.found tells) (c.in_ok-keep.ensures.pieces) c.recover.ensures.images c.resume.ensures.images

pub returns-clause-ran : goal.returns-clause-ran
returns-clause-ran g c =
    ran g.D.Disk.means c.args.plan c.as_slice.result.now c.in_ok-book.field-0 c.args.disk.now c.recover.new.disk c.resume.new.disk
    c.in_ok-book.ensures.restored (λ tells. c.as_slice.ensures.value ∙ c.in_ok-keep.ensures.found tells) (c.in_ok-keep.ensures.pieces) c.in_ok-resume.field-0 c.in_ok-book.ensures.joined c.in_ok-resume.ensures.resumed

pub returns-clause-leaves : goal.returns-clause-leaves
returns-clause-leaves g c =
    leaves g.D.Disk.means c.args.plan c.as_slice.result.now c.in_ok-book.field-0 c.args.disk.now c.recover.new.disk c.resume.new.disk
    c.in_ok-book.ensures.restored (λ tells. c.as_slice.ensures.value ∙ c.in_ok-keep.ensures.found tells) (c.in_ok-keep.ensures.pieces) c.recover.ensures.images c.resume.ensures.images
