use Rattle.std.proofs.Common.{subst, sym}
use Rattle.std.proofs.lemmas.List.{length-map}
use Rattle.cv_histories.specs.Seen.{last_version}
use Rattle.cv_manager.specs.Journal.{EnforcesOne}
use Rattle.cv_manager.specs.Kept.{past_of}
use Rattle.cv_manager.proofs.One.{enforces_one}
use Rattle.cv_manager.proofs.kept.Kept.progress_with.Goals as goal

pub invariant_of-posting : goal.invariant_of-posting
invariant_of-posting c = record {
  text = c.requires.kept.text;
  room = rw length-map at c.requires.room;
  one = subst EnforcesOne (sym c.requires.last) (enforces_one c.args.self.now.plan (past_of c.args.self.now) (last_version c.args.entry.now.adopted));
}
