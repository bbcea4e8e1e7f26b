use Rattle.cv_office.proofs.Moves.{opens}
use Rattle.cv_office.proofs.seats.open.Goals as goal

-- src/seats.rt
pub of_words-requires : goal.of_words-requires
of_words-requires g c = opens c.start_is_ruled.ensures (g.C.Opens.opening c.args.about.now) (g.C.Opens.versions c.args.about.now) (g.C.Opens.workers c.args.about.now) c.args.versions c.requires.start c.requires.versions
