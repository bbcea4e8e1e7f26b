use Rattle.cv_replay.proofs.Leaving.{first_version}
use Rattle.cv_replay.proofs.cursor.Cursor.version.Goals as goal

pub returns : goal.returns
returns c = first_version c.args.rows.now c.args.self.row c.args.self.used c.requires.left c.requires.cursor
