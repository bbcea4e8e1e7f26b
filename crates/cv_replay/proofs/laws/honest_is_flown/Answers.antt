use Rattle.cv_replay.proofs.HonestRun.{honest_flown}
use Rattle.cv_replay.proofs.laws.honest_is_flown.Goals as goal

pub returns : goal.returns
returns c = honest_flown c.under_tables.ensures c.no_plain_turn.ensures c.plain_turn_first.ensures
