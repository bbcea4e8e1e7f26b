use Rattle.cv_histories.specs.declared.TheConstants.{MOST_CANDIDATES}
use Rattle.cv_case.proofs.Placing.{put_in}
use Rattle.cv_case.proofs.nearest.place.Goals as goal

pub returns : goal.returns
returns c =
    put_in c.args.site MOST_CANDIDATES c.args.nearest.now.items _ _ _ c.args.invariant _ c.as_slice.ensures.value c.place_of-at.ensures.place c.in_ok-insert.ensures.items c.truncate.ensures.items
