use Rattle.std.proofs.Common.{◌≡◌, ◌++◌, ◌<◌}
use Rattle.std.specs.List.{All}
use Rattle.cv_isa.specs.Uses.{has, members_of}
use Rattle.cv_observe.proofs.Members.{members_from}
use Rattle.cv_observe.proofs.numbers.members.Given as goal

abbrev pub invariant-loop-r : goal.invariant-loop-r
invariant-loop-r l = (l.list.items ++ members_from (has l.set) l.r ≡ members_of l.set) × All (λ r. r < 32) l.list.items
