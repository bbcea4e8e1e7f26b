use Rattle.std.proofs.Common.{◌∷◌, take}
use Rattle.std.specs.Fmt.{HasWritten, IsPlainFormatter}
use Rattle.std.specs.List.{flat_map}
use Rattle.cv_base.specs.Text.{address_text}
use Rattle.cv_base.proofs.address.MoreAddressesDisplay.fmt.Given as goal

abbrev pub invariant-loop-value : goal.invariant-loop-value
invariant-loop-value g l =
    IsPlainFormatter l.initial.f → HasWritten g.W.Write.write_str_gives l.initial.f (flat_map (λ n. 44 ∷ address_text n) (take l.value-index l.value-items)) l.f
