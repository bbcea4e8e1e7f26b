-- The events of a world, as code names them.
use Rattle.cv_histories.specs.World as definition
use Rattle.cv_histories.specs.World.{Event}
use Rattle.cv_world.specs.declared.world.Event as code
use Rattle.cv_world.specs.declared.world.Event.TheVariants as variant

abbrev pub event_of : code.Event → Event
event_of (variant.Begin i) = definition.Begin i
event_of (variant.Enter i) = definition.Enter i
event_of (variant.Turn i) = definition.Turn i
event_of (variant.Post i) = definition.Post i
