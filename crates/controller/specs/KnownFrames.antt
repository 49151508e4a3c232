-- What is known of the bytes on both channels.
use Rattle.ttp_world.specs.declared.medl.Medl.{Medl}
use Rattle.medium.specs.declared.arrival.Arrival.{Arrival}
use Rattle.controller.specs.declared.known_frames.KnownFrames.{KnownFrames}
use Rattle.controller.specs.KnownFrame.{IsKnownOf}

-- what is known is of what came on both channels, and is judged by the list
pub record AreKnownOf (list : Medl) (came_a came_b : Arrival) (known : KnownFrames) : Type 0 where
  pub a : IsKnownOf list came_a known.a
  pub b : IsKnownOf list came_b known.b
