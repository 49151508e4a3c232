-- What a loss befalls, as the events that say it.
use Rattle.std.specs.Prelude.{ℕ}
use Rattle.ttp_world.specs.declared.script.Channels.{Channels}
use Rattle.ttp_world.specs.declared.script.Event.{Event}
use Rattle.ttp_world.specs.declared.script.Event.TheVariants as event
use Rattle.ttp_world.specs.declared.script.Fault.{Fault}
use Rattle.single_faults.specs.declared.tried.Lost.{Lost}
use Rattle.single_faults.specs.declared.tried.Lost.TheVariants as lost

-- the event by which a node loses a frame that it sends, or that it hears
abbrev pub loss_kind : Lost → ℕ → Channels → Fault → ℕ → ℕ → Event
loss_kind lost.Sent node = event.Send node
loss_kind lost.Heard node = event.Receive node
