-- An event that may stand behind the others of a script and changes nothing of what is read of the slots before it.
use Rattle.std.specs.Prelude.{ℕ, nat_le, Bool, true, false, ◌&&◌, not}
use Rattle.ttp_world.specs.declared.script.Event.{Event}
use Rattle.ttp_world.specs.declared.script.Event.TheVariants as event
use Rattle.ttp_world.specs.Returning.{is_arm}
use Rattle.controller.specs.Agreement.{begins_at}

-- it begins in this slot or later, and arms no node
abbrev pub comes_later : ℕ → Event → Bool
comes_later slot event = nat_le slot (begins_at event) && not (is_arm event)

-- it says that frames are lost
abbrev pub is_loss : Event → Bool
is_loss (event.Send node channels f from to) = true
is_loss (event.Receive node channels f from to) = true
is_loss _ = false
