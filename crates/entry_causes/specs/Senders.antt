-- Who sends in a slot, by the entries of its nodes.
use Rattle.std.specs.Prelude.{ℕ, Bool, List, None, Option, Some, [], ◌∷◌, not, ◌&&◌}
use Rattle.causes.specs.RunSlots.{RunSlot, entry_in_slot}
use Rattle.ttp_world.specs.declared.script.Channel.{Channel}
use Rattle.ttp_world.specs.declared.script.Fault.TheVariants as fault
use Rattle.ttp_world.specs.Medium.{is_sending}
use Rattle.ttp_world.specs.Script.{has_send_fault}

-- the one of some nodes, if it is one
abbrev pub the_one : List ℕ → Option ℕ
the_one [] = None
the_one (p ∷ []) = Some p
the_one (p ∷ q ∷ others) = None

-- node k sends in a slot
abbrev pub sends_in : RunSlot → ℕ → Bool
sends_in s k = is_sending (entry_in_slot k s)

-- node k sends in a slot, and something of its frame is left on the channel
abbrev pub is_left_on : Channel → RunSlot → ℕ → Bool
is_left_on c s k = sends_in s k && not (has_send_fault s.begun.script fault.Silence k c s.begun.number)
