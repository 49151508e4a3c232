-- Two scripts that say the same of the slots below one.
use Rattle.std.specs.Prelude.{◌≡◌, ℕ, ◌<◌, [], ◌∷◌, ◌++◌}
use Rattle.ttp_world.specs.declared.script.Channel.{Channel}
use Rattle.ttp_world.specs.declared.script.Event.{Event}
use Rattle.ttp_world.specs.declared.script.Event.TheVariants as event
use Rattle.ttp_world.specs.declared.script.Script.{Script}
use Rattle.ttp_world.specs.Script.{drift_of, flipped_bits, incidents_of, is_on, messages_written}

-- They say the same of node k in a slot: whether it is on, what happens to it (its faults, whether it is armed, its
-- reading errors and its clock's jumps), which bits of its frame are flipped on each channel, and what its host writes.
-- What its host reads changes no history.
pub record SayAlike (one other : Script) (k slot : ℕ) : Type 0 where
  pub on : is_on one k slot ≡ is_on other k slot
  pub incidents : incidents_of one k slot ≡ incidents_of other k slot
  pub flips : (c : Channel) → flipped_bits one k c slot ≡ flipped_bits other k c slot
  pub writes : messages_written one k slot ≡ messages_written other k slot

-- so they do of each node in all slots below this one, and all clocks drift alike
pub record AgreeBelow (one other : Script) (slot : ℕ) : Type 0 where
  pub drift : (k : ℕ) → drift_of one k ≡ drift_of other k
  pub said : (k s : ℕ) → s < slot → SayAlike one other k s

-- Later events.

-- the slot in which an event begins
abbrev pub begins_at : Event → ℕ
begins_at (event.Send node channels f from to) = from
begins_at (event.Receive node channels f from to) = from
begins_at (event.Flip node channels bit slot) = slot
begins_at (event.Error node value from to) = from
begins_at (event.Jump node value slot) = slot
begins_at (event.Arm node slot) = slot
begins_at (event.Write node slot payload) = slot
begins_at (event.Read node slot from) = slot

-- a script with one event more, behind the others
abbrev pub with_event : Script → Event → Script
with_event script more = record script { events = script.events ++ more ∷ [] }
