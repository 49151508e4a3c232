-- What an induction on membership asks of the clocks in a slot.
use Rattle.std.specs.Prelude.{◌≡◌, ℕ, ◌<◌, true, false, length, IsTrue}
use Rattle.ttp_world.specs.declared.medl.Medl.{Medl}
use Rattle.ttp_world.specs.Reception.{is_within_window}
use Rattle.ttp_world.specs.World.{BegunSlot, deviation_in}
use Rattle.safety_laws.specs.Plan.{Jumping, FaultPlan, enters}
use Rattle.safety_laws.specs.Fates.{Falling, Fallen, fate_of, is_sound_after}

-- in the slot of a turn that has begun, but for nodes that enter in it
pub record ClocksHold (list : Medl) (plan : FaultPlan) (turn : ℕ) (s : BegunSlot) : Type 0 where
  -- the deviation of two sound nodes lies inside the window
  pub within : (r p : ℕ) → r < length list.slots → p < length list.slots
      → is_sound_after plan turn r ≡ true → is_sound_after plan turn p ≡ true
      → enters plan turn r ≡ false → enters plan turn p ≡ false
      → IsTrue (is_within_window list (deviation_in s r p))
  -- that of a node whose clock jumped, in its first own slot from there on, lies outside it
  pub frame : (r p since : ℕ) → r < length list.slots → p < length list.slots
      → is_sound_after plan turn r ≡ true → enters plan turn r ≡ false
      → fate_of plan turn p ≡ Fallen Jumping since turn
      → is_within_window list (deviation_in s r p) ≡ false
  -- and before that slot each sound node's lies outside its own
  pub others : (r p since : ℕ) → r < length list.slots → p < length list.slots
      → fate_of plan turn r ≡ Falling Jumping since → is_sound_after plan turn p ≡ true → enters plan turn p ≡ false
      → is_within_window list (deviation_in s r p) ≡ false
