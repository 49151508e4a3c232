-- What a controller keeps within, at each turn of a slot.
use Rattle.std.specs.Prelude.{◌≡◌, ℕ, ◌<◌, ◌≤◌, ℤ, Bool, length, Option, unsigned_abs}
use Rattle.ttp_world.specs.declared.medl.Medl.{Medl}
use Rattle.ttp_world.specs.declared.node.Act.{Act}
use Rattle.ttp_world.specs.declared.node.Chosen.{Chosen}
use Rattle.ttp_world.specs.Act.{act}
use Rattle.ttp_world.specs.Medl.{IsValid}
use Rattle.ttp_world.specs.Past.{NodePast}
use Rattle.ttp_world.specs.World.{jump_taken}
use Rattle.controller.specs.declared.controller.Intent.{Intent}
use Rattle.controller.specs.Limits.{most_clock, JumpFits, turn_intent}
use Rattle.controller.specs.StandsFor.{message_planned}
use Rattle.controller.specs.ControllerView.{Turn, Ended, Begun, Planned}
use Rattle.controller.specs.Within.{IsPastWithin}

-- node k can do this in the coming slot, be it switched on and armed or not
pub record IsPossible (list : Medl) (k : ℕ) (past : NodePast) (does : Act) : Type 0 where
  pub on : Bool
  pub armed : Bool
  pub is : does ≡ act list k on armed past

-- and its clock jumps by what it takes of a slot's jumps
pub record IsBegunWithin (list : Medl) (k : ℕ) (past : NodePast) (does : Act) (jump : ℤ) : Type 0 where
  pub possible : IsPossible list k past does
  pub fits : JumpFits past.offset jump
  pub taken : jump ≡ jump_taken does jump

-- and what its frame carries is of some message that was chosen for it
pub record IsPlannedWithin (list : Medl) (k : ℕ) (past : NodePast) (does : Act) (jump : ℤ)
    (message : Option ℕ) : Type 0 where
  pub begun : IsBegunWithin list k past does jump
  pub chosen : Chosen
  pub carries : message ≡ message_planned list past chosen does

-- what a controller knows of its slot is possible for node k with this past
abbrev pub IsTurnWithin : Medl → ℕ → NodePast → Turn → Type 0
IsTurnWithin list k past Ended = Unit {0}
IsTurnWithin list k past (Begun does jump) = IsBegunWithin list k past does jump
IsTurnWithin list k past (Planned does jump message) = IsPlannedWithin list k past does jump message

-- node k's controller, which keeps what its next plan sends
pub record IsControllerWithin (list : Medl) (k : ℕ) (past : NodePast) (now : Turn) (sends : Intent) : Type 0 where
  pub valid : IsValid list
  pub node : k < length list.slots
  pub within : IsPastWithin list k past
  pub clock : unsigned_abs past.offset ≤ most_clock
  pub turn : IsTurnWithin list k past now
  pub intent : sends ≡ turn_intent list past now
