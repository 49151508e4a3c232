-- What is kept of a slot while the next one is read: its nodes, and the newest message of each port.
use Rattle.std.specs.Prelude.{◌≡◌, Bool, true, false, List, All, Option, Some, None}
use Rattle.ttp_base.specs.NodeSet.{set_bits}
use Rattle.whole_trace.specs.declared.shown.NodeShown.{NodeShown}
use Rattle.shown_slot.specs.declared.host.Port.{Port}
use Rattle.wave_text.specs.declared.slot.Moment.{Moment}
use Rattle.wave_text.specs.Places.{HasNewest}

-- the message of a port is that of the slot
abbrev pub ShowsNewest : Moment → Port → Type 0
ShowsNewest moment port = HasNewest moment.messages.items moment.slot.hosts port.host port.what

-- of each port
abbrev pub ShowsMessages : List Port → Moment → Type 0
ShowsMessages ports moment = All (ShowsNewest moment) ports

-- what there was in the slot before, where this one is not the first
abbrev pub unless_first : {X : Type 0} → Bool → X → Option X
unless_first true x = None
unless_first false x = Some x

-- two lines show the same of a node but for its peer and the frames that it accepted
pub record DiffersInCounts (before now : NodeShown) : Type 0 where
  pub word : before.word ≡ now.word
  pub message : before.message ≡ now.message
  pub members : set_bits before.members ≡ set_bits now.members
  pub rejected : before.rejected ≡ now.rejected
  pub ack : before.ack ≡ now.ack
  pub offset : before.offset ≡ now.offset
