-- Which messages the frames of a slot carry: each node whose frame carries one fetched it from its host.
use Rattle.std.specs.Prelude.{◌≡◌, ℕ, suc, ◌+◌, ◌<◌, true, List, [], ◌++◌, length, Option, Some, None, All, IsTrue}
use Rattle.std.specs.Prelude.{if◌then◌else◌}
use Rattle.ttp_world.specs.declared.medl.Medl.{Medl}
use Rattle.ttp_world.specs.declared.node.Chosen.{Chosen}
use Rattle.ttp_world.specs.declared.script.Script.{Script}
use Rattle.ttp_world.specs.Legal.{is_legal_message}
use Rattle.ttp_world.specs.Outgoing.{messages_before, message_chosen}
use Rattle.ttp_world.specs.Script.{writes_in}
use Rattle.ttp_world.specs.World.{BegunSlot, Numbers, slot_after, world, is_loaded, chosen_of}
use Rattle.line_text.specs.HostLines.{AreBytes}
use Rattle.controller.specs.Passes.{HaveBegun}
use Rattle.controller.specs.declared.seat.Seat.{Seat}
use Rattle.host_port.specs.declared.report.WriteLine.{WriteLine}
use Rattle.host_port.specs.Rings.{HostState, message_shape}
use Rattle.cluster_run.specs.declared.current.CurrentSlot.{CurrentSlot}
use Rattle.cluster_run.specs.Ends.{host_at}
use Rattle.cluster_run.specs.Report.{writes_shown}
use Rattle.cluster_run.specs.Rings.{IsRingOf, words_written, pairs_sent, pair_sent}
use Rattle.cluster_run.specs.Standing.{HoldsWritten}

-- what hosts write before a slot of this number is bytes
abbrev pub AreBytesBefore : Medl → Script → ℕ → Type 0
AreBytesBefore list script slot = (k : ℕ) → All AreBytes (messages_before list script k slot)

-- the slot after the world of some numbers
abbrev pub next_slot : Medl → Script → Numbers → BegunSlot
next_slot list script numbers = slot_after list script (world list script numbers)

-- the controllers have begun the slot, which is the one after the world of these numbers, and hosts have written up to
-- it
pub record HaveBegunFor (at : CurrentSlot) (numbers : Numbers) (seats : List Seat) (ends : List HostState) : Type 0
  where
    pub count : length numbers ≡ at.slot
    pub begun : HaveBegun (next_slot at.list.now at.script.now numbers) 0 seats
    pub written : (k : ℕ) → k < length at.list.now.slots → HoldsWritten at.list.now at.script.now numbers ends k

-- a slot may choose its messages: seats and ends stand for some legal numbers, there is a place for each node, and
-- hosts wrote bytes
pub record MayChoose (at : CurrentSlot) (seats : List Seat) (ends : List HostState) (chosen : List Chosen) : Type 0
  where
    pub ends_count : length ends ≡ length at.list.now.slots
    pub seats_count : length seats ≡ length at.list.now.slots
    pub chosen_count : length chosen ≡ length at.list.now.slots
    pub bytes : AreBytesBefore at.list.now at.script.now at.slot
    pub numbers : Numbers
    pub begun : HaveBegunFor at numbers seats ends

-- the number of the message in node k's frame, if it carries one
abbrev pub number_in_frame : BegunSlot → List Chosen → ℕ → Option ℕ
number_in_frame s chosen k = if is_loaded s k then Some (chosen_of chosen k).number else None

-- what node k's host wrote up to the end of the slot is in its ring, and what its frame carries was settled there
abbrev pub HoldsSent : Medl → Script → Numbers → Option ℕ → List HostState → ℕ → Type 0
HoldsSent list script numbers sent ends k =
    IsRingOf (message_shape list k) (words_written list script k (suc (length numbers)))
    (pairs_sent list script numbers k ++ pair_sent list script (length numbers) k sent) (host_at ends k)

-- each frame of the slot after the world of some numbers that carries a message carries one of its host, which is legal
pub record HaveChosen (list : Medl) (script : Script) (numbers : Numbers) (chosen : List Chosen)
    (ends : List HostState) : Type 0 where
  pub messages : (k : ℕ) → k < length list.slots → is_loaded (next_slot list script numbers) k ≡ true
      → chosen_of chosen k ≡ message_chosen list script (length numbers) k (Some (chosen_of chosen k).number)
  pub legal : (k : ℕ) → k < length list.slots → IsTrue (is_legal_message list script (length numbers) k
      (number_in_frame (next_slot list script numbers) chosen k))
  pub written : (k : ℕ) → k < length list.slots
      → HoldsSent list script numbers (number_in_frame (next_slot list script numbers) chosen k) ends k

-- hosts have written what they write in the slot, with these lines, and so each frame carries one of theirs
pub record ChoosesAll (at : CurrentSlot) (seats : List Seat) (old new : List HostState) (chosen : List Chosen)
    (lines : List WriteLine) : Type 0 where
  pub count : length new ≡ length old
  pub bytes : AreBytesBefore at.list.now at.script.now (at.slot + 1)
  pub lines_are : lines ≡ writes_shown at.list.now at.script.now at.slot [] (writes_in at.script.now at.slot)
  pub chooses : (numbers : Numbers) → HaveBegunFor at numbers seats old
      → HaveChosen at.list.now at.script.now numbers chosen new
