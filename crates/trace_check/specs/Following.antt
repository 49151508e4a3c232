-- How far a text has the lines that are due.
use Rattle.std.specs.Prelude.{◌≡◌, ◌↔◌, ℕ, ◌+◌, ◌<◌, ◌≤◌, nat_lt, true, List, [], ◌∷◌}
use Rattle.std.specs.Prelude.{◌++◌, length, take, get_or, slice_get, map, reverse}
use Rattle.std.specs.Prelude.{Option, Some, None, IfSome, IsTrue, if◌then◌else◌}
use Rattle.std.specs.List.{concat, list_all, AllByRecursion}
use Rattle.ttp_base.specs.NodeSet.{below}
use Rattle.ttp_base.specs.Text.{Lines}
use Rattle.ttp_world.specs.declared.medl.Medl.{Medl}
use Rattle.ttp_world.specs.declared.node.Chosen.{Chosen}
use Rattle.ttp_world.specs.declared.node.Entry.{Entry}
use Rattle.ttp_world.specs.declared.script.Script.{Script}
use Rattle.ttp_world.specs.declared.script.TheConstants.{SLOT_LIMIT}
use Rattle.ttp_world.specs.Diary.{History}
use Rattle.ttp_world.specs.Legal.{ReadMessage, read_messages, is_legal_read, is_not_older, IsLegal, IsLegalRun}
use Rattle.ttp_world.specs.Outgoing.{message_chosen}
use Rattle.ttp_world.specs.declared.host_lines.HostRead.{HostRead}
use Rattle.ttp_world.specs.Trace.{node_line_of, read_line, slot_lines, trace_lines}
use Rattle.ttp_world.specs.World.{SlotNumbers, Numbers, slot_after, is_loaded}
use Rattle.ttp_world.specs.World.{chosen_of, messages_chosen, row_in, world}
use Rattle.controller.specs.PlantStands.{PlantStandsFor, IsStep, outcome_at}
use Rattle.controller.specs.PlantView.{PlantView}
use Rattle.trace_check.specs.declared.follow.Follower.{Follower}
use Rattle.trace_check.specs.declared.incoming.Incoming.{Incoming}
use Rattle.line_text.specs.Labels.{after_label}
use Rattle.trace_check.specs.Incoming.{IsHostAndSource, TellsRings, AreFloorsWithin, floor_of, newest_before}
use Rattle.trace_check.specs.Outgoing.{HoldsNewest}

-- a text begins with these lines, and this is left of it
abbrev pub BeginsWith : List ℕ → Lines → List ℕ → Type 0
BeginsWith text lines rest = text ≡ concat lines ++ rest

-- A text begins with the first of these lines, or with none of them, and this is left of it; it does not go on with
-- the next of them.
pub record Departs (text : List ℕ) (lines : Lines) (rest : List ℕ) : Type 0 where
  pub right : Lines
  pub due : List ℕ
  pub others : Lines
  pub parts : lines ≡ right ++ due ∷ others
  pub begins : BeginsWith text right rest
  pub wrong : (more : List ℕ) → ¬ (rest ≡ due ++ more)

-- the row of the slot after a history, where these messages are chosen
abbrev pub row_after : Medl → Script → History → List Chosen → List Entry
row_after list script history chosen = row_in (slot_after list script history) chosen

-- the lines of the slot after some numbers, where these are that slot's
abbrev pub lines_of_slot : Medl → Script → SlotNumbers → Numbers → Lines
lines_of_slot list script new numbers =
    let before = world list script numbers in
    slot_lines list script
    (row_after list script before (messages_chosen list script (length numbers) new.sent)) before new

-- A slot's legal numbers after others, by which a text goes on with all lines of the slot.
pub record GoesOnBySlot (list : Medl) (script : Script) (numbers : Numbers) (text rest : List ℕ) : Type 0 where
  pub new : SlotNumbers
  pub legal : IsLegal list script (new ∷ numbers)
  pub begins : BeginsWith text (lines_of_slot list script new numbers) rest

-- A text goes on with some first lines of the slot after numbers, by some that are legal, and with the next line by
-- none that give these.
pub record DepartsAfter (list : Medl) (script : Script) (numbers : Numbers) (text rest : List ℕ) : Type 0 where
  pub new : SlotNumbers
  pub legal : IsLegal list script (new ∷ numbers)
  pub right : ℕ
  pub within : right < length (lines_of_slot list script new numbers)
  pub begins : BeginsWith text (take right (lines_of_slot list script new numbers)) rest
  pub wrong : (other : SlotNumbers) (more : List ℕ) → IsLegal list script (other ∷ numbers)
      → take right (lines_of_slot list script other numbers) ≡ take right (lines_of_slot list script new numbers)
      → ¬ (rest ≡ get_or (lines_of_slot list script other numbers) right [] ++ more)

-- The parts of a slot.

-- A plant is past the slot after a history, in which these messages were chosen, which hosts have written; the rings
-- that hosts read are known as they were before it.
pub record HasEnded (plant : PlantView) (incoming : Incoming) (list : Medl) (script : Script) (history : History)
    (chosen : List Chosen) : Type 0 where
  pub same : plant.list ≡ list
  pub step : IsStep plant script history chosen
  pub of_hosts : (k : ℕ) → k < length list.slots → is_loaded (slot_after list script history) k ≡ true
      → chosen_of chosen k ≡ message_chosen list script (length history) k (Some (chosen_of chosen k).number)
  pub senders : (k : ℕ) → k < length list.slots
      → IfSome (outcome_at plant k).delivered (λ d. d.sender < length list.slots)
  pub rings : TellsRings incoming list script history

-- a plant and what hosts read are past the slot of this number, for some history
pub record IsPast (plant : PlantView) (incoming : Incoming) (list : Medl) (slot : ℕ) : Type 0 where
  pub script : Script
  pub history : History
  pub chosen : List Chosen
  pub few : length history ≡ slot
  pub small : slot < SLOT_LIMIT
  pub ended : HasEnded plant incoming list script history chosen

-- the lines of the nodes there
abbrev pub node_lines : Medl → Script → History → List Chosen → Lines
node_lines list script history chosen =
    map (node_line_of list script (row_after list script history chosen) history) (below (length list.slots))

-- the line of a read there
abbrev pub line_of_read : Medl → Script → History → List Chosen → ReadMessage → List ℕ
line_of_read list script history chosen r =
    read_line list script (length history) (row_after list script history chosen ∷ history) r

-- a message that a host may read there, after these reads of the slot, the newest first
pub record MayRead (list : Medl) (script : Script) (history : History) (chosen : List Chosen)
    (earlier : List ReadMessage) (r : ReadMessage) : Type 0 where
  pub between : IsTrue (is_legal_read list script history (row_after list script history chosen ∷ history) r)
  pub not_older : IsTrue (list_all (is_not_older r) earlier)

-- Of these reads of the slot, the newest first, some of a ring got a message that is newer than the newest one before
-- the slot exactly where the ring's floor is above that.
pub record KnowsReads (incoming : Incoming) (list : Medl) (script : Script) (history : History) (chosen : List Chosen)
    (earlier : List ReadMessage) : Type 0 where
  pub newer : (read : HostRead) → IsHostAndSource list read.host read.source
      → (floor_of incoming read.host read.source ≤ newest_before list script history read)
      ↔ AllByRecursion (λ r. r.read ≡ read → r.number ≤ newest_before list script history read) earlier
  pub up_to : AllByRecursion
      (λ r. r.number ≤ newest_before list script (row_after list script history chosen ∷ history) r.read) earlier
  pub within : AreFloorsWithin incoming list script (row_after list script history chosen ∷ history)

-- what follows the line of a read that got the message of this number
abbrev pub behind_read : Medl → Script → History → List Chosen → HostRead → ℕ → List ℕ → Option (List ℕ)
behind_read list script history chosen read number text =
    after_label (line_of_read list script history chosen (record { read = read; number = number })) text

-- and of one that got the message that is new in the slot, if there is one
abbrev pub behind_new_read : Medl → Script → History → List Chosen → HostRead → List ℕ → Option (List ℕ)
behind_new_read list script history chosen read text =
    let before = newest_before list script history read in
    if nat_lt before (newest_before list script (row_after list script history chosen ∷ history) read)
    then behind_read list script history chosen read (before + 1) text else None

-- a text goes on with the line of a read after these, by some number that is legal
pub record ReadsOne (list : Medl) (script : Script) (history : History) (chosen : List Chosen)
    (earlier : List ReadMessage) (read : HostRead) (new : Incoming) (text rest : List ℕ) : Type 0 where
  pub number : ℕ
  pub legal : MayRead list script history chosen earlier (record { read = read; number = number })
  pub begins : text ≡ line_of_read list script history chosen (record { read = read; number = number }) ++ rest
  pub knows : KnowsReads new list script history chosen (record { read = read; number = number } ∷ earlier)

-- or by none
pub record ReadsNone (list : Medl) (script : Script) (history : History) (chosen : List Chosen)
    (earlier : List ReadMessage) (read : HostRead) (text rest : List ℕ) : Type 0 where
  pub same : rest ≡ text
  pub wrong : (number : ℕ) (more : List ℕ)
      → MayRead list script history chosen earlier (record { read = read; number = number })
      → ¬ (text ≡ line_of_read list script history chosen (record { read = read; number = number }) ++ more)

-- each of some reads may be made by legal numbers, the first one after these
abbrev pub MayReadAll : Medl → Script → History → List Chosen → List ReadMessage → List ReadMessage → Type 0
MayReadAll list script history chosen earlier [] = Unit {0}
MayReadAll list script history chosen earlier (r ∷ reads) =
    MayRead list script history chosen earlier r × MayReadAll list script history chosen (r ∷ earlier) reads

-- a text goes on with the lines of some reads, by some numbers that are legal
pub record ReadsOn (list : Medl) (script : Script) (history : History) (chosen : List Chosen) (reads : List HostRead)
    (text rest : List ℕ) : Type 0 where
  pub numbers : List ℕ
  pub count : length numbers ≡ length reads
  pub legal : MayReadAll list script history chosen [] (read_messages reads numbers)
  pub begins : BeginsWith text (map (line_of_read list script history chosen) (read_messages reads numbers)) rest

-- it goes on with those of the first reads, by some legal numbers, and with the next one by none
pub record ReadsAmiss (list : Medl) (script : Script) (history : History) (chosen : List Chosen)
    (reads : List HostRead) (text rest : List ℕ) : Type 0 where
  pub numbers : List ℕ
  pub within : length numbers < length reads
  pub legal : MayReadAll list script history chosen [] (read_messages reads numbers)
  pub begins : BeginsWith text (map (line_of_read list script history chosen) (read_messages reads numbers)) rest
  pub wrong : (read : HostRead) (number : ℕ) (more : List ℕ) → slice_get reads (length numbers) ≡ Some read
      → (let r : ReadMessage = record { read = read; number = number } in
      MayRead list script history chosen (reverse (read_messages reads numbers)) r
      → ¬ (rest ≡ line_of_read list script history chosen r ++ more))

-- The whole.

-- a follower knows all that comes of these numbers
pub record FollowerStandsFor (f : Follower) (list : Medl) (script : Script) (numbers : Numbers) : Type 0 where
  pub same : f.plant.list ≡ list
  pub plant : PlantStandsFor f.plant script (world list script numbers)
  pub outgoing : HoldsNewest f.outgoing list script (length numbers)
  pub incoming : TellsRings f.incoming list script (world list script numbers)
  pub floors : AreFloorsWithin f.incoming list script (world list script numbers)

-- a follower knows all that comes of some legal numbers of so many slots
pub record StandsAt (f : Follower) (list : Medl) (script : Script) (slot : ℕ) : Type 0 where
  pub numbers : Numbers
  pub count : length numbers ≡ slot
  pub legal : IsLegal list script numbers
  pub stands : FollowerStandsFor f list script numbers

-- a text goes on with a slot's lines by some legal numbers, and the follower knows what comes of these
pub record GoesOnTo (f : Follower) (list : Medl) (script : Script) (numbers : Numbers)
    (text rest : List ℕ) : Type 0 where
  pub goes_on : GoesOnBySlot list script numbers text rest
  pub stands : FollowerStandsFor f list script (goes_on.new ∷ numbers)

-- a text begins with the trace of a run, and this is left of it
pub record IsTraceAnd (list : Medl) (script : Script) (text rest : List ℕ) : Type 0 where
  pub numbers : Numbers
  pub legal : IsLegalRun list script numbers
  pub begins : BeginsWith text (trace_lines list script numbers) rest

-- A text begins with so many lines of a run's trace, and with the next line of none that has these.
pub record IsAmissAt (list : Medl) (script : Script) (text rest : List ℕ) : Type 0 where
  pub numbers : Numbers
  pub legal : IsLegalRun list script numbers
  pub right : ℕ
  pub within : right < length (trace_lines list script numbers)
  pub begins : BeginsWith text (take right (trace_lines list script numbers)) rest
  pub wrong : (others : Numbers) (more : List ℕ) → IsLegalRun list script others
      → take right (trace_lines list script others) ≡ take right (trace_lines list script numbers)
      → ¬ (rest ≡ get_or (trace_lines list script others) right [] ++ more)
