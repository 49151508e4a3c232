-- A run as a list of its slots, the newest first: how each began, what was sent in it, and what nodes did.
--
-- Where a slot and those before it are given, the slot is the one that is asked about, and each list of slots reaches
-- back to slot 0, so that its length tells the number of its newest.
use Rattle.std.specs.Prelude.{Bool, List, None, Option, Some, [], drop, false, filter, length, map, suc, true, ℕ, ◌-◌}
use Rattle.std.specs.Prelude.{◌∷◌}
use Rattle.ttp_world.specs.ZerosWorld.{all_zeros}
use Rattle.causes.specs.declared.cause.Spot.{Spot}
use Rattle.ttp_world.specs.Acknowledgement.{is_sent_or_joined}
use Rattle.ttp_world.specs.Act.{coming_place}
use Rattle.ttp_world.specs.Diary.{History, Place, entry_of}
use Rattle.ttp_world.specs.Medium.{SentFrame}
use Rattle.ttp_world.specs.Past.{NodePast}
use Rattle.ttp_world.specs.World.{BegunSlot, frames_in, node_of, slot_after}
use Rattle.ttp_world.specs.declared.medl.Medl.{Medl}
use Rattle.ttp_world.specs.declared.node.Ack.{Ack}
use Rattle.ttp_world.specs.declared.node.Entry.{Entry}
use Rattle.ttp_world.specs.declared.node.Verdict.{Verdict}
use Rattle.ttp_world.specs.declared.script.Script.{Script}
use Rattle.ttp_world.specs.declared.node.Ack.TheVariants as ack
use Rattle.ttp_world.specs.declared.node.Entry.TheVariants as entry
use Rattle.ttp_world.specs.declared.node.Verdict.TheVariants as verdict

-- a slot of a run
pub record RunSlot : Type 0 where
  pub begun : BegunSlot
  pub frames : List SentFrame
  pub row : List Entry

-- the newest first
abbrev pub RunSlots : Type 0
RunSlots = List RunSlot

-- a slot after a history, in which frames carry zeros and nodes made these entries
abbrev pub slot_of_run : Medl → Script → History → List Entry → RunSlot
slot_of_run list script history row =
    let begun = slot_after list script history in
    record { begun = begun; frames = frames_in begun (all_zeros list); row = row }

-- those of a history
abbrev pub slots_of_run : Medl → Script → History → RunSlots
slots_of_run list script [] = []
slots_of_run list script (row ∷ history) = slot_of_run list script history row ∷ slots_of_run list script history

-- the slots of a run up to this one
abbrev pub slots_to : RunSlots → ℕ → RunSlots
slots_to run slot = drop (length run - suc slot) run

-- What a node is in a slot.

-- the entry of node k
abbrev pub entry_in_slot : ℕ → RunSlot → Entry
entry_in_slot k s = entry_of s.row k

-- its name
abbrev pub node_spot : ℕ → RunSlot → Spot
node_spot k s = record { slot = s.begun.number; node = k }

-- what is read of node k's past as the slot begins
abbrev pub past_in : ℕ → RunSlot → NodePast
past_in k s = (node_of s.begun k).past

-- where an active node k stands in the cluster cycle
abbrev pub place_of_node : ℕ → RunSlot → Place
place_of_node k s = coming_place s.begun.list (past_in k s)

-- the node about which node k is in doubt as the slot begins
abbrev pub doubted_by : Ack → Option ℕ
doubted_by (ack.Doubt x) = Some x
doubted_by _ = None

abbrev pub doubted_in : ℕ → RunSlot → Option ℕ
doubted_in k s = doubted_by (past_in k s).ack

-- Kinds of entries.

-- a judgement with such a verdict
abbrev pub is_judged_so : (Verdict → Bool) → Entry → Bool
is_judged_so p (entry.Judged sender v deviation) = p v
is_judged_so p _ = false

-- a verdict on a frame that did not come as it is due
abbrev pub is_miss : Verdict → Bool
is_miss verdict.Null = true
is_miss verdict.Invalid = true
is_miss verdict.Incorrect = true
is_miss _ = false

abbrev pub is_miss_or_tentative : Verdict → Bool
is_miss_or_tentative verdict.Tentative = true
is_miss_or_tentative v = is_miss v

abbrev pub is_tentative : Verdict → Bool
is_tentative verdict.Tentative = true
is_tentative _ = false

-- a verdict that counts as rejected
abbrev pub is_rejected : Verdict → Bool
is_rejected verdict.Invalid = true
is_rejected verdict.Incorrect = true
is_rejected _ = false

abbrev pub is_incorrect : Verdict → Bool
is_incorrect verdict.Incorrect = true
is_incorrect _ = false

-- a verdict that counts as neither accepted nor rejected
abbrev pub is_quiet : Verdict → Bool
is_quiet verdict.Null = true
is_quiet verdict.Tentative = true
is_quiet _ = false

-- a departure
abbrev pub is_left : Entry → Bool
is_left (entry.Left why peer) = true
is_left _ = false

abbrev pub is_gone_entry : Entry → Bool
is_gone_entry entry.Gone = true
is_gone_entry _ = false

abbrev pub is_waited : Entry → Bool
is_waited entry.Waited = true
is_waited _ = false

abbrev pub is_retried : Entry → Bool
is_retried entry.Retried = true
is_retried _ = false

abbrev pub is_started : Entry → Bool
is_started entry.Started = true
is_started _ = false

abbrev pub is_joined : Entry → Bool
is_joined (entry.Joined sender cstate deviation) = true
is_joined _ = false

abbrev pub is_sent : Entry → Bool
is_sent (entry.Sent message) = true
is_sent _ = false

-- Back in time.

-- the slots up to the newest in which node k made such an entry
abbrev pub back_to : (Entry → Bool) → ℕ → RunSlots → RunSlots
back_to p k [] = []
back_to p k (s ∷ before) = elim (p (entry_in_slot k s)) [ true ↦ s ∷ before | false ↦ back_to p k before ]

-- the number of the newest slot of these
abbrev pub last_number : RunSlots → ℕ
last_number run = length run - 1

-- the entry of node k in it
abbrev pub newest_spot : ℕ → RunSlots → Spot
newest_spot k run = record { slot = last_number run; node = k }

-- the slots since node k's own: between its newest start, join or frame and the slot behind these, the newest first
abbrev pub since_own : ℕ → RunSlots → RunSlots
since_own k [] = []
since_own k (s ∷ before) = elim (is_sent_or_joined (entry_in_slot k s)) [ true ↦ [] | false ↦ s ∷ since_own k before ]

-- the slot of that own entry
abbrev pub own_slot : ℕ → RunSlots → ℕ
own_slot k before = last_number (back_to is_sent_or_joined k before)

-- the slots of some in which node k judged so
abbrev pub judged_so : (Verdict → Bool) → ℕ → RunSlots → RunSlots
judged_so p k slots = filter (λ s. is_judged_so p (entry_in_slot k s)) slots

-- the entries of node k in some slots
abbrev pub spots_at_node : ℕ → RunSlots → List Spot
spots_at_node k slots = map (node_spot k) slots

-- its entries with such verdicts since its own
abbrev pub judged_since_own : (Verdict → Bool) → ℕ → RunSlots → List Spot
judged_since_own p k before = spots_at_node k (judged_so p k (since_own k before))

-- node k's newest departure in these slots
abbrev pub newest_departure : ℕ → RunSlots → Spot
newest_departure k run = newest_spot k (back_to is_left k run)
