-- Diaries: what each node did in each slot.
--
-- Time goes forward by one entry at a time, so the newest comes first: in a diary, in the surroundings beside it, and
-- in a history, which has for each slot the entries of all nodes in their order.
--
-- An `elim` on a test is an `if` of which only the part that holds is computed, so that a reading
-- of a diary stops there.
use Rattle.std.specs.Prelude.{ℕ, suc, ◌+◌, ◌%◌, ℤ, Bool, true, false, not, ◌||◌, ◌==◌, List, [], ◌∷◌, map, length}
use Rattle.std.specs.Prelude.{get_or, if◌then◌else◌}
use Rattle.ttp_world.specs.declared.medl.Medl.{Medl}
use Rattle.ttp_world.specs.declared.node.CState.{CState}
use Rattle.ttp_world.specs.declared.node.Entry.{Entry}
use Rattle.ttp_world.specs.declared.node.Entry.TheVariants as entry
use Rattle.ttp_world.specs.declared.node.Phase.{Phase}
use Rattle.ttp_world.specs.declared.node.Phase.TheVariants as phase

-- the entries of one node, one for each slot, the newest first
abbrev pub Diary : Type 0
Diary = List Entry

-- the rows of a cluster, one for each slot, the newest first: in a row the entry of each node, node 0 first
abbrev pub History : Type 0
History = List (List Entry)

-- the entry of node k in a row; of a node that the row lacks, that it was off
abbrev pub entry_of : List Entry → ℕ → Entry
entry_of row k = get_or row k entry.Off

-- a node's diary
abbrev pub diary_of : History → ℕ → Diary
diary_of history k = map (λ row. entry_of row k) history

-- What comes to a node from outside in a slot: how its clock jumps and drifts, and whether both channels were silent to
-- it.
pub record SlotSurroundings : Type 0 where
  pub jump : ℤ
  pub drift : ℤ
  pub is_silent : Bool

-- one for each entry of a diary
abbrev pub Surroundings : Type 0
Surroundings = List SlotSurroundings

-- What a node is after its newest entry.

-- what a node is after an entry
abbrev pub phase_after : Entry → Phase
phase_after entry.Off = phase.Off
phase_after entry.Waited = phase.Listening
phase_after entry.Retried = phase.Listening
phase_after (entry.Left reason peer) = phase.Left
phase_after entry.Gone = phase.Left
phase_after entry.Started = phase.Active
phase_after (entry.Sent message) = phase.Active
phase_after (entry.Joined sender cstate deviation) = phase.Active
phase_after (entry.Judged sender verdict deviation) = phase.Active

-- the newest entry of a diary; of an empty one, that the node was off
abbrev pub newest_entry : Diary → Entry
newest_entry [] = entry.Off
newest_entry (e ∷ diary) = e

-- what a node is after its newest entry
abbrev pub phase_of : Diary → Phase
phase_of diary = phase_after (newest_entry diary)

-- a phase is that of an active node
abbrev pub is_active_phase : Phase → Bool
is_active_phase phase.Active = true
is_active_phase phase.Off = false
is_active_phase phase.Listening = false
is_active_phase phase.Left = false

-- a node is active after its newest entry
abbrev pub is_active : Diary → Bool
is_active diary = is_active_phase (phase_of diary)

-- A stint begins with a start or a join, and lasts while the node is active.

-- an entry begins a stint, which lasts while the node is active: a start or a join
abbrev pub begins_stint : Entry → Bool
begins_stint entry.Started = true
begins_stint (entry.Joined sender cstate deviation) = true
begins_stint _ = false

-- an entry that only an active node makes, and after which it still is: of its own frame, or of another's slot
abbrev pub continues_stint : Entry → Bool
continues_stint (entry.Sent message) = true
continues_stint (entry.Judged sender verdict deviation) = true
continues_stint _ = false

-- an entry may come after a diary: a stint that goes on has begun
abbrev pub may_follow : Diary → Entry → Bool
may_follow diary e = not (continues_stint e) || is_active diary

-- where a node stands in the cluster cycle: its time in slots, its round and its slot
pub record Place : Type 0 where
  pub time : ℕ
  pub round : ℕ
  pub slot : ℕ

-- the place that is read of a node that is not active
abbrev pub no_place : Place
no_place = record { time = 0; round = 0; slot = 0 }

-- times are counted modulo this
abbrev pub time_limit : ℕ
time_limit = 65536

-- one slot later: after the last slot the next round, and after the last round the first
abbrev pub next_place : Medl → Place → Place
next_place list place =
    if suc place.slot == length list.slots
    then record { time = (place.time + 1) % time_limit; round = (place.round + 1) % list.rounds; slot = 0 }
    else record { time = (place.time + 1) % time_limit; round = place.round; slot = place.slot + 1 }

-- the first place of a stint that begins with node k's start, and with a join
abbrev pub start_place : ℕ → Place
start_place k = record { time = 0; round = 0; slot = k }

abbrev pub joined_place : CState → Place
joined_place cstate = record { time = cstate.time; round = cstate.round; slot = cstate.slot }

-- the place of the newest slot of node k's stint, counted from the stint's first slot
abbrev pub stint_place : Medl → ℕ → Diary → Place
stint_place list k [] = no_place
stint_place list k (entry.Started ∷ diary) = start_place k
stint_place list k (entry.Joined sender cstate deviation ∷ diary) = joined_place cstate
stint_place list k (e ∷ diary) = next_place list (stint_place list k diary)

-- the place of the newest slot of an active node k
abbrev pub place_of : Medl → ℕ → Diary → Place
place_of list k diary = elim (is_active diary) [ true ↦ stint_place list k diary | false ↦ no_place ]

-- the C-state of a place with some members
abbrev pub cstate_at : Place → List ℕ → CState
cstate_at place members = record { time = place.time; round = place.round; slot = place.slot; members = members }

-- it is the last slot of a round
abbrev pub ends_round : Medl → Place → Bool
ends_round list place = suc place.slot == length list.slots
