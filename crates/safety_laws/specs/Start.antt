-- The start of a cluster: that its frame is heard, and what each node is before and after that slot.
use Rattle.std.specs.Prelude.{◌≡◌, ◌≢◌, ℕ, ◌+◌, ◌-◌, ◌*◌, ◌<◌, ℤ, true, false, [], ◌∷◌, length, Option, Some, None}
use Rattle.std.specs.Prelude.{◌==◌, IsTrue, if◌then◌else◌}
use Rattle.ttp_world.specs.declared.medl.Medl.{Medl}
use Rattle.ttp_world.specs.declared.node.Ack.TheVariants as ack
use Rattle.ttp_world.specs.declared.node.Entry.{Entry}
use Rattle.ttp_world.specs.declared.node.Entry.TheVariants as entry
use Rattle.ttp_world.specs.declared.node.Phase.{Phase}
use Rattle.ttp_world.specs.declared.node.Phase.TheVariants as phase
use Rattle.ttp_world.specs.declared.script.Script.{Script}
use Rattle.ttp_world.specs.Clock.{notes_in}
use Rattle.ttp_world.specs.Diary.{start_place}
use Rattle.ttp_world.specs.Hypothesis.{ClusterStart, loses}
use Rattle.ttp_world.specs.Past.{NodePast}
use Rattle.ttp_world.specs.Script.{on_slot, is_on}
use Rattle.safety_laws.specs.Groups.{HoldsGroup}
use Rattle.safety_laws.specs.Heard.{IsUnflipped}
use Rattle.safety_laws.specs.Standing.{Standing, joined_on}

-- its cold-start frame comes to each other node that is on in that slot, as it was sent
pub record IsStartHeard (list : Medl) (script : Script) (start : ClusterStart) : Type 0 where
  pub unflipped : IsUnflipped script start.node start.slot
  pub kept : (k : ℕ) → k < length list.slots → k ≢ start.node → IsTrue (is_on script k start.slot)
      → loses script start.node start.slot k ≡ false

-- Before the start.

-- how many of the first slots, so many, a node is on
abbrev pub slots_since : ℕ → Option ℕ → ℕ
slots_since slots None = 0
slots_since slots (Some on) = slots - on

abbrev pub slots_on : Script → ℕ → ℕ → ℕ
slots_on script k slots = slots_since slots (on_slot script k)

-- the phase of a node that was on for so many slots and waits
abbrev pub waiting_phase : ℕ → Phase
waiting_phase slots = if slots == 0 then phase.Off else phase.Listening

-- after so many slots node k is off, or has listened in silence since it is on
pub record Waits (list : Medl) (script : Script) (slots k : ℕ) (past : NodePast) : Type 0 where
  pub phase : past.phase ≡ waiting_phase (slots_on script k slots)
  pub silent_slots : past.silent_slots ≡ slots_on script k slots
  pub limit : past.limit ≡ 2 * length list.slots + k

-- After it.

-- what a node holds that has just started
abbrev pub starter_standing : Medl → ℕ → Standing
starter_standing list k = record {
  place = start_place k;
  members = k ∷ [];
  accepted = 1;
  rejected = 0;
  ack = ack.First;
  cold_start = true;
  notes = notes_in list (start_place k) entry.Started;
}

-- the entry of a node that joins on node p's cold-start frame
abbrev pub joined_on_start : ℕ → ℤ → Entry
joined_on_start p deviation = joined_on (start_place p) (p ∷ []) deviation

-- node k is active at the place of node p's cold start, and holds p alone for a member
pub record IsStartedBy (list : Medl) (p k : ℕ) (past : NodePast) : Type 0 where
  pub phase : past.phase ≡ phase.Active
  pub place : past.place ≡ start_place p
  pub group : HoldsGroup list k (p ∷ []) past
