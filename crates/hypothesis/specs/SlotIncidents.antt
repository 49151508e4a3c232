-- What happens to the nodes in a slot, and how long it is kept.
use Rattle.std.specs.Prelude.{◌≡◌, ℕ, ◌<◌, ◌≤◌, pos, Bool, false, ◌&&◌, ◌||◌, length, get_or}
use Rattle.ttp_base.specs.NodeSet.{most_nodes}
use Rattle.ttp_world.specs.declared.events.Incidents.{Incidents}
use Rattle.ttp_world.specs.declared.events.Standing.{Standing}
use Rattle.ttp_world.specs.declared.medl.Medl.{Medl}
use Rattle.ttp_world.specs.declared.script.Channels.{Channels}
use Rattle.ttp_world.specs.declared.script.Script.{Script}
use Rattle.ttp_world.specs.Script.{incidents_of, has_jump}
use Rattle.hypothesis.specs.declared.incidents.KeptIncidents.{KeptIncidents}
use Rattle.hypothesis.specs.declared.incidents.Kinds.{Kinds}
use Rattle.hypothesis.specs.declared.incidents.SlotIncidents.{SlotIncidents}

-- what happens to each node of a list in a slot
abbrev pub AreIncidentsIn : Medl → Script → ℕ → SlotIncidents → Type 0
AreIncidentsIn list script slot incidents =
    (k : ℕ) (nothing : Standing) → k < length list.slots
    → (get_or incidents.nodes k nothing).incidents ≡ incidents_of script k slot

-- what is kept of each node for which it stands in a slot is what happens to it
abbrev pub EachStandsIn : Script → ℕ → SlotIncidents → Type 0
EachStandsIn script slot incidents =
    (k : ℕ) (nothing : Standing) → k < most_nodes → slot < (get_or incidents.nodes k nothing).until
    → incidents_of script k slot ≡ (get_or incidents.nodes k nothing).incidents

-- what happens to a node is of some kinds and no others
pub record IsOfKinds (kinds : Kinds) (incidents : Incidents) : Type 0 where
  pub heard_a : kinds.unheard.a ≡ false → (incidents.receive_silence.a || incidents.receive_noise.a) ≡ false
  pub heard_b : kinds.unheard.b ≡ false → (incidents.receive_silence.b || incidents.receive_noise.b) ≡ false
  pub jump : kinds.jump ≡ false → incidents.jump ≡ pos 0
  pub arm : kinds.arm ≡ false → incidents.armed ≡ false

-- a frame may be lost, where this happens to its sender, and these are the channels on which nodes hear nothing
abbrev pub may_lose : Incidents → Channels → Bool
may_lose sending unheard =
    ((sending.send_silence.a || sending.send_noise.a) || unheard.a)
    && ((sending.send_silence.b || sending.send_noise.b) || unheard.b)

-- what is kept is so in a slot
pub record AreKeptIn (list : Medl) (script : Script) (slot : ℕ) (kept : KeptIncidents) : Type 0 where
  pub nodes : AreIncidentsIn list script slot kept.incidents
  pub kinds : (k : ℕ) → k < length list.slots → IsOfKinds kept.incidents.kinds (incidents_of script k slot)
  pub jumps : kept.jump ≡ false → (k : ℕ) → k < length list.slots → has_jump script k slot ≡ false

-- it is so where it stands
pub record StandsIn (list : Medl) (script : Script) (slot : ℕ) (kept : KeptIncidents) : Type 0 where
  pub all : slot < kept.incidents.until → AreKeptIn list script slot kept
  pub each : EachStandsIn script slot kept.incidents

-- in each slot from one on
abbrev pub AreKeptFrom : Medl → Script → ℕ → KeptIncidents → Type 0
AreKeptFrom list script slot kept = (t : ℕ) → slot ≤ t → StandsIn list script t kept
