-- What makes a plan good: all that an argument on safety asks of the faults of a run.
use Rattle.std.specs.Prelude.{◌≡◌, ◌≢◌, ℕ, suc, ◌+◌, ◌*◌, ◌<◌, ◌≤◌, true, length, Some, ◌⊎◌}
use Rattle.std.specs.List.{Contains}
use Rattle.ttp_base.specs.NodeSet.{most_nodes, has_node}
use Rattle.safety_laws.specs.Plan.{Sending, Receiving, Incident, Return, FaultPlan, sender, incident_at}
use Rattle.safety_laws.specs.Fates.{fate_of, is_sound_after, is_good_slot, is_lost, steady_nodes}

-- an incident of the slot after this one loses a node that is sound after this one, by the turn of that slot
pub record IsLossAfter (plan : FaultPlan) (slot : ℕ) (incident : Incident) : Type 0 where
  pub node : incident.node < plan.nodes
  pub was : is_sound_after plan slot incident.node ≡ true
  -- a sender loses its own frame
  pub sending : incident.change ≡ Sending → sender plan (suc slot) ≡ incident.node
  -- and a receiver that of another sound node
  pub receiving : incident.change ≡ Receiving
      → (sender plan (suc slot) ≢ incident.node) × (is_sound_after plan slot (sender plan (suc slot)) ≡ true)

-- a lost node returns by the good slot of another node
pub record IsReturn (plan : FaultPlan) (r : Return) : Type 0 where
  pub node : r.node < plan.nodes
  pub was : (slot : ℕ) × ((r.armed ≡ suc slot) × (is_lost (fate_of plan slot r.node) ≡ true))
  pub after : r.armed ≤ r.entered
  pub entry : r.entered < plan.slots → (is_good_slot plan r.entered ≡ true) × (sender plan r.entered ≢ r.node)
  -- no node is lost from two rounds before it is armed until more than two rounds after it entered
  pub losses : (slot : ℕ) (incident : Incident) → incident_at plan slot ≡ Some incident
      → (slot + 2 * plan.nodes ≤ r.armed) ⊎ (r.entered + 2 * plan.nodes < slot)
  -- and none returns
  pub others : (q : Return) → Contains plan.returns q
      → (q ≡ r) ⊎ ((q.entered + 2 * plan.nodes ≤ r.armed) ⊎ (r.entered + 2 * plan.nodes ≤ q.armed))

-- a plan is good: incidents lie two rounds apart, each loses a sound node, and four nodes that last are measured
pub record IsGoodPlan (plan : FaultPlan) : Type 0 where
  pub count : (4 ≤ plan.nodes) × (plan.nodes ≤ most_nodes)
  pub starter : (plan.starter < plan.nodes) × (has_node plan.begin plan.starter ≡ true)
  -- the first incident comes two rounds after the start, and each next one two rounds after the one before
  pub late : (slot : ℕ) (incident : Incident) → incident_at plan slot ≡ Some incident → 2 * plan.nodes ≤ slot
  pub apart : (slot later : ℕ) (first second : Incident) → incident_at plan slot ≡ Some first
      → incident_at plan later ≡ Some second → slot < later → slot + 2 * plan.nodes ≤ later
  pub losses : (slot : ℕ) (incident : Incident) → incident_at plan (suc slot) ≡ Some incident
      → IsLossAfter plan slot incident
  pub returns : (r : Return) → Contains plan.returns r → IsReturn plan r
  -- after each slot four nodes are measured that were sound in all of the last round
  pub steady : (slot : ℕ) → slot < plan.slots → 4 ≤ length (steady_nodes plan slot)
