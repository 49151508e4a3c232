-- What becomes of a node by a plan, slot by slot.
use Rattle.std.specs.Prelude.{ℕ, zero, suc, ◌+◌, nat_le, nat_lt, Bool, true, false, ◌&&◌, not, ◌==◌, List, filter}
use Rattle.std.specs.Prelude.{Option, Some, None, if◌then◌else◌}
use Rattle.std.specs.List.{list_any}
use Rattle.ttp_base.specs.NodeSet.{below, has_node}
use Rattle.safety_laws.specs.Plan.{Change, Incident, Return, FaultPlan, sender, incident_at, is_armed_by, enters}

-- what has become of a node by a plan; slots are counted from the start
pub data Fate : Type 0 where
  -- it was not sound at the start
  Absent : Fate
  Sound : Fate
  -- lost in a slot, and no slot of its own has come since, that one included
  Falling : (change : Change) → (since : ℕ) → Fate
  -- lost in a slot, and its first own slot from there on has come
  Fallen : (change : Change) → (since : ℕ) → (shown : ℕ) → Fate
  -- armed after it was lost: it listens from the beginning of a slot on, and has not entered yet
  Listening : (since : ℕ) → Fate

-- the fate of node k at the start
abbrev pub fate_at_begin : FaultPlan → ℕ → Fate
fate_at_begin plan k = if has_node plan.begin k then Sound else Absent

-- where it listens again from a slot on
abbrev pub armed_in : Bool → ℕ → Fate → Fate
armed_in armed slot fate = if armed then Listening slot else fate

-- where it enters
abbrev pub entered_in : Bool → Fate → Fate
entered_in entering fate = if entering then Sound else fate

-- by the incident of a slot
abbrev pub struck : ℕ → ℕ → Fate → Option Incident → Fate
struck slot k fate None = fate
struck slot k fate (Some incident) = if incident.node == k then Falling incident.change slot else fate

-- by the turn of a node that is to show it
abbrev pub shown_in : ℕ → Fate → Fate
shown_in slot (Falling change since) = Fallen change since slot
shown_in slot fate = fate

-- a node's fate after a slot that is its own or not
abbrev pub turned : Bool → ℕ → Fate → Fate
turned own slot fate = if own then shown_in slot fate else fate

-- before the turn of its slot
abbrev pub changed : FaultPlan → ℕ → ℕ → Fate → Fate
changed plan slot k fate =
    entered_in (enters plan slot k)
    (struck slot k (armed_in (is_armed_by plan slot k) slot fate) (incident_at plan slot))

-- the fate of node k after a slot, by that before it
abbrev pub next_fate : FaultPlan → ℕ → ℕ → Fate → Fate
next_fate plan slot k fate = turned (sender plan slot == k) slot (changed plan slot k fate)

-- the fate of node k after a slot
abbrev pub fate_of : FaultPlan → ℕ → ℕ → Fate
fate_of plan zero k = next_fate plan 0 k (fate_at_begin plan k)
fate_of plan (suc slot) k = next_fate plan (suc slot) k (fate_of plan slot k)

-- a fate is that of a sound node
abbrev pub is_sound_fate : Fate → Bool
is_sound_fate Sound = true
is_sound_fate _ = false

-- node k is sound after a slot
abbrev pub is_sound_after : FaultPlan → ℕ → ℕ → Bool
is_sound_after plan slot k = is_sound_fate (fate_of plan slot k)

-- a fate is that of an absent node
abbrev pub is_absent : Fate → Bool
is_absent Absent = true
is_absent _ = false

-- lost, and not armed since
abbrev pub is_lost : Fate → Bool
is_lost (Falling change since) = true
is_lost (Fallen change since shown) = true
is_lost _ = false

-- since when a node is lost
abbrev pub lost_since : Fate → Option ℕ
lost_since (Falling change since) = Some since
lost_since (Fallen change since shown) = Some since
lost_since _ = None

-- a lost node may still stay after a slot: its second own slot since then has not come
abbrev pub may_stay : ℕ → ℕ → Fate → Bool
may_stay nodes slot (Falling change since) = true
may_stay nodes slot (Fallen change since shown) = nat_lt slot (shown + nodes)
may_stay nodes slot _ = false

-- Slots.

-- the sender is sound, so that its frame is one of the group's
abbrev pub is_good_slot : FaultPlan → ℕ → Bool
is_good_slot plan slot = is_sound_after plan slot (sender plan slot)

-- a lost node has shown it in this slot, its first own one
abbrev pub is_shown_in : ℕ → Fate → Bool
is_shown_in slot (Fallen change since shown) = shown == slot
is_shown_in slot _ = false

-- it is the first own slot of a lost node
abbrev pub is_first_slot : FaultPlan → ℕ → Bool
is_first_slot plan slot = is_shown_in slot (fate_of plan slot (sender plan slot))

-- Counts.

-- node k entered less than a round ago
abbrev pub is_entry_near : ℕ → ℕ → ℕ → Return → Bool
is_entry_near nodes slot k r = (r.node == k) && (nat_le r.entered slot && nat_lt slot (r.entered + nodes))

abbrev pub is_new_after : FaultPlan → ℕ → ℕ → Bool
is_new_after plan slot k = list_any (is_entry_near plan.nodes slot k) plan.returns

-- it is sound after a slot, and was so in all of the last round, as far as the start
abbrev pub is_lasting_after : FaultPlan → ℕ → ℕ → Bool
is_lasting_after plan slot k = is_sound_after plan slot k && not (is_new_after plan slot k)

-- and is measured
abbrev pub is_steady_after : FaultPlan → ℕ → ℕ → Bool
is_steady_after plan slot k = has_node plan.measured k && is_lasting_after plan slot k

-- those nodes after a slot, and those of them by whose frames clocks are measured
abbrev pub lasting_nodes : FaultPlan → ℕ → List ℕ
lasting_nodes plan slot = filter (is_lasting_after plan slot) (below plan.nodes)

abbrev pub steady_nodes : FaultPlan → ℕ → List ℕ
steady_nodes plan slot = filter (is_steady_after plan slot) (below plan.nodes)

-- how many of some slots in a row, from one on, pass a test
abbrev pub tally : (ℕ → Bool) → ℕ → ℕ → ℕ
tally test from zero = 0
tally test from (suc many) = (if test (from + many) then 1 else 0) + tally test from many

-- a good slot by whose frame clocks are measured
abbrev pub is_measured : FaultPlan → ℕ → Bool
is_measured plan slot = is_good_slot plan slot && has_node plan.measured (sender plan slot)
