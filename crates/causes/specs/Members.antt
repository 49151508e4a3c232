-- The causes of a frame with other members.
use Rattle.std.specs.Prelude.{Bool, List, None, Option, Some, [], false, filter, if◌then◌else◌, length, map, nat_lt}
use Rattle.std.specs.Prelude.{not, true, ℕ, ◌&&◌, ◌==◌, ◌||◌, ◌∷◌}
use Rattle.causes.specs.RunSlots.{RunSlot, RunSlots, doubted_by, doubted_in, entry_in_slot, is_joined, is_tentative}
use Rattle.causes.specs.RunSlots.{judged_since_own, past_in, slots_to}
use Rattle.causes.specs.Said.{said}
use Rattle.causes.specs.Sources.{ChannelReason, by_entries}
use Rattle.causes.specs.declared.cause.Spot.{Spot}
use Rattle.ttp_base.specs.NodeSet.{below, has_node, with_node, without_node}
use Rattle.ttp_world.specs.Reception.{expected_of}
use Rattle.ttp_world.specs.declared.medl.Medl.{Medl}
use Rattle.ttp_world.specs.declared.node.Ack.{Ack}
use Rattle.ttp_world.specs.declared.node.Entry.{Entry}
use Rattle.ttp_world.specs.declared.node.Ack.TheVariants as ack
use Rattle.ttp_world.specs.declared.node.Entry.TheVariants as entry
use Rattle.causes.specs.declared.cause.Miss.TheVariants as miss

-- the members in the C-state of node p's frame in a slot
abbrev pub members_sent : ℕ → RunSlot → List ℕ
members_sent p s = with_node (past_in p s).members p

-- those of node k's first candidate in a slot that it judges
abbrev pub members_due : ℕ → RunSlot → List ℕ
members_due k s = (expected_of s.begun.list k (past_in k s)).candidates.first

-- one of two holds
abbrev pub is_one_of : Bool → Bool → Bool
is_one_of true b = not b
is_one_of false b = b

-- the nodes that are in one of two sets, of the nodes of a list
abbrev pub differing : Medl → List ℕ → List ℕ → List ℕ
differing list a b = filter (λ j. is_one_of (has_node a j) (has_node b j)) (below (length list.slots))

-- those that tell: not node k, nor the one that it doubts
abbrev pub are_others : ℕ → Option ℕ → List ℕ → List ℕ
are_others k None nodes = without_node nodes k
are_others k (Some x) nodes = without_node (without_node nodes k) x

-- and node k, where it is the only one and its acknowledgement is closed
abbrev pub telling_of : ℕ → Ack → List ℕ → List ℕ
telling_of k ack.Closed (j ∷ []) = j ∷ []
telling_of k a nodes = are_others k (doubted_by a) nodes

-- a node that one of sender and receiver holds, and the other lacks, and what this one said of it
pub record Difference : Type 0 where
  pub member : ℕ
  pub holds : ℕ
  pub lacks : ℕ
  pub said : Spot

abbrev pub difference_of : ℕ → ℕ → RunSlots → Bool → ℕ → Difference
difference_of p k before true j = record { member = j; holds = p; lacks = k; said = said k j before }
difference_of p k before false j = record { member = j; holds = k; lacks = p; said = said p j before }

-- an entry is in an earlier slot, or in the same of a lower node
abbrev pub is_earlier : Spot → Spot → Bool
is_earlier a b = nat_lt a.slot b.slot || ((a.slot == b.slot) && nat_lt a.node b.node)

-- of some differences the one that was said first
abbrev pub earliest : Difference → List Difference → Difference
earliest d [] = d
earliest d (other ∷ others) = if is_earlier other.said d.said then earliest other others else earliest d others

-- the entry at a spot of these slots
abbrev pub newest_entry_of : ℕ → RunSlots → Entry
newest_entry_of k [] = entry.Off
newest_entry_of k (s ∷ before) = entry_in_slot k s

abbrev pub entry_at_spot : RunSlots → Spot → Entry
entry_at_spot run spot = newest_entry_of spot.node (slots_to run spot.slot)

-- what the node that holds it said, where it is a join
abbrev pub if_join : RunSlots → Spot → List Spot
if_join before spot = if is_joined (entry_at_spot before spot) then spot ∷ [] else []

abbrev pub difference_reason : RunSlots → Difference → ChannelReason
difference_reason before d =
    by_entries (miss.Differs d.holds d.member d.lacks)
    (d.said ∷ if_join before (said d.holds d.member before))

-- the frame differs in the receiver and the node that it doubts alone
abbrev pub doubt_reason : ℕ → ℕ → RunSlots → Bool → Option ℕ → ChannelReason
doubt_reason p k before holds None = by_entries (miss.HoldsBoth p k k) []
doubt_reason p k before true (Some x) =
    by_entries (miss.HoldsBoth p k x) (judged_since_own is_tentative k before)
doubt_reason p k before false (Some x) =
    by_entries (miss.HoldsNeither p k x) (said p k before ∷ said p x before ∷ [])

abbrev pub members_reason_of : ℕ → ℕ → RunSlot → RunSlots → List Difference → ChannelReason
members_reason_of p k s before [] =
    doubt_reason p k before (has_node (members_sent p s) k) (doubted_in k s)
members_reason_of p k s before (d ∷ others) = difference_reason before (earliest d others)

-- why node k does not hold the members of node p's frame
abbrev pub members_reason : ℕ → ℕ → RunSlot → RunSlots → ChannelReason
members_reason p k s before =
    let sent = members_sent p s in
    let nodes = telling_of k (past_in k s).ack (differing s.begun.list sent (members_due k s)) in
    members_reason_of p k s before (map (λ j. difference_of p k before (has_node sent j) j) nodes)
