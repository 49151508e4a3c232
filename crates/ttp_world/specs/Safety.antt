-- Safety: what holds of the nodes after a slot, where a script keeps the single-fault hypothesis.
use Rattle.std.specs.Prelude.{ℕ, suc, ◌+◌, ◌*◌, ◌-◌, nat_le, Bool, ◌&&◌, ◌||◌, not, List, length, filter, IsTrue}
use Rattle.std.specs.List.{list_all, list_any}
use Rattle.std.specs.Str.{bytes_eq}
use Rattle.ttp_base.specs.NodeSet.{has_node}
use Rattle.ttp_world.specs.declared.medl.Medl.{Medl}
use Rattle.ttp_world.specs.declared.script.Script.{Script}
use Rattle.ttp_world.specs.Acknowledgement.{ack_of, is_doubt}
use Rattle.ttp_world.specs.Diary.{Diary, History, diary_of, phase_of}
use Rattle.ttp_world.specs.Hypothesis.{nodes_of, FaultyNode, faulty_nodes_after, is_correct_after}
use Rattle.ttp_world.specs.Medium.{is_sending}
use Rattle.ttp_world.specs.Membership.{members_of}
use Rattle.ttp_world.specs.Messages.{is_left_phase}

-- the slot after which a history stands
abbrev pub newest_slot : History → ℕ
newest_slot history = length history - 1

-- the nodes that the hypothesis calls correct after the newest slot
abbrev pub correct_nodes : Medl → Script → History → List ℕ
correct_nodes list script history = filter (is_correct_after list script (newest_slot history)) (nodes_of list)

-- the members that node k holds after a history
abbrev pub members_of_node : Medl → History → ℕ → List ℕ
members_of_node list history k = members_of list k (diary_of history k)

-- correct nodes that do not wait for a second successor
abbrev pub is_settled : History → ℕ → Bool
is_settled history k = not (is_doubt (ack_of (diary_of history k)))

-- the correct nodes that do not wait
abbrev pub settled_nodes : Medl → Script → History → List ℕ
settled_nodes list script history = filter (is_settled history) (correct_nodes list script history)

-- two nodes hold the same members
abbrev pub are_same_members : Medl → History → ℕ → ℕ → Bool
are_same_members list history j k = bytes_eq (members_of_node list history j) (members_of_node list history k)

-- a node has started or sent at some time
abbrev pub has_ever_sent : Diary → Bool
has_ever_sent diary = list_any is_sending diary

-- node k has left
abbrev pub has_left : History → ℕ → Bool
has_left history k = is_left_phase (phase_of (diary_of history k))

-- What is said of some nodes, whichever they are.

-- they hold one membership
abbrev pub agree_among : Medl → History → List ℕ → Bool
agree_among list history nodes = list_all (λ j. list_all (are_same_members list history j) nodes) nodes

-- each of them holds node j for a member, or none does
abbrev pub is_in_among : Medl → History → List ℕ → ℕ → Bool
is_in_among list history nodes j = list_all (λ k. has_node (members_of_node list history k) j) nodes

-- none of them does
abbrev pub is_out_among : Medl → History → List ℕ → ℕ → Bool
is_out_among list history nodes j = list_all (λ k. not (has_node (members_of_node list history k) j)) nodes

-- The four tests.

-- no correct node holds node j for a member
abbrev pub is_out : Medl → Script → History → ℕ → Bool
is_out list script history j = is_out_among list history (correct_nodes list script history) j

-- the correct nodes that have started or sent
abbrev pub correct_senders : Medl → Script → History → List ℕ
correct_senders list script history =
    filter (λ k. has_ever_sent (diary_of history k)) (correct_nodes list script history)

-- a node that became faulty two rounds ago has left and is no member
abbrev pub is_gone : Medl → Script → History → FaultyNode → Bool
is_gone list script history faulty =
    not (nat_le (faulty.slot + 2 * length list.slots) (suc (newest_slot history)))
    || (has_left history faulty.node && is_out list script history faulty.node)

-- correct nodes that are not in doubt hold one membership
abbrev pub members_agree : Medl → Script → History → Bool
members_agree list script history = agree_among list history (settled_nodes list script history)

-- each correct node that has started or sent is a member at every correct node
abbrev pub senders_are_members : Medl → Script → History → Bool
senders_are_members list script history =
    list_all (is_in_among list history (correct_nodes list script history)) (correct_senders list script history)

-- no correct node has left
abbrev pub none_has_left : Medl → Script → History → Bool
none_has_left list script history = list_all (λ k. not (has_left history k)) (correct_nodes list script history)

-- each node that has been faulty for two rounds has left, and is a member at no correct node
abbrev pub faulty_are_gone : Medl → Script → History → Bool
faulty_are_gone list script history =
    list_all (is_gone list script history) (faulty_nodes_after list script (newest_slot history))

-- what holds after the newest slot of a history
pub record IsSafe (list : Medl) (script : Script) (history : History) : Type 0 where
  -- correct nodes that are not in doubt hold one membership
  pub agree : IsTrue (members_agree list script history)
  -- each correct node that has started or sent is a member at every correct node
  pub senders : IsTrue (senders_are_members list script history)
  -- no correct node has left
  pub stay : IsTrue (none_has_left list script history)
  -- each node that has been faulty for two rounds has left, and is a member at no correct node
  pub faulty : IsTrue (faulty_are_gone list script history)
