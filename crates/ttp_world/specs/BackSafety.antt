-- Safety with armed nodes: what holds of the nodes after a slot, where a script keeps the hypothesis under which such a
-- node is guaranteed its place again.
--
-- The words are those of safety, for nodes that are correct by the other test. A node that left may be armed to listen
-- again, so what is said of one that left, or became faulty, is said since it was armed last.
use Rattle.std.specs.Prelude.{ℕ, ◌+◌, ◌-◌, nat_le, Bool, false, ◌&&◌, ◌||◌, not, List, [], ◌∷◌, length, filter}
use Rattle.std.specs.Prelude.{take, find, reverse, Option, Some, None, IsTrue}
use Rattle.std.specs.List.{list_all, list_any, range_with_len}
use Rattle.ttp_base.specs.NodeSet.{below}
use Rattle.ttp_world.specs.declared.medl.Medl.{Medl}
use Rattle.ttp_world.specs.declared.node.Entry.{Entry}
use Rattle.ttp_world.specs.declared.script.Script.{Script}
use Rattle.ttp_world.specs.Diary.{Diary, History, diary_of, phase_after, begins_stint, is_active}
use Rattle.ttp_world.specs.Hypothesis.{nodes_of, FaultyNode}
use Rattle.ttp_world.specs.Medium.{is_sending}
use Rattle.ttp_world.specs.Messages.{is_left_phase}
use Rattle.ttp_world.specs.Returning.{two_rounds, four_rounds, back_faulty_after, is_back_correct_after}
use Rattle.ttp_world.specs.Safety.{newest_slot, is_settled, are_same_members, has_left}
use Rattle.ttp_world.specs.Safety.{agree_among, is_in_among, is_out_among}
use Rattle.ttp_world.specs.Script.{is_armed}

-- the nodes that the test with armed nodes calls correct after the newest slot
abbrev pub back_correct_nodes : Medl → Script → History → List ℕ
back_correct_nodes list script history =
    filter (is_back_correct_after list script (newest_slot history)) (nodes_of list)

-- those of them that do not wait for a second successor
abbrev pub back_settled_nodes : Medl → Script → History → List ℕ
back_settled_nodes list script history = filter (is_settled history) (back_correct_nodes list script history)

-- Own frames of a stint.

-- the newest entries of an active node, back to the one that began its stint, have a start or an own frame
abbrev pub has_sent_since_begin : Diary → Bool
has_sent_since_begin [] = false
has_sent_since_begin (e ∷ diary) = is_sending e || (not (begins_stint e) && has_sent_since_begin diary)

-- an active node has started or sent in its stint
abbrev pub has_sent_in_stint : Diary → Bool
has_sent_in_stint diary = is_active diary && has_sent_since_begin diary

-- the back-correct nodes that have started or sent in their stint
abbrev pub back_senders : Medl → Script → History → List ℕ
back_senders list script history =
    filter (λ k. has_sent_in_stint (diary_of history k)) (back_correct_nodes list script history)

-- Since an arm line.

-- a node has an arm line in one of so many slots from a slot on
abbrev pub is_armed_among : Script → ℕ → ℕ → ℕ → Bool
is_armed_among script k slot count = list_any (is_armed script k) (range_with_len slot count)

-- the newest slot of the first ones, so many, in which a node has an arm line
abbrev pub newest_arm : Script → ℕ → ℕ → Option ℕ
newest_arm script k count = find (is_armed script k) (reverse (below count))

-- the entries of a diary that are of a slot or later, or all of them where there is no slot
abbrev pub since_slot : Option ℕ → Diary → Diary
since_slot None diary = diary
since_slot (Some slot) diary = take (length diary - slot) diary

-- by an entry its node has left
abbrev pub is_left_after : Entry → Bool
is_left_after e = is_left_phase (phase_after e)

-- a node has left since it was armed last, or at all where it never was
abbrev pub has_left_since_arm : Script → History → ℕ → Bool
has_left_since_arm script history k =
    list_any is_left_after (since_slot (newest_arm script k (length history)) (diary_of history k))

-- The tests.

-- correct nodes that do not wait for a second successor hold one membership
abbrev pub back_members_agree : Medl → Script → History → Bool
back_members_agree list script history = agree_among list history (back_settled_nodes list script history)

-- each correct node that has started or sent in its stint is held for a member by all of them
abbrev pub back_senders_are_members : Medl → Script → History → Bool
back_senders_are_members list script history =
    list_all (is_in_among list history (back_correct_nodes list script history)) (back_senders list script history)

-- no correct node has left since it was armed last
abbrev pub none_has_left_since_arm : Medl → Script → History → Bool
none_has_left_since_arm list script history =
    list_all (λ k. not (has_left_since_arm script history k)) (back_correct_nodes list script history)

-- a node that became faulty two rounds ago and was not armed since has left and is no member
abbrev pub is_back_gone : Medl → Script → History → FaultyNode → Bool
is_back_gone list script history faulty =
    not (nat_le (faulty.slot + two_rounds list) (length history))
    || (is_armed_among script faulty.node faulty.slot (length history - faulty.slot)
    || (has_left history faulty.node
    && is_out_among list history (back_correct_nodes list script history) faulty.node))

-- that is so of each faulty node
abbrev pub back_faulty_are_gone : Medl → Script → History → Bool
back_faulty_are_gone list script history =
    list_all (is_back_gone list script history) (back_faulty_after list script (newest_slot history))

-- a node is active, every back-correct node holds it for a member, and it holds the same members as each of them
abbrev pub has_returned : Medl → Script → History → ℕ → Bool
has_returned list script history k =
    is_active (diary_of history k)
    && (is_in_among list history (back_correct_nodes list script history) k
    && list_all (are_same_members list history k) (back_correct_nodes list script history))

-- the next slot lies four rounds after one in which a node was armed
abbrev pub is_due : Medl → Script → History → ℕ → Bool
is_due list script history k =
    nat_le (four_rounds list) (length history) && is_armed script k (length history - four_rounds list)

-- each node that was armed four rounds ago has its place again
abbrev pub armed_have_returned : Medl → Script → History → Bool
armed_have_returned list script history =
    list_all (has_returned list script history) (filter (is_due list script history) (nodes_of list))

-- what holds after the newest slot of a history
pub record IsBackSafe (list : Medl) (script : Script) (history : History) : Type 0 where
  -- back-correct nodes that are not in doubt hold one membership
  pub agree : IsTrue (back_members_agree list script history)
  -- each back-correct node that has started or sent in its stint is a member at every back-correct node
  pub senders : IsTrue (back_senders_are_members list script history)
  -- no back-correct node has left since it was armed last, or at all
  pub stay : IsTrue (none_has_left_since_arm list script history)
  -- each node that has been faulty for two rounds, and was not armed since, has left, and is a member at no
  -- back-correct node
  pub faulty : IsTrue (back_faulty_are_gone list script history)
  -- each node that was armed four rounds ago is active, is a member at every back-correct node, and holds their members
  pub returned : IsTrue (armed_have_returned list script history)
