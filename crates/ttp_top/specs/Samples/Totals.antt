-- What a summary of a run counts, over the world's run.
use Rattle.std.specs.Prelude.{ℕ, ◌+◌, Bool, true, false, List, [], ◌∷◌, map, length, count_by, if◌then◌else◌}
use Rattle.ttp_base.specs.NodeSet.{below}
use Rattle.ttp_world.specs.declared.medl.Medl.{Medl}
use Rattle.ttp_world.specs.declared.node.Entry.{Entry}
use Rattle.ttp_world.specs.declared.node.Entry.TheVariants as entry
use Rattle.ttp_world.specs.declared.node.NodeState.{NodeState}
use Rattle.ttp_world.specs.declared.script.Script.{Script}
use Rattle.ttp_world.specs.Diary.{History, is_active_phase}
use Rattle.ttp_world.specs.Medium.{is_sending}
use Rattle.ttp_world.specs.Past.{state_of}
use Rattle.ttp_world.specs.Script.{writes_in, reads_in}
use Rattle.ttp_world.specs.World.{node_past}
use Rattle.ttp_top.specs.declared.totals.Totals.{Totals}

-- what the nodes' lines show after the newest slot, that of node 0 first
abbrev pub states_after : Medl → Script → History → List NodeState
states_after list script history =
    map (λ k. state_of (node_past list script history k)) (below (length list.slots))

-- a node's line says `start` or `send`
abbrev pub shows_sent : NodeState → Bool
shows_sent state = is_sending state.entry

-- it says `denied`, `unacknowledged` or `clique`: the node left in the slot
abbrev pub is_leaving : Entry → Bool
is_leaving (entry.Left why peer) = true
is_leaving _ = false

-- what is shown of a node says so
abbrev pub shows_left : NodeState → Bool
shows_left state = is_leaving state.entry

-- the members of the lowest active node, where there is one
abbrev pub lowest_members : List NodeState → List ℕ
lowest_members [] = []
lowest_members (state ∷ states) = if is_active_phase state.phase then state.members else lowest_members states

-- before the first slot
abbrev pub no_totals : Totals
no_totals = record { sent = 0; left = 0; members = []; writes = 0; reads = 0 }

-- with a slot more, of which the nodes' lines show these states, and which has so many lines of hosts
abbrev pub totals_with_slot : Totals → List NodeState → ℕ → ℕ → Totals
totals_with_slot totals states writes reads = record {
  sent = totals.sent + count_by shows_sent states;
  left = totals.left + count_by shows_left states;
  members = lowest_members states;
  writes = totals.writes + writes;
  reads = totals.reads + reads;
}

-- of a run: each message that a host writes or reads has a line
abbrev pub totals_of : Medl → Script → History → Totals
totals_of list script [] = no_totals
totals_of list script (row ∷ history) =
    totals_with_slot (totals_of list script history) (states_after list script (row ∷ history))
    (length (writes_in script (length history))) (length (reads_in script (length history)))
