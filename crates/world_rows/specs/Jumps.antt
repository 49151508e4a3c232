-- Scripts in which clocks jump, most of them of six nodes that are all on from slot 0.
use Rattle.std.specs.Prelude.{ℕ, ℤ, pos, List, [], ◌∷◌, Option, Some, None, map}
use Rattle.ttp_world.specs.declared.keep.Keep.{Keep}
use Rattle.ttp_world.specs.declared.script.Event.{Event}
use Rattle.ttp_world.specs.declared.script.Event.TheVariants as event
use Rattle.ttp_world.specs.declared.script.Fault.TheVariants as fault
use Rattle.ttp_world.specs.declared.script.Script.{Script}
use Rattle.ttp_world.specs.Hypothesis.{keeps}
use Rattle.ttp_base.specs.NodeSet.{below}
use Rattle.world_rows.specs.Cases.{bare_list, bare_slot_with, list_with, all_on_script, script_on, both}

-- node 3's clock jumps by four windows
abbrev pub far_jump : Script
far_jump = all_on_script 6 48 (event.Jump 3 (pos 4) 26 ∷ [])

-- it jumps, and so does that of node 1, and nobody receives the frame of node 2
abbrev pub jumps_and_a_loss : Script
jumps_and_a_loss =
    all_on_script 6 27 (event.Jump 3 (pos 4) 26 ∷ event.Jump 1 (pos 4) 26 ∷ event.Send 2 both fault.Noise 26 26 ∷ [])

-- node 3 of six is never on, or is switched on in slot 8
abbrev pub without_node_3 : List (Option ℕ)
without_node_3 = Some 0 ∷ Some 0 ∷ Some 0 ∷ None ∷ Some 0 ∷ Some 0 ∷ []

abbrev pub late_node_3 : List (Option ℕ)
late_node_3 = Some 0 ∷ Some 0 ∷ Some 0 ∷ Some 8 ∷ Some 0 ∷ Some 0 ∷ []

-- what the test says of so many slots of six nodes with these events
abbrev pub six_nodes_keep : ℕ → List Event → Keep
six_nodes_keep slots events = keeps (bare_list 6) (all_on_script 6 slots events)

-- what the test says of so many slots of six nodes with these events, switched on at these slots
abbrev pub late_nodes_keep : ℕ → List (Option ℕ) → List Event → Keep
late_nodes_keep slots on events = keeps (bare_list 6) (script_on slots on events)

-- what the test says of six nodes where the window is five microticks, and node 3 jumps so far in slot 26
abbrev pub wide_window_keeps : ℤ → Keep
wide_window_keeps value =
    keeps (list_with (pos 0) (pos 0) (pos 5) (map (bare_slot_with (0 ∷ [])) (below 6)))
    (all_on_script 6 27 (event.Jump 3 value 26 ∷ []))
