-- Scripts and diaries of nodes that are armed to listen again.
use Rattle.std.specs.Prelude.{ℕ, ◌==◌, pos, Bool, true, false, List, [], ◌∷◌, map, replicate, Some, None}
use Rattle.ttp_base.specs.NodeSet.{below}
use Rattle.ttp_world.specs.declared.medl.Kind.TheVariants as kind
use Rattle.ttp_world.specs.declared.medl.Medl.{Medl}
use Rattle.ttp_world.specs.declared.medl.SlotPlan.{SlotPlan}
use Rattle.ttp_world.specs.declared.node.Entry.{Entry}
use Rattle.ttp_world.specs.declared.node.Entry.TheVariants as entry
use Rattle.ttp_world.specs.declared.node.Reason.TheVariants as reason
use Rattle.ttp_world.specs.declared.node.Verdict.TheVariants as verdict
use Rattle.ttp_world.specs.declared.script.Event.{Event}
use Rattle.ttp_world.specs.declared.script.Event.TheVariants as event
use Rattle.ttp_world.specs.declared.script.Fault.TheVariants as fault
use Rattle.ttp_world.specs.declared.script.Script.{Script}
use Rattle.ttp_world.specs.declared.node.Act.{Act}
use Rattle.ttp_world.specs.Act.{act}
use Rattle.ttp_world.specs.Diary.{Diary}
use Rattle.ttp_world.specs.Past.{past_of}
use Rattle.world_rows.specs.Cases.{bare_list, bare_slot_with, list_with, all_on_script, script_on, both}
use Rattle.world_rows.specs.Frames.{cstate}

-- Scripts.

-- six nodes with a window of two microticks
abbrev pub window_of_two : Medl
window_of_two = list_with (pos 0) (pos 0) (pos 2) (map (bare_slot_with (0 ∷ [])) (below 6))

-- node 2 sends noise, leaves in slot 28, and is armed in a slot
abbrev pub rearmed_in : ℕ → Script
rearmed_in slot = all_on_script 6 72 (event.Send 2 both fault.Noise 26 26 ∷ event.Arm 2 slot ∷ [])

-- six nodes, whose frames carry a payload and no C-state
abbrev pub implicit_slot : ℕ → SlotPlan
implicit_slot k = record {
  kinds = kind.N ∷ [];
  payload = 8;
  sync = true;
  start = k == 0;
  requests = false;
  live = 1;
}

abbrev pub implicit_list : Medl
implicit_list = list_with (pos 0) (pos 0) (pos 2) (map implicit_slot (below 6))

-- node 2 sends noise and is armed in slot 40, in a run of so many slots with these events beside
abbrev pub armed_until : ℕ → List Event → Script
armed_until slots events = all_on_script 6 slots (event.Send 2 both fault.Noise 26 26 ∷ event.Arm 2 40 ∷ events)

-- node 2 sends noise and is not armed
abbrev pub never_armed : Script
never_armed = all_on_script 6 72 (event.Send 2 both fault.Noise 26 26 ∷ [])

-- node 2 of five sends noise, and is armed before it leaves in slot 24 and in that slot
abbrev pub armed_too_early : Script
armed_too_early = all_on_script 5 26 (event.Send 2 both fault.Noise 22 22 ∷ event.Arm 2 23 ∷ event.Arm 2 24 ∷ [])

-- and is armed twice in slot 26 and once in slot 27
abbrev pub armed_twice : Script
armed_twice =
    all_on_script 5 28 (event.Send 2 both fault.Noise 22 22 ∷ event.Arm 2 26 ∷ event.Arm 2 26 ∷ event.Arm 2 27 ∷ [])

-- the starter is armed as it listens
abbrev pub armed_listener : Script
armed_listener = all_on_script 5 11 (event.Arm 0 5 ∷ [])

-- a late node is armed while it is off
abbrev pub armed_while_off : Script
armed_while_off = script_on 9 (Some 0 ∷ Some 0 ∷ Some 0 ∷ Some 0 ∷ Some 8 ∷ []) (event.Arm 4 3 ∷ [])

-- two starters collide and retry in slot 16, and one of them is armed after that
abbrev pub armed_after_a_retry : Script
armed_after_a_retry = script_on 40 (Some 1 ∷ replicate 4 (Some 0)) (event.Arm 0 18 ∷ [])

-- two of four nodes are on; node 0 is deaf after its second frame, so that both leave, and is armed on the silent bus
abbrev pub armed_on_a_silent_bus : Script
armed_on_a_silent_bus =
    script_on 30 (Some 0 ∷ Some 0 ∷ None ∷ None ∷ []) (event.Receive 0 both fault.Silence 13 16 ∷ event.Arm 0 18 ∷ [])

-- Diaries of node 2 of six, the newest entry first.

abbrev pub entry_judged : ℕ → Entry
entry_judged sender = entry.Judged sender verdict.Correct (pos 1)

abbrev pub entry_joined : ℕ → ℕ → Entry
entry_joined time slot = entry.Joined slot (cstate time 0 slot (0 ∷ 1 ∷ 3 ∷ 4 ∷ 5 ∷ [])) (pos 1)

-- it withdrew a cold start, joined, and sent
abbrev pub sent_after_a_retry : Diary
sent_after_a_retry =
    entry.Sent None ∷ entry_joined 10 4 ∷ entry.Waited ∷ entry.Retried ∷ entry.Started ∷ replicate 14 entry.Waited

-- then it left
abbrev pub left_after_a_retry : Diary
left_after_a_retry = entry.Left reason.Denied 4 ∷ sent_after_a_retry

-- it sent, judged for a round, and left in its next slot; armed for the slot after that, it joined on node 3's frame
abbrev pub left_in_a_round : Diary
left_in_a_round =
    entry.Left reason.Clique 2 ∷ entry_judged 1 ∷ entry_judged 0 ∷ entry_judged 5 ∷ entry_judged 4 ∷ entry_judged 3
    ∷ entry.Sent None ∷ entry_judged 1 ∷ entry_judged 0 ∷ entry_joined 5 5 ∷ []

abbrev pub joined_again : Diary
joined_again = entry_joined 15 3 ∷ left_in_a_round

-- what node 2 does after a diary, where it is on, and armed or not
abbrev pub act_after : Diary → Bool → Act
act_after diary armed = act (bare_list 6) 2 true armed (past_of (bare_list 6) 2 diary [])
