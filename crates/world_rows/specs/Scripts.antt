-- The scripts of the rows, each named for what it shows.
use Rattle.std.specs.Prelude.{◌+◌, pos, [], ◌∷◌, Some, map, replicate}
use Rattle.ttp_base.specs.NodeSet.{below}
use Rattle.ttp_world.specs.declared.medl.Medl.{Medl}
use Rattle.ttp_world.specs.declared.script.Event.TheVariants as event
use Rattle.ttp_world.specs.declared.script.Fault.TheVariants as fault
use Rattle.ttp_world.specs.declared.script.Script.{Script}
use Rattle.ttp_world.specs.declared.script.Source.TheVariants as source
use Rattle.world_rows.specs.Cases.{bare_list_of, all_on_script, script_on, drifting_script, both, only_a, only_b}

-- Starts.

abbrev pub two_starters_of_five : Medl
two_starters_of_five = bare_list_of 5 (0 ∷ 1 ∷ [])

-- nodes 0 and 1 both reach slot 11
abbrev pub colliding : Script
colliding = script_on 40 (Some 1 ∷ replicate 4 (Some 0)) []

abbrev pub noisy_start : Script
noisy_start = all_on_script 5 22 (event.Send 0 both fault.Noise 10 10 ∷ [])

abbrev pub deaf_on_a : Script
deaf_on_a = all_on_script 5 11 (event.Receive 4 only_a fault.Noise 10 10 ∷ [])

abbrev pub late : Script
late = script_on 40 (Some 0 ∷ Some 0 ∷ Some 0 ∷ Some 0 ∷ Some 30 ∷ []) []

-- node 4 joins in slot 10 and then hears noise up to its own slot
abbrev pub deaf_before_its_first : Script
deaf_before_its_first = all_on_script 5 15 (event.Receive 4 both fault.Noise 11 13 ∷ [])

-- all nodes but node 4 become faulty in their first own slots
abbrev pub faulty_but_one : Script
faulty_but_one = all_on_script 5 15 (map (λ k. event.Send k both fault.Noise (10 + k) (10 + k)) (below 4))

-- Faults of a sender.

abbrev pub noisy_sender : Script
noisy_sender = all_on_script 5 40 (event.Send 2 both fault.Noise 22 22 ∷ [])

abbrev pub silent_sender : Script
silent_sender = all_on_script 5 25 (event.Send 2 both fault.Silence 22 22 ∷ [])

abbrev pub silent_and_noisy_sender : Script
silent_and_noisy_sender =
    all_on_script 5 23 (event.Send 2 both fault.Noise 22 22 ∷ event.Send 2 both fault.Silence 22 22 ∷ [])

abbrev pub noisy_sender_of_four : Script
noisy_sender_of_four = all_on_script 4 30 (event.Send 0 both fault.Noise 16 16 ∷ [])

abbrev pub noisy_channel : Script
noisy_channel = all_on_script 5 40 (event.Send 0 only_a fault.Noise 0 39 ∷ [])

-- Faults of a receiver.

abbrev pub deaf_before_its_slot : Script
deaf_before_its_slot = all_on_script 6 48 (event.Receive 3 both fault.Noise 26 26 ∷ [])

abbrev pub deaf_in_between : Script
deaf_in_between = all_on_script 6 48 (event.Receive 1 both fault.Noise 28 28 ∷ [])

abbrev pub deaf_for_good : Script
deaf_for_good = all_on_script 6 48 (event.Receive 1 both fault.Silence 26 47 ∷ [])

abbrev pub deaf_by_both : Script
deaf_by_both =
    all_on_script 6 48 (event.Send 2 only_a fault.Noise 26 26 ∷ event.Receive 3 only_b fault.Noise 26 26 ∷ [])

abbrev pub silence_over_noise : Script
silence_over_noise =
    all_on_script 5 23 (event.Receive 0 both fault.Noise 22 22 ∷ event.Receive 0 both fault.Silence 22 22 ∷ [])

-- node 0 hears another C-state on channel A and noise on channel B
abbrev pub other_and_bad : Script
other_and_bad =
    all_on_script 6 28 (event.Receive 3 both fault.Noise 26 26 ∷ event.Receive 0 only_b fault.Noise 27 27 ∷ [])

-- Bits and clocks.

abbrev pub flipped_inside : Script
flipped_inside = all_on_script 5 12 (event.Flip 1 both 16 11 ∷ [])

abbrev pub flipped_on_a : Script
flipped_on_a = all_on_script 5 12 (event.Flip 1 only_a 16 11 ∷ [])

abbrev pub flipped_past_the_end : Script
flipped_past_the_end = all_on_script 5 12 (event.Flip 1 both 80 11 ∷ [])

abbrev pub at_the_window : Script
at_the_window = all_on_script 5 12 (event.Jump 1 (pos 1) 11 ∷ [])

abbrev pub outside_the_window : Script
outside_the_window = all_on_script 5 12 (event.Jump 1 (pos 2) 11 ∷ [])

abbrev pub drifting_run : Script
drifting_run = drifting_script 16 []

abbrev pub drifting_with_a_loss : Script
drifting_with_a_loss = drifting_script 16 (event.Send 2 both fault.Silence 14 14 ∷ [])

-- Hosts.

abbrev pub written_and_read : Script
written_and_read =
    all_on_script 5 20 (event.Write 2 17 (1 ∷ 2 ∷ 3 ∷ 4 ∷ 5 ∷ 6 ∷ 7 ∷ 8 ∷ []) ∷ event.Read 0 17 (source.Node 2) ∷ [])

abbrev pub reading_status : Script
reading_status = all_on_script 5 15 (event.Read 1 11 source.Status ∷ [])

-- Nodes 0 and 1 on one channel.

abbrev pub collided_noise : Script
collided_noise = all_on_script 5 5 (event.Send 0 both fault.Noise 3 3 ∷ event.Send 1 both fault.Noise 3 3 ∷ [])

abbrev pub one_silenced : Script
one_silenced = all_on_script 5 5 (event.Send 0 only_a fault.Silence 3 3 ∷ [])
