-- Four nodes, of which node 0 alone starts, in runs in which one thing goes wrong.
use Rattle.std.specs.Prelude.{ℕ, pos, Bool, true, false, List, [], ◌∷◌, replicate, Option, Some}
use Rattle.ttp_world.specs.declared.medl.Kind.{Kind}
use Rattle.ttp_world.specs.declared.medl.Kind.TheVariants as kind
use Rattle.ttp_world.specs.declared.medl.Medl.{Medl}
use Rattle.ttp_world.specs.declared.medl.SlotPlan.{SlotPlan}
use Rattle.ttp_world.specs.declared.node.Chosen.{Chosen}
use Rattle.ttp_world.specs.declared.script.Channels.{Channels}
use Rattle.ttp_world.specs.declared.script.Event.{Event}
use Rattle.ttp_world.specs.declared.script.Event.TheVariants as event
use Rattle.ttp_world.specs.declared.script.Fault.TheVariants as fault
use Rattle.ttp_world.specs.declared.script.Script.{Script}
use Rattle.ttp_world.specs.Diary.{History}
use Rattle.ttp_world.specs.Hypothesis.{ClusterStart}
use Rattle.ttp_world.specs.World.{Numbers, messages_chosen, world}
use Rattle.safety_laws.specs.NodeSlot.{NodeSlot, node_slot}

abbrev plan : Kind → ℕ → Bool → SlotPlan
plan kind payload start =
    record { kinds = kind ∷ []; payload = payload; sync = true; start = start; requests = false; live = 1 }

-- node 2's frame carries a byte of payload and no C-state, node 3's both
abbrev pub four_kinds : Medl
four_kinds = record {
  version = 1;
  rounds = 1;
  schedule = 0;
  buffers = 2;
  drift = pos 0;
  error = pos 0;
  window = pos 1;
  modes = 1;
  slots = plan kind.I 0 true ∷ plan kind.I 0 false ∷ plan kind.N 1 false ∷ plan kind.X 1 false ∷ [];
}

-- they are on from slot 0, so node 0 starts in slot 8
abbrev pub early_start : ClusterStart
early_start = record { slot = 8; node = 0 }

abbrev script_with : List (Option ℕ) → List Event → Script
script_with on events = record { slots = 20; on = on; drift = replicate 4 (pos 0); events = events }

abbrev both : Channels
both = record { a = true; b = true }

-- no fault happens
abbrev pub faultless : Script
faultless = script_with (replicate 4 (Some 0)) []

-- node 1's first frame, in slot 9, is lost on both channels
abbrev pub first_frame_lost : Script
first_frame_lost = script_with (replicate 4 (Some 0)) (event.Send 1 both fault.Silence 9 9 ∷ [])

-- node 1's first frame, in slot 9, is lost on both channels, and it hears nothing in the three slots after it
abbrev pub silent_and_deaf : Script
silent_and_deaf =
    script_with (replicate 4 (Some 0))
    (event.Send 1 both fault.Silence 9 9 ∷ event.Receive 1 both fault.Silence 10 12 ∷ [])

-- node 1 leaves after it, and is armed in slot 14
abbrev pub rearmed : Script
rearmed =
    script_with (replicate 4 (Some 0))
    (event.Send 1 both fault.Silence 9 9 ∷ event.Receive 1 both fault.Silence 10 12 ∷ event.Arm 1 14 ∷ [])

-- node 3 alone does not hear that frame
abbrev pub deaf : Script
deaf = script_with (replicate 4 (Some 0)) (event.Receive 3 both fault.Noise 9 9 ∷ [])

-- node 1's clock jumps by four windows in that slot
abbrev pub jumping : Script
jumping = script_with (replicate 4 (Some 0)) (event.Jump 1 (pos 4) 9 ∷ [])

-- nobody hears node 0's cold start
abbrev pub unheard_start : Script
unheard_start = script_with (replicate 4 (Some 0)) (event.Send 0 both fault.Noise 8 8 ∷ [])

-- each frame with payload carries message 0
abbrev zeros : List (Option ℕ)
zeros = replicate 4 (Some 0)

-- these numbers in so many slots
abbrev pub zero_numbers : ℕ → Numbers
zero_numbers slots = replicate slots (record { sent = zeros; read = [] })

-- the slots of a run, so many, and the messages that are chosen in the next one
abbrev pub run : Script → ℕ → History
run script slots = world four_kinds script (zero_numbers slots)

-- the messages that they choose in a slot
abbrev pub chosen_in : Script → ℕ → List Chosen
chosen_in script slot = messages_chosen four_kinds script slot zeros

-- node k in a slot of a run
abbrev pub at : Script → ℕ → ℕ → NodeSlot
at script slot k = node_slot four_kinds script (run script slot) (chosen_in script slot) k
