-- A run that was worked out by hand: of four clocks one gains a microtick in each slot and one loses one.
use Rattle.std.specs.Prelude.{ℕ, ℤ, pos, negsuc, Bool, true, false, [], ◌∷◌, replicate, Some, None}
use Rattle.ttp_world.specs.declared.medl.Kind.TheVariants as kind
use Rattle.ttp_world.specs.declared.medl.Medl.{Medl}
use Rattle.ttp_world.specs.declared.medl.SlotPlan.{SlotPlan}
use Rattle.ttp_world.specs.declared.node.Entry.{Entry}
use Rattle.ttp_world.specs.declared.node.Entry.TheVariants as entry
use Rattle.ttp_world.specs.declared.node.Verdict.TheVariants as verdict
use Rattle.ttp_world.specs.declared.script.Script.{Script}
use Rattle.ttp_world.specs.Diary.{History}
use Rattle.ttp_world.specs.World.{Numbers}

-- four bare slots with sync, for drifts of one microtick and no reading error
abbrev pub bare_slot : SlotPlan
bare_slot = record { kinds = kind.I ∷ []; payload = 0; sync = true; start = true; requests = false; live = 1 }

abbrev pub four_nodes : Medl
four_nodes = record {
  version = 1;
  rounds = 1;
  schedule = 0;
  buffers = 2;
  drift = pos 1;
  error = pos 0;
  window = pos 100;
  modes = 1;
  slots = replicate 4 bare_slot;
}

-- two clocks drift apart by two microticks in each slot
abbrev pub drifting : Script
drifting = record { slots = 20; on = replicate 4 (Some 0); drift = pos 1 ∷ negsuc 0 ∷ pos 0 ∷ pos 0 ∷ []; events = [] }

-- fifteen slots in which no frame carries payload
abbrev pub no_numbers : Numbers
no_numbers = replicate 15 (record { sent = []; read = [] })

-- a frame is judged correct that came so late
abbrev pub correct : ℕ → ℤ → Entry
correct sender deviation = entry.Judged sender verdict.Correct deviation

-- a join on node 0's cold start that came so late
abbrev pub join : ℤ → Entry
join deviation = entry.Joined 0 (record { time = 0; round = 0; slot = 0; members = 0 ∷ [] }) deviation

-- node 0 starts in slot 8, and each node then sends in its turn: the rows of slots 8 to 14, the newest first
abbrev pub run_of_drifting : History
run_of_drifting =
    (correct 2 (negsuc 3) ∷ correct 2 (pos 5) ∷ entry.Sent None ∷ correct 2 (pos 0) ∷ [])
    ∷ (correct 1 (negsuc 6) ∷ entry.Sent None ∷ correct 1 (negsuc 3) ∷ correct 1 (negsuc 3) ∷ [])
    ∷ (entry.Sent None ∷ correct 0 (pos 5) ∷ correct 0 (pos 2) ∷ correct 0 (pos 2) ∷ [])
    ∷ (correct 3 (negsuc 2) ∷ correct 3 (pos 3) ∷ correct 3 (pos 0) ∷ entry.Sent None ∷ [])
    ∷ (correct 2 (negsuc 1) ∷ correct 2 (pos 2) ∷ entry.Sent None ∷ correct 2 (pos 0) ∷ [])
    ∷ (correct 1 (negsuc 1) ∷ entry.Sent None ∷ correct 1 (negsuc 0) ∷ correct 1 (negsuc 0) ∷ [])
    ∷ (entry.Started ∷ join (pos 16) ∷ join (pos 8) ∷ join (pos 8) ∷ [])
    ∷ replicate 8 (replicate 4 entry.Waited)

-- all four
abbrev pub every_node : ℕ → Bool
every_node k = true
