-- A run that was worked out by hand: of five clocks one gains a microtick in each slot, one loses one, and one jumps.
use Rattle.std.specs.Prelude.{ℕ, ℤ, List, pos, negsuc, [], ◌∷◌, replicate, Some, None}
use Rattle.ttp_world.specs.declared.medl.Medl.{Medl}
use Rattle.ttp_world.specs.declared.node.Entry.{Entry}
use Rattle.ttp_world.specs.declared.node.Entry.TheVariants as entry
use Rattle.ttp_world.specs.declared.node.Verdict.TheVariants as verdict
use Rattle.ttp_world.specs.declared.script.Event.TheVariants as event
use Rattle.ttp_world.specs.declared.script.Script.{Script}
use Rattle.ttp_world.specs.Conduct.{cold_start_cstate}
use Rattle.ttp_world.specs.Diary.{History}
use Rattle.ttp_world.specs.Hypothesis.{ClusterStart}
use Rattle.ttp_world.specs.World.{Numbers}
use Rattle.precision.specs.WorkedRun.{bare_slot}
use Rattle.safety_laws.specs.Plan.{Jumping, FaultPlan}

-- five bare slots with sync, for drifts of one microtick and no reading error
abbrev pub five_clocks : Medl
five_clocks = record {
  version = 1;
  rounds = 1;
  schedule = 0;
  buffers = 2;
  drift = pos 1;
  error = pos 0;
  window = pos 25;
  modes = 1;
  slots = replicate 5 bare_slot;
}

-- node 3's clock jumps by four windows in slot 24, where node 4 sends
abbrev pub late_jump : Script
late_jump = record {
  slots = 26;
  on = replicate 5 (Some 0);
  drift = pos 1 ∷ negsuc 0 ∷ pos 0 ∷ pos 0 ∷ pos 0 ∷ [];
  events = event.Jump 3 (pos 100) 24 ∷ [];
}

-- node 0 starts after two silent rounds
abbrev pub five_clocks_start : ClusterStart
five_clocks_start = record { slot = 10; node = 0 }

-- the plan of that script
abbrev pub one_jump : FaultPlan
one_jump = record {
  nodes = 5;
  starter = 0;
  slots = 16;
  begin = 0 ∷ 1 ∷ 2 ∷ 3 ∷ 4 ∷ [];
  measured = 0 ∷ 1 ∷ 2 ∷ 3 ∷ 4 ∷ [];
  incidents = record { slot = 14; node = 3; change = Jumping } ∷ [];
  returns = [];
}

-- 25 slots in which no frame carries payload
abbrev pub no_numbers_in_jump : Numbers
no_numbers_in_jump = replicate 25 (record { sent = []; read = [] })

abbrev sent : Entry
sent = entry.Sent None

abbrev correct : ℕ → ℤ → Entry
correct sender deviation = entry.Judged sender verdict.Correct deviation

abbrev late : ℕ → ℤ → Entry
late sender deviation = entry.Judged sender verdict.Invalid deviation

abbrev join : ℤ → Entry
join deviation = entry.Joined 0 (cold_start_cstate 0) deviation

-- the row of slot 24
abbrev pub last_row : List Entry
last_row = correct 4 (negsuc 5) ∷ correct 4 (pos 7) ∷ correct 4 (pos 0) ∷ late 4 (negsuc 99) ∷ sent ∷ []

-- node 0 starts in slot 10, and each node then sends in its turn: the rows of slots 0 to 23, the newest first
abbrev pub older_rows : History
older_rows =
    (correct 3 (negsuc 4) ∷ correct 3 (pos 6) ∷ correct 3 (pos 0) ∷ sent ∷ correct 3 (pos 0) ∷ [])
    ∷ (correct 2 (negsuc 3) ∷ correct 2 (pos 5) ∷ sent ∷ correct 2 (pos 0) ∷ correct 2 (pos 0) ∷ [])
    ∷ (correct 1 (negsuc 6) ∷ sent ∷ correct 1 (negsuc 3) ∷ correct 1 (negsuc 3) ∷ correct 1 (negsuc 3) ∷ [])
    ∷ (sent ∷ correct 0 (pos 5) ∷ correct 0 (pos 2) ∷ correct 0 (pos 2) ∷ correct 0 (pos 2) ∷ [])
    ∷ (correct 4 (negsuc 6) ∷ correct 4 (pos 7) ∷ correct 4 (pos 0) ∷ correct 4 (pos 0) ∷ sent ∷ [])
    ∷ (correct 3 (negsuc 5) ∷ correct 3 (pos 6) ∷ correct 3 (pos 0) ∷ sent ∷ correct 3 (pos 0) ∷ [])
    ∷ (correct 2 (negsuc 4) ∷ correct 2 (pos 5) ∷ sent ∷ correct 2 (pos 0) ∷ correct 2 (pos 0) ∷ [])
    ∷ (correct 1 (negsuc 7) ∷ sent ∷ correct 1 (negsuc 3) ∷ correct 1 (negsuc 3) ∷ correct 1 (negsuc 3) ∷ [])
    ∷ (sent ∷ correct 0 (pos 6) ∷ correct 0 (pos 3) ∷ correct 0 (pos 3) ∷ correct 0 (pos 3) ∷ [])
    ∷ (correct 4 (negsuc 3) ∷ correct 4 (pos 4) ∷ correct 4 (pos 0) ∷ correct 4 (pos 0) ∷ sent ∷ [])
    ∷ (correct 3 (negsuc 2) ∷ correct 3 (pos 3) ∷ correct 3 (pos 0) ∷ sent ∷ correct 3 (pos 0) ∷ [])
    ∷ (correct 2 (negsuc 1) ∷ correct 2 (pos 2) ∷ sent ∷ correct 2 (pos 0) ∷ correct 2 (pos 0) ∷ [])
    ∷ (correct 1 (negsuc 1) ∷ sent ∷ correct 1 (negsuc 0) ∷ correct 1 (negsuc 0) ∷ correct 1 (negsuc 0) ∷ [])
    ∷ (entry.Started ∷ join (pos 20) ∷ join (pos 10) ∷ join (pos 10) ∷ join (pos 10) ∷ [])
    ∷ replicate 10 (replicate 5 entry.Waited)

-- the rows of all these slots
abbrev pub run_of_late_jump : History
run_of_late_jump = last_row ∷ older_rows
