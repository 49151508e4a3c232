-- A run that was worked out by hand: of five clocks two gain two microticks in each slot and two lose two. The node of
-- the last one comes on after two rounds.
use Rattle.std.specs.Prelude.{ℕ, ℤ, List, nat_lt, pos, negsuc, Bool, [], ◌∷◌, replicate, Some, None}
use Rattle.ttp_world.specs.declared.medl.Medl.{Medl}
use Rattle.ttp_world.specs.declared.node.Entry.{Entry}
use Rattle.ttp_world.specs.declared.node.Entry.TheVariants as entry
use Rattle.ttp_world.specs.declared.node.Verdict.TheVariants as verdict
use Rattle.ttp_world.specs.declared.script.Script.{Script}
use Rattle.ttp_world.specs.Diary.{History}
use Rattle.ttp_world.specs.World.{Numbers}
use Rattle.precision.specs.WorkedRun.{bare_slot, correct, join}

-- five bare slots with sync, for drifts of two microticks and no reading error
abbrev pub five_nodes : Medl
five_nodes = record {
  version = 1;
  rounds = 1;
  schedule = 0;
  buffers = 2;
  drift = pos 2;
  error = pos 0;
  window = pos 100;
  modes = 1;
  slots = replicate 5 bare_slot;
}

-- four nodes are on from slot 0, and node 4 from slot 22
abbrev pub coming_late : Script
coming_late = record {
  slots = 30;
  on = Some 0 ∷ Some 0 ∷ Some 0 ∷ Some 0 ∷ Some 22 ∷ [];
  drift = pos 0 ∷ pos 2 ∷ negsuc 1 ∷ pos 2 ∷ negsuc 1 ∷ [];
  events = [];
}

-- 29 slots in which no frame carries payload
abbrev pub none_told : Numbers
none_told = replicate 29 (record { sent = []; read = [] })

-- nothing comes in the slot of node 4
abbrev silent : Entry
silent = entry.Judged 4 verdict.Null (pos 0)

-- a join on node 2's frame, twelve slots after the start
abbrev late_join : ℤ → Entry
late_join deviation = entry.Joined 2 (record {
  time = 12;
  round = 0;
  slot = 2;
  members = 0 ∷ 1 ∷ 2 ∷ 3
      ∷ [];
}) deviation

-- ten slots in which four wait, the row in which node 0 starts, and that in which node 4 joins
abbrev pub waiting : History
waiting = replicate 10 (entry.Waited ∷ entry.Waited ∷ entry.Waited ∷ entry.Waited ∷ entry.Off ∷ [])

-- the row in which node 0 starts
abbrev pub starting_row : List Entry
starting_row = entry.Started ∷ join (negsuc 19) ∷ join (pos 20) ∷ join (negsuc 19) ∷ entry.Off ∷ []

-- the row in which node 4 joins
abbrev pub joining : List Entry
joining = correct 2 (negsuc 12) ∷ correct 2 (negsuc 26) ∷ entry.Sent None ∷ correct 2 (negsuc 26)
    ∷ late_join (negsuc 6) ∷ []

-- node 0 starts in slot 10: the rows of slots 10 to 21, the newest first
abbrev pub run_of_four : History
run_of_four =
    (correct 1 (pos 12) ∷ entry.Sent None ∷ correct 1 (pos 23) ∷ correct 1 (pos 0) ∷ entry.Off ∷ [])
    ∷ (entry.Sent None ∷ correct 0 (negsuc 9) ∷ correct 0 (pos 9) ∷ correct 0 (negsuc 9) ∷ entry.Off ∷ [])
    ∷ (silent ∷ silent ∷ silent ∷ silent ∷ entry.Off ∷ [])
    ∷ (correct 3 (pos 15) ∷ correct 3 (pos 0) ∷ correct 3 (pos 30) ∷ entry.Sent None ∷ entry.Off ∷ [])
    ∷ (correct 2 (negsuc 12) ∷ correct 2 (negsuc 25) ∷ entry.Sent None ∷ correct 2 (negsuc 25) ∷ entry.Off ∷ [])
    ∷ (correct 1 (pos 11) ∷ entry.Sent None ∷ correct 1 (pos 22) ∷ correct 1 (pos 0) ∷ entry.Off ∷ [])
    ∷ (entry.Sent None ∷ correct 0 (negsuc 8) ∷ correct 0 (pos 9) ∷ correct 0 (negsuc 8) ∷ entry.Off ∷ [])
    ∷ (silent ∷ silent ∷ silent ∷ silent ∷ entry.Off ∷ [])
    ∷ (correct 3 (pos 6) ∷ correct 3 (pos 0) ∷ correct 3 (pos 12) ∷ entry.Sent None ∷ entry.Off ∷ [])
    ∷ (correct 2 (negsuc 3) ∷ correct 2 (negsuc 7) ∷ entry.Sent None ∷ correct 2 (negsuc 7) ∷ entry.Off ∷ [])
    ∷ (correct 1 (pos 2) ∷ entry.Sent None ∷ correct 1 (pos 4) ∷ correct 1 (pos 0) ∷ entry.Off ∷ [])
    ∷ starting_row
    ∷ waiting

-- node 4 joins in slot 22: the rows of slots 22 to 28
abbrev pub run_of_coming : History
run_of_coming =
    (correct 3 (pos 13) ∷ correct 3 (pos 0) ∷ correct 3 (pos 27) ∷ entry.Sent None ∷ correct 3 (pos 38) ∷ [])
    ∷ (correct 2 (negsuc 11) ∷ correct 2 (negsuc 22) ∷ entry.Sent None ∷ correct 2 (negsuc 22)
    ∷ correct 2 (pos 11) ∷ [])
    ∷ (correct 1 (pos 9) ∷ entry.Sent None ∷ correct 1 (pos 19) ∷ correct 1 (pos 0) ∷ correct 1 (pos 30) ∷ [])
    ∷ (entry.Sent None ∷ correct 0 (negsuc 6) ∷ correct 0 (pos 8) ∷ correct 0 (negsuc 6) ∷ correct 0 (pos 19) ∷ [])
    ∷ (correct 4 (negsuc 16) ∷ correct 4 (negsuc 34) ∷ correct 4 (pos 0) ∷ correct 4 (negsuc 34)
    ∷ entry.Sent None ∷ [])
    ∷ (correct 3 (pos 16) ∷ correct 3 (pos 0) ∷ correct 3 (pos 31) ∷ entry.Sent None ∷ correct 3 (pos 31) ∷ [])
    ∷ joining
    ∷ run_of_four

-- those that begin
abbrev pub first_four : ℕ → Bool
first_four k = nat_lt k 4
