-- Lists of version 2, and frames that carry their members in three bytes.
use Rattle.std.specs.Prelude.{ℕ, pos, true, List, [], ◌∷◌, ◌++◌, map, replicate, reverse}
use Rattle.std.specs.List.{range_with_len}
use Rattle.ttp_base.specs.NodeSet.{below}
use Rattle.ttp_world.specs.declared.medl.Medl.{Medl}
use Rattle.ttp_world.specs.declared.node.CState.{CState}
use Rattle.ttp_world.specs.declared.node.Entry.{Entry}
use Rattle.ttp_world.specs.declared.node.Entry.TheVariants as entry
use Rattle.ttp_world.specs.declared.node.Verdict.TheVariants as verdict
use Rattle.ttp_world.specs.Diary.{Diary}
use Rattle.ttp_world.specs.Frame.{frame}
use Rattle.ttp_world.specs.Medl.{member_bytes}
use Rattle.world_rows.specs.Cases.{bare_slot_with}
use Rattle.world_rows.specs.Frames.{cstate}

-- n slots of bare frames in one round, of which slot 0 may start
abbrev pub wide_list : ℕ → Medl
wide_list n = record {
  version = 2;
  rounds = 1;
  schedule = 0;
  buffers = 2;
  drift = pos 0;
  error = pos 0;
  window = pos 1;
  modes = 1;
  slots = map (bare_slot_with (0 ∷ [])) (below n);
}

-- a frame without payload
abbrev pub wide_frame : ℕ → CState → List ℕ
wide_frame header c = frame (member_bytes true) header c [] 0

abbrev pub wide_cold_start : List ℕ
wide_cold_start = wide_frame 3 (cstate 0 0 0 (0 ∷ []))

-- what node 23 sends when all are members
abbrev pub last_of_24 : CState
last_of_24 = cstate 71 0 23 (below 24)

-- node 0 of 24 has started, and has judged the frames of nodes 1 to 23 correct since
abbrev pub judged_correct : ℕ → Entry
judged_correct sender = entry.Judged sender verdict.Correct (pos 0)

abbrev pub first_round_of_24 : Diary
first_round_of_24 = map judged_correct (reverse (range_with_len 1 23)) ++ entry.Started ∷ replicate 48 entry.Waited
