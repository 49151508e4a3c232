-- Diaries of nodes 1 and 3 of six with their surroundings, and what is read of them as one record.
use Rattle.std.specs.Prelude.{ℕ, ℤ, pos, negsuc, Bool, true, false, [], ◌∷◌, None, map}
use Rattle.ttp_world.specs.declared.node.Ack.TheVariants as ack
use Rattle.ttp_world.specs.declared.node.Entry.{Entry}
use Rattle.ttp_world.specs.declared.node.Entry.TheVariants as entry
use Rattle.ttp_world.specs.declared.node.Phase.TheVariants as phase
use Rattle.ttp_world.specs.declared.node.Reason.TheVariants as reason
use Rattle.ttp_world.specs.declared.node.Verdict.TheVariants as verdict
use Rattle.ttp_world.specs.Diary.{Diary, SlotSurroundings, Surroundings, no_place}
use Rattle.ttp_world.specs.Past.{NodePast, past_of}
use Rattle.world_rows.specs.Cases.{bare_list}
use Rattle.world_rows.specs.Frames.{cstate}

-- what is read of node k's diary, of six nodes
abbrev pub past_of_six : ℕ → Diary → Surroundings → NodePast
past_of_six k diary surroundings = past_of (bare_list 6) k diary surroundings

-- a slot in which a clock jumps so far and drifts by one microtick, silent to the node or not
abbrev pub slot_with : ℤ → Bool → SlotSurroundings
slot_with jump is_silent = record { jump = jump; drift = pos 1; is_silent = is_silent }

abbrev pub silent : SlotSurroundings
silent = slot_with (pos 0) true

abbrev pub busy : SlotSurroundings
busy = slot_with (pos 0) false

-- Off: its jumps and its drift are lost.

abbrev pub off_past : NodePast
off_past = record {
  phase = phase.Off;
  entry = entry.Off;
  place = no_place;
  members = [];
  accepted = 0;
  rejected = 0;
  ack = ack.Closed;
  cold_start = false;
  limit = 15;
  silent_slots = 0;
  offset = pos 0;
  notes = [];
}

-- Listening: of its four slots the newest two were silent, and its clock jumped by five in one.

abbrev pub listening_diary : Diary
listening_diary = entry.Waited ∷ entry.Waited ∷ entry.Waited ∷ entry.Waited ∷ entry.Off ∷ []

abbrev pub listening_surroundings : Surroundings
listening_surroundings = silent ∷ silent ∷ busy ∷ slot_with (pos 5) true ∷ silent ∷ []

abbrev pub listening_past : NodePast
listening_past = record {
  phase = phase.Listening;
  entry = entry.Waited;
  place = no_place;
  members = [];
  accepted = 0;
  rejected = 0;
  ack = ack.Closed;
  cold_start = false;
  limit = 15;
  silent_slots = 2;
  offset = pos 9;
  notes = [];
}

-- Started: node 1, after two silent slots.

abbrev pub started_diary : Diary
started_diary = entry.Started ∷ entry.Waited ∷ entry.Waited ∷ []

abbrev pub started_past : NodePast
started_past = record {
  phase = phase.Active;
  entry = entry.Started;
  place = record { time = 0; round = 0; slot = 1 };
  members = 1 ∷ [];
  accepted = 1;
  rejected = 0;
  ack = ack.First;
  cold_start = true;
  limit = 13;
  silent_slots = 0;
  offset = pos 3;
  notes = pos 0 ∷ [];
}

-- Retried: it listens from the next slot on, and waits for fewer silent slots.

abbrev pub retried_diary : Diary
retried_diary = entry.Retried ∷ started_diary

abbrev pub retried_past : NodePast
retried_past = record {
  phase = phase.Listening;
  entry = entry.Retried;
  place = no_place;
  members = [];
  accepted = 0;
  rejected = 0;
  ack = ack.Closed;
  cold_start = false;
  limit = 7;
  silent_slots = 0;
  offset = pos 4;
  notes = [];
}

-- Active: node 1 joined on node 4's frame, five microticks late, when the others were members. In the round after that
-- it took three frames for correct and that of node 4 for none.

abbrev pub judged_late : ℕ → ℤ → Entry
judged_late sender deviation = entry.Judged sender verdict.Correct deviation

abbrev pub active_diary : Diary
active_diary =
    entry.Judged 4 verdict.Invalid (pos 0) ∷ judged_late 3 (pos 2) ∷ judged_late 2 (negsuc 0) ∷ entry.Sent None
    ∷ judged_late 0 (pos 3) ∷ judged_late 5 (pos 1) ∷ entry.Joined 4 (cstate 10 0 4 (0 ∷ 2 ∷ 3 ∷ 4 ∷ 5 ∷ [])) (pos 5)
    ∷ []

abbrev pub surroundings_of_active : Surroundings
surroundings_of_active = map (λ e. busy) active_diary

abbrev pub active_past : NodePast
active_past = record {
  phase = phase.Active;
  entry = entry.Judged 4 verdict.Invalid (pos 0);
  place = record { time = 16; round = 0; slot = 4 };
  members = 0 ∷ 1 ∷ 2 ∷ 3 ∷ 5 ∷ [];
  accepted = 3;
  rejected = 1;
  ack = ack.Closed;
  cold_start = false;
  limit = 13;
  silent_slots = 0;
  offset = pos 12;
  notes = pos 2 ∷ negsuc 0 ∷ pos 0 ∷ pos 3 ∷ [];
}

-- In the last slot of the round nothing came. The four notes correct its clock by one, and stand until the next round.

abbrev pub corrected_past : NodePast
corrected_past = record {
  phase = phase.Active;
  entry = entry.Judged 5 verdict.Null (pos 0);
  place = record { time = 17; round = 0; slot = 5 };
  members = 0 ∷ 1 ∷ 2 ∷ 3 ∷ [];
  accepted = 3;
  rejected = 1;
  ack = ack.Closed;
  cold_start = false;
  limit = 13;
  silent_slots = 0;
  offset = pos 14;
  notes = pos 2 ∷ negsuc 0 ∷ pos 0 ∷ pos 3 ∷ [];
}

abbrev pub next_round_past : NodePast
next_round_past = record {
  phase = phase.Active;
  entry = judged_late 0 (pos 7);
  place = record { time = 18; round = 0; slot = 0 };
  members = 0 ∷ 1 ∷ 2 ∷ 3 ∷ [];
  accepted = 4;
  rejected = 1;
  ack = ack.Closed;
  cold_start = false;
  limit = 13;
  silent_slots = 0;
  offset = pos 15;
  notes = pos 7 ∷ [];
}

-- Left: it took two frames more for incorrect, left for clique in its own slot, and is gone. Its clock goes on.

abbrev pub left_diary : Diary
left_diary =
    entry.Gone ∷ entry.Left reason.Clique 1 ∷ entry.Judged 0 verdict.Incorrect (pos 0)
    ∷ entry.Judged 5 verdict.Incorrect (pos 0) ∷ active_diary

abbrev pub surroundings_of_left : Surroundings
surroundings_of_left = map (λ e. busy) left_diary

abbrev pub left_past : NodePast
left_past = record {
  phase = phase.Left;
  entry = entry.Gone;
  place = no_place;
  members = [];
  accepted = 0;
  rejected = 0;
  ack = ack.Closed;
  cold_start = false;
  limit = 13;
  silent_slots = 0;
  offset = pos 17;
  notes = [];
}

-- Armed: it listens again, in a slot that was silent to it.

abbrev pub armed_past : NodePast
armed_past = record {
  phase = phase.Listening;
  entry = entry.Waited;
  place = no_place;
  members = [];
  accepted = 0;
  rejected = 0;
  ack = ack.Closed;
  cold_start = false;
  limit = 13;
  silent_slots = 1;
  offset = pos 18;
  notes = [];
}
