-- The moves of an active node, by its acknowledgement and a verdict: diaries of node 1 of six, which joined on node 0's
-- frame, sent, and judged node 2, and now judges node 3.
use Rattle.std.specs.Prelude.{ℕ, pos, List, [], ◌∷◌, None}
use Rattle.ttp_world.specs.declared.node.Ack.{Ack}
use Rattle.ttp_world.specs.declared.node.Entry.TheVariants as entry
use Rattle.ttp_world.specs.declared.node.Phase.{Phase}
use Rattle.ttp_world.specs.declared.node.Verdict.{Verdict}
use Rattle.ttp_world.specs.declared.node.Verdict.TheVariants as verdict
use Rattle.ttp_world.specs.Acknowledgement.{ack_of}
use Rattle.ttp_world.specs.Conduct.{verdict_entry}
use Rattle.ttp_world.specs.Counts.{accepted_of, rejected_of}
use Rattle.ttp_world.specs.Diary.{Diary, phase_of}
use Rattle.ttp_world.specs.Membership.{members_of}
use Rattle.world_rows.specs.Cases.{bare_list}
use Rattle.world_rows.specs.Frames.{cstate}

-- what a node holds of the others
pub record HeldOfOthers : Type 0 where
  pub phase : Phase
  pub members : List ℕ
  pub accepted : ℕ
  pub rejected : ℕ
  pub ack : Ack

abbrev pub holding : Phase → List ℕ → ℕ → ℕ → Ack → HeldOfOthers
holding phase members accepted rejected ack =
    record { phase = phase; members = members; accepted = accepted; rejected = rejected; ack = ack }

abbrev pub held_after : Diary → HeldOfOthers
held_after diary = record {
  phase = phase_of diary;
  members = members_of (bare_list 6) 1 diary;
  accepted = accepted_of diary;
  rejected = rejected_of diary;
  ack = ack_of diary;
}

-- after these members of its join its own frame, and node 2's, which it judged so
abbrev pub sent_and_judged : Verdict → List ℕ → Diary
sent_and_judged v members =
    entry.Judged 2 v (pos 0) ∷ entry.Sent None ∷ entry.Joined 0 (cstate 12 0 0 members) (pos 0) ∷ []

-- its acknowledgement is closed, First, or a doubt about node 2
abbrev pub closed : List ℕ → Diary
closed members = sent_and_judged verdict.Correct members

abbrev pub first : List ℕ → Diary
first members = sent_and_judged verdict.Null members

abbrev pub doubt : List ℕ → Diary
doubt members = sent_and_judged verdict.Tentative members

-- members of a join without node 3, and with it
abbrev pub without_3 : List ℕ
without_3 = 0 ∷ 2 ∷ 5 ∷ []

abbrev pub with_3 : List ℕ
with_3 = 0 ∷ 2 ∷ 3 ∷ 5 ∷ []

-- what it holds after this verdict on node 3
abbrev pub moved : Diary → Verdict → HeldOfOthers
moved diary v = held_after (verdict_entry 3 v (pos 0) ∷ diary)
