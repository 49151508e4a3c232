-- The frames that an active node accepted and rejected, counted in its diary.
use Rattle.std.specs.Prelude.{ℕ, ◌+◌, Bool, true, false, [], ◌∷◌, count_by, if◌then◌else◌}
use Rattle.ttp_world.specs.declared.node.Ack.{Ack}
use Rattle.ttp_world.specs.declared.node.Entry.{Entry}
use Rattle.ttp_world.specs.declared.node.Entry.TheVariants as entry
use Rattle.ttp_world.specs.declared.node.Verdict.{Verdict}
use Rattle.ttp_world.specs.declared.node.Verdict.TheVariants as verdict
use Rattle.ttp_world.specs.Acknowledgement.{is_sent_or_joined, is_judged_correct, since_sent_or_joined, ack_of}
use Rattle.ttp_world.specs.Acknowledgement.{is_doubt}
use Rattle.ttp_world.specs.Diary.{Diary, is_active}

-- one, and each correct frame since the node sent or joined
abbrev pub accepted_of : Diary → ℕ
accepted_of diary =
    elim (is_active diary) [ true ↦ 1 + count_by is_judged_correct (since_sent_or_joined diary) | false ↦ 0 ]

-- whether a verdict rejects a frame, by the acknowledgement before it: an incorrect or invalid frame, and the frame of
-- the doubted successor once a correct one settles the doubt
abbrev pub is_rejection : Ack → Verdict → Bool
is_rejection a verdict.Incorrect = true
is_rejection a verdict.Invalid = true
is_rejection a verdict.Correct = is_doubt a
is_rejection a verdict.Null = false
is_rejection a verdict.Tentative = false
is_rejection a verdict.Denied = false

-- by an entry a frame is rejected
abbrev pub is_rejecting : Entry → Ack → Bool
is_rejecting (entry.Judged sender v deviation) a = is_rejection a v
is_rejecting _ a = false

-- how many frames a node rejected since it sent or joined last
abbrev pub rejected_since : Diary → ℕ
rejected_since [] = 0
rejected_since (e ∷ diary) =
    elim (is_sent_or_joined e) [
      | true ↦ 0
      | false ↦ (if is_rejecting e (ack_of diary) then 1 else 0) + rejected_since diary
    ]

-- the rejected frames of a node, 0 where it is not active
abbrev pub rejected_of : Diary → ℕ
rejected_of diary = elim (is_active diary) [ true ↦ rejected_since diary | false ↦ 0 ]
