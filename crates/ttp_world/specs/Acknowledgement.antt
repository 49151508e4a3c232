-- What an active node knows of its newest own frame, read from its diary.
use Rattle.std.specs.Prelude.{ℕ, Bool, true, false, ◌==◌, List, [], ◌∷◌, Option, Some, None, if◌then◌else◌}
use Rattle.std.specs.List.{list_any}
use Rattle.ttp_world.specs.declared.node.Ack.{Ack}
use Rattle.ttp_world.specs.declared.node.Ack.TheVariants as ack
use Rattle.ttp_world.specs.declared.node.Entry.{Entry}
use Rattle.ttp_world.specs.declared.node.Entry.TheVariants as entry
use Rattle.ttp_world.specs.declared.node.Verdict.{Verdict}
use Rattle.ttp_world.specs.declared.node.Verdict.TheVariants as verdict
use Rattle.ttp_world.specs.Diary.{Diary, is_active}

-- Verdicts.

-- a verdict is Correct
abbrev pub is_correct : Verdict → Bool
is_correct verdict.Correct = true
is_correct _ = false

-- by an entry its node judged a frame Correct
abbrev pub is_judged_correct : Entry → Bool
is_judged_correct (entry.Judged sender v deviation) = is_correct v
is_judged_correct _ = false

-- The newest entry in which a node sent or joined, and those after it.

-- in an entry its node sent or joined
abbrev pub is_sent_or_joined : Entry → Bool
is_sent_or_joined entry.Started = true
is_sent_or_joined (entry.Sent message) = true
is_sent_or_joined (entry.Joined sender cstate deviation) = true
is_sent_or_joined _ = false

-- the newest such entry of a diary, if there is one
abbrev pub newest_sent_or_joined : Diary → Option Entry
newest_sent_or_joined [] = None
newest_sent_or_joined (e ∷ diary) = elim (is_sent_or_joined e) [ true ↦ Some e | false ↦ newest_sent_or_joined diary ]

-- the entries after it, the newest first; all, where there is none
abbrev pub since_sent_or_joined : Diary → List Entry
since_sent_or_joined [] = []
since_sent_or_joined (e ∷ diary) = elim (is_sent_or_joined e) [ true ↦ [] | false ↦ e ∷ since_sent_or_joined diary ]

-- the sender that was judged tentatively last
abbrev pub newest_doubted : List Entry → Option ℕ
newest_doubted [] = None
newest_doubted (entry.Judged sender verdict.Tentative deviation ∷ entries) = Some sender
newest_doubted (e ∷ entries) = newest_doubted entries

-- First where no successor has answered, Doubt where one has sent a tentative frame, Closed where a correct frame came
abbrev pub first_or_doubt : Option ℕ → Ack
first_or_doubt None = ack.First
first_or_doubt (Some x) = ack.Doubt x

abbrev pub ack_since : Option Entry → List Entry → Ack
ack_since (Some (entry.Joined sender cstate deviation)) entries = ack.Closed
ack_since _ entries = if list_any is_judged_correct entries then ack.Closed else first_or_doubt (newest_doubted entries)

-- the acknowledgement after a diary
abbrev pub ack_of : Diary → Ack
ack_of diary =
    elim (is_active diary) [
      | true ↦ ack_since (newest_sent_or_joined diary) (since_sent_or_joined diary)
      | false ↦ ack.Closed
    ]

-- no correct frame has closed an acknowledgement
abbrev pub is_open : Ack → Bool
is_open ack.Closed = false
is_open ack.First = true
is_open (ack.Doubt x) = true

-- a successor is doubted
abbrev pub is_doubt : Ack → Bool
is_doubt ack.Closed = false
is_doubt ack.First = false
is_doubt (ack.Doubt x) = true

-- node j is the doubted one
abbrev pub is_doubt_about : ℕ → Ack → Bool
is_doubt_about j ack.Closed = false
is_doubt_about j ack.First = false
is_doubt_about j (ack.Doubt x) = x == j
