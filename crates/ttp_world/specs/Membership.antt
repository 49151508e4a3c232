-- The members that an active node holds, read from its diary.
use Rattle.std.specs.Prelude.{◌≡◌, ℕ, Bool, true, false, ◌&&◌, ◌==◌, List, [], ◌∷◌, length, filter, Option, Some, None}
use Rattle.std.specs.Prelude.{if◌then◌else◌}
use Rattle.ttp_base.specs.NodeSet.{below, has_node}
use Rattle.ttp_world.specs.declared.medl.Medl.{Medl}
use Rattle.ttp_world.specs.declared.node.Ack.{Ack}
use Rattle.ttp_world.specs.declared.node.Entry.{Entry}
use Rattle.ttp_world.specs.declared.node.Entry.TheVariants as entry
use Rattle.ttp_world.specs.declared.node.Verdict.{Verdict}
use Rattle.ttp_world.specs.declared.node.Verdict.TheVariants as verdict
use Rattle.ttp_world.specs.Acknowledgement.{is_correct, ack_of, is_doubt_about}
use Rattle.ttp_world.specs.Diary.{Diary, is_active}

-- the verdicts after which the sender of a frame counts as a member
abbrev pub is_accepted : Verdict → Bool
is_accepted verdict.Correct = true
is_accepted verdict.Tentative = true
is_accepted _ = false

-- what an entry of node k says of node j, good or bad, where it speaks of it, by the acknowledgement before it
abbrev pub opinion : ℕ → ℕ → Entry → Ack → Option Bool
opinion k j entry.Started a = Some (j == k)
opinion k j (entry.Joined sender cstate deviation) a = Some (has_node cstate.members j)
opinion k j (entry.Sent message) a = if j == k then Some true else None
opinion k j (entry.Judged sender v deviation) a =
    if j == sender then Some (is_accepted v)
    else (if is_correct v && is_doubt_about j a then Some false else None)
opinion k j _ a = None

-- the newest entry that speaks of j is good
abbrev pub is_good : ℕ → Diary → ℕ → Bool
is_good k [] j = false
is_good k (e ∷ diary) j = elim (opinion k j e (ack_of diary)) [ Some good ↦ good | None ↦ is_good k diary j ]

-- the members after node k's diary
abbrev pub members_of : Medl → ℕ → Diary → List ℕ
members_of list k diary =
    elim (is_active diary) [ true ↦ filter (is_good k diary) (below (length list.slots)) | false ↦ [] ]

-- these are nodes of the list, in ascending order
abbrev pub AreNodes : Medl → List ℕ → Type 0
AreNodes list members = members ≡ filter (has_node members) (below (length list.slots))
