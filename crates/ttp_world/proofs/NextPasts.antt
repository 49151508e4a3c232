-- One slot more: the past of each node after it, from its past before.
use Rattle.ttp_world.proofs.Words.{◌≡◌, ℕ, ◌<◌, true, List, ◌∷◌, length, subst, sym, Medl, Chosen, Entry, Script}
use Rattle.ttp_world.proofs.Words.{past_after, History, diary_of, entry_of, may_follow, is_on, node_past, slot_after}
use Rattle.ttp_world.proofs.Words.{chosen_of, frames_in, hearing_in, row_in}
use Rattle.ttp_world.specs.Medium.{surroundings_in, surroundings_of}
use Rattle.ttp_world.specs.Script.{is_armed}
use Rattle.ttp_world.proofs.Entries.{new_entry-follows}
use Rattle.ttp_world.proofs.Pasts.{past_of-cons}
use Rattle.ttp_world.proofs.Slots.{entry_of-row_after}

-- an entry of the slot may follow its node's diary
pub entry_of-row_after-follows : (list : Medl) (script : Script) (history : History) (chosen : List Chosen) (k : ℕ)
    → k < length list.slots
    → may_follow (diary_of history k) (entry_of (row_in (slot_after list script history) chosen) k) ≡ true
entry_of-row_after-follows list script history chosen k node =
    let s = slot_after list script history in
    subst (λ (e : Entry). may_follow (diary_of history k) e ≡ true)
    (sym (entry_of-row_after list script history chosen k node))
    (new_entry-follows list k (is_on script k (length history)) (is_armed script k (length history))
    (diary_of history k) (surroundings_of script history k) (chosen_of chosen k)
    (hearing_in s (frames_in s chosen) k))

-- so the slot changes what is read of its past as one more entry does
pub node_past-next : (list : Medl) (script : Script) (history : History) (chosen : List Chosen) (k : ℕ)
    → k < length list.slots
    → node_past list script (row_in (slot_after list script history) chosen ∷ history) k
    ≡ past_after list k (node_past list script history k) (entry_of (row_in (slot_after list script history) chosen) k)
    (surroundings_in script (length history) (row_in (slot_after list script history) chosen) k)
node_past-next list script history chosen k node =
    let row = row_in (slot_after list script history) chosen in
    past_of-cons list k (diary_of history k) (surroundings_of script history k) (entry_of row k)
    (surroundings_in script (length history) row k) (entry_of-row_after-follows list script history chosen k node)
