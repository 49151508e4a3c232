-- A world's node in the slot after a history: its entry, its next past and what it sends are those of the node's slot.
use Rattle.safety_laws.proofs.Words.{◌≡◌, ℕ, ◌<◌, List, length, ap, ◌∙◌, Medl, Chosen, Entry, Script, past_after}
use Rattle.safety_laws.proofs.Words.{node_frames, History, entry_of, surroundings_in, BegunNode, node_past, slot_after}
use Rattle.safety_laws.proofs.Words.{chosen_of, frames_of, row_in, step, node_of-slot_after, node_slot, frames_made}
use Rattle.safety_laws.proofs.Words.{entry_made, next_past}
use Rattle.ttp_world.proofs.NextPasts.{node_past-next}
use Rattle.ttp_world.proofs.Slots.{entry_of-row_after}

module _ (list : Medl) (script : Script) (history : History) (chosen : List Chosen) (k : ℕ)
    (node : k < length list.slots) where
  pub entry_of-made : entry_of (row_in (slot_after list script history) chosen) k
      ≡ entry_made (node_slot list script history chosen k)
  entry_of-made = entry_of-row_after list script history chosen k node

  pub node_past-step : node_past list script (step list script history chosen) k
      ≡ next_past (node_slot list script history chosen k)
  node_past-step =
      node_past-next list script history chosen k node
      ∙ ap (λ (e : Entry). past_after list k (node_past list script history k) e
      (surroundings_in script (length history) (row_in (slot_after list script history) chosen) k)) entry_of-made

  pub frames_of-made : frames_of (slot_after list script history) chosen k
      ≡ frames_made (node_slot list script history chosen k)
  frames_of-made =
      ap (λ (n : BegunNode). node_frames list k n.past (chosen_of chosen k) n.act)
      (node_of-slot_after list script history k node)
