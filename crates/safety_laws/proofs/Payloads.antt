-- In a run of legal numbers each frame carries as much payload as the list gives it.
use Rattle.safety_laws.proofs.Words.{◌≡◌, ℕ, ◌<◌, true, cond, List, ◌∷◌, length, get_or, Option, Some, None, ap, sym}
use Rattle.safety_laws.proofs.Words.{◌∙◌, arith, get_or-map-range_with_len, get_or-map, Medl, Act, Send, Chosen, Script}
use Rattle.safety_laws.proofs.Words.{new_entry, Place, entry_of, IsLegal, plan_at, kind_at, message_of, nothing_chosen}
use Rattle.safety_laws.proofs.Words.{message_chosen, IsValidScript, SlotNumbers, Numbers, messages_chosen, world}
use Rattle.safety_laws.proofs.Words.{legal-shapes, row_of_world, NodeSlot, node_slot, act_made, owner_of, HasPayload}
use Rattle.ttp_world.specs.declared.node.Entry.TheVariants as entry
use Rattle.ttp_world.specs.Legal.{is_legal_message}
use Rattle.ttp_world.specs.Medl.{is_bare}
use Rattle.ttp_world.proofs.HostMessages.{legal-size}
use Rattle.ttp_world.proofs.LegalShapes.{legal-message}
use Rattle.safety_laws.specs.NodeSlot.{slot_place}
use Rattle.safety_laws.proofs.NodeSlots.{entry_of-made}
use Rattle.ttp_world.proofs.DeliveredSizes.{carried_size as size_carried}

-- The frame of a node that sends.

pub HasPayload-world : (list : Medl) (script : Script) (new : SlotNumbers) (numbers : Numbers) (k : ℕ)
    → IsValidScript list script → IsLegal list script (new ∷ numbers) → k < length list.slots →
    let x = node_slot list script (world list script numbers) (messages_chosen list script (length numbers) new.sent) k
    in owner_of x ≡ k → act_made x ≡ Send → HasPayload x
HasPayload-world list script new numbers k valid legal node own sends carries =
    ap (λ (c : Chosen). length c.payload) chosen_is ∙ legal-size list script (length numbers) k i valid is_legal
    ∙ ap (λ j. (plan_at list j).payload) (sym own)
    ∙ sym (size_carried (is_bare (kind_at list place.round place.slot)) (plan_at list place.slot).payload carries)
  where
    chosen : List Chosen
    chosen = messages_chosen list script (length numbers) new.sent

    x : NodeSlot
    x = node_slot list script (world list script numbers) chosen k

    place : Place
    place = slot_place x

    i : ℕ
    i = x.chosen.number

    told : message_of (entry_of (row_of_world list script new numbers) k) ≡ Some i
    told =
        ap message_of (entry_of-made list script (world list script numbers) chosen k node)
        ∙ ap (λ (a : Act). message_of (new_entry list k x.past x.chosen x.hearing a)) sends
        ∙ ap (λ b. cond b (Some i) None) carries

    is_legal : is_legal_message list script (length numbers) k (Some i) ≡ true
    is_legal =
        ap (is_legal_message list script (length numbers) k) (sym told)
        ∙ legal-message list script new numbers k legal node

    sent_is : get_or new.sent k None ≡ Some i
    sent_is =
        ap (λ (ns : List (Option ℕ)). get_or ns k None) (legal-shapes list script (new ∷ numbers) legal).0.sent
        ∙ get_or-map message_of (row_of_world list script new numbers) k entry.Off ∙ told

    chosen_is : x.chosen ≡ message_chosen list script (length numbers) k (Some i)
    chosen_is =
        get_or-map-range_with_len (λ j. message_chosen list script (length numbers) j (get_or new.sent j None)) 0
        (length list.slots) k k nothing_chosen node (omega arith)
        ∙ ap (message_chosen list script (length numbers) k) sent_is
