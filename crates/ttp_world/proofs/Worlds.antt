-- The world that numbers make: how long it is, how wide its rows are, and that its entries speak of the list.
use Rattle.ttp_world.proofs.Words.{◌≡◌, ℕ, suc, ◌<◌, List, [], ◌∷◌, length, refl, ap, sym, ◌∙◌, map}
use Rattle.ttp_world.proofs.Words.{Medl, Chosen, Entry, Script, coming_place, IsValid, message_of}
use Rattle.ttp_world.proofs.Words.{SlotNumbers, Numbers, node_past, slot_after, messages_chosen, row_in}
use Rattle.ttp_world.proofs.Words.{world}
use Rattle.ttp_world.proofs.Carried.{AreOfHosts, row_in-told}
use Rattle.ttp_world.proofs.Lists.{IsPlaceOf}
use Rattle.ttp_world.proofs.Places.{AreOfList, coming_place-of_list, row_after-of_list}

-- the row of the slot after the world of some numbers, by the numbers of that slot
abbrev pub row_of_world : Medl → Script → SlotNumbers → Numbers → List Entry
row_of_world list script new numbers =
    row_in (slot_after list script (world list script numbers)) (messages_chosen list script (length numbers) new.sent)

pub length-world : (list : Medl) (script : Script) (numbers : Numbers)
    → length (world list script numbers) ≡ length numbers
length-world list script [] = refl
length-world list script (new ∷ numbers) = ap suc (length-world list script numbers)

-- the numbers that the row of some messages tells make that row, where hosts have written the messages
pub row_of_world-told : (list : Medl) (script : Script) (numbers : Numbers) (chosen : List Chosen) (read : List ℕ)
    → AreOfHosts (slot_after list script (world list script numbers)) chosen
    → row_of_world list script
    (record { sent = map message_of (row_in (slot_after list script (world list script numbers)) chosen); read = read })
    numbers
    ≡ row_in (slot_after list script (world list script numbers)) chosen
row_of_world-told list script numbers chosen read of_hosts =
    let s = slot_after list script (world list script numbers) in
    ap (λ slot. row_in s (messages_chosen list script slot (map message_of (row_in s chosen))))
    (sym (length-world list script numbers))
    ∙ row_in-told s chosen of_hosts

-- Where the list is valid, each entry speaks of a slot of the list.

pub world-of_list : (list : Medl) (script : Script) (numbers : Numbers) → IsValid list
    → AreOfList list (world list script numbers)
world-of_list list script [] valid = tt
world-of_list list script (new ∷ numbers) valid =
    let before = world-of_list list script numbers valid in (
      row_after-of_list list script (world list script numbers)
          (messages_chosen list script (length numbers) new.sent) valid before,
      before,
    )

-- so the slot that comes is one of the list's, by each node's own C-state
pub coming_place-world : (list : Medl) (script : Script) (numbers : Numbers) (k : ℕ) → IsValid list
    → k < length list.slots
    → IsPlaceOf list (coming_place list (node_past list script (world list script numbers) k))
coming_place-world list script numbers k valid node =
    coming_place-of_list list script (world list script numbers) k valid node (world-of_list list script numbers valid)
