-- Where nodes stand is a place of the list's cycle.
use Rattle.std.proofs.Common.{ℕ, ◌<◌, length, subst, sym}
use Rattle.ttp_world.specs.ZerosWorld.{zeros_world}
use Rattle.causes.specs.RunSlots.{past_in}
use Rattle.entry_causes.proofs.FromBelow.{place-of_list}
use Rattle.run_rows.specs.Rows.{slot_in}
use Rattle.ttp_world.proofs.Lists.{IsPlaceOf, IsPlaceOf-next}
use Rattle.ttp_world.proofs.Slots.{node_of-slot_after}
use Rattle.ttp_world.specs.Diary.{next_place}
use Rattle.ttp_world.specs.Medl.{IsValid}
use Rattle.ttp_world.specs.World.{BegunNode}
use Rattle.ttp_world.specs.declared.medl.Medl.{Medl}
use Rattle.ttp_world.specs.declared.script.Script.{Script}

-- that of the slot before
pub place-before : (list : Medl) (script : Script) (slot k : ℕ) → IsValid list → k < length list.slots
    → IsPlaceOf list (past_in k (slot_in list script slot)).place
unfolding slot_in
place-before list script slot k valid node =
    subst (λ (n : BegunNode). IsPlaceOf list n.past.place)
    (sym (node_of-slot_after list script (zeros_world list script slot) k node))
    (place-of_list list script slot k valid node)

-- The place of a node in a slot is one of the list.
pub place-coming : (list : Medl) (script : Script) (slot k : ℕ) → IsValid list → k < length list.slots
    → IsPlaceOf list (next_place list (past_in k (slot_in list script slot)).place)
place-coming list script slot k valid node =
    let before = place-before list script slot k valid node in
    IsPlaceOf-next list (past_in k (slot_in list script slot)).place valid before.round before.slot
