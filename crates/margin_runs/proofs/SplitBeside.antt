-- What was seen of a run where one node counts as faulty besides.
use Rattle.std.proofs.Common.{◌≡◌, ℕ, ◌+◌, ◌-◌, ◌<◌, ◌≤◌, Bool, false, ◌&&◌, ◌||◌, not}
use Rattle.std.proofs.Common.{List, [], ◌∷◌, length, refl, ap, sym, ◌∙◌, arith}
use Rattle.std.specs.Prelude.{◌==◌}
use Rattle.ttp_base.specs.NodeSet.{has_node, without_node}
use Rattle.ttp_base.proofs.NodeSets.{has_node-without}
use Rattle.ttp_world.specs.declared.medl.Medl.{Medl}
use Rattle.ttp_world.specs.declared.script.Event.{Event}
use Rattle.ttp_world.specs.declared.script.Script.{Script}
use Rattle.ttp_world.specs.Diary.{History}
use Rattle.ttp_world.specs.Returning.{is_sound, is_arm}
use Rattle.ttp_world.specs.Safety.{newest_slot}
use Rattle.controller.specs.Agreement.{begins_at}
use Rattle.campaign.specs.Cost.{has_two, memberships}
use Rattle.campaign.specs.Tried.{with_fault}
use Rattle.ttp_world.specs.ZerosWorld.{zeros_world}
use Rattle.clock_margins.specs.Outcomes.{is_sound_beside, is_split_beside, was_split_beside}
use Rattle.run_costs.specs.Told.{AreSound}
use Rattle.margin_runs.proofs.FromBelow.{zeros-longer, faulty_by_test-longer, next_row, zeros-next}
use Rattle.ttp_world.proofs.ZerosWorlds.{length-zeros_world}

-- the correct nodes but one are those that count
pub sound-beside : (list : Medl) (script : Script) (slot node : ℕ) (correct : List ℕ)
    → AreSound list script slot correct
    → (k : ℕ) → k < length list.slots
    → has_node (without_node correct node) k ≡ is_sound_beside list script node slot k
sound-beside list script slot node correct sound k within =
    has_node-without correct node k ∙ ap (λ (b : Bool). not (k == node) && b) (sound k within)

-- memberships with a slot more
pub split-more : (list : Medl) (script : Script) (slot node : ℕ) (now before : Bool)
    → now ≡ has_two (memberships list (zeros_world list script (slot + 1)) (is_sound_beside list script node slot))
    → before ≡ was_split_beside list script node (zeros_world list script slot)
    → (now || before) ≡ was_split_beside list script node (zeros_world list script (slot + 1))
split-more list script slot node now before is was =
    let row = next_row list script slot in
    let history = zeros_world list script slot in
    let newest : slot ≡ length (row ∷ history) - 1 = omega (arith, length-zeros_world list script slot) in
    let split : now ≡ is_split_beside list script node (row ∷ history) =
    is ∙ ap (λ (h : History). has_two (memberships list h (is_sound_beside list script node slot)))
    (zeros-next list script slot)
    ∙ ap (λ (n : ℕ). has_two (memberships list (row ∷ history) (is_sound_beside list script node n))) newest in
    (λ i. split i || was i)
    ∙ ap (was_split_beside list script node) (sym (zeros-next list script slot))

-- A script with one event more, which comes later.

module _ (list : Medl) (script : Script) (more : Event) (plain : is_arm more ≡ false) (node : ℕ) where
  abbrev longer : Script
  longer = with_fault script more

  split-here : (history : History) → newest_slot history < begins_at more
      → is_split_beside list script node history ≡ is_split_beside list longer node history
  split-here history less =
      ap (λ (nodes : List ℕ). has_two (memberships list history
      (λ other. not (other == node) && is_sound script nodes (newest_slot history) other)))
      (faulty_by_test-longer list script more plain (newest_slot history) less)

  split-over : (history : History) → length history ≤ begins_at more
      → was_split_beside list script node history ≡ was_split_beside list longer node history
  split-over [] few = refl
  split-over (row ∷ history) few =
      let here = split-here (row ∷ history) (omega (arith, few)) in
      let rest = split-over history (omega (arith, few)) in
      λ i. here i || rest i

  pub split-longer : (slots : ℕ) → slots ≤ begins_at more
      → was_split_beside list script node (zeros_world list script slots)
      ≡ was_split_beside list longer node (zeros_world list longer slots)
  split-longer slots few =
      split-over (zeros_world list script slots) (omega (arith, few, length-zeros_world list script slots))
      ∙ ap (was_split_beside list longer node) (zeros-longer list script more slots few)
