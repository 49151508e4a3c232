-- A plant that takes the run in which frames carry zeros, slot by slot.
use Rattle.controller.proofs.Words.{◌≡◌, ℕ, ◌+◌, List, sym, subst, ◌∙◌, Medl, Chosen, Script, IsValid, slot_after}
use Rattle.controller.proofs.Words.{AreChosen}
use Rattle.ttp_world.specs.ZerosWorld.{zeros_world}
use Rattle.ttp_world.specs.World.{step}
use Rattle.ttp_world.specs.ZerosWorld.{all_zeros}
use Rattle.ttp_world.proofs.ZerosWorlds.{zeros-sizes, zeros_world-more}
use Rattle.controller.specs.PlantStands.{PlantStandsFor, MayStep, Steps}
use Rattle.controller.specs.PlantView.{PlantView}
use Rattle.controller.proofs.Payloads.{chosen-step}

pub zeros-may_step : (list : Medl) (script : Script) (slot : ℕ)
    (plant : PlantView) (chosen : List Chosen) → IsValid list
    → plant.list ≡ list → chosen ≡ all_zeros list → PlantStandsFor plant script (zeros_world list script slot)
    → MayStep plant script chosen
zeros-may_step list script slot plant chosen valid same zeros stands =
    let history = zeros_world list script slot in
    let are : AreChosen (slot_after list script history) (all_zeros list) = λ k node loaded. zeros-sizes list k node in
    chosen-step chosen (subst IsValid (sym same) valid) stands
    (subst (λ (l : Medl). AreChosen (slot_after l script history) chosen) (sym same)
    (subst (AreChosen (slot_after list script history)) (sym zeros) are))

pub zeros-stepped : (list : Medl) (script : Script) (slot : ℕ) (old new : PlantView) (chosen : List Chosen)
    → new.list ≡ list → chosen ≡ all_zeros list
    → Steps old new script chosen → PlantStandsFor old script (zeros_world list script slot)
    → PlantStandsFor new script (zeros_world list script (slot + 1))
zeros-stepped list script slot old new chosen same zeros steps stands =
    let history = zeros_world list script slot in
    subst (PlantStandsFor new script)
    ((λ i. step (same i) script history (zeros i)) ∙ sym (zeros_world-more list script slot))
    (steps history stands).stands
