-- What a slot makes of a plant, and leaves for the hosts of its nodes.
use Rattle.controller.proofs.Words.{◌≡◌, ℕ, zero, suc, ◌+◌, ◌<◌, List, [], ◌∷◌, length, get_or, Some, refl, sym, ap}
use Rattle.controller.proofs.Words.{◌∙◌, subst, arith, slice_get, none-some, same_Some, Medl, Chosen, Script, History}
use Rattle.controller.proofs.Words.{Seat, IsOutcomeOf, AreSeats, IsEnded, most_ahead, add-one, AreLeft, HaveEnded}
use Rattle.controller.proofs.Words.{Carried, CarriesFrames, slot_after, frames_in}
use Rattle.controller.specs.PlantStands.{PlantStandsFor, no_outcome, outcomes_of, plant_of, IsStep}
use Rattle.controller.proofs.Parts.{each-of}

-- each place of a list has something
pub some_at : {X : Type 0} (xs : List X) (k : ℕ) → k < length xs → (x : X) × (slice_get xs k ≡ Some x)
some_at [] k less = absurd (omega arith)
some_at (x ∷ xs) zero less = (x, refl)
some_at (x ∷ xs) (suc k) less = some_at xs k (omega arith)

-- what is left at a place is left by the seat there
pub outcome_there : (seats : List Seat) (k : ℕ) (seat : Seat) → slice_get seats k ≡ Some seat
    → get_or (outcomes_of seats) k no_outcome ≡ seat.outcome
outcome_there [] k seat here = absurd (none-some seat here)
outcome_there (x ∷ seats) zero seat here = ap (λ (s : Seat). s.outcome) (same_Some _ _ here)
outcome_there (x ∷ seats) (suc k) seat here = outcome_there seats k seat here

pub left_at : {list : Medl} {script : Script} {history : History} {chosen : List Chosen} {seats : List Seat}
    → AreLeft list script history chosen 0 seats → (k : ℕ) → k < length seats
    → IsOutcomeOf list script history chosen k (get_or (outcomes_of seats) k no_outcome)
left_at {list = list} {script = script} {history = history} {chosen = chosen} {seats = seats} left k less =
    let found = some_at seats k less in
    subst (IsOutcomeOf list script history chosen k)
    (sym (outcome_there seats k found.0 found.1)) (each-of left k found.1)

-- So the three passes step a plant: each node stands for what the world's slot makes of the history.
pub is-step : {list : Medl} {script : Script} {slot : ℕ} {history : History}
    {chosen : List Chosen} {old new : List Seat}
    {before after : Carried} → PlantStandsFor (plant_of list slot old before) script history
    → length new ≡ length list.slots → AreSeats list IsEnded (most_ahead (slot + 1)) 0 new
    → HaveEnded list script history chosen 0 new
    → CarriesFrames (slot_after list script history) (frames_in (slot_after list script history) chosen) after
    → IsStep (plant_of list (slot + 1) new after) script history chosen
is-step {slot = slot} stands count are ended carries = record {
  stands = record { slot = add-one slot ∙ ap suc stands.slot; count = count; are = are; seats = ended.stand };
  left = λ k node. left_at ended.left k (omega (arith, node, count));
  carries = carries;
}
