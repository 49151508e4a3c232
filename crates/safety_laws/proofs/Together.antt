-- Members and clocks together: after each slot of a run from the start on, where what the nodes noted keeps their
-- clocks together.
use Rattle.safety_laws.proofs.Words.{◌≡◌, ℕ, zero, suc, ◌+◌, ◌<◌, [], ◌∷◌, length, inl, inr, arith, Medl, Script}
use Rattle.safety_laws.proofs.Words.{ClusterStart, IsLegal, IsValid, SlotNumbers, Numbers, slot_after, world}
use Rattle.safety_laws.proofs.Words.{legal-older, FollowsWithin, FaultPlan, NotedByPlan, GoesOnByPlan, IsBegunAlone}
use Rattle.safety_laws.proofs.Words.{IsTurn, IsByPlan}
use Rattle.safety_laws.specs.ClocksHold.{ClocksHold}
use Rattle.safety_laws.proofs.Bounds.{sound-inside}
use Rattle.safety_laws.proofs.OutsideWindow.{jumped-outside}
use Rattle.safety_laws.proofs.Begins.{holds-begun}
use Rattle.safety_laws.proofs.WorldSteps.{holds-next, started-by_plan, noted-next}

-- in a world whose nodes noted by a plan up to a turn, the clocks of the next slot hold as membership asks it
abbrev pub KeepsClocks : Medl → Script → ClusterStart → FaultPlan → Type 0
KeepsClocks list script start plan =
    (turn : ℕ) (numbers : Numbers) → NotedByPlan list script start plan turn (world list script numbers)
    → start.slot + suc turn < script.slots
    → ClocksHold list plan (suc turn) (slot_after list script (world list script numbers))

-- by a plan that stays within the list's bounds clocks hold as membership asks it
pub clocks-hold : (list : Medl) (script : Script) (start : ClusterStart) (plan : FaultPlan) → IsValid list
    → FollowsWithin list script start plan → KeepsClocks list script start plan
clocks-hold list script start plan valid follows turn numbers noted within =
    let goes : GoesOnByPlan list script start plan turn (world list script numbers) =
    record { valid = valid; follows = follows; noted = noted; within = within } in
    record {
      within = λ r p node sends sound steady none stays. sound-inside goes r p (node, sound) (sends, steady) none stays;
      frame = λ r p since node sends sound none jumped.
          (jumped-outside goes p sends r since (inr jumped) (node, sound)).0;
      others = λ r p since node sends jumped sound none.
          (jumped-outside goes r node p since (inl jumped) (sends, sound)).1;
    }

module _ (list : Medl) (script : Script) (start : ClusterStart) (plan : FaultPlan)
    (is : IsBegunAlone list script start plan)
    (clocks : KeepsClocks list script start plan) where
  pub turn-next : (turn : ℕ) (new : SlotNumbers) (numbers : Numbers) → length numbers ≡ start.slot + suc turn
      → start.slot + suc turn < script.slots → IsLegal list script (new ∷ numbers)
      → IsByPlan list script start plan turn (world list script numbers)
      → IsTurn list script start plan turn new numbers
  turn-next turn new numbers number within legal before = record {
    planned = is.planned;
    legal = legal;
    number = number;
    within = within;
    before = before.holds;
    clocks = clocks turn numbers before.noted within;
  }

  pub run-by_plan : (turn : ℕ) (numbers : Numbers) → length numbers ≡ suc (start.slot + turn)
      → start.slot + turn < script.slots → IsLegal list script numbers
      → IsByPlan list script start plan turn (world list script numbers)
  run-by_plan turn [] number within legal = absurd (omega (arith, number))
  run-by_plan zero (new ∷ numbers) number within legal =
      let now : length numbers ≡ start.slot = omega (arith, number) in
      record {
        holds = holds-begun is new numbers now;
        noted = started-by_plan list script start plan new numbers is now;
      }
  run-by_plan (suc turn) (new ∷ numbers) number within legal =
      let before = run-by_plan turn numbers (omega (arith, number)) (omega (arith, within))
      (legal-older list script new numbers legal) in
      let t = turn-next turn new numbers (omega (arith, number)) within legal before in
      record {
        holds = holds-next t;
        noted = (before.noted, noted-next t);
      }
