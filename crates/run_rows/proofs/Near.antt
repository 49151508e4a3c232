-- How far the clocks of a run are from 0.
use Rattle.std.proofs.Common.{◌≡◌, ℕ, ◌<◌, ◌≤◌, ◌^◌, ℤ, ◌+ℤ◌, List, length, Some, ap, sym, subst, ◌∙◌, unsigned_abs}
use Rattle.std.proofs.Common.{FitsSigned, arith, inl, inr, of_z, to_z, w64}
use Rattle.std.proofs.lemmas.Int.{fits_signed_from_abs, ints, to_z-of_z}
use Rattle.std.proofs.lemmas.Option.{slice_get_cases}
use Rattle.std.specs.Prelude.{slice_get}
use Rattle.ttp_world.specs.ZerosWorld.{zeros_world}
use Rattle.run_rows.proofs.FromBelow.{ended-clock, each-of}
use Rattle.controller.specs.Limits.{most_clock}
use Rattle.controller.specs.PlantStands.{PlantStandsFor}
use Rattle.controller.specs.PlantView.{PlantView}
use Rattle.controller.specs.PlantWithin.{most_ahead, most_jump}
use Rattle.controller.specs.declared.seat.Seat.{Seat}
use Rattle.ttp_world.proofs.ZerosWorlds.{length-zeros_world}
use Rattle.run_costs.specs.Standing.{IsRunAfter}
use Rattle.run_costs.specs.States.{AreShown, state_at}
use Rattle.run_costs.specs.declared.run.Run.{Run}
use Rattle.ttp_world.proofs.SmallTests.{span-abs}
use Rattle.ttp_world.specs.Diary.{History, diary_of}
use Rattle.ttp_world.specs.Script.{IsWithinSpan}
use Rattle.ttp_world.specs.Medium.{surroundings_of}
use Rattle.ttp_world.specs.Past.{NodePast, past_of}
use Rattle.ttp_world.specs.World.{node_past}
use Rattle.ttp_world.specs.declared.medl.Medl.{Medl}
use Rattle.ttp_world.specs.declared.node.NodeState.{NodeState}
use Rattle.ttp_world.specs.declared.script.Script.{Script}
use Rattle.ttp_world.specs.declared.script.TheConstants.{SLOT_LIMIT}

-- by the seat of a plant
of_seat : (plant : PlantView) (script : Script) (history : History) (k : ℕ) (seat : Seat)
    → PlantStandsFor plant script history → slice_get plant.seats k ≡ Some seat
    → unsigned_abs (node_past plant.list script history k).offset ≤ most_ahead plant.slot
of_seat plant script history k seat stands there =
    let of = each-of stands.are k there in
    let for = each-of stands.seats k there in
    subst (λ (z : ℤ). unsigned_abs z ≤ most_ahead plant.slot)
    (ended-clock seat.controller of.turn
    ∙ ap (λ (p : NodePast). p.offset) for.past
    ∙ (λ i. (past_of (of.list i) (of.node i) (diary_of history k) (surroundings_of script history k)).offset))
    of.clock

pub plant-near : (plant : PlantView) (script : Script) (history : History) (k : ℕ)
    → PlantStandsFor plant script history → k < length plant.list.slots
    → unsigned_abs (node_past plant.list script history k).offset ≤ most_ahead plant.slot
plant-near plant script history k stands node =
    elim (slice_get_cases plant.seats k).1 [
      | inl found ↦ of_seat plant script history k found.0 stands found.2
      | inr past ↦ absurd (omega (arith, past.0, stands.count, node))
    ]

-- what a run shows
pub run-near : (list : Medl) (script : Script) (slots k : ℕ) (run : Run) (states : List NodeState)
    → IsRunAfter run list script slots → AreShown list script (zeros_world list script slots) states
    → k < length list.slots
    → unsigned_abs (state_at states k).offset ≤ most_ahead slots
run-near list script slots k run states stands shown node =
    let near : unsigned_abs (node_past run.cluster.plant.list script (zeros_world list script slots) k).offset
    ≤ most_ahead run.cluster.plant.slot =
    plant-near run.cluster.plant script (zeros_world list script slots) k stands.plant
    (subst (λ (l : Medl). k < length l.slots) (sym stands.same) node) in
    let count : run.cluster.plant.slot ≡ slots = stands.plant.slot ∙ length-zeros_world list script slots in
    let ours : unsigned_abs (node_past list script (zeros_world list script slots) k).offset ≤ most_ahead slots =
    subst (λ (n : ℕ). unsigned_abs
    (node_past list script (zeros_world list script slots) k).offset ≤ most_ahead n) count
    (subst (λ (l : Medl).
    unsigned_abs (node_past l script (zeros_world list script slots) k).offset
    ≤ most_ahead run.cluster.plant.slot) stands.same
    near) in
    subst (λ (z : ℤ). unsigned_abs z ≤ most_ahead slots) (sym (ap (λ (s : NodeState). s.offset) (shown.nodes k node)))
    ours

-- With the jumps of a slot a clock is a number of 64 bits.
pub jumped-few : (slot : ℕ) (offset jump : ℤ) → unsigned_abs offset ≤ most_ahead slot → slot ≤ SLOT_LIMIT
    → IsWithinSpan most_jump jump
    → unsigned_abs (offset +ℤ jump) < 2 ^ 62
jumped-few slot offset jump near few within =
    omega (arith, ints, near, few, span-abs most_jump jump within)

-- a clock near 0 is within what controllers are asked for
pub kept-near : (slot : ℕ) (offset : ℤ) → unsigned_abs offset ≤ most_ahead slot → slot ≤ SLOT_LIMIT
    → unsigned_abs offset ≤ most_clock
kept-near slot offset near few = omega (arith, near, few)

pub jumped-near : (slot : ℕ) (offset jump : ℤ) → unsigned_abs offset ≤ most_ahead slot → slot ≤ SLOT_LIMIT
    → IsWithinSpan most_jump jump
    → unsigned_abs (offset +ℤ jump) ≤ most_clock
jumped-near slot offset jump near few within =
    omega (arith, ints, near, few, span-abs most_jump jump within)

pub jumped-fits : (slot : ℕ) (offset jump : ℤ) → unsigned_abs offset ≤ most_ahead slot → slot ≤ SLOT_LIMIT
    → IsWithinSpan most_jump jump
    → FitsSigned w64 (offset +ℤ jump)
jumped-fits slot offset jump near few within =
    fits_signed_from_abs w64 (offset +ℤ jump) (omega (arith, jumped-few slot offset jump near few within))

pub jump-same : (jump : ℤ) → IsWithinSpan most_jump jump → to_z w64 (of_z w64 jump) ≡ jump
jump-same jump within =
    to_z-of_z w64 jump (fits_signed_from_abs w64 jump (omega (arith, span-abs most_jump jump within)))

pub near-same : (slot : ℕ) (offset : ℤ) → unsigned_abs offset ≤ most_ahead slot → slot ≤ SLOT_LIMIT
    → to_z w64 (of_z w64 offset) ≡ offset
near-same slot offset near few =
    to_z-of_z w64 offset (fits_signed_from_abs w64 offset (omega (arith, near, few)))
