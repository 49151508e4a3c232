-- Clocks stay near 0: what a slot's jumps, errors and drifts add up to.
use Rattle.controller.proofs.Words.{◌≡◌, ℕ, ◌+◌, ◌^◌, ◌<◌, ◌≤◌, ℤ, pos, [], length, Some, unsigned_abs, w64, to_z, of_z}
use Rattle.controller.proofs.Words.{ap, sym, ◌∙◌, subst, arith, slice_get, All, ints, to_z-of_z, All-get_or, Medl}
use Rattle.controller.proofs.Words.{Channel, Script, SLOT_LIMIT, Signal, Bits, heard, IsValid, reading_error, Arrival}
use Rattle.controller.proofs.Words.{Carried, Shows, ArrivalFits, IsBegun, offset_of_arrival, view_clock, IsPlannedFrom}
use Rattle.controller.proofs.Words.{most_ahead, most_ahead_in, IsEnded, IsControllerOf, IsFromWithin, IsIncidentsOf}
use Rattle.controller.proofs.Words.{Ended, ControllerView, fits_signed_from_abs, get_or_from_slice_get, DRIFT_LIMIT}
use Rattle.controller.proofs.Words.{AreBounded, IsWithinSpan, drift_of, IsPlanned, StaysNear, most_error}
use Rattle.controller.proofs.Words.{most_jump, max, most_clock, lit≤, add-le-add, le_trans, span-abs}
use Rattle.ttp_world.specs.declared.events.Incidents.{Incidents}
use Rattle.controller.specs.StandsFor.{IsSameNode, ControllerStandsFor}
use Rattle.ttp_world.specs.declared.script.Channel.TheVariants as channel
use Rattle.medium.specs.declared.arrival.Arrival.TheVariants as arrival
use Rattle.medium.specs.StandsFor as medium

-- and stays the same as 64 bits
same_number : (bound : ℕ) (z : ℤ) → IsWithinSpan bound z → bound ≤ 2 ^ 62 → to_z w64 (of_z w64 z) ≡ z
same_number bound z within few =
    let small = span-abs bound z within in
    to_z-of_z w64 z (fits_signed_from_abs w64 z (omega arith))

-- The beginning. The clock of a controller between two slots is what it keeps.

pub ended-clock : (view : ControllerView) → view.turn ≡ Ended → view_clock view ≡ view.past.offset
ended-clock view ended = rw ended (omega (arith, ints))

pub jump_same : {incidents : Incidents} → AreBounded incidents → to_z w64 (of_z w64 incidents.jump) ≡ incidents.jump
jump_same {incidents = incidents} bounds = same_number most_jump incidents.jump bounds.jump (lit≤ tt)

module _ {list : Medl} {k : ℕ} {old : ControllerView} {incidents : Incidents} (slot : ℕ)
    (of : IsControllerOf list IsEnded (most_ahead slot) k old) (bounds : AreBounded incidents) where
  -- what the clock comes to with the jump
  jumped : unsigned_abs old.past.offset + unsigned_abs (to_z w64 (of_z w64 incidents.jump)) ≤ most_ahead_in slot
  jumped = rw (jump_same bounds, ← ended-clock old of.turn)
      (add-le-add of.clock (span-abs most_jump incidents.jump bounds.jump))

  pub begun-controller : {new : ControllerView} → IsSameNode old new
      → unsigned_abs (view_clock new)
      ≤ unsigned_abs old.past.offset + unsigned_abs (to_z w64 (of_z w64 incidents.jump))
      → IsBegun new.turn → IsControllerOf list IsBegun (most_ahead_in slot) k new
  begun-controller same clock begun = record {
    list = same.list ∙ of.list;
    node = same.node ∙ of.node;
    turn = begun;
    clock = le_trans clock jumped;
  }

-- before the first slot it is at 0
pub first-controller : {list : Medl} {k : ℕ} {view : ControllerView} → view.list ≡ list → view.node ≡ k
    → ControllerStandsFor view [] []
    → IsControllerOf list IsEnded (most_ahead 0) k view
first-controller list_is node_is stands = record {
  list = list_is;
  node = node_is;
  turn = stands.turn;
  clock = rw (stands.past, stands.turn) (omega arith);
}

-- The plan: the clock is that with which it began.
pub planned-controller : {list : Medl} {bound k : ℕ} {old new : ControllerView} → IsPlannedFrom old new
    → IsControllerOf list IsBegun bound k old → IsControllerOf list IsPlanned bound k new
planned-controller {bound = bound} planned of = record {
  list = planned.same.list ∙ of.list;
  node = planned.same.node ∙ of.node;
  turn = planned.turn;
  clock = subst (λ (z : ℤ). unsigned_abs z ≤ bound) (sym planned.clock) of.clock;
}

-- The end. What a controller is handed beside what came: its node's reading error and drift.
pub record AreHanded (script : Script) (slot k : ℕ) (error drift : ℤ) : Type 0 where
  pub error_is : error ≡ reading_error script k slot
  pub drift_is : drift ≡ drift_of script k
  pub few_error : unsigned_abs error ≤ most_error
  pub few_drift : unsigned_abs drift ≤ 1000

pub handed : {script : Script} {slot k : ℕ} {incidents : Incidents} {drift : ℤ} → IsIncidentsOf script slot k incidents
    → k < length script.drift → All (IsWithinSpan DRIFT_LIMIT) script.drift → slice_get script.drift k ≡ Some drift
    → AreHanded script slot k (to_z w64 (of_z w64 incidents.error)) (to_z w64 (of_z w64 drift))
handed {script = script} {slot = slot} {k = k} {incidents = incidents} {drift = drift} happens node all here =
    let drift_is = get_or_from_slice_get script.drift k drift (pos 0) here in
    let within = subst (IsWithinSpan DRIFT_LIMIT) drift_is
    (All-get_or (IsWithinSpan DRIFT_LIMIT) script.drift k (pos 0) node all) in
    let same_error = same_number most_error incidents.error happens.bounds.error (lit≤ tt) in
    let same_drift = same_number DRIFT_LIMIT drift within (lit≤ tt) in
    subst (λ (q : ℤ × ℤ). AreHanded script slot k q.0 q.1) (λ i. (sym same_error i, sym same_drift i)) (record {
      error_is = ap (λ (w : Incidents). w.error) happens.value;
      drift_is = sym drift_is;
      few_error = span-abs most_error incidents.error happens.bounds.error;
      few_drift = span-abs DRIFT_LIMIT drift within;
    })

-- what comes was sent by a node whose clock is near 0
shown-near : (s : Signal) (came : Arrival) (clock : ℕ → ℤ) (bound : ℕ) → Shows came s clock
    → ((p : ℕ) → unsigned_abs (clock p) ≤ bound) → unsigned_abs (offset_of_arrival came) ≤ bound
shown-near (Bits sender sent) (arrival.Bits bytes offset) clock bound shows near =
    subst (λ (z : ℤ). unsigned_abs z ≤ bound) (sym shows.1) (near sender)
shown-near (Bits sender sent) _ clock bound shows near = absurd shows
shown-near _ came clock bound shows near = rw shows (omega arith)

-- what a slot adds up, where each part is within its limit
sum_fits : (slot own came error drift window : ℕ) → slot < SLOT_LIMIT → own ≤ most_ahead_in slot
    → came ≤ most_ahead_in slot → error ≤ most_error → drift ≤ 1000 → window ≤ 1000000
    → own + came + error + drift + window ≤ most_clock
sum_fits slot own came error drift window early near sent read drifts wide = omega arith

sum_near : (slot own a b error drift window after : ℕ) → own ≤ most_ahead_in slot → a ≤ most_ahead_in slot
    → b ≤ most_ahead_in slot → error ≤ most_error → drift ≤ 1000 → window ≤ 1000000
    → after ≤ max own (max a b) + error + drift + window → after ≤ most_ahead (slot + 1)
sum_near slot own a b error drift window after near near_a near_b read drifts wide stays = omega arith

window_small : {list given : Medl} → IsValid list → given ≡ list → unsigned_abs given.window ≤ 1000000
window_small valid is = rw is (omega (arith, ints, valid.window.0, valid.window.1))

-- So all that a controller is to add up fits, and its clock stays near 0.
module _ {carried : Carried} {script : Script} {list : Medl} {k : ℕ} {view : ControllerView} {error drift : ℤ}
    (valid : IsValid list) (from : IsFromWithin carried script (most_ahead_in carried.slot))
    (of : IsControllerOf list IsPlanned (most_ahead_in carried.slot) k view)
    (handed : AreHanded script carried.slot k error drift) where
  heard-near : (c : Channel) (came : Arrival) → medium.ShowsHeard carried script k c came
      → unsigned_abs (offset_of_arrival came) ≤ most_ahead_in carried.slot
  heard-near c came shows =
      shown-near (heard script carried.slot k c from.frames) came from.clock (most_ahead_in carried.slot)
      (shows carried.slot from.frames from.clock from.stands) from.near

  pub arrival_fits : (c : Channel) (came : Arrival) → carried.slot < SLOT_LIMIT
      → medium.ShowsHeard carried script k c came → ArrivalFits view.list (view_clock view) came error drift
  arrival_fits c came early shows =
      sum_fits carried.slot _ _ _ _ _ early of.clock (heard-near c came shows) handed.few_error handed.few_drift
      (window_small valid of.list)

  pub ended-controller : {new : ControllerView} (a b : Arrival) → medium.ShowsHeard carried script k channel.A a
      → medium.ShowsHeard carried script k channel.B b → IsSameNode view new
      → StaysNear new.past.offset view a b error drift → new.turn ≡ Ended
      → IsControllerOf list IsEnded (most_ahead (carried.slot + 1)) k new
  ended-controller {new = new} a b on_a on_b same near turn =
      record {
        list = same.list ∙ of.list;
        node = same.node ∙ of.node;
        turn = turn;
        clock = rw (ended-clock new turn) (sum_near carried.slot _ _ _ _ _ _ _ of.clock (heard-near channel.A a on_a)
            (heard-near channel.B b on_b) handed.few_error handed.few_drift (window_small valid of.list) near);
      }
