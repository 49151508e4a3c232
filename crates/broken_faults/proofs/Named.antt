-- What breaks a rule on faults names the slot that the rule names.
use Rattle.std.proofs.Common.{◌≡◌, ℕ, zero, suc, ◌+◌, ◌*◌, Bool, true, false, List, [], ◌∷◌, ◌++◌, map, length, reverse}
use Rattle.std.proofs.Common.{replicate, Option, Some, None, is_some, option_map, refl, ap, sym, ◌∙◌, arith}
use Rattle.std.proofs.lemmas.List.{map-append, length-append}
use Rattle.std.specs.Prelude.{nat_lt}
use Rattle.ttp_world.specs.declared.medl.Medl.{Medl}
use Rattle.ttp_world.specs.declared.script.Script.{Script}
use Rattle.ttp_world.specs.Hypothesis.{ClusterStart, FaultyNode, first_too_early, nodes_made, loss_in, jumpers_in}
use Rattle.ttp_world.specs.Returning.{slots_before, joinings, back_loss_broken, back_distance_broken, back_sync_broken}
use Rattle.hypothesis.specs.Walks.{all_in}
use Rattle.broken_faults.proofs.FromBelow.{slots-all_in, slots-later}
use Rattle.broken_faults.specs.declared.early.EarlyFault.{EarlyFault}
use Rattle.broken_faults.specs.declared.early.Since.{Since}
use Rattle.broken_faults.specs.declared.early.Since.TheVariants as since
use Rattle.broken_faults.specs.declared.losses.LostFrame.{LostFrame}
use Rattle.broken_faults.specs.declared.few.TooFew.{TooFew}
use Rattle.broken_faults.specs.Faults.{faulty_in, faults_before, slot_since, first_early, early_fault}
use Rattle.broken_faults.specs.BrokenFaults.{faults_by, broken_faults, NameFaultSlots}
use Rattle.broken_faults.specs.Faults.{cause_of, lost_in, lost_frame, few_in, too_few_left}
use Rattle.broken_faults.proofs.Kept as kept

pub lost : (list : Medl) (script : Script) (start : ClusterStart) (slot : Option ℕ)
    → option_map (λ (l : LostFrame). l.slot) (option_map (lost_in list script start) slot) ≡ slot
lost list script start None = refl
lost list script start (Some slot) = refl

pub few : (list : Medl) (script : Script) (start : ClusterStart) (slot : Option ℕ)
    → option_map (λ (w : TooFew). w.slot) (option_map (few_in list script start) slot) ≡ slot
few list script start None = refl
few list script start (Some slot) = refl

-- Distances.

early-step : (cause : FaultyNode → Option ℕ) (gap : ℕ) (before : Since) (f : FaultyNode) (faults : List FaultyNode)
    (soon : Bool) → nat_lt f.slot (slot_since before + gap) ≡ soon
    → option_map (λ (e : EarlyFault). e.slot) (first_early cause gap (since.Fault f.slot f.node) faults)
    ≡ first_too_early gap (f.slot + gap) (map (λ (f : FaultyNode). f.slot) faults)
    → option_map (λ (e : EarlyFault). e.slot) (first_early cause gap before (f ∷ faults))
    ≡ first_too_early gap (slot_since before + gap) (map (λ (f : FaultyNode). f.slot) (f ∷ faults))
early-step cause gap before f faults true is later = rw is refl
early-step cause gap before f faults false is later = rw is later

early-slots : (cause : FaultyNode → Option ℕ) (gap : ℕ) (before : Since) (faults : List FaultyNode)
    → option_map (λ (e : EarlyFault). e.slot) (first_early cause gap before faults)
    ≡ first_too_early gap (slot_since before + gap) (map (λ (f : FaultyNode). f.slot) faults)
early-slots cause gap before [] = refl
early-slots cause gap before (f ∷ faults) =
    early-step cause gap before f faults (nat_lt f.slot (slot_since before + gap)) refl
    (early-slots cause gap (since.Fault f.slot f.node) faults)

-- the slots of a slot's faults, in whatever order
same-many : (slot : ℕ) (js ms : List ℕ) → length (js ++ ms) ≡ length (ms ++ js)
same-many slot js ms = rw (length-append js ms, length-append ms js) (omega arith)

in-order : (list : Medl) (script : Script) (start : ClusterStart) (slot : ℕ)
    → map (λ (f : FaultyNode). f.slot) (faults_before list script start slot)
    ≡ reverse (map (λ (f : FaultyNode). f.slot) (joinings (slots_before list script start slot)))
in-order list script start zero = refl
in-order list script start (suc slot) =
    let js = jumpers_in list script (faulty_in list script start slot) slot in
    let ms = nodes_made (loss_in list script start (faulty_in list script start slot) slot) in
    let older = joinings (slots_before list script start slot) in
    map-append (λ (f : FaultyNode). f.slot) (faults_before list script start slot) (all_in slot (js ++ ms))
    ∙ (λ i. in-order list script start slot i ++ slots-all_in slot (js ++ ms) i)
    ∙ ap (λ n. reverse (map (λ (f : FaultyNode). f.slot) older) ++ replicate n slot) (same-many slot js ms)
    ∙ sym (slots-later slot (ms ++ js) older)

pub early : (list : Medl) (script : Script) (start : ClusterStart)
    → option_map (λ (e : EarlyFault). e.slot) (early_fault list script start)
    ≡ back_distance_broken list script start
early list script start =
    early-slots (cause_of list script start) (2 * length list.slots) (since.Start start.slot)
    (faults_before list script start script.slots)
    ∙ ap (first_too_early (2 * length list.slots) (start.slot + 2 * length list.slots))
    (in-order list script start script.slots)

pub each-by : (list : Medl) (script : Script) (start : ClusterStart) (frame : Option LostFrame)
    → lost_frame list script start ≡ frame
    → NameFaultSlots list script start
    (faults_by frame (early_fault list script start) (too_few_left list script start))
each-by list script start None is = record {
  lost = ap (option_map (λ (l : LostFrame). l.slot)) (sym is)
      ∙ lost list script start (back_loss_broken list script start);
  early = λ none. early list script start;
  few = λ none. few list script start (back_sync_broken list script start);
  kept_lost = kept.lost list script start;
  kept_early = kept.early list script start;
  kept_few = kept.few list script start;
}
each-by list script start (Some frame) is = record {
  lost = ap (option_map (λ (l : LostFrame). l.slot)) (sym is)
      ∙ lost list script start (back_loss_broken list script start);
  early = λ none. absurd (grind arith);
  few = λ none. absurd (grind arith);
  kept_lost = kept.lost list script start;
  kept_early = kept.early list script start;
  kept_few = kept.few list script start;
}

pub each : (list : Medl) (script : Script) (start : ClusterStart)
    → NameFaultSlots list script start (broken_faults list script start)
each list script start = each-by list script start (lost_frame list script start) refl

-- what is told, by whether a frame is lost against the rule
pub by-lost : (frame : Option LostFrame) (early : Option EarlyFault) (few : Option TooFew) → is_some frame ≡ true
    → faults_by frame early few ≡ record { lost = frame; early = None; few = None }
by-lost None early few some = absurd (grind arith)
by-lost (Some frame) early few some = refl

pub by-none : (frame : Option LostFrame) (early : Option EarlyFault) (few : Option TooFew) → is_some frame ≡ false
    → faults_by frame early few ≡ record { lost = frame; early = early; few = few }
by-none None early few none = refl
by-none (Some frame) early few none = absurd (grind arith)
