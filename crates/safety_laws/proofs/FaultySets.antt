-- The fates of the plan of the single-fault hypothesis: lost are those that the hypothesis holds for faulty.
use Rattle.safety_laws.proofs.PlanWords.{Bool, List, [], ap, arith, cond, false, length}
use Rattle.safety_laws.proofs.PlanWords.{not, refl, subst, suc, sym, true}
use Rattle.safety_laws.proofs.PlanWords.{zero, ℕ, ◌&&◌, ◌+◌, ◌<◌, ◌||◌, ◌∙◌, ◌≡◌, ◌≤◌, filter, has_node-sieve, below}
use Rattle.safety_laws.proofs.PlanWords.{has_node, and-true, has_node-append, ClusterStart, faulty_nodes_before}
use Rattle.safety_laws.proofs.PlanWords.{has_four_steady, numbers_of, flipped_bits, is_ever_on, Medl, Channel, Script}
use Rattle.safety_laws.proofs.PlanWords.{Absent, Fate, Sound, fate_at_begin, fate_of, is_lost, is_sound_fate, next_fate}
use Rattle.safety_laws.proofs.PlanWords.{IsWithinBounds, FaultPlan, fault_plan_of}
use Rattle.safety_laws.proofs.Courses.{IsCourse, made_of}
use Rattle.safety_laws.proofs.FateSteps.{lost-next, sound-next}
use Rattle.safety_laws.proofs.Incidents.{all-early, strikes-slot}
use Rattle.safety_laws.proofs.Spaced.{numbers-next}

abbrev pub faulty_before : Medl → Script → ClusterStart → ℕ → List ℕ
faulty_before list script start slot = numbers_of (faulty_nodes_before list script start slot)

abbrev pub made_in : Medl → Script → ClusterStart → ℕ → List ℕ
made_in list script start slot = made_of list script start (faulty_before list script start slot) slot

-- what the rules on faults say of a run
pub record IsSingleFault (list : Medl) (script : Script) (start : ClusterStart) : Type 0 where
  pub course : IsCourse list script start (faulty_before list script start) (faulty_nodes_before list script start)
  pub bounds : IsWithinBounds list script
  pub flips : (k slot : ℕ) (c : Channel) → flipped_bits script k c slot ≡ []
  pub steady : (slot : ℕ) → start.slot ≤ slot → slot < script.slots
      → has_four_steady list script (faulty_nodes_before list script start (suc slot)) ≡ true

pub faulty-next : (list : Medl) (script : Script) (start : ClusterStart) (slot k : ℕ)
    → has_node (faulty_before list script start (suc slot)) k
    ≡ (has_node (made_in list script start slot) k || has_node (faulty_before list script start slot) k)
faulty-next list script start slot k =
    ap (λ ks. has_node ks k)
    (numbers-next slot (made_in list script start slot) (faulty_nodes_before list script start slot))
    ∙ has_node-append (made_in list script start slot) (faulty_before list script start slot) k

-- The fates after a slot.

pub sound-begin : (b : Bool) → is_sound_fate (cond b Sound Absent) ≡ b
sound-begin true = refl
sound-begin false = refl

pub lost-begin : (b : Bool) → is_lost (cond b Sound Absent) ≡ false
lost-begin true = refl
lost-begin false = refl

still-sound : (ever made faulty : Bool) → ((ever && not faulty) && not made) ≡ (ever && not (made || faulty))
still-sound true true true = refl
still-sound true true false = refl
still-sound true false true = refl
still-sound true false false = refl
still-sound false made faulty = refl

pub record FateIsKnown (list : Medl) (script : Script) (faulty : List ℕ) (k : ℕ) (fate : Fate) : Type 0 where
  pub lost : is_lost fate ≡ has_node faulty k
  pub sound : is_sound_fate fate ≡ (is_ever_on script k && not (has_node faulty k))

module _ {list : Medl} {script : Script} {start : ClusterStart} (run : IsSingleFault list script start) where
  abbrev plan : FaultPlan
  plan = fault_plan_of list script start

  abbrev IsKnown : ℕ → ℕ → Fate → Type 0
  IsKnown slot k fate = FateIsKnown list script (faulty_before list script start slot) k fate

  begin-known : (k : ℕ) → k < length list.slots → IsKnown 0 k (fate_at_begin plan k)
  begin-known k less =
      let among = has_node (filter (is_ever_on script) (below (length list.slots))) k in
      record {
        lost = lost-begin among;
        sound = sound-begin among ∙ has_node-sieve (is_ever_on script) (length list.slots) k less
            ∙ and-true (is_ever_on script k);
      }

  known-next : (turn slot k : ℕ) (fate : Fate) → slot ≡ start.slot + turn → slot < script.slots → IsKnown slot k fate
      → IsKnown (suc slot) k (next_fate plan turn k fate)
  known-next turn slot k fate is within known =
      let made = has_node (made_in list script start slot) k in
      let faulty = has_node (faulty_before list script start slot) k in
      let hit = strikes-slot run.course turn slot k is within in
      let next = faulty-next list script start slot k in
      record {
        lost = lost-next plan turn k fate refl refl ∙ (λ i. hit i || known.lost i) ∙ sym next;
        sound = sound-next plan turn k fate refl refl ∙ (λ i. known.sound i && not (hit i))
            ∙ still-sound (is_ever_on script k) made faulty ∙ ap (λ b. is_ever_on script k && not b) (sym next);
      }

  pub fates-known : (turn slot k : ℕ) → slot ≡ start.slot + turn → slot < script.slots → k < length list.slots
      → FateIsKnown list script (faulty_before list script start (suc slot)) k
      (fate_of (fault_plan_of list script start) turn k)
  fates-known zero slot k is within less =
      known-next 0 slot k (fate_at_begin plan k) is within
      (subst (λ faulty. FateIsKnown list script (numbers_of faulty) k (fate_at_begin plan k))
      (sym (all-early run.course slot (omega arith) (omega arith))) (begin-known k less))
  fates-known (suc turn) zero k is within less = absurd (omega arith)
  fates-known (suc turn) (suc slot) k is within less =
      known-next (suc turn) (suc slot) k (fate_of plan turn k) is within
      (fates-known turn slot k (omega arith) (omega arith) less)
