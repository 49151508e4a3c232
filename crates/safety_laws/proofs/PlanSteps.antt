-- What one turn more makes of a plan's members, ledgers and fates.
use Rattle.safety_laws.proofs.Words.{◌≡◌, ◌≢◌, ℕ, suc, ◌+◌, ◌<◌, ◌≤◌, Bool, true, false, cond, Option, Some, None, refl}
use Rattle.safety_laws.proofs.Words.{ap, sym, subst, ◌∙◌, inl, inr, arith, ◌==◌, eq-eqb, eqb-true, ne_eqb, both_ways}
use Rattle.safety_laws.proofs.Words.{false_from_ne_true, lt-ltb, with_node, without_node, Change, Receiving, Incident}
use Rattle.safety_laws.proofs.Words.{FaultPlan, sender, incident_at, is_armed_by, enters, Fate, Absent, Sound, Falling}
use Rattle.safety_laws.proofs.Words.{Fallen, Listening, struck, turned, fate_of, is_sound_fate, is_sound_after, is_lost}
use Rattle.safety_laws.proofs.Words.{is_good_slot, is_first_slot, may_stay, IsGoodPlan, opened, with_slot}
use Rattle.safety_laws.proofs.Words.{planned_members, ledger_of, IsFalling, IsTold, strikes, sound-from, fate-told}
use Rattle.safety_laws.proofs.Words.{ledger-told, armed-lost, entry-from, turns_apart}
use Rattle.safety_laws.specs.Fates.{shown_in}
use Rattle.safety_laws.specs.Fates.{is_shown_in}
use Rattle.safety_laws.specs.Told.{IsFallen}
use Rattle.safety_laws.proofs.FateSteps.{next-same, struck-missed as missed-same}
use Rattle.safety_laws.proofs.Returns.{armed-quiet, entry-quiet}
use Rattle.safety_laws.proofs.Turns.{next_turn}
use Rattle.safety_laws.proofs.Listeners.{awaited-armed, gone-awaited}
use Rattle.safety_laws.proofs.SlotKinds.{sender-stays as sender-unentered}

-- Members.

pub members-good : (plan : FaultPlan) (turn : ℕ) → is_good_slot plan (suc turn) ≡ true
    → planned_members plan (suc turn) ≡ with_node (planned_members plan turn) (sender plan (suc turn))
members-good plan turn good =
    let members = planned_members plan turn in
    let e = sender plan (suc turn) in
    ap (λ b. cond b (with_node members e) (without_node members e)) good

pub members-wrong : (plan : FaultPlan) (turn : ℕ) → is_good_slot plan (suc turn) ≡ false
    → planned_members plan (suc turn) ≡ without_node (planned_members plan turn) (sender plan (suc turn))
members-wrong plan turn wrong =
    let members = planned_members plan turn in
    let e = sender plan (suc turn) in
    ap (λ b. cond b (with_node members e) (without_node members e)) wrong

-- Ledgers.

pub ledger-other : (plan : FaultPlan) (turn k : ℕ) → sender plan (suc turn) ≢ k → enters plan (suc turn) k ≡ false
    → ledger_of plan (suc turn) k
    ≡ with_slot (is_good_slot plan (suc turn)) (is_first_slot plan (suc turn)) (ledger_of plan turn k)
ledger-other plan turn k other entered =
    let next = with_slot (is_good_slot plan (suc turn)) (is_first_slot plan (suc turn)) (ledger_of plan turn k) in
    ap (λ b. cond b (opened true (suc turn)) (cond (enters plan (suc turn) k) (opened false (suc turn)) next))
    (ne_eqb (sender plan (suc turn)) k other) ∙ ap (λ b. cond b (opened false (suc turn)) next) entered

pub ledger-entered : (plan : FaultPlan) (turn k : ℕ) → sender plan (suc turn) ≢ k → enters plan (suc turn) k ≡ true
    → ledger_of plan (suc turn) k ≡ opened false (suc turn)
ledger-entered plan turn k other entered =
    let next = with_slot (is_good_slot plan (suc turn)) (is_first_slot plan (suc turn)) (ledger_of plan turn k) in
    ap (λ b. cond b (opened true (suc turn)) (cond (enters plan (suc turn) k) (opened false (suc turn)) next))
    (ne_eqb (sender plan (suc turn)) k other) ∙ ap (λ b. cond b (opened false (suc turn)) next) entered

pub ledger-own : (plan : FaultPlan) (turn k : ℕ) → sender plan (suc turn) ≡ k
    → ledger_of plan (suc turn) k ≡ opened true (suc turn)
ledger-own plan turn k own =
    let next = with_slot (is_good_slot plan (suc turn)) (is_first_slot plan (suc turn)) (ledger_of plan turn k) in
    ap (λ b. cond b (opened true (suc turn)) (cond (enters plan (suc turn) k) (opened false (suc turn)) next))
    (eq-eqb (sender plan (suc turn)) k own)

-- Fates.

-- the incident of a turn is that of a node
pub record IsStruck (plan : FaultPlan) (turn k : ℕ) : Type 0 where
  pub incident : Incident
  pub found : incident_at plan turn ≡ Some incident
  pub node : incident.node ≡ k

pub struck-known : (plan : FaultPlan) (turn k : ℕ) → strikes (incident_at plan turn) k ≡ true → IsStruck plan turn k
struck-known plan turn k is = by (incident_at plan turn) refl
  where
    by : (found : Option Incident) → incident_at plan turn ≡ found → IsStruck plan turn k
    by None found = absurd (both_ways (strikes (incident_at plan turn) k) (ap (λ o. strikes o k) found) is)
    by (Some incident) found = record {
      incident = incident;
      found = found;
      node = eqb-true incident.node k (sym (ap (λ o. strikes o k) found) ∙ is);
    }

struck-same : (slot k : ℕ) (fate : Fate) (found : Option Incident) (incident : Incident) → found ≡ Some incident
    → incident.node ≡ k → struck slot k fate found ≡ Falling incident.change slot
struck-same slot k fate found incident is node =
    ap (struck slot k fate) is ∙ ap (λ b. cond b (Falling incident.change slot) fate) (eq-eqb incident.node k node)

-- only a sound node is lost
pub unsound-missed : (plan : FaultPlan) (turn k : ℕ) → IsGoodPlan plan → is_sound_after plan turn k ≡ false
    → strikes (incident_at plan (suc turn)) k ≡ false
unsound-missed plan turn k good was = by (incident_at plan (suc turn)) refl
  where
    by : (found : Option Incident) → incident_at plan (suc turn) ≡ found → strikes found k ≡ false
    by None found = refl
    by (Some incident) found =
        ne_eqb incident.node k (λ same. both_ways (is_sound_after plan turn k) was
        (ap (is_sound_after plan turn) (sym same) ∙ (good.losses turn incident found).was))

turned-other : (plan : FaultPlan) (slot k : ℕ) (fate : Fate) → sender plan slot ≢ k
    → turned (sender plan slot == k) slot fate ≡ fate
turned-other plan slot k fate other = ap (λ own. turned own slot fate) (ne_eqb (sender plan slot) k other)

turned-own : (plan : FaultPlan) (slot k : ℕ) (fate : Fate) → sender plan slot ≡ k
    → turned (sender plan slot == k) slot fate ≡ shown_in slot fate
turned-own plan slot k fate own = ap (λ b. turned b slot fate) (eq-eqb (sender plan slot) k own)

settled : (own : Bool) (slot : ℕ) (fate : Fate) → shown_in slot fate ≡ fate → turned own slot fate ≡ fate
settled true slot fate same = same
settled false slot fate same = refl

-- Who is not armed in the next slot, and does not enter in it.

pub unlost-unarmed : (plan : FaultPlan) (turn k : ℕ) → IsGoodPlan plan → is_lost (fate_of plan turn k) ≡ false
    → is_armed_by plan (suc turn) k ≡ false
unlost-unarmed plan turn k good here =
    false_from_ne_true (is_armed_by plan (suc turn) k) (λ armed.
    both_ways (is_lost (fate_of plan turn k)) here (armed-lost plan turn k good armed))

-- a node that may still stay
pub staying-unarmed : (plan : FaultPlan) (turn j k : ℕ) → IsGoodPlan plan
    → may_stay plan.nodes turn (fate_of plan turn j) ≡ true → is_armed_by plan (suc turn) k ≡ false
staying-unarmed plan turn j k good stays =
    false_from_ne_true (is_armed_by plan (suc turn) k) (λ armed.
    both_ways (may_stay plan.nodes turn (fate_of plan turn j))
    (gone-awaited plan turn k (suc turn) good (awaited-armed plan turn k good armed) j) stays)

pub unentered : (plan : FaultPlan) (turn k : ℕ) → IsGoodPlan plan → is_armed_by plan (suc turn) k ≡ false
    → ((since : ℕ) → fate_of plan turn k ≡ Listening since → ⊥) → enters plan (suc turn) k ≡ false
unentered plan turn k good unarmed other =
    false_from_ne_true (enters plan (suc turn) k) (λ entered. elim (entry-from plan turn k good entered) [
      | inl armed ↦ both_ways (is_armed_by plan (suc turn) k) unarmed armed
      | inr listens ↦ other listens.0 listens.1
    ])

pub sound-unentered : (plan : FaultPlan) (turn k : ℕ) → IsGoodPlan plan → fate_of plan turn k ≡ Sound
    → enters plan (suc turn) k ≡ false
sound-unentered plan turn k good is =
    unentered plan turn k good (unlost-unarmed plan turn k good (ap is_lost is))
    (λ since listens. let both = sym is ∙ listens in cc)

-- so in a good slot it was sound before, and the slot is not good where it was not
pub good-sender : (plan : FaultPlan) (turn : ℕ) → IsGoodPlan plan → is_good_slot plan (suc turn) ≡ true
    → is_sound_after plan turn (sender plan (suc turn)) ≡ true
good-sender plan turn good is =
    sound-from plan (suc turn) (sender plan (suc turn)) (fate_of plan turn (sender plan (suc turn)))
    (sender-unentered plan (suc turn) good) is

pub wrong-slot : (plan : FaultPlan) (turn : ℕ) → IsGoodPlan plan
    → is_sound_after plan turn (sender plan (suc turn)) ≡ false
    → is_good_slot plan (suc turn) ≡ false
wrong-slot plan turn good was =
    false_from_ne_true (is_good_slot plan (suc turn)) (λ is.
    both_ways (is_sound_after plan turn (sender plan (suc turn))) was (good-sender plan turn good is))

-- What becomes of a node that is neither armed nor enters.

record IsApart (plan : FaultPlan) (turn k : ℕ) : Type 0 where
  armed : is_armed_by plan (suc turn) k ≡ false
  entered : enters plan (suc turn) k ≡ false

fate-missed : (plan : FaultPlan) (turn k : ℕ) → IsApart plan turn k → strikes (incident_at plan (suc turn)) k ≡ false
    → fate_of plan (suc turn) k ≡ turned (sender plan (suc turn) == k) (suc turn) (fate_of plan turn k)
fate-missed plan turn k apart missed =
    next-same plan (suc turn) k (fate_of plan turn k) apart.armed apart.entered
    ∙ ap (turned (sender plan (suc turn) == k) (suc turn))
    (missed-same (suc turn) k (fate_of plan turn k) (incident_at plan (suc turn)) missed)

-- a fate that no turn of its node changes stays where the node is not lost
fate-stays : (plan : FaultPlan) (turn k : ℕ) (fate : Fate) → IsApart plan turn k
    → ((slot : ℕ) → shown_in slot fate ≡ fate)
    → strikes (incident_at plan (suc turn)) k ≡ false → fate_of plan turn k ≡ fate → fate_of plan (suc turn) k ≡ fate
fate-stays plan turn k fate apart still missed is =
    fate-missed plan turn k apart missed ∙ ap (turned (sender plan (suc turn) == k) (suc turn)) is
    ∙ settled (sender plan (suc turn) == k) (suc turn) fate (still (suc turn))

pub fallen-stays : (plan : FaultPlan) (turn k since shown : ℕ) (change : Change) → IsGoodPlan plan
    → is_armed_by plan (suc turn) k ≡ false → fate_of plan turn k ≡ Fallen change since shown
    → fate_of plan (suc turn) k ≡ Fallen change since shown
fallen-stays plan turn k since shown change good unarmed is =
    fate-stays plan turn k (Fallen change since shown) (record {
      armed = unarmed;
      entered = unentered plan turn k good unarmed (λ s listens. let both = sym is ∙ listens in cc);
    })
    (λ slot. refl) (unsound-missed plan turn k good (ap is_sound_fate is)) is

pub absent-stays : (plan : FaultPlan) (turn k : ℕ) → IsGoodPlan plan → fate_of plan turn k ≡ Absent
    → fate_of plan (suc turn) k ≡ Absent
absent-stays plan turn k good is =
    let unarmed = unlost-unarmed plan turn k good (ap is_lost is) in
    fate-stays plan turn k Absent (record {
      armed = unarmed;
      entered = unentered plan turn k good unarmed (λ s listens. let both = sym is ∙ listens in cc);
    })
    (λ slot. refl) (unsound-missed plan turn k good (ap is_sound_fate is)) is

pub sound-stays : (plan : FaultPlan) (turn k : ℕ) → IsGoodPlan plan → strikes (incident_at plan (suc turn)) k ≡ false
    → fate_of plan turn k ≡ Sound → fate_of plan (suc turn) k ≡ Sound
sound-stays plan turn k good missed is =
    fate-stays plan turn k Sound (record {
      armed = unlost-unarmed plan turn k good (ap is_lost is);
      entered = sound-unentered plan turn k good is;
    })
    (λ slot. refl) missed is

falling-apart : (plan : FaultPlan) (turn k since : ℕ) (change : Change) → IsGoodPlan plan
    → fate_of plan turn k ≡ Falling change since → IsApart plan turn k
falling-apart plan turn k since change good is =
    let unarmed = staying-unarmed plan turn k k good (ap (may_stay plan.nodes turn) is) in
    record {
      armed = unarmed;
      entered = unentered plan turn k good unarmed (λ s listens. let both = sym is ∙ listens in cc);
    }

-- a falling node's own slot shows it
pub falling-stays : (plan : FaultPlan) (turn k since : ℕ) (change : Change) → IsGoodPlan plan
    → sender plan (suc turn) ≢ k
    → fate_of plan turn k ≡ Falling change since → fate_of plan (suc turn) k ≡ Falling change since
falling-stays plan turn k since change good other is =
    fate-missed plan turn k (falling-apart plan turn k since change good is)
    (unsound-missed plan turn k good (ap is_sound_fate is)) ∙ turned-other plan (suc turn) k (fate_of plan turn k) other
    ∙ is

pub falling-shown : (plan : FaultPlan) (turn k since : ℕ) (change : Change) → IsGoodPlan plan
    → sender plan (suc turn) ≡ k
    → fate_of plan turn k ≡ Falling change since → fate_of plan (suc turn) k ≡ Fallen change since (suc turn)
falling-shown plan turn k since change good own is =
    fate-missed plan turn k (falling-apart plan turn k since change good is)
    (unsound-missed plan turn k good (ap is_sound_fate is))
    ∙ turned-own plan (suc turn) k (fate_of plan turn k) own ∙ ap (shown_in (suc turn)) is

-- A node is lost: nothing returns in that slot.

struck-next : (plan : FaultPlan) (turn k : ℕ) → IsGoodPlan plan → (is : IsStruck plan (suc turn) k)
    → fate_of plan (suc turn) k
    ≡ turned (sender plan (suc turn) == k) (suc turn) (Falling is.incident.change (suc turn))
struck-next plan turn k good is =
    next-same plan (suc turn) k (fate_of plan turn k) (false_from_ne_true (is_armed_by plan (suc turn) k) (λ armed.
    let both = sym is.found ∙ armed-quiet plan (suc turn) k good armed in cc))
    (false_from_ne_true (enters plan (suc turn) k) (λ entered.
    let both = sym is.found ∙ entry-quiet plan (suc turn) k good entered in cc))
    ∙ ap (turned (sender plan (suc turn) == k) (suc turn))
    (struck-same (suc turn) k (fate_of plan turn k) (incident_at plan (suc turn)) is.incident is.found is.node)

pub struck-falls : (plan : FaultPlan) (turn k : ℕ) → IsGoodPlan plan → (is : IsStruck plan (suc turn) k)
    → sender plan (suc turn) ≢ k → fate_of plan (suc turn) k ≡ Falling is.incident.change (suc turn)
struck-falls plan turn k good is other =
    struck-next plan turn k good is ∙ turned-other plan (suc turn) k (Falling is.incident.change (suc turn)) other

pub struck-shown : (plan : FaultPlan) (turn k : ℕ) → IsGoodPlan plan → (is : IsStruck plan (suc turn) k)
    → sender plan (suc turn) ≡ k → fate_of plan (suc turn) k ≡ Fallen is.incident.change (suc turn) (suc turn)
struck-shown plan turn k good is own =
    struck-next plan turn k good is ∙ turned-own plan (suc turn) k (Falling is.incident.change (suc turn)) own

-- it is the first own slot of a lost node
pub first-shown : (plan : FaultPlan) (turn since : ℕ) (change : Change)
    → fate_of plan turn (sender plan turn) ≡ Fallen change since turn → is_first_slot plan turn ≡ true
first-shown plan turn since change is = ap (is_shown_in turn) is ∙ eq-eqb turn turn refl

-- What a fate tells.

pub told-falling : (plan : FaultPlan) (turn k since : ℕ) (change : Change) → IsGoodPlan plan
    → fate_of plan turn k ≡ Falling change since → IsFalling plan turn k change since
told-falling plan turn k since change good is = subst (IsTold plan turn k) is (fate-told plan turn k good)

pub told-fallen : (plan : FaultPlan) (turn k since shown : ℕ) (change : Change) → IsGoodPlan plan
    → fate_of plan turn k ≡ Fallen change since shown → IsFallen plan turn k change since shown
told-fallen plan turn k since shown change good is = subst (IsTold plan turn k) is (fate-told plan turn k good)

-- Doubts.

-- A node k that lost since k's newest own slot, and has had a slot, is not the next sender.
pub doubt-apart : (plan : FaultPlan) (turn k y shown : ℕ) → IsGoodPlan plan → k < plan.nodes
    → sender plan (suc turn) ≢ k
    → (ledger_of plan turn k).own ≡ true → fate_of plan turn y ≡ Fallen Receiving (ledger_of plan turn k).base shown
    → y ≢ sender plan (suc turn)
doubt-apart plan turn k y shown good less other own is same =
    let ledger = ledger_of plan turn k in
    let told = told-fallen plan turn y ledger.base shown Receiving good is in
    let of_ledger = ledger-told plan turn k good less in
    let round : shown + plan.nodes ≤ suc turn =
    turns_apart plan shown (suc turn) (omega (arith, good.count)) (omega (arith, told.from)) (told.own ∙ same) in
    let at_base : shown ≡ ledger.base = omega (arith, round, of_ledger.near, told.from) in
    other (sym same ∙ sym told.own ∙ ap (sender plan) at_base ∙ of_ledger.owned own)

-- Turns of one node.

-- a round after its turn it is its turn again
pub round-turn : (plan : FaultPlan) (turn k : ℕ) → 0 < plan.nodes → k < plan.nodes → sender plan turn ≡ k
    → sender plan (turn + plan.nodes) ≡ k
round-turn plan turn k some less own =
    let next = next_turn plan (suc turn) k some less in
    let apart = turns_apart plan turn next.0 some (let from = next.1.0 in omega (arith, from)) (own ∙ sym next.1.2) in
    let same : next.0 ≡ turn + plan.nodes = omega (arith, next.1.0, next.1.1, apart) in
    ap (sender plan) (sym same) ∙ next.1.2

-- a node that lost a frame less than a round ago, and has had a slot since, may still stay
pub doubted-stays : (plan : FaultPlan) (turn k y shown : ℕ) → IsGoodPlan plan → k < plan.nodes
    → fate_of plan turn y ≡ Fallen Receiving (ledger_of plan turn k).base shown
    → may_stay plan.nodes turn (fate_of plan turn y) ≡ true
doubted-stays plan turn k y shown good less is =
    let told = told-fallen plan turn y (ledger_of plan turn k).base shown Receiving good is in
    let near = (ledger-told plan turn k good less).near in
    ap (may_stay plan.nodes turn) is ∙ lt-ltb turn (shown + plan.nodes) (omega (arith, near, told.from))
