-- What a slot makes of a fate.
use Rattle.safety_laws.proofs.PlanWords.{◌≡◌, ℕ, Bool, true, false, cond, not, ◌&&◌}
use Rattle.safety_laws.proofs.PlanWords.{◌||◌, Option, Some, None, refl, ap, sym}
use Rattle.safety_laws.proofs.PlanWords.{◌∙◌, both_ways, and_parts, ◌==◌, Change, Incident}
use Rattle.safety_laws.proofs.PlanWords.{FaultPlan, sender, incident_at}
use Rattle.safety_laws.proofs.PlanWords.{is_armed_by, enters, Fate, Absent, Sound, Falling, Fallen, Listening, struck}
use Rattle.safety_laws.proofs.PlanWords.{turned, next_fate, is_sound_fate, is_lost, lost_since, and-true}
use Rattle.safety_laws.specs.Fates.{armed_in, entered_in}

-- an incident is that of a node
abbrev pub strikes : Option Incident → ℕ → Bool
strikes None k = false
strikes (Some incident) k = incident.node == k

-- a fault of another node leaves it as it is
pub struck-missed : (slot k : ℕ) (fate : Fate) (found : Option Incident) → strikes found k ≡ false
    → struck slot k fate found ≡ fate
struck-missed slot k fate None missed = refl
struck-missed slot k fate (Some incident) missed = rw missed refl

-- what is read alike of a lost node, whether its own slot has come or not, is the same once it has
pub turned-same : {X : Type 0} (read : Fate → X) (own : Bool) (slot : ℕ) (fate : Fate)
    → ((change : Change) (since shown : ℕ) → read (Fallen change since shown) ≡ read (Falling change since))
    → read (turned own slot fate) ≡ read fate
turned-same read true slot Absent alike = refl
turned-same read true slot Sound alike = refl
turned-same read true slot (Falling change since) alike = alike change since slot
turned-same read true slot (Fallen change since shown) alike = refl
turned-same read true slot (Listening since) alike = refl
turned-same read false slot fate alike = refl

-- the fate of a sound node
pub sound-fate : (fate : Fate) → is_sound_fate fate ≡ true → fate ≡ Sound
sound-fate Sound sound = refl
sound-fate Absent sound = absurd (both_ways _ refl sound)
sound-fate (Falling change since) sound = absurd (both_ways _ refl sound)
sound-fate (Fallen change since shown) sound = absurd (both_ways _ refl sound)
sound-fate (Listening since) sound = absurd (both_ways _ refl sound)

sound-hit : (hit : Bool) (change : Change) (slot : ℕ) (fate : Fate)
    → is_sound_fate (cond hit (Falling change slot) fate) ≡ (is_sound_fate fate && not hit)
sound-hit true change slot Absent = refl
sound-hit true change slot Sound = refl
sound-hit true change slot (Falling c since) = refl
sound-hit true change slot (Fallen c since shown) = refl
sound-hit true change slot (Listening since) = refl
sound-hit false change slot Absent = refl
sound-hit false change slot Sound = refl
sound-hit false change slot (Falling c since) = refl
sound-hit false change slot (Fallen c since shown) = refl
sound-hit false change slot (Listening since) = refl

lost-hit : (hit : Bool) (change : Change) (slot : ℕ) (fate : Fate)
    → is_lost (cond hit (Falling change slot) fate) ≡ (hit || is_lost fate)
lost-hit true change slot fate = refl
lost-hit false change slot fate = refl

sound-struck : (slot k : ℕ) (fate : Fate) (found : Option Incident)
    → is_sound_fate (struck slot k fate found) ≡ (is_sound_fate fate && not (strikes found k))
sound-struck slot k fate None = and-true (is_sound_fate fate)
sound-struck slot k fate (Some incident) = sound-hit (incident.node == k) incident.change slot fate

lost-struck : (slot k : ℕ) (fate : Fate) (found : Option Incident)
    → is_lost (struck slot k fate found) ≡ (strikes found k || is_lost fate)
lost-struck slot k fate None = refl
lost-struck slot k fate (Some incident) = lost-hit (incident.node == k) incident.change slot fate

-- A node that neither listens again from a slot on nor enters in it is as the incident and its turn make it.
pub next-same : (plan : FaultPlan) (slot k : ℕ) (fate : Fate) → is_armed_by plan slot k ≡ false
    → enters plan slot k ≡ false
    → next_fate plan slot k fate ≡ turned (sender plan slot == k) slot (struck slot k fate (incident_at plan slot))
next-same plan slot k fate armed entered =
    λ i. turned (sender plan slot == k) slot
    (entered_in (entered i) (struck slot k (armed_in (armed i) slot fate) (incident_at plan slot)))

turned-sound : (own : Bool) (slot : ℕ) → turned own slot Sound ≡ Sound
turned-sound true slot = refl
turned-sound false slot = refl

-- one that enters is sound
pub next-entered : (plan : FaultPlan) (slot k : ℕ) (fate : Fate) → enters plan slot k ≡ true
    → next_fate plan slot k fate ≡ Sound
next-entered plan slot k fate entered =
    ap (λ b. turned (sender plan slot == k) slot
    (entered_in b (struck slot k (armed_in (is_armed_by plan slot k) slot fate) (incident_at plan slot)))) entered
    ∙ turned-sound (sender plan slot == k) slot

turned-listening : (own : Bool) (slot since : ℕ) → turned own slot (Listening since) ≡ Listening since
turned-listening true slot since = refl
turned-listening false slot since = refl

-- one that is armed listens
pub next-armed : (plan : FaultPlan) (slot k : ℕ) (fate : Fate) → is_armed_by plan slot k ≡ true
    → enters plan slot k ≡ false
    → incident_at plan slot ≡ None → next_fate plan slot k fate ≡ Listening slot
next-armed plan slot k fate armed entered quiet =
    (λ i. turned (sender plan slot == k) slot
    (entered_in (entered i) (struck slot k (armed_in (armed i) slot fate) (quiet i))))
    ∙ turned-listening (sender plan slot == k) slot slot

-- and goes on to
pub next-listening : (plan : FaultPlan) (slot k since : ℕ) → is_armed_by plan slot k ≡ false
    → enters plan slot k ≡ false
    → incident_at plan slot ≡ None → next_fate plan slot k (Listening since) ≡ Listening since
next-listening plan slot k since armed entered quiet =
    (λ i. turned (sender plan slot == k) slot
    (entered_in (entered i) (struck slot k (armed_in (armed i) slot (Listening since)) (quiet i))))
    ∙ turned-listening (sender plan slot == k) slot since

pub sound-next : (plan : FaultPlan) (slot k : ℕ) (fate : Fate) → is_armed_by plan slot k ≡ false
    → enters plan slot k ≡ false
    → is_sound_fate (next_fate plan slot k fate) ≡ (is_sound_fate fate && not (strikes (incident_at plan slot) k))
sound-next plan slot k fate armed entered =
    ap is_sound_fate (next-same plan slot k fate armed entered)
    ∙ turned-same is_sound_fate (sender plan slot == k) slot (struck slot k fate (incident_at plan slot))
    (λ change since shown. refl) ∙ sound-struck slot k fate (incident_at plan slot)

-- only an entry makes a node sound
pub sound-from : (plan : FaultPlan) (slot k : ℕ) (fate : Fate) → enters plan slot k ≡ false
    → is_sound_fate (next_fate plan slot k fate) ≡ true → is_sound_fate fate ≡ true
sound-from plan slot k fate entered sound = by (is_armed_by plan slot k) refl
  where
    by : (armed : Bool) → is_armed_by plan slot k ≡ armed → is_sound_fate fate ≡ true
    by true armed =
        let listens = struck slot k (Listening slot) (incident_at plan slot) in
        absurd (both_ways _ (sound-struck slot k (Listening slot) (incident_at plan slot))
        (sym (turned-same is_sound_fate (sender plan slot == k) slot listens (λ change since shown. refl))
        ∙ (λ i. is_sound_fate (turned (sender plan slot == k) slot
        (entered_in (sym entered i) (struck slot k (armed_in (sym armed i) slot fate) (incident_at plan slot)))))
        ∙ sound))
    by false armed = (and_parts _ _ (sym (sound-next plan slot k fate armed entered) ∙ sound)).0

pub lost-next : (plan : FaultPlan) (slot k : ℕ) (fate : Fate) → is_armed_by plan slot k ≡ false
    → enters plan slot k ≡ false
    → is_lost (next_fate plan slot k fate) ≡ (strikes (incident_at plan slot) k || is_lost fate)
lost-next plan slot k fate armed entered =
    ap is_lost (next-same plan slot k fate armed entered)
    ∙ turned-same is_lost (sender plan slot == k) slot (struck slot k fate (incident_at plan slot))
    (λ change since shown. refl) ∙ lost-struck slot k fate (incident_at plan slot)

since-struck : (slot k : ℕ) (fate : Fate) (found : Option Incident) → strikes found k ≡ false
    → lost_since (struck slot k fate found) ≡ lost_since fate
since-struck slot k fate None missed = refl
since-struck slot k fate (Some incident) missed = rw missed

since-hit : (slot k : ℕ) (fate : Fate) (found : Option Incident) → strikes found k ≡ true
    → lost_since (struck slot k fate found) ≡ Some slot
since-hit slot k fate None hit = cc
since-hit slot k fate (Some incident) hit = rw hit

pub since-kept : (plan : FaultPlan) (slot k : ℕ) (fate : Fate) → is_armed_by plan slot k ≡ false
    → enters plan slot k ≡ false
    → strikes (incident_at plan slot) k ≡ false → lost_since (next_fate plan slot k fate) ≡ lost_since fate
since-kept plan slot k fate armed entered missed =
    ap lost_since (next-same plan slot k fate armed entered)
    ∙ turned-same lost_since (sender plan slot == k) slot (struck slot k fate (incident_at plan slot))
    (λ change since shown. refl) ∙ since-struck slot k fate (incident_at plan slot) missed

pub since-now : (plan : FaultPlan) (slot k : ℕ) (fate : Fate) → is_armed_by plan slot k ≡ false
    → enters plan slot k ≡ false
    → strikes (incident_at plan slot) k ≡ true → lost_since (next_fate plan slot k fate) ≡ Some slot
since-now plan slot k fate armed entered hit =
    ap lost_since (next-same plan slot k fate armed entered)
    ∙ turned-same lost_since (sender plan slot == k) slot (struck slot k fate (incident_at plan slot))
    (λ change since shown. refl) ∙ since-hit slot k fate (incident_at plan slot) hit
