-- The plan of a run's course is good, and the script keeps to it, where it does so slot by slot.
use Rattle.safety_laws.proofs.PlanWords.{Bool, List, None, Option, Some, [], ap, arith}
use Rattle.safety_laws.proofs.PlanWords.{cond, false, length, map, refl, suc}
use Rattle.safety_laws.proofs.PlanWords.{sym, true, ℕ, ◌*◌, ◌+◌, ◌-◌, ◌<◌, ◌∙◌, ◌≡◌, ◌≢◌, ◌≤◌, eqb-false, eqb-true}
use Rattle.safety_laws.proofs.PlanWords.{none-some, Contains, filter, is_some, ◌==◌}
use Rattle.safety_laws.proofs.PlanWords.{has_node-sieve, has_node, ClusterStart}
use Rattle.safety_laws.proofs.PlanWords.{FaultyNode, expected_sender, loses, plan_at}
use Rattle.safety_laws.proofs.PlanWords.{two_rounds, flipped_bits, has_jump}
use Rattle.safety_laws.proofs.PlanWords.{is_ever_on, is_on, on_slot, Medl, Channel}
use Rattle.safety_laws.proofs.PlanWords.{Script, is_sound_after, steady_nodes}
use Rattle.safety_laws.proofs.PlanWords.{IsGoodPlan, FollowsPlan, IsHeardByPlan, IsWithinBounds}
use Rattle.safety_laws.proofs.PlanWords.{Incident, FaultPlan, Return}
use Rattle.safety_laws.proofs.PlanWords.{incident_at, planned_incident, sender}
use Rattle.std.proofs.Common.{option_map}
use Rattle.ttp_world.proofs.Lists.{nodes-most}
use Rattle.ttp_world.specs.Hypothesis.{nodes_of}
use Rattle.ttp_world.specs.Medl.{may_start}
use Rattle.safety_laws.specs.GoodPlan.{IsLossAfter, IsReturn}
use Rattle.safety_laws.specs.Kept.{IsOffered}
use Rattle.safety_laws.proofs.Courses.{AreOnBy, IsCourse}
use Rattle.safety_laws.proofs.PlanHearing.{come-later, on-ever, receiving-is, sending-is, unless-jumping, fallen-none}
use Rattle.safety_laws.proofs.PlanHearing.{sender-less, was-sound, incident-made, incident-origin, sender-same}
use Rattle.safety_laws.proofs.Incidents.{apart-found, found-within, late-found}
use Rattle.safety_laws.proofs.Members.{first-good, first-sender}
use Rattle.safety_laws.proofs.Persists.{sound-first}

-- the plan of some faulty nodes and returns
abbrev pub plan_with : Medl → Script → ClusterStart → List FaultyNode → List Return → FaultPlan
plan_with list script start faulty returns = record {
  nodes = length list.slots;
  starter = start.node;
  slots = script.slots - start.slot;
  begin = filter (is_ever_on script) (nodes_of list);
  measured = filter (λ k. (plan_at list k).sync) (nodes_of list);
  incidents = map (planned_incident list script start) faulty;
  returns = returns;
}

same-on : (ever on : Bool) → (ever ≡ true → on ≡ true) → (on ≡ true → ever ≡ true) → ever ≡ on
same-on true true later back = refl
same-on true false later back = sym (later refl)
same-on false true later back = back refl
same-on false false later back = refl

pub on-always : (list : Medl) (script : Script) (start : ClusterStart) (turn k : ℕ) → AreOnBy list script start.slot
    → k < length list.slots → is_ever_on script k ≡ is_on script k (start.slot + turn)
on-always list script start turn k by less =
    let slot = start.slot + turn in
    same-on (is_ever_on script k) (is_on script k slot)
    (λ ever. come-later start.slot slot (on_slot script k) (omega arith) (by k less ever)) (on-ever script k slot)

pub due-ever : (may : Bool) (on : Option ℕ) (size k slot : ℕ)
    → cond may (option_map (λ on. on + 2 * size + k) on) None ≡ Some slot → is_some on ≡ true
due-ever true None size k slot due = absurd (none-some _ due)
due-ever true (Some at) size k slot due = refl
due-ever false on size k slot due = absurd (none-some _ due)

pub enough : (b : Bool) (found : Option ℕ) (slot : ℕ) → cond b found (Some slot) ≡ None → (b ≡ true) × (found ≡ None)
enough true found slot none = (refl, none)
enough false found slot none = absurd (none-some _ (sym none))

module _ {list : Medl} {script : Script} {start : ClusterStart} {at : ℕ → List ℕ} {all : ℕ → List FaultyNode}
    (course : IsCourse list script start at all) (returns : List Return) where
  abbrev plan : FaultPlan
  plan = plan_with list script start (all script.slots) returns

  loss-after : (turn : ℕ) (incident : Incident) → ((slot k : ℕ) → slot ≡ start.slot + turn → suc slot < script.slots
      → k < length list.slots → is_ever_on script k ≡ true → has_node (at (suc slot)) k ≡ false
      → is_sound_after plan turn k
      ≡ true) → incident_at plan (suc turn) ≡ Some incident → IsLossAfter plan turn incident
  loss-after turn incident sound found =
      let slot = start.slot + turn in
      let k = incident.node in
      let e = expected_sender list start (suc slot) in
      let next : suc slot ≡ start.slot + suc turn = omega arith in
      let last = found-within course (suc turn) incident found in
      let within : suc slot < script.slots = omega (arith, last) in
      let made = incident-made course (suc slot) (suc turn) next within incident found in
      let origin = incident-origin course (suc slot) (suc turn) next within incident found in
      let was = was-sound course (suc slot) k origin in
      let same : e ≡ sender plan (suc turn) = sender-same course (suc slot) (suc turn) next within in
      record {
        node = was.less;
        was = sound slot k refl within was.less was.ever was.none;
        sending = λ sending.
            sym same ∙ eqb-true e k (sending-is (has_jump script k (suc slot)) (e == k) (sym made.change ∙ sending)).1;
        receiving = λ receiving.
            let parts = receiving-is (has_jump script k (suc slot)) (e == k) (sym made.change ∙ receiving) in
            let by = unless-jumping course (suc slot) k parts.0 origin in (
              λ at. eqb-false e k parts.1 (same ∙ at),
              ap (is_sound_after plan turn) (sym same) ∙ sound slot e refl within (sender-less course (suc slot)) by.on
                  (fallen-none course (suc slot) e by.sound),
            );
      }

  -- it is good where nodes that are not faulty at the beginning of a slot are sound by it
  pub good-by : ((turn slot k : ℕ) → slot ≡ start.slot + turn → suc slot < script.slots → k < length list.slots
      → is_ever_on script k ≡ true → has_node (at (suc slot)) k ≡ false
      → is_sound_after (plan_with list script start (all script.slots) returns) turn k ≡ true)
      → ((r : Return) → Contains returns r → IsReturn (plan_with list script start (all script.slots) returns) r)
      → ((turn : ℕ) → start.slot + turn < script.slots
      → 4 ≤ length (steady_nodes (plan_with list script start (all script.slots) returns) turn))
      → IsGoodPlan (plan_with list script start (all script.slots) returns)
  good-by sound back steady = record {
    count = (course.valid.count.0, nodes-most list course.valid);
    starter = (
      course.alone.node,
      has_node-sieve (is_ever_on script) (length list.slots) start.node course.alone.node
          ∙ due-ever (may_start list start.node) (on_slot script start.node) (length list.slots) start.node start.slot
          course.alone.due,
    );
    late = λ slot incident found.
        late-found list script start (two_rounds list) slot incident (all script.slots) course.spaced found;
    apart = λ slot later first second found next less.
        apart-found list script start (two_rounds list) slot later first second (all script.slots) course.spaced less
        found next;
    losses = λ turn incident found. loss-after turn incident (sound turn) found;
    returns = back;
    steady = λ turn less. steady turn (omega arith);
  }

  pub follows-by : IsGoodPlan (plan_with list script start (all script.slots) returns)
      → ((k slot : ℕ) (c : Channel) → flipped_bits script k c slot ≡ []) → IsWithinBounds list script
      → ((turn : ℕ) → start.slot + turn < script.slots
      → IsHeardByPlan script start (plan_with list script start (all script.slots) returns) turn)
      → ((r : Return) → Contains returns r
      → IsOffered list (plan_with list script start (all script.slots) returns) r)
      → FollowsPlan list script start (plan_with list script start (all script.slots) returns)
  follows-by good flips bounds hearing offered = record {
    good = good;
    flips = flips;
    nodes = refl;
    starter = refl;
    slots = refl;
    measured = λ k less. has_node-sieve (λ k. (plan_at list k).sync) (length list.slots) k less;
    on = λ turn k less.
        has_node-sieve (is_ever_on script) (length list.slots) k less
        ∙ on-always list script start turn k course.on less;
    hearing = hearing;
    returns = offered;
    clocks = λ turn k less within sound.
        bounds.still k (start.slot + turn) ((hearing turn within).still k less sound);
  }

-- the cold start is heard
pub start-heard : (list : Medl) (script : Script) (start : ClusterStart) (plan : FaultPlan) (k : ℕ)
    → FollowsPlan list script start plan → start.slot < script.slots → k < length list.slots → k ≢ start.node
    → is_on script k start.slot ≡ true → loses script start.node start.slot k ≡ false
start-heard list script start plan k follows within less other on =
    let here : start.slot + 0 ≡ start.slot = omega arith in
    let first : sender plan 0 ≡ start.node = first-sender plan follows.good ∙ follows.starter in
    (λ i. loses script (sym first i) (sym here i) k)
    ∙ (follows.hearing 0 (omega arith)).heard k (omega (arith, follows.nodes)) (λ same. other (same ∙ first))
    (first-good plan follows.good)
    (sound-first plan k follows.good ∙ follows.on 0 k less ∙ ap (is_on script k) here ∙ on)
