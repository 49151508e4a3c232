-- A slot of a run's course: whom it makes faulty, and who hears whom in it.
use Rattle.safety_laws.proofs.PlanWords.{Bool, List, None, Option, Some, [], ap, arith, cond, false, inl, inr, length}
use Rattle.safety_laws.proofs.PlanWords.{mod-lt, refl, subst, sym, true, ℕ, ◌%◌, ◌++◌}
use Rattle.safety_laws.proofs.PlanWords.{◌+◌, ◌-◌, ◌<◌, ◌||◌, ◌∙◌, ◌∷◌, ◌≡◌}
use Rattle.safety_laws.proofs.PlanWords.{◌≢◌, ◌≤◌, and_from, and_parts, both_ways}
use Rattle.safety_laws.proofs.PlanWords.{cases_lt, eq-eqb, eqb-false, eqb-true}
use Rattle.safety_laws.proofs.PlanWords.{false_from_ne_true, le-leb, le-ltb, leb-true, lt-ltb, ne_eqb, not-true}
use Rattle.safety_laws.proofs.PlanWords.{not_from_false, or_cases, or_parts, none-some}
use Rattle.safety_laws.proofs.PlanWords.{same_Some, is_some, nat_lt, ◌==◌}
use Rattle.safety_laws.proofs.PlanWords.{has_node-sieve, has_node, each-sieve, has_node-append, Breaks, ClusterStart}
use Rattle.safety_laws.proofs.PlanWords.{FaultyNode, Harmless, Loss, Makes, expected_sender, is_breaking, is_other}
use Rattle.safety_laws.proofs.PlanWords.{jumpers_in, loses, loss_in, nodes_made, others_in, sender_loss, has_jump}
use Rattle.safety_laws.proofs.PlanWords.{is_ever_on, is_on, on_slot, Medl, Script}
use Rattle.safety_laws.proofs.PlanWords.{Incident, Jumping, Receiving, Sending}
use Rattle.safety_laws.proofs.PlanWords.{planned_incident}
use Rattle.std.proofs.lemmas.Bool.{or_from}
use Rattle.ttp_world.specs.Hypothesis.{jumps_now}
use Rattle.ttp_world.specs.Script.{has_come}
use Rattle.safety_laws.specs.Plan.{change_of}
use Rattle.safety_laws.proofs.Courses.{IsCourse, made_of}
use Rattle.safety_laws.proofs.Incidents.{incident_among, incident_made, incident-slot, makes-slot}
use Rattle.safety_laws.proofs.Losses.{IsMadeBy, each-member, loser-tells, made-by, one-member}

-- Nodes are switched on for good.

pub come-later : (slot later : ℕ) (on : Option ℕ) → slot ≤ later → has_come slot on ≡ true → has_come later on ≡ true
come-later slot later None after on = on
come-later slot later (Some at) after on = le-leb _ _ (omega (arith, leb-true _ _ on))

come-ever : (slot : ℕ) (on : Option ℕ) → has_come slot on ≡ true → is_some on ≡ true
come-ever slot None on = on
come-ever slot (Some at) on = refl

pub on-ever : (script : Script) (k slot : ℕ) → is_on script k slot ≡ true → is_ever_on script k ≡ true
on-ever script k slot on = come-ever slot (on_slot script k) on

-- The words of a slot, where some nodes are faulty at its beginning.

-- the faulty once clocks have jumped
abbrev pub fallen_in : Medl → Script → List ℕ → ℕ → List ℕ
fallen_in list script faulty slot = jumpers_in list script faulty slot ++ faulty

-- a clock that jumps
pub record IsJumper (list : Medl) (script : Script) (faulty : List ℕ) (slot k : ℕ) : Type 0 where
  pub less : k < length list.slots
  pub on : is_on script k slot ≡ true
  pub was : has_node faulty k ≡ false
  pub jumps : has_jump script k slot ≡ true

-- how a node is made faulty
pub data Origin (list : Medl) (script : Script) (start : ClusterStart) (faulty : List ℕ) (slot k : ℕ) : Type 0 where
  ByJump : (jumper : IsJumper list script faulty slot k) → Origin list script start faulty slot k
  ByLoss : (made : IsMadeBy list script (fallen_in list script faulty slot) slot (expected_sender list start slot) k)
      → Origin list script start faulty slot k

-- the node that is made faulty was sound
pub record WasSound (list : Medl) (script : Script) (faulty : List ℕ) (k : ℕ) : Type 0 where
  pub less : k < length list.slots
  pub ever : is_ever_on script k ≡ true
  pub none : has_node faulty k ≡ false

-- a node that is not faulty after the slot
pub record IsClear (list : Medl) (script : Script) (start : ClusterStart) (faulty : List ℕ) (slot k : ℕ) : Type 0 where
  pub ever : is_ever_on script k ≡ true
  pub lost : has_node (nodes_made (loss_in list script start faulty slot)) k ≡ false
  pub jumper : has_node (jumpers_in list script faulty slot) k ≡ false
  pub was : has_node faulty k ≡ false
  pub fallen : has_node (fallen_in list script faulty slot) k ≡ false

-- the node that a slot makes faulty
pub record IsMadeIn (list : Medl) (script : Script) (start : ClusterStart) (faulty : List ℕ) (slot : ℕ)
    (incident : Incident) : Type 0 where
  pub only : made_of list script start faulty slot ≡ incident.node ∷ []
  pub change : incident.change ≡ change_of list script start (record { slot = slot; node = incident.node })
  pub has : has_node (made_of list script start faulty slot) incident.node ≡ true

made-makes : (loss : Loss) (k : ℕ) → has_node (nodes_made loss) k ≡ true → loss ≡ Makes k
made-makes Harmless k has = absurd (both_ways _ refl has)
made-makes (Makes j) k has = ap Makes (one-member j k has)
made-makes Breaks k has = absurd (both_ways _ refl has)

made-itself : (loss : Loss) (k : ℕ) → loss ≡ Makes k → has_node (nodes_made loss) k ≡ false → ⊥
made-itself loss k is none =
    let same : (k == k) ≡ true = eq-eqb _ _ refl in
    both_ways _ none (ap (λ l. has_node (nodes_made l) k) is ∙ ap (λ b. b || false) same)

-- The change of an incident.

pub sending-is : (jumps own : Bool) → cond jumps Jumping (cond own Sending Receiving) ≡ Sending
    → (jumps ≡ false) × (own ≡ true)
sending-is true own is = cc
sending-is false true is = (refl, refl)
sending-is false false is = cc

pub receiving-is : (jumps own : Bool) → cond jumps Jumping (cond own Sending Receiving) ≡ Receiving
    → (jumps ≡ false) × (own ≡ false)
receiving-is true own is = cc
receiving-is false true is = cc
receiving-is false false is = (refl, refl)

pub jumping-is : (jumps own : Bool) → cond jumps Jumping (cond own Sending Receiving) ≡ Jumping → jumps ≡ true
jumping-is true own is = refl
jumping-is false true is = cc
jumping-is false false is = cc

-- A slot of the run.

module _ {list : Medl} {script : Script} {start : ClusterStart} {at : ℕ → List ℕ} {all : ℕ → List FaultyNode}
    (course : IsCourse list script start at all) (slot : ℕ) where
  -- whose slot it is
  abbrev e : ℕ
  e = expected_sender list start slot

  abbrev away : List ℕ
  away = fallen_in list script (at slot) slot

  abbrev IsClearNow : ℕ → Type 0
  IsClearNow k = IsClear list script start (at slot) slot k

  pub sender-less : expected_sender list start slot < length list.slots
  sender-less = mod-lt (start.node + (slot - start.slot)) (omega (arith, course.valid.count))

  pub on-now : (k : ℕ) → start.slot ≤ slot → k < length list.slots → is_ever_on script k ≡ true
      → is_on script k slot ≡ true
  on-now k from less ever = come-later start.slot slot (on_slot script k) from (course.on k less ever)

  loss-asked : start.slot ≤ slot → loss_in list script start (at slot) slot ≡ sender_loss list script away slot e
  loss-asked from = let late : nat_lt slot start.slot ≡ false = le-ltb _ _ from in rw late

  -- Whom it makes faulty.

  jumper-is : (k : ℕ) → has_node (jumpers_in list script (at slot) slot) k ≡ true
      → IsJumper list script (at slot) slot k
  jumper-is k has =
      let passes = jumps_now script (at slot) slot in
      let found =
      each-member (λ j. (j < length list.slots) × (passes j ≡ true)) (jumpers_in list script (at slot) slot) k
      (each-sieve passes (length list.slots)) has in
      let on = and_parts _ _ found.1 in
      let rest = and_parts _ _ on.1 in
      record { less = found.0; on = on.0; was = not-true _ rest.0; jumps = rest.1 }

  pub origin-of : (k : ℕ) → has_node (made_of list script start (at slot) slot) k ≡ true
      → Origin list script start (at slot) slot k
  origin-of k has =
      elim (or_cases _ _ (sym (has_node-append (nodes_made (loss_in list script start (at slot) slot))
      (jumpers_in list script (at slot) slot) k) ∙ has)) [
        | inl lost ↦
            let is = made-makes (loss_in list script start (at slot) slot) k lost in
            elim (cases_lt slot start.slot) [
              | inl early ↦
                  let before : nat_lt slot start.slot ≡ true = lt-ltb _ _ early in
                  absurd (harmless-makes (sym (rw before) ∙ is))
              | inr late ↦ ByLoss (made-by list script away slot e k (sym (loss-asked late) ∙ is))
            ]
        | inr jumps ↦ ByJump (jumper-is k jumps)
      ]
    where
      harmless-makes : Harmless ≡ Makes k → ⊥
      harmless-makes is = cc

  pub fallen-none : (k : ℕ) → has_node (fallen_in list script (at slot) slot) k ≡ false → has_node (at slot) k ≡ false
  fallen-none k none =
      (or_parts _ _ (sym (has_node-append (jumpers_in list script (at slot) slot) (at slot) k) ∙ none)).1

  pub was-sound : (k : ℕ) → Origin list script start (at slot) slot k → WasSound list script (at slot) k
  was-sound k (ByJump jumper) = record { less = jumper.less; ever = on-ever script k slot jumper.on; none = jumper.was }
  was-sound k (ByLoss made) = elim made.how [
    | inl all ↦
        record {
          less = subst (λ j. j < length list.slots) (sym all.0) sender-less;
          ever = ap (is_ever_on script) all.0 ∙ made.on;
          none = ap (has_node (at slot)) all.0 ∙ fallen-none e made.sound;
        }
    | inr one ↦
        let parts = and_parts _ _ one.1 in
        let rest = and_parts _ _ parts.1 in
        record {
          less = one.0;
          ever = on-ever script k slot parts.0;
          none = fallen-none k (not-true _ rest.0);
        }
  ]

  pub made-was : (k : ℕ) → has_node (made_of list script start (at slot) slot) k ≡ true
      → WasSound list script (at slot) k
  made-was k has = was-sound k (origin-of k has)

  -- one that does not jump
  pub unless-jumping : (k : ℕ) → has_jump script k slot ≡ false → Origin list script start (at slot) slot k
      → IsMadeBy list script (fallen_in list script (at slot) slot) slot (expected_sender list start slot) k
  unless-jumping k none (ByJump jumper) = absurd (both_ways _ none jumper.jumps)
  unless-jumping k none (ByLoss made) = made

  -- Nodes that are not faulty after it.

  pub clear-after : (k : ℕ) → is_ever_on script k ≡ true → has_node (made_of list script start (at slot) slot) k ≡ false
      → has_node (at slot) k ≡ false → IsClear list script start (at slot) slot k
  clear-after k ever made was =
      let both = or_parts _ _ (sym (has_node-append (nodes_made (loss_in list script start (at slot) slot))
      (jumpers_in list script (at slot) slot) k) ∙ made) in
      record {
        ever = ever;
        lost = both.0;
        jumper = both.1;
        was = was;
        fallen = has_node-append (jumpers_in list script (at slot) slot) (at slot) k ∙ or_from _ _ both.1 was;
      }

  clear-other : (k : ℕ) → start.slot ≤ slot → k < length list.slots → k ≢ e → IsClearNow k
      → is_other script away e slot k ≡ true
  clear-other k from less other clear =
      and_from _ _ (on-now k from less clear.ever)
      (and_from _ _ (not_from_false _ clear.fallen) (not_from_false _ (ne_eqb _ _ other)))

  -- one that loses the frame of another makes one of the two faulty
  pub clear-loses : (r : ℕ) → start.slot ≤ slot → slot < script.slots → r < length list.slots
      → r ≢ expected_sender list start slot → IsClear list script start (at slot) slot (expected_sender list start slot)
      → IsClear list script start (at slot) slot r → loses script (expected_sender list start slot) slot r ≡ false
  clear-loses r from within less other sends hears =
      let asked = loss-asked from in
      false_from_ne_true _ (λ lost.
      elim (loser-tells list script away slot e r sends.ever sends.fallen less
      (clear-other r from less other hears) lost (ap is_breaking (sym asked) ∙ course.whole slot within)) [
        | inl all ↦ made-itself (loss_in list script start (at slot) slot) e (asked ∙ all) sends.lost
        | inr one ↦ made-itself (loss_in list script start (at slot) slot) r (asked ∙ one) hears.lost
      ])

  pub clear-still : (r : ℕ) → start.slot ≤ slot → r < length list.slots → IsClear list script start (at slot) slot r
      → has_jump script r slot ≡ false
  clear-still r from less clear =
      let none : jumps_now script (at slot) slot r ≡ false =
      sym (has_node-sieve (jumps_now script (at slot) slot) (length list.slots) r less) ∙ clear.jumper in
      false_from_ne_true _ (λ jumps. both_ways _ none
      (and_from _ _ (on-now r from less clear.ever) (and_from _ _ (not_from_false _ clear.was) jumps)))

  -- The node that it makes faulty.

  -- one that is clear is not that node
  clear-made : (r : ℕ) (incident : Incident) → IsMadeIn list script start (at slot) slot incident → IsClearNow r
      → incident.node ≢ r
  clear-made r incident is clear same =
      both_ways _ (has_node-append (nodes_made (loss_in list script start (at slot) slot))
      (jumpers_in list script (at slot) slot) r ∙ or_from _ _ clear.lost clear.jumper)
      (ap (has_node (made_of list script start (at slot) slot)) (sym same) ∙ is.has)

  clear-unheard : (r : ℕ) (incident : Incident) → start.slot ≤ slot → r < length list.slots → e ≡ incident.node
      → IsMadeIn list script start (at slot) slot incident → IsMadeBy list script away slot e incident.node
      → IsClearNow r → loses script e slot r ≡ true
  clear-unheard r incident from less own is by clear = elim by.how [
    | inl all ↦
        each-member (λ j. loses script e slot j ≡ true) (others_in list script away e slot) r all.1
        (has_node-sieve (is_other script away e slot) (length list.slots) r less
        ∙ clear-other r from less (λ same. clear-made r incident is clear (sym own ∙ sym same)) clear)
    | inr one ↦
        let apart = and_parts _ _ (and_parts _ _ one.1).1 in
        absurd (eqb-false _ _ (not-true _ apart.1) (sym own))
  ]

  deaf-by : (k : ℕ) → (e == k) ≡ false → IsMadeBy list script away slot e k → loses script e slot k ≡ true
  deaf-by k other by = elim by.how [
    | inl all ↦ absurd (eqb-false _ _ other (sym all.0))
    | inr one ↦ one.2
  ]

  made-is : (k : ℕ) (incident : Incident) → made_of list script start (at slot) slot ≡ k ∷ []
      → planned_incident list script start (record { slot = slot; node = k }) ≡ incident
      → IsMadeIn list script start (at slot) slot incident
  made-is k incident only is =
      let same : k ≡ incident.node = ap (λ (i : Incident). i.node) is in
      record {
        only = only ∙ ap (λ j. j ∷ []) same;
        change = sym (ap (λ (i : Incident). i.change) is)
            ∙ ap (λ j. change_of list script start (record { slot = slot; node = j })) same;
        has = ap (λ ks. has_node ks incident.node) only ∙ ap (λ b. b || false) (eq-eqb _ _ same);
      }

  -- Its incident, by the plan.

  module _ (turn : ℕ) (now : slot ≡ start.slot + turn) (within : slot < script.slots) where
    -- whose slot it is by the plan
    abbrev turned : ℕ
    turned = (start.node + turn) % length list.slots

    pub sender-same : expected_sender list start slot ≡ (start.node + turn) % length list.slots
    sender-same =
        let turns : slot - start.slot ≡ turn = omega arith in
        ap (λ t. (start.node + t) % length list.slots) turns

    module _ (incident : Incident)
        (found : incident_among list script start turn (all script.slots) ≡ Some incident) where
      pub incident-made : IsMadeIn list script start (at slot) slot incident
      incident-made =
          let made_is : incident_made list script start slot (made_of list script start (at slot) slot) ≡ Some
          incident =
          sym (incident-slot course turn slot now within) ∙ found in
          elim (makes-slot course slot within) [
            | inl none ↦ absurd (none-some _ (sym (ap (incident_made list script start slot) none) ∙ made_is))
            | inr one ↦
                made-is one.0 incident one.1.only
                (same_Some _ _ (sym (ap (incident_made list script start slot) one.1.only) ∙ made_is))
          ]

      pub incident-origin : Origin list script start (at slot) slot incident.node
      incident-origin = origin-of incident.node incident-made.has

      pub jumps-in : incident.change ≡ Jumping → has_jump script incident.node slot ≡ true
      jumps-in jumping =
          jumping-is (has_jump script incident.node slot) (e == incident.node) (sym incident-made.change ∙ jumping)

      pub deaf-in : incident.change ≡ Receiving
          → loses script ((start.node + turn) % length list.slots) slot incident.node ≡ true
      deaf-in receiving =
          let parts = receiving-is (has_jump script incident.node slot) (e == incident.node)
          (sym incident-made.change ∙ receiving) in
          subst (λ e. loses script e slot incident.node ≡ true) sender-same
          (deaf-by incident.node parts.1 (unless-jumping incident.node parts.0 incident-origin))

      pub unheard-in : (r : ℕ) → r < length list.slots → incident.change ≡ Sending
          → IsClear list script start (at slot) slot r
          → loses script ((start.node + turn) % length list.slots) slot r ≡ true
      unheard-in r less sending clear =
          let parts = sending-is (has_jump script incident.node slot) (e == incident.node)
          (sym incident-made.change ∙ sending) in
          subst (λ e. loses script e slot r ≡ true) sender-same
          (clear-unheard r incident (omega arith) less (eqb-true _ _ parts.1) incident-made
          (unless-jumping incident.node parts.0 incident-origin) clear)
