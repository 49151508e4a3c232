-- A node that listens in a turn: it waits, or it enters by the frame of a sound node and is sound.
use Rattle.safety_laws.proofs.Words.{◌≡◌, ℕ, suc, ◌+◌, ◌<◌, Bool, true, false, List, length, refl, ap, sym, subst, ◌∙◌}
use Rattle.safety_laws.proofs.Words.{arith, inl, inr, both_ways, false≢true, lt-ltb, with_node, Kind, Medl, Script}
use Rattle.safety_laws.proofs.Words.{is_open, Place, next_place, header_of, is_explicit, ClusterStart, loses, NodePast}
use Rattle.safety_laws.proofs.Words.{expected_header, SlotNumbers, Numbers, messages_chosen, world, node_past}
use Rattle.safety_laws.proofs.Words.{FaultPlan, sender, enters, is_armed_by, Fate, Absent, Sound, Falling, Fallen}
use Rattle.safety_laws.proofs.Words.{Listening, fate_of, is_sound_fate, is_good_slot, may_stay, is_lost, Ledger, opened}
use Rattle.safety_laws.proofs.Words.{planned_members, planned_place, strikes, next-entered, sound-fate, entry-is}
use Rattle.safety_laws.proofs.Words.{entry-good, armed-lost, entry-from, HearsPlace, next_past, StandsBy, joined_on}
use Rattle.safety_laws.proofs.Words.{joined_standing, doubts, IsCounted, IsListeningAt, IsByFate, IsTurn, nat_lt}
use Rattle.ttp_world.specs.declared.medl.Kind.TheVariants as kind
use Rattle.ttp_world.specs.declared.node.Ack.TheVariants as ack
use Rattle.ttp_world.specs.Returning.{carries_place}
use Rattle.safety_laws.specs.Kept.{kind_in}
use Rattle.safety_laws.specs.NodeSlot.{slot_place}
use Rattle.safety_laws.proofs.Listening.{around-silent, frame-silent, waited-none, waited-passing, joined-place}
use Rattle.safety_laws.proofs.OneSender.{silent-none_sends, place-alone, no_place-alone}
use Rattle.safety_laws.proofs.Arrivals.{sound-owner, sound-alone, sound-members, silent-absent, silent-listening}
use Rattle.safety_laws.proofs.Arrivals.{silent-fallen, at-fate}
use Rattle.safety_laws.proofs.Listeners.{IsAwaited, quiet-awaited, gone-awaited, listens-on, awaited-armed}
use Rattle.safety_laws.proofs.Listeners.{awaited-listening, ListensSince, waits-on}
use Rattle.safety_laws.proofs.PlanSteps.{members-good, ledger-entered, sound-stays, good-sender}
use Rattle.safety_laws.proofs.Hearing.{frameless-silent}
use Rattle.safety_laws.proofs.PlanTurns.{NextByFate, NextSound, SendsNone, SendsOne, slot_of, slot_number, within-plan}
use Rattle.safety_laws.proofs.PlanTurns.{armed-planned, listens-still, listens-now, less-planned, good_plan}
use Rattle.ttp_world.specs.declared.node.Phase.TheVariants as phase
use Rattle.safety_laws.proofs.Groups.{holds-by}

-- a frame carries its place where its header says so
explicit-kind : (k : Kind) → is_explicit (header_of k) ≡ carries_place k
explicit-kind kind.I = refl
explicit-kind k = refl

-- a node that has just joined counts the frame on which it did
counted-joined : (slot : ℕ) (past : NodePast) → past.accepted ≡ 1 → past.rejected ≡ 0 → past.ack ≡ ack.Closed
    → past.cold_start ≡ false → IsCounted (opened false slot) past
counted-joined slot past accepted rejected closed later =
    let none : doubts past.ack ≡ 0 = ap doubts closed in
    record {
      accepted = accepted;
      rejected = omega (arith, rejected, none);
      opened = λ opened. absurd (false≢true (ap is_open (sym closed) ∙ opened));
      cold_start = λ cold. absurd (false≢true (sym later ∙ cold));
    }

module _ {list : Medl} {script : Script} {start : ClusterStart} {plan : FaultPlan} {turn : ℕ} {new : SlotNumbers}
    {numbers : Numbers} (t : IsTurn list script start plan turn new numbers) (k : ℕ) (node : k < length list.slots)
    (since : ℕ) (awaited : IsAwaited plan turn k since)
    (listens : ListensSince plan turn since (slot_of list script new numbers k)) where
  -- Where the slot is not good nobody sends.

  silent-wrong : is_good_slot plan (suc turn) ≡ false → SendsNone t
  silent-wrong wrong = by (fate_of plan turn (sender plan (suc turn))) refl
    where
      by : (fate : Fate) → fate_of plan turn (sender plan (suc turn)) ≡ fate → SendsNone t
      by Absent is = silent-absent t is
      by (Listening s) is = silent-listening t s is
      by (Fallen change s shown) is = silent-fallen t change s shown is
      by (Falling change s) is =
          absurd (both_ways (may_stay plan.nodes turn (fate_of plan turn (sender plan (suc turn))))
          (gone-awaited plan turn k since (good_plan t) awaited (sender plan (suc turn)))
          (ap (may_stay plan.nodes turn) is))
      by Sound is =
          absurd (both_ways (is_good_slot plan (suc turn)) wrong (ap is_sound_fate (sound-stays plan turn
          (sender plan (suc turn)) (good_plan t) (ap (λ found. strikes found (sender plan (suc turn)))
          (quiet-awaited plan turn k since (good_plan t) awaited)) is)))

  waits-silent : is_good_slot plan (suc turn) ≡ false
      → IsListeningAt list plan (suc turn) k since (next_past (slot_of list script new numbers k))
  waits-silent wrong =
      let x = slot_of list script new numbers k in
      waits-on plan turn since x awaited.from listens (waited-none x listens.listens
      (frameless-silent _ (silent-none_sends list script (world list script numbers) _ k (silent-wrong wrong))))
      (λ good_is. absurd (both_ways (is_good_slot plan (suc turn)) wrong good_is))

  -- In a good slot the sender's frame comes to it.

  module _ (good_is : is_good_slot plan (suc turn) ≡ true) where
    sends : fate_of plan turn (sender plan (suc turn)) ≡ Sound
    sends = sound-fate _ (good-sender plan turn (good_plan t) good_is)

    alone : SendsOne t
    alone = sound-alone t sends

    place_is : slot_place (slot_of list script new numbers (sender plan (suc turn))) ≡ planned_place list plan
        (suc turn)
    place_is = ap (next_place list) (sound-owner t sends).at.place

    number : length (world list script numbers) ≡ start.slot + suc turn
    number = slot_number t

    -- it carries its place where the list says so
    explicit-is : is_explicit (expected_header list
        (slot_place (slot_of list script new numbers (sender plan (suc turn)))))
        ≡ carries_place (kind_in list plan (suc turn))
    explicit-is =
        ap (λ (place : Place). is_explicit (expected_header list place)) place_is
        ∙ explicit-kind (kind_in list plan (suc turn))

    -- Before it enters none does.
    waits-passing : enters plan (suc turn) k ≡ false
        → IsListeningAt list plan (suc turn) k since (next_past (slot_of list script new numbers k))
    waits-passing unentered =
        let x = slot_of list script new numbers k in
        let on = listens-on plan turn k since (good_plan t) awaited (within-plan t) unentered in
        let within = within-plan t in
        let none = (t.planned.follows.returns awaited.return awaited.among).none (suc turn)
        (omega (arith, awaited.armed, awaited.from)) on.0 within good_is in
        let hearing = t.planned.follows.hearing (suc turn) t.within in
        let kept = ap (λ n. loses script (sender plan (suc turn)) n k) number
        ∙ hearing.listens k since (less-planned t k node) good_is on.1 in
        let hears = no_place-alone numbers k t.planned.valid alone kept (explicit-is ∙ none) in
        waits-on plan turn since x awaited.from listens
        (waited-passing x (sender plan (suc turn)) listens.listens hears) (λ again.
        around-silent list script (world list script numbers) (messages_chosen list script (length numbers) new.sent) k
        ∙ frame-silent x.hearing _ hears.comes)

    members_are : with_node (slot_of list script new numbers (sender plan (suc turn))).past.members
        (sender plan (suc turn)) ≡ planned_members plan (suc turn)
    members_are =
        ap (λ (members : List ℕ). with_node members (sender plan (suc turn))) (sound-members t sends)
        ∙ sym (members-good plan turn good_is)

    -- When it enters it does.
    module _ (entered : enters plan (suc turn) k ≡ true) where
      hears-entry : HearsPlace (slot_of list script new numbers k) (sender plan (suc turn))
          (planned_place list plan (suc turn)) (planned_members plan (suc turn))
      hears-entry =
          let found = entry-is plan (suc turn) k entered in
          let offers = (t.planned.follows.returns found.return found.among).place
          (subst (λ slot. slot < plan.slots) (sym found.entered) found.within) in
          let hearing = t.planned.follows.hearing (suc turn) t.within in
          let sound = ap is_sound_fate (next-entered plan (suc turn) k (fate_of plan turn k) entered) in
          let other = (entry-good plan (suc turn) k (good_plan t) entered).1 in
          subst (λ (told : Place × List ℕ).
          HearsPlace (slot_of list script new numbers k) (sender plan (suc turn)) told.0 told.1)
          (λ i. (place_is i, members_are i)) (place-alone numbers k t.planned.valid alone
          (ap (λ n. loses script (sender plan (suc turn)) n k) number
          ∙ hearing.heard k (less-planned t k node) (λ same. other (sym same)) good_is sound)
          (explicit-is ∙ ap (λ slot. carries_place (kind_in list plan slot)) (sym found.entered) ∙ offers))

      pub joins-entry :
          let x = slot_of list script new numbers k in
          let place = planned_place list plan (suc turn) in
          let members = planned_members plan (suc turn) in
          let deviation = x.hearing.deviation (sender plan (suc turn)) in
          StandsBy (next_past x) (joined_on place members deviation) (joined_standing list place members deviation)
      joins-entry =
          joined-place (slot_of list script new numbers k) (sender plan (suc turn)) (planned_place list plan (suc turn))
          (planned_members plan (suc turn)) listens.listens hears-entry

      sound-entered : NextSound t k
      sound-entered =
          let past = next_past (slot_of list script new numbers k) in
          let stands = joins-entry in
          let other = (entry-good plan (suc turn) k (good_plan t) entered).1 in
          record {
            phase = stands.phase;
            place = stands.place;
            group = holds-by list k (planned_members plan (suc turn)) past ack.Closed stands.ack hears-entry.nodes
                stands.members (λ opened. absurd (false≢true opened)) tt;
            counted = subst (λ (ledger : Ledger). IsCounted ledger past)
                (sym (ledger-entered plan turn k other entered))
                (counted-joined (suc turn) past stands.accepted stands.rejected stands.ack stands.cold_start);
            doubted = λ y doubt. absurd (false≢true (ap is_open (sym stands.ack ∙ doubt)));
            fresh = λ own. absurd (other own);
          }

  -- So it is what its fate says.
  pub returner-next : NextByFate t k
  returner-next = by (enters plan (suc turn) k) refl
    where
      past : NodePast
      past = next_past (slot_of list script new numbers k)

      waits : (good : Bool) → is_good_slot plan (suc turn) ≡ good → enters plan (suc turn) k ≡ false
          → IsListeningAt list plan (suc turn) k since past
      waits true good_is unentered = waits-passing good_is unentered
      waits false wrong unentered = waits-silent wrong

      by : (entered : Bool) → enters plan (suc turn) k ≡ entered
          → IsByFate list plan (suc turn) k past (fate_of plan (suc turn) k)
      by true entered =
          subst (λ (f : Fate). IsByFate list plan (suc turn) k past f)
          (sym (next-entered plan (suc turn) k (fate_of plan turn k) entered))
          (sound-entered (entry-good plan (suc turn) k (good_plan t) entered).0 entered)
      by false unentered =
          subst (λ (f : Fate). IsByFate list plan (suc turn) k past f) (sym (listens-on plan turn k since (good_plan t)
          awaited (within-plan t) unentered).1) (waits (is_good_slot plan (suc turn)) refl unentered)

-- A node that is armed in a turn, and one that listened before it: both listen in it.

-- a lost node that may not stay has left
left-gone : (list : Medl) (script : Script) (plan : FaultPlan) (turn k : ℕ) (numbers : Numbers) (fate : Fate)
    → is_lost fate ≡ true → may_stay plan.nodes turn fate ≡ false
    → IsByFate list plan turn k (node_past list script (world list script numbers) k) fate
    → (node_past list script (world list script numbers) k).phase ≡ phase.Left
left-gone list script plan turn k numbers (Fallen change s shown) lost gone (inl left) = left
left-gone list script plan turn k numbers (Fallen change s shown) lost gone (inr at) =
    absurd (both_ways (nat_lt turn (shown + plan.nodes)) gone (lt-ltb turn (shown + plan.nodes) at.soon))
left-gone list script plan turn k numbers _ lost gone at = cc

module _ {list : Medl} {script : Script} {start : ClusterStart} {plan : FaultPlan} {turn : ℕ} {new : SlotNumbers}
    {numbers : Numbers} (t : IsTurn list script start plan turn new numbers) (k : ℕ) (node : k < length list.slots)
  where
    record Listens : Type 0 where
      since : ℕ
      awaited : IsAwaited plan turn k since
      listens : ListensSince plan turn since (slot_of list script new numbers k)

    still : (since : ℕ) → fate_of plan turn k ≡ Listening since → Listens
    still since is = record {
      since = since;
      awaited = awaited-listening plan turn k since (good_plan t) (within-plan t) is;
      listens = listens-still t k node since is (at-fate t k (Listening since) node is);
    }

    now : is_armed_by plan (suc turn) k ≡ true → Listens
    now armed =
        let awaited = awaited-armed plan turn k (good_plan t) armed in
        let lost = armed-lost plan turn k (good_plan t) armed in
        record {
          since = suc turn;
          awaited = awaited;
          listens = listens-now t k node (left-gone list script plan turn k numbers (fate_of plan turn k) lost
              (gone-awaited plan turn k (suc turn) (good_plan t) awaited k) (t.before.nodes k node))
              (armed-planned t k node lost ∙ armed);
        }

    next : Listens → NextByFate t k
    next l = returner-next t k node l.since l.awaited l.listens

    pub listening-next : (since : ℕ) → fate_of plan turn k ≡ Listening since → NextByFate t k
    listening-next since is = next (still since is)

    pub armed-next : is_armed_by plan (suc turn) k ≡ true → NextByFate t k
    armed-next armed = next (now armed)

    -- where it enters it joins at the plan's place, with the plan's members, by what it measures of the sender's frame
    pub entered-joins : enters plan (suc turn) k ≡ true →
        let x = slot_of list script new numbers k in
        let place = planned_place list plan (suc turn) in
        let members = planned_members plan (suc turn) in
        let deviation = x.hearing.deviation (sender plan (suc turn)) in
        StandsBy (next_past x) (joined_on place members deviation) (joined_standing list place members deviation)
    entered-joins entered =
        let l = listener in
        joins-entry t k node l.since l.awaited l.listens (entry-good plan (suc turn) k (good_plan t) entered).0 entered
      where
        listener : Listens
        listener = elim (entry-from plan turn k (good_plan t) entered) [
          | inl armed ↦ now armed
          | inr listens ↦ still listens.0 listens.1
        ]
