-- A node in its own slot: a sound one sends, a lost one sends in its first and has left after its second.
use Rattle.safety_laws.proofs.Words.{◌≡◌, ◌≢◌, ℕ, suc, ◌+◌, ◌<◌, true, false, [], length, refl, ap, sym, subst, ◌∙◌}
use Rattle.safety_laws.proofs.Words.{inl, inr, mod-lt, Bool, arith, ◌-◌, ◌≤◌, List, ◌⊎◌, cases_eq, false≢true}
use Rattle.safety_laws.proofs.Words.{false_from_ne_true, cases_lt, has_node, with_node, Medl, Script, Place, next_place}
use Rattle.safety_laws.proofs.Words.{ClusterStart, is_on, is_armed, SlotNumbers, Numbers, node_past, messages_chosen}
use Rattle.safety_laws.proofs.Words.{world, length-world, Change, FaultPlan, sender, is_armed_by, Fate, Absent, Sound}
use Rattle.safety_laws.proofs.Words.{Falling, Fallen, Listening, fate_of, is_absent, is_lost, may_stay, is_good_slot}
use Rattle.safety_laws.proofs.Words.{IsGoodPlan, planned_place, absent-always, place-sender, ListensInSlot, next_past}
use Rattle.safety_laws.proofs.Words.{NodeSlot, node_slot, frames_made, owner_of, SendsAlone, NoneSends, IsJudging}
use Rattle.safety_laws.proofs.Words.{IsAtOwnSlot, IsSoundAt, IsListeningAt, IsByFate, doubts, IsCounted, IsFallingAt}
use Rattle.safety_laws.proofs.Words.{IsFallenAt, IsTurn, Ack, is_open, message_sent, Ledger, planned_members, ledger_of}
use Rattle.safety_laws.proofs.Words.{IsFalling, IsUnanswered, HoldsGroup, StandsBy, sent_standing}
use Rattle.std.proofs.lemmas.Bool.{not-true}
use Rattle.ttp_world.specs.declared.node.Phase.TheVariants as phase
use Rattle.safety_laws.specs.NodeSlot.{slot_place}
use Rattle.safety_laws.proofs.Idle.{frames_made-judging, idle-off, idle-left}
use Rattle.safety_laws.proofs.Listening.{frames_made-listening, left-world}
use Rattle.safety_laws.proofs.OwnSlots.{act_made-sends, sent-own, left-unacknowledged, left-clique}
use Rattle.safety_laws.proofs.Payloads.{HasPayload-world}
use Rattle.safety_laws.proofs.WorldTurns.{IsJudging-world, IsAtOwnSlot-world}
use Rattle.safety_laws.proofs.Listeners.{awaited-listening, good-lately, ListensSince, listens-before, listens-first}
use Rattle.safety_laws.proofs.PlanSteps.{staying-unarmed, members-good, ledger-own, round-turn}
use Rattle.ttp_world.specs.declared.node.Ack.TheVariants as ack
use Rattle.ttp_world.specs.declared.node.Entry.TheVariants as entry
use Rattle.safety_laws.proofs.Counts.{bad-own, bad-first, seen-round, four-lasting}
use Rattle.safety_laws.proofs.Groups.{holds-sent}

-- its own frame is acknowledged, and it accepted more frames than it rejected
pub record MaySend (x : NodeSlot) : Type 0 where
  pub closed : x.past.ack ≡ ack.Closed
  pub more : x.past.rejected < x.past.accepted

closed-ack : (a : Ack) → is_open a ≡ false → a ≡ ack.Closed
closed-ack ack.Closed closed = refl
closed-ack _ closed = absurd (false≢true (sym closed))

-- A sound node.

-- what is so of a good plan and of a sound node whose turn is next
pub record IsSoundOwner (plan : FaultPlan) (turn : ℕ) (x : NodeSlot) : Type 0 where
  pub good : IsGoodPlan plan
  pub nodes : plan.nodes ≡ length x.list.slots
  pub within : turn < plan.slots
  pub own : IsAtOwnSlot x
  pub at : IsSoundAt x.list plan turn x.node x.past
  pub owner : sender plan (suc turn) ≡ x.node

module _ {plan : FaultPlan} {turn : ℕ} {x : NodeSlot} (is : IsSoundOwner plan turn x) where
  less : x.node < plan.nodes
  less = subst (λ n. x.node < n) (sym is.nodes) is.own.node

  -- three good slots since its newest own one
  seen-three : (ledger_of plan turn x.node).own ≡ true → 3 ≤ (ledger_of plan turn x.node).seen
  seen-three own =
      let seen = seen-round plan turn x.node is.good less is.owner own in
      let four = four-lasting plan turn is.good is.within in
      omega (arith, seen, four)

  few_rejected : (own : Bool) → (ledger_of plan turn x.node).own ≡ own
      → x.past.rejected ≤ (ledger_of plan turn x.node).seen
  few_rejected true own =
      let seen = seen-three own in
      let bad = bad-own plan turn x.node is.good less in
      omega (arith, seen, bad, is.at.counted.rejected)
  few_rejected false first =
      let bad = bad-first plan turn x.node is.good less first in
      omega (arith, bad, is.at.counted.rejected)

  pub sound-sends : MaySend x
  sound-sends = record {
    closed = closed-ack x.past.ack (false_from_ne_true (is_open x.past.ack) (λ opened.
        let none = is.at.counted.opened opened in
        let seen = seen-three none.0 in
        omega (arith, seen, none.1)));
    more = let few = few_rejected (ledger_of plan turn x.node).own refl in
        omega (arith, few, is.at.counted.accepted);
  }

  stands : let message = message_sent x.list (slot_place x) x.chosen in
      StandsBy (next_past x) (entry.Sent message) (sent_standing x message)
  stands = sent-own x is.own sound-sends.closed sound-sends.more

  counted-sent : IsCounted (ledger_of plan (suc turn) x.node) (next_past x)
  counted-sent =
      subst (λ (l : Ledger). IsCounted l (next_past x)) (sym (ledger-own plan turn x.node is.owner)) (record {
        accepted = stands.accepted;
        rejected = let none = stands.rejected in
            let first : doubts (next_past x).ack ≡ 0 = ap doubts stands.ack in
            few-none _ _ none first;
        opened = λ opened. (refl, refl);
        cold_start = λ cold. absurd (false≢true (sym stands.cold_start ∙ cold));
      })
    where
      few-none : (a b : ℕ) → a ≡ 0 → b ≡ 0 → a + b ≤ 0
      few-none a b none nothing = omega arith

  -- after a good slot of its own it is sound
  pub sound-sent : is_good_slot plan (suc turn) ≡ true → IsSoundAt x.list plan (suc turn) x.node (next_past x)
  sound-sent good_is = record {
    phase = stands.phase;
    place = stands.place ∙ ap (next_place x.list) is.at.place;
    group = subst (λ (group : List ℕ). HoldsGroup x.list x.node group (next_past x))
        (ap (with_node (planned_members plan turn)) (sym is.owner) ∙ sym (members-good plan turn good_is))
        (holds-sent x (planned_members plan turn) (message_sent x.list (slot_place x) x.chosen) is.own is.at.group
        sound-sends.closed stands);
    counted = counted-sent;
    doubted = λ y doubt. let both : ack.Doubt y ≡ ack.First = sym doubt ∙ stands.ack in cc;
    fresh = λ own. stands.ack;
  }

  -- one that is lost in its own slot sends all the same
  pub lost-sent : IsFallenAt x.list plan (suc turn) x.node (suc turn) (suc turn) (next_past x)
  lost-sent = record {
    phase = stands.phase;
    place = stands.place ∙ ap (next_place x.list) is.at.place;
    later = stands.cold_start;
    unanswered = subst (IsUnanswered x.node) (sym stands.ack) tt;
    soon = let some = is.good.count in omega (arith, some);
    early = let some = is.good.count in omega (arith, some);
  }

-- A lost node.

module _ (plan : FaultPlan) (turn : ℕ) (x : NodeSlot) (good : IsGoodPlan plan) (own : IsAtOwnSlot x) where
  -- in its first own slot it leaves, as it does in the last of the round since it was lost, or sends and is not
  -- answered yet
  pub falling-own : (change : Change) (since : ℕ) → IsFalling plan turn x.node change since
      → sender plan (suc turn) ≡ x.node → IsFallingAt x.list plan turn x.node change since x.past
      → (((next_past x).phase ≡ phase.Left) × (frames_made x ≡ []))
      ⊎ (MaySend x × IsFallenAt x.list plan (suc turn) x.node since (suc turn) (next_past x))
  falling-own change since told owner at = by (is_open x.past.ack) refl
    where
      -- a round before that last slot it had one, and no answer to its frame since
      not_last : x.past.ack ≡ ack.Closed → suc (suc turn) ≡ since + plan.nodes → ⊥
      not_last closed last =
          let some = good.count in
          let before = since - 1 in
          let round : before + plan.nodes ≡ suc turn = omega (arith, told.loss.late, some, last) in
          let own : sender plan before ≡ x.node =
          sym (round-turn plan before (sender plan before) (omega (arith, some))
          (mod-lt (plan.starter + before) (omega (arith, some))) refl) ∙ ap (sender plan) round ∙ owner in
          subst (IsUnanswered x.node) closed (at.waits before (omega (arith, told.loss.late, some)) own)

      early-sent : x.past.ack ≡ ack.Closed → suc (suc turn) < since + plan.nodes
      early-sent closed = elim (cases_lt (suc (suc turn)) (since + plan.nodes)) [
        | inl before ↦ before
        | inr over ↦ let soon = told.soon in absurd (not_last closed (omega (arith, soon, over)))
      ]

      leaves-or-sends : x.past.ack ≡ ack.Closed → (((next_past x).phase ≡ phase.Left) × (frames_made x ≡ []))
          ⊎ (MaySend x × IsFallenAt x.list plan (suc turn) x.node since (suc turn) (next_past x))
      leaves-or-sends closed = elim (cases_lt x.past.rejected x.past.accepted) [
        | inl more ↦
            let stands = sent-own x own closed more in
            inr (
              (record { closed = closed; more = more }),
              (record {
                phase = stands.phase;
                place = stands.place ∙ ap (next_place x.list) at.place;
                later = stands.cold_start;
                unanswered = subst (IsUnanswered x.node) (sym stands.ack) tt;
                soon = let some = good.count in omega (arith, some);
                early = early-sent closed;
              }),
            )
        | inr few ↦ let left = left-clique x own closed few in inl (left.0.phase, left.1)
      ]

      by : (opened : Bool) → is_open x.past.ack ≡ opened → (((next_past x).phase ≡ phase.Left) × (frames_made x ≡ []))
          ⊎ (MaySend x × IsFallenAt x.list plan (suc turn) x.node since (suc turn) (next_past x))
      by true opened = let left = left-unacknowledged x own opened at.later in inl (left.0.phase, left.1)
      by false closed = leaves-or-sends (closed-ack x.past.ack closed)

  open-unanswered : (k : ℕ) (a : Ack) → IsUnanswered k a → is_open a ≡ true
  open-unanswered k ack.Closed unanswered = absurd unanswered
  open-unanswered k _ unanswered = refl

  -- in its second it leaves
  pub fallen-own : (since shown : ℕ) → IsFallenAt x.list plan turn x.node since shown x.past
      → ((next_past x).phase ≡ phase.Left) × (frames_made x ≡ [])
  fallen-own since shown at =
      let left = left-unacknowledged x own (open-unanswered x.node x.past.ack at.unanswered) at.later in
      (left.0.phase, left.1)

-- A turn of a world: who sends in it, and what comes to each node.

-- node k in the slot after a world, with the messages of some numbers
abbrev pub slot_of : Medl → Script → SlotNumbers → Numbers → ℕ → NodeSlot
slot_of list script new numbers k =
    node_slot list script (world list script numbers) (messages_chosen list script (length numbers) new.sent) k

-- An active node that stands where the plan does, one that has left, one that is not switched on, and one that
-- listens.
pub data Stance (list : Medl) (plan : FaultPlan) (turn : ℕ) (x : NodeSlot) : Type 0 where
  IsActive : x.past.phase ≡ phase.Active → x.past.place ≡ planned_place list plan turn → Stance list plan turn x
  HasLeft : x.past.phase ≡ phase.Left → Stance list plan turn x
  IsOff : x.past.phase ≡ phase.Off → x.on ≡ false → Stance list plan turn x
  Listens : ListensInSlot x → Stance list plan turn x

module _ {list : Medl} {script : Script} {start : ClusterStart} {plan : FaultPlan} {turn : ℕ} {new : SlotNumbers}
    {numbers : Numbers} (t : IsTurn list script start plan turn new numbers) where
  -- what a node is by its fate after the turn, or as a sound one, and that none sends in it, or its sender alone

  abbrev pub NextByFate : ℕ → Type 0
  NextByFate k =
      IsByFate list plan (suc turn) k (next_past (slot_of list script new numbers k)) (fate_of plan (suc turn) k)

  abbrev pub NextSound : ℕ → Type 0
  NextSound k = IsSoundAt list plan (suc turn) k (next_past (slot_of list script new numbers k))

  abbrev pub SendsNone : Type 0
  SendsNone = NoneSends list script (world list script numbers) (messages_chosen list script (length numbers) new.sent)

  abbrev pub SendsOne : Type 0
  SendsOne =
      SendsAlone list script (world list script numbers) (messages_chosen list script (length numbers) new.sent)
      (sender plan (suc turn))

  pub slot_number : length (world list script numbers) ≡ start.slot + suc turn
  slot_number = length-world list script numbers ∙ t.number

  pub good_plan : IsGoodPlan plan
  good_plan = t.planned.follows.good

  -- the slot is one of the plan's
  pub within-plan : suc turn < plan.slots
  within-plan = let slots = t.planned.follows.slots in let inside = t.within in omega (arith, slots, inside)

  starter : plan.starter < plan.nodes
  starter = good_plan.starter.0

  -- by its place the slot is that of the plan's sender
  owner-planned : (place : Place) → place ≡ planned_place list plan turn
      → (next_place list place).slot ≡ sender plan (suc turn)
  owner-planned place is =
      ap (λ (p : Place). (next_place list p).slot) is
      ∙ place-sender list plan (suc turn) t.planned.follows.nodes starter

  module _ (k : ℕ) (node : k < length list.slots) where
    pub less-planned : k < plan.nodes
    less-planned = subst (λ n. k < n) (sym t.planned.follows.nodes) node

    pub owner-is : (slot_of list script new numbers k).past.place ≡ planned_place list plan turn
        → owner_of (slot_of list script new numbers k) ≡ sender plan (suc turn)
    owner-is place = owner-planned _ place

    pub judges : (slot_of list script new numbers k).past.phase ≡ phase.Active
        → (slot_of list script new numbers k).past.place ≡ planned_place list plan turn → sender plan (suc turn) ≢ k
        → IsJudging (slot_of list script new numbers k)
    judges active place other =
        IsJudging-world list script numbers (messages_chosen list script (length numbers) new.sent) k
        t.planned.valid node active (λ own. other (sym (owner-is place) ∙ own))

    pub has-turn : (slot_of list script new numbers k).past.phase ≡ phase.Active
        → (slot_of list script new numbers k).past.place ≡ planned_place list plan turn → sender plan (suc turn) ≡ k
        → IsAtOwnSlot (slot_of list script new numbers k)
    has-turn active place own =
        IsAtOwnSlot-world list script numbers (messages_chosen list script (length numbers) new.sent) k
        t.planned.valid node active (owner-is place ∙ own)

    -- a node that is absent is not on
    pub absent-off : fate_of plan turn k ≡ Absent → (slot_of list script new numbers k).on ≡ false
    absent-off is =
        ap (is_on script k) slot_number ∙ sym (t.planned.follows.on (suc turn) k node)
        ∙ not-true (has_node plan.begin k) (sym (absent-always plan turn k good_plan) ∙ ap is_absent is)

    pub armed-planned : is_lost (fate_of plan turn k) ≡ true
        → (slot_of list script new numbers k).armed ≡ is_armed_by plan (suc turn) k
    armed-planned lost = ap (is_armed script k) slot_number ∙ t.planned.arms k turn node lost

    pub unarmed-falling : (change : Change) (since : ℕ) → fate_of plan turn k ≡ Falling change since
        → (slot_of list script new numbers k).armed ≡ false
    unarmed-falling change since is =
        armed-planned (ap is_lost is) ∙ staying-unarmed plan turn k k good_plan (ap (may_stay plan.nodes turn) is)

    -- a listening node does not start
    pub listens-still : (since : ℕ) → fate_of plan turn k ≡ Listening since
        → IsListeningAt list plan turn k since (slot_of list script new numbers k).past
        → ListensSince plan turn since (slot_of list script new numbers k)
    listens-still since is at =
        let awaited = awaited-listening plan turn k since good_plan within-plan is in
        let within = within-plan in
        listens-before plan turn since (slot_of list script new numbers k) t.planned.follows.nodes
        (let count = good_plan.count in omega (arith, count))
        (good-lately plan turn k since good_plan awaited (omega (arith, within))) at

    -- and one that is armed listens
    pub listens-now : (slot_of list script new numbers k).past.phase ≡ phase.Left
        → (slot_of list script new numbers k).armed ≡ true
        → ListensSince plan turn (suc turn) (slot_of list script new numbers k)
    listens-now left armed =
        let waited = left-world list script (world list script numbers) k left in
        listens-first plan turn (slot_of list script new numbers k) left armed waited.0 waited.1

    -- one that has left sends nothing
    pub silent-left : (slot_of list script new numbers k).past.phase ≡ phase.Left
        → frames_made (slot_of list script new numbers k) ≡ []
    silent-left left = by (slot_of list script new numbers k).armed refl
      where
        by : (armed : Bool) → (slot_of list script new numbers k).armed ≡ armed
            → frames_made (slot_of list script new numbers k) ≡ []
        by true armed = frames_made-listening (slot_of list script new numbers k) (listens-now left armed).listens
        by false unarmed = (idle-left (slot_of list script new numbers k) left unarmed).1

    pub stance : Stance list plan turn (slot_of list script new numbers k)
    stance = by (fate_of plan turn k) refl (t.before.nodes k node)
      where
        by : (fate : Fate) → fate_of plan turn k ≡ fate
            → IsByFate list plan turn k (node_past list script (world list script numbers) k) fate
            → Stance list plan turn (slot_of list script new numbers k)
        by Absent is off = IsOff off (absent-off is)
        by Sound is at = IsActive at.phase at.place
        by (Falling change since) is (inl left) = HasLeft left.0
        by (Falling change since) is (inr at) = IsActive at.phase at.place
        by (Fallen change since shown) is (inl left) = HasLeft left
        by (Fallen change since shown) is (inr at) = IsActive at.phase at.place
        by (Listening since) is at = Listens (listens-still since is at).listens

    -- no node but the sender sends
    pub quiet : sender plan (suc turn) ≢ k → frames_made (slot_of list script new numbers k) ≡ []
    quiet other = by stance
      where
        by : Stance list plan turn (slot_of list script new numbers k)
            → frames_made (slot_of list script new numbers k) ≡ []
        by (IsActive active place) = frames_made-judging (slot_of list script new numbers k) (judges active place other)
        by (HasLeft left) = silent-left left
        by (IsOff off never) = (idle-off (slot_of list script new numbers k) off never).1
        by (Listens listens) = frames_made-listening (slot_of list script new numbers k) listens

  -- the sender of the turn
  pub e-node : sender plan (suc turn) < length list.slots
  e-node = let n = t.planned.follows.nodes in let less = sender-less in omega (arith, n, less)
    where
      sender-less : sender plan (suc turn) < plan.nodes
      sender-less = mod-lt (plan.starter + suc turn) (let count = good_plan.count in omega (arith, count))

  pub none-sends : frames_made (slot_of list script new numbers (sender plan (suc turn))) ≡ [] → SendsNone
  none-sends none k node = elim (cases_eq (sender plan (suc turn)) k) [
    | inl own ↦ subst (λ j. frames_made (slot_of list script new numbers j) ≡ []) own none
    | inr other ↦ quiet k node other
  ]

  pub sends-alone : IsAtOwnSlot (slot_of list script new numbers (sender plan (suc turn)))
      → MaySend (slot_of list script new numbers (sender plan (suc turn))) → SendsOne
  sends-alone own may = record {
    own = own;
    closed = may.closed;
    accepted = may.more;
    payload = HasPayload-world list script new numbers (sender plan (suc turn)) t.planned.script_valid t.legal e-node
        own.own (act_made-sends (slot_of list script new numbers (sender plan (suc turn))) own may.closed may.more);
    unflipped = λ c. t.planned.follows.flips (sender plan (suc turn)) (length (world list script numbers)) c;
    others = λ k node other. quiet k node (λ same. other (sym same));
  }
