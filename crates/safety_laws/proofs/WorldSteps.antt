-- After one turn more a sound node has sent only where it has had a slot.
use Rattle.safety_laws.proofs.Words.{◌≡◌, ◌≢◌, ℕ, suc, ◌<◌, Bool, true, false, ◌∷◌, length, refl, ap, sym, subst, ◌∙◌}
use Rattle.safety_laws.proofs.Words.{inl, inr, ◌≤◌, not, ◌&&◌, ◌||◌, List, arith, ◌+◌, cond, [], Option, cases_eq}
use Rattle.safety_laws.proofs.Words.{both_ways, and_from, and_parts, and_right, false≢true, false_from_ne_true, Medl}
use Rattle.safety_laws.proofs.Words.{Entry, Phase, Script, is_left_after, has_left_since_arm, has_sent_since_begin}
use Rattle.safety_laws.proofs.Words.{has_sent_in_stint, ClusterStart, is_left_phase, NodePast, is_armed, SlotNumbers}
use Rattle.safety_laws.proofs.Words.{Numbers, messages_chosen, world, slot_after, row_in, Change, FaultPlan, sender}
use Rattle.safety_laws.proofs.Words.{incident_at, is_armed_by, enters, Fate, Absent, Sound, Falling, Fallen, Listening}
use Rattle.safety_laws.proofs.Words.{fate_of, is_sound_fate, is_lost, is_sound_after, is_good_slot, is_first_slot}
use Rattle.safety_laws.proofs.Words.{strikes, sound-from, sound-fate, next_past, NodeSlot, entry_made, is_there}
use Rattle.safety_laws.proofs.Words.{IsByFate, IsSoundAt, HoldsAfter, IsTurn, Diary, entry_of, diary_of}
use Rattle.safety_laws.proofs.Words.{is_active_phase, is_active, begins_stint, is_sending, has_ever_sent, Ledger}
use Rattle.safety_laws.proofs.Words.{ledger_of, with_slot, IsJudging, is_correct, row_of_world, length-world, BeginsOn}
use Rattle.safety_laws.proofs.Words.{TellsOf, planned_place, entry-good, none-enters, sender-stays, IsSoundIn}
use Rattle.safety_laws.proofs.Words.{StartedByPlan, NotesNothing, NotedInSlot, IsBegunAlone}
use Rattle.safety_laws.proofs.Idle.{idle-off}
use Rattle.safety_laws.proofs.NodeSlots.{entry_of-made, node_past-step}
use Rattle.safety_laws.proofs.Returners.{listening-next, armed-next, entered-joins}
use Rattle.safety_laws.proofs.Arrivals.{at-fate, sound-owner, fallen-leaves, falling-acts}
use Rattle.safety_laws.proofs.Begins.{left_since-next, starter-begun, joiner-begun, on-begun}
use Rattle.safety_laws.proofs.LostSteps.{struck-next, falling-next, fallen-next, jumped-wrong}
use Rattle.safety_laws.proofs.PlanTurns.{sound-sent, lost-sent, sound-sends, NextByFate, slot_of, e-node, absent-off}
use Rattle.safety_laws.proofs.PlanTurns.{armed-planned, good_plan}
use Rattle.safety_laws.proofs.PlanSteps.{struck-known, absent-stays, fallen-stays, sound-stays, falling-stays}
use Rattle.safety_laws.proofs.PlanSteps.{falling-shown, struck-falls, struck-shown, ledger-other, ledger-own}
use Rattle.safety_laws.proofs.SoundSteps.{sound-next}
use Rattle.safety_laws.proofs.Verdicts.{judged-whatever}
use Rattle.safety_laws.proofs.Receivers.{sound-judge, judges-good}
use Rattle.safety_laws.proofs.LostNodes.{IsSoundJudge}
use Rattle.ttp_world.specs.declared.node.Entry.TheVariants as entry
use Rattle.ttp_world.specs.declared.node.Phase.TheVariants as phase
use Rattle.safety_laws.proofs.OwnSlots.{sent-own}

-- a node that judges sends nothing, and its stint goes on
judged-goes-on : (x : NodeSlot) → IsJudging x
    → (is_sending (entry_made x) ≡ false) × (begins_stint (entry_made x) ≡ false)
judged-goes-on x is = elim (judged-whatever x is) [
  | inl some ↦ (ap is_sending some.1.1.entry, ap begins_stint some.1.1.entry)
  | inr left ↦ (ap is_sending left.entry, ap begins_stint left.entry)
]

-- what an active node sent in its stint before an entry with which that goes on
stint-before : (e : Entry) (diary : Diary) → is_active diary ≡ true → is_sending e ≡ false → begins_stint e ≡ false
    → has_sent_in_stint (e ∷ diary) ≡ true → has_sent_in_stint diary ≡ true
stint-before e diary active unsent goes_on sent =
    and_from (is_active diary) (has_sent_since_begin diary) active
    ((λ i. sym unsent i || (not (sym goes_on i) && has_sent_since_begin diary))
    ∙ (and_parts (is_active (e ∷ diary)) (has_sent_since_begin (e ∷ diary)) sent).1)

-- one that has just joined has sent nothing in it
stint-joined : (e f : Entry) (diary : Diary) → e ≡ f → is_sending f ≡ false → begins_stint f ≡ true
    → has_sent_in_stint (e ∷ diary) ≡ false
stint-joined e f diary is unsent begins =
    ap (λ (g : Entry). has_sent_in_stint (g ∷ diary)) is
    ∙ (λ i. is_active (f ∷ diary) && (unsent i || (not (begins i) && has_sent_since_begin diary)))
    ∙ and_right (is_active (f ∷ diary)) false refl

module _ {list : Medl} {script : Script} {start : ClusterStart} {plan : FaultPlan} {turn : ℕ} {new : SlotNumbers}
    {numbers : Numbers} (t : IsTurn list script start plan turn new numbers) where
  abbrev row_now : List Entry
  row_now =
      row_in (slot_after list script (world list script numbers))
      (messages_chosen list script (length numbers) new.sent)

  row-made : (k : ℕ) → k < length list.slots → entry_of row_now k ≡ entry_made (slot_of list script new numbers k)
  row-made k node = entry_of-made list script (world list script numbers) _ k node

  -- one that was sound before, and is not the sender
  module _ (k : ℕ) (node : k < length list.slots) (other : sender plan (suc turn) ≢ k)
      (was : is_sound_after plan turn k ≡ true) where
    judges-on : IsSoundJudge plan turn (slot_of list script new numbers k)
    judges-on = sound-judge t k node other (sound-fate _ was)

    goes-on : (is_sending (entry_of row_now k) ≡ false) × (begins_stint (entry_of row_now k) ≡ false)
    goes-on =
        let both = judged-goes-on (slot_of list script new numbers k) judges-on.judging in
        (ap is_sending (row-made k node) ∙ both.0, ap begins_stint (row-made k node) ∙ both.1)

    own-kept : (ledger_of plan turn k).own ≡ true → (ledger_of plan (suc turn) k).own ≡ true
    own-kept own = ap (λ (l : Ledger). l.own) (ledger-other plan turn k other judges-on.entered) ∙ own

    sent-on : has_sent_in_stint (diary_of (world list script (new ∷ numbers)) k) ≡ true
        → (ledger_of plan (suc turn) k).own ≡ true
    sent-on sent =
        own-kept (t.before.sent k node was (stint-before (entry_of row_now k) (diary_of (world list script numbers) k)
        (ap (λ (p : Phase). is_active_phase p) judges-on.at.phase) goes-on.0 goes-on.1 sent))

    ever_sent-on : ((slot : ℕ) → slot ≤ suc turn → enters plan slot k ≡ false)
        → has_ever_sent (diary_of (world list script (new ∷ numbers)) k) ≡ true
        → (ledger_of plan (suc turn) k).own ≡ true
    ever_sent-on never sent =
        own-kept (t.before.ever_sent k node was (λ slot to. never slot (omega (arith, to)))
        (sym (ap (λ b. b || has_ever_sent (diary_of (world list script numbers) k)) goes-on.0) ∙ sent))

  -- one that enters has sent nothing since it joined
  sent-entered : (k : ℕ) → k < length list.slots → enters plan (suc turn) k ≡ true
      → has_sent_in_stint (diary_of (world list script (new ∷ numbers)) k) ≡ false
  sent-entered k node entered =
      stint-joined _ _ (diary_of (world list script numbers) k)
      (row-made k node ∙ (entered-joins t k node entered).entry) refl refl

  pub sent-next : (k : ℕ) → k < length list.slots → is_sound_after plan (suc turn) k ≡ true
      → has_sent_in_stint (diary_of (world list script (new ∷ numbers)) k) ≡ true
      → (ledger_of plan (suc turn) k).own ≡ true
  sent-next k node sound sent = elim (cases_eq (sender plan (suc turn)) k) [
    | inl own ↦ ap (λ (l : Ledger). l.own) (ledger-own plan turn k own)
    | inr other ↦ by other (enters plan (suc turn) k) refl
  ]
    where
      by : sender plan (suc turn) ≢ k → (entered : Bool) → enters plan (suc turn) k ≡ entered
          → (ledger_of plan (suc turn) k).own ≡ true
      by other true entered = absurd (false≢true (sym (sent-entered k node entered) ∙ sent))
      by other false unentered =
          sent-on k node other (sound-from plan (suc turn) k (fate_of plan turn k) unentered sound) sent

  pub ever_sent-next : (k : ℕ) → k < length list.slots → is_sound_after plan (suc turn) k ≡ true
      → ((slot : ℕ) → slot ≤ suc turn → enters plan slot k ≡ false)
      → has_ever_sent (diary_of (world list script (new ∷ numbers)) k) ≡ true → (ledger_of plan (suc turn) k).own ≡ true
  ever_sent-next k node sound never sent = elim (cases_eq (sender plan (suc turn)) k) [
    | inl own ↦ ap (λ (l : Ledger). l.own) (ledger-own plan turn k own)
    | inr other ↦
        ever_sent-on k node other
        (sound-from plan (suc turn) k (fate_of plan turn k) (never (suc turn) (omega arith)) sound) never sent
  ]

-- After one turn more each node of a world is what its fate says.

module _ {list : Medl} {script : Script} {start : ClusterStart} {plan : FaultPlan} {turn : ℕ} {new : SlotNumbers}
    {numbers : Numbers} (t : IsTurn list script start plan turn new numbers) where
  of-fate : (k : ℕ) (past : NodePast) (fate : Fate) → fate_of plan (suc turn) k ≡ fate
      → IsByFate list plan (suc turn) k past fate → IsByFate list plan (suc turn) k past (fate_of plan (suc turn) k)
  of-fate k past fate is = subst (λ (f : Fate). IsByFate list plan (suc turn) k past f) (sym is)

  -- A node in another's slot.
  other-next : (k : ℕ) → k < length list.slots → sender plan (suc turn) ≢ k → NextByFate t k
  other-next k node other = by (fate_of plan turn k) refl
    where
      by-sound : fate_of plan turn k ≡ Sound → (hit : Bool) → strikes (incident_at plan (suc turn)) k ≡ hit
          → NextByFate t k
      by-sound is true hit =
          let struck = struck-known plan (suc turn) k hit in
          of-fate k _ _ (struck-falls plan turn k (good_plan t) struck other)
          (inr (struck-next t k node other is struck))
      by-sound is false missed =
          let stays = sound-stays plan turn k (good_plan t) missed is in
          of-fate k _ Sound stays (sound-next t k node other is (ap is_sound_fate stays))

      by-fallen : (change : Change) (since shown : ℕ) → fate_of plan turn k ≡ Fallen change since shown → (armed : Bool)
          → is_armed_by plan (suc turn) k ≡ armed → NextByFate t k
      by-fallen change since shown is true armed = armed-next t k node armed
      by-fallen change since shown is false unarmed =
          of-fate k _ (Fallen change since shown) (fallen-stays plan turn k since shown change (good_plan t) unarmed is)
          (fallen-next t k node other change since shown is unarmed)

      by : (fate : Fate) → fate_of plan turn k ≡ fate → NextByFate t k
      by Absent is =
          of-fate k _ Absent (absent-stays plan turn k (good_plan t) is)
          (idle-off (slot_of list script new numbers k) (at-fate t k Absent node is) (absent-off t k node is)).0
      by Sound is = by-sound is (strikes (incident_at plan (suc turn)) k) refl
      by (Falling change since) is =
          of-fate k _ (Falling change since) (falling-stays plan turn k since change (good_plan t) other is)
          (falling-next t k node other change since is)
      by (Listening since) is = listening-next t k node since is
      by (Fallen change since shown) is = by-fallen change since shown is (is_armed_by plan (suc turn) k) refl

  -- The sender.
  own-next : let e = sender plan (suc turn) in
      IsByFate list plan (suc turn) e (next_past (slot_of list script new numbers e)) (fate_of plan (suc turn) e)
  own-next = by (fate_of plan turn (sender plan (suc turn))) refl
    where
      by-sound : fate_of plan turn (sender plan (suc turn)) ≡ Sound → (hit : Bool)
          → strikes (incident_at plan (suc turn)) (sender plan (suc turn)) ≡ hit → NextByFate t (sender plan (suc turn))
      by-sound is true hit =
          let struck = struck-known plan (suc turn) (sender plan (suc turn)) hit in
          of-fate (sender plan (suc turn)) _ _
          (struck-shown plan turn (sender plan (suc turn)) (good_plan t) struck refl)
          (inr (lost-sent (sound-owner t is)))
      by-sound is false missed =
          let stays = sound-stays plan turn (sender plan (suc turn)) (good_plan t) missed is in
          of-fate (sender plan (suc turn)) _ Sound stays (sound-sent (sound-owner t is) (ap is_sound_fate stays))

      by-fallen : (change : Change) (since shown : ℕ)
          → fate_of plan turn (sender plan (suc turn)) ≡ Fallen change since shown → (armed : Bool)
          → is_armed_by plan (suc turn) (sender plan (suc turn)) ≡ armed → NextByFate t (sender plan (suc turn))
      by-fallen change since shown is true armed = armed-next t (sender plan (suc turn)) (e-node t) armed
      by-fallen change since shown is false unarmed =
          of-fate (sender plan (suc turn)) _ (Fallen change since shown)
          (fallen-stays plan turn (sender plan (suc turn)) since shown change (good_plan t) unarmed is)
          (inl (fallen-leaves t change since shown is unarmed))

      by : (fate : Fate) → fate_of plan turn (sender plan (suc turn)) ≡ fate → NextByFate t (sender plan (suc turn))
      by Absent is =
          let node = e-node t in
          of-fate (sender plan (suc turn)) _ Absent (absent-stays plan turn (sender plan (suc turn)) (good_plan t) is)
          (idle-off (slot_of list script new numbers (sender plan (suc turn)))
          (at-fate t (sender plan (suc turn)) Absent node is) (absent-off t (sender plan (suc turn)) node is)).0
      by Sound is = by-sound is (strikes (incident_at plan (suc turn)) (sender plan (suc turn))) refl
      by (Falling change since) is =
          of-fate (sender plan (suc turn)) _ (Fallen change since (suc turn))
          (falling-shown plan turn (sender plan (suc turn)) since change (good_plan t) refl is)
          (elim (falling-acts t change since is) [
            | inl left ↦ inl left.0
            | inr sends ↦ inr sends.2
          ])
      by (Listening since) is = listening-next t (sender plan (suc turn)) (e-node t) since is
      by (Fallen change since shown) is =
          by-fallen change since shown is (is_armed_by plan (suc turn) (sender plan (suc turn))) refl

  -- Each node.
  pub node-next : (k : ℕ) → k < length list.slots → NextByFate t k
  node-next k node = elim (cases_eq (sender plan (suc turn)) k) [
    | inl own ↦
        subst (λ j. IsByFate list plan (suc turn) j (next_past (slot_of list script new numbers j))
        (fate_of plan (suc turn) j)) own own-next
    | inr other ↦ other-next k node other
  ]

  -- A node that is sound or listens has not left since it was armed last.

  there-unleft : (k : ℕ) (past : NodePast) (fate : Fate) → IsByFate list plan (suc turn) k past fate
      → is_there fate ≡ true → is_left_phase past.phase ≡ false
  there-unleft k past Sound at there = ap (λ (p : Phase). is_left_phase p) at.phase
  there-unleft k past (Listening since) at there = ap (λ (p : Phase). is_left_phase p) at.phase
  there-unleft k past _ at there = cc

  -- it was so before, unless it is armed now
  there-before : (k : ℕ) → k < length list.slots → is_there (fate_of plan (suc turn) k) ≡ true
      → is_armed script k (length (world list script numbers)) ≡ false → is_there (fate_of plan turn k) ≡ true
  there-before k node there unarmed = by (fate_of plan turn k) refl
    where
      apart : is_there (fate_of plan (suc turn) k) ≡ false → ⊥
      apart gone = both_ways (is_there (fate_of plan (suc turn) k)) gone there

      falling-apart : (change : Change) (since : ℕ) → fate_of plan turn k ≡ Falling change since → ⊥
      falling-apart change since is = elim (cases_eq (sender plan (suc turn)) k) [
        | inl own ↦ apart (ap is_there (falling-shown plan turn k since change (good_plan t) own is))
        | inr other ↦ apart (ap is_there (falling-stays plan turn k since change (good_plan t) other is))
      ]

      by : (fate : Fate) → fate_of plan turn k ≡ fate → is_there fate ≡ true
      by Sound is = refl
      by (Listening since) is = refl
      by Absent is = absurd (apart (ap is_there (absent-stays plan turn k (good_plan t) is)))
      by (Falling change since) is = absurd (falling-apart change since is)
      by (Fallen change since shown) is =
          let planned = sym (armed-planned t k node (ap is_lost is)) ∙ unarmed in
          absurd (apart (ap is_there (fallen-stays plan turn k since shown change (good_plan t) planned is)))

  stay-next : (k : ℕ) → k < length list.slots → is_there (fate_of plan (suc turn) k) ≡ true
      → has_left_since_arm script (world list script (new ∷ numbers)) k ≡ false
  stay-next k node there =
      left_since-next script (world list script numbers) _ k (ap (λ (e : Entry). is_left_after e) (entry_of-made list
      script (world list script numbers) (messages_chosen list script (length numbers) new.sent) k node)
      ∙ there-unleft k (next_past (slot_of list script new numbers k)) (fate_of plan (suc turn) k) (node-next k node)
      there) (λ unarmed. t.before.stay k node (there-before k node there unarmed))

  pub holds-next : HoldsAfter list script plan (suc turn) (world list script (new ∷ numbers))
  holds-next = record {
    nodes = λ k node. subst (λ (past : NodePast). IsByFate list plan (suc turn) k past (fate_of plan (suc turn) k))
        (sym (node_past-step list script (world list script numbers)
        (messages_chosen list script (length numbers) new.sent) k node)) (node-next k node);
    sent = sent-next t;
    ever_sent = ever_sent-next t;
    stay = stay-next;
  }

-- What nodes note in the slot of the start, and in each turn after it.

-- the slot of the start
pub started-by_plan : (list : Medl) (script : Script) (start : ClusterStart) (plan : FaultPlan) (new : SlotNumbers)
    (numbers : Numbers) → IsBegunAlone list script start plan → length numbers ≡ start.slot
    → StartedByPlan list script start plan (row_of_world list script new numbers) (world list script numbers)
started-by_plan list script start plan new numbers is now = record {
  number = length-world list script numbers ∙ now;
  starter = (starter-begun is new numbers now).entry;
  joins = λ k sound other. (joiner-begun is new numbers now k sound.0 other
      (on-begun is new numbers now k sound.0 sound.1)).entry;
}

module _ {list : Medl} {script : Script} {start : ClusterStart} {plan : FaultPlan} {turn : ℕ} {new : SlotNumbers}
    {numbers : Numbers} (t : IsTurn list script start plan turn new numbers) where
  -- what is so of the entry that a node makes is so of its entry in the row
  pub in-row : (P : Entry → Type 0) (k : ℕ) (e : Entry) → k < length list.slots
      → entry_made (slot_of list script new numbers k) ≡ e → P e → P (entry_of (row_of_world list script new numbers) k)
  in-row P k e node made holds =
      subst P (sym (entry_of-made list script (world list script numbers)
      (messages_chosen list script (length numbers) new.sent) k node ∙ made)) holds

  -- a sound node that does not enter in the turn was sound before
  pub fate-before : (k : ℕ) → enters plan (suc turn) k ≡ false → is_sound_after plan (suc turn) k ≡ true
      → fate_of plan turn k ≡ Sound
  fate-before k none sound =
      sound-fate (fate_of plan turn k) (sound-from plan (suc turn) k (fate_of plan turn k) none sound)

  -- and each was where none returns
  pub stayed-before : plan.returns ≡ [] → (k : ℕ) → is_sound_after plan (suc turn) k ≡ true
      → fate_of plan turn k ≡ Sound
  stayed-before stay k = fate-before k (none-enters plan (suc turn) k stay)

  -- the sender of a good slot was sound before it
  pub sender-before : is_good_slot plan (suc turn) ≡ true → fate_of plan turn (sender plan (suc turn)) ≡ Sound
  sender-before = fate-before (sender plan (suc turn)) (sender-stays plan (suc turn) (good_plan t))

  -- none enters in a slot that is not good
  pub wrong-stays : (k : ℕ) → is_good_slot plan (suc turn) ≡ false → enters plan (suc turn) k ≡ false
  wrong-stays k wrong =
      false_from_ne_true (enters plan (suc turn) k) (λ enter.
      both_ways (is_good_slot plan (suc turn)) wrong (entry-good plan (suc turn) k (good_plan t) enter).0)

  -- in its own slot a sound node sends
  pub own-sent : (k : ℕ) → IsSoundIn list plan (suc turn) k → sender plan (suc turn) ≡ k → (message : Option ℕ)
      × (entry_of (row_of_world list script new numbers) k ≡ entry.Sent message)
  own-sent k sound own =
      let sends = sender-before (ap (is_sound_after plan (suc turn)) own ∙ sound.1) in
      let owner = sound-owner t sends in
      let may = sound-sends owner in
      let sent = sent-own (slot_of list script new numbers (sender plan (suc turn))) owner.own may.closed may.more in
      subst (λ j. (message : Option ℕ) × (entry_of (row_of_world list script new numbers) j ≡ entry.Sent message)) own
      (_, entry_of-made list script (world list script numbers) _ (sender plan (suc turn)) owner.own.node ∙ sent.entry)

  -- in a good slot the sender sends, and each other sound node that does not enter judges its frame correct
  tells-good : (k : ℕ) → is_good_slot plan (suc turn) ≡ true → IsSoundIn list plan (suc turn) k
      → enters plan (suc turn) k ≡ false → TellsOf list script (world list script numbers) (sender plan (suc turn)) k
      (entry_of (row_of_world list script new numbers) k)
  tells-good k good_is sound none = elim (cases_eq (sender plan (suc turn)) k) [
    | inl own ↦
        subst (TellsOf list script (world list script numbers) (sender plan (suc turn)) k)
        (sym (own-sent k sound own).1) (sym own)
    | inr other ↦
        let judged = judges-good t k sound.0 other
        (fate-before k none sound.1) good_is (sender-before good_is) sound.1 in
        in-row (TellsOf list script (world list script numbers) (sender plan (suc turn)) k) k _ sound.0 judged.entry
        (refl, refl)
  ]

  -- in every other slot a sound node accepts no frame
  same-accepted : (correct : Bool) (before after seen seen_after : ℕ) → after ≡ cond correct 1 0 + before
      → before ≡ suc seen → after ≡ suc seen_after → seen_after ≡ 0 + seen → correct ≡ false
  same-accepted true before after seen seen_after judged was is same = absurd (omega arith)
  same-accepted false before after seen seen_after judged was is same = refl

  pub notes-other : (k : ℕ) → is_good_slot plan (suc turn) ≡ false → IsSoundIn list plan (suc turn) k
      → NotesNothing (entry_of (row_of_world list script new numbers) k)
  notes-other k wrong sound =
      let x = slot_of list script new numbers k in
      let other : sender plan (suc turn) ≢ k =
      λ own. both_ways (is_good_slot plan (suc turn)) wrong (ap (is_sound_after plan (suc turn)) own ∙ sound.1) in
      let judge = sound-judge t k sound.0 other (fate-before k (wrong-stays k wrong) sound.1) in
      let after : IsSoundAt list plan (suc turn) k (next_past x) =
      subst (λ (f : Fate). IsByFate list plan (suc turn) k (next_past x) f) (sound-fate _ sound.1)
      (node-next t k sound.0) in
      elim (judged-whatever x judge.judging) [
        | inl some ↦
            in-row NotesNothing k _ sound.0 some.1.1.entry (same-accepted (is_correct some.0) x.past.accepted
            (next_past x).accepted _ _ some.1.1.accepted judge.at.counted.accepted after.counted.accepted
            (ap (λ l. l.seen) (ledger-other plan turn k other (wrong-stays k wrong))
            ∙ ap (λ good. (with_slot good (is_first_slot plan (suc turn)) (ledger_of plan turn k)).seen) wrong))
        | inr left ↦ let both : phase.Active ≡ phase.Left = sym after.phase ∙ left.phase in cc
      ]

  pub noted-next : NotedInSlot list script plan (suc turn) (row_of_world list script new numbers)
      (world list script numbers)
  noted-next = record {
    good = tells-good;
    begins = λ k node entered.
        in-row (BeginsOn list script (world list script numbers) (sender plan (suc turn))
        (planned_place list plan (suc turn)) k) k _ node (entered-joins t k node entered).entry (refl, refl);
    other = notes-other;
    jumped = λ k since node jumped.
        let wrong = jumped-wrong t k node since jumped in
        in-row NotesNothing k _ node wrong.judged.entry wrong.wrong;
  }
