-- What sound nodes deliver in a turn: of the frame of a good slot all others the same, and of no other slot anything.
use Rattle.safety_laws.proofs.Words.{◌≡◌, ◌≢◌, ℕ, suc, ◌<◌, Bool, true, false, cond, List, [], length, Some, None, ◌∷◌}
use Rattle.safety_laws.proofs.Words.{◌&&◌, refl, ap, sym, subst, ◌∙◌, inl, inr, get_or, Option, arith, cases_eq, ne_eqb}
use Rattle.safety_laws.proofs.Words.{false≢true, eq-eqb, Medl, Entry, Script, carries_payload, own_frame, payload_taken}
use Rattle.safety_laws.proofs.Words.{delivery, message_sent, History, entry_of, Place, next_place, ClusterStart, loses}
use Rattle.safety_laws.proofs.Words.{delivered_of, new_messages, message_of, NodePast, Hearing, expected_of}
use Rattle.safety_laws.proofs.Words.{expected_header, expected_length, BegunNode, BegunSlot, SlotNumbers, Numbers}
use Rattle.safety_laws.proofs.Words.{slot_after, frames_in, hearing_in, messages_chosen, world, legal-shapes}
use Rattle.safety_laws.proofs.Words.{node_of-slot_after, row_of_world, length-world, FaultPlan, sender, is_good_slot}
use Rattle.safety_laws.proofs.Words.{Sound, fate_of, planned_place, place-sender, payload_of_frame, delivery_at}
use Rattle.safety_laws.proofs.Words.{entry_made, NodeSlot, IsSoundIn, NotesNothing, IsTurn, get_or-map}
use Rattle.safety_laws.proofs.Words.{get_or-map-range_with_len, Chosen, frame, member_width, nothing_chosen}
use Rattle.safety_laws.proofs.Words.{message_chosen, message_given}
use Rattle.ttp_world.specs.declared.node.Entry.TheVariants as entry
use Rattle.ttp_world.specs.Conduct.{own_cstate}
use Rattle.ttp_world.specs.declared.node.Delivered.{Delivered}
use Rattle.ttp_world.specs.Messages.{messages_of}
use Rattle.ttp_world.specs.World.{node_of}
use Rattle.ttp_world.specs.World.{delivered_in}
use Rattle.ttp_world.proofs.Carried.{delivered_of-told}
use Rattle.safety_laws.specs.NodeSlot.{slot_place}
use Rattle.safety_laws.proofs.Deliveries.{delivers-correct}
use Rattle.safety_laws.proofs.NodeSlots.{entry_of-made}
use Rattle.safety_laws.proofs.OneSender.{comes-alone}
use Rattle.safety_laws.proofs.Arrivals.{sound-alone, sound-owner}
use Rattle.safety_laws.proofs.Receivers.{sound-judge, judges-good}
use Rattle.safety_laws.proofs.PlanTurns.{slot_of, slot_number, good_plan, IsSoundOwner, MaySend, sound-sends}
use Rattle.safety_laws.proofs.WorldSteps.{stayed-before, own-sent, notes-other, sender-before}
use Rattle.ttp_world.specs.Fitting.{payload_in}
use Rattle.safety_laws.proofs.FromBelow.{payload_in-frame}
use Rattle.safety_laws.specs.SameFrames.{payload_of_number}
use Rattle.safety_laws.proofs.OwnSlots.{act_made-sends, sent-own}
use Rattle.safety_laws.proofs.Payloads.{HasPayload-world}

-- One entry.

abbrev pub is_judgement : Entry → Bool
is_judgement (entry.Judged sender v deviation) = true
is_judgement _ = false

wrong-none : (list : Medl) (k : ℕ) (past : NodePast) (h : Hearing) (e : Entry) → NotesNothing e
    → delivery list k past h e ≡ None
wrong-none list k past h (entry.Judged sender v deviation) none =
    ap (λ b. cond (b && carries_payload list (next_place list past.place))
    (Some (record { sender = sender; payload = payload_taken list (expected_of list k past) h })) None) none
wrong-none list k past h _ none = absurd none

unjudged-none : (list : Medl) (k : ℕ) (past : NodePast) (h : Hearing) (e : Entry) → is_judgement e ≡ false
    → delivery list k past h e ≡ None
unjudged-none list k past h (entry.Judged sender v deviation) none = absurd (false≢true (sym none))
unjudged-none list k past h _ none = refl

-- by an entry that judges no frame correct nothing is delivered
module _ (list : Medl) (script : Script) (history : History) (row : List Entry) (k : ℕ) where
  s : BegunSlot
  s = slot_after list script history

  heard : Hearing
  heard = hearing_in s (frames_in s (messages_of list script (length history) row)) k

  delivers-wrong : NotesNothing (entry_of row k) → delivered_of list script history row k ≡ None
  unfolding s heard
  delivers-wrong none = wrong-none list k (node_of s k).past heard (entry_of row k) none

  pub delivers-unjudged : is_judgement (entry_of row k) ≡ false → delivered_of list script history row k ≡ None
  unfolding s heard
  delivers-unjudged none = unjudged-none list k (node_of s k).past heard (entry_of row k) none

-- of another node's frame nothing is told
other-none : (carries : Bool) (owner p : ℕ) (payload : List ℕ) → p ≢ owner
    → new_messages p (cond carries (Some (record { sender = owner; payload = payload })) None) ≡ []
other-none true owner p payload apart = ap (λ b. cond b (payload ∷ []) []) (ne_eqb owner p (λ same. apart (sym same)))
other-none false owner p payload apart = refl

module _ {list : Medl} {script : Script} {start : ClusterStart} {plan : FaultPlan} {turn : ℕ} {new : SlotNumbers}
    {numbers : Numbers} (t : IsTurn list script start plan turn new numbers) (stay : plan.returns ≡ []) where
  -- what a node delivers in the turn
  abbrev pub delivered : ℕ → Option Delivered
  delivered k = delivered_of list script (world list script numbers) (row_of_world list script new numbers) k

  -- what comes of a node's delivery in the row is what its slot makes
  delivered-made : (k : ℕ) → k < length list.slots →
      let x = slot_of list script new numbers k in
      delivered k ≡ delivery list k x.past x.hearing (entry_made x)
  delivered-made k node =
      let s = slot_after list script (world list script numbers) in
      let chosen = messages_chosen list script (length numbers) new.sent in
      let row = row_of_world list script new numbers in
      let x = slot_of list script new numbers k in
      let told = (legal-shapes list script (new ∷ numbers) t.legal).0.sent in
      delivered_of-told list script (world list script numbers) row k ∙ (λ i. delivered_in s
      (frames_in s (messages_chosen list script (length-world list script numbers i) (sym told i))) k (entry_of row k))
      ∙ ap (λ (n : BegunNode). delivery list k n.past (hearing_in s (frames_in s chosen) k) (entry_of row k))
      (node_of-slot_after list script (world list script numbers) k node) ∙ ap (delivery list k x.past x.hearing)
      (entry_of-made list script (world list script numbers) chosen k node)

  -- the frame of the turn's sender
  bytes : List ℕ
  bytes =
      let x = slot_of list script new numbers (sender plan (suc turn)) in
      own_frame list (sender plan (suc turn)) x.past x.chosen

  place : Place
  place = next_place list (planned_place list plan turn)

  -- in a good slot each sound node but the sender delivers the sender's payload
  delivers-good : (k : ℕ) → IsSoundIn list plan (suc turn) k → sender plan (suc turn) ≢ k
      → is_good_slot plan (suc turn) ≡ true → delivered k ≡ delivery_at list place bytes
  unfolding bytes place
  delivers-good k sound other good =
      let e = sender plan (suc turn) in
      let was = stayed-before t stay in
      let judge = sound-judge t k sound.0 other (was k sound.1) in
      let judged = judges-good t k sound.0 other (was k sound.1) good (was e good) sound.1 in
      let less = subst (λ n. k < n) (sym t.planned.follows.nodes) sound.0 in
      let kept =
      ap (λ n. loses script e n k) (slot_number t)
      ∙ (t.planned.follows.hearing (suc turn) t.within).heard k less (λ same. other (sym same)) good sound.1 in
      let comes = comes-alone k (sound-alone t (was e good)) kept in
      delivered-made k sound.0
      ∙ delivers-correct (slot_of list script new numbers k) _ _ judge.judging comes judged.entry
      ∙ ap (λ (p : Place). delivery_at list p bytes) (ap (next_place list) judge.at.place)

  owner : place.slot ≡ sender plan (suc turn)
  unfolding place
  owner = place-sender list plan (suc turn) t.planned.follows.nodes (good_plan t).starter.0

  -- of third nodes' frames each delivers the same
  planned_messages : ℕ → List (List ℕ)
  planned_messages p = new_messages p (cond (is_good_slot plan (suc turn)) (delivery_at list place bytes) None)

  messages-by_plan : (k p : ℕ) → IsSoundIn list plan (suc turn) k → p ≢ k → new_messages p (delivered k)
      ≡ planned_messages p
  unfolding planned_messages
  messages-by_plan k p sound apart = by (is_good_slot plan (suc turn)) refl
    where
      by : (good : Bool) → is_good_slot plan (suc turn) ≡ good → new_messages p (delivered k)
          ≡ new_messages p (cond (is_good_slot plan (suc turn)) (delivery_at list place bytes) None)
      by false wrong =
          ap (new_messages p) (delivers-wrong list script (world list script numbers)
          (row_of_world list script new numbers) k (notes-other t k wrong sound))
          ∙ ap (λ good. new_messages p (cond good (delivery_at list place bytes) None)) (sym wrong)
      by true good = elim (cases_eq (sender plan (suc turn)) k) [
        | inl own ↦
            ap (new_messages p) (delivers-unjudged list script (world list script numbers)
            (row_of_world list script new numbers) k (ap is_judgement (own-sent t k sound own).1))
            ∙ sym (other-none (carries_payload list place) place.slot p (payload_of_frame list place bytes)
            (λ same. apart (same ∙ owner ∙ own)))
            ∙ ap (λ good. new_messages p (cond good (delivery_at list place bytes) None)) (sym good)
        | inr other ↦
            ap (new_messages p) (delivers-good k sound other good)
            ∙ ap (λ good. new_messages p (cond good (delivery_at list place bytes) None)) (sym good)
      ]

  pub messages-alike : (j k p : ℕ) → IsSoundIn list plan (suc turn) j → IsSoundIn list plan (suc turn) k → p ≢ j → p ≢ k
      → new_messages p (delivered j) ≡ new_messages p (delivered k)
  messages-alike j k p sound_j sound_k apart_j apart_k =
      messages-by_plan j p sound_j apart_j ∙ sym (messages-by_plan k p sound_k apart_k)

  -- of a node that does not send nothing is delivered, and of one's own frame neither
  planned-other : (p : ℕ) → sender plan (suc turn) ≢ p → planned_messages p ≡ []
  unfolding planned_messages
  planned-other p apart = by (is_good_slot plan (suc turn)) refl
    where
      by : (good : Bool) → is_good_slot plan (suc turn) ≡ good
          → new_messages p (cond (is_good_slot plan (suc turn)) (delivery_at list place bytes) None) ≡ []
      by false wrong = ap (λ good. new_messages p (cond good (delivery_at list place bytes) None)) wrong
      by true good =
          ap (λ good. new_messages p (cond good (delivery_at list place bytes) None)) good
          ∙ other-none (carries_payload list place) place.slot p (payload_of_frame list place bytes)
          (λ same. apart (sym (same ∙ owner)))

  pub messages-other : (k p : ℕ) → IsSoundIn list plan (suc turn) k → p ≢ k → sender plan (suc turn) ≢ p
      → new_messages p (delivered k) ≡ []
  messages-other k p sound apart other = messages-by_plan k p sound apart ∙ planned-other p other

  pub messages-own : (k : ℕ) → IsSoundIn list plan (suc turn) k → new_messages k (delivered k) ≡ []
  messages-own k sound = elim (cases_eq (sender plan (suc turn)) k) [
    | inl own ↦
        ap (new_messages k) (delivers-unjudged list script (world list script numbers)
        (row_of_world list script new numbers) k (ap is_judgement (own-sent t k sound own).1))
    | inr other ↦ by (is_good_slot plan (suc turn)) refl other
  ]
    where
      by : (good : Bool) → is_good_slot plan (suc turn) ≡ good → sender plan (suc turn) ≢ k → new_messages k
          (delivered k) ≡ []
      by false wrong other =
          ap (new_messages k) (delivers-wrong list script (world list script numbers)
          (row_of_world list script new numbers) k (notes-other t k wrong sound))
      by true good other =
          ap (new_messages k) (delivers-good k sound other good)
          ∙ other-none (carries_payload list place) place.slot k (payload_of_frame list place bytes)
          (λ same. other (sym (same ∙ owner)))

  pub delivers-frame : (k : ℕ) → IsSoundIn list plan (suc turn) k → sender plan (suc turn) ≢ k
      → is_good_slot plan (suc turn) ≡ true →
      let x = slot_of list script new numbers (sender plan (suc turn)) in
      delivered k ≡ delivery_at list (next_place list (planned_place list plan turn))
      (own_frame list (sender plan (suc turn)) x.past x.chosen)
  unfolding bytes place
  delivers-frame k sound other good = delivers-good k sound other good

-- What a sound node sends is what each other sound node's host gets of it.

-- the payload of a frame is what its sender put into it
payload-of_own : (x : NodeSlot) → carries_payload x.list (slot_place x) ≡ true
    → length x.chosen.payload ≡ expected_length x.list (slot_place x)
    → payload_of_frame x.list (slot_place x) (own_frame x.list x.node x.past x.chosen) ≡ x.chosen.payload
payload-of_own x carries fits =
    let width = member_width x.list in
    let header = expected_header x.list (slot_place x) in
    let cstate = own_cstate x.list x.node x.past in
    ap (λ b. payload_in width header (expected_length x.list (slot_place x))
    (frame width header cstate (cond b x.chosen.payload []) x.list.schedule)) carries
    ∙ ap (λ n. payload_in width header n (frame width header cstate x.chosen.payload x.list.schedule)) (sym fits)
    ∙ payload_in-frame width header cstate x.chosen.payload x.list.schedule

module _ {list : Medl} {script : Script} {start : ClusterStart} {plan : FaultPlan} {turn : ℕ} {new : SlotNumbers}
    {numbers : Numbers} (t : IsTurn list script start plan turn new numbers) (stay : plan.returns ≡ [])
    (good : is_good_slot plan (suc turn) ≡ true) where
  row : List Entry
  row = row_of_world list script new numbers

  e : ℕ
  e = sender plan (suc turn)

  x : NodeSlot
  x = slot_of list script new numbers (sender plan (suc turn))

  sends : fate_of plan turn (sender plan (suc turn)) ≡ Sound
  sends = sender-before t good

  good-owner : IsSoundOwner plan turn (slot_of list script new numbers (sender plan (suc turn)))
  good-owner = sound-owner t sends

  may : MaySend (slot_of list script new numbers (sender plan (suc turn)))
  may = sound-sends good-owner

  entry_is : entry_of row e ≡ entry.Sent (message_sent list (slot_place x) x.chosen)
  unfolding row e x
  entry_is =
      entry_of-made list script (world list script numbers) (messages_chosen list script (length numbers) new.sent)
      (sender plan (suc turn)) good-owner.own.node ∙ (sent-own _ good-owner.own may.closed may.more).entry

  chosen_is : x.chosen ≡ message_chosen list script (length numbers) e (message_of (entry_of row e))
  unfolding row e x
  chosen_is =
      get_or-map-range_with_len (λ j. message_chosen list script (length numbers) j (get_or new.sent j None)) 0
      (length list.slots) (sender plan (suc turn)) (sender plan (suc turn)) nothing_chosen
      good-owner.own.node (omega arith)
      ∙ ap (message_chosen list script (length numbers) (sender plan (suc turn)))
      (ap (λ (ns : List (Option ℕ)). get_or ns (sender plan (suc turn)) None)
      (legal-shapes list script (new ∷ numbers) t.legal).0.sent
      ∙ get_or-map message_of (row_of_world list script new numbers) (sender plan (suc turn)) entry.Off)

  fits : carries_payload list (slot_place x) ≡ true → length x.chosen.payload ≡ expected_length list (slot_place x)
  unfolding x
  fits =
      HasPayload-world list script new numbers (sender plan (suc turn)) t.planned.script_valid t.legal
      good-owner.own.node
      good-owner.own.own (act_made-sends _ good-owner.own may.closed may.more)

  -- what its frame delivers
  gives : new_messages e (delivery_at list (slot_place x) (own_frame list e x.past x.chosen))
      ≡ payload_of_number list script (length numbers) e (message_sent list (slot_place x) x.chosen)
  unfolding e x row
  gives = by (carries_payload list (slot_place x)) refl
    where
      by : (carries : Bool) → carries_payload list (slot_place x) ≡ carries
          → new_messages e (delivery_at list (slot_place x) (own_frame list e x.past x.chosen))
          ≡ payload_of_number list script (length numbers) e (message_sent list (slot_place x) x.chosen)
      by true carries =
          let bytes = own_frame list e x.past x.chosen in
          let place = slot_place x in
          let told : message_of (entry_of row e) ≡ Some x.chosen.number =
          ap message_of entry_is ∙ ap (λ b. cond b (Some x.chosen.number) None) carries in
          ap (λ b. new_messages e
          (cond b (Some (record { sender = place.slot; payload = payload_of_frame list place bytes })) None)) carries
          ∙ ap (λ b. cond b (payload_of_frame list place bytes ∷ []) []) (eq-eqb place.slot e good-owner.own.own)
          ∙ ap (λ (p : List ℕ). p ∷ []) (payload-of_own x carries (fits carries))
          ∙ ap (λ (c : Chosen). c.payload ∷ []) (chosen_is ∙ ap (message_chosen list script (length numbers) e) told)
          ∙ ap (λ b. payload_of_number list script (length numbers) e
          (cond b (Some x.chosen.number) None)) (sym carries)
      by false carries =
          let place = slot_place x in
          ap (λ b. new_messages e (cond b (Some (record {
            sender = place.slot;
            payload = payload_of_frame list place (own_frame list e x.past x.chosen);
          })) None)) carries
          ∙ ap (λ b. payload_of_number list script (length numbers) e
          (cond b (Some x.chosen.number) None)) (sym carries)

  pub given-good : (j : ℕ) → IsSoundIn list plan (suc turn) j → sender plan (suc turn) ≢ j
      → new_messages (sender plan (suc turn)) (delivered t stay j)
      ≡ message_given list script (length numbers) (sender plan (suc turn))
      (entry_of (row_of_world list script new numbers) (sender plan (suc turn)))
  unfolding e x row
  given-good j sound other =
      ap (new_messages e) (delivers-frame t stay j sound other good
      ∙ ap (λ (p : Place). delivery_at list (next_place list p) (own_frame list e x.past x.chosen))
      (sym good-owner.at.place)) ∙ gives
      ∙ ap (payload_of_number list script (length numbers) e) (sym (ap message_of entry_is))
