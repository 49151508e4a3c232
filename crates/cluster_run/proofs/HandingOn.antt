-- What a slot hands on to hosts: a controller may deliver it, and it is in the rings of the world after the slot.
use Rattle.cluster_run.proofs.Words.{◌≡◌, ◌≢◌, ℕ, ◌<◌, ◌≤◌, true, List, length, Option, Some, None, IfSome, refl, sym}
use Rattle.cluster_run.proofs.Words.{Medl, Chosen, Entry, Script, History, plan_at, chosen_of, frames_in, is_loaded}
use Rattle.cluster_run.proofs.Words.{node_past, slot_after, delivered_at, steps, ℤ, joinable, NodePast, is_armed, is_on}
use Rattle.cluster_run.proofs.Words.{hearing_in, node_after, node_of, sends_payload, node_of-slot_after}
use Rattle.cluster_run.proofs.Words.{entry_of-row_in, ◌+◌, [], ◌∷◌, map, set, get_or, ap, ◌∙◌, arith, get_or-set_same}
use Rattle.cluster_run.proofs.Words.{map-set, WriterState, Source, words_of_payload, Outcome, ControllerState}
use Rattle.cluster_run.proofs.Words.{source_place, at_source, written, written_at, HasRoom, IsNewest, Desk}
use Rattle.cluster_run.proofs.Words.{HaveHandedOn, delivered_to, handed_on, number_handed, outcome_of, rings_of}
use Rattle.cluster_run.proofs.Words.{desk_ends, desk_numbers, message_count, ◌++◌, is_some, map-append}
use Rattle.cluster_run.proofs.Words.{get_or-set_other, Message, Shape, delivered_of, new_messages, ring_messages}
use Rattle.cluster_run.proofs.Words.{status_words, incoming_shape, IsRingOf, ring_words, words_read, length-append}
use Rattle.cluster_run.proofs.Words.{get_or-map, cond, IsSomeAnd, option_map, eq-eqb, length-map, IsValid, word_count}
use Rattle.cluster_run.proofs.Words.{shape_of, MayHandOn, number_told, IsRing, ◌^◌, SLOT_LIMIT, in_messages}
use Rattle.cluster_run.proofs.Words.{number_delivered, plan_few, read_alike, within_list, written_rings}
use Rattle.ttp_world.specs.declared.node.Delivered.{Delivered}
use Rattle.ttp_world.specs.declared.node.Act.TheVariants.{Judge, Listen, Send}
use Rattle.ttp_world.specs.Reception.{Hearing, expected_length, expected_of, verdict_of, view_of}
use Rattle.ttp_world.specs.Conduct.{delivery, new_entry, payload_taken, verdict_entry}
use Rattle.ttp_world.proofs.DeliveredSizes.{carries, taken_size}
use Rattle.ttp_world.specs.declared.node.Act.{Act}
use Rattle.ttp_world.specs.declared.node.CState.{CState}
use Rattle.ttp_world.specs.declared.node.Verdict.{Verdict}
use Rattle.ttp_world.specs.Act.{coming_place}
use Rattle.ttp_world.proofs.EntriesMade.{listening_entry-holds}
use Rattle.controller.specs.ControllerWithin.{IsPossible}
use Rattle.cluster_run.proofs.FromBelow.{possible-at}
use Rattle.ttp_world.proofs.LegalNumbers.{ring_messages-few as few_came}
use Rattle.cluster_run.proofs.Changes.{AreChanged, changed_more}
use Rattle.cluster_run.proofs.Rings.{ring_more, ring_count, ring_takes, room_of}
use Rattle.ttp_world.specs.declared.node.Entry.TheVariants as entry
use Rattle.ttp_world.specs.declared.node.Verdict.TheVariants as verdict
use Rattle.ttp_world.specs.declared.script.Source.TheVariants as source

pub record IsDeliverable (list : Medl) (k : ℕ) (d : Delivered) : Type 0 where
  pub other : d.sender ≢ k
  pub some : 1 ≤ (plan_at list d.sender).payload
  pub size : length d.payload ≡ (plan_at list d.sender).payload

-- Where a node judges a frame, what is delivered of the frame can be handed on to its host.

judged : (list : Medl) (k : ℕ) (past : NodePast) (h : Hearing) (v : Verdict) (deviation : ℤ)
    → (coming_place list past).slot ≢ k
    → (v ≡ verdict.Correct
    → length (payload_taken list (expected_of list k past) h) ≡ expected_length list (coming_place list past))
    → IfSome (delivery list k past h (verdict_entry (coming_place list past).slot v deviation)) (IsDeliverable list k)
judged list k past h verdict.Correct deviation other size = grind steps
judged list k past h v deviation other size = tt

joined_nothing : (list : Medl) (k : ℕ) (past : NodePast) (h : Hearing) (c : Option CState)
    → IfSome c (λ c. (d : ℤ) → IfSome (delivery list k past h (entry.Joined c.slot c d)) (IsDeliverable list k))
joined_nothing list k past h None = tt
joined_nothing list k past h (Some c) = λ d. tt

made : (list : Medl) (k : ℕ) (past : NodePast) (chosen : Chosen) (h : Hearing) (does : Act)
    → (does ≡ Judge → (coming_place list past).slot ≢ k)
    → IfSome (delivery list k past h (new_entry list k past chosen h does)) (IsDeliverable list k)
made list k past chosen h Listen judges =
    listening_entry-holds (λ e. IfSome (delivery list k past h e) (IsDeliverable list k)) list h tt
    (λ bytes. joined_nothing list k past h (joinable list bytes))
made list k past chosen h Judge judges =
    let expected = expected_of list k past in
    judged list k past h
    (verdict_of (view_of list expected h.deviation h.a) (view_of list expected h.deviation h.b) past.ack)
    _ (judges refl) (taken_size list expected h past.ack)
made list k past chosen h does judges = tt

-- The world's slot.

-- node k in it does what it can do
possible : (list : Medl) (script : Script) (history : History) (k : ℕ)
    → IsPossible list k (node_after list script history k).past (node_after list script history k).act
possible list script history k =
    record { on = is_on script k (length history); armed = is_armed script k (length history); is = refl }

pub delivered-deliverable : (list : Medl) (script : Script) (history : History) (chosen : List Chosen) (r : ℕ)
    → r < length list.slots → IfSome (delivered_at (slot_after list script history) chosen r) (IsDeliverable list r)
delivered-deliverable list script history chosen r node =
    let s = slot_after list script history in
    rw (entry_of-row_in s chosen r node)
    (made list r (node_of s r).past (chosen_of chosen r) (hearing_in s (frames_in s chosen) r) (node_of s r).act
    (rw (node_of-slot_after list script history r node)
    (λ judges. possible-at list r _ Judge (rw judges at (possible list script history r)))))

-- A node whose frame carries a message has payload in the list.

loaded_at : (list : Medl) (k : ℕ) (past : NodePast) (does : Act) → IsPossible list k past does
    → sends_payload list past does ≡ true → 1 ≤ (plan_at list k).payload
loaded_at list k past Send can is =
    rw (← possible-at list k past Send can) (carries list (coming_place list past) is).some
loaded_at list k past does can is = absurd cc

pub loaded-payload : (list : Medl) (script : Script) (history : History) (k : ℕ) → k < length list.slots
    → is_loaded (slot_after list script history) k ≡ true → 1 ≤ (plan_at list k).payload
loaded-payload list script history k node =
    rw (node_of-slot_after list script history k node)
    (loaded_at list k (node_after list script history k).past _ (possible list script history k))

-- The number of a message that was just written.

newest_of_written : (w : Option WriterState) (words : List ℕ) (n : ℕ) → IsNewest (written w words) n
    → n ≡ message_count w
newest_of_written None words n newest = absurd newest
newest_of_written (Some w) words n newest = omega (arith, newest, length-append w.messages (words ∷ []))

pub number_written : (end : ControllerState) (from : Source) (words : List ℕ) (n : ℕ) → HasRoom (at_source end from)
    → IsNewest (at_source (written_at end from words) from) n → n ≡ message_count (at_source end from)
number_written end from words n room newest =
    let near = within_list HasRoom None end (source_place from) (λ none. none) room in
    grind (steps, get_or-set_same, newest_of_written)

rings_delivered : (end : ControllerState) (delivered : Option Delivered)
    → rings_of (delivered_to end delivered) ≡ rings_of end
rings_delivered end None = refl
rings_delivered end (Some got) = written_rings end (got.sender + 1) (words_of_payload got.payload)

-- what is handed on changes no ring
rings_handed : (end : ControllerState) (outcome : Outcome) → rings_of (handed_on end outcome) ≡ rings_of end
rings_handed end outcome = written_rings (delivered_to end outcome.delivered) 0 outcome.status.words
    ∙ rings_delivered end outcome.delivered

-- no desk
abbrev pub no_desk : Desk
no_desk = record { end = []; delivered = None }

-- a desk has handed on what the slot left
pub record HandsOn (outcomes : List Outcome) (j : ℕ) (old new : Desk) : Type 0 where
  pub end_is : new.end ≡ handed_on old.end (outcome_of outcomes j)
  pub number_is : new.delivered ≡ number_handed old.end (outcome_of outcomes j).delivered

-- the first have, so many, and the other desks are as they were
pub record AreHandedOn (outcomes : List Outcome) (k : ℕ) (old desks : List Desk) : Type 0 where
  pub rings : map rings_of (desk_ends desks) ≡ map rings_of (desk_ends old)
  pub changed : AreChanged (HandsOn outcomes) no_desk k old desks

pub handed_more : {outcomes : List Outcome} {k : ℕ} {old desks : List Desk} (desk new : Desk)
    → AreHandedOn outcomes k old desks → k < length desks → desk ≡ get_or desks k desk → HandsOn outcomes k desk new
    → AreHandedOn outcomes (k + 1) old (set desks k new)
handed_more {outcomes} {k} {old} {desks} desk new so near here by = record {
  rings = ap (map rings_of) (map-set (λ (d : Desk). d.end) desks k new)
      ∙ read_alike rings_of (desk_ends desks) k desk.end new.end
      (ap (λ (d : Desk). d.end) here ∙ sym (get_or-map (λ (d : Desk). d.end) desks k desk))
      (ap rings_of by.end_is ∙ rings_handed desk.end (outcome_of outcomes k)) ∙ so.rings;
  changed = changed_more desk new so.changed near here by;
}

-- all have
pub have_handed_on : {outcomes : List Outcome} {k : ℕ} {old desks : List Desk} → length old ≤ k
    → AreHandedOn outcomes k old desks → HaveHandedOn outcomes (desk_ends old) (desk_ends desks) (desk_numbers desks)
have_handed_on {outcomes} {k} {old} {desks} all so = grind steps

-- The ring that is written, and the others.

at_written : (end : ControllerState) (from : Source) (words : List ℕ)
    → at_source (written_at end from words) from ≡ written (at_source end from) words
at_written end from words = grind steps

at_other : (end : ControllerState) (from other : Source) (words : List ℕ) → source_place other ≢ source_place from
    → at_source (written_at end from words) other ≡ at_source end other
at_other end from other words ne =
    get_or-set_other end (source_place from) (source_place other) (written (at_source end from) words) None ne

-- One message more.

one_more : (shape : Option Shape) (messages : List (List ℕ)) (pairs : List Message) (w : Option WriterState)
    (words : List ℕ) → IsRingOf shape messages pairs w → IsRingOf shape (messages ++ words ∷ []) pairs (written w words)
one_more None messages pairs w words ring = ap (λ v. written v words) ring
one_more (Some shape) messages pairs None words ring = ring
one_more (Some shape) messages pairs (Some w) words ring = ring_more (words ∷ []) _ ring

-- What was delivered.

delivered_ring : (shape : Option Shape) (before : List (List ℕ)) (pairs : List Message) (end : ControllerState)
    (delivered : Option Delivered) (p : ℕ)
    → IsRingOf shape (map words_of_payload before) pairs (at_source end (source.Node p))
    → IsRingOf shape (map words_of_payload (before ++ new_messages p delivered)) pairs
    (at_source (delivered_to end delivered) (source.Node p))
delivered_ring shape before pairs end None p ring = grind steps
delivered_ring shape before pairs end (Some d) p ring = grind steps

status_stays : (end : ControllerState) (delivered : Option Delivered)
    → at_source (delivered_to end delivered) source.Status ≡ at_source end source.Status
status_stays end None = refl
status_stays end (Some d) = grind steps

-- What is handed on: a slot's payload and status, in the rings of the world with one row more.

pub record IsHandedOf (list : Medl) (script : Script) (row : List Entry) (before : History) (k : ℕ)
    (outcome : Outcome) : Type 0 where
  pub delivered : outcome.delivered ≡ delivered_of list script before row k
  pub status : outcome.status.words
      ≡ status_words list (length before) (node_past list script (row ∷ before) k)
      (is_some (delivered_of list script before row k))

pub handed_ring : {list : Medl} {script : Script} {row : List Entry} {before : History} {k : ℕ} {outcome : Outcome}
    (from : Source) (pairs : List Message) (end : ControllerState)
    → IsHandedOf list script row before k outcome
    → IsRingOf (incoming_shape list k from) (words_read list script before k from) pairs (at_source end from)
    → IsRingOf (incoming_shape list k from) (words_read list script (row ∷ before) k from) pairs
    (at_source (handed_on end outcome) from)
handed_ring {list} {script} {row} {before} {k} {outcome} source.Status pairs end handed ring =
    let d = outcome.delivered in
    rw (
      at_written (delivered_to end d) source.Status outcome.status.words,
      status_stays end d,
      map-append,
      ← handed.status,
    )
    (one_more (incoming_shape list k source.Status) (words_read list script before k source.Status) pairs
    (at_source end source.Status) outcome.status.words ring)
handed_ring {list} {script} {row} {before} {k} {outcome} (source.Node p) pairs end handed ring =
    let here = at_other (delivered_to end outcome.delivered) source.Status (source.Node p) outcome.status.words
    (λ same. absurd (omega (arith, same))) in
    rw (here, ← handed.delivered) (delivered_ring (incoming_shape list k (source.Node p))
    (ring_messages list script before k (source.Node p)) pairs end outcome.delivered p ring)

-- what a controller's end holds, as messages of the world
pub record HoldsCame (list : Medl) (script : Script) (history : History) (k : ℕ) (pairs : Source → List Message)
    (end : ControllerState) : Type 0 where
  pub each : (from : Source)
      → IsRingOf (incoming_shape list k from) (words_read list script history k from) (pairs from) (at_source end from)

few_words : (list : Medl) (script : Script) (history : History) (k : ℕ) (from : Source) → length history ≤ SLOT_LIMIT
    → length (words_read list script history k from) ≤ 2 ^ 62
few_words list script history k from few = grind (steps, few_came, length-map)

module _ {list : Medl} {script : Script} {history : History} {k : ℕ} {pairs : Source → List Message}
    {end : ControllerState} (holds : HoldsCame list script history k pairs end) where
  ring_from : (p : ℕ) → p ≢ k → 1 ≤ (plan_at list p).payload
      → IsSomeAnd (at_source end (source.Node p)) (IsRing (shape_of list (word_count (plan_at list p).payload))
      (words_read list script history k (source.Node p)) (pairs (source.Node p)))
  ring_from p other some = grind steps

  pub may_hand_on : (delivered : Option Delivered) → IsValid list → length history ≤ SLOT_LIMIT
      → IfSome delivered (IsDeliverable list k) → MayHandOn end delivered
  may_hand_on delivered valid few fine = record {
    status = room_of _ _ _ (at_source end source.Status) (holds.each source.Status)
        (few_words list script history k source.Status few);
    takes = λ d is.
        let one : IsDeliverable list k d = rw is at fine in
        ring_takes _ _ _ (at_source end (source.Node d.sender))
        (length d.payload) (ring_from d.sender one.other one.some)
        (omega (arith, one.size, plan_few list d.sender valid)) (ap word_count one.size);
    room = λ d is.
        let one : IsDeliverable list k d = rw is at fine in
        room_of _ _ _ (at_source end (source.Node d.sender)) (ring_from d.sender one.other one.some)
        (few_words list script history k (source.Node d.sender) few);
  }

  -- The number that is told of it is the one that it has in the world.

  number_of : (row : List Entry) (d : Delivered) → IsDeliverable list k d
      → delivered_of list script history row k ≡ Some d
      → message_count (at_source end (source.Node d.sender)) ≡ number_delivered list script (row ∷ history) k d
  number_of row d fine is =
      let p = d.sender in
      let before = in_messages list script history k p in
      let own : new_messages p (delivered_of list script history row k) ≡ d.payload ∷ [] =
      ap (new_messages p) is ∙ ap (λ b. cond b (d.payload ∷ []) []) (eq-eqb p p refl) in
      let count = ring_count _ _ _ (at_source end (source.Node p)) (ring_from p fine.other fine.some) in
      let words = length-map before (ring_words (source.Node p)) in
      let more = length-append before (new_messages p (delivered_of list script history row k)) in
      omega (arith, count, words, more, ap length own)

  pub number_is_told : (row : List Entry) (delivered : Option Delivered) → IfSome delivered (IsDeliverable list k)
      → delivered ≡ delivered_of list script history row k
      → number_handed end delivered ≡ number_told list script row history k
  number_is_told row None fine is = ap (option_map (number_delivered list script (row ∷ history) k)) is
  number_is_told row (Some d) fine is =
      ap Some (number_of row d fine (sym is)) ∙ ap (option_map (number_delivered list script (row ∷ history) k)) is
