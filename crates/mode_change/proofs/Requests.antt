-- Nodes of a group that accept the same frames are asked for the same modes.
use Rattle.std.proofs.Common.{◌≡◌, ◌≢◌, ℕ, Bool, true, false, cond, ◌&&◌, List, [], ◌∷◌, length, Option, Some, None}
use Rattle.std.proofs.Common.{IfSome, refl, ap, sym, subst, ◌∙◌, inl, inr}
use Rattle.std.specs.Prelude.{◌==◌, ◌-◌}
use Rattle.std.specs.Option.{option_or}
use Rattle.std.proofs.lemmas.Bool.{and_parts, cases_eq, eq-eqb, eqb-true, false≢true}
use Rattle.ttp_world.specs.declared.medl.Medl.{Medl}
use Rattle.ttp_world.specs.declared.node.Delivered.{Delivered}
use Rattle.ttp_world.specs.declared.node.Entry.{Entry}
use Rattle.ttp_world.specs.declared.node.Entry.TheVariants as entry
use Rattle.ttp_world.specs.declared.script.Script.{Script}
use Rattle.ttp_world.specs.Acknowledgement.{is_correct}
use Rattle.ttp_world.specs.Act.{coming_place}
use Rattle.ttp_world.specs.Conduct.{carries_payload, payload_taken, delivery}
use Rattle.ttp_world.specs.Diary.{History, entry_of, continues_stint}
use Rattle.ttp_world.specs.Medl.{plan_at}
use Rattle.ttp_world.specs.Messages.{message_of, messages_of, delivered_of, new_messages}
use Rattle.ttp_world.specs.Outgoing.{message_chosen}
use Rattle.ttp_world.specs.Past.{NodePast}
use Rattle.ttp_world.specs.Reception.{Hearing, expected_of}
use Rattle.ttp_world.specs.World.{slot_after, node_of, frames_in, hearing_in}
use Rattle.precision.specs.Together.{IsIn}
use Rattle.safety_laws.specs.SameFrames.{accepts, sends_frame, payload_of_number, message_given, AcceptsAlike}
use Rattle.safety_laws.specs.SameFrames.{begins_at_zero}
use Rattle.mode_change.specs.Modes.{mode_asked, mode_sent, mode_delivered, mode_requested}

-- One entry.

-- it sent no frame
record IsUnsent (e : Entry) : Type 0 where
  message : message_of e ≡ None
  asks : (list : Medl) (script : Script) (slot k : ℕ) → mode_sent list script slot k e ≡ None

-- with it a stint goes on
data GoesOn (e : Entry) : Type 0 where
  Sends : (message : Option ℕ) → e ≡ entry.Sent message → GoesOn e
  Judges : IsUnsent e → GoesOn e

goes-on : (e : Entry) → continues_stint e ≡ true → GoesOn e
goes-on (entry.Sent message) on = Sends message refl
goes-on (entry.Judged sender v deviation) on =
    Judges (record { message = refl; asks = λ list script slot k. refl })
goes-on _ on = absurd (false≢true on)

-- What is delivered by an entry.

module _ (list : Medl) (script : Script) (row : List Entry) (history : History) (k : ℕ) where
  past : NodePast
  past = (node_of (slot_after list script history) k).past

  heard : Hearing
  heard =
      let s = slot_after list script history in
      hearing_in s (frames_in s (messages_of list script (length history) row)) k

  delivered-by : (e : Entry) → entry_of row k ≡ e
      → delivered_of list script history row k ≡ delivery list k past heard e
  unfolding past heard
  delivered-by e is = ap (delivery list k past heard) is

  pub sends-nothing : (message : Option ℕ) → entry_of row k ≡ entry.Sent message
      → delivered_of list script history row k ≡ None
  sends-nothing message is = delivered-by (entry.Sent message) is

  begins-with : (e : Entry) → begins_at_zero e ≡ true → delivery list k past heard e ≡ None
  begins-with (entry.Judged sender v deviation) begins = absurd (false≢true begins)
  begins-with _ begins = refl

  sent-with : (e : Entry) → begins_at_zero e ≡ true → mode_sent list script (length history) k e ≡ None
  sent-with (entry.Sent message) begins = absurd (false≢true begins)
  sent-with _ begins = refl

  -- where a stint begins nothing is asked for
  pub begins-unasked : begins_at_zero (entry_of row k) ≡ true → mode_requested list script row history k ≡ None
  begins-unasked begins =
      ap (λ a. option_or a (mode_delivered list (delivered_of list script history row k)))
      (sent-with (entry_of row k) begins)
      ∙ ap (mode_delivered list) (delivered-by (entry_of row k) refl ∙ begins-with (entry_of row k) begins)

  sender-of : (b : Bool) (p : ℕ) (payload : List ℕ)
      → IfSome (cond b (Some (record { sender = p; payload = payload })) None) (λ (d : Delivered). d.sender ≡ p)
  sender-of true p payload = refl
  sender-of false p payload = tt

  -- of a frame that was accepted, its sender's message
  accepted-sender : (p : ℕ) (e : Entry) → accepts p e ≡ true
      → IfSome (delivery list k past heard e) (λ (d : Delivered). d.sender ≡ p)
  accepted-sender p (entry.Judged sender v deviation) is =
      let same : sender ≡ p = eqb-true sender p (and_parts (sender == p) (is_correct v) is).0 in
      subst (λ q. IfSome (delivery list k past heard (entry.Judged sender v deviation))
      (λ (d : Delivered). d.sender ≡ q))
      same
      (sender-of (is_correct v && carries_payload list (coming_place list past)) sender
      (payload_taken list (expected_of list k past) heard))
  accepted-sender p _ is = absurd (false≢true is)

  pub delivers-sender : (p : ℕ) → accepts p (entry_of row k) ≡ true
      → IfSome (delivered_of list script history row k) (λ (d : Delivered). d.sender ≡ p)
  delivers-sender p is =
      subst (λ (o : Option Delivered). IfSome o (λ (d : Delivered). d.sender ≡ p))
      (sym (delivered-by (entry_of row k) refl)) (accepted-sender p (entry_of row k) is)

-- What is asked for.

pub asked-nothing : (list : Medl) (p : ℕ) → mode_asked list p [] ≡ None
asked-nothing list p = by (plan_at list p).requests (Some (0 - 1))
  where
    by : (requests : Bool) (mode : Option ℕ) → cond (requests && false) mode None ≡ None
    by true mode = refl
    by false mode = refl

-- a delivery of what was sent asks for what was sent
asks-sent : (list : Medl) (script : Script) (slot p : ℕ) (message : Option ℕ) (o : Option Delivered)
    → IfSome o (λ (d : Delivered). d.sender ≡ p) → new_messages p o ≡ payload_of_number list script slot p message
    → mode_delivered list o ≡ mode_asked list p (message_chosen list script slot p message).payload
asks-sent list script slot p None None from same = sym (asked-nothing list p)
asks-sent list script slot p (Some i) None from same = cc
asks-sent list script slot p None (Some d) from same =
    let told : d.payload ∷ [] ≡ [] =
    ap (λ b. cond b (d.payload ∷ []) []) (sym (eq-eqb d.sender p from)) ∙ same in
    cc
asks-sent list script slot p (Some i) (Some d) from same =
    let told : d.payload ∷ [] ≡ (message_chosen list script slot p (Some i)).payload ∷ [] =
    ap (λ b. cond b (d.payload ∷ []) []) (sym (eq-eqb d.sender p from)) ∙ same in
    let payload : d.payload ≡ (message_chosen list script slot p (Some i)).payload = cc in
    (λ j. mode_asked list (from j) (payload j))

-- deliveries that tell the same of each sender ask for the same
asks-same : (list : Medl) (a b : Option Delivered) → ((p : ℕ) → new_messages p a ≡ new_messages p b)
    → mode_delivered list a ≡ mode_delivered list b
asks-same list None None same = refl
asks-same list (Some d) None same =
    let told : d.payload ∷ [] ≡ [] =
    ap (λ b. cond b (d.payload ∷ []) []) (sym (eq-eqb d.sender d.sender refl)) ∙ same d.sender in
    cc
asks-same list None (Some d) same =
    let told : d.payload ∷ [] ≡ [] =
    ap (λ b. cond b (d.payload ∷ []) []) (sym (eq-eqb d.sender d.sender refl)) ∙ sym (same d.sender) in
    cc
asks-same list (Some c) (Some d) same =
    by (d.sender == c.sender) refl
    (ap (λ b. cond b (c.payload ∷ []) []) (sym (eq-eqb c.sender c.sender refl)) ∙ same c.sender)
  where
    by : (is : Bool) → (d.sender == c.sender) ≡ is
        → c.payload ∷ [] ≡ cond (d.sender == c.sender) (d.payload ∷ []) []
        → mode_delivered list (Some c) ≡ mode_delivered list (Some d)
    by true is told =
        let both : c.payload ∷ [] ≡ d.payload ∷ [] = told ∙ ap (λ b. cond b (d.payload ∷ []) []) is in
        let payload : c.payload ≡ d.payload = cc in
        (λ j. mode_asked list (sym (eqb-true d.sender c.sender is) j) (payload j))
    by false is told =
        let none : c.payload ∷ [] ≡ [] = told ∙ ap (λ b. cond b (d.payload ∷ []) []) is in
        cc

pub or-none : (a : Option ℕ) → option_or a None ≡ a
or-none None = refl
or-none (Some m) = refl

-- by an entry that accepts a frame none was sent
accepts-unsent : (list : Medl) (script : Script) (slot p k : ℕ) (e : Entry) → accepts p e ≡ true
    → mode_sent list script slot k e ≡ None
accepts-unsent list script slot p k (entry.Sent message) is = absurd (false≢true is)
accepts-unsent list script slot p k _ is = refl

-- Two nodes of a group.

module _ (list : Medl) (script : Script) (group : ℕ → Bool) (row : List Entry) (history : History)
    (alike : AcceptsAlike list script group row history) where
  -- what the one sends the other accepts
  sent-requests : (j k : ℕ) → IsIn list group j → IsIn list group k → j ≢ k → (message : Option ℕ)
      → entry_of row j ≡ entry.Sent message
      → mode_requested list script row history j ≡ mode_requested list script row history k
  sent-requests j k of_j of_k apart message is =
      let slot = length history in
      let asked = mode_asked list j (message_chosen list script slot j message).payload in
      let accepted : accepts j (entry_of row k) ≡ true =
      alike.sent k j of_k of_j (λ same. apart (sym same)) (ap sends_frame is) in
      ap (λ (e : Entry). option_or (mode_sent list script slot j e)
      (mode_delivered list (delivered_of list script history row j))) is
      ∙ ap (λ (o : Option Delivered). option_or asked (mode_delivered list o))
      (sends-nothing list script row history j message is)
      ∙ or-none asked
      ∙ sym (asks-sent list script slot j message (delivered_of list script history row k)
      (delivers-sender list script row history k j accepted)
      (alike.given k j of_k of_j (λ same. apart (sym same)) ∙ ap (message_given list script slot j) is))
      ∙ ap (λ a. option_or a (mode_delivered list (delivered_of list script history row k)))
      (sym (accepts-unsent list script slot j k (entry_of row k) accepted))

  -- Two nodes that send nothing accept the same messages of third nodes.
  same-messages : (j k : ℕ) → IsIn list group j → IsIn list group k → j ≢ k → message_of (entry_of row j) ≡ None
      → message_of (entry_of row k) ≡ None → (p : ℕ)
      → new_messages p (delivered_of list script history row j)
      ≡ new_messages p (delivered_of list script history row k)
  same-messages j k of_j of_k apart quiet_j quiet_k p = elim (cases_eq p j) [
    | inl same ↦
        ap (λ q. new_messages q (delivered_of list script history row j)) same ∙ alike.own j of_j
        ∙ ap (payload_of_number list script (length history) j) (sym quiet_j)
        ∙ sym (alike.given k j of_k of_j (λ same. apart (sym same)))
        ∙ ap (λ q. new_messages q (delivered_of list script history row k)) (sym same)
    | inr other_j ↦ elim (cases_eq p k) [
      | inl same ↦
          ap (λ q. new_messages q (delivered_of list script history row j)) same ∙ alike.given j k of_j of_k apart
          ∙ ap (payload_of_number list script (length history) k) quiet_k
          ∙ sym (alike.own k of_k)
          ∙ ap (λ q. new_messages q (delivered_of list script history row k)) (sym same)
      | inr other_k ↦ alike.received j k p of_j of_k other_j other_k
    ]
  ]

  judged-requests : (j k : ℕ) → IsIn list group j → IsIn list group k → j ≢ k → IsUnsent (entry_of row j)
      → IsUnsent (entry_of row k)
      → mode_requested list script row history j ≡ mode_requested list script row history k
  judged-requests j k of_j of_k apart unsent_j unsent_k =
      ap (λ a. option_or a (mode_delivered list (delivered_of list script history row j)))
      (unsent_j.asks list script (length history) j)
      ∙ asks-same list (delivered_of list script history row j) (delivered_of list script history row k)
      (same-messages j k of_j of_k apart unsent_j.message unsent_k.message)
      ∙ ap (λ a. option_or a (mode_delivered list (delivered_of list script history row k)))
      (sym (unsent_k.asks list script (length history) k))

  pub same-requests : (j k : ℕ) → IsIn list group j → IsIn list group k → j ≢ k
      → continues_stint (entry_of row j) ≡ true → continues_stint (entry_of row k) ≡ true
      → mode_requested list script row history j ≡ mode_requested list script row history k
  same-requests j k of_j of_k apart on_j on_k = by (goes-on (entry_of row j) on_j) (goes-on (entry_of row k) on_k)
    where
      by : GoesOn (entry_of row j) → GoesOn (entry_of row k)
          → mode_requested list script row history j ≡ mode_requested list script row history k
      by (Sends message is) on = sent-requests j k of_j of_k apart message is
      by (Judges unsent) (Sends message is) =
          sym (sent-requests k j of_k of_j (λ same. apart (sym same)) message is)
      by (Judges unsent_j) (Judges unsent_k) = judged-requests j k of_j of_k apart unsent_j unsent_k
