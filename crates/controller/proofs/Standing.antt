-- What a controller stands for at each turn of a slot: what it keeps is all that the rules ask of its node's past.
use Rattle.controller.proofs.Words.{◌≡◌, ◌≢◌, ℕ, zero, ◌+◌, ◌≤◌, min, ℤ, ◌+ℤ◌, Bool, true, false, cond, ◌&&◌, List, []}
use Rattle.controller.proofs.Words.{◌∷◌, length, take, refl, ap, sym, ◌∙◌, arith, ◌<◌, None, Option, subst, suc}
use Rattle.controller.proofs.Words.{is_some, ◌++◌, nat_le, nat_tests, length-take, Medl, Act, Start, Listen, Send, Off}
use Rattle.controller.proofs.Words.{Chosen, Delivered, Entry, Phase, act, phase_act, coming_place, past_after}
use Rattle.controller.proofs.Words.{notes_after, correction_after, place_after, node_frames, new_entry, delivery}
use Rattle.controller.proofs.Words.{carries_payload, Place, SlotSurroundings, Diary, Surroundings, IsValid}
use Rattle.controller.proofs.Words.{status_words, NodePast, past_of, jump_taken, nodes-most, kept_notes, Arrival}
use Rattle.controller.proofs.Words.{Outcome, EndsAs, hearing_of, is_silent_arrival, kept, intent_by, message_carried}
use Rattle.controller.proofs.Words.{Turn, Ended, Begun, Planned, ControllerView, turn_intent, cond_both, take-take}
use Rattle.controller.proofs.Words.{silent_slots_after, is_active_entry, may_follow, may_start, Intent, slot_change}
use Rattle.controller.proofs.Words.{join_deviation, notes_in, begins_round}
use Rattle.ttp_world.specs.Reception.{Hearing}
use Rattle.controller.specs.ControllerWithin.{IsPossible, IsPlannedWithin, IsControllerWithin, IsTurnWithin}
use Rattle.controller.specs.StandsFor.{message_planned, payload_planned, Begins, Plans, frames_planned, most_slots}
use Rattle.controller.specs.StandsFor.{Ends}
use Rattle.ttp_world.proofs.Entries.{new_entry-follows}
use Rattle.ttp_world.proofs.Pasts.{past_of-cons}
use Rattle.node_parts.specs.Listening.{most_silent}
use Rattle.controller.proofs.Heard.{silence-shown}
use Rattle.controller.proofs.Stints.{limit_of-within, correction_after-take}
use Rattle.ttp_world.specs.declared.node.Entry.TheVariants as entry
use Rattle.ttp_world.specs.declared.node.Phase.TheVariants as phase
use Rattle.controller.specs.declared.controller.Intent.TheVariants as intent

-- Silent slots.

silent_slots_after-kept : (count : ℕ) (e : Entry) (silent : Bool)
    → min (silent_slots_after (min count most_silent) e silent) most_silent
    ≡ min (silent_slots_after count e silent) most_silent
silent_slots_after-kept count entry.Waited true = omega arith
silent_slots_after-kept count entry.Waited false = refl
silent_slots_after-kept count _ silent = refl

-- Notes.

-- the last of some notes put before the last of others, of which as many or more are kept
take-put : (n m : ℕ) (more notes : List ℤ) → n ≤ m → take n (more ++ take m notes) ≡ take n (more ++ notes)
take-put zero m more notes few = refl
take-put (suc n) m (x ∷ more) notes few =
    ap (λ (xs : List ℤ). x ∷ xs) (take-put n m more notes (omega (arith, few)))
take-put n m [] notes few = take-take n m notes few

take-noted : (more notes : List ℤ) (begins active : Bool)
    → take 4 (cond active (more ++ cond begins [] (take 4 notes)) [])
    ≡ take 4 (cond active (more ++ cond begins [] notes) [])
take-noted more notes begins false = refl
take-noted more notes true true = refl
take-noted more notes false true = take-put 4 4 more notes (omega arith)

pub notes_after-kept : (list : Medl) (notes : List ℤ) (place : Place) (e : Entry)
    → take kept_notes (notes_after list (take kept_notes notes) place e)
    ≡ take kept_notes (notes_after list notes place e)
notes_after-kept list notes place e =
    take-noted (notes_in list place e) notes (begins_round place e) (is_active_entry e)

correction_after-kept : (list : Medl) (place : Place) (notes : List ℤ) (e : Entry)
    → correction_after list place (notes_after list (take kept_notes notes) place e) e
    ≡ correction_after list place (notes_after list notes place e) e
correction_after-kept list place notes e =
    sym (correction_after-take list place (notes_after list (take kept_notes notes) place e) e)
    ∙ ap (λ ns. correction_after list place ns e) (notes_after-kept list notes place e)
    ∙ correction_after-take list place (notes_after list notes place e) e

-- One more entry of what is kept.

pub kept_after-kept : (list : Medl) (k : ℕ) (past : NodePast) (e : Entry) (s : SlotSurroundings)
    → kept (past_after list k (kept past) e s) ≡ kept (past_after list k past e s)
kept_after-kept list k past e s =
    let place = place_after list k past.place e in
    λ i. record (kept (past_after list k past e s)) {
      silent_slots = silent_slots_after-kept past.silent_slots e s.is_silent i;
      offset = past.offset +ℤ slot_change e s (correction_after-kept list place past.notes e i);
      notes = notes_after-kept list past.notes place e i;
    }

-- What a node does.

due-kept : (limit count : ℕ) → limit ≤ 65535 → nat_le limit (min count 65535) ≡ nat_le limit count
due-kept limit count few = grind (arith, nat_tests)

phase_act-kept : (p : Phase) (list : Medl) (k : ℕ) (on armed : Bool) (past : NodePast) → past.limit ≤ most_silent
    → phase_act p list k on armed (kept past) ≡ phase_act p list k on armed past
phase_act-kept phase.Listening list k on armed past few =
    ap (λ due. cond (may_start list k && due) Start Listen) (due-kept past.limit past.silent_slots few)
phase_act-kept _ list k on armed past few = refl

-- What it sends, and what it makes of what it hears.

pub record DecidesAlike (list : Medl) (k : ℕ) (past : NodePast) (chosen : Chosen) (does : Act) : Type 0 where
  pub message : message_planned list (kept past) chosen does ≡ message_planned list past chosen does
  pub payload : payload_planned list (kept past) chosen does ≡ payload_planned list past chosen does
  pub frames : node_frames list k (kept past) chosen does ≡ node_frames list k past chosen does
  pub entry : (h : Hearing) → new_entry list k (kept past) chosen h does ≡ new_entry list k past chosen h does

pub decides-alike : (list : Medl) (k : ℕ) (past : NodePast) (chosen : Chosen) (does : Act)
    → DecidesAlike list k past chosen does
decides-alike list k past chosen Send = record { message = refl; payload = refl; frames = refl; entry = λ h. refl }
decides-alike list k past chosen _ = record { message = refl; payload = refl; frames = refl; entry = λ h. refl }

pub delivery-kept : (list : Medl) (k : ℕ) (past : NodePast) (h : Hearing) (e : Entry)
    → delivery list k (kept past) h e ≡ delivery list k past h e
delivery-kept list k past h (entry.Judged sender v deviation) = refl
delivery-kept list k past h _ = refl

-- What is shown and published.

enough-kept : (notes : List ℤ) → nat_le 4 (length (take 4 notes)) ≡ nat_le 4 (length notes)
enough-kept notes = grind (arith, nat_tests, length-take)

pub status_words-kept : (list : Medl) (slot : ℕ) (past : NodePast) (delivers : Bool)
    → status_words list slot (kept past) delivers ≡ status_words list slot past delivers
status_words-kept list slot past delivers = rw (enough-kept past.notes) refl

-- a controller at a turn
abbrev pub view_at : Medl → ℕ → NodePast → ℕ → Turn → ControllerView
view_at list k past slots now = record { list = list; node = k; past = past; slots = slots; turn = now }

-- The beginning.

-- what a node does by what its controller keeps is what it does by its diary
pub act_kept-of : (list : Medl) (k : ℕ) (on armed : Bool) (past : NodePast) (diary : Diary)
    (surroundings : Surroundings) → IsValid list → k < length list.slots
    → past ≡ kept (past_of list k diary surroundings)
    → act list k on armed past ≡ act list k on armed (past_of list k diary surroundings)
act_kept-of list k on armed past diary surroundings valid node is =
    ap (act list k on armed) is
    ∙ phase_act-kept (past_of list k diary surroundings).phase list k on armed (past_of list k diary surroundings)
    (omega (arith, limit_of-within list k diary node, nodes-most list valid))

pub Begins-turn : {list : Medl} {k : ℕ} {past : NodePast} {now : Turn} {sends : Intent} (slots : ℕ) (on armed : Bool)
    (jump : ℤ) (does : Act) (jumped : ℤ) → IsControllerWithin list k past now sends
    → does ≡ act list k on armed past → jumped ≡ jump_taken does jump
    → Begins (view_at list k past slots now) (view_at list k past slots (Begun does jumped)) on armed jump
Begins-turn {list} {k} {past} slots on armed jump does jumped within is taken = λ diary surroundings stands.
    let done = is ∙ act_kept-of list k on armed past diary surroundings within.valid within.node stands.past in
    record {
      past = stands.past;
      slots = stands.slots;
      turn = λ i. Begun (done i) ((taken ∙ ap (λ a. jump_taken a jump) done) i);
    }

-- The plan.

-- what is told of a frame with payload or of one without is told of either
pub loaded_or_bare : {X : Type 0} (f : Intent → X) (loads : Bool)
    → f (cond loads intent.Loaded intent.Bare) ≡ cond loads (f intent.Loaded) (f intent.Bare)
loaded_or_bare f true = refl
loaded_or_bare f false = refl

-- what a node sends tells the message in its frame
message_carried-planned : (list : Medl) (past : NodePast) (chosen : Chosen) (does : Act)
    → message_carried (intent_by list past does) chosen.number ≡ message_planned list past chosen does
message_carried-planned list past chosen Send =
    loaded_or_bare (λ wanted. message_carried wanted chosen.number) (carries_payload list (coming_place list past))
message_carried-planned list past chosen _ = refl

-- the frame of node k, of whatever was chosen with this payload
abbrev pub IsFrameOf : Medl → ℕ → NodePast → Act → List ℕ → Option (List ℕ) → Type 0
IsFrameOf list k past does payload planned =
    (chosen : Chosen) → payload_planned list past chosen does ≡ payload
    → frames_planned k planned ≡ node_frames list k past chosen does

-- where it sends nothing, there is none
pub nothing-sent : (list : Medl) (k : ℕ) (past : NodePast) (does : Act) → intent_by list past does ≡ intent.Quiet
    → IsFrameOf list k past does [] None
nothing-sent list k past Start quiet chosen paid = absurd cc
nothing-sent list k past Send quiet chosen paid =
    absurd (cond_both (carries_payload list (coming_place list past)) intent.Loaded intent.Bare
    (λ sends. sends ≢ intent.Quiet) (λ loaded same. cc) (λ bare same. cc) quiet)
nothing-sent list k past _ quiet chosen paid = refl

-- what a controller that has begun a slot was to send
sends-begun : {list : Medl} {k : ℕ} {past : NodePast} {now : Turn} {sends : Intent} {does : Act} {jumped : ℤ}
    → IsControllerWithin list k past now sends → now ≡ Begun does jumped → sends ≡ intent_by list past does
sends-begun {list} {past = past} within begun = within.intent ∙ ap (turn_intent list past) begun

module _ {list : Medl} where
  -- once it has planned, it has nothing more to send
  pub planned-within :
      {k : ℕ} {past : NodePast} {now : Turn} {sends left : Intent} {does : Act} {jumped again : ℤ} {message : Option ℕ}
      (number : ℕ)
      → IsControllerWithin list k past now sends → now ≡ Begun does jumped → again ≡ jumped
      → message ≡ message_carried sends number → left ≡ intent.Quiet
      → IsControllerWithin list k past (Planned does again message) left
  planned-within {k} {past} {does = does} number within begun same carries quiet = rw same (record {
    valid = within.valid;
    node = within.node;
    within = within.within;
    clock = within.clock;
    turn = record {
      begun = subst (IsTurnWithin list k past) begun within.turn;
      chosen = record { number = number; payload = [] };
      carries = carries ∙ ap (λ wanted. message_carried wanted number) (sends-begun within begun)
          ∙ message_carried-planned list past (record { number = number; payload = [] }) does;
    };
    intent = quiet;
  })

module _ {list : Medl} {k : ℕ} {past : NodePast} where
  pub Plans-turn :
      {now : Turn} {sends : Intent} {does : Act} {jumped : ℤ} (slots : ℕ) (again : ℤ) (number : ℕ) (payload : List ℕ)
      (message : Option ℕ) (planned : Option (List ℕ))
      → IsControllerWithin list k past now sends → now ≡ Begun does jumped → again ≡ jumped
      → message ≡ message_carried sends number → IsFrameOf list k past does payload planned
      → Plans (view_at list k past slots now) (view_at list k past slots (Planned does again message)) number payload
      planned
  Plans-turn {does = does} {jumped = jumped} slots again number payload message planned within begun same carries
      frames = λ diary surroundings a jump chosen stands numbered paid.
      let read = past_of list k diary surroundings in
      let turns = sym begun ∙ stands.turn in
      let acts : does ≡ a = cc in
      let jumps : jumped ≡ jump = cc in
      let alike = decides-alike list k read chosen a in
      let carried =
      carries
      ∙ (λ i. message_carried (sends-begun within begun i) (sym numbered i))
      ∙ message_carried-planned list past chosen does
      ∙ (λ i. message_planned list (stands.past i) chosen (acts i))
      ∙ alike.message in
      let asked = (λ i. payload_planned list (stands.past i) chosen (acts i)) ∙ alike.payload ∙ paid in
      record {
        frames = frames chosen asked ∙ (λ i. node_frames list k (stands.past i) chosen (acts i)) ∙ alike.frames;
        stands = record {
          past = stands.past;
          slots = stands.slots;
          turn = λ i. Planned (acts i) ((same ∙ jumps) i) (carried i);
        };
      }

-- What comes from outside matters by its silence, and by how it changes the clock.

past_after-outside : (list : Medl) (k : ℕ) (past : NodePast) (e : Entry) (x y : SlotSurroundings)
    → x.is_silent ≡ y.is_silent → ((corrected : ℤ) → slot_change e x corrected ≡ slot_change e y corrected)
    → past_after list k past e x ≡ past_after list k past e y
past_after-outside list k past e x y silent changes =
    let after = past_after list k past e x in
    λ i. record after {
      silent_slots = silent_slots_after past.silent_slots e (silent i);
      offset = past.offset +ℤ changes (correction_after list after.place after.notes e) i;
    }

same_change : (e : Entry) (x y : SlotSurroundings) (corrected : ℤ) → x.jump ≡ y.jump → x.drift ≡ y.drift
    → slot_change e x corrected ≡ slot_change e y corrected
same_change entry.Off x y corrected jump drift = refl
same_change e x y corrected jump drift = λ i. jump i +ℤ (drift i +ℤ (join_deviation e +ℤ corrected))

-- the jump that a node takes is the slot's, or it is off and makes that entry
taken_change : (list : Medl) (k : ℕ) (past : NodePast) (chosen : Chosen) (h : Hearing) (does : Act)
    (x s : SlotSurroundings) (corrected : ℤ) → x.jump ≡ jump_taken does s.jump → x.drift ≡ s.drift
    → slot_change (new_entry list k past chosen h does) x corrected
    ≡ slot_change (new_entry list k past chosen h does) s corrected
taken_change list k past chosen h Off x s corrected jump drift = refl
taken_change list k past chosen h does x s corrected jump drift =
    same_change (new_entry list k past chosen h does) x s corrected jump drift

-- Counting slots.

one_slot : (slots n most : ℕ) → slots ≡ min n most → min (slots + 1) most ≡ min (suc n) most
one_slot slots n most is = omega (arith, is)

-- The diary with one more entry.

read_next : (list : Medl) (k : ℕ) (past : NodePast) (diary : Diary) (surroundings : Surroundings) (does : Act)
    (chosen : Chosen) (h : Hearing) (s : SlotSurroundings)
    → IsValid list → k < length list.slots → past ≡ kept (past_of list k diary surroundings)
    → IsPossible list k past does →
    let e = new_entry list k (past_of list k diary surroundings) chosen h does in
    past_of list k (e ∷ diary) (s ∷ surroundings) ≡ past_after list k (past_of list k diary surroundings) e s
read_next list k past diary surroundings does chosen h s valid node is possible =
    let read = past_of list k diary surroundings in
    let done = possible.is ∙ act_kept-of list k possible.on possible.armed past diary surroundings valid node is in
    let follows = subst (λ a. may_follow diary (new_entry list k read chosen h a) ≡ true) (sym done)
    (new_entry-follows list k possible.on possible.armed diary surroundings chosen h) in
    past_of-cons list k diary surroundings (new_entry list k read chosen h does) s follows

module _ {list : Medl} {k : ℕ} {past : NodePast} {now : Turn} {sends : Intent} {does : Act} {jump : ℤ}
    {message : Option ℕ} (slots : ℕ) (new : NodePast) (ended : ℕ) (outcome : Outcome) where
  pub Ends-controller : (made : Entry) (handed : Option Delivered) (a b : Arrival) (error drift : ℤ) (silent : Bool)
      → IsControllerWithin list k past now sends → now ≡ Planned does jump message
      → EndsAs made handed list k past does message a b (past.offset +ℤ jump) error
      → silent ≡ (is_silent_arrival a && is_silent_arrival b)
      → new ≡ kept (past_after list k past made (record { jump = jump; drift = drift; is_silent = silent }))
      → ended ≡ min (slots + 1) most_slots → outcome.delivered ≡ handed
      → outcome.status.words ≡ status_words list slots new (is_some handed)
      → Ends (view_at list k past slots now) (view_at list k new ended Ended) outcome a b error drift
  Ends-controller made handed a b error drift silent within turn ends quiet_is entered counted delivered status =
      λ diary surroundings there jumped chosen sent_a sent_b clock s stands shown_a shown_b around.
      let x : SlotSurroundings = record { jump = jump; drift = drift; is_silent = silent } in
      let planned : IsPlannedWithin list k past does jump message = subst (IsTurnWithin list k past) turn within.turn in
      let read = past_of list k diary surroundings in
      let turns = sym turn ∙ stands.turn in
      let acts : does ≡ there = cc in
      let alike = decides-alike list k read chosen there in
      let same : jump ≡ jumped = cc in
      let carried : message ≡ message_planned list read chosen there = cc in
      let own : (past.offset +ℤ jump) ≡ (read.offset +ℤ jumped) = λ i. (stands.past i).offset +ℤ same i in
      let h = hearing_of sent_a sent_b clock (read.offset +ℤ jumped) error in
      let carries = carried ∙ sym (alike.message)
      ∙ (λ i. message_planned list (sym stands.past i) chosen (sym acts i)) in
      let is = ends chosen carries sent_a sent_b clock shown_a shown_b in
      let from_kept = (λ i. new_entry list k (stands.past i) chosen (hearing_of sent_a sent_b clock (own i) error)
      (acts i)) ∙ alike.entry h in
      let e = new_entry list k read chosen h there in
      let makes = is.entry ∙ from_kept in
      let possible = subst (IsPossible list k past) acts planned.begun.possible in
      let quiet = quiet_is ∙ (λ i. silence-shown a sent_a clock shown_a i && silence-shown b sent_b clock shown_b i)
      ∙ sym around.silent in
      let changes : (corrected : ℤ) → slot_change e x corrected ≡ slot_change e s corrected =
      λ corrected. taken_change list k read chosen h there x s corrected (same ∙ around.jump) (sym around.drift) in
      let next = read_next list k past diary surroundings there chosen h s within.valid within.node stands.past
      possible in
      let kept_new =
      entered
      ∙ (λ i. kept (past_after list k (stands.past i) (makes i) x))
      ∙ kept_after-kept list k read e x
      ∙ ap kept (past_after-outside list k read e x s quiet changes)
      ∙ ap kept (sym next) in
      let hands =
      is.delivered
      ∙ (λ i. delivery list k (stands.past i) (hearing_of sent_a sent_b clock (own i) error)
      (new_entry list k (stands.past i) chosen (hearing_of sent_a sent_b clock (own i) error) (acts i)))
      ∙ (λ i. delivery list k (kept read) h (alike.entry h i))
      ∙ delivery-kept list k read h e in
      record {
        stands = record {
          past = kept_new;
          slots = counted ∙ one_slot slots (length diary) most_slots stands.slots;
          turn = refl;
        };
        delivered = delivered ∙ hands;
        status = λ few.
            let all : slots ≡ length diary = omega (arith, stands.slots, few) in
            status
            ∙ (λ i. status_words list (all i) (kept_new i)
            (is_some (hands i)))
            ∙ status_words-kept list (length diary) (past_of list k (e ∷ diary) (s ∷ surroundings))
            (is_some (delivery list k read h e));
      }
