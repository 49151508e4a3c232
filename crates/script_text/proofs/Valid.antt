-- What lines without a fault state is valid, with each statement more.
use Rattle.script_text.proofs.Terms.{◌≡◌, ℕ, ◌+◌, ◌<◌, ◌≤◌, ◌==◌, ◌&&◌, Bool, true, false, List, [], ◌∷◌, ◌++◌, Option}
use Rattle.script_text.proofs.Terms.{Some, None, is_some, unwrap_or, arith, refl, ap, ◌∙◌, if◌then◌else◌, All, IfSome}
use Rattle.script_text.proofs.Terms.{count_by, option_or, leb-true, nat_tests, common_steps, append-nil, Medl, Script}
use Rattle.script_text.proofs.Terms.{SLOT_LIMIT, DRIFT_LIMIT, IsValid, IsValidEvent, IsWithinSpan, LineFault, Keyword}
use Rattle.script_text.proofs.Terms.{word_at, value_in, digit_bytes_in, Statement, says_slots, says_event, statement_of}
use Rattle.script_text.proofs.Terms.{number_at_word, slots_of, on_of, drift_stated, events_of, statement_has_payload}
use Rattle.script_text.proofs.Terms.{is_write_at, when, event_has_nodes, event_is_in_range, is_after_slots}
use Rattle.script_text.proofs.Terms.{statement_faults, stated_faults, is_event_form, is_uncounted}
use Rattle.std.proofs.lemmas.Bool.{leb-false}
use Rattle.std.proofs.lemmas.List.Elements.{All-nil, All-cons, All-append}
use Rattle.ttp_world.specs.declared.script.Event.TheVariants as event
use Rattle.script_text.specs.declared.error.LineFault.TheVariants as faults
use Rattle.script_text.specs.declared.keyword.Keyword.TheVariants as keyword
use Rattle.script_text.specs.Faults.{stated_slots, has_nodes}
use Rattle.script_text.specs.Faults.{is_in_range}
use Rattle.script_text.specs.Faults.{is_repeat, is_write, fills_buffers}
use Rattle.script_text.specs.Faults.{fault_unless}
use Rattle.script_text.proofs.ValidEvents.{within_span, stated_valid}
use Rattle.script_text.proofs.Kept.{event_stated, event_form, not_write, count_one, count_none}

-- each thing that was stated is in its range, for a list
pub record AreValid (list : Medl) (said : List Statement) : Type 0 where
  pub slots : IfSome (slots_of said) (λ count. (1 ≤ count) × (count ≤ SLOT_LIMIT))
  pub on : (k : ℕ) → IfSome (on_of said k) (λ slot. slot < stated_slots said)
  pub drift : (k : ℕ) → IfSome (drift_stated said k) (IsWithinSpan DRIFT_LIMIT)
  pub events : (script : Script) → script.slots ≡ stated_slots said → All (IsValidEvent list script) (events_of said)
  pub after_slots : slots_of said ≡ None → events_of said ≡ []
  pub writes : (k t : ℕ) → count_by (is_write_at k t) said < list.buffers

pub AreValid-none : (list : Medl) → IsValid list → AreValid list []
AreValid-none list right = record {
  slots = tt;
  on = λ k. tt;
  drift = λ k. tt;
  events = λ script same. All-nil (IsValidEvent list script);
  after_slots = λ none. refl;
  writes = λ k t. right.buffers.0;
}

-- where the run has no slots, none lies before its end
before_end : (on : Option ℕ) (slots n : ℕ) → slots ≡ 0 → IfSome on (λ slot. slot < slots) → IfSome on (λ slot. slot < n)
before_end None slots n none before = tt
before_end (Some slot) slots n none before = absurd (omega arith)

slots_valid : (list : Medl) (words : List (List ℕ)) (said : List Statement)
    → stated_faults list said words keyword.Slots ≡ []
    → (slots_of said ≡ None) × (1 ≤ number_at_word words 1) × (number_at_word words 1 ≤ SLOT_LIMIT)
unfolding stated_faults statement_faults
slots_valid list words said none = (
  grind (arith, common_steps, nat_tests),
  grind (arith, common_steps, nat_tests),
  grind (arith, common_steps, nat_tests),
)

AreValid-slots : (list : Medl) (words : List (List ℕ)) (said : List Statement)
    → stated_faults list said words keyword.Slots ≡ [] → AreValid list said
    → AreValid list (says_slots (number_at_word words 1) ∷ said)
AreValid-slots list words said none valid =
    let right = slots_valid list words said none in
    let no_events = valid.after_slots right.0 in
    record {
      slots = (right.1, right.2);
      on = λ k. before_end (on_of said k) (stated_slots said) (number_at_word words 1)
          (ap (λ (slots : Option ℕ). unwrap_or slots 0) right.0) (valid.on k);
      drift = valid.drift;
      events = λ script same. rw no_events (All-nil (IsValidEvent list script));
      after_slots = λ none. cc;
      writes = valid.writes;
    }

-- what is said of one node more, or else of all nodes before
said_or : {X : Type 0} (P : X → Type 0) (b : Bool) (x : X) (old : Option X) → P x → IfSome old P
    → IfSome (option_or (if b then Some x else None) old) P
said_or P true x old new before = new
said_or P false x old new before = before

-- the tests of nodes, payload and ranges, of which the last three of these faults tell
faults_right : (numbers nodes payload range : Bool)
    → fault_unless numbers faults.Number
    ++ (fault_unless nodes faults.NoNode
    ++ (fault_unless payload faults.NoData ++ fault_unless range faults.Range)) ≡ []
    → (nodes ≡ true) × (range ≡ true) × (payload ≡ true)
faults_right true true true true none = (refl, refl, refl)
faults_right false nodes payload range none = cc
faults_right true false payload range none = cc
faults_right true true false range none = cc
faults_right true true true false none = cc

-- no fault in two parts
parts_none : (front more : List LineFault) → front ++ more ≡ [] → (front ≡ []) × (more ≡ [])
parts_none [] more none = (refl, none)
parts_none (fault ∷ front) more none = cc

statement_right : (list : Medl) (said : List Statement) (words : List (List ℕ)) (form : Keyword)
    → stated_faults list said words form ≡ []
    → (has_nodes list (statement_of form words) ≡ true)
    × (is_in_range list (stated_slots said) words (statement_of form words) ≡ true)
    × (statement_has_payload list (statement_of form words) ≡ true)
unfolding stated_faults statement_faults
statement_right list said words form none = faults_right _ _ _ _ (parts_none _ _ none).0

-- the last test, of which the third of these faults tells
when-none : (holds : Bool) (fault : LineFault) → when holds fault ≡ [] → holds ≡ false
when-none true fault none = cc
when-none false fault none = refl

room_right : (repeat one fills : Bool)
    → when repeat faults.Repeat ++ (when one faults.NoBuffer ++ when fills faults.TooMany) ≡ [] → fills ≡ false
room_right true one fills none = cc
room_right false true fills none = cc
room_right false false fills none = when-none fills faults.TooMany none

write_room : (list : Medl) (said : List Statement) (words : List (List ℕ))
    → stated_faults list said words keyword.Write ≡ []
    → fills_buffers list said (statement_of keyword.Write words) ≡ false
unfolding stated_faults statement_faults
write_room list said words none =
    let statement = statement_of keyword.Write words in
    room_right (is_repeat said statement) (is_write statement && (list.buffers == 1))
    (fills_buffers list said statement) (parts_none (statement_faults list
    (stated_slots said) words keyword.Write) _ none).1

write_right : (list : Medl) (said : List Statement) (words : List (List ℕ))
    → stated_faults list said words keyword.Write ≡ []
    → count_by (is_write_at (number_at_word words 1) (number_at_word words 2)) said + 1 < list.buffers
write_right list said words none = leb-false list.buffers _ (write_room list said words none)

AreValid-on : (list : Medl) (words : List (List ℕ)) (said : List Statement)
    → stated_faults list said words keyword.On ≡ [] → AreValid list said
    → AreValid list (statement_of keyword.On words ∷ said)
AreValid-on list words said none valid =
    let right = statement_right list said words keyword.On none in
    record {
      slots = valid.slots;
      on = λ k. said_or (λ slot. slot < stated_slots said) (number_at_word words 1 == k) (number_at_word words 2)
          (on_of said k)
          (leb-true _ _ right.1) (valid.on k);
      drift = valid.drift;
      events = λ script same. rw append-nil (valid.events script same);
      after_slots = λ none. append-nil _ ∙ valid.after_slots none;
      writes = valid.writes;
    }

AreValid-drift : (list : Medl) (words : List (List ℕ)) (said : List Statement)
    → stated_faults list said words keyword.Drift ≡ [] → AreValid list said
    → AreValid list (statement_of keyword.Drift words ∷ said)
AreValid-drift list words said none valid =
    let right = statement_right list said words keyword.Drift none in
    record {
      slots = valid.slots;
      on = valid.on;
      drift = λ k. said_or (IsWithinSpan DRIFT_LIMIT) (number_at_word words 1 == k) (value_in (word_at words 2))
          (drift_stated said k) (within_span DRIFT_LIMIT _ right.1) (valid.drift k);
      events = λ script same. rw append-nil (valid.events script same);
      after_slots = λ none. append-nil _ ∙ valid.after_slots none;
      writes = valid.writes;
    }

has_slots : (form : Keyword) (slots : Option ℕ) → is_event_form form ≡ true → is_after_slots form slots ≡ true
    → is_some slots ≡ true
has_slots form slots of_event after = grind (arith, common_steps)

-- an event more, be it that it is counted among writes
AreValid-event : (list : Medl) (words : List (List ℕ)) (said : List Statement) (form : Keyword)
    → is_event_form form ≡ true → is_after_slots form (slots_of said) ≡ true → stated_faults list said words form ≡ []
    → ((k t : ℕ) → count_by (is_write_at k t) (statement_of form words ∷ said) < list.buffers)
    → AreValid list said → AreValid list (statement_of form words ∷ said)
AreValid-event list words said form of_event after none writes valid =
    let stated = event_stated form words of_event in
    let right = statement_right list said words form none in
    let some = has_slots form (slots_of said) of_event after in
    let nodes : event_has_nodes list stated.event ≡ true = rw stated.says at right.0 in
    let range : event_is_in_range list (stated_slots said) words stated.event ≡ true = rw stated.says at right.1 in
    let payload : statement_has_payload list (says_event stated.event) ≡ true = rw stated.says at right.2 in
    record {
      slots = rw stated.says valid.slots;
      on = rw stated.says valid.on;
      drift = rw stated.says valid.drift;
      events = rw stated.says (λ script same. All-append (IsValidEvent list script) (events_of said) (stated.event ∷ [])
          (valid.events script same)
          (All-cons (IsValidEvent list script) stated.event []
          (stated_valid list script (stated_slots said) words form stated.event stated.says same nodes range payload)
          (All-nil (IsValidEvent list script))));
      after_slots = rw stated.says (λ none. cc);
      writes = writes;
    }

AreValid-uncounted : (list : Medl) (words : List (List ℕ)) (said : List Statement) (form : Keyword)
    → is_uncounted form ≡ true → is_after_slots form (slots_of said) ≡ true → stated_faults list said words form ≡ []
    → AreValid list said → AreValid list (statement_of form words ∷ said)
AreValid-uncounted list words said form of_event after none valid =
    AreValid-event list words said form (event_form form of_event) after none
    (λ k t. omega (
      arith,
      count_none (is_write_at k t) (statement_of form words) said (not_write form words k t of_event),
      valid.writes k t,
    ))
    valid

-- a write more, in its slot and in others
one_write_more : (said : List Statement) (buffers node slot k t : ℕ) (payload : List ℕ) (here : Bool)
    → ((node == k) && (slot == t)) ≡ here → count_by (is_write_at node slot) said + 1 < buffers
    → count_by (is_write_at k t) said < buffers
    → count_by (is_write_at k t) (says_event (event.Write node slot payload) ∷ said) < buffers
one_write_more said buffers node slot k t payload true here room few =
    let node_is : node ≡ k = grind (arith, nat_tests) in
    let slot_is : slot ≡ t = grind (arith, nat_tests) in
    let room' : count_by (is_write_at k t) said + 1 < buffers = rw (node_is, slot_is) at room in
    omega (arith, room', count_one (is_write_at k t) (says_event (event.Write node slot payload)) said true here)
one_write_more said buffers node slot k t payload false here room few =
    omega (arith, few, count_none (is_write_at k t) (says_event (event.Write node slot payload)) said here)

AreValid-write : (list : Medl) (words : List (List ℕ)) (said : List Statement)
    → is_after_slots keyword.Write (slots_of said) ≡ true → stated_faults list said words keyword.Write ≡ []
    → AreValid list said → AreValid list (statement_of keyword.Write words ∷ said)
AreValid-write list words said after none valid =
    AreValid-event list words said keyword.Write refl after none
    (λ k t. one_write_more said list.buffers (number_at_word words 1) (number_at_word words 2) k t
    (digit_bytes_in (word_at words 3)) ((number_at_word words 1 == k) && (number_at_word words 2 == t)) refl
    (write_right list said words none) (valid.writes k t))
    valid

pub AreValid-form : (list : Medl) (words : List (List ℕ)) (said : List Statement) (form : Keyword)
    → is_after_slots form (slots_of said) ≡ true → stated_faults list said words form ≡ []
    → AreValid list said → AreValid list (statement_of form words ∷ said)
AreValid-form list words said keyword.Slots after none valid = AreValid-slots list words said none valid
AreValid-form list words said keyword.On after none valid = AreValid-on list words said none valid
AreValid-form list words said keyword.Drift after none valid = AreValid-drift list words said none valid
AreValid-form list words said keyword.Send after none valid =
    AreValid-uncounted list words said keyword.Send refl after none valid
AreValid-form list words said keyword.Receive after none valid =
    AreValid-uncounted list words said keyword.Receive refl after none valid
AreValid-form list words said keyword.Flip after none valid =
    AreValid-uncounted list words said keyword.Flip refl after none valid
AreValid-form list words said keyword.Error after none valid =
    AreValid-uncounted list words said keyword.Error refl after none valid
AreValid-form list words said keyword.Jump after none valid =
    AreValid-uncounted list words said keyword.Jump refl after none valid
AreValid-form list words said keyword.Arm after none valid =
    AreValid-uncounted list words said keyword.Arm refl after none valid
AreValid-form list words said keyword.Write after none valid = AreValid-write list words said after none valid
AreValid-form list words said keyword.Read after none valid =
    AreValid-uncounted list words said keyword.Read refl after none valid
