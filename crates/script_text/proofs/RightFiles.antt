-- A file without a fault: what its lines state is a valid script, and has no more events than fit into its bytes.
use Rattle.script_text.proofs.Terms.{◌≡◌, ◌⊎◌, ℕ, ◌+◌, ◌*◌, ◌≤◌, ◌==◌, ◌&&◌, ℤ, pos, Bool, true, false, cond, List, []}
use Rattle.script_text.proofs.Terms.{◌∷◌, ◌++◌, length, get_or, Option, Some, None, is_some, unwrap_or, Result, Ok, Err}
use Rattle.script_text.proofs.Terms.{arith, refl, ap, sym, ◌∙◌, suc, lit≤, inl, inr, if◌then◌else◌, All, IfSome}
use Rattle.script_text.proofs.Terms.{count_by, common_steps, append-nil, length-map-range_with_len, below, Medl, Event}
use Rattle.script_text.proofs.Terms.{Script, SLOT_LIMIT, DRIFT_LIMIT, EVENT_LIMIT, IsValid, IsWithinSpan, IsBounded}
use Rattle.script_text.proofs.Terms.{LineFault, ScriptError, Keyword, lines_of_file, words_of_line, word_at, Statement}
use Rattle.script_text.proofs.Terms.{says_slots, says_on, says_drift, says_event, keyword_of, is_spelled, statement_of}
use Rattle.script_text.proofs.Terms.{slots_of, on_of, drift_stated, events_of, is_write_at, is_after_slots}
use Rattle.script_text.proofs.Terms.{stated_faults, form_faults, keyword_faults, line_faults, statements_after}
use Rattle.script_text.proofs.Terms.{errors_at, end_faults, script_faults, statements_of, stated_script}
use Rattle.script_text.proofs.Terms.{script_or_fault, lines_script, script_of, is_event_form}
use Rattle.std.proofs.Common.{length-append}
use Rattle.std.proofs.Common.{option_to_list}
use Rattle.std.specs.Prelude.{IfOk}
use Rattle.std.specs.List.{filter_map, cons_option}
use Rattle.std.proofs.lemmas.List.Elements.{All-map, filter_map-append}
use Rattle.std.proofs.lemmas.List.Sums.{sum_by-append}
use Rattle.ttp_world.specs.declared.script.Event.TheVariants as event
use Rattle.ttp_world.specs.declared.script.TheConstants.{HOST_EVENT_LIMIT}
use Rattle.ttp_world.specs.Script.{IsValidScript, IsWithinRun}
use Rattle.ttp_world.specs.Script.{HostWrite, is_host_event, write_in, payload_of_host}
use Rattle.script_text.specs.declared.error.ScriptError.TheVariants as errors
use Rattle.script_text.specs.declared.keyword.Keyword.TheVariants as keyword
use Rattle.script_text.specs.Lines.{says_nothing}
use Rattle.script_text.specs.Faults.{event_said}
use Rattle.script_text.specs.Faults.{keyword_statements}
use Rattle.script_text.proofs.Valid.{AreValid, AreValid-none, AreValid-form}
use Rattle.script_text.proofs.ValidEvents.{within_span}
use Rattle.script_text.proofs.Kept.{count_one}
use Rattle.script_text.proofs.Sizes.{is_host_form, with_end, size_of, size-lines_of, size-event_line, size-host_line}
use Rattle.ttp_world.proofs.WorldFacts.{event-bounded as event_bounded}

-- a line without a fault
record IsRightLine (list : Medl) (said : List Statement) (words : List (List ℕ)) (form : Keyword) : Type 0 where
  spelled : is_spelled form words ≡ true
  after : is_after_slots form (slots_of said) ≡ true
  none : stated_faults list said words form ≡ []

form_right : (list : Medl) (said : List Statement) (words : List (List ℕ)) (form : Keyword)
    → form_faults list said words form ≡ [] → IsRightLine list said words form
unfolding form_faults
form_right list said words form none = record {
  spelled = grind (arith, common_steps);
  after = grind (arith, common_steps);
  none = grind (arith, common_steps);
}

-- by what the line says, if anything, and the form that its first word names, if any
line_valid : (list : Medl) (words : List (List ℕ)) (said : List Statement) (nothing : Bool) (form : Option Keyword)
    → (if nothing then [] else keyword_faults list said words form) ≡ []
    → AreValid list said → AreValid list (if nothing then said else keyword_statements said words form)
line_valid list words said true form none valid = valid
line_valid list words said false None none valid = cc
line_valid list words said false (Some form) none valid =
    let right = form_right list said words form none in
    AreValid-form list words said form right.after right.none valid

-- a line of another form adds no event
same_events : (form : Keyword) (words : List (List ℕ)) (said : List Statement)
    → is_event_form form ≡ false → events_of (statement_of form words ∷ said) ≡ events_of said
same_events keyword.Slots words said other = append-nil _
same_events keyword.On words said other = append-nil _
same_events keyword.Drift words said other = append-nil _
same_events form words said other = cc

at_most_one : {X : Type 0} (o : Option X) → length (option_to_list o) ≤ 1
at_most_one None = lit≤ tt
at_most_one (Some x) = lit≤ tt

-- and any line one at most
one_event_more : (statement : Statement) (said : List Statement)
    → length (events_of (statement ∷ said)) ≤ length (events_of said) + 1
one_event_more statement said =
    omega (
      arith,
      length-append (events_of said) (option_to_list (event_said statement)),
      at_most_one (event_said statement),
    )

form_size : (list : Medl) (line : List ℕ) (said : List Statement) (form : Keyword) (of_event : Bool)
    → keyword_of (word_at (words_of_line line) 0) ≡ Some form → IsRightLine list said (words_of_line line) form
    → is_event_form form ≡ of_event
    → 8 * length (events_of (statement_of form (words_of_line line) ∷ said)) ≤ 8 * length
    (events_of said) + with_end line
form_size list line said form true names right of_event = omega (
  arith,
  one_event_more (statement_of form (words_of_line line)) said,
  size-event_line line form names of_event right.spelled,
)
form_size list line said form false names right other =
    omega (arith, ap length (same_events form (words_of_line line) said other))

line_size : (list : Medl) (line : List ℕ) (said : List Statement) (nothing : Bool) (form : Option Keyword)
    → keyword_of (word_at (words_of_line line) 0) ≡ form
    → (if nothing then [] else keyword_faults list said (words_of_line line) form) ≡ []
    → 8 * length (events_of (if nothing then said else keyword_statements said (words_of_line line) form))
    ≤ 8 * length (events_of said) + with_end line
line_size list line said true form names none = omega arith
line_size list line said false None names none = cc
line_size list line said false (Some form) names none =
    form_size list line said form (is_event_form form) names (form_right list said (words_of_line line) form none) refl

-- a line of a host adds at most one event of a host, and any other none
host_event_more : (form : Keyword) (words : List (List ℕ))
    → count_by is_host_event (option_to_list (event_said (statement_of form words)))
    ≤ (if is_host_form form then 1 else 0)
host_event_more keyword.Slots words = lit≤ tt
host_event_more form words = lit≤ tt

host_events_more : (form : Keyword) (words : List (List ℕ)) (said : List Statement)
    → count_by is_host_event (events_of (statement_of form words ∷ said))
    ≤ count_by is_host_event (events_of said) + (if is_host_form form then 1 else 0)
host_events_more form words said = omega (
  arith,
  sum_by-append (λ (e : Event). cond (is_host_event e) 1 0) (events_of said)
      (option_to_list (event_said (statement_of form words))),
  host_event_more form words,
)

form_host_size : (list : Medl) (line : List ℕ) (said : List Statement) (form : Keyword) (of_host : Bool)
    → keyword_of (word_at (words_of_line line) 0) ≡ Some form → IsRightLine list said (words_of_line line) form
    → is_host_form form ≡ of_host
    → 11 * count_by is_host_event (events_of (statement_of form (words_of_line line) ∷ said))
    ≤ 11 * count_by is_host_event (events_of said) + with_end line
form_host_size list line said form true names right of_host = omega (
  arith,
  rw of_host at (host_events_more form (words_of_line line) said),
  size-host_line line form names of_host right.spelled,
)
form_host_size list line said form false names right other =
    omega (arith, rw other at (host_events_more form (words_of_line line) said))

line_host_size : (list : Medl) (line : List ℕ) (said : List Statement) (nothing : Bool) (form : Option Keyword)
    → keyword_of (word_at (words_of_line line) 0) ≡ form
    → (if nothing then [] else keyword_faults list said (words_of_line line) form) ≡ []
    → 11 * count_by is_host_event (events_of (if nothing then said else keyword_statements said
    (words_of_line line) form))
    ≤ 11 * count_by is_host_event (events_of said) + with_end line
line_host_size list line said true form names none = omega arith
line_host_size list line said false None names none = cc
line_host_size list line said false (Some form) names none =
    form_host_size list line said form (is_host_form form) names
    (form_right list said (words_of_line line) form none) refl

-- what lines say with one more is valid, and has no more events, and no more of hosts, than fit into their bytes
pub record IsRightAfter (list : Medl) (said : List Statement) (line : List ℕ) : Type 0 where
  pub valid : AreValid list (statements_after said (words_of_line line))
  pub size : 8 * length (events_of (statements_after said (words_of_line line)))
      ≤ 8 * length (events_of said) + with_end line
  pub host_size : 11 * count_by is_host_event (events_of (statements_after said (words_of_line line)))
      ≤ 11 * count_by is_host_event (events_of said) + with_end line

pub line_right : (list : Medl) (said : List Statement) (line : List ℕ)
    → line_faults list said (words_of_line line) ≡ [] → AreValid list said → IsRightAfter list said line
unfolding line_faults statements_after
line_right list said line none valid =
    let words = words_of_line line in
    let form = keyword_of (word_at words 0) in
    record {
      valid = line_valid list words said (says_nothing words) form none valid;
      size = line_size list line said (says_nothing words) form refl none;
      host_size = line_host_size list line said (says_nothing words) form refl none;
    }

-- what lines without a fault say is valid, and has no more events than fit into their bytes
record IsRightFile (list : Medl) (said : List Statement) (lines : List (List ℕ)) : Type 0 where
  slots : is_some (slots_of (statements_of said lines)) ≡ true
  valid : AreValid list (statements_of said lines)
  size : 8 * length (events_of (statements_of said lines)) ≤ 8 * length (events_of said) + size_of lines
  host_size : 11 * count_by is_host_event (events_of (statements_of said lines))
      ≤ 11 * count_by is_host_event (events_of said) + size_of lines

no_errors : (number : ℕ) (found : List LineFault) (more : List ScriptError) → errors_at number found ++ more ≡ []
    → (found ≡ []) × (more ≡ [])
no_errors number [] more none = (refl, none)
no_errors number (fault ∷ found) more none = cc

no_end : (number : ℕ) (said : List Statement) → end_faults number said ≡ [] → is_some (slots_of said) ≡ true
no_end number said none = grind (arith, common_steps)

right_file : (list : Medl) (number : ℕ) (said : List Statement) (lines : List (List ℕ))
    → script_faults list number said lines ≡ [] → AreValid list said → IsRightFile list said lines
right_file list number said [] none valid = record {
  slots = no_end number said none;
  valid = valid;
  size = omega arith;
  host_size = omega arith;
}
right_file list number said (line ∷ lines) none valid =
    let words = words_of_line line in
    let both = no_errors number (line_faults list said words) _ none in
    let one = line_right list said line both.0 valid in
    let more = right_file list (suc number) (statements_after said words) lines both.1 one.valid in
    record {
      slots = more.slots;
      valid = more.valid;
      size = omega (arith, more.size, one.size);
      host_size = omega (arith, more.host_size, one.host_size);
    }

-- The script of what they state.

all_within : {X : Type 0} (P : X → Type 0) → ((x : X) → P x) → (xs : List X) → All P xs
all_within P each xs = λ k d within. each (get_or xs k d)

slots_within : (slots : Option ℕ) → is_some slots ≡ true → IfSome slots (λ count. (1 ≤ count) × (count ≤ SLOT_LIMIT))
    → (1 ≤ unwrap_or slots 0) × (unwrap_or slots 0 ≤ SLOT_LIMIT)
slots_within None some within = cc
slots_within (Some count) some within = within

drift_within : (drift : Option ℤ) → IfSome drift (IsWithinSpan DRIFT_LIMIT)
    → IsWithinSpan DRIFT_LIMIT (unwrap_or drift (pos 0))
drift_within None within = within_span DRIFT_LIMIT (pos 0) refl
drift_within (Some value) within = within

-- a node's messages in a slot are the lines that write them
write_counted : (same_node same_slot : Bool) (node : ℕ) (payload : List ℕ) (k : ℕ) → (node == k) ≡ same_node
    → length (filter_map (payload_of_host k) (cons_option
    (if same_slot then Some (record { host = node; payload = payload }) else None) []))
    ≡ (if same_node && same_slot then 1 else 0)
write_counted true true node payload k is = rw is refl
write_counted false true node payload k is = rw is refl
write_counted true false node payload k is = refl
write_counted false false node payload k is = refl

one_message : (statement : Statement) (k t : ℕ)
    → length (filter_map (payload_of_host k) (filter_map (write_in t) (option_to_list (event_said statement))))
    ≡ (if is_write_at k t statement then 1 else 0)
one_message (says_slots count) k t = refl
one_message (says_on node slot) k t = refl
one_message (says_drift node value) k t = refl
one_message (says_event (event.Send node channels kind from to)) k t = refl
one_message (says_event (event.Receive node channels kind from to)) k t = refl
one_message (says_event (event.Flip node channels bit slot)) k t = refl
one_message (says_event (event.Error node value from to)) k t = refl
one_message (says_event (event.Jump node value slot)) k t = refl
one_message (says_event (event.Arm node slot)) k t = refl
one_message (says_event (event.Write node slot payload)) k t = write_counted (node == k) (slot == t) node payload k refl
one_message (says_event (event.Read node slot from)) k t = refl

messages_counted : (said : List Statement) (k t : ℕ)
    → length (filter_map (payload_of_host k) (filter_map (write_in t) (events_of said)))
    ≡ count_by (is_write_at k t) said
messages_counted [] k t = refl
messages_counted (statement ∷ said) k t =
    let more = option_to_list (event_said statement) in
    let front = filter_map (write_in t) (events_of said) in
    ap (λ (ws : List HostWrite). length (filter_map (payload_of_host k) ws))
    (filter_map-append (write_in t) (events_of said) more)
    ∙ ap length (filter_map-append (payload_of_host k) front (filter_map (write_in t) more))
    ∙ omega (
      arith,
      length-append (filter_map (payload_of_host k) front)
          (filter_map (payload_of_host k) (filter_map (write_in t) more)),
      messages_counted said k t,
      one_message statement k t,
      count_one (is_write_at k t) statement said _ refl,
    )

valid_script : (list : Medl) (said : List Statement) → AreValid list said
    → is_some (slots_of said) ≡ true → length (events_of said) ≤ EVENT_LIMIT
    → count_by is_host_event (events_of said) ≤ HOST_EVENT_LIMIT
    → IsValidScript list (stated_script list said)
unfolding stated_script
valid_script list said valid some few few_of_hosts = record {
  slots = slots_within (slots_of said) some valid.slots;
  on_count = length-map-range_with_len (on_of said) 0 (length list.slots);
  on = All-map (IsWithinRun (stated_script list said)) (on_of said) (below (length list.slots))
      (all_within _ valid.on (below (length list.slots)));
  drift_count = length-map-range_with_len (λ k. unwrap_or (drift_stated said k) (pos 0)) 0 (length list.slots);
  drift = All-map (IsWithinSpan DRIFT_LIMIT) (λ k. unwrap_or (drift_stated said k) (pos 0)) (below (length list.slots))
      (all_within _ (λ k. drift_within (drift_stated said k) (valid.drift k)) (below (length list.slots)));
  events = valid.events (stated_script list said) refl;
  writes = λ k slot. rw messages_counted (valid.writes k slot);
  event_count = few;
  host_event_count = few_of_hosts;
}

-- what a file means, where it is a script: the file has no fault
script_or_fault-ok : (found : List ScriptError) (script told : Script) → script_or_fault found told ≡ Ok script
    → (found ≡ []) × (told ≡ script)
script_or_fault-ok [] script told is = (refl, cc)
script_or_fault-ok (fault ∷ found) script told is = cc

-- a script that is read is valid
pub script_of-valid : (list : Medl) (text : List ℕ) (script : Script) → IsValid list → length text ≤ 1048576
    → script_of list text ≡ Ok script → IsValidScript list script
unfolding script_of lines_script stated_script
script_of-valid list text script right size is =
    let lines = lines_of_file text in
    let said = statements_of [] lines in
    let both = script_or_fault-ok (script_faults list 1 [] lines) script (stated_script list said) is in
    let file = right_file list 1 [] lines both.0 (AreValid-none list right) in
    rw (← both.1) (valid_script list said file.valid file.slots (omega (arith, file.size, size-lines_of text))
    (omega (arith, file.host_size, size-lines_of text)))

pub events_bounded : (list : Medl) (said : List Statement) → AreValid list said → All IsBounded (events_of said)
unfolding stated_script
events_bounded list said valid = λ k d within.
    event_bounded list (stated_script list said) (get_or (events_of said) k d)
    (valid.events (stated_script list said) refl k d within)

-- a script that is answered is valid, be it that memory may be refused
pub answer_valid : (list : Medl) (text : List ℕ) (result : Result Script ScriptError) → IsValid list
    → length text ≤ 1048576 → (result ≡ Err errors.Memory) ⊎ (result ≡ script_of list text)
    → IfOk result (IsValidScript list)
answer_valid list text (Ok script) right size (inl refused) = cc
answer_valid list text (Ok script) right size (inr told) = script_of-valid list text script right size (sym told)
answer_valid list text (Err e) right size told = tt
