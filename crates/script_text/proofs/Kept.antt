-- What is kept of the lines that were read, beside what those lines state.
use Rattle.script_text.proofs.Terms.{◌≡◌, Bool, true, false, ℕ, ◌+◌, ◌<◌, ◌≤◌, ◌==◌, ◌&&◌, nat_le, ℤ, List, [], ◌∷◌}
use Rattle.script_text.proofs.Terms.{◌++◌, length, get_or, set, lit≤, count_by, cond, Option, Some, None, is_some}
use Rattle.script_text.proofs.Terms.{unwrap_or, Ok, Err, get_or-set_same, arith, refl, ap, sym, ◌∙◌, if◌then◌else◌}
use Rattle.script_text.proofs.Terms.{option_or, common_steps, nat_tests, append-nil, first_fault, Medl, Event}
use Rattle.script_text.proofs.Terms.{LineFault, Keyword, SoFar, Statement, says_slots, says_on, says_drift, says_event}
use Rattle.script_text.proofs.Terms.{word_at, value_in, digit_bytes_in, number_at_word, is_spelled, statement_of}
use Rattle.script_text.proofs.Terms.{slots_of, is_write_at, when, keyword_faults, statement_faults, stated_faults}
use Rattle.script_text.proofs.Terms.{is_after_slots, form_faults, LinesStandFor, is_event_form, is_uncounted}
use Rattle.std.proofs.Common.{nat_lt}
use Rattle.std.proofs.Common.{get_or-set_other}
use Rattle.std.proofs.lemmas.List.Sums.{sum_by-cons}
use Rattle.ttp_world.specs.declared.script.Event.TheVariants as event
use Rattle.script_text.specs.declared.error.LineFault.TheVariants as faults
use Rattle.script_text.specs.declared.error.Refusal.TheVariants as refusals
use Rattle.script_text.specs.declared.keyword.Keyword.TheVariants as keyword
use Rattle.script_text.specs.Statement.{form_word_count}
use Rattle.script_text.specs.Faults.{further_faults}
use Rattle.script_text.specs.SoFar.{writes_at, CountsMore}
use Rattle.script_text.specs.SoFar.{ReadsEvent, TakesStated, RefusesStated}
use Rattle.std.specs.Prelude.{replicate}

-- The faults of a line in turn: its spelling, its place after `slots`, and what it states.

pub form_faults-word : (list : Medl) (before : List Statement) (words : List (List ℕ))
    (form : Keyword)
    → is_spelled form words ≡ false → first_fault (form_faults list before words form) ≡ Some faults.Word
unfolding form_faults
form_faults-word list before words form spelled = grind (arith, common_steps)

pub form_faults-no_slots : (list : Medl) (before : List Statement) (words : List (List ℕ))
    (form : Keyword)
    → is_spelled form words ≡ true → is_after_slots form (slots_of before) ≡ false
    → first_fault (form_faults list before words form) ≡ Some faults.NoSlots
unfolding form_faults
form_faults-no_slots list before words form spelled after = grind (arith, common_steps)

pub form_faults-stated : (list : Medl) (before : List Statement) (words : List (List ℕ))
    (form : Keyword)
    → is_spelled form words ≡ true → is_after_slots form (slots_of before) ≡ true
    → form_faults list before words form ≡ stated_faults list before words form
unfolding form_faults
form_faults-stated list before words form spelled after = grind (arith, common_steps)

-- a line states an event
pub record StatesEvent (form : Keyword) (words : List (List ℕ)) : Type 0 where
  pub event : Event
  pub says : statement_of form words ≡ says_event event

pub event_stated : (form : Keyword) (words : List (List ℕ)) → is_event_form form ≡ true → StatesEvent form words
event_stated keyword.Slots words of_event = cc
event_stated keyword.On words of_event = cc
event_stated keyword.Drift words of_event = cc
event_stated form words of_event = record { event = _; says = refl }

-- no line of a form that is not counted is a write
pub not_write : (form : Keyword) (words : List (List ℕ)) (k t : ℕ) → is_uncounted form ≡ true
    → is_write_at k t (statement_of form words) ≡ false
not_write keyword.Write words k t of_event = cc
not_write form words k t of_event = refl

pub event_form : (form : Keyword) → is_uncounted form ≡ true → is_event_form form ≡ true
event_form form of_event = grind (arith, common_steps)

-- Nothing was read.

get_or-nothing : {X : Type 0} (n k : ℕ) → get_or {A = Option X} (replicate n None) k None ≡ None
get_or-nothing n k = grind (arith, common_steps)

pub StandsFor-nothing : (so_far : SoFar) (n : ℕ) → so_far.slots ≡ None → so_far.on.items ≡ replicate n None
    → so_far.drift.items ≡ replicate n None → so_far.events ≡ [] → ((k t : ℕ) → writes_at so_far.writes k t ≡ 0)
    → LinesStandFor so_far []
StandsFor-nothing so_far n slots on drift events none = record {
  slots = slots;
  on = λ k. rw on (get_or-nothing n k);
  drift = λ k. rw drift (get_or-nothing n k);
  events = events;
  writes = λ k t within. none k t;
}

-- One line more is kept.

-- what stands at a place after one was written
set_at : {X : Type 0} (xs : List (Option X)) (node : ℕ) (x : X) (k : ℕ) → node < length xs
    → get_or (set xs node (Some x)) k None ≡ option_or (if node == k then Some x else None) (get_or xs k None)
set_at xs node x k within =
    grind (arith, common_steps, nat_tests, get_or-set_same xs node, get_or-set_other xs node k)

pub StandsFor-on : (old new : SoFar) (before : List Statement) (node slot : ℕ) → LinesStandFor old before
    → node < length old.on.items
    → new ≡ record old { on = new.on } → new.on.items ≡ set old.on.items node (Some slot)
    → LinesStandFor new (says_on node slot ∷ before)
StandsFor-on old new before node slot stands within now on = record {
  slots = ap (λ (so_far : SoFar). so_far.slots) now ∙ stands.slots;
  on = λ k. ap (λ (xs : List (Option ℕ)). get_or xs k None) on ∙ set_at old.on.items node slot k within
      ∙ ap (option_or (if node == k then Some slot else None)) (stands.on k);
  drift = λ k. ap (λ (so_far : SoFar). get_or so_far.drift.items k None) now ∙ stands.drift k;
  events = ap (λ (so_far : SoFar). so_far.events) now ∙ stands.events ∙ sym (append-nil _);
  writes = rw now stands.writes;
}

pub StandsFor-drift : (old new : SoFar) (before : List Statement) (node : ℕ) (value : ℤ) → LinesStandFor old before
    → node < length old.drift.items
    → new ≡ record old { drift = new.drift } → new.drift.items ≡ set old.drift.items node (Some value)
    → LinesStandFor new (says_drift node value ∷ before)
StandsFor-drift old new before node value stands within now drift = record {
  slots = ap (λ (so_far : SoFar). so_far.slots) now ∙ stands.slots;
  on = λ k. ap (λ (so_far : SoFar). get_or so_far.on.items k None) now ∙ stands.on k;
  drift = λ k. ap (λ (xs : List (Option ℤ)). get_or xs k None) drift ∙ set_at old.drift.items node value k within
      ∙ ap (option_or (if node == k then Some value else None)) (stands.drift k);
  events = ap (λ (so_far : SoFar). so_far.events) now ∙ stands.events ∙ sym (append-nil _);
  writes = rw now stands.writes;
}

-- one statement more is counted where it passes
pub count_one : {X : Type 0} (p : X → Bool) (x : X) (xs : List X) (b : Bool) → p x ≡ b
    → count_by p (x ∷ xs) ≡ count_by p xs + (if b then 1 else 0)
count_one p x xs b is =
    sum_by-cons (λ y. cond (p y) 1 0) x xs ∙ ap (λ (c : Bool). cond c 1 0 + count_by p xs) is ∙ omega arith

pub count_none : {X : Type 0} (p : X → Bool) (x : X) (xs : List X) → p x ≡ false → count_by p (x ∷ xs) ≡ count_by p xs
count_none p x xs is = omega (arith, count_one p x xs false is)

pub StandsFor-event : (old new : SoFar) (before : List Statement) (statement : Statement) (e : Event)
    → LinesStandFor old before → statement ≡ says_event e → ((k t : ℕ) → is_write_at k t statement ≡ false)
    → new ≡ record old { events = old.events ++ e ∷ [] }
    → LinesStandFor new (statement ∷ before)
StandsFor-event old new before statement e stands says uncounted now = rw now (record {
  slots = rw says stands.slots;
  on = rw says stands.on;
  drift = rw says stands.drift;
  events = rw says (ap (λ (es : List Event). es ++ e ∷ []) stands.events);
  writes = λ k t within. stands.writes k t within ∙ sym (count_none (is_write_at k t) statement before (uncounted k t));
})

pub StandsFor-write : (old new : SoFar) (before : List Statement) (node slot : ℕ) (payload : List ℕ)
    → LinesStandFor old before → CountsMore old.writes new.writes node slot
    → new ≡ record old { events = old.events ++ event.Write node slot payload ∷ []; writes = new.writes }
    → LinesStandFor new (says_event (event.Write node slot payload) ∷ before)
StandsFor-write old new before node slot payload stands more now = record {
  slots = ap (λ (so_far : SoFar). so_far.slots) now ∙ stands.slots;
  on = λ k. ap (λ (so_far : SoFar). get_or so_far.on.items k None) now ∙ stands.on k;
  drift = λ k. ap (λ (so_far : SoFar). get_or so_far.drift.items k None) now ∙ stands.drift k;
  events = ap (λ (so_far : SoFar). so_far.events) now
      ∙ ap (λ (es : List Event). es ++ event.Write node slot payload ∷ []) stands.events;
  writes = λ k t within.
      let before_too : k < old.writes.nodes = omega (arith, more.nodes) in
      more.counts k t before_too
      ∙ ap (λ (n : ℕ). n + (if (node == k) && (slot == t) then 1 else 0)) (stands.writes k t before_too)
      ∙ sym (count_one (is_write_at k t) (says_event (event.Write node slot payload)) before _ refl);
}

-- What a line states has faults of its own, and further ones.

first_front : (front more : List LineFault) (fault : LineFault) → first_fault front ≡ Some fault
    → first_fault (front ++ more) ≡ Some fault
first_front [] more fault is = cc
first_front (f ∷ front) more fault is = is

pub stated_by : (list : Medl) (before : List Statement) (words : List (List ℕ)) (so_far : SoFar) (form : Keyword)
    → LinesStandFor so_far before
    → stated_faults list before words form
    ≡ statement_faults list (unwrap_or so_far.slots 0) words form
    ++ further_faults list before (statement_of form words)
unfolding stated_faults
stated_by list before words so_far form stands = rw stands.slots refl

further_none : (list : Medl) (before : List Statement) (words : List (List ℕ)) (form : Keyword)
    → is_uncounted form ≡ true → further_faults list before (statement_of form words) ≡ []
further_none list before words keyword.Slots of_event = cc
further_none list before words keyword.On of_event = cc
further_none list before words keyword.Drift of_event = cc
further_none list before words keyword.Write of_event = cc
further_none list before words form of_event = refl

pub takes_event : (list : Medl) (words : List (List ℕ)) (old new : SoFar) (form : Keyword) (e : Event)
    → is_uncounted form ≡ true → ReadsEvent list (unwrap_or old.slots 0) words form (Ok e)
    → new ≡ record old { events = old.events ++ e ∷ [] } → TakesStated list words old new form
takes_event list words old new form e of_event reads now = record {
  faults = λ before stands. stated_by list before words old form stands
      ∙ rw reads.0 (further_none list before words form of_event);
  after = λ before stands. StandsFor-event old new before (statement_of form words) e stands reads.1
      (λ k t. not_write form words k t of_event) now;
}

pub refuses_own : (list : Medl) (words : List (List ℕ)) (so_far : SoFar) (form : Keyword) (fault : LineFault)
    → first_fault (statement_faults list (unwrap_or so_far.slots 0) words form) ≡ Some fault
    → RefusesStated list words so_far form (refusals.Fault fault)
refuses_own list words so_far form fault here = λ before stands.
    ap first_fault (stated_by list before words so_far form stands) ∙ first_front _ _ fault here

-- with none of its own the further ones decide
refuses_further : (list : Medl) (words : List (List ℕ)) (so_far : SoFar) (form : Keyword) (fault : LineFault)
    → statement_faults list (unwrap_or so_far.slots 0) words form ≡ []
    → ((before : List Statement) → LinesStandFor so_far before
    → first_fault (further_faults list before (statement_of form words)) ≡ Some fault)
    → RefusesStated list words so_far form (refusals.Fault fault)
refuses_further list words so_far form fault own here = λ before stands.
    ap first_fault (stated_by list before words so_far form stands
    ∙ ap (λ (fs : List LineFault). fs ++ further_faults list before (statement_of form words)) own)
    ∙ here before stands

takes_stated : (list : Medl) (words : List (List ℕ)) (old new : SoFar) (form : Keyword)
    → statement_faults list (unwrap_or old.slots 0) words form ≡ []
    → ((before : List Statement) → LinesStandFor old before → further_faults list before (statement_of form words) ≡ [])
    → ((before : List Statement) → LinesStandFor old before → LinesStandFor new (statement_of form words ∷ before))
    → TakesStated list words old new form
takes_stated list words old new form own none kept = record {
  faults = λ before stands. stated_by list before words old form stands
      ∙ ap (λ (fs : List LineFault). fs ++ further_faults list before (statement_of form words)) own
      ∙ none before stands;
  after = kept;
}

repeated : (repeat : Bool) (more : List LineFault) → repeat ≡ true
    → first_fault (when repeat faults.Repeat ++ more) ≡ Some faults.Repeat
repeated true more is = refl
repeated false more is = cc

fresh : (repeat : Bool) → repeat ≡ false → when repeat faults.Repeat ++ [] ≡ []
fresh true is = cc
fresh false is = refl

pub refuses_on : (list : Medl) (words : List (List ℕ)) (so_far : SoFar)
    → statement_faults list (unwrap_or so_far.slots 0) words keyword.On ≡ []
    → is_some (get_or so_far.on.items (number_at_word words 1) None) ≡ true
    → RefusesStated list words so_far keyword.On (refusals.Fault faults.Repeat)
refuses_on list words so_far own some = refuses_further list words so_far keyword.On faults.Repeat own (λ before stands.
    repeated _ _ (ap is_some (sym (stands.on (number_at_word words 1))) ∙ some))

pub takes_on : (list : Medl) (words : List (List ℕ)) (old new : SoFar)
    → statement_faults list (unwrap_or old.slots 0) words keyword.On ≡ []
    → is_some (get_or old.on.items (number_at_word words 1) None) ≡ false → number_at_word words 1 < length old.on.items
    → new ≡ record old { on = new.on }
    → new.on.items ≡ set old.on.items (number_at_word words 1) (Some (number_at_word words 2))
    → TakesStated list words old new keyword.On
takes_on list words old new own none within now on = takes_stated list words old new keyword.On own
    (λ before stands. fresh _ (ap is_some (sym (stands.on (number_at_word words 1))) ∙ none))
    (λ before stands. StandsFor-on old new before (number_at_word words 1)
    (number_at_word words 2) stands within now on)

pub refuses_drift : (list : Medl) (words : List (List ℕ)) (so_far : SoFar)
    → statement_faults list (unwrap_or so_far.slots 0) words keyword.Drift ≡ []
    → is_some (get_or so_far.drift.items (number_at_word words 1) None) ≡ true
    → RefusesStated list words so_far keyword.Drift (refusals.Fault faults.Repeat)
refuses_drift list words so_far own some =
    refuses_further list words so_far keyword.Drift faults.Repeat own (λ before stands.
    repeated _ _ (ap is_some (sym (stands.drift (number_at_word words 1))) ∙ some))

pub takes_drift : (list : Medl) (words : List (List ℕ)) (old new : SoFar)
    → statement_faults list (unwrap_or old.slots 0) words keyword.Drift ≡ []
    → is_some (get_or old.drift.items (number_at_word words 1) None) ≡ false
    → number_at_word words 1 < length old.drift.items
    → new ≡ record old { drift = new.drift }
    → new.drift.items ≡ set old.drift.items (number_at_word words 1) (Some (value_in (word_at words 2)))
    → TakesStated list words old new keyword.Drift
takes_drift list words old new own none within now drift = takes_stated list words old new keyword.Drift own
    (λ before stands. fresh _ (ap is_some (sym (stands.drift (number_at_word words 1))) ∙ none))
    (λ before stands.
    StandsFor-drift old new before (number_at_word words 1) (value_in (word_at words 2)) stands within now drift)

-- where the buffers have room for one message more

room_faults : (buffers count : ℕ) → nat_lt (count + 1) buffers ≡ true
    → when (buffers == 1) faults.NoBuffer ++ when (nat_le buffers (count + 1)) faults.TooMany ≡ []
room_faults buffers count room =
    let one : (buffers == 1) ≡ false = grind (arith, nat_tests) in
    let few : nat_le buffers (count + 1) ≡ false = grind (arith, nat_tests) in
    rw (one, few) refl

full_faults : (buffers count : ℕ) → (buffers == 1) ≡ false → nat_lt (count + 1) buffers ≡ false
    → first_fault (when (buffers == 1) faults.NoBuffer ++ when (nat_le buffers (count + 1)) faults.TooMany)
    ≡ Some faults.TooMany
full_faults buffers count more full =
    let many : nat_le buffers (count + 1) ≡ true = grind (arith, nat_tests) in
    rw (more, many) refl

no_buffer : (one : Bool) (more : List LineFault) → one ≡ true
    → first_fault (when one faults.NoBuffer ++ more) ≡ Some faults.NoBuffer
no_buffer true more is = refl
no_buffer false more is = cc

pub refuses_buffer : (list : Medl) (words : List (List ℕ)) (so_far : SoFar)
    → statement_faults list (unwrap_or so_far.slots 0) words keyword.Write ≡ [] → (list.buffers == 1) ≡ true
    → RefusesStated list words so_far keyword.Write (refusals.Fault faults.NoBuffer)
refuses_buffer list words so_far own one =
    refuses_further list words so_far keyword.Write faults.NoBuffer own (λ before stands. no_buffer _ _ one)

pub refuses_full : (list : Medl) (words : List (List ℕ)) (so_far : SoFar)
    → statement_faults list (unwrap_or so_far.slots 0) words keyword.Write ≡ []
    → number_at_word words 1 < so_far.writes.nodes → (list.buffers == 1) ≡ false
    → nat_lt (writes_at so_far.writes (number_at_word words 1) (number_at_word words 2) + 1) list.buffers ≡ false
    → RefusesStated list words so_far keyword.Write (refusals.Fault faults.TooMany)
refuses_full list words so_far own within more full =
    refuses_further list words so_far keyword.Write faults.TooMany own (λ before stands.
    full_faults list.buffers _ more
    (ap (λ (n : ℕ). nat_lt (n + 1) list.buffers)
    (sym (stands.writes (number_at_word words 1) (number_at_word words 2) within)) ∙ full))

pub takes_write : (list : Medl) (words : List (List ℕ)) (old new : SoFar) (payload : List ℕ)
    → statement_faults list (unwrap_or old.slots 0) words keyword.Write ≡ []
    → number_at_word words 1 < old.writes.nodes → payload ≡ digit_bytes_in (word_at words 3)
    → nat_lt (writes_at old.writes (number_at_word words 1) (number_at_word words 2) + 1) list.buffers ≡ true
    → new ≡ record old {
      events = old.events ++ event.Write (number_at_word words 1) (number_at_word words 2) payload ∷ [];
      writes = new.writes;
    }
    → CountsMore old.writes new.writes (number_at_word words 1) (number_at_word words 2)
    → TakesStated list words old new keyword.Write
takes_write list words old new payload own within is room now more =
    takes_stated list words old new keyword.Write own
    (λ before stands. room_faults list.buffers _
    (ap (λ (n : ℕ). nat_lt (n + 1) list.buffers)
    (sym (stands.writes (number_at_word words 1) (number_at_word words 2) within)) ∙ room))
    (λ before stands. StandsFor-write old new before (number_at_word words 1) (number_at_word words 2) _ stands more
    (now ∙ ap (λ (p : List ℕ). record old {
      events = old.events ++ event.Write (number_at_word words 1) (number_at_word words 2) p ∷ [];
      writes = new.writes;
    }) is))

pub ruleset refused = (refuses_own, refuses_on, refuses_drift, refuses_buffer, refuses_full)

-- no form has more words than six
word_count-le : (form : Keyword) → form_word_count form ≤ 6
word_count-le keyword.Slots = lit≤ tt
word_count-le form = lit≤ tt

not_spelled : (form : Keyword) (words : List (List ℕ)) → 6 < length words → is_spelled form words ≡ false
not_spelled form words long = grind (arith, common_steps, nat_tests, word_count-le form)

pub keyword_faults-too_long : (list : Medl) (before : List Statement) (words : List (List ℕ))
    (form : Option Keyword)
    → 6 < length words → first_fault (keyword_faults list before words form) ≡ Some faults.Word
keyword_faults-too_long list before words None long = refl
keyword_faults-too_long list before words (Some form) long =
    form_faults-word list before words form (not_spelled form words long)

pub ruleset kept = (
  form_faults-word,
  form_faults-no_slots,
  form_faults-stated,
  keyword_faults-too_long,
)
