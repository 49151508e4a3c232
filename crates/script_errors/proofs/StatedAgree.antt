-- What a line states beside the lines before: the errors agree with the faults that the reader of scripts looks for.
use Rattle.std.proofs.Common.{◌≡◌, ℕ, ◌+◌, ◌==◌, Bool, true, false, List, []}
use Rattle.std.proofs.Common.{◌∷◌, ◌++◌, Option, Some, None, is_some, map}
use Rattle.std.proofs.Common.{refl, inl, inr, count_by, nat_le}
use Rattle.std.specs.Prelude.{if◌then◌else◌}
use Rattle.std.specs.Option.{option_or}
use Rattle.ttp_world.specs.declared.medl.Medl.{Medl}
use Rattle.ttp_world.specs.declared.script.Event.{Event}
use Rattle.ttp_world.specs.declared.script.Event.TheVariants as event
use Rattle.script_text.specs.Statement.{Statement, says_slots, says_on, says_drift, says_event}
use Rattle.script_text.specs.Faults.{newest, slots_said, on_said, drift_said, further_faults, is_write_at, when}
use Rattle.script_text.specs.declared.error.LineFault.TheVariants as faults
use Rattle.script_errors.specs.declared.error.Wrong.{Wrong}
use Rattle.script_errors.specs.declared.error.Wrong.TheVariants as wrong
use Rattle.script_errors.specs.declared.spots.Spot.{Spot}
use Rattle.script_errors.specs.Errors.{Before, Taken, stated, line_stating, line_stating_slots, line_stating_on}
use Rattle.script_errors.specs.Errors.{line_stating_drift, again, buffer_wrong}
use Rattle.script_errors.specs.Errors.{stated_wrong, errors_of_word}
use Rattle.script_errors.specs.Agrees.{reader_fault}
use Rattle.script_errors.proofs.OwnAgree.{Outcome}

-- a line is found where the newest that says such a thing is

found_step : {X : Type 0} (told : Statement → Option X) (t : Taken) (taken : List Taken) (o : Option X)
    → told t.states ≡ o
    → is_some (line_stating (λ s. is_some (told s)) taken) ≡ is_some (newest told (map (λ u. u.states) taken))
    → is_some (if is_some o then Some t.line else line_stating (λ s. is_some (told s)) taken)
    ≡ is_some (option_or o (newest told (map (λ u. u.states) taken)))
found_step told t taken None is more = more
found_step told t taken (Some x) is more = refl

found : {X : Type 0} (told : Statement → Option X) (taken : List Taken)
    → is_some (line_stating (λ s. is_some (told s)) taken) ≡ is_some (newest told (map (λ t. t.states) taken))
found told [] = refl
found told (t ∷ taken) = found_step told t taken (told t.states) refl (found told taken)

repeat_outcome : (number : ℕ) (at : Spot) (told : ℕ → Wrong) (line : Option ℕ) (repeat : Bool)
    → ((n : ℕ) → reader_fault (told n) ≡ faults.Repeat) → is_some line ≡ repeat
    → Outcome number (when repeat faults.Repeat ++ []) (errors_of_word number at (again told line))
repeat_outcome number at told None true class is = cc
repeat_outcome number at told None false class is = inl (refl, refl)
repeat_outcome number at told (Some n) true class is = inr (faults.Repeat, (refl, inl (refl, class n)))
repeat_outcome number at told (Some n) false class is = cc

buffer_outcome : (number : ℕ) (at : Spot) (list : Medl) (node slot count : ℕ) (one many : Bool)
    → (list.buffers == 1) ≡ one → nat_le list.buffers count ≡ many
    → Outcome number (when one faults.NoBuffer ++ when many faults.TooMany)
    (errors_of_word number at (buffer_wrong (Some list) node slot count))
buffer_outcome number at list node slot count true many is at_most =
    rw is (inr (faults.NoBuffer, (refl, inl (refl, refl))))
buffer_outcome number at list node slot count false true is at_most =
    rw (is, at_most) (inr (faults.TooMany, (refl, inl (refl, refl))))
buffer_outcome number at list node slot count false false is at_most = rw (is, at_most) (inl (refl, refl))

event_outcome : (number : ℕ) (at : Spot) (list : Medl) (before : Before) (e : Event)
    → Outcome number (further_faults list (stated before) (says_event e))
    (errors_of_word number at (stated_wrong (Some list) before (says_event e)))
event_outcome number at list before (event.Send node channels kind from to) = inl (refl, refl)
event_outcome number at list before (event.Receive node channels kind from to) = inl (refl, refl)
event_outcome number at list before (event.Flip node channels bit slot) = inl (refl, refl)
event_outcome number at list before (event.Error node value from to) = inl (refl, refl)
event_outcome number at list before (event.Jump node value slot) = inl (refl, refl)
event_outcome number at list before (event.Arm node slot) = inl (refl, refl)
event_outcome number at list before (event.Read node slot from) = inl (refl, refl)
event_outcome number at list before (event.Write node slot payload) =
    buffer_outcome number at list node slot (count_by (is_write_at node slot) (stated before) + 1) _ _ refl refl

pub stated_outcome : (number : ℕ) (at : Spot) (list : Medl) (before : Before) (s : Statement)
    → Outcome number (further_faults list (stated before) s)
    (errors_of_word number at (stated_wrong (Some list) before s))
stated_outcome number at list before (says_slots count) =
    repeat_outcome number at wrong.SlotsAgain (line_stating_slots before) _ (λ n. refl) (found slots_said before.taken)
stated_outcome number at list before (says_on node slot) =
    repeat_outcome number at (wrong.OnAgain node) (line_stating_on before node) _
    (λ n. refl) (found (on_said node) before.taken)
stated_outcome number at list before (says_drift node value) =
    repeat_outcome number at (wrong.DriftAgain node) (line_stating_drift before node) _ (λ n. refl)
    (found (drift_said node) before.taken)
stated_outcome number at list before (says_event e) = event_outcome number at list before e
