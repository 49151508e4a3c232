-- What a line states beside the lines before.
use Rattle.std.proofs.Common.{◌≡◌, ℕ, Bool, true, false, subst, ◌+◌, ◌<◌, count_by, List, [], ◌∷◌}
use Rattle.std.proofs.Common.{◌++◌, length, get_or, Option, Some, None, arith, refl, ap, ◌∙◌, sym}
use Rattle.std.proofs.lemmas.List.{append-nil}
use Rattle.ttp_world.specs.declared.medl.Medl.{Medl}
use Rattle.ttp_world.specs.declared.script.Event.{Event}
use Rattle.ttp_world.specs.declared.script.Event.TheVariants as event
use Rattle.script_text.specs.Numbers.{decimal_value, value_in, digit_bytes_in}
use Rattle.script_text.specs.Statement.{Statement, says_slots, says_on, says_drift, says_event}
use Rattle.script_errors.specs.declared.error.Form.{Form}
use Rattle.script_errors.specs.declared.error.Form.TheVariants as form
use Rattle.script_errors.specs.declared.error.Wrong.{Wrong}
use Rattle.script_errors.specs.declared.error.ScriptError.{ScriptError}
use Rattle.script_errors.specs.declared.so_far.SoFar.{SoFar}
use Rattle.script_errors.specs.declared.spots.Spot.{Spot}
use Rattle.script_errors.specs.Spots.{spot, spot_text}
use Rattle.script_errors.specs.Errors.{Before, error_of_word, errors_of_word, stated_wrong, line_states, with_taken}
use Rattle.script_errors.specs.Errors.{stated, buffer_wrong}
use Rattle.script_errors.specs.SoFar.{StandsFor, Finishes, counted_writes}
use Rattle.script_text.specs.Faults.{is_write_at}
use Rattle.ttp_base.specs.NodeSet.{most_nodes}

-- What lines state, by their words.

pub states_slots : (line : List ℕ) (first : Spot) (words : List Spot) → length words ≡ 1
    → line_states line form.Slots (first ∷ words)
    ≡ says_slots (decimal_value (spot_text line (get_or words 0 (spot 0 0))))
states_slots line first [] full = absurd (omega arith)
states_slots line first (w ∷ []) full = refl
states_slots line first (w ∷ v ∷ words) full = absurd (omega arith)

pub states_on : (line : List ℕ) (first : Spot) (words : List Spot) → length words ≡ 2
    → line_states line form.On (first ∷ words)
    ≡ says_on (decimal_value (spot_text line (get_or words 0 (spot 0 0))))
    (decimal_value (spot_text line (get_or words 1 (spot 0 0))))
states_on line first [] full = absurd (omega arith)
states_on line first (w ∷ []) full = absurd (omega arith)
states_on line first (w ∷ v ∷ []) full = refl
states_on line first (w ∷ v ∷ u ∷ words) full = absurd (omega arith)

pub states_drift : (line : List ℕ) (first : Spot) (words : List Spot) → length words ≡ 2
    → line_states line form.Drift (first ∷ words)
    ≡ says_drift (decimal_value (spot_text line (get_or words 0 (spot 0 0))))
    (value_in (spot_text line (get_or words 1 (spot 0 0))))
states_drift line first [] full = absurd (omega arith)
states_drift line first (w ∷ []) full = absurd (omega arith)
states_drift line first (w ∷ v ∷ []) full = refl
states_drift line first (w ∷ v ∷ u ∷ words) full = absurd (omega arith)

pub states_write : (line : List ℕ) (first : Spot) (words : List Spot) → length words ≡ 3
    → line_states line form.Write (first ∷ words)
    ≡ says_event (event.Write (decimal_value (spot_text line (get_or words 0 (spot 0 0))))
    (decimal_value (spot_text line (get_or words 1 (spot 0 0))))
    (digit_bytes_in (spot_text line (get_or words 2 (spot 0 0)))))
states_write line first [] full = absurd (omega arith)
states_write line first (w ∷ []) full = absurd (omega arith)
states_write line first (w ∷ v ∷ []) full = absurd (omega arith)
states_write line first (w ∷ v ∷ u ∷ []) full = refl
states_write line first (w ∷ v ∷ u ∷ t ∷ words) full = absurd (omega arith)

-- What becomes of them.

pub finishes_told : (list : Option Medl) (before : Before) (number : ℕ) (line : List ℕ) (f : Form) (first : Spot)
    (words : List Spot) (so_far : SoFar) (old new : List ScriptError) (w : Wrong)
    → stated_wrong list before (line_states line f (first ∷ words)) ≡ Some w
    → StandsFor list so_far (record before { named = true })
    → new ≡ old ++ error_of_word number first w ∷ []
    → Finishes list before number line f first words so_far old new
finishes_told list before number line f first words so_far old new w is stands now = record {
  found = now ∙ ap (λ (o : Option Wrong). old ++ errors_of_word number first o) (sym is);
  after = rw is stands;
}

pub finishes_kept : (list : Option Medl) (before : Before) (number : ℕ) (line : List ℕ) (f : Form) (first : Spot)
    (words : List Spot) (so_far : SoFar) (old : List ScriptError)
    → stated_wrong list before (line_states line f (first ∷ words)) ≡ None
    → StandsFor list so_far (with_taken before number (line_states line f (first ∷ words)))
    → Finishes list before number line f first words so_far old old
finishes_kept list before number line f first words so_far old is stands = record {
  found = sym (append-nil old) ∙ ap (λ (o : Option Wrong). old ++ errors_of_word number first o) (sym is);
  after = rw is stands;
}

-- what buffers say of one write more, by the counts that are kept
pub counted_wrong : (list : Option Medl) (before : Before) (so_far : SoFar) (node slot k t : ℕ)
    → StandsFor list so_far before → k < most_nodes → node ≡ k → slot ≡ t
    → buffer_wrong list k t (count_by (is_write_at k t) (stated before) + 1)
    ≡ buffer_wrong list node slot (counted_writes so_far.writes node slot + 1)
counted_wrong None before so_far node slot k t stands within node_is slot_is = refl
counted_wrong (Some list) before so_far node slot k t stands within node_is slot_is =
    rw (node_is, slot_is) (ap (λ (n : ℕ). buffer_wrong (Some list) k t (n + 1)) (sym (stands.writes refl k t within)))

-- Forms whose lines say nothing that is kept.

abbrev pub is_other : Form → Bool
is_other form.Slots = false
is_other form.On = false
is_other form.Drift = false
is_other form.Write = false
is_other _ = true

pub other_form : (f : Form) → ¬ (f ≡ form.Slots) → ¬ (f ≡ form.On) → ¬ (f ≡ form.Drift) → ¬ (f ≡ form.Write)
    → is_other f ≡ true
other_form form.Slots slots on drift write = absurd (slots refl)
other_form form.On slots on drift write = absurd (on refl)
other_form form.Drift slots on drift write = absurd (drift refl)
other_form form.Write slots on drift write = absurd (write refl)
other_form f slots on drift write = refl

-- such a line states an event that is no write
record StatesOther (line : List ℕ) (f : Form) (words : List Spot) : Type 0 where
  event : Event
  says : line_states line f words ≡ says_event event
  quiet : (k t : ℕ) → is_write_at k t (says_event event) ≡ false
  right : (list : Option Medl) (before : Before) → stated_wrong list before (says_event event) ≡ None

states_other : (line : List ℕ) (f : Form) (words : List Spot) → is_other f ≡ true → StatesOther line f words
states_other line form.Slots words other = cc
states_other line form.On words other = cc
states_other line form.Drift words other = cc
states_other line form.Send words other =
    record { event = _; says = refl; quiet = λ k t. refl; right = λ list before. refl }
states_other line form.Receive words other =
    record { event = _; says = refl; quiet = λ k t. refl; right = λ list before. refl }
states_other line form.Flip words other =
    record { event = _; says = refl; quiet = λ k t. refl; right = λ list before. refl }
states_other line form.Error words other =
    record { event = _; says = refl; quiet = λ k t. refl; right = λ list before. refl }
states_other line form.Jump words other =
    record { event = _; says = refl; quiet = λ k t. refl; right = λ list before. refl }
states_other line form.Arm words other =
    record { event = _; says = refl; quiet = λ k t. refl; right = λ list before. refl }
states_other line form.Write words other = cc
states_other line form.Read words other =
    record { event = _; says = refl; quiet = λ k t. refl; right = λ list before. refl }

pub finishes_other : (list : Option Medl) (before : Before) (number : ℕ) (line : List ℕ) (f : Form) (first : Spot)
    (words : List Spot) (so_far : SoFar) (old : List ScriptError) → is_other f ≡ true
    → ((e : Event) → ((k t : ℕ) → is_write_at k t (says_event e) ≡ false)
    → StandsFor list so_far (with_taken before number (says_event e)))
    → Finishes list before number line f first words so_far old old
finishes_other list before number line f first words so_far old other kept =
    let s = states_other line f (first ∷ words) other in
    finishes_kept list before number line f first words so_far old
    (ap (stated_wrong list before) s.says ∙ s.right list before)
    (subst (λ (st : Statement). StandsFor list so_far (with_taken before number st)) (sym s.says)
    (kept s.event s.quiet))
