-- What holds of a word that says a part of a line, and what is told of it.
use Rattle.std.proofs.Common.{◌≡◌, ℕ, ◌-◌, ◌*◌, ◌==◌, ◌&&◌, not, Bool, true}
use Rattle.std.proofs.Common.{false, List, Option, Some, None, refl, length}
use Rattle.std.proofs.Common.{nat_le, arith}
use Rattle.std.proofs.lemmas.Bool.Decides.{nat_tests}
use Rattle.std.specs.Prelude.{codes, if◌then◌else◌, ℤ}
use Rattle.std.specs.Option.{option_map}
use Rattle.ttp_world.specs.declared.medl.Medl.{Medl}
use Rattle.ttp_world.specs.declared.script.TheConstants.{SLOT_LIMIT, DRIFT_LIMIT, ERROR_LIMIT, JUMP_LIMIT}
use Rattle.ttp_world.specs.declared.script.TheConstants.{FIRST_FLIPPED_BIT, LAST_FLIPPED_BIT}
use Rattle.script_text.specs.declared.error.LineFault.{LineFault}
use Rattle.script_text.specs.Faults.{is_node, payload_size, node_sends_payload, is_within_limit}
use Rattle.script_text.specs.Numbers.{is_text, is_number, decimal_value, is_value, value_in}
use Rattle.script_text.specs.Numbers.{is_hex_word, is_channels, is_fault}
use Rattle.script_errors.specs.declared.error.Part.{Part}
use Rattle.script_errors.specs.declared.error.Part.TheVariants as part
use Rattle.script_errors.specs.declared.error.Wrong.{Wrong}
use Rattle.script_errors.specs.declared.error.Wrong.TheVariants as wrong
use Rattle.script_errors.specs.Words.{word_wrong, node_count, spelling_wrong}
use Rattle.script_errors.specs.Words.{source_wrong, data_wrong, first_wrong}
use Rattle.script_errors.specs.Words.{itself_wrong, message_length_wrong}
use Rattle.script_errors.specs.Agrees.{reader_fault}
use Rattle.script_errors.proofs.Stages.{Flags, told_by}

-- a word of which nothing is asked but this
abbrev pub spelled_flags : Bool → Flags
spelled_flags b = record { spelled = b; number = true; node = true; sends = true; range = true }

abbrev pub number_flags : Bool → Bool → Flags
number_flags n r = record { spelled = true; number = n; node = true; sends = true; range = r }

abbrev pub node_flags : Bool → Bool → Bool → Bool → Flags
node_flags n k s r = record { spelled = true; number = n; node = k; sends = s; range = r }

-- a source is another node than a known one
abbrev pub is_another : ℕ → Option ℕ → Bool
is_another source None = true
is_another source (Some node) = not (source == node)

-- a message is as long as is due
abbrev pub is_long : Medl → Option ℕ → ℕ → Bool
is_long list None digits = true
is_long list (Some node) digits = digits == 2 * payload_size list node

abbrev pub source_flags : Medl → Option ℕ → List ℕ → Bool → Flags
source_flags list owner word true = node_flags true true true true
source_flags list owner word false =
    node_flags (is_number word) (is_node list (decimal_value word)) (node_sends_payload list (decimal_value word))
    (is_another (decimal_value word) owner)

abbrev pub flags_of : Medl → ℕ → Option ℕ → Part → List ℕ → Flags
flags_of list slots owner part.Slots word =
    number_flags (is_number word) (nat_le 1 (decimal_value word) && nat_le (decimal_value word) SLOT_LIMIT)
flags_of list slots owner part.Node word = node_flags (is_number word) (is_node list (decimal_value word)) true true
flags_of list slots owner part.Writer word =
    node_flags (is_number word) (is_node list (decimal_value word)) (node_sends_payload list (decimal_value word)) true
flags_of list slots owner part.Slot word =
    number_flags (is_number word) (nat_le 0 (decimal_value word) && nat_le (decimal_value word) (slots - 1))
flags_of list slots owner part.From word =
    number_flags (is_number word) (nat_le 0 (decimal_value word) && nat_le (decimal_value word) (slots - 1))
flags_of list slots owner part.To word =
    number_flags (is_number word) (nat_le 0 (decimal_value word) && nat_le (decimal_value word) (slots - 1))
flags_of list slots owner part.Channels word = spelled_flags (is_channels word)
flags_of list slots owner part.Fault word = spelled_flags (is_fault word)
flags_of list slots owner part.Bit word = number_flags (is_number word)
    (nat_le FIRST_FLIPPED_BIT (decimal_value word) && nat_le (decimal_value word) LAST_FLIPPED_BIT)
flags_of list slots owner part.Drift word = number_flags (is_value word) (is_within_limit DRIFT_LIMIT (value_in word))
flags_of list slots owner part.Reading word = number_flags (is_value word) (is_within_limit ERROR_LIMIT (value_in word))
flags_of list slots owner part.Jump word = number_flags (is_value word) (is_within_limit JUMP_LIMIT (value_in word))
flags_of list slots owner part.Message word = number_flags (is_hex_word word) (is_long list owner (length word))
flags_of list slots owner part.Source word = source_flags list owner word (is_text (codes "status") word)

-- what is told of a word, as the reader's fault
abbrev pub classes : Option Wrong → Option LineFault
classes w = option_map reader_fault w

of_number : (a b : Bool) (p : Part) (v low high l h : ℤ)
    → classes (if a then (if b then None else Some (wrong.OutOfRange p v low high)) else Some (wrong.NoNumber p l h))
    ≡ told_by (number_flags a b)
of_number true true p v low high l h = refl
of_number true false p v low high l h = refl
of_number false b p v low high l h = refl

of_spelling : (b : Bool) (p : Part) → classes (spelling_wrong p b) ≡ told_by (spelled_flags b)
of_spelling true p = refl
of_spelling false p = refl

of_node : (a b : Bool) (p : Part) (v high : ℕ) (l h : ℤ)
    → classes (if a then (if b then None else Some (wrong.NoNode p v high)) else Some (wrong.NoNumber p l h))
    ≡ told_by (node_flags a b true true)
of_node true true p v high l h = refl
of_node true false p v high l h = refl
of_node false b p v high l h = refl

-- a node sends payload where it has a byte of it or more
some_payload : (payload : ℕ) → nat_le 1 payload ≡ not (payload == 0)
some_payload payload = grind (arith, nat_tests)

of_writer : (a b z : Bool) (payload : ℕ) (p : Part) (v w high : ℕ) (l h : ℤ) → (payload == 0) ≡ z
    → classes (first_wrong (if a
    then (if b then None else Some (wrong.NoNode p v high)) else Some (wrong.NoNumber p l h))
    (data_wrong p w (Some payload)))
    ≡ told_by (node_flags a b (not (payload == 0)) true)
of_writer true true true payload p v w high l h is = rw is refl
of_writer true true false payload p v w high l h is = rw is refl
of_writer true false z payload p v w high l h is = refl
of_writer false b z payload p v w high l h is = refl

of_itself : (v : ℕ) (owner : Option ℕ) (same : Bool) → is_another v owner ≡ same
    → classes (itself_wrong v owner) ≡ told_by (node_flags true true true same)
of_itself v None same is = rw (← is) refl
of_itself v (Some k) true is = let off : (v == k) ≡ false = grind (arith, nat_tests) in rw off refl
of_itself v (Some k) false is = let on : (v == k) ≡ true = grind (arith, nat_tests) in rw on refl

of_source : (a b z : Bool) (payload : ℕ) (owner : Option ℕ) (v high : ℕ) → (payload == 0) ≡ z
    → classes (if a then (if b then first_wrong (data_wrong part.Source v (Some payload)) (itself_wrong v owner)
    else Some (wrong.NoNode part.Source v high)) else Some (wrong.NoSource high))
    ≡ told_by (node_flags a b (not (payload == 0)) (is_another v owner))
of_source true true true payload owner v high is = rw is refl
of_source true true false payload owner v high is = rw is (of_itself v owner (is_another v owner) refl)
of_source true false z payload owner v high is = refl
of_source false b z payload owner v high is = refl

of_length : (list : Medl) (owner : Option ℕ) (digits : ℕ) (long : Bool) → is_long list owner digits ≡ long
    → classes (message_length_wrong (Some list) owner digits) ≡ told_by (number_flags true long)
of_length list None digits long is = rw (← is) refl
of_length list (Some k) digits true is = rw is refl
of_length list (Some k) digits false is = rw is refl

of_message : (a : Bool) (list : Medl) (owner : Option ℕ) (digits : ℕ)
    → classes (if a then message_length_wrong (Some list) owner digits else Some wrong.NoDigits)
    ≡ told_by (number_flags a (is_long list owner digits))
of_message true list owner digits = of_length list owner digits (is_long list owner digits) refl
of_message false list owner digits = refl

of_source_word : (list : Medl) (owner : Option ℕ) (word : List ℕ) (status : Bool)
    → is_text (codes "status") word ≡ status
    → classes (source_wrong (Some list) owner word) ≡ told_by (source_flags list owner word status)
of_source_word list owner word true is = rw is refl
of_source_word list owner word false is =
    let v = decimal_value word in
    rw (is, some_payload (payload_size list v))
    (of_source (is_number word) (is_node list v) (payload_size list v == 0) (payload_size list v) owner v
    (node_count (Some list) - 1) refl)

-- what is told of a word is what its flags say
pub told_of_word : (list : Medl) (slots : ℕ) (owner : Option ℕ) (p : Part) (word : List ℕ)
    → classes (word_wrong (Some list) slots owner p word) ≡ told_by (flags_of list slots owner p word)
unfolding word_wrong
told_of_word list slots owner part.Slots word = of_number _ _ _ _ _ _ _ _
told_of_word list slots owner part.Node word = of_node _ _ _ _ _ _ _
told_of_word list slots owner part.Writer word =
    let v = decimal_value word in
    rw (some_payload (payload_size list v))
    (of_writer (is_number word) (is_node list v) (payload_size list v == 0) (payload_size list v) _ _ _ _ _ _ refl)
told_of_word list slots owner part.Channels word = of_spelling _ _
told_of_word list slots owner part.Fault word = of_spelling _ _
told_of_word list slots owner part.Message word = of_message (is_hex_word word) list owner (length word)
told_of_word list slots owner part.Source word = of_source_word list owner word (is_text (codes "status") word) refl
told_of_word list slots owner p word = of_number _ _ _ _ _ _ _ _
