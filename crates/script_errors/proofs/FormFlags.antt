-- What the reader of scripts asks of the words of a form, by what holds of each of them.
use Rattle.std.proofs.Common.{◌≡◌, ℕ, suc, ◌+◌, ◌-◌, ◌≤◌, ◌==◌, ◌&&◌, ◌||◌, not}
use Rattle.std.proofs.Common.{Bool, true, false, List, [], ◌∷◌, Option}
use Rattle.std.proofs.Common.{Some, None, refl, ap, sym, arith, nat_le, nat_lt, length, is_some}
use Rattle.std.specs.Prelude.{codes, if◌then◌else◌}
use Rattle.std.specs.List.{list_all}
use Rattle.std.proofs.lemmas.Bool.Decides.{nat_tests}
use Rattle.std.proofs.Math.Bool.{and_assoc}
use Rattle.ttp_base.proofs.NodeSets.{and-true}
use Rattle.ttp_world.specs.declared.medl.Medl.{Medl}
use Rattle.ttp_world.specs.declared.script.Source.TheVariants as source
use Rattle.script_text.specs.Lines.{word_at}
use Rattle.script_text.specs.Numbers.{is_text, is_number, decimal_value}
use Rattle.script_text.specs.Statement.{keyword_of, form_word_count, has_channels, has_numbers, statement_of}
use Rattle.script_text.specs.Faults.{is_node, is_read_node, node_sends_payload, has_nodes, statement_has_payload}
use Rattle.script_text.specs.Faults.{is_in_range}
use Rattle.script_errors.specs.declared.error.Form.{Form}
use Rattle.script_errors.specs.declared.error.Form.TheVariants as form
use Rattle.script_errors.specs.declared.error.Part.{Part}
use Rattle.script_errors.specs.Words.{form_word, parts_of}
use Rattle.script_errors.proofs.Stages.{Flags}
use Rattle.script_errors.proofs.PartFlags.{flags_of, source_flags}

-- The reader's name of a form.

abbrev pub from_of : {A B : Type 0} → (A → B) → Type 0
from_of {A} f = A

abbrev pub Key : Type 0
Key = from_of form_word_count

abbrev pub some_of : {X : Type 0} (o : Option X) → is_some o ≡ true → X
some_of (Some x) h = x
some_of None h = cc

pub known : (f : Form) → is_some (keyword_of (form_word f)) ≡ true
known form.Slots = refl
known f = refl

abbrev pub key : (f : Form) → Key
key f = some_of (keyword_of (form_word f)) (known f)

pub key_is : (f : Form) → keyword_of (form_word f) ≡ Some (key f)
key_is form.Slots = refl
key_is f = refl

pub count_is : (f : Form) → form_word_count (key f) ≡ length (parts_of f) + 1
count_is form.Slots = refl
count_is f = refl

-- The flags of the words of a line, from the one at this place on, in the order of the parts.

abbrev pub flags_from : Medl → ℕ → Option ℕ → List Part → ℕ → List (List ℕ) → List Flags
flags_from list slots owner [] i texts = []
flags_from list slots owner (p ∷ parts) i texts =
    flags_of list slots owner p (word_at texts i) ∷ flags_from list slots owner parts (suc i) texts

abbrev pub form_flags : Medl → ℕ → Option ℕ → Form → List (List ℕ) → List Flags
form_flags list slots owner f texts = flags_from list slots owner (parts_of f) 1 texts

-- a source by whether it is `status`

source_spelled : (list : Medl) (owner : Option ℕ) (word : List ℕ) (b : Bool)
    → (source_flags list owner word b).spelled ≡ true
source_spelled list owner word true = refl
source_spelled list owner word false = refl

source_number : (list : Medl) (owner : Option ℕ) (word : List ℕ) (b : Bool)
    → (b || is_number word) ≡ (source_flags list owner word b).number
source_number list owner word true = refl
source_number list owner word false = refl

source_node : (list : Medl) (owner : Option ℕ) (word : List ℕ) (b : Bool)
    → is_read_node (is_node list) (if b then source.Status else source.Node (decimal_value word))
    ≡ (source_flags list owner word b).node
source_node list owner word true = refl
source_node list owner word false = refl

source_sends : (list : Medl) (owner : Option ℕ) (word : List ℕ) (b : Bool)
    → is_read_node (node_sends_payload list) (if b then source.Status else source.Node (decimal_value word))
    ≡ (source_flags list owner word b).sends
source_sends list owner word true = refl
source_sends list owner word false = refl

source_range : (list : Medl) (k : ℕ) (word : List ℕ) (b : Bool)
    → is_read_node (λ j. not (j == k)) (if b then source.Status else source.Node (decimal_value word))
    ≡ (source_flags list (Some k) word b).range
source_range list k word true = refl
source_range list k word false = refl

pub spelled_agree : (list : Medl) (slots : ℕ) (owner : Option ℕ) (f : Form) (texts : List (List ℕ))
    → has_channels (key f) texts ≡ list_all (λ g. g.spelled) (form_flags list slots owner f texts)
spelled_agree list slots owner form.Send texts = simp and-true refl
spelled_agree list slots owner form.Receive texts = simp and-true refl
spelled_agree list slots owner form.Flip texts = simp and-true refl
spelled_agree list slots owner form.Read texts =
    rw (source_spelled list owner (word_at texts 3) (is_text (codes "status") (word_at texts 3))) refl
spelled_agree list slots owner f texts = refl

pub numbers_agree : (list : Medl) (slots : ℕ) (owner : Option ℕ) (f : Form) (texts : List (List ℕ))
    → has_numbers (key f) texts ≡ list_all (λ g. g.number) (form_flags list slots owner f texts)
numbers_agree list slots owner form.Slots texts = simp and-true refl
numbers_agree list slots owner form.On texts = simp and-true refl
numbers_agree list slots owner form.Drift texts = simp and-true refl
numbers_agree list slots owner form.Send texts = simp and-true refl
numbers_agree list slots owner form.Receive texts = simp and-true refl
numbers_agree list slots owner form.Flip texts = simp and-true refl
numbers_agree list slots owner form.Error texts = simp and-true refl
numbers_agree list slots owner form.Jump texts = simp and-true refl
numbers_agree list slots owner form.Arm texts = simp and-true refl
numbers_agree list slots owner form.Write texts = simp and-true refl
numbers_agree list slots owner form.Read texts =
    simp (and-true, source_number list owner (word_at texts 3) (is_text (codes "status") (word_at texts 3))) refl

pub nodes_agree : (list : Medl) (slots : ℕ) (owner : Option ℕ) (f : Form) (texts : List (List ℕ))
    → has_nodes list (statement_of (key f) texts) ≡ list_all (λ g. g.node) (form_flags list slots owner f texts)
nodes_agree list slots owner form.Slots texts = refl
nodes_agree list slots owner form.On texts = simp and-true refl
nodes_agree list slots owner form.Drift texts = simp and-true refl
nodes_agree list slots owner form.Send texts = simp and-true refl
nodes_agree list slots owner form.Receive texts = simp and-true refl
nodes_agree list slots owner form.Flip texts = simp and-true refl
nodes_agree list slots owner form.Error texts = simp and-true refl
nodes_agree list slots owner form.Jump texts = simp and-true refl
nodes_agree list slots owner form.Arm texts = simp and-true refl
nodes_agree list slots owner form.Write texts = simp and-true refl
nodes_agree list slots owner form.Read texts =
    simp (and-true, source_node list owner (word_at texts 3) (is_text (codes "status") (word_at texts 3))) refl

pub data_agree : (list : Medl) (slots : ℕ) (owner : Option ℕ) (f : Form) (texts : List (List ℕ))
    → statement_has_payload list (statement_of (key f) texts)
    ≡ list_all (λ g. g.sends) (form_flags list slots owner f texts)
data_agree list slots owner form.Slots texts = refl
data_agree list slots owner form.On texts = refl
data_agree list slots owner form.Drift texts = refl
data_agree list slots owner form.Send texts = refl
data_agree list slots owner form.Receive texts = refl
data_agree list slots owner form.Flip texts = refl
data_agree list slots owner form.Error texts = refl
data_agree list slots owner form.Jump texts = refl
data_agree list slots owner form.Arm texts = refl
data_agree list slots owner form.Write texts = simp and-true refl
data_agree list slots owner form.Read texts =
    simp (and-true, source_sends list owner (word_at texts 3) (is_text (codes "status") (word_at texts 3))) refl

-- Ranges, in a run of one slot or more, where the node of the line is known.

pub slot_range : (slots v : ℕ) → 1 ≤ slots → (nat_le 0 v && nat_le v (slots - 1)) ≡ nat_lt v slots
slot_range slots v some = grind (arith, nat_tests)

-- the last slot comes no earlier than the first
abbrev pub in_order : Form → List (List ℕ) → Bool
in_order form.Send texts = nat_le (decimal_value (word_at texts 4)) (decimal_value (word_at texts 5))
in_order form.Receive texts = nat_le (decimal_value (word_at texts 4)) (decimal_value (word_at texts 5))
in_order form.Error texts = nat_le (decimal_value (word_at texts 3)) (decimal_value (word_at texts 4))
in_order _ texts = true

pub range_agrees : (list : Medl) (slots : ℕ) (f : Form) (texts : List (List ℕ)) → 1 ≤ slots
    → is_in_range list slots texts (statement_of (key f) texts)
    ≡ (list_all (λ g. g.range)
    (form_flags list slots (Some (decimal_value (word_at texts 1))) f texts) && in_order f texts)
range_agrees list slots form.Slots texts some = simp and-true refl
range_agrees list slots form.On texts some =
    simp (and-true, slot_range slots (decimal_value (word_at texts 2)) some) refl
range_agrees list slots form.Drift texts some = simp and-true refl
range_agrees list slots form.Send texts some =
    simp (
      and-true,
      slot_range slots (decimal_value (word_at texts 4)) some,
      slot_range slots
          (decimal_value (word_at texts 5)) some,
    ) (sym
    (and_assoc (nat_lt (decimal_value (word_at texts 4)) slots) (nat_lt (decimal_value (word_at texts 5)) slots)
    (nat_le (decimal_value (word_at texts 4)) (decimal_value (word_at texts 5)))))
range_agrees list slots form.Receive texts some =
    simp (
      and-true,
      slot_range slots (decimal_value (word_at texts 4)) some,
      slot_range slots
          (decimal_value (word_at texts 5)) some,
    ) (sym
    (and_assoc (nat_lt (decimal_value (word_at texts 4)) slots) (nat_lt (decimal_value (word_at texts 5)) slots)
    (nat_le (decimal_value (word_at texts 4)) (decimal_value (word_at texts 5)))))
range_agrees list slots form.Flip texts some =
    simp (and-true, slot_range slots (decimal_value (word_at texts 4)) some) refl
range_agrees list slots form.Error texts some =
    simp (
      and-true,
      slot_range slots (decimal_value (word_at texts 3)) some,
      slot_range slots
          (decimal_value (word_at texts 4)) some,
      and_assoc,
    ) refl
range_agrees list slots form.Jump texts some =
    simp (and-true, slot_range slots (decimal_value (word_at texts 3)) some) refl
range_agrees list slots form.Arm texts some =
    simp (and-true, slot_range slots (decimal_value (word_at texts 2)) some) refl
range_agrees list slots form.Write texts some =
    simp (and-true, slot_range slots (decimal_value (word_at texts 2)) some) refl
range_agrees list slots form.Read texts some =
    simp (
      and-true,
      slot_range slots (decimal_value (word_at texts 2)) some,
      source_range list (decimal_value (word_at texts 1)) (word_at texts 3)
          (is_text (codes "status") (word_at texts 3)),
    ) refl

-- The node of a line is asked of messages and sources alone.

abbrev pub asks_node : Form → Bool
asks_node form.Write = true
asks_node form.Read = true
asks_node _ = false

pub flags_at_node : (list : Medl) (slots : ℕ) (owner : Option ℕ) (k : ℕ) (f : Form) (texts : List (List ℕ))
    → (asks_node f ≡ true → owner ≡ Some k)
    → form_flags list slots owner f texts ≡ form_flags list slots (Some k) f texts
flags_at_node list slots owner k form.Slots texts is = refl
flags_at_node list slots owner k form.On texts is = refl
flags_at_node list slots owner k form.Drift texts is = refl
flags_at_node list slots owner k form.Send texts is = refl
flags_at_node list slots owner k form.Receive texts is = refl
flags_at_node list slots owner k form.Flip texts is = refl
flags_at_node list slots owner k form.Error texts is = refl
flags_at_node list slots owner k form.Jump texts is = refl
flags_at_node list slots owner k form.Arm texts is = refl
flags_at_node list slots owner k form.Write texts is =
    ap (λ (n : Option ℕ). form_flags list slots n form.Write texts) (is refl)
flags_at_node list slots owner k form.Read texts is =
    ap (λ (n : Option ℕ). form_flags list slots n form.Read texts) (is refl)
