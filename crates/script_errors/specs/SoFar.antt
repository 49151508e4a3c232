-- What the reader keeps of the lines before.
use Rattle.std.specs.Prelude.{◌≡◌, ℕ, ◌+◌, ◌*◌, ◌<◌, ◌==◌, ◌&&◌, true, List, [], ◌∷◌, ◌++◌, Option, None}
use Rattle.std.specs.Prelude.{slice_index, slice_index_or, if◌then◌else◌, option_map, count_by, is_some}
use Rattle.ttp_base.specs.NodeSet.{most_nodes}
use Rattle.ttp_world.specs.declared.medl.Medl.{Medl}
use Rattle.script_text.specs.Faults.{is_write_at, slots_of}
use Rattle.script_errors.specs.declared.so_far.SoFar.{SoFar}
use Rattle.script_errors.specs.declared.writes.WriteCounts.{WriteCounts}
use Rattle.script_errors.specs.declared.error.Form.{Form}
use Rattle.script_errors.specs.declared.error.ScriptError.{ScriptError}
use Rattle.script_errors.specs.declared.spots.Spot.{Spot}
use Rattle.script_errors.specs.Errors.{Before, stated, line_stating_slots, line_stating_on}
use Rattle.script_errors.specs.Errors.{line_stating_drift, errors_of_word, stated_wrong}
use Rattle.script_errors.specs.Errors.{line_states, taken_unless, full_errors, form_errors, form_after, said_errors}
use Rattle.script_errors.specs.Errors.{said_after, line_errors, before_next, length_errors, is_full, before_comment}

-- how often a node's host writes in a slot: the counts of a slot's nodes stand together, slot by slot, and those past
-- the end are 0
abbrev pub counted_writes : WriteCounts → ℕ → ℕ → ℕ
counted_writes writes k t = slice_index writes.counts.items (t * most_nodes + k)

-- one write more of a node's host in a slot is counted
pub record CountsOneMore (old new : WriteCounts) (node slot : ℕ) : Type 0 where
  pub counts : (k t : ℕ) → k < most_nodes
      → counted_writes new k t ≡ counted_writes old k t + (if (node == k) && (slot == t) then 1 else 0)

-- the lines before state this; writes are counted where the list says how many there may be
pub record StandsFor (list : Option Medl) (so_far : SoFar) (before : Before) : Type 0 where
  pub named : so_far.named ≡ before.named
  pub slots : option_map (λ s. s.count) so_far.slots ≡ slots_of (stated before)
  pub line_stating_slots : option_map (λ s. s.line) so_far.slots ≡ line_stating_slots before
  pub on : (k : ℕ) → k < most_nodes → slice_index_or so_far.on k None ≡ line_stating_on before k
  pub drift : (k : ℕ) → k < most_nodes → slice_index_or so_far.drift k None ≡ line_stating_drift before k
  pub writes : is_some list ≡ true → (k t : ℕ) → k < most_nodes
      → counted_writes so_far.writes k t ≡ count_by (is_write_at k t) (stated before)

-- What becomes of a line.

-- what a line of a form states, after its words were looked at, was told or kept
pub record Finishes (list : Option Medl) (before : Before) (number : ℕ) (line : List ℕ) (f : Form) (first : Spot)
    (words : List Spot) (so_far : SoFar) (old new : List ScriptError) : Type 0 where
  pub found : new ≡ old ++ errors_of_word number first (stated_wrong list before (line_states line f (first ∷ words)))
  pub after : StandsFor list so_far
      (taken_unless (errors_of_word number first (stated_wrong list before (line_states line f (first ∷ words)))) before
      number (line_states line f (first ∷ words)))

-- all that is wrong with a line of a form with its number of words was told, and what it states counts where nothing is
pub record TellsFull (list : Option Medl) (before : Before) (number : ℕ) (line : List ℕ) (f : Form) (first : Spot)
    (words : List Spot) (so_far : SoFar) (old new : List ScriptError) : Type 0 where
  pub found : new ≡ old ++ full_errors list before number line f first words
  pub after : StandsFor list so_far
      (taken_unless (full_errors list before number line f first words) before number
      (line_states line f (first ∷ words)))

-- all that is wrong with a line of a form was told, and what it states counts where nothing is
pub record TellsForm (list : Option Medl) (before : Before) (number : ℕ) (line : List ℕ) (f : Form) (first : Spot)
    (words : List Spot) (so_far : SoFar) (old new : List ScriptError) : Type 0 where
  pub found : new ≡ old ++ form_errors list before number line f first words
  pub after : StandsFor list so_far (form_after list before number line f first words)

-- all that is wrong with a line of a form with another number of words was told, and what it states before a comment
-- counts
pub record TellsLength (list : Option Medl) (before : Before) (number : ℕ) (line : List ℕ) (f : Form) (first : Spot)
    (words : List Spot) (so_far : SoFar) (old new : List ScriptError) : Type 0 where
  pub found : new ≡ old ++ (length_errors number line f first words
      ++ (if is_full f (before_comment line words)
      then full_errors list before number line f first (before_comment line words) else []))
  pub after : StandsFor list so_far (form_after list before number line f first words)

-- all that is wrong with the words of a line was told, and what they state counts where nothing is
pub record TellsWords (list : Option Medl) (before : Before) (number : ℕ) (line : List ℕ) (words : List Spot)
    (so_far : SoFar) (old new : List ScriptError) : Type 0 where
  pub found : new ≡ old ++ said_errors list before number line words
  pub after : StandsFor list so_far (said_after list before number line words)

-- all that is wrong with a whole line was told, and what it states counts where nothing is
pub record TellsLine (list : Option Medl) (before : Before) (number : ℕ) (line : List ℕ)
    (so_far : SoFar) (old new : List ScriptError) : Type 0 where
  pub found : new ≡ old ++ line_errors list before number line
  pub after : StandsFor list so_far (before_next list before number line)
