-- What a line states, and that nothing is wrong with it.
use Rattle.std.proofs.Common.{◌≡◌, ℕ, ◌&&◌, ◌==◌, true, false, List, [], ◌∷◌, Some, refl}
use Rattle.ttp_base.proofs.Numerals.{has}
use Rattle.ttp_world.specs.declared.medl.Medl.{Medl}
use Rattle.script_text.specs.Faults.{slots_of, stated_slots, has_nodes, statement_has_payload}
use Rattle.script_text.specs.Faults.{is_in_range, is_repeat, is_write}
use Rattle.script_text.specs.Faults.{fills_buffers, is_after_slots, statement_faults}
use Rattle.script_text.specs.Faults.{stated_faults, form_faults, line_faults}
use Rattle.script_text.specs.Faults.{statements_after}
use Rattle.script_text.specs.Lines.{words_of_line, word_at, says_nothing}
use Rattle.script_text.specs.Statement.{Statement, keyword_of, is_spelled, has_numbers, statement_of}

-- nothing is wrong with the words of a form, which state this
pub record AreRight (list : Medl) (before : List Statement) (words : List (List ℕ)) (form : _) (s : Statement) : Type 0
  where
    pub spelled : is_spelled form words ≡ true
    pub slots : is_after_slots form (slots_of before) ≡ true
    pub numbers : has_numbers form words ≡ true
    pub states : statement_of form words ≡ s
    pub nodes : has_nodes list s ≡ true
    pub payload : statement_has_payload list s ≡ true
    pub range : is_in_range list (stated_slots before) words s ≡ true
    pub once : is_repeat before s ≡ false
    pub buffer : (is_write s && (list.buffers == 1)) ≡ false
    pub few : fills_buffers list before s ≡ false

no_faults : (list : Medl) (before : List Statement) (words : List (List ℕ)) (form : _) (s : Statement)
    → AreRight list before words form s → form_faults list before words form ≡ []
unfolding form_faults stated_faults statement_faults
no_faults list before words form s are =
    rw (
      are.spelled,
      are.slots,
      are.numbers,
      are.states,
      are.nodes,
      are.payload,
      are.range,
      are.once,
      are.buffer,
      are.few,
    ) refl

-- a line is read as a statement more
pub record IsRead (list : Medl) (before : List Statement) (line : List ℕ) (s : Statement) : Type 0 where
  pub faults : line_faults list before (words_of_line line) ≡ []
  pub after : statements_after before (words_of_line line) ≡ s ∷ before

pub read_line : (list : Medl) (before : List Statement) (line : List ℕ)
    (words : List (List ℕ)) (form : _) (s : Statement)
    → words_of_line line ≡ words → says_nothing words ≡ false → keyword_of (word_at words 0) ≡ Some form
    → AreRight list before words form s → IsRead list before line s
unfolding line_faults statements_after
read_line list before line words form s cut says names are = record {
  faults = rw (cut, says, names) (no_faults list before words form s are);
  after = rw (cut, says, names, are.states) refl;
}

-- a line is read so, and has no byte that ends one
pub record IsLine (list : Medl) (before : List Statement) (line : List ℕ) (s : Statement) : Type 0 where
  pub feeds : has 10 line ≡ false
  pub returns : has 13 line ≡ false
  pub read : IsRead list before line s
