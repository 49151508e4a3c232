-- A text that is the trace of a run by some legal numbers is so by those that its own lines name.
use Rattle.trace_check.proofs.Words.{◌≡◌, ◌∙◌, ℕ, zero, suc, true, List, length, refl, ap, map, concat, and_parts}
use Rattle.trace_check.proofs.Words.{Lines, lines_of, lines_of-concat, Medl, Script, IsLegalRun, IsValid, IsValidScript}
use Rattle.trace_check.proofs.Words.{trace_lines, words_of, Numbers, trace_lines-each}
use Rattle.std.specs.Str.{bytes_eq}
use Rattle.std.proofs.lemmas.Bool.{and_from}
use Rattle.std.proofs.lemmas.Slice.Eq.{bytes_eq-Decides}
use Rattle.ttp_world.specs.Legal.{is_legal}
use Rattle.ttp_world.specs.TraceNumbers.{numbers_below, numbers_in}
use Rattle.ttp_world.proofs.TraceNumbers.{numbers_in-trace}
use Rattle.trace_check.specs.Answer.{is_trace, is_trace_by}

-- a text is the trace of the run with some legal message numbers
pub record IsTrace (list : Medl) (script : Script) (text : List ℕ) : Type 0 where
  pub numbers : Numbers
  pub legal : IsLegalRun list script numbers
  pub whole : text ≡ concat (trace_lines list script numbers)

-- lines name numbers of each slot
length-numbers_below : (list : Medl) (lines : List (List (List ℕ))) (slots : ℕ)
    → length (numbers_below list lines slots) ≡ slots
length-numbers_below list lines zero = refl
length-numbers_below list lines (suc slots) = ap suc (length-numbers_below list lines slots)

pub is_trace-numbers : (list : Medl) (script : Script) (text : List ℕ) → is_trace list script text ≡ true
    → IsTrace list script text
unfolding is_trace
is_trace-numbers list script text is =
    let numbers = numbers_in list script (lines_of text) in
    let both = and_parts (is_legal list script numbers) (bytes_eq text (concat (trace_lines list script numbers))) is in
    record {
      numbers = numbers;
      legal = record {
        count = length-numbers_below list (map words_of (lines_of text)) script.slots;
        legal = both.0;
      };
      whole = (bytes_eq-Decides text (concat (trace_lines list script numbers))).0 both.1;
    }

pub numbers-is_trace : (list : Medl) (script : Script) (text : List ℕ) → IsValid list → IsValidScript list script
    → IsTrace list script text → is_trace list script text ≡ true
unfolding is_trace
numbers-is_trace list script text valid valid_script trace =
    ap (λ (numbers : Numbers). is_trace_by list script numbers text) named
    ∙ and_from (is_legal list script trace.numbers) (bytes_eq text (concat all)) trace.legal.legal
    ((bytes_eq-Decides text (concat all)).1 trace.whole)
  where
    all : Lines
    all = trace_lines list script trace.numbers

    named : numbers_in list script (lines_of text) ≡ trace.numbers
    named =
        ap (λ (t : List ℕ). numbers_in list script (lines_of t)) trace.whole
        ∙ ap (numbers_in list script) (lines_of-concat all (trace_lines-each list script trace.numbers))
        ∙ numbers_in-trace list script trace.numbers valid valid_script trace.legal.count trace.legal.legal
