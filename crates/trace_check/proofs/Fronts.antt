-- Of a text that is longer than any trace, the first bytes decide whether it is one and which of its lines is wrong.
use Rattle.std.proofs.Common.{◌≡◌, ◌⊎◌, ℕ, ◌+◌, ◌-◌, ◌<◌, ◌≤◌, Bool, true, false}
use Rattle.std.proofs.Common.{List, ◌++◌, length, take, drop, refl, ap}
use Rattle.std.proofs.Common.{sym, subst, ◌∙◌, inl, inr, arith, append_assoc, length-append}
use Rattle.std.specs.List.{concat}
use Rattle.std.proofs.lemmas.Bool.{cases_lt}
use Rattle.std.proofs.lemmas.List.{take_all, take-append-drop, length-take, length-take-le}
use Rattle.std.proofs.lemmas.List.Folds.{concat-append}
use Rattle.std.proofs.Math.Seq.{take-append-add}
use Rattle.ttp_base.specs.Text.{Lines, lines_of}
use Rattle.ttp_world.specs.declared.medl.Medl.{Medl}
use Rattle.ttp_world.specs.declared.script.Script.{Script}
use Rattle.ttp_world.specs.Legal.{IsLegalRun}
use Rattle.ttp_world.specs.Trace.{trace_lines}
use Rattle.ttp_world.specs.World.{Numbers}
use Rattle.trace_check.proofs.FromBelow.{concat-lines_of}
use Rattle.trace_check.specs.Answer.{is_trace, BeginsAsTrace, IsFirstWrong}
use Rattle.trace_check.proofs.Outcomes.{begins-right}
use Rattle.trace_check.proofs.OwnNumbers.{is_trace-numbers}

-- no trace of a list and a script has more bytes than these
abbrev pub HaveAtMost : Medl → Script → ℕ → Type 0
HaveAtMost list script limit =
    (numbers : Numbers) → IsLegalRun list script numbers → length (concat (trace_lines list script numbers)) ≤ limit

-- The first lines of a trace, so many, are whole lines of a text that begins with them.
record HasWhole (list : Medl) (script : Script) (text : List ℕ) (count : ℕ) (numbers : Numbers) : Type 0 where
  pub within : count ≤ length (trace_lines list script numbers)
  pub rest : List ℕ
  pub begins : text ≡ concat (take count (trace_lines list script numbers)) ++ rest

module _ (list : Medl) (script : Script) (limit : ℕ) (most : HaveAtMost list script limit) where
  pub is_trace-short : (text : List ℕ) → is_trace list script text ≡ true → length text ≤ limit
  is_trace-short text is =
      let trace = is_trace-numbers list script text is in
      omega (arith, most trace.numbers trace.legal, ap length trace.whole)

  -- a text that has no more lines than a trace is short
  few-short : (text : List ℕ) (count : ℕ) (begins : BeginsAsTrace list script text count)
      → length (trace_lines list script begins.numbers) < count → length text ≤ limit
  few-short text count begins few =
      let all = trace_lines list script begins.numbers in
      let front = take_all count all (omega (arith, few)) in
      let lines : length (lines_of text) ≤ count =
      omega (arith, few, ap length begins.lines, ap length front, length-take count (lines_of text)) in
      let same : lines_of text ≡ all = sym (take_all count (lines_of text) lines) ∙ begins.lines ∙ front in
      omega (arith, most begins.numbers begins.legal, ap length (sym (concat-lines_of text) ∙ ap concat same))

  whole-lines : (text : List ℕ) (count : ℕ) → limit < length text → (begins : BeginsAsTrace list script text count)
      → HasWhole list script text count begins.numbers
  whole-lines text count long begins =
      let all = trace_lines list script begins.numbers in
      let rest = concat (drop count (lines_of text)) in
      record {
        within =
            elim (cases_lt (length all) count) [
              | inl few ↦ absurd (omega (arith, long, few-short text count begins few))
              | inr within ↦ within
            ];
        rest = rest;
        begins =
            sym (concat-lines_of text)
            ∙ ap concat (sym (take-append-drop count (lines_of text)))
            ∙ concat-append (take count (lines_of text)) (drop count (lines_of text))
            ∙ ap (λ (lines : Lines). concat lines ++ rest) begins.lines;
      }

  -- first lines that are those of a trace in the first bytes are so in the whole text, and the other way round
  begins-whole : (text : List ℕ) (count : ℕ) → limit < length text
      → BeginsAsTrace list script (take (limit + 1) text) count → BeginsAsTrace list script text count
  begins-whole text count long begins =
      let front = take (limit + 1) text in
      let more = drop (limit + 1) text in
      let full = length-take-le (limit + 1) text (omega (arith, long)) in
      let whole = whole-lines front count (omega (arith, full)) begins in
      let right = concat (take count (trace_lines list script begins.numbers)) in
      begins-right list script text (whole.rest ++ more) begins.numbers count begins.legal whole.within
      (sym (take-append-drop (limit + 1) text)
      ∙ ap (λ (bytes : List ℕ). bytes ++ more) whole.begins
      ∙ append_assoc right whole.rest more)

  begins-front : (text : List ℕ) (count : ℕ) → limit < length text
      → BeginsAsTrace list script text count → BeginsAsTrace list script (take (limit + 1) text) count
  begins-front text count long begins =
      let whole = whole-lines text count long begins in
      let all = trace_lines list script begins.numbers in
      let right = concat (take count all) in
      let others = concat (drop count all) in
      let parts : concat all ≡ right ++ others =
      ap concat (sym (take-append-drop count all)) ∙ concat-append (take count all) (drop count all) in
      let short : length right ≤ limit =
      omega (arith, most begins.numbers begins.legal, ap length parts, length-append right others) in
      let left = limit + 1 - length right in
      let count_is : limit + 1 ≡ length right + left = omega (arith, short) in
      begins-right list script (take (limit + 1) text) (take left whole.rest) begins.numbers count begins.legal
      whole.within
      (ap (take (limit + 1)) whole.begins
      ∙ ap (λ (n : ℕ). take n (right ++ whole.rest)) count_is
      ∙ take-append-add right whole.rest left)

  -- no longer text is a trace, and its first bytes are none
  is_trace-long : (text : List ℕ) → limit < length text → is_trace list script text ≡ false
  is_trace-long text long = none (is_trace list script text) refl
    where
      none : (same : Bool) → is_trace list script text ≡ same → same ≡ false
      none false is = refl
      none true is = absurd (omega (arith, long, is_trace-short text is))

  is_trace-front_at : (text : List ℕ) → (limit < length text) ⊎ (length text ≤ limit)
      → is_trace list script (take (limit + 1) text) ≡ is_trace list script text
  is_trace-front_at text (inl long) =
      let full = length-take-le (limit + 1) text (omega (arith, long)) in
      is_trace-long (take (limit + 1) text) (omega (arith, full)) ∙ sym (is_trace-long text long)
  is_trace-front_at text (inr short) =
      ap (is_trace list script) (take_all (limit + 1) text (omega (arith, short)))

  pub is_trace-front : (text : List ℕ) → is_trace list script (take (limit + 1) text) ≡ is_trace list script text
  is_trace-front text = is_trace-front_at text (cases_lt limit (length text))

  first_wrong-front_at : (text : List ℕ) (line : ℕ) → (limit < length text) ⊎ (length text ≤ limit)
      → IsFirstWrong list script (take (limit + 1) text) line → IsFirstWrong list script text line
  first_wrong-front_at text line (inl long) first = record {
    counted = first.counted;
    before = begins-whole text (line - 1) long first.before;
    wrong = λ begins. first.wrong (begins-front text line long begins);
  }
  first_wrong-front_at text line (inr short) first =
      subst (λ (bytes : List ℕ). IsFirstWrong list script bytes line)
      (take_all (limit + 1) text (omega (arith, short))) first

  -- the first wrong line of the first bytes is that of the text
  pub first_wrong-front : (text : List ℕ) (line : ℕ) → IsFirstWrong list script (take (limit + 1) text) line
      → IsFirstWrong list script text line
  first_wrong-front text line first = first_wrong-front_at text line (cases_lt limit (length text)) first
