-- A text is the trace of a run, or has one first wrong line.
use Rattle.trace_check.proofs.Words.{◌≡◌, ℕ, ◌+◌, ◌-◌, ◌<◌, ◌≤◌, List, [], ◌∷◌, ◌++◌, length, get_or, take, ap, sym}
use Rattle.trace_check.proofs.Words.{subst, ◌∙◌, inl, inr, arith, length-append, concat, length-take, take-append_seam}
use Rattle.trace_check.proofs.Words.{get_or-append_seam, Lines, lines_of, lines_of-concat, Medl, Script, IsLegalRun}
use Rattle.trace_check.proofs.Words.{trace_lines, Numbers, trace_lines-each, IsFirstWrong, IsTraceAnd, IsAmissAt}
use Rattle.trace_check.proofs.Words.{AreLines-take, lines_of-behind}
use Rattle.std.proofs.Common.{append-nil}
use Rattle.std.proofs.lemmas.Bool.{cases_lt}
use Rattle.std.proofs.lemmas.List.{take-take, get_or-take}
use Rattle.std.proofs.Math.Seq.{take-length}
use Rattle.trace_check.specs.Answer.{BeginsAsTrace}
use Rattle.trace_check.proofs.Counts.{lines_in_all, length-trace_lines}
use Rattle.trace_check.proofs.OwnNumbers.{IsTrace}
use Rattle.trace_check.proofs.FromBelow.{concat-lines_of}

-- Beginnings.

-- whoever has so many lines has fewer
pub begins-fewer : (list : Medl) (script : Script) (text : List ℕ) (few many : ℕ) → few ≤ many
    → BeginsAsTrace list script text many → BeginsAsTrace list script text few
begins-fewer list script text few many fewer begins = record {
  numbers = begins.numbers;
  legal = begins.legal;
  lines =
      sym (take-take few many (lines_of text) fewer)
      ∙ ap (λ (lines : Lines). take few lines) begins.lines
      ∙ take-take few many (trace_lines list script begins.numbers) fewer;
}

-- a trace has all lines
pub trace-begins : (list : Medl) (script : Script) (text : List ℕ) (count : ℕ) → IsTrace list script text
    → BeginsAsTrace list script text count
trace-begins list script text count trace = record {
  numbers = trace.numbers;
  legal = trace.legal;
  lines =
      ap (λ (t : List ℕ). take count (lines_of t)) trace.whole
      ∙ ap (λ (lines : Lines). take count lines)
      (lines_of-concat (trace_lines list script trace.numbers) (trace_lines-each list script trace.numbers));
}

-- The answers exclude each other.

pub first_wrong-no_trace : (list : Medl) (script : Script) (text : List ℕ) (line : ℕ)
    → IsFirstWrong list script text line → ¬ (IsTrace list script text)
first_wrong-no_trace list script text line first = λ trace. first.wrong (trace-begins list script text line trace)

not_before : (list : Medl) (script : Script) (text : List ℕ) (one other : ℕ) → IsFirstWrong list script text one
    → IsFirstWrong list script text other → ¬ (one < other)
not_before list script text one other first second = λ less.
    first.wrong (begins-fewer list script text one (other - 1) (omega arith) second.before)

pub one_first_wrong : (list : Medl) (script : Script) (text : List ℕ) (one other : ℕ)
    → IsFirstWrong list script text one → IsFirstWrong list script text other → one ≡ other
one_first_wrong list script text one other first second = elim (cases_lt one other) [
  | inl less ↦ absurd (not_before list script text one other first second less)
  | inr more ↦ elim (cases_lt other one) [
    | inl less ↦ absurd (not_before list script text other one second first less)
    | inr other_more ↦ omega arith
  ]
]

-- A whole trace, with nothing behind it.

pub whole-trace : (list : Medl) (script : Script) (text : List ℕ) → IsTraceAnd list script text []
    → IsTrace list script text
whole-trace list script text is = record {
  numbers = is.numbers;
  legal = is.legal;
  whole = is.begins ∙ append-nil (concat (trace_lines list script is.numbers));
}

-- With something behind it, and with a wrong line.

-- so many first lines are right
right_lines : (list : Medl) (script : Script) (text rest : List ℕ) (numbers : Numbers) (right : ℕ)
    → text ≡ concat (take right (trace_lines list script numbers)) ++ rest
    → lines_of text ≡ take right (trace_lines list script numbers) ++ lines_of rest
right_lines list script text rest numbers right begins =
    ap lines_of begins
    ∙ lines_of-behind (take right (trace_lines list script numbers)) rest
    (AreLines-take right (trace_lines list script numbers) (trace_lines-each list script numbers))

length-right : (lines : Lines) (right : ℕ) → right ≤ length lines → length (take right lines) ≡ right
length-right lines right within = omega (arith, length-take right lines)

-- the front of the lines, and then the next
take-front : (front others : Lines) (right : ℕ) → length front ≡ right → take right (front ++ others) ≡ front
take-front front others right long =
    ap (λ n. take n (front ++ others)) (sym long) ∙ take-append_seam front others

pub begins-right : (list : Medl) (script : Script) (text rest : List ℕ) (numbers : Numbers) (right : ℕ)
    → IsLegalRun list script numbers → right ≤ length (trace_lines list script numbers)
    → text ≡ concat (take right (trace_lines list script numbers)) ++ rest → BeginsAsTrace list script text right
begins-right list script text rest numbers right legal within begins = record {
  numbers = numbers;
  legal = legal;
  lines =
      ap (λ (lines : Lines). take right lines) (right_lines list script text rest numbers right begins)
      ∙ take-front (take right (trace_lines list script numbers)) (lines_of rest) right
      (length-right (trace_lines list script numbers) right within);
}

next_line : (front others : Lines) (right : ℕ) → length front ≡ right
    → (all : Lines) → right < length all → take (right + 1) (front ++ others) ≡ take (right + 1) all
    → (more : Lines) × (others ≡ get_or all right [] ∷ more)
next_line front [] right long all within same =
    absurd (omega (
      arith,
      ap length same,
      length-take (right + 1) (front ++ []),
      length-take (right + 1) all,
      length-append front [],
    ))
next_line front (line ∷ others) right long all within same =
    let here : line ≡ get_or all right [] =
    sym (get_or-append_seam front line others [])
    ∙ ap (λ n. get_or (front ++ line ∷ others) n []) long
    ∙ sym (get_or-take (right + 1) (front ++ line ∷ others) right [] (omega arith))
    ∙ ap (λ (lines : Lines). get_or lines right []) same
    ∙ get_or-take (right + 1) all right [] (omega arith) in
    (others, ap (λ (l : List ℕ). l ∷ others) here)

pub amiss-first_wrong : (list : Medl) (script : Script) (text rest : List ℕ) (amiss : IsAmissAt list script text rest)
    → IsFirstWrong list script text (amiss.right + 1)
amiss-first_wrong list script text rest amiss = record {
  counted = omega arith;
  before =
      subst (BeginsAsTrace list script text) (before_next amiss.right)
      (begins-right list script text rest amiss.numbers amiss.right amiss.legal (omega (arith, amiss.within))
      amiss.begins);
  wrong = λ other.
      let right = amiss.right in
      let mine = trace_lines list script amiss.numbers in
      let theirs = trace_lines list script other.numbers in
      let cut = right_lines list script text rest amiss.numbers right amiss.begins in
      let long = length-right mine right (omega (arith, amiss.within)) in
      let many : right < length theirs =
      omega (
        arith,
        amiss.within,
        length-trace_lines list script amiss.numbers amiss.legal,
        length-trace_lines list script other.numbers other.legal,
      ) in
      let same : take (right + 1) (take right mine ++ lines_of rest) ≡ take (right + 1) theirs =
      ap (λ (lines : Lines). take (right + 1) lines) (sym cut) ∙ other.lines in
      let next = next_line (take right mine) (lines_of rest) right long theirs many same in
      let before : take right theirs ≡ take right mine =
      sym (take-take right (right + 1) theirs (omega arith))
      ∙ ap (λ (lines : Lines). take right lines) (sym same)
      ∙ take-take right (right + 1) (take right mine ++ lines_of rest) (omega arith)
      ∙ take-front (take right mine) (lines_of rest) right long in
      amiss.wrong other.numbers (concat next.0) other.legal before
      (sym (concat-lines_of rest) ∙ ap concat next.1);
}
  where
    before_next : (n : ℕ) → n ≡ (n + 1) - 1
    before_next n = omega arith

-- a text that goes on behind a whole trace is wrong there
pub more-first_wrong : (list : Medl) (script : Script) (text rest : List ℕ) → IsTraceAnd list script text rest
    → 1 ≤ length rest → IsFirstWrong list script text (lines_in_all list script + 1)
more-first_wrong list script text rest is some = record {
  counted = omega arith;
  before =
      subst (BeginsAsTrace list script text) many
      (begins-right list script text rest is.numbers (length mine) is.legal (omega arith) begins);
  wrong = λ other.
      let theirs = trace_lines list script other.numbers in
      omega (
        arith,
        ap length other.lines,
        length-take (lines_in_all list script + 1) (lines_of text),
        length-take (lines_in_all list script + 1) theirs,
        length-trace_lines list script other.numbers other.legal,
        length-trace_lines list script is.numbers is.legal,
        ap length cut,
        length-append (take (length mine) mine) (lines_of rest),
        ap length (take-length mine),
        some_line rest some,
      );
}
  where
    mine : Lines
    mine = trace_lines list script is.numbers

    begins : text ≡ concat (take (length mine) mine) ++ rest
    begins = is.begins ∙ ap (λ (lines : Lines). concat lines ++ rest) (sym (take-length mine))

    cut : lines_of text ≡ take (length mine) mine ++ lines_of rest
    cut = right_lines list script text rest is.numbers (length mine) begins

    many : length mine ≡ (lines_in_all list script + 1) - 1
    many = omega (arith, length-trace_lines list script is.numbers is.legal)

    some_line : (bytes : List ℕ) → 1 ≤ length bytes → 1 ≤ length (lines_of bytes)
    some_line bytes there = at_least (lines_of bytes) (concat-lines_of bytes)
      where
        at_least : (lines : Lines) → concat lines ≡ bytes → 1 ≤ length lines
        at_least [] none = absurd (omega (arith, ap length none, there))
        at_least (line ∷ lines) is = omega arith
