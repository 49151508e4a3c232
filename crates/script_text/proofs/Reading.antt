-- A file that is read line by line.
use Rattle.script_text.proofs.Terms.{◌≡◌, ◌⊎◌, ℕ, ◌+◌, ◌*◌, ◌<◌, ◌≤◌, List, [], ◌∷◌, ◌++◌, length, Some, Result, Err}
use Rattle.script_text.proofs.Terms.{arith, refl, ap, sym, ◌∙◌, suc, inl, inr, All, first_fault, Medl, Script}
use Rattle.script_text.proofs.Terms.{EVENT_LIMIT, IsValid, IsBounded, LineFault, ScriptError, SoFar, lines_of_file}
use Rattle.script_text.proofs.Terms.{words_of_line, Statement, events_of, line_faults, statements_after, errors_at}
use Rattle.script_text.proofs.Terms.{script_faults, end_faults, statements_of, stated_script, script_or_fault}
use Rattle.script_text.proofs.Terms.{lines_script, script_of, LinesStandFor, HasNodes}
use Rattle.std.proofs.Common.{add-one, subst}
use Rattle.script_text.specs.declared.error.Refusal.{Refusal}
use Rattle.script_text.specs.declared.error.Refusal.TheVariants as refusals
use Rattle.script_text.specs.declared.error.ScriptError.TheVariants as errors
use Rattle.script_text.specs.SoFar.{TakesLine, RefusesLine, error_at}
use Rattle.script_text.proofs.Sizes.{size_of, size-lines_of}
use Rattle.script_text.proofs.Valid.{AreValid, AreValid-none}
use Rattle.script_text.proofs.RightFiles.{line_right, events_bounded}

-- The lines so far have no fault, so that what is left decides; and what they state is kept.
pub record IsReading (list : Medl) (text : List ℕ) (so_far : SoFar) (number : ℕ) (rest : List ℕ) : Type 0 where
  pub before : List Statement
  pub stands : LinesStandFor so_far before
  pub faults : script_faults list 1 [] (lines_of_file text) ≡ script_faults list number before (lines_of_file rest)
  pub said : statements_of [] (lines_of_file text) ≡ statements_of before (lines_of_file rest)
  pub nodes : HasNodes list so_far
  pub valid : AreValid list before
  pub size : 8 * length (events_of before) + size_of (lines_of_file rest) ≤ length text + 1
  pub count : number + length rest ≤ length text + 1

pub IsReading-none : (list : Medl) (text : List ℕ) (so_far : SoFar) → IsValid list → LinesStandFor so_far []
    → HasNodes list so_far → IsReading list text so_far 1 text
IsReading-none list text so_far right stands nodes = record {
  before = [];
  stands = stands;
  faults = refl;
  said = refl;
  nodes = nodes;
  valid = AreValid-none list right;
  size = omega (arith, size-lines_of text);
  count = omega arith;
}

-- the faults of what is left, where the first line of it has none
faults-more : (list : Medl) (number : ℕ) (before : List Statement) (lines : List (List ℕ)) (line : List ℕ)
    (more : List (List ℕ)) → lines ≡ line ∷ more
    → line_faults list before (words_of_line line) ≡ []
    → script_faults list number before lines
    ≡ script_faults list (number + 1) (statements_after before (words_of_line line)) more
faults-more list number before lines line more cut none =
    ap (script_faults list number before) cut
    ∙ ap (λ (found : List LineFault).
    errors_at number found
    ++ script_faults list (suc number) (statements_after before (words_of_line line)) more) none
    ∙ ap (λ (n : ℕ). script_faults list n (statements_after before (words_of_line line)) more) (sym (add-one number))

pub IsReading-more : (list : Medl) (text : List ℕ) (old new : SoFar) (number : ℕ) (rest line more : List ℕ)
    → IsReading list text old number rest
    → lines_of_file rest ≡ line ∷ lines_of_file more → length more < length rest
    → TakesLine list (words_of_line line) old new
    → HasNodes list new → IsReading list text new (number + 1) more
IsReading-more list text old new number rest line more reading cut shorter takes nodes =
    let before = reading.before in
    let right = line_right list before line (takes.faults before reading.stands) reading.valid in
    record {
      before = statements_after before (words_of_line line);
      stands = takes.after before reading.stands;
      faults = reading.faults
          ∙ faults-more list number before (lines_of_file rest) line (lines_of_file more) cut
          (takes.faults before reading.stands);
      said = reading.said ∙ ap (statements_of before) cut;
      nodes = nodes;
      valid = right.valid;
      size = omega (arith, reading.size, right.size, ap size_of cut);
      count = omega (arith, reading.count);
    }

-- the first fault of a file is that of a line, where the lines before have none
script_or_fault-first : (number : ℕ) (found : List LineFault) (fault : LineFault) (more : List ScriptError)
    (script : Script) → first_fault found ≡ Some fault
    → script_or_fault (errors_at number found ++ more) script ≡ Err (errors.Line number fault)
script_or_fault-first number [] fault more script here = cc
script_or_fault-first number (f ∷ found) fault more script here = cc

-- that of a line is the whole script's, unless memory was refused
pub script_of-refused : (list : Medl) (text : List ℕ) (so_far : SoFar) (number : ℕ) (rest line more : List ℕ)
    (refusal : Refusal)
    → IsReading list text so_far number rest → lines_of_file rest ≡ line ∷ lines_of_file more
    → RefusesLine list (words_of_line line) so_far refusal
    → (error_at number refusal ≡ errors.Memory) ⊎ (script_of list text ≡ Err (error_at number refusal))
unfolding script_of lines_script
script_of-refused list text so_far number rest line more (refusals.Fault fault) reading cut refuses =
    let before = reading.before in
    inr (ap (λ (found : List ScriptError). script_or_fault found
    (stated_script list (statements_of [] (lines_of_file text))))
    (reading.faults ∙ ap (script_faults list number before) cut)
    ∙ script_or_fault-first number (line_faults list before (words_of_line line)) fault _ _
    (refuses before reading.stands))
script_of-refused list text so_far number rest line more refusals.Memory reading cut refuses = inl refl

-- no line is left
pub stands-end : (list : Medl) (text : List ℕ) (so_far : SoFar) (number : ℕ) (rest : List ℕ)
    → IsReading list text so_far number rest → lines_of_file rest ≡ []
    → LinesStandFor so_far (statements_of [] (lines_of_file text))
stands-end list text so_far number rest reading done =
    let P : List Statement → Type 0 = λ said. LinesStandFor so_far said in
    subst P (sym (reading.said ∙ ap (statements_of reading.before) done)) reading.stands

pub faults-end : (list : Medl) (text : List ℕ) (so_far : SoFar) (number : ℕ) (rest : List ℕ)
    → IsReading list text so_far number rest → lines_of_file rest ≡ []
    → script_faults list 1 [] (lines_of_file text) ≡ end_faults number (statements_of [] (lines_of_file text))
faults-end list text so_far number rest reading done =
    reading.faults ∙ ap (script_faults list number reading.before) done
    ∙ ap (end_faults number) (sym (reading.said ∙ ap (statements_of reading.before) done))

-- what happens in slots is as the index of events wants it
pub count-end : (list : Medl) (text : List ℕ) (so_far : SoFar) (number : ℕ) (rest : List ℕ)
    → length text ≤ 1048576 → IsReading list text so_far number rest → length so_far.events ≤ EVENT_LIMIT
count-end list text so_far number rest size reading = omega (arith, reading.size, ap length reading.stands.events)

pub values-end : (list : Medl) (text : List ℕ) (so_far : SoFar) (number : ℕ) (rest : List ℕ)
    → IsReading list text so_far number rest → All IsBounded so_far.events
values-end list text so_far number rest reading =
    rw reading.stands.events (events_bounded list reading.before reading.valid)

-- the answer for the whole file
pub script_of-read : (list : Medl) (text : List ℕ) (number : ℕ) (result : Result Script ScriptError)
    → script_faults list 1 [] (lines_of_file text) ≡ end_faults number (statements_of [] (lines_of_file text))
    → (result ≡ Err errors.Memory)
    ⊎ (result ≡ script_or_fault (end_faults number (statements_of [] (lines_of_file text)))
    (stated_script list (statements_of [] (lines_of_file text))))
    → (result ≡ Err errors.Memory) ⊎ (result ≡ script_of list text)
unfolding script_of lines_script
script_of-read list text number result found (inl refused) = inl refused
script_of-read list text number result found (inr told) = inr (rw found told)

pub ruleset reading = (IsReading-none, IsReading-more, script_of-refused, stands-end, faults-end, count-end)
