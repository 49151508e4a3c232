-- Files that are a list, or UTF-16, and the answer for every file.
use Rattle.std.proofs.Common.{◌≡◌, ℕ, suc, ◌+◌, Bool, true, false, List, [], ◌∷◌, ◌++◌, Option, Some, None}
use Rattle.std.proofs.Common.{refl, ap, ◌∙◌, sym, inl, inr, arith, subst, add-one}
use Rattle.std.specs.Prelude.{◌⊎◌, if◌then◌else◌}
use Rattle.ttp_base.specs.Faults.{first_fault}
use Rattle.ttp_world.specs.declared.medl.Medl.{Medl}
use Rattle.script_text.specs.Lines.{lines_of_file, words_of_line, is_comment, says_nothing}
use Rattle.script_text.specs.Statement.{Statement}
use Rattle.script_text.specs.Faults.{line_faults, statements_after}
use Rattle.script_text.specs.ScriptFile.{script_faults, errors_at, stated_script}
use Rattle.script_text.specs.ScriptFile.{statements_of, script_of, lines_script}
use Rattle.script_text.specs.declared.error.LineFault.{LineFault}
use Rattle.script_text.specs.declared.error.LineFault.TheVariants as faults
use Rattle.script_text.specs.declared.error.ScriptError.{ScriptError as Refused}
use Rattle.script_errors.specs.declared.error.Form.{Form}
use Rattle.script_errors.specs.declared.error.ScriptError.{ScriptError}
use Rattle.script_errors.specs.declared.spots.Spot.{Spot}
use Rattle.script_errors.specs.Spots.{spots_of, spot_text, spot_texts}
use Rattle.script_errors.specs.Words.{form_named}
use Rattle.script_errors.specs.Errors.{no_line_before, unless_told, lines_errors, list_errors}
use Rattle.script_errors.specs.Errors.{list_errors_by, is_utf16, script_errors}
use Rattle.script_errors.specs.Agrees.{Agrees}
use Rattle.script_errors.proofs.SpotWords.{texts_are_words}
use Rattle.script_errors.proofs.LineAgree.{keyword_none}
use Rattle.script_errors.proofs.Utf16Agree.{utf16_agrees}
use Rattle.script_errors.proofs.FileAgree.{Refuses, first_at, agrees_with, lines_agree}

-- A line that says nothing has no fault, and leaves the lines before as they were.

quiet_faults : (list : Medl) (said : List Statement) (words : List (List ℕ)) → says_nothing words ≡ true
    → line_faults list said words ≡ []
unfolding line_faults
quiet_faults list said words quiet = rw quiet refl

quiet_after : (said : List Statement) (words : List (List ℕ)) → says_nothing words ≡ true
    → statements_after said words ≡ said
unfolding statements_after
quiet_after said words quiet = rw quiet refl

quiet_line : (list : Medl) (number : ℕ) (said : List Statement) (line : List ℕ) (lines : List (List ℕ))
    → says_nothing (words_of_line line) ≡ true
    → script_faults list number said (line ∷ lines) ≡ script_faults list (number + 1) said lines
quiet_line list number said line lines quiet =
    ap (λ (fs : List LineFault). errors_at number fs
    ++ script_faults list (suc number) (statements_after said (words_of_line line)) lines)
    (quiet_faults list said (words_of_line line) quiet)
    ∙ ap (λ (s : List Statement). script_faults list (suc number) s lines) (quiet_after said (words_of_line line) quiet)
    ∙ ap (λ (n : ℕ). script_faults list n said lines) (sym (add-one number))

-- a list has no such error, or is refused by the reader of scripts
abbrev ListOutcome : List Refused → List ScriptError → Type 0
ListOutcome found told = (told ≡ []) ⊎ Refuses found told

moved : (found now : List Refused) (told : List ScriptError) → found ≡ now
    → ListOutcome now told → ListOutcome found told
moved found now told is outcome = subst (λ (fs : List Refused). ListOutcome fs told) (sym is) outcome

none_named : (list : Medl) (said : List Statement) (name : List ℕ) (words : List (List ℕ)) → is_comment name ≡ false
    → form_named name ≡ None → first_fault (line_faults list said (name ∷ words)) ≡ Some faults.Word
unfolding line_faults
none_named list said name words plain none = rw (plain, keyword_none name none) refl

list_named : (list : Medl) (number : ℕ) (said : List Statement) (line : List ℕ) (lines : List (List ℕ)) (first : Spot)
    (words : List Spot) (o : Option Form) → spot_texts line (first ∷ words) ≡ words_of_line line
    → is_comment (spot_text line first) ≡ false → form_named (spot_text line first) ≡ o
    → ListOutcome (script_faults list number said (line ∷ lines))
    (list_errors_by number line (first ∷ words) (list_errors (number + 1) lines))
list_named list number said line lines first words (Some f) is plain names = inl (rw (plain, names) refl)
list_named list number said line lines first words None is plain names = rw (plain, names) (inr (record {
  line = number;
  fault = faults.Word;
  first = first_at number _ faults.Word _ (ap (λ (ws : List (List ℕ)). first_fault (line_faults list said ws)) (sym is)
      ∙ none_named list said (spot_text line first) (spot_texts line words) plain names);
  tells = record { none_before = (omega arith, tt); tells = inl (refl, refl) };
}))

list_first : (list : Medl) (number : ℕ) (said : List Statement) (line : List ℕ) (lines : List (List ℕ)) (first : Spot)
    (words : List Spot) (comment : Bool) → spot_texts line (first ∷ words) ≡ words_of_line line
    → is_comment (spot_text line first) ≡ comment
    → ListOutcome (script_faults list (number + 1) said lines) (list_errors (number + 1) lines)
    → ListOutcome (script_faults list number said (line ∷ lines))
    (list_errors_by number line (first ∷ words) (list_errors (number + 1) lines))
list_first list number said line lines first words true is comment more =
    rw comment (moved _ _ _ (quiet_line list number said line lines (ap says_nothing (sym is) ∙ comment)) more)
list_first list number said line lines first words false is comment more =
    list_named list number said line lines first words (form_named (spot_text line first)) is comment refl

list_words : (list : Medl) (number : ℕ) (said : List Statement) (line : List ℕ) (lines : List (List ℕ))
    (words : List Spot) → spot_texts line words ≡ words_of_line line
    → ListOutcome (script_faults list (number + 1) said lines) (list_errors (number + 1) lines)
    → ListOutcome (script_faults list number said (line ∷ lines))
    (list_errors_by number line words (list_errors (number + 1) lines))
list_words list number said line lines [] is more =
    moved _ _ _ (quiet_line list number said line lines (ap says_nothing (sym is))) more
list_words list number said line lines (first ∷ words) is more =
    list_first list number said line lines first words (is_comment (spot_text line first)) is refl more

list_outcome : (list : Medl) (said : List Statement) (lines : List (List ℕ)) (number : ℕ)
    → ListOutcome (script_faults list number said lines) (list_errors number lines)
list_outcome list said [] number = inl refl
list_outcome list said (line ∷ lines) number =
    list_words list number said line lines (spots_of line) (texts_are_words line)
    (list_outcome list said lines (number + 1))

unless_refused : (list : Medl) (bytes : List ℕ) (told more : List ScriptError)
    → ListOutcome (script_faults list 1 [] (lines_of_file bytes)) told → Agrees more (script_of list bytes)
    → Agrees (unless_told told more) (script_of list bytes)
unfolding script_of lines_script
unless_refused list bytes [] more outcome agrees = agrees
unless_refused list bytes (e ∷ es) more (inl none) agrees = cc
unless_refused list bytes (e ∷ es) more (inr refuses) agrees =
    agrees_with _ (stated_script list (statements_of [] (lines_of_file bytes))) _ (inr refuses)

list_agrees : (list : Medl) (bytes : List ℕ) (may : Bool)
    → Agrees (unless_told (if may then list_errors 1 (lines_of_file bytes) else [])
    (lines_errors (Some list) no_line_before false 1 (lines_of_file bytes))) (script_of list bytes)
list_agrees list bytes true =
    unless_refused list bytes _ _ (list_outcome list [] (lines_of_file bytes) 1) (lines_agree list bytes)
list_agrees list bytes false = lines_agree list bytes

agrees_at : (list : Medl) (may : Bool) (bytes : List ℕ) (marked : Bool) → is_utf16 bytes ≡ marked
    → Agrees (script_errors (Some list) may bytes) (script_of list bytes)
unfolding script_errors
agrees_at list may bytes true is = rw is (utf16_agrees list bytes is)
agrees_at list may bytes false is = rw is (list_agrees list bytes may)

pub agrees : (list : Medl) (may : Bool) (bytes : List ℕ)
    → Agrees (script_errors (Some list) may bytes) (script_of list bytes)
agrees list may bytes = agrees_at list may bytes (is_utf16 bytes) refl
