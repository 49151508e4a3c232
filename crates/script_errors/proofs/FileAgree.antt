-- A whole script: its errors agree with the answer of the reader of scripts.
use Rattle.std.proofs.Common.{◌≡◌, ℕ, suc, ◌+◌, ◌≤◌, ◌||◌, Bool, true, false, List, [], ◌∷◌, ◌++◌, Option, Some, None}
use Rattle.std.proofs.Common.{is_some, refl, ap, ◌∙◌, sym, inl, inr, arith, subst, add-one}
use Rattle.std.specs.Prelude.{◌⊎◌, if◌then◌else◌}
use Rattle.std.specs.List.{AllByRecursion}
use Rattle.ttp_base.specs.Faults.{first_fault}
use Rattle.ttp_world.specs.declared.medl.Medl.{Medl}
use Rattle.ttp_world.specs.declared.script.Script.{Script}
use Rattle.script_text.specs.Lines.{lines_of_file, words_of_line, is_comment}
use Rattle.script_text.specs.Statement.{Statement}
use Rattle.script_text.specs.Faults.{slots_of, statements_after}
use Rattle.script_text.specs.ScriptFile.{script_faults, end_faults, errors_at, script_or_fault}
use Rattle.script_text.specs.ScriptFile.{stated_script, statements_of}
use Rattle.script_text.specs.ScriptFile.{script_of, lines_script}
use Rattle.script_text.specs.declared.error.LineFault.{LineFault}
use Rattle.script_text.specs.declared.error.LineFault.TheVariants as faults
use Rattle.script_text.specs.declared.error.ScriptError.{ScriptError as Refused}
use Rattle.script_text.specs.declared.error.ScriptError.TheVariants as refused
use Rattle.script_errors.specs.declared.error.Form.{Form}
use Rattle.script_errors.specs.declared.error.Form.TheVariants as form
use Rattle.script_errors.specs.declared.error.ScriptError.{ScriptError}
use Rattle.script_errors.specs.declared.spots.Spot.{Spot}
use Rattle.script_errors.specs.Spots.{spots_of, spot_text, behind_mark}
use Rattle.script_errors.specs.Words.{form_named}
use Rattle.script_errors.specs.Errors.{Before, stated, no_line_before, slots_or_most, unless_told}
use Rattle.script_errors.specs.Errors.{full_errors, stated_wrong, line_states, slots_errors}
use Rattle.script_errors.specs.Errors.{length_errors, count_errors, comment_of}
use Rattle.script_errors.specs.Errors.{is_full, words_before_comment, form_errors, named_errors}
use Rattle.script_errors.specs.Errors.{said_errors, is_marked, mark_errors}
use Rattle.script_errors.specs.Errors.{line_errors, before_next, end_errors, lines_errors, says_something}
use Rattle.script_errors.specs.Agrees.{TellsFirst, Agrees}
use Rattle.script_errors.proofs.WordsAgree.{AllOn, on_append, on_word, on_own, tells_front}
use Rattle.script_errors.proofs.FormAgree.{Follows, length_of}
use Rattle.script_errors.proofs.LineAgree.{LineOutcome, line_outcome}

-- Each error of a line is told of that line.

on_unless : (number : ℕ) (own more : List ScriptError) → AllOn number own → AllOn number more
    → AllOn number (unless_told own more)
on_unless number [] more own_on more_on = more_on
on_unless number (e ∷ es) more own_on more_on = own_on

on_full : (list : Option Medl) (before : Before) (number : ℕ) (line : List ℕ) (f : Form) (first : Spot)
    (words : List Spot) (full : Bool) → is_full f words ≡ full
    → AllOn number (if full then full_errors list before number line f first words else [])
unfolding full_errors
on_full list before number line f first words true is =
    on_unless number _ _ (on_own list (slots_or_most before) number line f words (length_of f words is))
    (on_word number first (stated_wrong list before (line_states line f (first ∷ words))))
on_full list before number line f first words false is = tt

on_slots : (before : Before) (number : ℕ) (f : Form) (first : Spot) (named : Bool) → before.named ≡ named
    → AllOn number (slots_errors before number f first)
on_slots before number form.Slots first named is = tt
on_slots before number form.On first false is = rw is (refl, tt)
on_slots before number form.Drift first false is = rw is (refl, tt)
on_slots before number form.Send first false is = rw is (refl, tt)
on_slots before number form.Receive first false is = rw is (refl, tt)
on_slots before number form.Flip first false is = rw is (refl, tt)
on_slots before number form.Error first false is = rw is (refl, tt)
on_slots before number form.Jump first false is = rw is (refl, tt)
on_slots before number form.Arm first false is = rw is (refl, tt)
on_slots before number form.Write first false is = rw is (refl, tt)
on_slots before number form.Read first false is = rw is (refl, tt)
on_slots before number f first true is = rw is tt

on_count : (number : ℕ) (f : Form) (first : Spot) (words : List Spot) (comment : Option Spot)
    → AllOn number (count_errors number f first words comment)
on_count number f first words None = (refl, tt)
on_count number f first words (Some c) = (refl, tt)

on_length : (number : ℕ) (line : List ℕ) (f : Form) (first : Spot) (words : List Spot) (full : Bool)
    → is_full f words ≡ full → AllOn number (length_errors number line f first words)
on_length number line f first words true is = rw is tt
on_length number line f first words false is = rw is (on_count number f first words (comment_of line words))

on_form : (list : Option Medl) (before : Before) (number : ℕ) (line : List ℕ) (f : Form) (first : Spot)
    (words : List Spot) → AllOn number (form_errors list before number line f first words)
unfolding form_errors
on_form list before number line f first words =
    on_append number (slots_errors before number f first) _ (on_slots before number f first before.named refl)
    (on_append number (length_errors number line f first words) _
    (on_length number line f first words (is_full f words) refl)
    (on_full list before number line f first (words_before_comment line f words) _ refl))

on_named : (list : Option Medl) (before : Before) (number : ℕ) (line : List ℕ) (first : Spot) (words : List Spot)
    (o : Option Form) → AllOn number (named_errors list before number line first words o)
on_named list before number line first words None = (refl, tt)
on_named list before number line first words (Some f) = on_form list before number line f first words

on_first : (list : Option Medl) (before : Before) (number : ℕ) (line : List ℕ) (first : Spot) (words : List Spot)
    (comment : Bool) → AllOn number
    (if comment then [] else named_errors list before number line first words (form_named (spot_text line first)))
on_first list before number line first words true = tt
on_first list before number line first words false =
    on_named list before number line first words (form_named (spot_text line first))

on_said : (list : Option Medl) (before : Before) (number : ℕ) (line : List ℕ) (words : List Spot)
    → AllOn number (said_errors list before number line words)
on_said list before number line [] = tt
on_said list before number line (first ∷ words) =
    on_first list before number line first words (is_comment (spot_text line first))

on_mark : (number : ℕ) (words : List Spot) → AllOn number (mark_errors number words)
on_mark number [] = tt
on_mark number (first ∷ words) = (refl, tt)

on_marked : (list : Option Medl) (before : Before) (number : ℕ) (line : List ℕ) (words : List Spot) (marked : Bool)
    → AllOn number (if marked then mark_errors number words ++ said_errors list before number line (behind_mark words)
    else said_errors list before number line words)
on_marked list before number line words true = on_append number (mark_errors number words) _ (on_mark number words)
    (on_said list before number line (behind_mark words))
on_marked list before number line words false = on_said list before number line words

line_stating_on : (list : Option Medl) (before : Before) (number : ℕ) (line : List ℕ)
    → AllOn number (line_errors list before number line)
unfolding line_errors
line_stating_on list before number line =
    on_marked list before number line (spots_of line) (is_marked number line (spots_of line))

-- No error is told of a line before.

abbrev AllFrom : ℕ → List ScriptError → Type 0
AllFrom number es = AllByRecursion (λ e. number ≤ e.line) es

from_on : (number : ℕ) (es : List ScriptError) → AllOn number es → AllFrom number es
from_on number [] on = tt
from_on number (e ∷ es) on = (omega (arith, on.0), from_on number es on.1)

from_later : (number : ℕ) (es : List ScriptError) → AllFrom (number + 1) es → AllFrom number es
from_later number [] from = tt
from_later number (e ∷ es) from = (omega (arith, from.0), from_later number es from.1)

from_append : (number : ℕ) (xs ys : List ScriptError) → AllFrom number xs
    → AllFrom number ys → AllFrom number (xs ++ ys)
from_append number [] ys xs_from ys_from = ys_from
from_append number (x ∷ xs) ys xs_from ys_from = (xs_from.0, from_append number xs ys xs_from.1 ys_from)

from_end : (number : ℕ) (said : Bool) → AllFrom number (end_errors said number)
from_end number true = tt
from_end number false = (omega arith, tt)

from_lines : (list : Option Medl) (lines : List (List ℕ)) (before : Before) (said : Bool) (number : ℕ)
    → AllFrom number (lines_errors list before said number lines)
from_lines list [] before said number = from_end number said
from_lines list (line ∷ lines) before said number =
    from_append number (line_errors list before number line) _
    (from_on number (line_errors list before number line) (line_stating_on list before number line))
    (from_later number _ (from_lines list lines (before_next list before number line)
    (said || says_something line (spots_of line)) (number + 1)))

-- All lines.

pub record Refuses (found : List Refused) (told : List ScriptError) : Type 0 where
  pub line : ℕ
  pub fault : LineFault
  pub first : first_fault found ≡ Some (refused.Line line fault)
  pub tells : TellsFirst line fault told

abbrev pub FileOutcome : List Refused → List ScriptError → Type 0
FileOutcome found told = ((found ≡ []) × (told ≡ [])) ⊎ Refuses found told

outcome_as : (found now : List Refused) (told say : List ScriptError) → found ≡ now → told ≡ say
    → FileOutcome now say → FileOutcome found told
outcome_as found now told say f t outcome =
    subst (λ (fs : List Refused). FileOutcome fs told) (sym f)
    (subst (λ (es : List ScriptError). FileOutcome now es) (sym t) outcome)

end_outcome : (number : ℕ) (before : Before) (some : Bool) → is_some (slots_of (stated before)) ≡ some
    → FileOutcome (end_faults number (stated before)) (end_errors some number)
end_outcome number before true is = inl (rw is refl, refl)
end_outcome number before false is = inr (record {
  line = number;
  fault = faults.NoSlots;
  first = rw is refl;
  tells = record { none_before = (omega arith, tt); tells = inl (refl, refl) };
})

pub first_at : (number : ℕ) (found : List LineFault) (fault : LineFault) (more : List Refused)
    → first_fault found ≡ Some fault
    → first_fault (errors_at number found ++ more) ≡ Some (refused.Line number fault)
first_at number [] fault more is = cc
first_at number (f ∷ found) fault more is = let same : Some f ≡ Some fault = is in cc

line_step : (list : Medl) (line : List ℕ) (lines : List (List ℕ)) (before : Before) (said : Bool) (number : ℕ)
    → said ≡ before.named → LineOutcome list before number line
    → ((next : Before) (now : Bool) → Follows next → now ≡ next.named
    → FileOutcome (script_faults list (number + 1) (stated next) lines)
    (lines_errors (Some list) next now (number + 1) lines))
    → FileOutcome (script_faults list number (stated before) (line ∷ lines))
    (lines_errors (Some list) before said number (line ∷ lines))
line_step list line lines before said number is (inl right) more =
    let next = before_next (Some list) before number line in
    let now = said || says_something line (spots_of line) in
    let rest = more next now right.follows
    (ap (λ (b : Bool). b || says_something line (spots_of line)) is ∙ sym right.named) in
    let script : script_faults list number (stated before) (line ∷ lines)
    ≡ script_faults list (number + 1) (stated next) lines =
    ap (λ (fs : List LineFault). errors_at number fs
    ++ script_faults list (suc number) (statements_after (stated before) (words_of_line line)) lines) right.faults
    ∙ ap (λ (said : List Statement). script_faults list (suc number) said lines) (sym right.states)
    ∙ ap (λ (n : ℕ). script_faults list n (stated next) lines) (sym (add-one number)) in
    let told : lines_errors (Some list) before said number (line ∷ lines)
    ≡ lines_errors (Some list) next now (number + 1) lines =
    ap (λ (es : List ScriptError). es ++ lines_errors (Some list) next now (number + 1) lines) right.errors in
    outcome_as _ _ _ _ script told rest
line_step list line lines before said number is (inr (fault, told)) more = inr (record {
  line = number;
  fault = fault;
  first = first_at number _ fault _ told.0;
  tells = record {
    none_before = from_lines (Some list) (line ∷ lines) before said number;
    tells = tells_front number fault (line_errors (Some list) before number line) _ told.1;
  };
})

lines_outcome : (list : Medl) (lines : List (List ℕ)) (before : Before) (said : Bool) (number : ℕ) → Follows before
    → said ≡ before.named
    → FileOutcome (script_faults list number (stated before) lines)
    (lines_errors (Some list) before said number lines)
lines_outcome list [] before said number follows is =
    subst (λ (b : Bool). FileOutcome (end_faults number (stated before)) (end_errors b number))
    (sym follows.named ∙ sym is) (end_outcome number before (is_some (slots_of (stated before))) refl)
lines_outcome list (line ∷ lines) before said number follows is =
    line_step list line lines before said number is (line_outcome list before number line follows)
    (λ next now on same. lines_outcome list lines next now (number + 1) on same)

-- The answer.

some_is : (x y : Refused) → Some x ≡ Some y → x ≡ y
some_is x y is = cc

pub agrees_with : (found : List Refused) (script : Script) (told : List ScriptError) → FileOutcome found told
    → Agrees told (script_or_fault found script)
agrees_with found script told (inl none) = rw none.0 none.1
agrees_with [] script told (inr refuses) = let off = refuses.first in cc
agrees_with (e ∷ es) script told (inr refuses) =
    let same : e ≡ refused.Line refuses.line refuses.fault = some_is e _ refuses.first in rw same refuses.tells

pub lines_agree : (list : Medl) (bytes : List ℕ)
    → Agrees (lines_errors (Some list) no_line_before false 1 (lines_of_file bytes)) (script_of list bytes)
unfolding script_of lines_script
lines_agree list bytes =
    agrees_with _ (stated_script list (statements_of [] (lines_of_file bytes))) _
    (lines_outcome list (lines_of_file bytes) no_line_before false 1 (record { named = refl; some = tt }) refl)
