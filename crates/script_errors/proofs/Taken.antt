-- What becomes of a line of a form.
use Rattle.std.proofs.Common.{◌≡◌, ℕ, zero, suc, get_or, true, false, ◌+◌, ◌<◌, ◌≤◌, List}
use Rattle.std.proofs.Common.{[], ◌∷◌, ◌++◌, length, Option, Some, None, arith, refl}
use Rattle.std.proofs.Common.{ap, ◌∙◌, sym, subst, append_assoc, length-append}
use Rattle.std.proofs.lemmas.List.{append-nil}
use Rattle.std.specs.Prelude.{if◌then◌else◌, slice_get}
use Rattle.ttp_world.specs.declared.medl.Medl.{Medl}
use Rattle.script_text.specs.Statement.{Statement}
use Rattle.script_errors.specs.declared.error.Form.{Form}
use Rattle.script_errors.specs.declared.error.Wrong.TheVariants as wrong
use Rattle.script_errors.specs.declared.error.ScriptError.{ScriptError}
use Rattle.script_errors.specs.declared.so_far.SoFar.{SoFar}
use Rattle.script_errors.specs.declared.spots.Spot.{Spot}
use Rattle.script_errors.specs.Errors.{Before, slots_or_most, own_errors, error_of_word}
use Rattle.script_errors.specs.Errors.{errors_of_word, stated_wrong, line_states}
use Rattle.script_errors.specs.Errors.{unless_told, full_errors, taken_unless, is_full, before_comment, comment_of}
use Rattle.script_errors.specs.Errors.{form_errors, form_after, slots_errors, length_errors, words_before_comment}
use Rattle.script_errors.specs.Errors.{is_marked, line_errors, before_next, said_errors, said_after}
use Rattle.script_errors.specs.Spots.{spot_text, spots_of, behind_mark}
use Rattle.script_errors.specs.Words.{form_named}
use Rattle.script_text.specs.Lines.{is_comment}
use Rattle.script_errors.specs.SoFar.{StandsFor, Finishes, TellsFull, TellsLength, TellsForm, TellsWords, TellsLine}

pub own_none : (old own new : List ScriptError) → new ≡ old ++ own → length new ≤ length old → own ≡ []
own_none old [] new is short = refl
own_none old (e ∷ es) new is short = absurd (omega (arith, ap length is, length-append old (e ∷ es)))

told_own : (old own new more : List ScriptError) (before : Before) (number : ℕ) (s : Statement) → new ≡ old ++ own
    → length old < length new
    → (unless_told own more ≡ own)
    × (taken_unless (unless_told own more) before number s ≡ record before { named = true })
told_own old [] new more before number s is long = absurd (omega (arith, ap length is, length-append old []))
told_own old (e ∷ es) new more before number s is long = (refl, refl)

pub takes_full_told : (list : Option Medl) (before : Before) (number : ℕ) (line : List ℕ) (f : Form) (first : Spot)
    (words : List Spot) (so_far : SoFar) (old new : List ScriptError) (slots : ℕ)
    → slots ≡ slots_or_most before → new ≡ old ++ own_errors list slots number line f words → length old < length new
    → StandsFor list so_far (record before { named = true })
    → TellsFull list before number line f first words so_far old new
unfolding full_errors
takes_full_told list before number line f first words so_far old new slots slots_is is long stands =
    let own = own_errors list (slots_or_most before) number line f words in
    let told : new ≡ old ++ own = is ∙ ap (λ (n : ℕ). old ++ own_errors list n number line f words) slots_is in
    let more = errors_of_word number first (stated_wrong list before (line_states line f (first ∷ words))) in
    let both = told_own old own new more before number (line_states line f (first ∷ words)) told long in
    record {
      found = told ∙ ap (λ (es : List ScriptError). old ++ es) (sym both.0);
      after = subst (λ (b : Before). StandsFor list so_far b) (sym both.1) stands;
    }

module _ (list : Option Medl) where
  pub takes_full_kept :
      (before : Before) (number : ℕ) (line : List ℕ) (f : Form) (first : Spot) (words : List Spot) (so_far : SoFar) (old mid new : List ScriptError) (slots : ℕ)
      → slots ≡ slots_or_most before → mid ≡ old ++ own_errors list slots number line f words
      → own_errors list slots number line f words ≡ [] → Finishes list before number line f first words so_far mid new
      → TellsFull list before number line f first words so_far old new
  unfolding full_errors
  takes_full_kept before number line f first words so_far old mid new slots slots_is is none finishes =
      let own : own_errors list (slots_or_most before) number line f words ≡ [] =
      ap (λ (n : ℕ). own_errors list n number line f words) (sym slots_is) ∙ none in
      let more = errors_of_word number first (stated_wrong list before (line_states line f (first ∷ words))) in
      let same : mid ≡ old = is ∙ ap (λ (es : List ScriptError). old ++ es) none ∙ append-nil old in
      record {
        found = finishes.found ∙ ap (λ (es : List ScriptError). es ++ more) same
            ∙ ap (λ (es : List ScriptError). old ++ unless_told es more) (sym own);
        after = subst (λ (es : List ScriptError). StandsFor list so_far
            (taken_unless (unless_told es more) before number (line_states line f (first ∷ words)))) (sym own)
            finishes.after;
      }

-- Another number of words.

pub takes_count : (list : Option Medl) (before : Before) (number : ℕ) (line : List ℕ) (f : Form) (first : Spot)
    (words : List Spot) (so_far : SoFar) (old new : List ScriptError)
    → is_full f words ≡ false → comment_of line words ≡ None → before_comment line words ≡ words
    → new ≡ old ++ error_of_word number first (wrong.WordCount (length words + 1) f) ∷ []
    → StandsFor list so_far (record before { named = true })
    → TellsLength list before number line f first words so_far old new
unfolding form_after
takes_count list before number line f first words so_far old new other none all now stands = record {
  found = rw (all, other, none) now;
  after = rw (other, all, other) stands;
}

get_some : (words : List Spot) (i : ℕ) (d : Spot) → i < length words → slice_get words i ≡ Some (get_or words i d)
get_some [] i d within = absurd (omega arith)
get_some (w ∷ words) zero d within = refl
get_some (w ∷ words) (suc n) d within = get_some words n d (omega arith)

module _ (list : Option Medl) (before : Before) (number : ℕ) (line : List ℕ) where
  -- a comment, and before it the words of the form
  pub takes_comment :
      (f : Form) (first : Spot) (words here : List Spot) (at : Spot) (so_far : SoFar) (old mid new : List ScriptError)
      → is_full f words ≡ false → comment_of line words ≡ Some at → here ≡ before_comment line words
      → is_full f here ≡ true → mid ≡ old ++ error_of_word number at wrong.Comment ∷ []
      → TellsFull list before number line f first here so_far mid new
      → TellsLength list before number line f first words so_far old new
  unfolding form_after
  takes_comment f first words here at so_far old mid new other comment front full now takes =
      let same = sym front in
      record {
        found = rw (other, comment, same, full) (takes.found
            ∙ ap (λ (es : List ScriptError). es ++ full_errors list before number line f first here) now
            ∙ append_assoc old (error_of_word number at wrong.Comment ∷ [])
            (full_errors list before number line f first here));
        after = rw (other, same, full) takes.after;
      }

module _ (list : Option Medl) (before : Before) (number : ℕ) where
  -- a comment, and before it another number of words
  pub takes_short :
      (line : List ℕ) (f : Form) (first : Spot) (words here : List Spot) (at : Spot) (so_far : SoFar) (old new : List ScriptError)
      → is_full f words ≡ false → comment_of line words ≡ Some at → here ≡ before_comment line words
      → is_full f here ≡ false → new ≡ old ++ error_of_word number at wrong.Comment ∷ []
      → StandsFor list so_far (record before { named = true })
      → TellsLength list before number line f first words so_far old new
  unfolding form_after
  takes_short line f first words here at so_far old new other comment front short now stands =
      let same = sym front in
      record { found = rw (other, comment, same, short) now; after = rw (other, same, short) stands }

pub comment_is : (line : List ℕ) (words : List Spot) (i : ℕ) (d : Spot) → i < length words
    → slice_get words i ≡ comment_of line words → comment_of line words ≡ Some (get_or words i d)
comment_is line words i d within is = sym is ∙ get_some words i d within

-- Lines of a form.

pub takes_form_full : (list : Option Medl) (before : Before) (number : ℕ) (line : List ℕ) (f : Form) (first : Spot)
    (words : List Spot) (so_far : SoFar) (old mid new : List ScriptError)
    → is_full f words ≡ true → mid ≡ old ++ slots_errors before number f first
    → TellsFull list before number line f first words so_far mid new
    → TellsForm list before number line f first words so_far old new
unfolding form_errors form_after
takes_form_full list before number line f first words so_far old mid new full now takes = record {
  found = rw (full, full) (takes.found
      ∙ ap (λ (es : List ScriptError). es ++ full_errors list before number line f first words) now
      ∙ append_assoc old (slots_errors before number f first)
      (full_errors list before number line f first words));
  after = rw (full, full) takes.after;
}

pub takes_form_other : (list : Option Medl) (before : Before) (number : ℕ) (line : List ℕ) (f : Form) (first : Spot)
    (words : List Spot) (so_far : SoFar) (old mid new : List ScriptError)
    → is_full f words ≡ false → mid ≡ old ++ slots_errors before number f first
    → TellsLength list before number line f first words so_far mid new
    → TellsForm list before number line f first words so_far old new
unfolding form_errors
takes_form_other list before number line f first words so_far old mid new other now takes =
    let tail = length_errors number line f first words
    ++ (if is_full f (before_comment line words)
    then full_errors list before number line f first (before_comment line words) else []) in
    let found : new ≡ old ++ (slots_errors before number f first ++ tail) =
    takes.found ∙ ap (λ (es : List ScriptError). es ++ tail) now
    ∙ append_assoc old (slots_errors before number f first) tail in
    let here : words_before_comment line f words ≡ before_comment line words = rw other refl in
    record {
      found = subst (λ (ws : List Spot). new ≡ old ++ (slots_errors before number f first
          ++ (length_errors number line f first words
          ++ (if is_full f ws then full_errors list before number line f first ws else [])))) (sym here) found;
      after = takes.after;
    }

-- Whole lines.

pub takes_first : (list : Option Medl) (before : Before) (number : ℕ) (line : List ℕ) (first : Spot) (words : List Spot)
    (so_far : SoFar) (old new : List ScriptError) (f : Form) (name : List ℕ)
    → name ≡ spot_text line first → is_comment name ≡ false → form_named name ≡ Some f
    → TellsForm list before number line f first words so_far old new
    → TellsWords list before number line (first ∷ words) so_far old new
takes_first list before number line first words so_far old new f name is plain names takes =
    let off : is_comment (spot_text line first) ≡ false = ap is_comment (sym is) ∙ plain in
    let form : form_named (spot_text line first) ≡ Some f = ap form_named (sym is) ∙ names in
    record { found = rw (off, form) takes.found; after = rw (off, form) takes.after }

pub takes_none : (list : Option Medl) (before : Before) (number : ℕ) (line : List ℕ) (first : Spot) (words : List Spot)
    (so_far : SoFar) (old new : List ScriptError) (name : List ℕ)
    → name ≡ spot_text line first → is_comment name ≡ false → form_named name ≡ None
    → new ≡ old ++ error_of_word number first wrong.NoForm ∷ [] → StandsFor list so_far before
    → TellsWords list before number line (first ∷ words) so_far old new
takes_none list before number line first words so_far old new name is plain names now stands =
    let off : is_comment (spot_text line first) ≡ false = ap is_comment (sym is) ∙ plain in
    let form : form_named (spot_text line first) ≡ None = ap form_named (sym is) ∙ names in
    record { found = rw (off, form) now; after = rw (off, form) stands }

pub takes_comment_line : (list : Option Medl) (before : Before) (number : ℕ) (line : List ℕ) (first : Spot)
    (words : List Spot) (so_far : SoFar) (old : List ScriptError) (name : List ℕ)
    → name ≡ spot_text line first → is_comment name ≡ true → StandsFor list so_far before
    → TellsWords list before number line (first ∷ words) so_far old old
takes_comment_line list before number line first words so_far old name is comment stands =
    let here : is_comment (spot_text line first) ≡ true = ap is_comment (sym is) ∙ comment in
    record { found = rw here (sym (append-nil old)); after = rw here stands }

pub takes_plain : (list : Option Medl) (before : Before) (number : ℕ) (line : List ℕ) (words : List Spot)
    (so_far : SoFar) (old new : List ScriptError)
    → words ≡ spots_of line → is_marked number line words ≡ false
    → TellsWords list before number line words so_far old new
    → TellsLine list before number line so_far old new
unfolding line_errors before_next
takes_plain list before number line words so_far old new is plain takes =
    let off : is_marked number line (spots_of line) ≡ false = ap (is_marked number line) (sym is) ∙ plain in
    record {
      found = rw off (subst (λ (ws : List Spot). new ≡ old ++ said_errors list before number line ws) is takes.found);
      after = rw off (subst (λ (ws : List Spot). StandsFor list so_far (said_after list before number line ws)) is
          takes.after);
    }

module _ (list : Option Medl) (before : Before) (number : ℕ) where
  pub takes_marked :
      (line : List ℕ) (words : List Spot) (first : Spot) (rest here : List Spot) (so_far : SoFar) (old mid new : List ScriptError)
      → words ≡ spots_of line → is_marked number line words ≡ true → words ≡ first ∷ rest
      → here ≡ behind_mark (first ∷ rest) → mid ≡ old ++ error_of_word number first wrong.Mark ∷ []
      → TellsWords list before number line here so_far mid new → TellsLine list before number line so_far old new
  unfolding line_errors before_next
  takes_marked line words first rest here so_far old mid new is marked cut behind now takes =
      let spots : spots_of line ≡ first ∷ rest = sym is ∙ cut in
      let on : is_marked number line (first ∷ rest) ≡ true = ap (is_marked number line) (sym cut) ∙ marked in
      let found : new ≡ mid ++ said_errors list before number line (behind_mark (first ∷ rest)) =
      subst (λ (ws : List Spot). new ≡ mid ++ said_errors list before number line ws) behind takes.found in
      let after : StandsFor list so_far (said_after list before number line (behind_mark (first ∷ rest))) =
      subst (λ (ws : List Spot). StandsFor list so_far (said_after list before number line ws)) behind takes.after in
      record {
        found = rw (spots, on) (found
            ∙ ap (λ (es : List ScriptError). es ++ said_errors list before number line (behind_mark (first ∷ rest))) now
            ∙ append_assoc old (error_of_word number first wrong.Mark ∷ [])
            (said_errors list before number line (behind_mark (first ∷ rest))));
        after = rw (spots, on) after;
      }
