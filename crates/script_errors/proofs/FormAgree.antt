-- A line of a form: its errors agree with the faults that the reader of scripts looks for.
use Rattle.std.proofs.Common.{◌≡◌, ℕ, suc, ◌+◌, ◌≤◌, ◌&&◌, ◌==◌, Bool, true, false}
use Rattle.std.proofs.Common.{List, [], ◌∷◌, ◌++◌, Option, Some, None}
use Rattle.std.proofs.Common.{is_some, unwrap_or, refl, ap, ◌∙◌, sym, inl, inr, arith, subst, length}
use Rattle.std.specs.Prelude.{if◌then◌else◌, IfSome}
use Rattle.std.proofs.lemmas.Bool.Decides.{nat_tests}
use Rattle.std.proofs.lemmas.List.{length-map}
use Rattle.ttp_base.specs.Faults.{first_fault}
use Rattle.ttp_world.specs.declared.medl.Medl.{Medl}
use Rattle.ttp_world.specs.declared.script.TheConstants.{SLOT_LIMIT}
use Rattle.script_text.specs.Statement.{Statement, has_channels, statement_of, is_spelled}
use Rattle.script_text.specs.Faults.{slots_of, stated_slots, is_after_slots, statement_faults}
use Rattle.script_text.specs.Faults.{further_faults, stated_faults}
use Rattle.script_text.specs.Faults.{form_faults, keyword_statements}
use Rattle.script_text.specs.declared.error.LineFault.{LineFault}
use Rattle.script_text.specs.declared.error.LineFault.TheVariants as faults
use Rattle.script_errors.proofs.FromBelow.{form_faults-word, form_faults-no_slots, form_faults-stated}
use Rattle.script_errors.specs.declared.error.Form.{Form}
use Rattle.script_errors.specs.declared.error.Form.TheVariants as form
use Rattle.script_errors.specs.declared.error.ScriptError.{ScriptError}
use Rattle.script_errors.specs.declared.spots.Spot.{Spot}
use Rattle.script_errors.specs.Spots.{spot_text, spot_texts}
use Rattle.script_errors.specs.Words.{parts_of}
use Rattle.script_errors.specs.Errors.{Before, stated, slots_or_most, own_errors, errors_of_word, stated_wrong}
use Rattle.script_errors.specs.Errors.{line_states, newest_of, unless_told, full_errors, is_full, words_before_comment}
use Rattle.script_errors.specs.Errors.{slots_errors, length_errors, count_errors, comment_of, form_errors}
use Rattle.script_errors.specs.Agrees.{TellsFault}
use Rattle.script_errors.proofs.FormFlags.{Key, key, key_is, count_is}
use Rattle.script_errors.proofs.WordsAgree.{AreTexts, tells_front, tells_back}
use Rattle.script_errors.proofs.OwnAgree.{Outcome, own_word, own_outcome}
use Rattle.script_errors.proofs.StatedAgree.{stated_outcome}

-- the lines before have no error
pub record Follows (before : Before) : Type 0 where
  pub named : before.named ≡ is_some (slots_of (stated before))
  pub some : IfSome (slots_of (stated before)) (λ c. 1 ≤ c)

some_run : (slots : Option ℕ) → IfSome slots (λ c. 1 ≤ c) → 1 ≤ unwrap_or slots SLOT_LIMIT
some_run None some = omega arith
some_run (Some c) some = some

known_run : (slots : Option ℕ) → is_some slots ≡ true → unwrap_or slots 0 ≡ unwrap_or slots SLOT_LIMIT
known_run None some = cc
known_run (Some c) some = refl

same_faults : (list : Medl) (before : Before) (f : Form) (texts : List (List ℕ))
    → is_after_slots (key f) (slots_of (stated before)) ≡ true
    → statement_faults list (stated_slots (stated before)) texts (key f)
    ≡ statement_faults list (slots_or_most before) texts (key f)
unfolding statement_faults
same_faults list before form.Slots texts after = refl
same_faults list before form.On texts after =
    ap (λ (n : ℕ). statement_faults list n texts (key form.On)) (known_run (slots_of (stated before)) after)
same_faults list before form.Drift texts after =
    ap (λ (n : ℕ). statement_faults list n texts (key form.Drift)) (known_run (slots_of (stated before)) after)
same_faults list before form.Send texts after =
    ap (λ (n : ℕ). statement_faults list n texts (key form.Send)) (known_run (slots_of (stated before)) after)
same_faults list before form.Receive texts after =
    ap (λ (n : ℕ). statement_faults list n texts (key form.Receive)) (known_run (slots_of (stated before)) after)
same_faults list before form.Flip texts after =
    ap (λ (n : ℕ). statement_faults list n texts (key form.Flip)) (known_run (slots_of (stated before)) after)
same_faults list before form.Error texts after =
    ap (λ (n : ℕ). statement_faults list n texts (key form.Error)) (known_run (slots_of (stated before)) after)
same_faults list before form.Jump texts after =
    ap (λ (n : ℕ). statement_faults list n texts (key form.Jump)) (known_run (slots_of (stated before)) after)
same_faults list before form.Arm texts after =
    ap (λ (n : ℕ). statement_faults list n texts (key form.Arm)) (known_run (slots_of (stated before)) after)
same_faults list before form.Write texts after =
    ap (λ (n : ℕ). statement_faults list n texts (key form.Write)) (known_run (slots_of (stated before)) after)
same_faults list before form.Read texts after =
    ap (λ (n : ℕ). statement_faults list n texts (key form.Read)) (known_run (slots_of (stated before)) after)

-- what a line states is what the reader takes it for
pub states_is : (line : List ℕ) (f : Form) (words : List Spot)
    → line_states line f words ≡ statement_of (key f) (spot_texts line words)
states_is line f words = ap (λ (o : Option Key). newest_of (keyword_statements [] (spot_texts line words) o)) (key_is f)

-- texts of the words behind the first
later_texts : (line : List ℕ) (words : List Spot) (texts : List (List ℕ)) (name : List ℕ) (i : ℕ)
    → AreTexts line words texts i → AreTexts line words (name ∷ texts) (suc i)
later_texts line [] texts name i are = tt
later_texts line (w ∷ words) texts name i are = (are.0, later_texts line words texts name (suc i) are.1)

texts_alone : (line : List ℕ) (words : List Spot) → AreTexts line words (spot_texts line words) 0
texts_alone line [] = tt
texts_alone line (w ∷ words) = (
  refl,
  later_texts line words (spot_texts line words) (spot_text line w) 0
      (texts_alone line words),
)

texts_behind : (line : List ℕ) (first : Spot) (words : List Spot)
    → AreTexts line words (spot_texts line (first ∷ words)) 1
texts_behind line first words =
    later_texts line words (spot_texts line words) (spot_text line first) 0 (texts_alone line words)

first_front : {X : Type 0} (front more : List X) (fault : X) → first_fault front ≡ Some fault
    → first_fault (front ++ more) ≡ Some fault
first_front [] more fault is = cc
first_front (f ∷ front) more fault is = is

tells_unless : (number : ℕ) (fault : LineFault) (own more : List ScriptError) → TellsFault number fault own
    → TellsFault number fault (unless_told own more)
tells_unless number fault [] more tells = absurd tells
tells_unless number fault (e ∷ es) more tells = tells

-- errors behind those of the words alone
both_outcomes : (number : ℕ) (front more : List LineFault) (own told : List ScriptError) → Outcome number front own
    → Outcome number more told → Outcome number (front ++ more) (unless_told own told)
both_outcomes number front more own told (inl none) behind = rw (none.0, none.1) behind
both_outcomes number front more own told (inr (fault, (is, tells))) behind =
    inr (fault, (first_front front more fault is, tells_unless number fault own told tells))

full_outcome : (list : Medl) (before : Before) (number : ℕ) (line : List ℕ) (f : Form) (first : Spot)
    (words : List Spot) → Follows before → length words ≡ length (parts_of f)
    → has_channels (key f) (spot_texts line (first ∷ words)) ≡ true
    → is_after_slots (key f) (slots_of (stated before)) ≡ true
    → Outcome number (stated_faults list (stated before) (spot_texts line (first ∷ words)) (key f))
    (full_errors (Some list) before number line f first words)
unfolding stated_faults full_errors
full_outcome list before number line f first words follows full spelled after =
    let texts = spot_texts line (first ∷ words) in
    both_outcomes number (statement_faults list (stated_slots (stated before)) texts (key f)) _
    (own_errors (Some list) (slots_or_most before) number line f words) _
    (subst (λ (fs : List LineFault).
    Outcome number fs (own_errors (Some list) (slots_or_most before) number line f words))
    (sym (same_faults list before f texts after))
    (own_outcome list (slots_or_most before) number line f words texts full
    (texts_behind line first words) (some_run (slots_of (stated before)) follows.some) spelled))
    (subst (λ (s : Statement). Outcome number (further_faults list (stated before) (statement_of (key f) texts))
    (errors_of_word number first (stated_wrong (Some list) before s))) (sym (states_is line f (first ∷ words)))
    (stated_outcome number first list before (statement_of (key f) texts)))

-- Errors of other kinds.

slots_told : (before : Before) (number : ℕ) (f : Form) (first : Spot) → Follows before
    → is_after_slots (key f) (slots_of (stated before)) ≡ false
    → TellsFault number faults.NoSlots (slots_errors before number f first)
slots_told before number form.Slots first follows after = cc
slots_told before number f first follows after = rw (follows.named, after) (inl (refl, refl))

slots_none : (before : Before) (number : ℕ) (f : Form) (first : Spot) → Follows before
    → is_after_slots (key f) (slots_of (stated before)) ≡ true → slots_errors before number f first ≡ []
slots_none before number form.Slots first follows after = refl
slots_none before number f first follows after = rw (follows.named, after) refl

count_told : (number : ℕ) (f : Form) (first : Spot) (words : List Spot) (comment : Option Spot)
    → TellsFault number faults.Word (count_errors number f first words comment)
count_told number f first words None = inl (refl, refl)
count_told number f first words (Some c) = inl (refl, refl)

count_step : (line : List ℕ) (f : Form) (words : List Spot) (b : Bool) → is_full f words ≡ b
    → (suc (length (spot_texts line words)) == length (parts_of f) + 1) ≡ b
count_step line f words true full =
    let same : length (spot_texts line words) ≡ length words = length-map words (spot_text line) in
    let is : length words ≡ length (parts_of f) = grind (arith, nat_tests) in grind (arith, nat_tests)
count_step line f words false full =
    let same : length (spot_texts line words) ≡ length words =
    length-map words (spot_text line) in grind (arith, nat_tests)

spelled_is : (line : List ℕ) (f : Form) (first : Spot) (words : List Spot) (b : Bool) → is_full f words ≡ b
    → is_spelled (key f) (spot_texts line (first ∷ words))
    ≡ (b && has_channels (key f) (spot_texts line (first ∷ words)))
spelled_is line f first words b full =
    ap (λ (n : ℕ). (length (spot_texts line (first ∷ words)) == n)
    && has_channels (key f) (spot_texts line (first ∷ words)))
    (count_is f)
    ∙ ap (λ (c : Bool). c && has_channels (key f) (spot_texts line (first ∷ words)))
    (count_step line f words b full)

pub length_of : (f : Form) (words : List Spot) → is_full f words ≡ true → length words ≡ length (parts_of f)
length_of f words full = grind (arith, nat_tests)

full_word : (list : Medl) (before : Before) (number : ℕ) (line : List ℕ) (f : Form) (first : Spot)
    (words : List Spot) → length words ≡ length (parts_of f)
    → has_channels (key f) (spot_texts line (first ∷ words)) ≡ false
    → TellsFault number faults.Word (full_errors (Some list) before number line f first words)
unfolding full_errors
full_word list before number line f first words full spells =
    tells_unless number faults.Word _ _ (own_word list (slots_or_most before) number line f words
    (spot_texts line (first ∷ words)) full (texts_behind line first words) spells)

pub form_stages : (list : Medl) (before : Before) (number : ℕ) (line : List ℕ) (f : Form) (first : Spot)
    (words : List Spot) (full spelled after : Bool) → Follows before → is_full f words ≡ full
    → has_channels (key f) (spot_texts line (first ∷ words)) ≡ spelled
    → is_after_slots (key f) (slots_of (stated before)) ≡ after
    → Outcome number (form_faults list (stated before) (spot_texts line (first ∷ words)) (key f))
    (form_errors (Some list) before number line f first words)
unfolding form_errors
form_stages list before number line f first words false spelled after follows full spells comes =
    inr (
      faults.Word,
      (
        form_faults-word list (stated before) _ (key f) (spelled_is line f first words false full),
        tells_back number faults.Word (slots_errors before number f first) (length_errors number line f first words
            ++ (if is_full f (words_before_comment line f words)
            then full_errors (Some list) before number line f first (words_before_comment line f words) else []))
            (tells_front number faults.Word (length_errors number line f first words)
            (if is_full f (words_before_comment line f words)
            then full_errors (Some list) before number line f first (words_before_comment line f words) else [])
            (rw full (count_told number f first words (comment_of line words)))),
      ),
    )
form_stages list before number line f first words true false after follows full spells comes =
    inr (
      faults.Word,
      (
        form_faults-word list (stated before) _ (key f) (spelled_is line f first words true full ∙ spells),
        tells_back number faults.Word (slots_errors before number f first) (length_errors number line f first words
            ++ (if is_full f (words_before_comment line f words)
            then full_errors (Some list) before number line f first (words_before_comment line f words) else []))
            (rw (full, full) (full_word list before number line f first words (length_of f words full) spells)),
      ),
    )
form_stages list before number line f first words true true false follows full spells comes =
    inr (
      faults.NoSlots,
      (
        form_faults-no_slots list (stated before) _ (key f)
            (spelled_is line f first words true full ∙ spells) comes,
        tells_front number faults.NoSlots _ _ (slots_told before number f first follows comes),
      ),
    )
form_stages list before number line f first words true true true follows full spells comes =
    rw (
      form_faults-stated list (stated before) (spot_texts line (first ∷ words)) (key f)
          (spelled_is line f first words true full ∙ spells) comes,
      slots_none before number f first follows comes,
      full,
      full,
    )
    (full_outcome list before number line f first words follows (length_of f words full) spells comes)
