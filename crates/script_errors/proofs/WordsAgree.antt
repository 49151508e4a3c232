-- The errors of a line's words beside the faults that the reader of scripts looks for.
use Rattle.std.proofs.Common.{◌≡◌, ℕ, zero, suc, ◌+◌, ◌<◌, ◌&&◌, Bool, true, false}
use Rattle.std.proofs.Common.{List, [], ◌∷◌, ◌++◌, Option, Some, None}
use Rattle.std.proofs.Common.{refl, ap, ◌∙◌, sym, arith, nat_le, nat_lt, length, map, get_or, inl, inr}
use Rattle.std.specs.Prelude.{option_to_list}
use Rattle.std.specs.List.{AllByRecursion}
use Rattle.std.proofs.lemmas.Bool.Decides.{nat_tests}
use Rattle.ttp_world.specs.declared.medl.Medl.{Medl}
use Rattle.script_text.specs.Lines.{word_at}
use Rattle.script_text.specs.Numbers.{decimal_value}
use Rattle.script_text.specs.declared.error.LineFault.{LineFault}
use Rattle.script_text.specs.declared.error.LineFault.TheVariants as faults
use Rattle.script_errors.specs.declared.error.Form.{Form}
use Rattle.script_errors.specs.declared.error.Form.TheVariants as form
use Rattle.script_errors.specs.declared.error.Part.{Part}
use Rattle.script_errors.specs.declared.error.Wrong.{Wrong}
use Rattle.script_errors.specs.declared.error.ScriptError.{ScriptError}
use Rattle.script_errors.specs.declared.spots.Spot.{Spot}
use Rattle.script_errors.specs.Spots.{spot, spot_text}
use Rattle.script_errors.specs.Words.{parts_of, word_wrong}
use Rattle.script_errors.specs.Errors.{errors_of_word, word_errors, line_node, span_errors, own_errors, backwards}
use Rattle.script_errors.specs.Errors.{is_slot_word}
use Rattle.script_errors.specs.Agrees.{reader_fault, TellsFault}
use Rattle.script_errors.proofs.Spans.{span_five, span_four}
use Rattle.script_errors.proofs.Stages.{told_by, all_told, Has}
use Rattle.script_errors.proofs.PartFlags.{flags_of, classes, told_of_word}
use Rattle.script_errors.proofs.FormFlags.{flags_from}

-- Errors that are told of a line.

abbrev pub class_at : ScriptError → LineFault
class_at e = reader_fault e.wrong

abbrev pub AllOn : ℕ → List ScriptError → Type 0
AllOn number es = AllByRecursion (λ e. e.line ≡ number) es

pub tells_class : (number : ℕ) (fault : LineFault) (es : List ScriptError) → AllOn number es
    → Has fault (map class_at es) → TellsFault number fault es
tells_class number fault [] on has = absurd has
tells_class number fault (e ∷ es) on (inl is) = inl (on.0, is)
tells_class number fault (e ∷ es) on (inr has) = inr (tells_class number fault es on.1 has)

pub tells_front : (number : ℕ) (fault : LineFault) (xs ys : List ScriptError) → TellsFault number fault xs
    → TellsFault number fault (xs ++ ys)
tells_front number fault [] ys tells = absurd tells
tells_front number fault (x ∷ xs) ys (inl is) = inl is
tells_front number fault (x ∷ xs) ys (inr tells) = inr (tells_front number fault xs ys tells)

pub tells_back : (number : ℕ) (fault : LineFault) (xs ys : List ScriptError) → TellsFault number fault ys
    → TellsFault number fault (xs ++ ys)
tells_back number fault [] ys tells = tells
tells_back number fault (x ∷ xs) ys tells = inr (tells_back number fault xs ys tells)

pub on_append : (number : ℕ) (xs ys : List ScriptError) → AllOn number xs → AllOn number ys → AllOn number (xs ++ ys)
on_append number [] ys xs_on ys_on = ys_on
on_append number (x ∷ xs) ys xs_on ys_on = (xs_on.0, on_append number xs ys xs_on.1 ys_on)

pub on_word : (number : ℕ) (at : Spot) (w : Option Wrong) → AllOn number (errors_of_word number at w)
on_word number at None = tt
on_word number at (Some w) = (refl, tt)

-- Words by their flags.

-- the words of a line are those of texts from a place on
abbrev pub AreTexts : List ℕ → List Spot → List (List ℕ) → ℕ → Type 0
AreTexts line [] texts i = Unit {0}
AreTexts line (w ∷ words) texts i = (word_at texts i ≡ spot_text line w) × AreTexts line words texts (suc i)

class_word : (number : ℕ) (at : Spot) (w : Option Wrong) (more : List ScriptError)
    → map class_at (errors_of_word number at w ++ more) ≡ option_to_list (classes w) ++ map class_at more
class_word number at None more = refl
class_word number at (Some w) more = refl

pub told_words : (list : Medl) (slots : ℕ) (owner : Option ℕ) (number : ℕ) (line : List ℕ) (parts : List Part)
    (words : List Spot) (texts : List (List ℕ)) (i : ℕ) → length words ≡ length parts → AreTexts line words texts i
    → map class_at (word_errors (Some list) slots owner number line parts words)
    ≡ all_told (flags_from list slots owner parts i texts)
told_words list slots owner number line [] words texts i size are = refl
told_words list slots owner number line (p ∷ parts) [] texts i size are = absurd (omega (arith, size))
told_words list slots owner number line (p ∷ parts) (w ∷ words) texts i size are =
    let more = word_errors (Some list) slots owner number line parts words in
    class_word number w (word_wrong (Some list) slots owner p (spot_text line w)) more
    ∙ ap (λ (o : Option LineFault). option_to_list o ++ map class_at more)
    (told_of_word list slots owner p (spot_text line w)
    ∙ ap (λ (t : List ℕ). told_by (flags_of list slots owner p t)) (sym are.0))
    ∙ ap (λ (fs : List LineFault). option_to_list (told_by (flags_of list slots owner p (word_at texts i))) ++ fs)
    (told_words list slots owner number line parts words texts (suc i) (omega (arith, size)) are.1)

pub on_words : (list : Option Medl) (slots : ℕ) (owner : Option ℕ) (number : ℕ) (line : List ℕ) (parts : List Part)
    (words : List Spot) → AllOn number (word_errors list slots owner number line parts words)
on_words list slots _ number line [] words = tt
on_words list slots _ number line (p ∷ parts) [] = tt
on_words list slots owner number line (p ∷ parts) (w ∷ words) =
    on_append number _ _ (on_word number w (word_wrong list slots owner p (spot_text line w)))
    (on_words list slots owner number line parts words)

pub map_none : (es : List ScriptError) → map class_at es ≡ [] → es ≡ []
map_none [] none = refl
map_none (e ∷ es) none = cc

-- The first and the last slot.

abbrev pub no_span : (f : Form) → Bool
no_span form.Send = false
no_span form.Receive = false
no_span form.Error = false
no_span _ = true

pub span_none : (slots number : ℕ) (line : List ℕ) (f : Form) (words : List Spot) → no_span f ≡ true
    → span_errors slots number line (parts_of f) words ≡ []
span_none slots number line form.Slots [] none = refl
span_none slots number line form.Slots (a ∷ words) none = refl
span_none slots number line form.On [] none = refl
span_none slots number line form.On (a ∷ []) none = refl
span_none slots number line form.On (a ∷ b ∷ words) none = refl
span_none slots number line form.Drift [] none = refl
span_none slots number line form.Drift (a ∷ []) none = refl
span_none slots number line form.Drift (a ∷ b ∷ words) none = refl
span_none slots number line form.Send words none = cc
span_none slots number line form.Receive words none = cc
span_none slots number line form.Flip [] none = refl
span_none slots number line form.Flip (a ∷ []) none = refl
span_none slots number line form.Flip (a ∷ b ∷ []) none = refl
span_none slots number line form.Flip (a ∷ b ∷ c ∷ []) none = refl
span_none slots number line form.Flip (a ∷ b ∷ c ∷ d ∷ words) none = refl
span_none slots number line form.Error words none = cc
span_none slots number line form.Jump [] none = refl
span_none slots number line form.Jump (a ∷ []) none = refl
span_none slots number line form.Jump (a ∷ b ∷ []) none = refl
span_none slots number line form.Jump (a ∷ b ∷ c ∷ words) none = refl
span_none slots number line form.Arm [] none = refl
span_none slots number line form.Arm (a ∷ []) none = refl
span_none slots number line form.Arm (a ∷ b ∷ words) none = refl
span_none slots number line form.Write [] none = refl
span_none slots number line form.Write (a ∷ []) none = refl
span_none slots number line form.Write (a ∷ b ∷ []) none = refl
span_none slots number line form.Write (a ∷ b ∷ c ∷ words) none = refl
span_none slots number line form.Read [] none = refl
span_none slots number line form.Read (a ∷ []) none = refl
span_none slots number line form.Read (a ∷ b ∷ []) none = refl
span_none slots number line form.Read (a ∷ b ∷ c ∷ words) none = refl

pub on_span : (slots number : ℕ) (line : List ℕ) (f : Form) (words : List Spot) → length words ≡ length (parts_of f)
    → AllOn number (span_errors slots number line (parts_of f) words)
on_span slots number line form.Slots words full = rw (span_none slots number line form.Slots words refl) tt
on_span slots number line form.On words full = rw (span_none slots number line form.On words refl) tt
on_span slots number line form.Drift words full = rw (span_none slots number line form.Drift words refl) tt
on_span slots number line form.Send words full = rw (span_five slots number line words full) (on_word number _ _)
on_span slots number line form.Receive words full = rw (span_five slots number line words full) (on_word number _ _)
on_span slots number line form.Flip words full = rw (span_none slots number line form.Flip words refl) tt
on_span slots number line form.Error words full = rw (span_four slots number line words full) (on_word number _ _)
on_span slots number line form.Jump words full = rw (span_none slots number line form.Jump words refl) tt
on_span slots number line form.Arm words full = rw (span_none slots number line form.Arm words refl) tt
on_span slots number line form.Write words full = rw (span_none slots number line form.Write words refl) tt
on_span slots number line form.Read words full = rw (span_none slots number line form.Read words refl) tt

pub on_own : (list : Option Medl) (slots number : ℕ) (line : List ℕ) (f : Form) (words : List Spot)
    → length words ≡ length (parts_of f) → AllOn number (own_errors list slots number line f words)
unfolding own_errors
on_own list slots number line f words full =
    on_append number _ _ (on_words list slots (line_node list line (parts_of f) words) number line (parts_of f) words)
    (on_span slots number line f words full)

-- words of a line among texts
pub text_here : (line : List ℕ) (words : List Spot) (texts : List (List ℕ)) (i j : ℕ) → AreTexts line words texts i
    → j < length words → spot_text line (get_or words j (spot 0 0)) ≡ word_at texts (i + j)
text_here line [] texts i j are within = absurd (omega arith)
text_here line (w ∷ words) texts i zero are within =
    sym are.0 ∙ ap (word_at texts) (let e : i ≡ i + 0 = omega arith in e)
text_here line (w ∷ words) texts i (suc j) are within =
    text_here line words texts (suc i) j are.1 (omega arith)
    ∙ ap (word_at texts) (let e : suc i + j ≡ i + suc j = omega arith in e)

pub backwards_class : (slots : ℕ) (from to : List ℕ) → is_slot_word slots from ≡ true → is_slot_word slots to ≡ true
    → nat_le (decimal_value from) (decimal_value to) ≡ false
    → classes (backwards slots from to) ≡ Some faults.Range
backwards_class slots from to from_is to_is order =
    let later : nat_lt (decimal_value to) (decimal_value from) ≡ true = grind (arith, nat_tests) in
    rw (from_is, to_is, later) refl

pub backwards_none : (slots : ℕ) (from to : List ℕ) → nat_le (decimal_value from) (decimal_value to) ≡ true
    → (b : Bool) → (is_slot_word slots from && is_slot_word slots to) ≡ b → backwards slots from to ≡ None
backwards_none slots from to order true is =
    let later : nat_lt (decimal_value to) (decimal_value from) ≡ false = grind (arith, nat_tests) in rw (is, later) refl
backwards_none slots from to order false is = rw is refl

some_same : (x y : LineFault) → Some x ≡ Some y → x ≡ y
some_same x y is = cc

pub word_tells : (number : ℕ) (at : Spot) (w : Option Wrong) (fault : LineFault) → classes w ≡ Some fault
    → TellsFault number fault (errors_of_word number at w)
word_tells number at None fault is = cc
word_tells number at (Some w) fault is = inl (refl, some_same _ _ is)
