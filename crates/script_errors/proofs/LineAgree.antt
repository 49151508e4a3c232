-- A whole line: its errors agree with the faults that the reader of scripts looks for.
use Rattle.std.proofs.Common.{◌≡◌, ℕ, ◌≤◌, ◌&&◌, ◌||◌, ◌==◌, Bool, true, false, List, [], ◌∷◌, Option, Some}
use Rattle.std.proofs.Common.{None, is_some, refl, ap, ◌∙◌, sym, inl, inr, arith, subst, length, nat_le, get_or}
use Rattle.std.specs.Prelude.{◌⊎◌, if◌then◌else◌, IfSome, find, codes, slice_index}
use Rattle.std.proofs.lemmas.Bool.Decides.{nat_tests}
use Rattle.ttp_world.proofs.MemberSets.{or-false}
use Rattle.std.proofs.lemmas.Slice.Eq.{bytes_eq-Decides}
use Rattle.ttp_base.specs.Faults.{first_fault}
use Rattle.ttp_world.specs.declared.medl.Medl.{Medl}
use Rattle.ttp_world.specs.declared.script.TheConstants.{SLOT_LIMIT}
use Rattle.script_text.specs.Lines.{word_at, is_comment, words_of_line}
use Rattle.script_text.specs.Numbers.{is_text, is_number, decimal_value}
use Rattle.script_text.specs.Statement.{statement_of, keyword_of}
use Rattle.script_text.specs.Faults.{slots_of, form_faults, line_faults}
use Rattle.script_text.specs.Faults.{statements_after}
use Rattle.script_text.specs.declared.error.LineFault.{LineFault}
use Rattle.script_text.specs.declared.error.LineFault.TheVariants as faults
use Rattle.script_errors.specs.declared.error.Form.{Form}
use Rattle.script_errors.specs.declared.error.Form.TheVariants as form
use Rattle.script_errors.specs.declared.error.Part.TheVariants as part
use Rattle.script_errors.specs.declared.error.ScriptError.{ScriptError}
use Rattle.script_errors.specs.declared.spots.Spot.{Spot}
use Rattle.script_errors.specs.Spots.{spot, spot_text, spot_texts, spots_of, begins_with_mark, behind_mark}
use Rattle.script_errors.specs.Words.{parts_of, form_word, forms, form_named, word_wrong}
use Rattle.script_errors.specs.Errors.{says_something}
use Rattle.script_errors.specs.Errors.{Before, stated, slots_or_most, own_errors, unless_told, full_errors, is_full}
use Rattle.script_errors.specs.Errors.{slots_errors, length_errors, count_errors, comment_of, form_errors}
use Rattle.script_errors.specs.Errors.{form_after, with_taken, said_errors, said_after, is_marked}
use Rattle.script_errors.specs.Errors.{mark_errors, line_errors, before_next}
use Rattle.script_errors.specs.Agrees.{TellsFault}
use Rattle.script_errors.proofs.Right.{front_none, back_none, both_tests, first_right}
use Rattle.script_errors.proofs.SpotWords.{texts_are_words}
use Rattle.script_errors.proofs.FormFlags.{key, key_is}
use Rattle.script_errors.proofs.OwnAgree.{Outcome}
use Rattle.script_errors.proofs.WordsAgree.{tells_front}
use Rattle.script_errors.proofs.FormAgree.{Follows, form_stages, length_of, states_is}

-- What a line of a form leaves behind, where it has no error.

count_some : (number : ℕ) (f : Form) (first : Spot) (words : List Spot) (comment : Option Spot)
    → count_errors number f first words comment ≡ [] → ⊥
count_some number f first words None none = cc
count_some number f first words (Some c) none = cc

unless_none : (own more : List ScriptError) → unless_told own more ≡ [] → own ≡ []
unless_none [] more none = refl
unless_none (e ∷ es) more none = cc

full_none : (list : Option Medl) (before : Before) (number : ℕ) (line : List ℕ) (f : Form) (first : Spot)
    (words : List Spot) → full_errors list before number line f first words ≡ []
    → own_errors list (slots_or_most before) number line f words ≡ []
unfolding full_errors
full_none list before number line f first words none = unless_none _ _ none

count_right : (list : Option Medl) (slots : ℕ) (node : Option ℕ) (word : List ℕ)
    → word_wrong list slots node part.Slots word ≡ None → 1 ≤ decimal_value word
unfolding word_wrong
count_right list slots _ word none =
    let tests = (both_tests (is_number word) (nat_le 1 (decimal_value word) && nat_le (decimal_value word) SLOT_LIMIT)
    _ _ none).1 in grind (arith, nat_tests, tests)

named_at : (b : Bool) (e : ScriptError) → (if b then [] else e ∷ []) ≡ [] → b ≡ true
named_at true e none = refl
named_at false e none = cc

-- the count of a `slots` line
first_text : (line : List ℕ) (first : Spot) (words : List Spot) → 1 ≤ length words
    → word_at (spot_texts line (first ∷ words)) 1 ≡ spot_text line (get_or words 0 (spot 0 0))
first_text line first [] some = absurd (omega arith)
first_text line first (w ∷ words) some = refl

slots_next : (list : Option Medl) (before : Before) (number : ℕ) (line : List ℕ) (first : Spot) (words : List Spot)
    → length words ≡ length (parts_of form.Slots)
    → own_errors list (slots_or_most before) number line form.Slots words ≡ []
    → Follows (with_taken before number (statement_of (key form.Slots) (spot_texts line (first ∷ words))))
slots_next list before number line first words full none =
    let right = first_right list (slots_or_most before) number line form.Slots part.Slots [] words refl full none in
    record {
      named = refl;
      some = subst (λ (t : List ℕ). 1 ≤ decimal_value t) (sym (first_text line first words (omega (arith, full))))
          (count_right list (slots_or_most before) _ (spot_text line (get_or words 0 (spot 0 0))) right);
    }

-- other lines leave the slots of the run as they were
other_next : (before : Before) (number : ℕ) (f : Form) (texts : List (List ℕ)) → Follows before → before.named ≡ true
    → slots_of (stated (with_taken before number (statement_of (key f) texts))) ≡ slots_of (stated before)
    → Follows (with_taken before number (statement_of (key f) texts))
other_next before number f texts follows named same = record {
  named = sym (ap is_some same ∙ (sym follows.named ∙ named));
  some = subst (λ (o : Option ℕ). IfSome o (λ c. 1 ≤ c)) (sym same) follows.some;
}

taken_next : (list : Option Medl) (before : Before) (number : ℕ) (line : List ℕ) (f : Form) (first : Spot)
    (words : List Spot) → Follows before → slots_errors before number f first ≡ []
    → length words ≡ length (parts_of f) → own_errors list (slots_or_most before) number line f words ≡ []
    → Follows (with_taken before number (statement_of (key f) (spot_texts line (first ∷ words))))
taken_next list before number line form.Slots first words follows slots full none =
    slots_next list before number line first words full none
taken_next list before number line form.On first words follows slots full none =
    other_next before number form.On (spot_texts line (first ∷ words)) follows (named_at before.named _ slots) refl
taken_next list before number line form.Drift first words follows slots full none =
    other_next before number form.Drift (spot_texts line (first ∷ words)) follows (named_at before.named _ slots) refl
taken_next list before number line form.Send first words follows slots full none =
    other_next before number form.Send (spot_texts line (first ∷ words)) follows (named_at before.named _ slots) refl
taken_next list before number line form.Receive first words follows slots full none =
    other_next before number form.Receive (spot_texts line (first ∷ words)) follows (named_at before.named _ slots) refl
taken_next list before number line form.Flip first words follows slots full none =
    other_next before number form.Flip (spot_texts line (first ∷ words)) follows (named_at before.named _ slots) refl
taken_next list before number line form.Error first words follows slots full none =
    other_next before number form.Error (spot_texts line (first ∷ words)) follows (named_at before.named _ slots) refl
taken_next list before number line form.Jump first words follows slots full none =
    other_next before number form.Jump (spot_texts line (first ∷ words)) follows (named_at before.named _ slots) refl
taken_next list before number line form.Arm first words follows slots full none =
    other_next before number form.Arm (spot_texts line (first ∷ words)) follows (named_at before.named _ slots) refl
taken_next list before number line form.Write first words follows slots full none =
    other_next before number form.Write (spot_texts line (first ∷ words)) follows (named_at before.named _ slots) refl
taken_next list before number line form.Read first words follows slots full none =
    other_next before number form.Read (spot_texts line (first ∷ words)) follows (named_at before.named _ slots) refl

-- where the line has no error, it is taken
record Goes (list : Option Medl) (before : Before) (number : ℕ) (line : List ℕ) (f : Form) (first : Spot)
    (words : List Spot) : Type 0 where
  follows : Follows (form_after list before number line f first words)
  states : stated (form_after list before number line f first words)
      ≡ statement_of (key f) (spot_texts line (first ∷ words)) ∷ stated before
  named : (form_after list before number line f first words).named ≡ true

form_next : (list : Option Medl) (before : Before) (number : ℕ) (line : List ℕ) (f : Form) (first : Spot)
    (words : List Spot) (full : Bool) → is_full f words ≡ full → Follows before
    → form_errors list before number line f first words ≡ [] → Goes list before number line f first words
unfolding form_errors form_after
form_next list before number line f first words false full follows none =
    let slots = back_none (slots_errors before number f first) _ none in
    let count = front_none (length_errors number line f first words) _ slots in
    absurd (count_some number f first words (comment_of line words) (rw full at count))
form_next list before number line f first words true full follows none =
    let slots = front_none (slots_errors before number f first) _ none in
    let told = back_none (length_errors number line f first words) _
    (back_none (slots_errors before number f first) _ none) in
    let right : full_errors list before number line f first words ≡ [] = rw (full, full) at told in
    let next = taken_next list before number line f first words follows slots (length_of f words full)
    (full_none list before number line f first words right) in
    let is = states_is line f (first ∷ words) in
    record {
      follows = rw (full, full, right, is) next;
      states = rw (full, full, right, is) refl;
      named = rw (full, full, right) refl;
    }

-- The form that the first word names.

find_at : {X : Type 0} (p : X → Bool) (y : X) (ys : List X) (x : X) (b : Bool) → p y ≡ b
    → (find p ys ≡ Some x → p x ≡ true) → find p (y ∷ ys) ≡ Some x → p x ≡ true
find_at p y ys x true here more is =
    let found = rw here at is in
    let same : y ≡ x = cc in ap p (sym same) ∙ here
find_at p y ys x false here more is = more (rw here at is)

find_passes : {X : Type 0} (p : X → Bool) (xs : List X) (x : X) → find p xs ≡ Some x → p x ≡ true
find_passes p [] x is = cc
find_passes p (y ∷ ys) x is = find_at p y ys x (p y) refl (find_passes p ys x) is

none_at : {X : Type 0} (p : X → Bool) (y : X) (ys : List X) (b : Bool) → p y ≡ b → find p (y ∷ ys) ≡ None
    → (p y ≡ false) × (find p ys ≡ None)
none_at p y ys true here is = let found = rw here at is in cc
none_at p y ys false here is = (here, rw here at is)

find_none : {X : Type 0} (p : X → Bool) (y : X) (ys : List X) → find p (y ∷ ys) ≡ None
    → (p y ≡ false) × (find p ys ≡ None)
find_none p y ys is = none_at p y ys (p y) refl is

pub keyword_none : (name : List ℕ) → form_named name ≡ None → keyword_of name ≡ None
keyword_none name none =
    let a0 = find_none (λ f. is_text (form_word f) name) form.Slots
    (form.On ∷ form.Drift ∷ form.Send ∷ form.Receive ∷ form.Flip ∷ form.Error ∷ form.Jump
    ∷ form.Arm ∷ form.Write ∷ form.Read ∷ []) none in
    let a1 = find_none (λ f. is_text (form_word f) name) form.On
    (form.Drift ∷ form.Send ∷ form.Receive ∷ form.Flip ∷ form.Error ∷ form.Jump
    ∷ form.Arm ∷ form.Write ∷ form.Read ∷ []) a0.1 in
    let a2 = find_none (λ f. is_text (form_word f) name) form.Drift
    (form.Send ∷ form.Receive ∷ form.Flip ∷ form.Error ∷ form.Jump ∷ form.Arm ∷ form.Write ∷ form.Read ∷ []) a1.1 in
    let a3 = find_none (λ f. is_text (form_word f) name) form.Send
    (form.Receive ∷ form.Flip ∷ form.Error ∷ form.Jump ∷ form.Arm ∷ form.Write ∷ form.Read ∷ []) a2.1 in
    let a4 = find_none (λ f. is_text (form_word f) name) form.Receive
    (form.Flip ∷ form.Error ∷ form.Jump ∷ form.Arm ∷ form.Write ∷ form.Read ∷ []) a3.1 in
    let a5 = find_none (λ f. is_text (form_word f) name) form.Flip
    (form.Error ∷ form.Jump ∷ form.Arm ∷ form.Write ∷ form.Read ∷ []) a4.1 in
    let a6 = find_none (λ f. is_text (form_word f) name) form.Error
    (form.Jump ∷ form.Arm ∷ form.Write ∷ form.Read ∷ []) a5.1 in
    let a7 = find_none (λ f. is_text (form_word f) name) form.Jump
    (form.Arm ∷ form.Write ∷ form.Read ∷ []) a6.1 in
    let a8 = find_none (λ f. is_text (form_word f) name) form.Arm
    (form.Write ∷ form.Read ∷ []) a7.1 in
    let a9 = find_none (λ f. is_text (form_word f) name) form.Write
    (form.Read ∷ []) a8.1 in
    let a10 = find_none (λ f. is_text (form_word f) name) form.Read
    [] a9.1 in
    rw (a0.0, a1.0, a2.0, a3.0, a4.0, a5.0, a6.0, a7.0, a8.0, a9.0, a10.0) refl

keyword_some : (name : List ℕ) (f : Form) → form_named name ≡ Some f → keyword_of name ≡ Some (key f)
keyword_some name f is =
    ap keyword_of ((bytes_eq-Decides name (form_word f)).0 (find_passes (λ g. is_text (form_word g) name) forms f is))
    ∙ key_is f

-- Whole lines.

-- nothing is wrong with a line of words, and it is taken
record IsSaid (list : Medl) (before : Before) (number : ℕ) (line : List ℕ) (words : List Spot) : Type 0 where
  faults : line_faults list (stated before) (spot_texts line words) ≡ []
  errors : said_errors (Some list) before number line words ≡ []
  follows : Follows (said_after (Some list) before number line words)
  states : stated (said_after (Some list) before number line words)
      ≡ statements_after (stated before) (spot_texts line words)
  named : (said_after (Some list) before number line words).named ≡ (before.named || says_something line words)

abbrev SaidOutcome : Medl → Before → ℕ → List ℕ → List Spot → Type 0
SaidOutcome list before number line words = IsSaid list before number line words
    ⊎ ((fault : LineFault) × ((first_fault (line_faults list (stated before) (spot_texts line words)) ≡ Some fault)
    × TellsFault number fault (said_errors (Some list) before number line words)))

or_true : (b : Bool) → true ≡ (b || true)
or_true true = refl
or_true false = refl

form_said : (list : Medl) (before : Before) (number : ℕ) (line : List ℕ) (f : Form) (first : Spot) (words : List Spot)
    → Follows before → is_comment (spot_text line first) ≡ false → form_named (spot_text line first) ≡ Some f
    → Outcome number (form_faults list (stated before) (spot_texts line (first ∷ words)) (key f))
    (form_errors (Some list) before number line f first words)
    → SaidOutcome list before number line (first ∷ words)
unfolding line_faults statements_after form_after
form_said list before number line f first words follows plain names (inl right) =
    let keyword = keyword_some (spot_text line first) f names in
    let goes = form_next (Some list) before number line f first words (is_full f words) refl follows right.1 in
    inl (record {
      faults = rw (plain, keyword) right.0;
      errors = rw (plain, names) right.1;
      follows = rw (plain, names) goes.follows;
      states = rw (plain, names, keyword) goes.states;
      named = rw (plain, names) (goes.named ∙ or_true before.named);
    })
form_said list before number line f first words follows plain names (inr (fault, told)) =
    let keyword = keyword_some (spot_text line first) f names in
    inr (fault, (rw (plain, keyword) told.0, rw (plain, names) told.1))

said_named : (list : Medl) (before : Before) (number : ℕ) (line : List ℕ) (first : Spot) (words : List Spot)
    (o : Option Form) → Follows before → is_comment (spot_text line first) ≡ false
    → form_named (spot_text line first) ≡ o → SaidOutcome list before number line (first ∷ words)
unfolding line_faults
said_named list before number line first words None follows plain names =
    inr (
      faults.Word,
      (
        rw (plain, keyword_none (spot_text line first) names)
            refl,
        rw (plain, names) (inl (refl, refl)),
      ),
    )
said_named list before number line first words (Some f) follows plain names =
    form_said list before number line f first words follows plain names
    (form_stages list before number line f first words _ _ _ follows refl refl refl)

said_first : (list : Medl) (before : Before) (number : ℕ) (line : List ℕ) (first : Spot) (words : List Spot)
    (comment : Bool) → Follows before → is_comment (spot_text line first) ≡ comment
    → SaidOutcome list before number line (first ∷ words)
unfolding line_faults statements_after
said_first list before number line first words true follows is = inl (record {
  faults = rw is refl;
  errors = rw is refl;
  follows = rw is follows;
  states = rw is refl;
  named = rw is (sym (or-false before.named));
})
said_first list before number line first words false follows is =
    said_named list before number line first words (form_named (spot_text line first)) follows is refl

said_outcome : (list : Medl) (before : Before) (number : ℕ) (line : List ℕ) (words : List Spot) → Follows before
    → SaidOutcome list before number line words
unfolding line_faults statements_after
said_outcome list before number line [] follows = inl (record {
  faults = refl;
  errors = refl;
  follows = follows;
  states = refl;
  named = sym (or-false before.named);
})
said_outcome list before number line (first ∷ words) follows =
    said_first list before number line first words (is_comment (spot_text line first)) follows refl

-- A byte order mark.

not_text : (text name : List ℕ) (b : Bool) → is_text text name ≡ b → begins_with_mark name ≡ true
    → begins_with_mark text ≡ false → is_text text name ≡ false
not_text text name true is marked plain =
    let same : name ≡ text = (bytes_eq-Decides name text).0 is in
    let both_ways = sym marked ∙ (ap begins_with_mark same ∙ plain) in cc
not_text text name false is marked plain = is

marked_keyword : (name : List ℕ) → begins_with_mark name ≡ true → keyword_of name ≡ None
marked_keyword name marked =
    rw (
      not_text (codes "slots") name (is_text (codes "slots") name) refl marked refl,
      not_text (codes "on") name (is_text (codes "on") name) refl marked refl,
      not_text (codes "drift") name (is_text (codes "drift") name) refl marked refl,
      not_text (codes "send") name (is_text (codes "send") name) refl marked refl,
      not_text (codes "receive") name (is_text (codes "receive") name) refl marked refl,
      not_text (codes "flip") name (is_text (codes "flip") name) refl marked refl,
      not_text (codes "error") name (is_text (codes "error") name) refl marked refl,
      not_text (codes "jump") name (is_text (codes "jump") name) refl marked refl,
      not_text (codes "arm") name (is_text (codes "arm") name) refl marked refl,
      not_text (codes "write") name (is_text (codes "write") name) refl marked refl,
      not_text (codes "read") name (is_text (codes "read") name) refl marked refl,
    ) refl

and_first : (a b : Bool) → (a && b) ≡ true → a ≡ true
and_first true b h = refl
and_first false b h = cc

marked_word : (name : List ℕ) → begins_with_mark name ≡ true → is_comment name ≡ false
marked_word name marked =
    let first = and_first (slice_index name 0 == 239) ((slice_index name 1 == 187) && (slice_index name 2 == 191))
    marked in grind (arith, nat_tests, first)

and_second : (a b : Bool) → (a && b) ≡ true → b ≡ true
and_second true b h = h
and_second false b h = cc

-- a line whose first word begins with one
mark_outcome : (list : Medl) (before : Before) (number : ℕ) (line : List ℕ) (words : List Spot)
    → is_marked number line words ≡ true
    → (first_fault (line_faults list (stated before) (spot_texts line words)) ≡ Some faults.Word)
    × TellsFault number faults.Word (mark_errors number words)
unfolding line_faults
mark_outcome list before number line [] marked = cc
mark_outcome list before number line (first ∷ words) marked =
    let mark : begins_with_mark (spot_text line first) ≡ true = and_second (number == 1) _ marked in
    (rw (marked_word (spot_text line first) mark, marked_keyword (spot_text line first) mark) refl, inl (refl, refl))

-- Whole lines.

-- nothing is wrong with a line, and it is taken
pub record IsRight (list : Medl) (before : Before) (number : ℕ) (line : List ℕ) : Type 0 where
  pub faults : line_faults list (stated before) (words_of_line line) ≡ []
  pub errors : line_errors (Some list) before number line ≡ []
  pub follows : Follows (before_next (Some list) before number line)
  pub states : stated (before_next (Some list) before number line)
      ≡ statements_after (stated before) (words_of_line line)
  pub named : (before_next (Some list) before number line).named
      ≡ (before.named || says_something line (spots_of line))

abbrev pub LineOutcome : Medl → Before → ℕ → List ℕ → Type 0
LineOutcome list before number line = IsRight list before number line
    ⊎ ((fault : LineFault) × ((first_fault (line_faults list (stated before) (words_of_line line)) ≡ Some fault)
    × TellsFault number fault (line_errors (Some list) before number line)))

line_plain : (list : Medl) (before : Before) (number : ℕ) (line : List ℕ)
    → is_marked number line (spots_of line) ≡ false → SaidOutcome list before number line (spots_of line)
    → LineOutcome list before number line
unfolding line_errors before_next
line_plain list before number line off (inl right) =
    let is = texts_are_words line in
    inl (record {
      faults = ap (line_faults list (stated before)) (sym is) ∙ right.faults;
      errors = rw off right.errors;
      follows = rw off right.follows;
      states = rw off (right.states ∙ ap (statements_after (stated before)) is);
      named = rw off right.named;
    })
line_plain list before number line off (inr (fault, told)) =
    inr (
      fault,
      (
        ap (λ (ws : List (List ℕ)). first_fault (line_faults list (stated before) ws))
            (sym (texts_are_words line)) ∙ told.0,
        rw off told.1,
      ),
    )

line_stages : (list : Medl) (before : Before) (number : ℕ) (line : List ℕ) (marked : Bool) → Follows before
    → is_marked number line (spots_of line) ≡ marked → LineOutcome list before number line
unfolding line_errors
line_stages list before number line false follows is =
    line_plain list before number line is (said_outcome list before number line (spots_of line) follows)
line_stages list before number line true follows is =
    let told = mark_outcome list before number line (spots_of line) is in
    inr (
      faults.Word,
      (
        ap (λ (ws : List (List ℕ)). first_fault (line_faults list (stated before) ws))
            (sym (texts_are_words line)) ∙ told.0,
        rw is (tells_front number faults.Word (mark_errors number (spots_of line))
            (said_errors (Some list) before number line (behind_mark (spots_of line))) told.1),
      ),
    )

pub line_outcome : (list : Medl) (before : Before) (number : ℕ) (line : List ℕ) → Follows before
    → LineOutcome list before number line
line_outcome list before number line follows =
    line_stages list before number line (is_marked number line (spots_of line)) follows refl
