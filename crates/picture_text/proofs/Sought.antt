-- The first slot that is sought, and slots one after another.
use Rattle.picture_text.proofs.Words.{◌≡◌, ℕ, ◌+◌, ◌<◌, ◌≤◌, Bool, List, [], ◌∷◌, length, drop, get_or, Some, None}
use Rattle.picture_text.proofs.Words.{refl, sym, ap, ◌∙◌, arith, length-drop, ◌-◌, position, Option}
use Rattle.picture_text.proofs.Words.{position_or_len, SlotLines, no_slot_lines, is_strange, strange_past}
use Rattle.std.specs.Prelude.{option_map}
use Rattle.std.proofs.lemmas.Bool.{lt-ltb, le-ltb}
use Rattle.std.proofs.lemmas.Bool.Decides.{nat_tests}
use Rattle.std.proofs.lemmas.List.{drop-drop, get_or-drop}
use Rattle.std.proofs.lemmas.List.Quantifiers.{position-Some}
use Rattle.std.proofs.lemmas.List.Sums.{position_or_len_is, fails_before_first}

pub found_at : {X : Type 0} (p : X → Bool) (xs : List X) (n : ℕ) → position_or_len p xs ≡ n → n < length xs
    → position p xs ≡ Some n
found_at p xs n at inside = rw (at, lt-ltb n (length xs) inside) refl

pub found_nowhere : {X : Type 0} (p : X → Bool) (xs : List X) → position_or_len p xs ≡ length xs → position p xs ≡ None
found_nowhere p xs at = rw (le-ltb (position_or_len p xs) (length xs) (omega (arith, at))) refl

-- what comes next is at this place, and the rest behind it
pub at_place : {X : Type 0} (xs : List X) (t : ℕ) (d x : X) (rest : List X) → drop t xs ≡ x ∷ rest → get_or xs t d ≡ x
at_place {X} xs t d x rest e =
    ap (λ (n : ℕ). get_or xs n d) (let same : t ≡ t + 0 = omega arith in same) ∙ sym (get_or-drop t xs 0 d)
    ∙ ap (λ (ys : List X). get_or ys 0 d) e

pub next_place : {X : Type 0} (xs : List X) (t : ℕ) (x : X) (rest : List X) → drop t xs ≡ x ∷ rest
    → rest ≡ drop (t + 1) xs
next_place xs t x rest e = sym (ap (drop 1) e) ∙ drop-drop 1 t xs

-- something comes next before the end
pub not_all : {X : Type 0} (xs : List X) (t : ℕ) → drop t xs ≡ [] → length xs ≤ t
not_all xs t e = omega (arith, length-drop t xs, ap length e)

-- what is found lies within
pub found_within : {X : Type 0} (p : X → Bool) (xs : List X) (n : ℕ) (d : X) → Some n ≡ position p xs → n < length xs
found_within p xs n d e = (position-Some p xs n d (sym e)).0

-- the slots past one, where those before another one are behind
pub behind : (slots from : List SlotLines) (first last : ℕ) → first ≤ last → from ≡ drop first slots
    → drop (last + 1 - first) from ≡ drop (last + 1) slots
behind slots from first last order is =
    ap (drop (last + 1 - first)) is ∙ drop-drop (last + 1 - first) first slots
    ∙ ap (λ (n : ℕ). drop n slots) (let same : first + (last + 1 - first) ≡ last + 1 = omega arith in same)

pub past-found : (slots : List SlotLines) (last : ℕ) (o : Option ℕ) → o ≡ position is_strange (drop (last + 1) slots)
    → option_map (λ s. last + 1 + s) o ≡ strange_past last slots
past-found slots last o e = ap (option_map (λ s. last + 1 + s)) e

-- no slot past one is strange where no slot is

pub past-calm : (slots : List SlotLines) (last : ℕ) → position is_strange slots ≡ None → None ≡ strange_past last slots
past-calm slots last e =
    let later = drop (last + 1) slots in
    let all : length slots ≤ position_or_len is_strange slots = grind (arith, nat_tests) in
    let none : position_or_len is_strange later ≡ length later =
    position_or_len_is is_strange later (length later) no_slot_lines (omega arith)
    (λ k below. ap is_strange (get_or-drop (last + 1) slots k no_slot_lines)
    ∙ fails_before_first is_strange slots (last + 1 + k) no_slot_lines
    (omega (arith, all, below, length-drop (last + 1) slots)))
    (λ within. absurd (omega (arith, within))) in
    ap (option_map (λ s. last + 1 + s)) (sym (found_nowhere is_strange later none))
