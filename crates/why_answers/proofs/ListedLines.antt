-- Lines of a script in the order of its file.
use Rattle.std.proofs.Common.{◌≡◌, ℕ, ◌<◌, ◌==◌, ◌||◌, Bool, true, false, List}
use Rattle.std.proofs.Common.{[], ◌∷◌, ap, sym, subst, ◌∙◌, refl, arith, map}
use Rattle.std.proofs.lemmas.Bool.{false≢true, true≢false}
use Rattle.std.proofs.lemmas.Bool.Decides.{nat_tests}
use Rattle.std.proofs.lemmas.List.Folds.{list_any-append}
use Rattle.std.specs.List.{AllByRecursion, list_any}
use Rattle.std.specs.Prelude.{flat_map, nat_lt}
use Rattle.causes.specs.WhyText.{in_file_order, insert_line, number_of_line}
use Rattle.causes.specs.declared.cause.LineNumbers.{LineNumbers}
use Rattle.causes.specs.declared.cause.ScriptLine.{ScriptLine}
use Rattle.causes.specs.declared.cause.Told.{Told}
use Rattle.why_answers.specs.Stories.{AreRising, has_line_number}

-- by whether it goes before a line, or is that one
placed : LineNumbers → ScriptLine → ScriptLine → List ScriptLine → Bool → Bool → List ScriptLine
placed numbers l other others before same =
    elim before as (λ b. List ScriptLine) [
      | true ↦ l ∷ other ∷ others
      | false ↦ elim same as (λ b. List ScriptLine) [
        | true ↦ other ∷ others
        | false ↦ other ∷ insert_line numbers l others
      ]
    ]

inserted : (numbers : LineNumbers) (l other : ScriptLine) (others : List ScriptLine)
    → insert_line numbers l (other ∷ others)
    ≡ placed numbers l other others (nat_lt (number_of_line numbers l) (number_of_line numbers other))
    (number_of_line numbers l == number_of_line numbers other)
unfolding placed
inserted numbers l other others = refl

swap-or : (a b c : Bool) → a || (b || c) ≡ b || (a || c)
swap-or true true c = refl
swap-or true false c = refl
swap-or false true c = refl
swap-or false false c = refl

same-or : (a b c : Bool) → a ≡ b → b || c ≡ a || (b || c)
same-or true true c is = refl
same-or false false c is = refl
same-or true false c is = absurd (true≢false is)
same-or false true c is = absurd (false≢true is)

-- Numbers.

same-number : (a b n : ℕ) → (a == b) ≡ true → (a == n) ≡ (b == n)
same-number a b n same = let is : a ≡ b = grind (arith, nat_tests) in ap (λ (m : ℕ). m == n) is

placed-has : (numbers : LineNumbers) (n : ℕ) (l other : ScriptLine) (others : List ScriptLine) (before same : Bool)
    → (number_of_line numbers l == number_of_line numbers other) ≡ same
    → has_line_number numbers n (insert_line numbers l others) ≡ has_line_number numbers n (l ∷ others)
    → has_line_number numbers n (placed numbers l other others before same)
    ≡ has_line_number numbers n (l ∷ other ∷ others)
unfolding placed
placed-has numbers n l other others true same is more = refl
placed-has numbers n l other others false true is more =
    same-or (number_of_line numbers l == n) (number_of_line numbers other == n) (has_line_number numbers n others)
    (same-number (number_of_line numbers l) (number_of_line numbers other) n is)
placed-has numbers n l other others false false is more =
    ap (λ (b : Bool). (number_of_line numbers other == n) || b) more
    ∙ swap-or (number_of_line numbers other == n) (number_of_line numbers l == n) (has_line_number numbers n others)

insert-has : (numbers : LineNumbers) (n : ℕ) (l : ScriptLine) (lines : List ScriptLine)
    → has_line_number numbers n (insert_line numbers l lines) ≡ has_line_number numbers n (l ∷ lines)
insert-has numbers n l [] = refl
insert-has numbers n l (other ∷ others) =
    ap (has_line_number numbers n) (inserted numbers l other others)
    ∙ placed-has numbers n l other others (nat_lt (number_of_line numbers l) (number_of_line numbers other))
    (number_of_line numbers l == number_of_line numbers other) refl (insert-has numbers n l others)

pub order-has : (numbers : LineNumbers) (n : ℕ) (lines : List ScriptLine)
    → has_line_number numbers n (in_file_order numbers lines) ≡ has_line_number numbers n lines
order-has numbers n [] = refl
order-has numbers n (l ∷ lines) =
    insert-has numbers n l (in_file_order numbers lines)
    ∙ ap (λ (b : Bool). (number_of_line numbers l == n) || b) (order-has numbers n lines)

-- of all that entries name
pub told-has : (numbers : LineNumbers) (n : ℕ) (told : List Told)
    → has_line_number numbers n (flat_map (λ t. t.cause.lines) told)
    ≡ list_any (λ t. has_line_number numbers n t.cause.lines) told
told-has numbers n [] = refl
told-has numbers n (t ∷ older) =
    list_any-append (λ l. number_of_line numbers l == n) t.cause.lines (flat_map (λ t. t.cause.lines) older)
    ∙ ap (λ (b : Bool). has_line_number numbers n t.cause.lines || b) (told-has numbers n older)

-- Order.

abbrev pub Over : LineNumbers → ℕ → List ScriptLine → Type 0
Over numbers n lines = AllByRecursion (λ m. n < m) (map (number_of_line numbers) lines)

abbrev pub Rise : LineNumbers → List ScriptLine → Type 0
Rise numbers lines = AreRising (map (number_of_line numbers) lines)

over-less : (numbers : LineNumbers) (a b : ℕ) (lines : List ScriptLine) → a < b
    → Over numbers b lines → Over numbers a lines
over-less numbers a b [] less all = tt
over-less numbers a b (l ∷ lines) less all = (omega (arith, less, all.0), over-less numbers a b lines less all.1)

placed-over : (numbers : LineNumbers) (n : ℕ) (l other : ScriptLine) (others : List ScriptLine) (before same : Bool)
    → n < number_of_line numbers l → Over numbers n (other ∷ others) → Over numbers n (insert_line numbers l others)
    → Over numbers n (placed numbers l other others before same)
unfolding placed
placed-over numbers n l other others true same less all more = (less, all)
placed-over numbers n l other others false true less all more = all
placed-over numbers n l other others false false less all more = (all.0, more)

insert-over : (numbers : LineNumbers) (n : ℕ) (l : ScriptLine) (lines : List ScriptLine) → n < number_of_line numbers l
    → Over numbers n lines → Over numbers n (insert_line numbers l lines)
insert-over numbers n l [] less all = (less, tt)
insert-over numbers n l (other ∷ others) less all =
    subst (Over numbers n) (sym (inserted numbers l other others))
    (placed-over numbers n l other others (nat_lt (number_of_line numbers l) (number_of_line numbers other))
    (number_of_line numbers l == number_of_line numbers other) less all (insert-over numbers n l others less all.1))

placed-rise : (numbers : LineNumbers) (l other : ScriptLine) (others : List ScriptLine) (before same : Bool)
    → nat_lt (number_of_line numbers l) (number_of_line numbers other) ≡ before
    → (number_of_line numbers l == number_of_line numbers other) ≡ same
    → Rise numbers (other ∷ others) → Rise numbers (insert_line numbers l others)
    → Rise numbers (placed numbers l other others before same)
unfolding placed
placed-rise numbers l other others true same is is_same all more =
    let less : number_of_line numbers l < number_of_line numbers other = grind (arith, nat_tests) in
    ((less, over-less numbers (number_of_line numbers l) (number_of_line numbers other) others less all.0), all)
placed-rise numbers l other others false true is is_same all more = all
placed-rise numbers l other others false false is is_same all more =
    let greater : number_of_line numbers other < number_of_line numbers l = grind (arith, nat_tests) in
    (insert-over numbers (number_of_line numbers other) l others greater all.0, more)

insert-rise : (numbers : LineNumbers) (l : ScriptLine) (lines : List ScriptLine) → Rise numbers lines
    → Rise numbers (insert_line numbers l lines)
insert-rise numbers l [] all = (tt, tt)
insert-rise numbers l (other ∷ others) all =
    subst (Rise numbers) (sym (inserted numbers l other others))
    (placed-rise numbers l other others (nat_lt (number_of_line numbers l) (number_of_line numbers other))
    (number_of_line numbers l == number_of_line numbers other) refl refl all (insert-rise numbers l others all.1))

pub order-rise : (numbers : LineNumbers) (lines : List ScriptLine) → Rise numbers (in_file_order numbers lines)
order-rise numbers [] = tt
order-rise numbers (l ∷ lines) = insert-rise numbers l (in_file_order numbers lines) (order-rise numbers lines)
