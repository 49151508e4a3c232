-- The worst faults, as a list of what is told.
use Rattle.chart_text.proofs.Words.{◌≡◌, ◌∙◌, ℕ, ◌+◌, ◌<◌, Bool, true, false, not, List}
use Rattle.chart_text.proofs.Words.{[], ◌∷◌, ◌++◌, length, get_or, map, take, drop}
use Rattle.chart_text.proofs.Words.{sym, ap, subst, arith, cond, told_of, FaultTold}
use Rattle.std.proofs.Common.{zero, suc, add-one}
use Rattle.std.specs.Prelude.{insert}
use Rattle.std.specs.List.{position_or_len}
use Rattle.std.proofs.lemmas.List.{take-map, drop-map, map-append, length-map}
use Rattle.whole_campaign.specs.declared.shown.FaultLine.{FaultLine}

-- the fault of a number, and those behind it
told-next : (lines : List FaultLine) (n : ℕ) (x : FaultLine) → n < length lines → x ≡ get_or lines n x
    → drop n (map told_of lines) ≡ told_of x ∷ drop (suc n) (map told_of lines)
told-next [] n x less is = absurd (omega (arith, less))
told-next (y ∷ lines) zero x less is = ap (λ (z : FaultLine). told_of z ∷ map told_of lines) (sym is)
told-next (y ∷ lines) (suc n) x less is = told-next lines n x (omega (arith, less)) is

pub told-at : (lines : List FaultLine) (n : ℕ) (x : FaultLine) → n < length lines → x ≡ get_or lines n x
    → drop n (map told_of lines) ≡ told_of x ∷ drop (n + 1) (map told_of lines)
told-at lines n x less is = rw add-one (told-next lines n x less is)

-- Where the lines tell a list of faults, the list's next fault is the next line's.
pub told-view : (lines : List FaultLine) (view : List FaultTold) (n : ℕ) (x : FaultLine) → map told_of lines ≡ view
    → n < length lines → x ≡ get_or lines n x → drop n view ≡ told_of x ∷ drop (n + 1) view
told-view lines view n x same less is =
    subst (λ (ys : List FaultTold). drop n ys ≡ told_of x ∷ drop (n + 1) ys) same (told-at lines n x less is)

pub length-view : (lines : List FaultLine) (view : List FaultTold)
    → map told_of lines ≡ view → length view ≡ length lines
length-view lines view same = sym (ap length same) ∙ length-map lines told_of

-- one more that is not the first of its kind
pub place-next : (p : FaultTold → Bool) (n all : ℕ) (x : FaultTold) (left rest : List FaultTold) → left ≡ x ∷ rest
    → p x ≡ false → n + position_or_len p left ≡ all → n + 1 + position_or_len p rest ≡ all
place-next p n all x left rest is none known =
    let next : position_or_len p left ≡ 1 + position_or_len p rest =
    ap (position_or_len p) is ∙ ap (λ (b : Bool). cond (not b) (1 + position_or_len p rest) 0) none in
    omega (arith, next, known)

pub place-here : (p : FaultTold → Bool) (n all : ℕ) (x : FaultTold) (left rest : List FaultTold) → left ≡ x ∷ rest
    → p x ≡ true → n + position_or_len p left ≡ all → n ≡ all
place-here p n all x left rest is here known =
    let none : position_or_len p left ≡ 0 =
    ap (position_or_len p) is ∙ ap (λ (b : Bool). cond (not b) (1 + position_or_len p rest) 0) here in
    omega (arith, none, known)

-- a line that was put among others, of which the first ones stay
pub told-inserted : (lines after : List FaultLine) (n most : ℕ) (x : FaultLine) → after ≡ take most (insert lines n x)
    → map told_of after ≡ take most (insert (map told_of lines) n (told_of x))
told-inserted lines after n most x is =
    ap (map told_of) is ∙ sym (take-map told_of most (insert lines n x))
    ∙ ap (take most)
    (map-append told_of (take n lines) (x ∷ drop n lines)
    ∙ (λ i. sym (take-map told_of n lines) i ++ told_of x ∷ sym (drop-map told_of n lines) i))
