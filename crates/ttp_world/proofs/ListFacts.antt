-- Lists: what stands where, and how long they are.
use Rattle.ttp_world.proofs.Words.{◌≡◌, ℕ, ◌-◌, ◌<◌, List, length, set, Some, ap, ◌∙◌, arith, ◌+◌, [], ◌∷◌, ◌++◌, Bool}
use Rattle.ttp_world.proofs.Words.{false, cond, true, length-append, zero, suc, get_or, refl, subst, ◌≤◌, Option, None}
use Rattle.ttp_world.proofs.Words.{ℤ, ◌*◌, drop, same_Some, none-some, AllByRecursion, cons_option, filter, IfSome}
use Rattle.ttp_world.proofs.Words.{below, word_hex}
use Rattle.std.proofs.Common.{append-nil, drop-cons}
use Rattle.std.proofs.lemmas.List.{length-set, get_or-set_same}
use Rattle.std.proofs.lemmas.List.Elements.{filter-append}
use Rattle.std.proofs.lemmas.Option.{slice_get-get_or}
use Rattle.std.specs.List.{filter_map, flat_map}
use Rattle.std.specs.Prelude.{slice_get}
use Rattle.ttp_base.proofs.Below.{below-next}
use Rattle.ttp_base.proofs.Room.{length-hex}

pub slice_get-set_same : {X : Type 0} (xs : List X) (i : ℕ) (y : X) → i < length xs → slice_get (set xs i y) i ≡ Some y
slice_get-set_same xs i y within =
    slice_get-get_or (set xs i y) i y (omega (arith, length-set xs i y)) ∙ ap Some (get_or-set_same xs i y y within)

pub node-out : (p : ℕ → Bool) (n : ℕ) → p n ≡ false → filter p (below (n + 1)) ≡ filter p (below n)
node-out p n out =
    ap (filter p) (below-next n) ∙ filter-append p (below n) (n ∷ [])
    ∙ ap (λ (b : Bool). filter p (below n) ++ cond b (n ∷ []) []) out ∙ append-nil (filter p (below n))

pub one-more : (p : ℕ → Bool) (n : ℕ) → p n ≡ true → filter p (below (n + 1)) ≡ filter p (below n) ++ n ∷ []
one-more p n is =
    ap (filter p) (below-next n) ∙ filter-append p (below n) (n ∷ [])
    ∙ ap (λ (b : Bool). filter p (below n) ++ cond b (n ∷ []) []) is

pub nodes-length : (p : ℕ → Bool) (n : ℕ) → p n ≡ true
    → length (filter p (below (n + 1))) ≡ length (filter p (below n)) + 1
nodes-length p n is = ap length (one-more p n is) ∙ length-append (filter p (below n)) (n ∷ [])

-- a place that is there is there whatever is told for others
pub at_any : {A : Type 0} (xs : List A) (k : ℕ) (d e : A) → k < length xs → get_or xs k d ≡ get_or xs k e
at_any [] k d e within = absurd (omega arith)
at_any (x ∷ xs) zero d e within = refl
at_any (x ∷ xs) (suc k) d e within = at_any xs k d e (omega arith)

pub all_there : {X : Type 0} (P : X → Type 0) (xs : List X) (k : ℕ) (x : X) → AllByRecursion P xs
    → slice_get xs k ≡ Some x → P x
all_there P [] k x all here = absurd (none-some x here)
all_there P (y ∷ ys) zero x all here = subst P (same_Some _ _ here) all.0
all_there P (y ∷ ys) (suc k) x all here = all_there P ys k x all.1 here

pub cons_option-length : {Y : Type 0} (o : Option Y) (ys : List Y) (n : ℕ) → length ys ≤ n
    → length (cons_option o ys) ≤ suc n
cons_option-length None ys n few = omega (arith, few)
cons_option-length (Some y) ys n few = omega (arith, few)

pub filter_map-few : {X Y : Type 0} (h : X → Option Y) (xs : List X) → length (filter_map h xs) ≤ length xs
filter_map-few h [] = omega arith
filter_map-few h (x ∷ xs) = cons_option-length (h x) (filter_map h xs) (length xs) (filter_map-few h xs)

-- what is noted where a verdict is correct
pub IfSome-cond : (P : ℤ → Type 0) (b : Bool) (z : ℤ) → (b ≡ true → P z) → IfSome (cond b (Some z) None) P
IfSome-cond P true z holds = holds refl
IfSome-cond P false z holds = tt

pub few-left : (p : ℕ → Bool) (xs : List ℕ) → length (filter p xs) ≤ length xs
few-left p [] = omega arith
few-left p (x ∷ xs) = left-step x (length xs) (filter p xs) (p x) (few-left p xs)
  where
    left-step : (x m : ℕ) (ys : List ℕ) (b : Bool) → length ys ≤ m → length (cond b (x ∷ ys) ys) ≤ suc m
    left-step x m ys true fits = omega arith
    left-step x m ys false fits = omega arith

-- the next two digits of what is left
pub next_pair : (word : List ℕ) (i : ℕ) → 2 * i + 1 < length word
    → drop (2 * i) word ≡ get_or word (2 * i) 0 ∷ get_or word (2 * i + 1) 0 ∷ drop (2 * (i + 1)) word
next_pair word i within =
    let more : suc (suc (2 * i)) ≡ 2 * (i + 1) = omega arith in
    let one : suc (2 * i) ≡ 2 * i + 1 = omega arith in
    drop-cons word (2 * i) 0 (omega arith)
    ∙ ap (λ (l : List ℕ). get_or word (2 * i) 0 ∷ l) (drop-cons word (suc (2 * i)) 0 (omega arith)
    ∙ ap (λ (n : ℕ). get_or word n 0 ∷ drop (suc (suc (2 * i))) word) one
    ∙ ap (λ (n : ℕ). get_or word (2 * i + 1) 0 ∷ drop n word) more)

pub length-word_hexes : (words : List ℕ) → length (flat_map word_hex words) ≡ 16 * length words
length-word_hexes [] = refl
length-word_hexes (word ∷ words) =
    omega (arith, length-append (word_hex word) (flat_map word_hex words), length-hex 16 word, length-word_hexes words)

pub nothing_in : (ns : List ℕ) → length ns ≡ 0 → ns ≡ []
nothing_in [] none = refl
nothing_in (n ∷ ns) none = absurd (omega (arith, none))
