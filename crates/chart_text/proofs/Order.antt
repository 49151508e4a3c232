-- Faults in their order, passed one after another.
use Rattle.chart_text.proofs.Words.{◌≡◌, ◌≢◌, ℕ, ◌+◌, ◌<◌, ◌≤◌, Bool, true, ◌&&◌, cond, List, [], ◌∷◌, length}
use Rattle.chart_text.proofs.Words.{refl, sym, ap, ◌∙◌, arith, subst, ◌==◌, nat_le, and_parts, eq-eqb, ne_eqb}
use Rattle.chart_text.proofs.Words.{length-filter, count_by-le-length, FaultTold, in_order_from}
use Rattle.chart_text.proofs.Words.{faults_told_in, SameFrom, longest_text}
use Rattle.std.proofs.lemmas.Bool.{le-leb, leb-true}
use Rattle.std.proofs.Common.{max}

-- an order from a slot on is one from an earlier slot on
pub order-earlier : (s t : ℕ) (xs : List FaultTold) → s ≤ t → in_order_from t xs ≡ true → in_order_from s xs ≡ true
order-earlier s t [] less order = refl
order-earlier s t (x ∷ xs) less order =
    let parts = and_parts (nat_le t x.shown.slot) (in_order_from x.shown.slot xs) order in
    let first = leb-true t x.shown.slot parts.0 in
    ap (λ (b : Bool). b && in_order_from x.shown.slot xs) (le-leb s x.shown.slot (omega arith)) ∙ parts.1

-- the first fault, and what is behind it
pub order-first : (t : ℕ) (x : FaultTold) (rest : List FaultTold) → in_order_from t (x ∷ rest) ≡ true
    → (t ≤ x.shown.slot) × (in_order_from x.shown.slot rest ≡ true)
order-first t x rest order =
    let parts = and_parts (nat_le t x.shown.slot) (in_order_from x.shown.slot rest) order in
    (leb-true t x.shown.slot parts.0, parts.1)

pub order-reached : (s t : ℕ) (x : FaultTold) (rest : List FaultTold) → in_order_from s (x ∷ rest) ≡ true
    → t ≤ x.shown.slot
    → in_order_from t (x ∷ rest) ≡ true
order-reached s t x rest order from =
    let parts = order-first s x rest order in
    ap (λ (b : Bool). b && in_order_from x.shown.slot rest) (le-leb t x.shown.slot from) ∙ parts.1

-- Faults of one slot.

-- a fault of another slot is none of this
pub other-slot : (s : ℕ) (x : FaultTold) (rest : List FaultTold) → x.shown.slot ≢ s
    → faults_told_in s (x ∷ rest) ≡ faults_told_in s rest
other-slot s x rest other =
    ap (λ (b : Bool). cond b (x ∷ faults_told_in s rest) (faults_told_in s rest)) (ne_eqb x.shown.slot s other)

pub same-slot : (s : ℕ) (x : FaultTold) (rest : List FaultTold) → x.shown.slot ≡ s
    → faults_told_in s (x ∷ rest) ≡ x ∷ faults_told_in s rest
same-slot s x rest same =
    ap (λ (b : Bool). cond b (x ∷ faults_told_in s rest) (faults_told_in s rest)) (eq-eqb x.shown.slot s same)

-- none is of a slot before the order begins
pub none-before : (s t : ℕ) (xs : List FaultTold) → s < t → in_order_from t xs ≡ true → faults_told_in s xs ≡ []
none-before s t [] less order = refl
none-before s t (x ∷ xs) less order =
    let parts = order-first t x xs order in
    let other : x.shown.slot ≢ s = omega (arith, parts.0, less) in
    other-slot s x xs other ∙ none-before s x.shown.slot xs (omega (arith, parts.0)) parts.1

-- none is of a slot that the first is not of, where the order begins at it
pub none-here : (s : ℕ) (x : FaultTold) (rest : List FaultTold) → in_order_from s (x ∷ rest) ≡ true
    → x.shown.slot ≢ s
    → faults_told_in s (x ∷ rest) ≡ []
none-here s x rest order other =
    let parts = order-first s x rest order in
    none-before s (s + 1) (x ∷ rest) (omega arith)
    (order-reached s (s + 1) x rest order (omega (arith, parts.0, other)))

-- Two lists that have the same faults in each slot from t on.

pub same-passed : (t : ℕ) (all : List FaultTold) (x : FaultTold) (rest : List FaultTold) → SameFrom t all (x ∷ rest)
    → x.shown.slot < t
    → SameFrom t all rest
same-passed t all x rest same less s from =
    let other : x.shown.slot ≢ s = omega (arith, less, from) in same s from ∙ other-slot s x rest other

pub same-later : (s t : ℕ) (xs ys : List FaultTold) → SameFrom s xs ys → s ≤ t → SameFrom t xs ys
same-later s t xs ys same less r from = same r (omega (arith, less, from))

pub same-then : (t : ℕ) (xs ys zs : List FaultTold) → SameFrom t xs ys → SameFrom t ys zs → SameFrom t xs zs
same-then t xs ys zs same again s from = same s from ∙ again s from

-- The first fault is passed: the others are left.

pub passed-few : (old new rest : List FaultTold) (x : FaultTold) → old ≡ x ∷ rest → new ≡ rest
    → (length new < length old) × (longest_text new ≤ longest_text old) × (length x.text ≤ longest_text old)
passed-few old new rest x is to =
    let long : length old ≡ length rest + 1 = ap length is ∙ omega arith in
    let widest : longest_text old ≡ max (length x.text) (longest_text rest) = ap longest_text is in
    (omega (arith, long, ap length to), omega (arith, widest, ap longest_text to), omega (arith, widest))

pub passed-order : (t : ℕ) (old new rest : List FaultTold) (x : FaultTold) → old ≡ x ∷ rest → new ≡ rest
    → in_order_from t old ≡ true
    → (t ≤ x.shown.slot) × (in_order_from x.shown.slot new ≡ true)
passed-order t old new rest x is to order =
    let parts = order-first t x rest (subst (λ (ys : List FaultTold). in_order_from t ys ≡ true) is order) in
    (parts.0, subst (λ (ys : List FaultTold). in_order_from x.shown.slot ys ≡ true) (sym to) parts.1)

pub passed-order_from : (s t : ℕ) (old new rest : List FaultTold) (x : FaultTold) → old ≡ x ∷ rest → new ≡ rest
    → in_order_from t old ≡ true → s ≤ x.shown.slot
    → in_order_from s new ≡ true
passed-order_from s t old new rest x is to order from =
    order-earlier s x.shown.slot new from (passed-order t old new rest x is to order).1

pub passed-same : (t : ℕ) (all old new rest : List FaultTold) (x : FaultTold) → old ≡ x ∷ rest → new ≡ rest
    → x.shown.slot < t → SameFrom t all old
    → SameFrom t all new
passed-same t all old new rest x is to less same =
    subst (SameFrom t all) (sym to) (same-passed t all x rest (subst (SameFrom t all) is same) less)

-- it is of this slot
pub passed-here : (t : ℕ) (old new rest : List FaultTold) (x : FaultTold) → old ≡ x ∷ rest → new ≡ rest
    → x.shown.slot ≡ t
    → faults_told_in t old ≡ x ∷ faults_told_in t new
passed-here t old new rest x is to here =
    ap (faults_told_in t) is ∙ same-slot t x rest here ∙ ap (λ (ys : List FaultTold). x ∷ faults_told_in t ys) (sym to)

-- none is left of a slot that the order passed
pub none-left : (s : ℕ) (old rest : List FaultTold) (x : FaultTold) → old ≡ x ∷ rest → in_order_from s old ≡ true
    → x.shown.slot ≢ s
    → faults_told_in s old ≡ []
none-left s old rest x is order other =
    ap (faults_told_in s) is
    ∙ none-here s x rest (subst (λ (ys : List FaultTold). in_order_from s ys ≡ true) is order) other

-- Those of one slot are no more than there are.
pub few-of-slot : (t : ℕ) (xs : List FaultTold) → length (faults_told_in t xs) ≤ length xs
few-of-slot t xs =
    omega (arith, length-filter (λ x. x.shown.slot == t) xs, count_by-le-length (λ x. x.shown.slot == t) xs)
