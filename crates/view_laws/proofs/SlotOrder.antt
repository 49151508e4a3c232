-- Faults in the order of their slots, slot by slot.
use Rattle.std.proofs.Common.{◌≡◌, ℕ, zero, suc, ◌+◌, ◌-◌, ◌<◌, ◌≤◌, Bool, true}
use Rattle.std.proofs.Common.{false, cond, not, ◌||◌, List, [], ◌∷◌, ◌++◌}
use Rattle.std.proofs.Common.{map, filter, length, take, drop, min, get_or, refl}
use Rattle.std.proofs.Common.{sym, ap, ◌∙◌, arith, inl, inr, Option, Some, None}
use Rattle.std.specs.Prelude.{◌==◌, nat_le}
use Rattle.std.specs.List.{AllByRecursion, list_any, flat_map, range_with_len}
use Rattle.std.proofs.lemmas.Bool.{cases_lt, cond_both, ne_eqb}
use Rattle.std.proofs.lemmas.List.{map-append}
use Rattle.std.proofs.lemmas.List.Elements.{filter-append}
use Rattle.std.proofs.lemmas.List.Folds.{flat_map-map}
use Rattle.std.proofs.lemmas.List.FromFn.{fill_by_all}
use Rattle.ttp_base.specs.NodeSet.{below}
use Rattle.ttp_base.specs.Text.{Lines}
use Rattle.whole_campaign.specs.Whole.{FaultTold}
use Rattle.picture_text.specs.declared.window.Span.{Span}
use Rattle.chart_text.specs.declared.size.Size.{Size}
use Rattle.chart_text.specs.Column.{is_plain, faults_told_in}
use Rattle.chart_text.specs.Columns.{is_hidden, most_columns, place_of_harm, is_asked, shown_among}
use Rattle.chart_text.specs.Looks.{fault_look}
use Rattle.view_laws.specs.Marks.{is_drawn, shown_among_slots}
use Rattle.view_laws.proofs.ChartDraws.{marks_of, marks_in}

-- Numbers in ascending order.

abbrev pub Ascend : List ℕ → Type 0
Ascend [] = Unit {0}
Ascend (t ∷ ts) = AllByRecursion (λ s. t < s) ts × Ascend ts

above-filter : (p : ℕ → Bool) (t : ℕ) (ts : List ℕ) → AllByRecursion (λ s. t < s) ts
    → AllByRecursion (λ s. t < s) (filter p ts)
above-filter p t [] are = tt
above-filter p t (s ∷ ts) are =
    let others = above-filter p t ts are.1 in
    cond_both (p s) (s ∷ filter p ts) (filter p ts) (AllByRecursion (λ r. t < r))
    (λ kept. (are.0, others)) (λ out. others)

ascend-filter : (p : ℕ → Bool) (ts : List ℕ) → Ascend ts → Ascend (filter p ts)
ascend-filter p [] are = tt
ascend-filter p (t ∷ ts) are =
    let others = ascend-filter p ts are.1 in
    cond_both (p t) (t ∷ filter p ts) (filter p ts) Ascend (λ kept. (above-filter p t ts are.0, others)) (λ out. others)

above-take : (n t : ℕ) (ts : List ℕ) → AllByRecursion (λ s. t < s) ts → AllByRecursion (λ s. t < s) (take n ts)
above-take zero t ts are = tt
above-take (suc n) t [] are = tt
above-take (suc n) t (s ∷ ts) are = (are.0, above-take n t ts are.1)

ascend-take : (n : ℕ) (ts : List ℕ) → Ascend ts → Ascend (take n ts)
ascend-take zero ts are = tt
ascend-take (suc n) [] are = tt
ascend-take (suc n) (t ∷ ts) are = (above-take n t ts are.0, ascend-take n ts are.1)

ascend-drop : (n : ℕ) (ts : List ℕ) → Ascend ts → Ascend (drop n ts)
ascend-drop zero ts are = are
ascend-drop (suc n) [] are = tt
ascend-drop (suc n) (t ∷ ts) are = ascend-drop n ts are.1

above-range : (t a n : ℕ) → t < a → AllByRecursion (λ s. t < s) (range_with_len a n)
above-range t a zero less = tt
above-range t a (suc n) less = (less, above-range t (a + 1) n (omega (arith, less)))

ascend-range : (a n : ℕ) → Ascend (range_with_len a n)
ascend-range a zero = tt
ascend-range a (suc n) = (above-range a (a + 1) n (omega arith), ascend-range (a + 1) n)

-- the slots that a chart shows
pub ascend-shown : (n : ℕ) (harm : Option ℕ) (asked : Option Span) (slots : List ℕ) → Ascend slots
    → Ascend (shown_among n harm asked slots)
ascend-shown n harm None slots are =
    let most = most_columns n in
    let rest = drop (min (place_of_harm slots harm - n) (length slots - most)) slots in
    cond_both (nat_le (length slots) most) slots (take most rest) Ascend (λ all. are)
    (λ some. ascend-take most rest (ascend-drop (min (place_of_harm slots harm - n) (length slots - most)) slots are))
ascend-shown n harm (Some asked) slots are = ascend-filter (is_asked asked) slots are

pub ascend-tried : (p : ℕ → Bool) (slots : ℕ) → Ascend (filter p (below slots))
ascend-tried p slots = ascend-filter p (below slots) (ascend-range 0 slots)

-- Faults in the order of their slots.

abbrev pub AreInSlotOrder : List FaultTold → Type 0
AreInSlotOrder [] = Unit {0}
AreInSlotOrder (fault ∷ faults) =
    AllByRecursion (λ other. fault.shown.slot ≤ other.shown.slot) faults × AreInSlotOrder faults

-- of these slots none is as early as that
not-among : (t slot : ℕ) (ts : List ℕ) → AllByRecursion (λ s. t < s) ts → slot ≤ t
    → list_any (λ s. s == slot) ts ≡ false
not-among t slot [] above within = refl
not-among t slot (s ∷ ts) above within =
    let other : (s == slot) ≡ false = ne_eqb s slot (λ same. omega (arith, same, above.0, within)) in
    rw other (not-among t slot ts above.1 within)

-- whether a fault is one of these slots
abbrev is_among : List ℕ → FaultTold → Bool
is_among ts fault = not (is_hidden ts fault.shown)

abbrev is_of : ℕ → FaultTold → Bool
is_of t fault = fault.shown.slot == t

double : (b : Bool) → not (not b) ≡ b
double true = refl
double false = refl

or-nothing : (a b : Bool) → b ≡ false → (a || b) ≡ a
or-nothing true b none = refl
or-nothing false b none = none

-- where all faults come later than a slot
none-of : (t : ℕ) (faults : List FaultTold)
    → AllByRecursion (λ fault. t < fault.shown.slot) faults → faults_told_in t faults ≡ []
none-of t [] later = refl
none-of t (fault ∷ faults) later =
    let other : (fault.shown.slot == t) ≡ false =
    ne_eqb fault.shown.slot t (λ same. omega (arith, same, later.0)) in
    rw other (none-of t faults later.1)

without-first : (t : ℕ) (ts : List ℕ) (faults : List FaultTold) → AllByRecursion (λ fault. t < fault.shown.slot) faults
    → shown_among_slots (t ∷ ts) faults ≡ shown_among_slots ts faults
without-first t ts [] later = refl
without-first t ts (fault ∷ faults) later =
    let other : (t == fault.shown.slot) ≡ false =
    ne_eqb t fault.shown.slot (λ same. omega (arith, same, later.0)) in
    let rest = without-first t ts faults later.1 in
    rw other (ap (λ (fs : List FaultTold). cond (is_among ts fault) (fault ∷ fs) fs) rest)

later-all : (t slot : ℕ) (faults : List FaultTold) → t < slot → AllByRecursion (λ other. slot ≤ other.shown.slot) faults
    → AllByRecursion (λ fault. t < fault.shown.slot) faults
later-all t slot [] less are = tt
later-all t slot (fault ∷ faults) less are = (omega (arith, less, are.0), later-all t slot faults less are.1)

fault-before : (b : Bool) (fault : FaultTold) (xs ys zs : List FaultTold) → xs ≡ ys ++ zs
    → cond b (fault ∷ xs) xs ≡ cond b (fault ∷ ys) ys ++ zs
fault-before true fault xs ys zs same = ap (λ (fs : List FaultTold). fault ∷ fs) same
fault-before false fault xs ys zs same = same

first-slot : (t : ℕ) (ts : List ℕ) (faults : List FaultTold) → AllByRecursion (λ s. t < s) ts → AreInSlotOrder faults
    → shown_among_slots (t ∷ ts) faults ≡ faults_told_in t faults ++ shown_among_slots ts faults
first-slot t ts [] above order = refl
first-slot t ts (fault ∷ faults) above order =
    elim (cases_lt t fault.shown.slot) [
      | inl less ↦
          let later : AllByRecursion (λ f. t < f.shown.slot) (fault ∷ faults) =
          (less, later-all t fault.shown.slot faults less order.0) in
          without-first t ts (fault ∷ faults) later
          ∙ ap (λ (fs : List FaultTold). fs ++ shown_among_slots ts (fault ∷ faults))
          (sym (none-of t (fault ∷ faults) later))
      | inr within ↦
          let slot = fault.shown.slot in
          let out : list_any (λ s. s == slot) ts ≡ false = not-among t slot ts above within in
          let turned : (t == slot) ≡ (slot == t) = grind arith in
          let here : is_among (t ∷ ts) fault ≡ is_of t fault =
          double ((t == slot) || list_any (λ s. s == slot) ts)
          ∙ or-nothing (t == slot) (list_any (λ s. s == slot) ts) out
          ∙ turned in
          let there : is_among ts fault ≡ false = double (list_any (λ s. s == slot) ts) ∙ out in
          let others = shown_among_slots (t ∷ ts) faults in
          let mine = faults_told_in t faults in
          let rest = shown_among_slots ts faults in
          ap (λ (b : Bool). cond b (fault ∷ others) others) here
          ∙ fault-before (is_of t fault) fault others mine rest (first-slot t ts faults above order.1)
          ∙ ap (λ (b : Bool). cond (is_of t fault) (fault ∷ mine) mine ++ cond b (fault ∷ rest) rest) (sym there)
    ]

-- The marks of slots, one slot after another, are those of the faults of these slots.

-- the lines of the faults that are drawn
abbrev pub texts_drawn : Size → List FaultTold → Lines
texts_drawn size faults = map (λ (fault : FaultTold). fault.text) (filter (is_drawn size) faults)

marks-if : (b : Bool) (fault : FaultTold) (lines : Lines) (faults : List FaultTold)
    → lines ≡ map (λ (f : FaultTold). f.text) faults
    → cond b [] (fault.text ∷ []) ++ lines ≡ map (λ (f : FaultTold). f.text) (cond (not b) (fault ∷ faults) faults)
marks-if true fault lines faults same = same
marks-if false fault lines faults same = ap (λ (ls : Lines). fault.text ∷ ls) same

marks-drawn : (size : Size) (faults : List FaultTold) → flat_map (marks_of size) faults ≡ texts_drawn size faults
marks-drawn size [] = refl
marks-drawn size (fault ∷ faults) =
    marks-if (is_plain (fault_look size fault.shown)) fault (flat_map (marks_of size) faults)
    (filter (is_drawn size) faults) (marks-drawn size faults)

drawn-append : (size : Size) (xs ys : List FaultTold)
    → texts_drawn size (xs ++ ys) ≡ texts_drawn size xs ++ texts_drawn size ys
drawn-append size xs ys =
    ap (map (λ (fault : FaultTold). fault.text)) (filter-append (is_drawn size) xs ys)
    ∙ map-append (λ (fault : FaultTold). fault.text) (filter (is_drawn size) xs) (filter (is_drawn size) ys)

none-shown : (faults : List FaultTold) → shown_among_slots [] faults ≡ []
none-shown [] = refl
none-shown (fault ∷ faults) = none-shown faults

slots-drawn : (size : Size) (ts : List ℕ) (faults : List FaultTold) → Ascend ts → AreInSlotOrder faults
    → flat_map (marks_in size faults) ts ≡ texts_drawn size (shown_among_slots ts faults)
slots-drawn size [] faults ascend order = sym (ap (texts_drawn size) (none-shown faults))
slots-drawn size (t ∷ ts) faults ascend order =
    (λ i. marks-drawn size (faults_told_in t faults) i ++ slots-drawn size ts faults ascend.1 order i)
    ∙ sym (drawn-append size (faults_told_in t faults) (shown_among_slots ts faults))
    ∙ sym (ap (texts_drawn size) (first-slot t ts faults ascend.0 order))

-- by the numbers of columns
pub columns-drawn : (size : Size) (shown : List ℕ) (faults : List FaultTold) → Ascend shown → AreInSlotOrder faults
    → flat_map (λ c. marks_in size faults (get_or shown c 0)) (below (length shown))
    ≡ texts_drawn size (shown_among_slots shown faults)
columns-drawn size shown faults ascend order =
    let at : ℕ → ℕ = λ c. get_or shown c 0 in
    sym (flat_map-map (marks_in size faults) at (below (length shown)))
    ∙ ap (flat_map (marks_in size faults)) (sym (fill_by_all at shown (length shown) 0 refl (λ k less. refl)))
    ∙ slots-drawn size shown faults ascend order
