-- Marked slots, one after another.
use Rattle.chart_text.proofs.Words.{◌≡◌, ◌≢◌, ℕ, ◌+◌, ◌-◌, ◌<◌, ◌≤◌, Bool, true, false, cond, ◌&&◌, List, [], ◌∷◌}
use Rattle.chart_text.proofs.Words.{◌++◌, length, get_or, take, drop, refl, sym, ap, ◌∙◌, arith, subst, replicate, ◌==◌}
use Rattle.chart_text.proofs.Words.{nat_le, nat_lt, filter, Some, None, list_any, eq-eqb, ne_eqb}
use Rattle.chart_text.proofs.Words.{get_or-replicate, length-replicate, get_or-set_other, nat_tests}
use Rattle.chart_text.proofs.Words.{below, Piece, as_count, Span, is_tried, is_asked, shown_before}
use Rattle.chart_text.proofs.Words.{has_mark, marked_slots}
use Rattle.std.proofs.Common.{zero, suc}
use Rattle.std.proofs.Common.{set, length-append, length-drop, inl, inr}
use Rattle.std.specs.Prelude.{position}
use Rattle.std.specs.List.{position_or_len}
use Rattle.std.proofs.Math.ListN.{get_or-eq_default, get_or-append}
use Rattle.std.proofs.Math.Seq.{get_or-append_seam, take-append_seam}
use Rattle.std.proofs.lemmas.Bool.{cases_lt, eqb-false, or_parts}
use Rattle.std.proofs.lemmas.List.{append-nil, take_all, drop_all, take-append-le, drop-append-le, get_or-set_same}
use Rattle.std.proofs.lemmas.List.Elements.{filter-append, All-filter}
use Rattle.std.proofs.lemmas.List.FromFn.{length-range_with_len, get_or-range_with_len}
use Rattle.std.proofs.lemmas.List.Sums.{position_or_len_is}
use Rattle.ttp_base.specs.NodeSet.{has_node}
use Rattle.ttp_base.proofs.Below.{below-next}
use Rattle.ttp_base.proofs.NodeSets.{has_node-filter, has_node-sieve, same_sieve, filter-filter}
use Rattle.chart_text.proofs.FromBelow.{found_at, found_nowhere}
use Rattle.chart_text.specs.Columns.{tried_slots, place_in}
use Rattle.ttp_world.proofs.ListFacts.{node-out as fails, one-more as passes, nodes-length as count-passes}

-- where nothing passes, nothing stands first
nowhere : {X : Type 0} (p : X → Bool) (xs : List X) → list_any p xs ≡ false → position_or_len p xs ≡ length xs
nowhere p [] none = refl
nowhere p (x ∷ xs) none =
    let parts = or_parts (p x) (list_any p xs) none in
    let here : p x ≡ false = parts.0 in
    let later = nowhere p xs parts.1 in
    rw here (omega (arith, later))

position-none : {X : Type 0} (p : X → Bool) (xs : List X) → list_any p xs ≡ false → position p xs ≡ None
position-none p xs none = found_nowhere p xs (nowhere p xs none)

-- a slot past all marks has none
pub past-marks : (marks : List Bool) (t : ℕ) → length marks ≤ t → has_mark marks t ≡ false
past-marks marks t past = get_or-eq_default marks false past

-- a slot that has a mark is within the marks
pub within-marks : (marks : List Bool) (t : ℕ) → has_mark marks t ≡ true → t < length marks
within-marks marks t is =
    elim (cases_lt t (length marks)) [
      | inl within ↦ within
      | inr past ↦ let none : false ≡ true = sym (past-marks marks t past) ∙ is in cc
    ]

-- a slot is one of those that are marked where it has a mark
pub marked-any : (marks : List Bool) (t : ℕ) → list_any (λ s. s == t) (marked_slots marks) ≡ has_mark marks t
marked-any marks t =
    elim (cases_lt t (length marks)) [
      | inl within ↦ has_node-sieve (has_mark marks) (length marks) t within
      | inr past ↦
          has_node-filter (has_mark marks) (below (length marks)) t
          ∙ ap (λ (b : Bool). b && has_node (below (length marks)) t) (past-marks marks t past)
          ∙ sym (past-marks marks t past)
    ]

-- the slots of pieces
pub tried-marks : (marks : List Bool) (slots : ℕ) (pieces : List Piece) → length marks ≡ slots
    → ((t : ℕ) → t < slots → has_mark marks t ≡ is_tried pieces t) → marked_slots marks ≡ tried_slots slots pieces
tried-marks marks slots pieces long each =
    ap (λ (n : ℕ). filter (has_mark marks) (below n)) long ∙ same_sieve (has_mark marks) (is_tried pieces) slots each

-- those that were asked for
pub asked-marks : (old new : List Bool) (asked : Span) → length new ≡ length old
    → ((t : ℕ) → t < length old → has_mark new t ≡ (has_mark old t && is_asked asked t))
    → marked_slots new ≡ filter (is_asked asked) (marked_slots old)
asked-marks old new asked same each =
    ap (λ (n : ℕ). filter (has_mark new) (below n)) same
    ∙ same_sieve (has_mark new) (λ t. has_mark old t && is_asked asked t) (length old) each
    ∙ sym (filter-filter (has_mark old) (is_asked asked) (below (length old)))

-- one number more, and how many they are
pub count-next : (p : ℕ → Bool) (n : ℕ) → length (filter p (below (n + 1)))
    ≡ length (filter p (below n)) + as_count (p n)
count-next p n = go (p n) refl
  where
    go : (b : Bool) → p n ≡ b → length (filter p (below (n + 1))) ≡ length (filter p (below n)) + as_count b
    go true is = count-passes p n is
    go false is = ap length (fails p n is)
        ∙ (let same : length (filter p (below n)) ≡ length (filter p (below n)) + 0 = omega arith in same)

-- Those of a list from a place on, where one more is behind it.

window-before : (first most x : ℕ) (xs : List ℕ) → length xs < first
    → take most (drop first (xs ++ x ∷ [])) ≡ take most (drop first xs)
window-before first most x xs early =
    ap (take most)
    (drop_all first (xs ++ x ∷ []) (omega (arith, length-append xs (x ∷ [])))
    ∙ sym (drop_all first xs (omega arith)))

window-within : (first most x : ℕ) (xs : List ℕ) → first ≤ length xs → length xs < first + most
    → take most (drop first (xs ++ x ∷ [])) ≡ take most (drop first xs) ++ x ∷ []
window-within first most x xs begun more =
    ap (take most) (drop-append-le first xs (x ∷ []) begun)
    ∙ take_all most (drop first xs ++ x ∷ [])
    (omega (arith, length-append (drop first xs) (x ∷ []), length-drop first xs))
    ∙ ap (λ (ys : List ℕ). ys ++ x ∷ []) (sym (take_all most (drop first xs) (omega (arith, length-drop first xs))))

window-behind : (first most x : ℕ) (xs : List ℕ) → first + most ≤ length xs
    → take most (drop first (xs ++ x ∷ [])) ≡ take most (drop first xs)
window-behind first most x xs over =
    ap (take most) (drop-append-le first xs (x ∷ []) (omega arith))
    ∙ take-append-le most (drop first xs) (x ∷ []) (omega (arith, length-drop first xs))

-- a test of the window, and whether the one more is in it
window-next : (first most x number : ℕ) (xs : List ℕ) (v : Bool) → number ≡ length xs
    → v ≡ (nat_le first number && nat_lt number (first + most))
    → take most (drop first (xs ++ x ∷ [])) ≡ take most (drop first xs) ++ cond v (x ∷ []) []
window-next first most x number xs v count is =
    elim (cases_lt number first) [
      | inl early ↦
          let out : v ≡ false = is ∙ grind (arith, nat_tests) in
          window-before first most x xs (omega arith) ∙ sym (append-nil (take most (drop first xs)))
          ∙ ap (λ (b : Bool). take most (drop first xs) ++ cond b (x ∷ []) []) (sym out)
      | inr begun ↦
          elim (cases_lt number (first + most)) [
            | inl more ↦
                let in_it : v ≡ true = is ∙ grind (arith, nat_tests) in
                window-within first most x xs (omega arith) (omega arith)
                ∙ ap (λ (b : Bool). take most (drop first xs) ++ cond b (x ∷ []) []) (sym in_it)
            | inr over ↦
                let out : v ≡ false = is ∙ grind (arith, nat_tests) in
                window-behind first most x xs (omega arith) ∙ sym (append-nil (take most (drop first xs)))
                ∙ ap (λ (b : Bool). take most (drop first xs) ++ cond b (x ∷ []) []) (sym out)
          ]
    ]

-- Of the marks below t those of a window were kept: one slot more.

kept-same : (marks : List Bool) (t : ℕ) (v : Bool)
    → filter (has_mark (set marks t v)) (below t) ≡ filter (has_mark marks) (below t)
kept-same marks t v =
    same_sieve (has_mark (set marks t v)) (has_mark marks) t
    (λ s less. let other : s ≢ t = omega arith in get_or-set_other marks t s v false other)

kept-one : (marks : List Bool) (t : ℕ) (v : Bool) → t < length marks
    → filter (has_mark (set marks t v)) (below (t + 1)) ≡ filter (has_mark marks) (below t) ++ cond v (t ∷ []) []
kept-one marks t true within =
    passes (has_mark (set marks t true)) t (get_or-set_same marks t true false within)
    ∙ ap (λ (ys : List ℕ). ys ++ t ∷ []) (kept-same marks t true)
kept-one marks t false within =
    fails (has_mark (set marks t false)) t (get_or-set_same marks t false false within) ∙ kept-same marks t false
    ∙ sym (append-nil (filter (has_mark marks) (below t)))

pub kept-next : (old marks : List Bool) (first most t number : ℕ) (is v : Bool) → t < length marks
    → has_mark old t ≡ is → number ≡ length (filter (has_mark old) (below t))
    → v ≡ (is && (nat_le first number && nat_lt number (first + most)))
    → filter (has_mark marks) (below t) ≡ take most (drop first (filter (has_mark old) (below t)))
    → filter (has_mark (set marks t v)) (below (t + 1)) ≡ take most (drop first (filter (has_mark old) (below (t + 1))))
kept-next old marks first most t number false v within has count stays kept =
    kept-one marks t v within ∙ ap (λ (b : Bool). filter (has_mark marks) (below t) ++ cond b (t ∷ []) []) stays
    ∙ append-nil (filter (has_mark marks) (below t)) ∙ kept
    ∙ ap (λ (ys : List ℕ). take most (drop first ys)) (sym (fails (has_mark old) t has))
kept-next old marks first most t number true v within has count stays kept =
    kept-one marks t v within ∙ ap (λ (ys : List ℕ). ys ++ cond v (t ∷ []) []) kept
    ∙ sym (window-next first most t number (filter (has_mark old) (below t)) v count stays)
    ∙ ap (λ (ys : List ℕ). take most (drop first ys)) (sym (passes (has_mark old) t has))

-- The number of a marked slot is how many are before it.

pub sieve-less : (p : ℕ → Bool) (n k : ℕ) → k < length (filter p (below n)) → get_or (filter p (below n)) k 0 < n
sieve-less p n k less =
    All-filter p (λ j. j < n) (below n)
    (λ j d within. let inside : j < n = omega (arith, within, length-range_with_len 0 n) in
    subst (λ i. i < n) (sym (get_or-range_with_len 0 n j d inside)) (omega arith)) k 0 less

-- of the numbers below more than n, those that pass: n does, and stands behind those before it
record Placed (p : ℕ → Bool) (n : ℕ) (passing : List ℕ) : Type 0 where
  within : length (filter p (below n)) < length passing
  at : get_or passing (length (filter p (below n))) 0 ≡ n
  before : (k : ℕ) → k < length (filter p (below n)) → get_or passing k 0 < n

placed-more : (p : ℕ → Bool) (n : ℕ) (xs ys : List ℕ) → Placed p n xs → Placed p n (xs ++ ys)
placed-more p n xs ys placed = record {
  within = omega (arith, placed.within, length-append xs ys);
  at = get_or-append xs ys 0 (length (filter p (below n))) placed.within ∙ placed.at;
  before = λ k less.
      subst (λ j. j < n) (sym (get_or-append xs ys 0 k (omega (arith, placed.within)))) (placed.before k less);
}

placed-first : (p : ℕ → Bool) (n : ℕ) → Placed p n (filter p (below n) ++ n ∷ [])
placed-first p n = record {
  within = omega (arith, length-append (filter p (below n)) (n ∷ []));
  at = get_or-append_seam (filter p (below n)) n [] 0;
  before = λ k less.
      subst (λ j. j < n) (sym (get_or-append (filter p (below n)) (n ∷ []) 0 k less)) (sieve-less p n k less);
}

placed : (p : ℕ → Bool) (n k : ℕ) → p n ≡ true → Placed p n (filter p (below (n + 1 + k)))
placed p n zero is =
    let same : n + 1 + 0 ≡ n + 1 = omega arith in
    subst (Placed p n) (sym (ap (λ (m : ℕ). filter p (below m)) same ∙ passes p n is)) (placed-first p n)
placed p n (suc k) is =
    let same : n + 1 + suc k ≡ (n + 1 + k) + 1 = omega arith in
    let m : ℕ = n + 1 + k in
    subst (Placed p n)
    (sym (ap (λ (j : ℕ). filter p (below j)) same ∙ ap (filter p) (below-next m) ∙ filter-append p (below m) (m ∷ [])))
    (placed-more p n (filter p (below m)) (filter p (m ∷ [])) (placed p n k is))

-- a marked slot has its place among all slots that a list of marks has
placed-mark : (marks : List Bool) (t : ℕ) → t < length marks → has_mark marks t ≡ true
    → Placed (has_mark marks) t (marked_slots marks)
placed-mark marks t within is =
    let all : t + 1 + (length marks - (t + 1)) ≡ length marks = omega arith in
    subst (λ (n : ℕ). Placed (has_mark marks) t (filter (has_mark marks) (below n))) all
    (placed (has_mark marks) t (length marks - (t + 1)) is)

pub marked-at : (marks : List Bool) (t : ℕ) → t < length marks → has_mark marks t ≡ true
    → get_or (marked_slots marks) (length (filter (has_mark marks) (below t))) 0 ≡ t
marked-at marks t within is = (placed-mark marks t within is).at

-- where a marked slot stands
pub place-marked : (marks : List Bool) (t : ℕ) → t < length marks → has_mark marks t ≡ true
    → place_in (marked_slots marks) t ≡ Some (length (filter (has_mark marks) (below t)))
place-marked marks t within is =
    let p = placed-mark marks t within is in
    found_at (λ s. s == t) (marked_slots marks) (length (filter (has_mark marks) (below t)))
    (position_or_len_is (λ s. s == t) (marked_slots marks) (length (filter (has_mark marks) (below t))) 0
    (omega (arith, p.within))
    (λ k less. ne_eqb (get_or (marked_slots marks) k 0) t
    (λ same. absurd (omega (arith, same, p.before k less))))
    (λ inside. eq-eqb (get_or (marked_slots marks) (length (filter (has_mark marks) (below t))) 0) t p.at))
    p.within

-- a slot without a mark has no place among the marked ones
pub place-unmarked : (marks : List Bool) (t : ℕ) → has_mark marks t ≡ false → place_in (marked_slots marks) t ≡ None
place-unmarked marks t none = position-none (λ s. s == t) (marked_slots marks) (marked-any marks t ∙ none)

-- one slot more was passed, which is not the one that is sought
pub low-next : (b : Bool) (passed number : ℕ) → (b && (passed == number)) ≡ false → passed ≤ number
    → passed + as_count b ≤ number
low-next false passed number not_it low = omega (arith, low)
low-next true passed number not_it low = omega (arith, low, eqb-false passed number not_it)

-- marks that were written over all others
pub written-over : (new old : List Bool) (n : ℕ) → n ≡ length new → take n (new ++ drop (length new) old) ≡ new
written-over new old n long =
    ap (λ (k : ℕ). take k (new ++ drop (length new) old)) long ∙ take-append_seam new (drop (length new) old)

-- no slot has a mark where there are none
pub none_marked : (n t : ℕ) → get_or (replicate n false) t false ≡ false
none_marked n t =
    elim (cases_lt t n) [
      | inl within ↦ get_or-replicate {A = Bool} n t false false within
      | inr past ↦ get_or-eq_default (replicate n false) false (omega (arith, length-replicate {A = Bool}, past))
    ]

-- how many marks there are with one slot more, which has one or none
pub count-marked : (marks : List Bool) (t n : ℕ) → has_mark marks t ≡ true
    → n ≡ length (filter (has_mark marks) (below t))
    → n + 1 ≡ length (filter (has_mark marks) (below (t + 1)))
count-marked marks t n is count = ap (λ (k : ℕ). k + 1) count ∙ sym (count-passes (has_mark marks) t is)

pub count-unmarked : (marks : List Bool) (t n : ℕ) → has_mark marks t ≡ false
    → n ≡ length (filter (has_mark marks) (below t))
    → n ≡ length (filter (has_mark marks) (below (t + 1)))
count-unmarked marks t n none count = count ∙ sym (ap length (fails (has_mark marks) t none))

-- the slot before the next column
pub shown_before-next : (shown : List ℕ) (n t : ℕ) → get_or shown n 0 ≡ t → Some t ≡ shown_before shown (n + 1)
shown_before-next shown n t at =
    let more : (n + 1 == 0) ≡ false = ne_eqb (n + 1) 0 (λ e. absurd (omega (arith, e))) in
    let back : n + 1 - 1 ≡ n = omega arith in
    ap (λ (s : ℕ). Some s) (sym at) ∙ ap (λ (k : ℕ). Some (get_or shown k 0)) (sym back)
    ∙ ap (λ (b : Bool). cond b None (Some (get_or shown (n + 1 - 1) 0))) (sym more)
