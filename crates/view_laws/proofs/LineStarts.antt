-- Which lines begin with a slot and a node: those of that slot and that node.
use Rattle.std.proofs.Common.{◌≡◌, ◌≢◌, ℕ, ◌<◌, ◌^◌, Bool, true, false, ◌&&◌, ◌||◌, List}
use Rattle.std.proofs.Common.{[], ◌∷◌, ◌++◌, refl, sym, ap, ◌∙◌, arith, codes, decimal}
use Rattle.std.specs.Prelude.{◌==◌}
use Rattle.std.proofs.lemmas.Bool.{and_left, eq-eqb, ne_eqb, or_parts, or_from, eqb-true}
use Rattle.std.proofs.lemmas.Fmt.{decimal_injective}
use Rattle.ttp_base.proofs.Gathered.{gathered}
use Rattle.ttp_base.proofs.Numerals.{has, has-decimal}
use Rattle.view_laws.specs.Titles.{begins_with, is_of_slot, node_start}

-- Texts that begin alike.

pub begins-same : (x w z : List ℕ) → begins_with (x ++ w) (x ++ z) ≡ begins_with w z
begins-same [] w z = refl
begins-same (b ∷ x) w z = rw (eq-eqb b b refl) (begins-same x w z)

-- two words that differ, with a space behind each
begins-differ : (x y w z : List ℕ) → has 32 x ≡ false → has 32 y ≡ false → x ≢ y
    → begins_with (x ++ 32 ∷ w) (y ++ 32 ∷ z) ≡ false
begins-differ [] [] w z p q ne = absurd (ne refl)
begins-differ [] (c ∷ y) w z p q ne =
    and_left (32 == c) (begins_with w (y ++ 32 ∷ z))
    (ne_eqb 32 c (λ same. absurd (no c same (or_parts (c == 32) (has 32 y) q).0)))
  where
    no : (d : ℕ) → 32 ≡ d → (d == 32) ≡ false → ⊥
    no d same none = grind (arith, same, none)
begins-differ (b ∷ x) [] w z p q ne =
    and_left (b == 32) (begins_with (x ++ 32 ∷ w) z) (or_parts (b == 32) (has 32 x) p).0
begins-differ (b ∷ x) (c ∷ y) w z p q ne = go (b == c) refl (begins-differ x y w z
    (or_parts (b == 32) (has 32 x) p).1 (or_parts (c == 32) (has 32 y) q).1)
  where
    go : (same : Bool) → (b == c) ≡ same → (x ≢ y → begins_with (x ++ 32 ∷ w) (y ++ 32 ∷ z) ≡ false)
        → (same && begins_with (x ++ 32 ∷ w) (y ++ 32 ∷ z)) ≡ false
    go false is others = refl
    go true is others = others (λ e. ne (λ i. eqb-true b c is i ∷ e i))

numbers-differ : (m n : ℕ) (w z : List ℕ) → m < 2 ^ 64 → n < 2 ^ 64 → n ≢ m
    → begins_with (decimal m ++ 32 ∷ w) (decimal n ++ 32 ∷ z) ≡ false
numbers-differ m n w z few less ne =
    begins-differ (decimal m) (decimal n) w z (has-decimal 32 m (omega arith)) (has-decimal 32 n (omega arith))
    (λ e. ne (decimal_injective n m less few (sym e)))

-- Lines of a slot.

-- a line of another slot
pub of-other : (t s : ℕ) (rest : List ℕ) → t < 2 ^ 64 → s < 2 ^ 64 → s ≢ t
    → is_of_slot t (codes "slot " ++ (decimal s ++ 32 ∷ rest)) ≡ false
of-other t s rest few less ne =
    or_from (begins_with (codes "slot " ++ decimal t ++ codes " node ") (codes "slot " ++ (decimal s ++ 32 ∷ rest)))
    (begins_with (codes "slot " ++ decimal t ++ codes " host ") (codes "slot " ++ (decimal s ++ 32 ∷ rest)))
    (numbers-differ t s (codes "node ") rest few less ne) (numbers-differ t s (codes "host ") rest few less ne)

-- one of this slot, by what stands behind its number
pub of-own : (t : ℕ) (rest : List ℕ)
    → is_of_slot t (codes "slot " ++ (decimal t ++ rest))
    ≡ (begins_with (codes " node ") rest || begins_with (codes " host ") rest)
of-own t rest = λ i. begins-same (decimal t) (codes " node ") rest i || begins-same (decimal t) (codes " host ") rest i

-- what a node's line begins with, cut from the front
node_start-is : (t k : ℕ) → node_start t k ≡ codes "slot "
    ++ (decimal t ++ (codes " node " ++ (decimal k ++ codes " ")))
node_start-is t k = gathered [] (codes "slot " ∷ decimal t ∷ codes " node " ∷ decimal k ∷ codes " " ∷ [])

pub start-other : (t k s : ℕ) (rest : List ℕ) → t < 2 ^ 64 → s < 2 ^ 64 → s ≢ t
    → begins_with (node_start t k) (codes "slot " ++ (decimal s ++ 32 ∷ rest)) ≡ false
start-other t k s rest few less ne =
    ap (λ (start : List ℕ). begins_with start (codes "slot " ++ (decimal s ++ 32 ∷ rest))) (node_start-is t k)
    ∙ numbers-differ t s (codes "node " ++ (decimal k ++ codes " ")) rest few less ne

pub start-own : (t k : ℕ) (rest : List ℕ)
    → begins_with (node_start t k) (codes "slot " ++ (decimal t ++ rest))
    ≡ begins_with (codes " node " ++ (decimal k ++ codes " ")) rest
start-own t k rest =
    ap (λ (start : List ℕ). begins_with start (codes "slot " ++ (decimal t ++ rest))) (node_start-is t k)
    ∙ begins-same (decimal t) (codes " node " ++ (decimal k ++ codes " ")) rest

-- the line of this node, and that of another
pub start-node : (t k : ℕ) (rest : List ℕ)
    → begins_with (node_start t k) (codes "slot " ++ (decimal t ++ (codes " node " ++ (decimal k ++ 32 ∷ rest)))) ≡ true
start-node t k rest =
    start-own t k (codes " node " ++ (decimal k ++ 32 ∷ rest)) ∙ begins-same (decimal k) (codes " ") (32 ∷ rest)

pub start-neighbour : (t k j : ℕ) (rest : List ℕ) → k < 2 ^ 64 → j < 2 ^ 64 → j ≢ k
    → begins_with (node_start t k)
    (codes "slot " ++ (decimal t ++ (codes " node " ++ (decimal j ++ 32 ∷ rest)))) ≡ false
start-neighbour t k j rest few less ne =
    start-own t k (codes " node " ++ (decimal j ++ 32 ∷ rest)) ∙ numbers-differ k j [] rest few less ne
