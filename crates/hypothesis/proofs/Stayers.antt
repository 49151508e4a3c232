-- Faulty nodes that stay so.
use Rattle.hypothesis.proofs.Words.{◌≡◌, ℕ, Bool, true, false, cond, List, [], ◌∷◌, refl, ap, FaultyNode, numbers_of}
use Rattle.std.specs.List.{filter}

numbers-step : (b : Bool) (f : FaultyNode) (kept : List FaultyNode) (ks : List ℕ) → numbers_of kept ≡ ks
    → numbers_of (cond b (f ∷ kept) kept) ≡ cond b (f.node ∷ ks) ks
numbers-step true f kept ks is = ap (λ rest. f.node ∷ rest) is
numbers-step false f kept ks is = is

-- the numbers of those that pass are the numbers that do
pub numbers-filter : (p : ℕ → Bool) (faulty : List FaultyNode)
    → numbers_of (filter (λ (f : FaultyNode). p f.node) faulty) ≡ filter p (numbers_of faulty)
numbers-filter p [] = refl
numbers-filter p (f ∷ faulty) =
    numbers-step (p f.node) f (filter (λ (g : FaultyNode). p g.node) faulty) (filter p (numbers_of faulty))
    (numbers-filter p faulty)
