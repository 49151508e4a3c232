-- The front of a list.
use Rattle.ttp_world.proofs.Words.{◌≡◌, ℕ, List, ◌++◌, length, take, ap, sym, ◌∙◌}
use Rattle.std.proofs.Math.Seq.{take-append_seam}

-- all of a list that stands in front
pub front : {X : Type 0} (n : ℕ) (xs rest : List X) → length xs ≡ n → take n (xs ++ rest) ≡ xs
front n xs rest all = ap (λ k. take k (xs ++ rest)) (sym all) ∙ take-append_seam xs rest
