-- Numbers and words of pairs.
use Rattle.std.specs.Prelude.{ℕ, List, [], ◌∷◌, map, take, drop}
use Rattle.std.specs.List.{flat_map}
use Rattle.nbw_ring.specs.declared.view.Message.{Message}

-- the numbers of the messages of pairs, in their order
abbrev pub pair_numbers : List Message → List ℕ
pair_numbers pairs = map (λ p. p.number) pairs

-- the words of the pairs, pair after pair
abbrev pub words_in : List Message → List ℕ
words_in pairs = flat_map (λ p. p.words) pairs

-- the pairs of these numbers, where each takes the next `width` words
abbrev pub pairs_of : List ℕ → List ℕ → ℕ → List Message
pairs_of [] words width = []
pairs_of (number ∷ numbers) words width =
    record { number = number; words = take width words } ∷ pairs_of numbers (drop width words) width
