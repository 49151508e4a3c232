-- Sets of node numbers. A set is the list of its members in ascending order.
use Rattle.std.specs.Prelude.{ℕ, ◌^◌, Bool, not, ◌||◌, ◌==◌, List, filter, sum_by}
use Rattle.std.specs.List.{list_any, range_with_len}
use Rattle.std.specs.Int.{bit_at}

-- a set has members below this number
abbrev pub most_nodes : ℕ
most_nodes = 24

-- the numbers below a number
abbrev pub below : ℕ → List ℕ
below n = range_with_len 0 n

-- a node is a member
abbrev pub has_node : List ℕ → ℕ → Bool
has_node members k = list_any (λ j. j == k) members

-- the set with a node put in, and with a node taken out
unfoldable pub with_node : List ℕ → ℕ → List ℕ
with_node members k = filter (λ j. (j == k) || has_node members j) (below most_nodes)

abbrev pub without_node : List ℕ → ℕ → List ℕ
without_node members k = filter (λ j. not (j == k)) members

-- the number whose bit k, the least significant first, stands for node k
abbrev pub set_bits : List ℕ → ℕ
set_bits members = sum_by (λ k. 2 ^ k) members

-- the set that such a number stands for
unfoldable pub members_in : ℕ → List ℕ
members_in bits = filter (λ k. bit_at bits k == 1) (below most_nodes)
