-- Words that are added one after another, with commas between them.
use Rattle.std.specs.Prelude.{ℕ, zero, suc, List, [], filter, codes}
use Rattle.ttp_base.specs.NodeSet.{most_nodes, below, has_node}

-- what stands before the word of this place
abbrev pub comma_before : ℕ → List ℕ
comma_before zero = []
comma_before (suc place) = codes ","

-- what stands for so many words where they are none
abbrev pub dash_for : ℕ → List ℕ
dash_for zero = codes "-"
dash_for (suc count) = []

-- the nodes of a set in ascending order, each once
abbrev pub in_order : List ℕ → List ℕ
in_order nodes = filter (has_node nodes) (below most_nodes)
