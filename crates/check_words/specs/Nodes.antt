-- Nodes of a set, as a line tells them.
use Rattle.std.specs.Prelude.{ℕ, List, [], ◌∷◌, ◌++◌, codes, if◌then◌else◌}
use Rattle.std.specs.Fmt.{decimal}
use Rattle.ttp_base.specs.NodeSet.{most_nodes, below, has_node}

-- those of these numbers that are members, each behind a comma
abbrev pub more_nodes : List ℕ → List ℕ → List ℕ
more_nodes members [] = []
more_nodes members (k ∷ ks) =
    if has_node members k then codes ", " ++ decimal k ++ more_nodes members ks else more_nodes members ks

-- those of these numbers that are members, with commas between them
abbrev pub nodes_among : List ℕ → List ℕ → List ℕ
nodes_among members [] = codes "none"
nodes_among members (k ∷ ks) =
    if has_node members k then decimal k ++ more_nodes members ks else nodes_among members ks

-- the members in their order
unfoldable pub nodes_text : List ℕ → List ℕ
nodes_text members = nodes_among members (below most_nodes)
