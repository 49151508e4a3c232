-- What an answer unfolds to compute a case on literals.
use Rattle.std.specs.Prelude.{⊤}
use Rattle.std.specs.Fmt.{digits}
use Rattle.ttp_base.specs.NodeSet.{with_node, members_in}

unfoldable pub on_literals : ⊤
unfolding digits with_node members_in
on_literals = tt
