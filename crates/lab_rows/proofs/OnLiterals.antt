-- What an answer unfolds to compute a line of a campaign on literals.
use Rattle.std.specs.Prelude.{⊤}
use Rattle.std.specs.Fmt.{digits}
use Rattle.ttp_base.specs.NodeSet.{with_node, members_in}

unfoldable pub lines_on_literals : ⊤
unfolding digits with_node members_in
lines_on_literals = tt
