-- Who hears nothing is told by any set that has the same nodes.
use Rattle.std.proofs.Common.{◌≡◌, ℕ, ◌<◌, not, ◌&&◌, List, ap}
use Rattle.ttp_base.specs.NodeSet.{most_nodes}
use Rattle.ttp_world.specs.declared.script.Channel.TheVariants as channel
use Rattle.ttp_world.specs.declared.script.Script.{Script}
use Rattle.ttp_world.specs.Returning.{is_deaf, is_deaf_on}
use Rattle.ttp_world.specs.Script.{is_on}
use Rattle.hypothesis.specs.Standing.{HaveSameNodes}

pub same-deaf : (script : Script) (s t : List ℕ) (slot k : ℕ) → HaveSameNodes s t → k < most_nodes
    → is_deaf script s slot k ≡ is_deaf script t slot k
same-deaf script s t slot k same small =
    ap (λ b. (is_on script k slot && not b)
    && (is_deaf_on script k slot channel.A && is_deaf_on script k slot channel.B))
    (same k small)
