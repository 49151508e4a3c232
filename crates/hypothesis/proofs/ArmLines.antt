-- What is asked of an arm line, told by any set that has the same nodes.
use Rattle.hypothesis.proofs.Words.{◌≡◌, ℕ, ◌<◌, not, ◌&&◌, List, ap, most_nodes, Script, is_deaf, is_on, HaveSameNodes}
use Rattle.ttp_world.specs.declared.script.Channel.TheVariants as channel
use Rattle.ttp_world.specs.Returning.{is_deaf_on}

pub deaf-same : (script : Script) (s t : List ℕ) (slot k : ℕ) → k < most_nodes → HaveSameNodes s t
    → is_deaf script s slot k ≡ is_deaf script t slot k
deaf-same script s t slot k small same =
    ap (λ b. (is_on script k slot && not b)
    && (is_deaf_on script k slot channel.A && is_deaf_on script k slot channel.B)) (same k small)
