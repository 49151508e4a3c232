use Rattle.std.proofs.Common.{List, ℕ, ◌≡◌, ◌++◌, subst}
use Rattle.std.specs.Prelude.{map, OnOk}
use Rattle.std.specs.Fmt.{decimal}
use Rattle.campaign.specs.CostText.{listed}
use Rattle.pair_text.proofs.words.put_third.Goals as goal

pub returns : goal.returns
returns c =
    subst (λ (nodes : List ℕ).
    OnOk c.put_nodes.result (c.put_nodes.new.text ≡ c.args.text.now ++ listed (map decimal nodes)))
    c.requires c.put_nodes.ensures
