use Rattle.std.proofs.Common.{◌++◌, List, ℕ, ap, ◌∙◌}
use Rattle.campaign.specs.CostText.{cost_words}
use Rattle.pair_runs.proofs.FromBelow.{cost-ordered}
use Rattle.pair_runs.proofs.put.words_of.Goals as goal

pub put_cost-requires-clause-hurt : goal.put_cost-requires-clause-hurt
put_cost-requires-clause-hurt c =
    cost-ordered c.args.list.now c.requires.cost.0 c.args.cost.now c.requires.valid c.requires.cost.1

pub returns : goal.returns
returns c =
    c.in_ok-put_cost.ensures
    ∙ ap (λ (old : List ℕ). old ++ cost_words c.args.list.now c.args.cost.now) c.new-words.ensures
