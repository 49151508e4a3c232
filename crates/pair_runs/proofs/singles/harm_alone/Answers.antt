use Rattle.std.proofs.Common.{◌∙◌, ap}
use Rattle.ttp_world.specs.declared.script.Script.{Script}
use Rattle.campaign.specs.Lines.{summary}
use Rattle.fault_pairs.specs.Classes.{harm_of}
use Rattle.pair_runs.proofs.Harms.{cost-ordered}
use Rattle.pair_runs.proofs.singles.harm_alone.Goals as goal

pub harm_of-requires : goal.harm_of-requires
harm_of-requires c = cost-ordered c.args.list.now c.in_ok-more.more
    c.in_ok-cost.cost c.requires.valid c.in_ok-cost.ensures

pub returns : goal.returns
returns c =
    c.harm_of.ensures
    ∙ ap harm_of (c.in_ok-cost.ensures ∙ ap (λ (s : Script). (summary c.args.list.now s).cost) c.in_ok-more.ensures)
