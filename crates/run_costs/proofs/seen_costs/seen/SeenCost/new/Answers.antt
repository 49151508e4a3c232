use Rattle.std.proofs.Common.{Option, None, refl, length, [], sym, ◌∙◌, arith}
use Rattle.std.proofs.lemmas.List.{get_or-replicate}
use Rattle.campaign.specs.declared.cost.Leave.{Leave}
use Rattle.ttp_world.proofs.Lists.{nodes-most}
use Rattle.ttp_base.proofs.NodeLists.{filter-none}
use Rattle.campaign.specs.Cost.{is_hurt}
use Rattle.run_costs.proofs.seen_costs.seen.SeenCost.new.Goals as goal

pub returns : goal.returns
returns c =
    let list = c.args.list.now in
    let none : Option Leave = None in
    record {
      faulty = c.new.ensures;
      left = λ k node.
          get_or-replicate 24 k none none (omega (arith, nodes-most list c.requires.valid, node));
      hurt = c.empty.ensures ∙ sym
          (filter-none (is_hurt list c.args.script.now []) 0 (length list.slots) (λ j past. refl));
      split = refl;
    }
