use Rattle.std.proofs.Common.{ap, subst, sym, ◌∙◌, ℕ}
use Rattle.ttp_world.specs.declared.script.Script.{Script}
use Rattle.ttp_world.specs.Script.{IsValidScript}
use Rattle.campaign.specs.Lines.{summary}
use Rattle.run_costs.specs.Standing.{IsSeenAfter}
use Rattle.pair_runs.proofs.FromBelow.{front-none}
use Rattle.fault_pairs.specs.Classes.{harm_of}
use Rattle.pair_runs.proofs.Harms.{cost-ordered}
use Rattle.pair_runs.proofs.put.put_group.Goals as goal

pub cost_from-requires-clause-past : goal.cost_from-requires-clause-past
cost_from-requires-clause-past g c =
    let before = c.requires.before in
    subst (λ (n : ℕ). IsSeenAfter c.args.before.now c.args.common.now.list.now c.args.common.now.script.now n)
    (sym before.count) before

pub harm_of-requires : goal.harm_of-requires
harm_of-requires g c =
    cost-ordered c.args.common.now.list.now c.in-Ok.more c.in-Ok-cost_from.cost c.requires.may.valid
    c.in-Ok-cost_from.ensures.cost

pub put_course-requires-clause-may : goal.put_course-requires-clause-may
put_course-requires-clause-may g c κs within =
    let list = c.args.common.now.list.now in
    record {
      may = c.requires.may;
      slot = c.requires.slot;
      one = c.requires.one;
      behind = c.requires.behind;
      more = c.in-Ok.ensures;
      valid = subst (λ (s : Script). IsValidScript list s) (sym c.in-Ok.ensures) c.more_is_valid.ensures.valid;
      first = c.harm_of.ensures
          ∙ ap harm_of (c.in-Ok-cost_from.ensures.cost ∙ ap (λ (s : Script). (summary list s).cost) c.in-Ok.ensures);
    }

pub returns-in_default-clause-err : goal.returns-in_default-clause-err
returns-in_default-clause-err g c = front-none (g.K.Sink.output c.args.out.now) _

pub returns-in_default-cost_from-clause-err : goal.returns-in_default-cost_from-clause-err
returns-in_default-cost_from-clause-err g c = front-none (g.K.Sink.output c.args.out.now) _

pub put_course-requires-clause-work : goal.put_course-requires-clause-work
put_course-requires-clause-work g c κs within = record { run = c.cost_from.ensures.run; past = c.requires.work.past }
