use Rattle.controller.proofs.Words.{◌++◌, ◌∙◌}
use Rattle.ttp_world.specs.ZerosWorld.{all_zeros}
use Rattle.controller.proofs.zeros_run.ZerosRun.new.Goals as goal

pub returns : goal.returns
returns c = λ script. record {
  same = c.in_ok-plant.ensures.list;
  plant = c.in_ok-plant.ensures.stands script;
  zeros = c.in_ok-push_zeros.ensures ∙ (λ i. c.new-zeros.ensures i ++ all_zeros c.args.list.now);
}
