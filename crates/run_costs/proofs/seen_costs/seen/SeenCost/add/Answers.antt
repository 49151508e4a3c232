use Rattle.std.proofs.Common.{◌∷◌, sym, ap, subst, ◌∙◌}
use Rattle.std.specs.Prelude.{filter}
use Rattle.ttp_base.specs.NodeSet.{below}
use Rattle.ttp_world.specs.Diary.{History}
use Rattle.campaign.specs.Cost.{newest_leave, is_hurt, hurt_nodes, span_after, split_span}
use Rattle.ttp_world.specs.ZerosWorld.{zeros_world}
use Rattle.run_costs.specs.States.{AreShown}
use Rattle.ttp_world.proofs.ZerosWorlds.{length-zeros_world}
use Rattle.run_costs.proofs.Rows.{next_row, zeros-next, correct-sound, left-next, hurt-next, split-next}
use Rattle.run_costs.proofs.seen_costs.seen.SeenCost.add.Goals as goal

pub returns-clause-seen : goal.returns-clause-seen
returns-clause-seen c =
    let list = c.args.list.now in
    let script = c.args.script.now in
    let slot = c.args.slot in
    let states = c.args.states.now in
    let seen = c.requires.seen in
    let history = zeros_world list script slot in
    let row = next_row list script slot in
    let long = length-zeros_world list script slot in
    let next = zeros-next list script slot in
    let shown : AreShown list script (row ∷ history) states =
    subst (λ (h : History). AreShown list script h states) next c.requires.shown in
    let sound =
    correct-sound list script slot c.step-faulty.result c.correct_in-correct.result c.requires.valid
    c.step-faulty.ensures.faulty c.correct_in-correct.ensures in
    let hurt_before = seen.hurt ∙ (λ i. filter (is_hurt list script history) (below (sym shown.count i))) in
    record {
      faulty = c.step-faulty.ensures.at;
      left = λ k node.
          left-next list script row history states slot c.args.self.now.left c.note_leaves.new.left long shown seen.left
          c.note_leaves.ensures k node
          ∙ ap (λ (h : History). newest_leave h k) (sym next);
      hurt =
          hurt-next list script row history states slot c.correct_in-correct.result c.hurt_with-self.result long shown
          sound (c.hurt_with-self.ensures (is_hurt list script history) hurt_before)
          ∙ ap (hurt_nodes list script) (sym next);
      split =
          c.span_after-self.ensures
          ∙ (λ i. span_after (sym long i)
          ((c.are_split.ensures ∙ split-next list script row history states slot
          c.correct_in-correct.result long shown sound)
          i) (seen.split i))
          ∙ ap (split_span list script) (sym next);
    }

pub returns-clause-correct : goal.returns-clause-correct
returns-clause-correct c =
    correct-sound c.args.list.now c.args.script.now c.args.slot c.step-faulty.result c.correct_in-correct.result
    c.requires.valid c.step-faulty.ensures.faulty c.correct_in-correct.ensures
