use Rattle.std.proofs.Common.{take, sym, ap, ◌∙◌, ◌++◌, List}
use Rattle.std.proofs.lemmas.List.{append-nil}
use Rattle.ttp_base.specs.Text.{lines_of}
use Rattle.whole_trace.specs.declared.shown.NodeShown.{NodeShown}
use Rattle.whole_trace.specs.Whole.{with_shown_node, slots_from}
use Rattle.whole_trace.proofs.NodeSteps.{hosts-follow, nodes-ended, same-slot}
use Rattle.whole_trace.proofs.slots.shown_from.Goals as goal

pub returns : goal.returns
returns c =
    let at = c.loop-at.at in
    let lines = lines_of at.rest.now in
    let known = c.loop-at.invariant in
    let so_far = take c.loop-at.count c.loop-at.nodes in
    let none = nodes-ended at.due c.loop-at.count lines c.in_default.not-Node known.place in record {
      slot =
          same-slot _ (with_shown_node c.args.first (slots_from (lines_of c.args.from.rest.now)).front)
          (sym (known.nodes ∙ ap (λ (l : List NodeShown). so_far ++ l) none ∙ append-nil so_far))
          (sym known.hosts);
      others = sym known.others;
      place = hosts-follow at.due c.loop-at.count lines c.in_default.not-Node known.place;
    }
