use Rattle.std.proofs.Common.{◌≡◌, [], ◌∷◌, get_or, sym, ◌∙◌, subst, arith}
use Rattle.std.proofs.lemmas.List.{take_all}
use Rattle.std.proofs.lemmas.Result.{err_from_is_err_and}
use Rattle.ttp_base.specs.Outside.{WroteLines, CutShort}
use Rattle.line_text.specs.LineParts.{listed_line}
use Rattle.trace_text.specs.ReportText.{node_texts}
use Rattle.trace_text.proofs.ReportTexts.{CutShort-next, WroteLines-next, get_or-node_texts, length-node_texts}
use Rattle.trace_text.proofs.slot.put_nodes.Goals as goal

pub returns-in_err-put_node_line-clause-failed : goal.returns-in_err-put_node_line-clause-failed
returns-in_err-put_node_line-clause-failed g c =
    let failed = err_from_is_err_and c.from_residual.result c.from_residual.ensures.1 in
    let list = c.args.list.now in
    let slot = c.args.slot in
    let nodes = c.args.nodes.now in
    let i = c.loop-node.node in
    let node = c.index-nodes-node.result in
    let line = listed_line list slot i node.state node.message in
    let is : get_or (node_texts list slot 0 nodes) i line ≡ line =
    get_or-node_texts list slot 0 nodes i i node line c.loop-node-test.true (omega arith)
    (sym c.index-nodes-node.is) in
    rw failed.1
    (CutShort-next (g.K.Sink.output c.args.out.now) (g.K.Sink.output c.loop-node.out)
    (g.K.Sink.output c.put_node_line.new.out) (node_texts list slot 0 nodes) i line
    (omega (arith, length-node_texts list slot 0 nodes, c.loop-node-test.true)) is c.loop-node.invariant.1
    (subst (λ s. CutShort (g.K.Sink.output c.loop-node.out) (g.K.Sink.output c.put_node_line.new.out)
    (listed_line list s i node.state node.message ∷ [])) c.loop-node.invariant.0 c.in_err-put_node_line.ensures.failed))

pub loop-node-preserved : goal.loop-node-preserved
loop-node-preserved g c =
    let list = c.args.list.now in
    let slot = c.args.slot in
    let nodes = c.args.nodes.now in
    let i = c.loop-node.node in
    let node = c.index-nodes-node.result in
    let line = listed_line list slot i node.state node.message in
    let is : get_or (node_texts list slot 0 nodes) i line ≡ line =
    get_or-node_texts list slot 0 nodes i i node line c.loop-node-test.true (omega arith)
    (sym c.index-nodes-node.is) in (
      c.in_ok-put_node_line.ensures.slot ∙ c.loop-node.invariant.0,
      WroteLines-next (g.K.Sink.output c.args.out.now) (g.K.Sink.output c.loop-node.out)
          (g.K.Sink.output c.put_node_line.new.out) (node_texts list slot 0 nodes) i line
          (omega (arith, length-node_texts list slot 0 nodes, c.loop-node-test.true)) is c.loop-node.invariant.1
          (subst (λ s. WroteLines (g.K.Sink.output c.loop-node.out) (g.K.Sink.output c.put_node_line.new.out)
          (listed_line list s i node.state node.message ∷ [])) c.loop-node.invariant.0
          c.in_ok-put_node_line.ensures.ok),
    )

pub returns-clause-ok : goal.returns-clause-ok
returns-clause-ok g c =
    let texts = node_texts c.args.list.now c.args.slot 0 c.args.nodes.now in
    subst (WroteLines (g.K.Sink.output c.args.out.now) (g.K.Sink.output c.loop-node.out))
    (take_all c.loop-node.node texts
    (omega (arith, length-node_texts c.args.list.now c.args.slot 0 c.args.nodes.now, c.loop-node-test.false)))
    c.loop-node.invariant.1
