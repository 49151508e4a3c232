use Rattle.std.proofs.Common.{◌≡◌, ◌∙◌, ◌<◌, ℕ, List, [], ◌∷◌, length, map, get_or, ap, subst, arith}
use Rattle.std.proofs.lemmas.Result.{err_from_is_err_and}
use Rattle.ttp_base.specs.NodeSet.{below}
use Rattle.ttp_base.specs.Outside.{WroteLines, CutShort}
use Rattle.ttp_base.proofs.Outputs.{CutShort-each, WroteLines-each}
use Rattle.mode_change.specs.ModeText.{mode_line_of}
use Rattle.mode_change.proofs.Nodes.{line-known}
use Rattle.mode_change.proofs.put.put_nodes.Goals as goal

pub loop-node-preserved : goal.loop-node-preserved
loop-node-preserved g c script row history slot known =
    let list = c.args.list.now in
    let nodes = c.args.nodes.now in
    let i = c.loop-node.node in
    let node = c.index-nodes-from.result in
    let is = c.bytes.ensures ∙ c.make_line.ensures
    ∙ line-known nodes list script row history c.args.slot i node known slot (omega arith)
    (c.index-nodes-from.is ∙ ap (λ j. get_or nodes j node) c.from.ensures) in
    WroteLines-each _ _ _ [] (mode_line_of list script row history) i
    (c.loop-node.invariant script row history slot known)
    (subst (λ (line : List ℕ). WroteLines (g.K.Sink.output c.loop-node.out) (g.K.Sink.output c.write.new.self)
    (line ∷ [])) is c.in_ok-write.ensures.ok)

pub returns-in_err-write-clause-failed : goal.returns-in_err-write-clause-failed
returns-in_err-write-clause-failed g c script row history slot known =
    let failed = err_from_is_err_and c.from_residual.result c.from_residual.ensures.1 in
    let list = c.args.list.now in
    let nodes = c.args.nodes.now in
    let i = c.loop-node.node in
    let node = c.index-nodes-from.result in
    let less : i < length list.slots = omega arith in
    let is = c.bytes.ensures ∙ c.make_line.ensures
    ∙ line-known nodes list script row history c.args.slot i node known slot less
    (c.index-nodes-from.is ∙ ap (λ j. get_or nodes j node) c.from.ensures) in
    rw failed.1 (CutShort-each _ _ _ [] (mode_line_of list script row history) i (length list.slots) less
    (c.loop-node.invariant script row history slot known)
    (subst (λ (line : List ℕ). CutShort (g.K.Sink.output c.loop-node.out) (g.K.Sink.output c.write.new.self)
    (line ∷ [])) is c.in_err-write.ensures.failed))

pub returns-clause-ok : goal.returns-clause-ok
returns-clause-ok g c script row history slot known =
    let list = c.args.list.now in
    let all : c.loop-node.node ≡ length list.slots = omega arith in
    subst (λ n. WroteLines (g.K.Sink.output c.args.out.now) (g.K.Sink.output c.loop-node.out)
    (map (mode_line_of list script row history) (below n))) all (c.loop-node.invariant script row history slot known)
