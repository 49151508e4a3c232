use Rattle.std.proofs.Common.{◌≡◌, ◌∙◌, ◌<◌, [], length, get_or, ap, subst, sym, arith}
use Rattle.std.specs.Prelude.{pos, nat_le}
use Rattle.std.proofs.lemmas.Result.{err_from_is_err_and}
use Rattle.ttp_base.specs.Outside.{CutShort, WroteLines}
use Rattle.ttp_base.specs.Text.{Lines, lines_below}
use Rattle.ttp_base.proofs.Outputs.{CutShort-below, WroteLines-below}
use Rattle.bus_frames.specs.Standing.{frames_there, lines_of_node}
use Rattle.bus_frames.proofs.Lists.{lines-by-nodes}
use Rattle.bus_frames.proofs.Offsets.{signed-same}
use Rattle.bus_frames.proofs.put.put_channel.Goals as goal

pub put_node-requires-clause-past : goal.put_node-requires-clause-past
put_node-requires-clause-past g c =
    let p = c.requires.past in
    let inside : c.loop-node.node < length c.args.list.now.slots = omega arith in
    let many = c.requires.count in
    let at = c.from-k.ensures in
    record {
      chosen = p.chosen;
      offsets = c.args.offsets.now;
      some = p.some;
      offset_is = signed-same _
          (let close = c.requires.near c.from-k.result (omega (arith, at, inside, many)) in omega (arith, close))
          ∙ ap (λ j. get_or c.args.offsets.now j (pos 0)) at;
      meets_is = ap (nat_le 2)
          (c.count_on-meets.ensures p.chosen c.args.offsets.now p.some.row p.some.before p.some.stands);
    }

pub loop-node-preserved : goal.loop-node-preserved
loop-node-preserved g c chosen row before stands =
    let list = c.args.list.now in
    let script = c.args.script.now in
    let i = c.loop-node.node in
    let there = frames_there list script row before c.args.channel in
    let inside : i < length list.slots = omega arith in
    let many = c.requires.count in
    let at = c.from-k.ensures in
    WroteLines-below _ _ _ [] (lines_of_node list script row before c.args.channel there) i
    (c.loop-node.invariant chosen row before stands)
    (c.in_ok-put_node.ensures.ok chosen c.args.offsets.now row before stands
    (signed-same _ (let close =
    c.requires.near c.from-k.result (omega (arith, at, inside, many)) in omega (arith, close))
    ∙ ap (λ j. get_or c.args.offsets.now j (pos 0)) at)
    (ap (nat_le 2) (c.count_on-meets.ensures chosen c.args.offsets.now row before stands)))

pub returns-in_err-put_node-clause-failed : goal.returns-in_err-put_node-clause-failed
returns-in_err-put_node-clause-failed g c chosen row before stands =
    let failed = err_from_is_err_and c.from_residual.result c.from_residual.ensures.1 in
    let list = c.args.list.now in
    let script = c.args.script.now in
    let i = c.loop-node.node in
    let there = frames_there list script row before c.args.channel in
    let inside : i < length list.slots = omega arith in
    let many = c.requires.count in
    let at = c.from-k.ensures in
    rw failed.1 (subst (λ (ls : Lines).
    CutShort (g.K.Sink.output c.args.out.now) (g.K.Sink.output c.put_node.new.out) ls)
    (sym (lines-by-nodes list script row before c.args.channel))
    (CutShort-below _ _ _ [] (lines_of_node list script row before c.args.channel there) i (length list.slots) inside
    (c.loop-node.invariant chosen row before stands)
    (c.in_err-put_node.ensures.failed chosen c.args.offsets.now row before stands
    (signed-same _ (let close =
    c.requires.near c.from-k.result (omega (arith, at, inside, many)) in omega (arith, close))
    ∙ ap (λ j. get_or c.args.offsets.now j (pos 0)) at)
    (ap (nat_le 2) (c.count_on-meets.ensures chosen c.args.offsets.now row before stands)))))

pub returns-clause-ok : goal.returns-clause-ok
returns-clause-ok g c chosen row before stands =
    let list = c.args.list.now in
    let script = c.args.script.now in
    let there = frames_there list script row before c.args.channel in
    let all : c.loop-node.node ≡ length list.slots = omega arith in
    subst (λ (ls : Lines). WroteLines (g.K.Sink.output c.args.out.now) (g.K.Sink.output c.loop-node.out) ls)
    (ap (lines_below (lines_of_node list script row before c.args.channel there)) all
    ∙ sym (lines-by-nodes list script row before c.args.channel))
    (c.loop-node.invariant chosen row before stands)
