use Rattle.std.proofs.Common.{◌<◌, ◌++◌, ◌∙◌, ℕ, ℤ, List, Option, w64, SFits, length}
use Rattle.std.proofs.Common.{ap, sym, subst, rules, arith, length-append}
use Rattle.std.proofs.lemmas.Int.{to_z-of_z}
use Rattle.std.specs.Fmt.{signed_decimal}
use Rattle.ttp_base.specs.Text.{newline}
use Rattle.line_reader.specs.declared.trace_line.NodeLine.{NodeLine}
use Rattle.whole_trace.proofs.FromBelow.{label-takes}
use Rattle.whole_trace.specs.Alike.{HasPieces, HavePieces, IsNodeFront}
use Rattle.whole_trace.proofs.Pieces.{alike-front, cut-whole}
use Rattle.whole_trace.proofs.alike.Alike.read.Goals as goal

pub returns : goal.returns
returns c =
    let inside = c.self.inside in
    let n = c.in_ok-newest.newest in
    let text = c.args.text.now in
    let k = c.in_ok-node.node in
    let a = c.in_ok-accepted.accepted in
    let z = c.in_ok-offset.offset in
    let r1 = c.in_ok-rest.rest.now in
    let r3 = c.in_ok-rest-2.rest.now in
    let r5 = c.in_ok-rest-3.rest.now in
    let has : HasPieces n inside.head inside.judged inside.behind =
    subst (λ (o : Option NodeLine). HavePieces o inside.head inside.judged inside.behind)
    c.in_ok-newest.was c.self.invariant in
    let e1 = label-takes c.bytes.result.now text r1 (sym c.in_ok-rest.ensures)
    ∙ ap (λ (l : List ℕ). l ++ r1) c.bytes.ensures in
    let e3 = label-takes c.bytes-2.result.now c.in_ok-node.rest.now r3 (sym c.in_ok-rest-2.ensures)
    ∙ ap (λ (l : List ℕ). l ++ r3) c.bytes-2.ensures in
    let e5 = label-takes c.bytes-3.result.now c.in_ok-accepted.rest.now r5 (sym c.in_ok-rest-3.ensures)
    ∙ ap (λ (l : List ℕ). l ++ r5) c.bytes-3.ensures in
    let few : k < 256 = omega (arith, c.in_ok-node.ensures.1) in
    let some : a < 256 = omega (arith, c.in_ok-accepted.ensures.1) in
    let last = c.cut_line.result.0.now in
    let rest = c.cut_line.result.1.now in
    let clock = c.in_ok-offset.ensures.0 in
    let e6 = cut-whole r5 last rest c.cut_line.ensures.first c.cut_line.ensures.others
    (omega (arith, ap length clock, length-append (signed_decimal z) newline)) in
    let fits : SFits w64 z = search rules in
    subst (λ (y : ℤ). IsNodeFront text (record {
      slot = n.slot;
      node = k;
      word = n.word;
      peer = n.peer;
      message = n.message;
      wide = n.wide;
      members = n.members;
      accepted = a;
      rejected = n.rejected;
      ack = n.ack;
      offset = y;
    }) rest) (sym (to_z-of_z w64 z fits))
    (alike-front n k a z inside.head inside.judged inside.behind text r1
    c.in_ok-node.rest.now r3 c.in_ok-accepted.rest.now r5
    last rest has few some c.in_ok-offset.ensures.1 e1 c.in_ok-node.ensures.0 e3 c.in_ok-accepted.ensures.0 e5 e6 clock)
