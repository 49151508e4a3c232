use Rattle.whole_trace.specs.Alike.{said_by}
use Rattle.whole_trace.proofs.Pieces.{value_fits}
use Rattle.whole_trace.proofs.Texts.{cut-front, text-some}
use Rattle.whole_trace.proofs.place.node_in_front.Goals as goal

pub note-requires : goal.note-requires
note-requires c = value_fits c.cut_line.result.0.now (said_by c.in_ok-node.node) c.in_ok-node.ensures

pub returns : goal.returns
returns c =
    let text = c.args.text.now in
    let line = c.cut_line.result.0.now in
    let rest = c.cut_line.result.1.now in
    let value = c.in_ok-node.ensures in record {
      line = line;
      cut =
          cut-front text line rest c.cut_line.ensures.first c.cut_line.ensures.others
          (text-some text line (said_by c.in_ok-node.node) c.cut_line.ensures.first value);
      value = value;
    }
