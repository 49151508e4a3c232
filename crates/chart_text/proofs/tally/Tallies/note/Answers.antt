use Rattle.chart_text.proofs.Words.{◌∙◌}
use Rattle.std.proofs.lemmas.List.{length-set}
use Rattle.chart_text.proofs.Tallied.{set-each}
use Rattle.chart_text.proofs.tally.Tallies.note.Goals as goal

pub returns-then-node-lt24 : goal.returns-then-node-lt24
returns-then-node-lt24 c left all is =
    let nodes = c.args.self.now.nodes in
    let fault = c.args.fault.now in
    record {
      whole = c.note.ensures fault.text.now left all is.whole;
      long = length-set nodes c.from-node.result c.note-then-node-lt24.new.self ∙ is.long;
      each = λ k less.
          set-each c.args.size nodes c.note-then-node-lt24.new.self c.from-node.result k _ left all is.long
          c.from-node.ensures c.if-node-lt24.true (is.each k less) (c.note-then-node-lt24.ensures fault.text.now);
    }
