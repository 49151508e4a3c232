-- The line of a node in pieces, as lines that say nearly the same are read by them.
use Rattle.std.specs.Prelude.{◌≡◌, ℕ, ◌*◌, List, [], ◌∷◌, Option, Some, IfSome}
use Rattle.ttp_base.specs.NodeSet.{set_bits}
use Rattle.ttp_base.specs.Text.{hex, lines_of, gather}
use Rattle.ttp_world.specs.Medl.{member_bytes}
use Rattle.ttp_world.specs.Trace.{number_or_dash, told_pieces}
use Rattle.line_text.specs.LineParts.{head_text, ack_text}
use Rattle.line_reader.specs.declared.trace_line.NodeLine.{NodeLine}
use Rattle.line_reader.specs.declared.trace_line.TraceLine.{TraceLine}
use Rattle.line_reader.specs.declared.trace_line.TraceLine.TheVariants as line
use Rattle.line_reader.specs.TraceLines.{word_text, Fits}
use Rattle.whole_trace.specs.Whole.{value_of}

-- what the line of a node says, as a line
abbrev pub said_by : NodeLine → TraceLine
said_by n =
    line.Node n.slot n.node n.word n.peer n.message n.wide n.members n.accepted n.rejected n.ack n.offset

-- between the node's number and the frames that it accepted
abbrev pub judged_text : NodeLine → List ℕ
judged_text n =
    gather [] (told_pieces (word_text n.word) (number_or_dash n.peer) (number_or_dash n.message)
    (hex (2 * member_bytes n.wide) (set_bits n.members)))

-- texts are the pieces of a line, if there is one: before the node's number, up to the frames that it accepted, and
-- from these up to its clock
pub record HasPieces (n : NodeLine) (head judged behind : List ℕ) : Type 0 where
  pub begins : head ≡ head_text n.slot
  pub tells : judged ≡ judged_text n
  pub goes_on : behind ≡ ack_text n.rejected n.ack
  pub fits : Fits (said_by n)

abbrev pub HavePieces : Option NodeLine → List ℕ → List ℕ → List ℕ → Type 0
HavePieces newest head judged behind = IfSome newest (λ n. HasPieces n head judged behind)

-- a text begins with the line of a node that says this, and behind it this is left
pub record IsNodeFront (text : List ℕ) (n : NodeLine) (rest : List ℕ) : Type 0 where
  pub line : List ℕ
  pub cut : lines_of text ≡ line ∷ lines_of rest
  pub value : value_of line ≡ Some (said_by n)
