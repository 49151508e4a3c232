-- The text of a slot's report: the lines of the nodes, and of what hosts wrote and read in the slot.
use Rattle.std.specs.Prelude.{ℕ, ◌+◌, ◌<◌, List, [], ◌∷◌, ◌++◌, map, length}
use Rattle.ttp_base.specs.Text.{Lines}
use Rattle.ttp_world.specs.declared.medl.Medl.{Medl}
use Rattle.ttp_world.specs.declared.script.Source.{Source}
use Rattle.ttp_world.specs.declared.script.Source.TheVariants as source
use Rattle.ttp_world.specs.Medl.{plan_at}
use Rattle.host_port.specs.declared.report.NodeLine.{NodeLine}
use Rattle.host_port.specs.declared.report.ReadLine.{ReadLine}
use Rattle.host_port.specs.declared.report.SlotReport.{SlotReport}
use Rattle.host_port.specs.declared.report.WriteLine.{WriteLine}
use Rattle.line_text.specs.HostLines.{HasWords, message_in, written_line, message_line}
use Rattle.line_text.specs.LineParts.{listed_line}

-- the lines of the nodes from a first one on
abbrev pub node_texts : Medl → ℕ → ℕ → List NodeLine → Lines
node_texts list slot first [] = []
node_texts list slot first (line ∷ lines) =
    listed_line list slot first line.state line.message ∷ node_texts list slot (first + 1) lines

-- of a message that was written
abbrev pub write_text : ℕ → WriteLine → List ℕ
write_text slot line = written_line slot line.host line.number

-- how many bytes a payload of a source has; of a status it says nothing
abbrev pub source_payload_size : Medl → Source → ℕ
source_payload_size list source.Status = 0
source_payload_size list (source.Node p) = (plan_at list p).payload

-- of a message that was read
abbrev pub read_text : Medl → ℕ → ReadLine → List ℕ
read_text list slot line =
    message_line slot line.host line.source line.pair.number
    (message_in line.source (source_payload_size list line.source) line.pair.words)

-- one for each message that was written, and for each that was read
abbrev pub host_lines : Medl → SlotReport → Lines
host_lines list report =
    map (write_text report.slot) report.writes ++ map (read_text list report.slot) report.reads

-- the lines of a slot: one for each node, and those of the hosts
abbrev pub report_lines : Medl → SlotReport → Lines
report_lines list report = node_texts list report.slot 0 report.nodes ++ host_lines list report

-- What a text asks of its report.

-- a source is a status, or a node of the list
abbrev pub IsListed : Medl → Source → Type 0
IsListed list source.Status = Unit {0}
IsListed list (source.Node p) = p < length list.slots

-- the message of a read line has as many words as the list gives the messages of its source
pub record HasMessage (list : Medl) (line : ReadLine) : Type 0 where
  pub source : IsListed list line.source
  pub words : HasWords line.source (source_payload_size list line.source) line.pair.words
