-- What the text of a slot's report tells.
use Rattle.std.specs.Prelude.{◌≡◌, ◌≤◌, length, All}
use Rattle.ttp_world.specs.declared.medl.Medl.{Medl}
use Rattle.ttp_world.specs.declared.script.Script.{Script}
use Rattle.ttp_world.specs.Medl.{node_limit}
use Rattle.ttp_world.specs.Trace.{slot_lines}
use Rattle.ttp_world.specs.World.{Numbers, world}
use Rattle.host_port.specs.declared.report.SlotReport.{SlotReport}
use Rattle.line_text.specs.LineParts.{HasDigits}
use Rattle.trace_text.specs.ReportText.{HasMessage, report_lines}
use Rattle.cluster_run.specs.NextSlots.{next_row}
use Rattle.cluster_run.specs.Report.{report_numbers}

-- A report may be written, and its text is that of the slot after the world of some numbers, by the numbers in it.
pub record TellsNext (list : Medl) (script : Script) (numbers : Numbers) (report : SlotReport) : Type 0 where
  pub nodes : length report.nodes ≤ node_limit list
  pub digits : All (λ line. HasDigits list line.state) report.nodes
  pub reads : All (HasMessage list) report.reads
  pub lines : report_lines list report
      ≡ slot_lines list script (next_row list script (report_numbers report) numbers) (world list script numbers)
      (report_numbers report)
