use Rattle.std.proofs.Common.{map, take}
use Rattle.ttp_base.specs.Outside.{WroteLines}
use Rattle.script_lines.specs.ScriptLines.{event_line}
use Rattle.script_lines.proofs.put.put_events.Given as goal

-- the lines of the events so far were written
abbrev pub invariant-loop-event : goal.invariant-loop-event
invariant-loop-event g l =
    WroteLines (g.K.Sink.output l.fn.out) (g.K.Sink.output l.out) (map event_line (take l.event-index l.events))
