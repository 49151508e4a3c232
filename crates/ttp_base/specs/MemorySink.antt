-- What a sink in memory keeps.
use Rattle.std.specs.Prelude.{ℕ, ◌+◌, ◌-◌, if◌then◌else◌, List, length, Some}
use Rattle.ttp_base.specs.declared.memory_sink.MemorySink.{MemorySink}
use Rattle.ttp_base.specs.Outside.{never_fails, Output}

-- what was written
abbrev pub sink_bytes : MemorySink → List ℕ
sink_bytes sink = sink.bytes.items

-- how many bytes it has room for
abbrev pub sink_room : MemorySink → ℕ
sink_room sink = sink.room

-- the numbers of the calls that are to fail, and how many calls there were
abbrev pub sink_fail : MemorySink → List ℕ
sink_fail sink = sink.fail

abbrev pub sink_calls : MemorySink → ℕ
sink_calls sink = sink.calls

-- how many faults there were
abbrev pub sink_faults : MemorySink → ℕ
sink_faults sink = sink.faults

-- what it tells: where no call is to fail, it is sure to take what fits the rest of its room
abbrev pub sink_output : MemorySink → Output
sink_output sink = record {
  written = Some (sink_bytes sink);
  pieces = (sink.pieces).given;
  faults = sink_faults sink;
  takes = if never_fails (sink_fail sink) then sink_room sink - length (sink_bytes sink) + 1 else 0;
}
