-- What the real outside tells.
use Rattle.std.specs.Prelude.{false, ℕ, List, Option}
use Rattle.ttp_base.specs.declared.system.FileLibrary.{FileLibrary}
use Rattle.ttp_base.specs.declared.system.StreamSink.{StreamSink}
use Rattle.ttp_base.specs.Outside.{untold, Files, Output}

-- nothing of the bytes that files hold, of no name that it is sure, how many faults there were, and the loads
abbrev pub system_files : {R : Type 0} → FileLibrary R → Files
system_files library = record {
  held = λ _. untold;
  sure = λ _. false;
  faults = λ _. library.faults;
  all_faults = library.faults;
  loads = (library.asked).loads;
}

-- what the writer tells of its bytes; it is sure to take nothing
abbrev pub stream_output : {W : Type 0} → (W → Option (List ℕ)) → StreamSink W → Output
stream_output contents sink = record {
  written = contents sink.onto.writer;
  pieces = (sink.pieces).given;
  faults = sink.faults;
  takes = 0;
}
