-- The text of frames that belongs to a trace.
use Rattle.std.specs.Prelude.{ℕ, List}
use Rattle.ttp_base.specs.Text.{Lines, lines_of}
use Rattle.ttp_world.specs.declared.medl.Medl.{Medl}
use Rattle.ttp_world.specs.declared.script.Script.{Script}
use Rattle.ttp_world.specs.TraceNumbers.{numbers_in}
use Rattle.bus_frames.specs.FrameText.{frame_lines}

-- the frames of the run with the message numbers that a trace names
abbrev pub frames_named : Medl → Script → List ℕ → Lines
frames_named list script text = frame_lines list script (numbers_in list script (lines_of text))
