-- What lines that are written one after another leave of a sink, which may fail within them.
use Rattle.std.specs.Prelude.{Bool, true, false, ◌++◌}
use Rattle.ttp_base.specs.Outside.{Output, WroteLines, CutShort}
use Rattle.ttp_base.specs.Text.{Lines}

-- since the start these lines were written, or the sink failed within them
abbrev pub HasPut : Bool → Output → Output → Lines → Type 0
HasPut false start now lines = WroteLines start now lines
HasPut true start now lines = CutShort start now lines

-- whatever lines were put before, these were put after them
pub record Puts (failed : Bool) (before : Output) (fails : Bool) (now : Output) (lines : Lines) : Type 0 where
  pub puts : (start : Output) (earlier : Lines) → HasPut failed start before earlier
      → HasPut fails start now (earlier ++ lines)
