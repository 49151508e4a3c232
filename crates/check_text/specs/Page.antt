-- What lines that are written one after another leave of a sink, where each is formed before it is written and either
-- may be refused.
use Rattle.std.specs.Prelude.{◌++◌, Option, Some, None}
use Rattle.std.specs.List.{flat_map}
use Rattle.ttp_base.specs.Outside.{Output, WroteLines}
use Rattle.ttp_base.specs.Text.{Lines, lines_of}
use Rattle.fault_runs.specs.declared.put.CampaignFault.{CampaignFault}
use Rattle.fault_runs.specs.Ends.{LeftFewerBy}

-- Lines in pieces: one for each line feed. Only the name of a file may have one within a line.
abbrev pub pieces_of : Lines → Lines
pieces_of lines = flat_map lines_of lines

-- since the start these lines were written, or the writing ended within them
abbrev pub HasPutSoFar : Option CampaignFault → Output → Output → Lines → Type 0
HasPutSoFar None start now lines = WroteLines start now (pieces_of lines)
HasPutSoFar (Some why) start now lines = LeftFewerBy why start now (pieces_of lines)

-- whatever lines were put before, these were put after them
pub record PutsOn (ended : Option CampaignFault) (before : Output)
    (ends : Option CampaignFault) (now : Output) (lines : Lines)
    : Type 0 where
  pub puts : (start : Output) (earlier : Lines) → HasPutSoFar ended start before earlier
      → HasPutSoFar ends start now (earlier ++ lines)
