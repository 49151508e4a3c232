-- What has a part in an entry: lines of the script, and entries.
use Rattle.std.specs.Prelude.{Bool, List, [], length, not, ◌&&◌, ◌++◌, ◌==◌, ◌∷◌}
use Rattle.causes.specs.declared.cause.Because.{Because}
use Rattle.causes.specs.declared.cause.Cause.{Cause}
use Rattle.causes.specs.declared.cause.Miss.{Miss}
use Rattle.causes.specs.declared.cause.ScriptLine.{ScriptLine}
use Rattle.causes.specs.declared.cause.Spot.{Spot}

-- lines and entries
pub record Sources : Type 0 where
  pub lines : List ScriptLine
  pub entries : List Spot

abbrev pub no_sources : Sources
no_sources = record { lines = []; entries = [] }

abbrev pub only_lines : List ScriptLine → Sources
only_lines lines = record { lines = lines; entries = [] }

abbrev pub only_entries : List Spot → Sources
only_entries entries = record { lines = []; entries = entries }

-- both
abbrev pub with_sources : Sources → Sources → Sources
with_sources a b = record { lines = a.lines ++ b.lines; entries = a.entries ++ b.entries }

-- all of some
abbrev pub all_sources : List Sources → Sources
all_sources [] = no_sources
all_sources (sources ∷ others) = with_sources sources (all_sources others)

-- there are some
abbrev pub has_sources : Sources → Bool
has_sources sources = not ((length sources.lines == 0) && (length sources.entries == 0))

-- a cause by what decided, with these
abbrev pub cause_by : Because → Sources → Cause
cause_by because sources = record { because = because; lines = sources.lines; entries = sources.entries }

-- those of a cause
abbrev pub sources_of : Cause → Sources
sources_of cause = record { lines = cause.lines; entries = cause.entries }

-- why a channel brought no frame that is accepted
pub record ChannelReason : Type 0 where
  pub miss : Miss
  pub sources : Sources

-- a reason with one line, and with one entry
abbrev pub by_line : (ScriptLine → Miss) → ScriptLine → ChannelReason
by_line why l = record { miss = why l; sources = only_lines (l ∷ []) }

abbrev pub by_lines : (List ScriptLine → Miss) → List ScriptLine → ChannelReason
by_lines why lines = record { miss = why lines; sources = only_lines lines }

abbrev pub by_entries : Miss → List Spot → ChannelReason
by_entries why entries = record { miss = why; sources = only_entries entries }
