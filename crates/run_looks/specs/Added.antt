-- What is added to lines and entries.
use Rattle.std.specs.Prelude.{◌≡◌, ◌++◌}
use Rattle.causes.specs.Sources as causes
use Rattle.run_looks.specs.declared.sources.Sources.{Sources}

-- as the definitions have them
abbrev pub sources_in : Sources → causes.Sources
sources_in s = record { lines = s.lines; entries = s.entries }

-- some are the others with more behind them
pub record AddsSources (old new : Sources) (more : causes.Sources) : Type 0 where
  pub lines : new.lines ≡ old.lines ++ more.lines
  pub entries : new.entries ≡ old.entries ++ more.entries
