-- What the frame that answered a node shares with it.
use Rattle.std.specs.Prelude.{◌≡◌}
use Rattle.causes.specs.OwnSlots as own
use Rattle.causes.specs.Sources.{only_entries}
use Rattle.entry_causes.specs.declared.own.Shared.{Shared}
use Rattle.run_looks.specs.Added.{AddsSources}
use Rattle.run_looks.specs.declared.sources.Sources.{Sources}

-- it is told, and its entries are added
pub record AnswersBy (shared : Shared) (old new : Sources) (answer : own.Shared) : Type 0 where
  pub peer : shared.peer ≡ answer.peer
  pub lacked : shared.lacked ≡ answer.lacked
  pub adds : AddsSources old new (only_entries answer.entries)
