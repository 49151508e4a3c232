use Rattle.toml_walk.proofs.Standing.{stands_new}
use Rattle.toml_walk.proofs.names.Names.new.Goals as goal

pub returns : goal.returns
returns c = stands_new _ c.new.result (rw c.new-tables.ensures.items at c.in_ok-push.ensures.items) c.new.ensures.empty
