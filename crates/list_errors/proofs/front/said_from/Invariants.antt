use Rattle.std.proofs.Common.{◌≡◌, false, drop}
use Rattle.list_errors.specs.Errors.{said_from}
use Rattle.list_errors.proofs.front.said_from.Given as goal

-- what is left decides
abbrev pub invariant-loop-at : goal.invariant-loop-at
invariant-loop-at l = said_from false l.text ≡ said_from l.inside (drop l.at l.text)
