use Rattle.std.proofs.Common.{◌≤◌}
use Rattle.std.specs.Prelude.{◌-◌}
use Rattle.check_text.specs.At.{IsLineAt}
use Rattle.check_text.proofs.line_at.line_from.Given as goal

-- a line of the text, not past that of the number
abbrev pub invariant-loop-at : goal.invariant-loop-at
invariant-loop-at l = IsLineAt l.text l.at × (l.at.number ≤ l.number)

abbrev pub decreases-loop-at : goal.decreases-loop-at
decreases-loop-at l = l.number - l.at.number
