use Rattle.std.proofs.Common.{◌≡◌, ◌∷◌, ◌++◌, drop}
use Rattle.list_places.specs.Lines.{starts_from}
use Rattle.list_places.proofs.lines.line_starts.Given as goal

-- the starts so far and those of the rest are all
abbrev pub invariant-loop-at : goal.invariant-loop-at
invariant-loop-at l = 0 ∷ starts_from 0 l.text ≡ l.starts.items ++ starts_from l.at (drop l.at l.text)
