use Rattle.std.proofs.Common.{◌≡◌, ◌≤◌, ◌++◌, length, drop, map}
use Rattle.std.specs.Prelude.{reverse}
use Rattle.causes.specs.WhyText.{told_lines}
use Rattle.why_lines.specs.Roots.{root_at}
use Rattle.why_story.specs.RunSource.{source_slots}
use Rattle.why_lines.proofs.told.put_story.Given as goal

-- those from here on
abbrev pub invariant-loop-place : goal.invariant-loop-place
invariant-loop-place g l =
    (l.place ≤ length l.told)
    × (l.lines ≡ l.initial.lines
    ++ reverse (told_lines l.list l.numbers
    (source_slots (g.C.Causes.source l.causes)) (reverse (map (λ t. t.spot) l.told))
    (root_at l.place l.story.root) (drop l.place l.told)))

abbrev pub decreases-loop-place : goal.decreases-loop-place
decreases-loop-place g l = l.place
