use Rattle.std.proofs.Common.{◌≡◌, ℕ, ◌<◌, ◌≤◌, length, suc}
use denote.Text.{Utf8}
use denote.Shadow.{shadow}
use Rattle.toml.specs.Parse.{skip_bom}
use Rattle.list_places.specs.Marks.{Marked, nothing_marked, marks_from}
use Rattle.list_places.specs.Standing.{MarksAre}
use Rattle.list_places.proofs.marks.marks_of.Given as goal

-- the marks so far with what the text that is left adds are those of the whole
abbrev pub invariant-lines : goal.invariant-lines
invariant-lines l =
    shadow (Utf8 l.rest) × (length l.rest ≤ length l.fn.text)
    × (m : ℕ) × (length l.rest < m) × (marked : Marked) × (MarksAre l.marks marked)
    × (marks_from (suc (length l.fn.text)) nothing_marked (skip_bom l.fn.text) ≡ marks_from m marked l.rest)

abbrev pub decreases-lines : goal.decreases-lines
decreases-lines l = length l.rest
