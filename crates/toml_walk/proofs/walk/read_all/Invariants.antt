use Rattle.std.proofs.Common.{◌≡◌, ℕ, ◌<◌, ◌≤◌, length, suc}
use denote.Text.{Utf8}
use denote.Shadow.{shadow}
use Rattle.toml.specs.Parse.{skip_bom}
use Rattle.toml_walk.specs.Walk.{Sections, lines, at_start}
use Rattle.toml_walk.specs.Turns.{SectionIs}
use Rattle.toml_walk.proofs.walk.read_all.Given as goal

-- what is read of the text that is left is what is read of the whole
abbrev pub invariant-lines : goal.invariant-lines
invariant-lines l =
    shadow (Utf8 l.rest) × (length l.rest ≤ length l.fn.text)
    × (m : ℕ) × (length l.rest < m) × (sections : Sections) × (SectionIs l.section sections)
    × (lines (suc (length l.fn.text)) at_start (skip_bom l.fn.text) ≡ lines m sections l.rest)

abbrev pub decreases-lines : goal.decreases-lines
decreases-lines l = length l.rest
