-- Ranges of slots, and the text of the campaigns over them.
use Rattle.std.specs.Prelude.{◌^◌, ◌<◌, ◌≤◌, List, [], ◌∷◌, flat_map}
use Rattle.ttp_base.specs.Text.{Lines}
use Rattle.ttp_world.specs.declared.medl.Medl.{Medl}
use Rattle.ttp_world.specs.declared.script.Script.{Script}
use Rattle.campaign.specs.declared.cost.Span.{Span}
use Rattle.campaign.specs.Lines.{campaign_lines}

-- a range of slots, with at most nine digits
pub record IsRange (range : Span) : Type 0 where
  pub order : range.first ≤ range.last
  pub digits : range.last < 10 ^ 9

-- these begin behind a range
abbrev pub AreBehind : Span → List Span → Type 0
AreBehind range [] = Unit {0}
AreBehind range (next ∷ ranges) = range.last < next.first

-- ranges, each behind the one before
abbrev pub AreRanges : List Span → Type 0
AreRanges [] = Unit {0}
AreRanges (range ∷ ranges) = IsRange range × AreBehind range ranges × AreRanges ranges

-- the campaigns over these, one behind another
abbrev pub lines_over : Medl → Script → List Span → Lines
lines_over list script ranges = flat_map (λ range. campaign_lines list script range.first range.last) ranges
