-- What holds of the stories that `why` tells.
use Rattle.std.specs.List.{AllByRecursion, list_any}
use Rattle.std.specs.Prelude.{◌≡◌, ◌⊎◌, ◌<◌, Bool, List, [], codes, filter, ℕ, map, suc, true, ◌++◌, ◌==◌, ◌∷◌}
use Rattle.ttp_world.specs.ZerosWorld.{zeros_world}
use Rattle.causes.specs.Members.{entry_at_spot}
use Rattle.causes.specs.RunSlots.{RunSlots, slots_of_run}
use Rattle.causes.specs.Story.{has_spot, leads_back, lines_told, rank_of_entry, story}
use Rattle.causes.specs.WhyText.{entry_head, in_file_order, number_of_line}
use Rattle.causes.specs.declared.cause.LineNumbers.{LineNumbers}
use Rattle.causes.specs.declared.cause.ScriptLine.{ScriptLine}
use Rattle.causes.specs.declared.cause.Spot.{Spot}
use Rattle.causes.specs.declared.cause.Told.{Told}
use Rattle.ttp_base.specs.Text.{Lines}
use Rattle.ttp_world.specs.declared.medl.Medl.{Medl}
use Rattle.ttp_world.specs.declared.script.Script.{Script}
use Rattle.why_story.specs.Named.{AreNamed}

-- the first slots of a run, so many
abbrev pub first_slots : Medl → Script → ℕ → RunSlots
first_slots list script count = slots_of_run list script (zeros_world list script count)

-- what `why` tells of node k's entry in a slot, the newest first
abbrev pub why_told : Medl → Script → ℕ → ℕ → List Told
why_told list script k slot = (story script (first_slots list script (suc slot)) k).told

abbrev pub spots_told : List Told → List Spot
spots_told told = map (λ t. t.spot) told

-- Lines of the script.

-- the lines that the text lists of it
abbrev pub lines_listed : Medl → Script → LineNumbers → ℕ → ℕ → List ScriptLine
lines_listed list script numbers k slot =
    in_file_order numbers (lines_told (story script (first_slots list script (suc slot)) k))

-- one of some lines has this number
abbrev pub has_line_number : LineNumbers → ℕ → List ScriptLine → Bool
has_line_number numbers n lines = list_any (λ l. number_of_line numbers l == n) lines

-- each number is greater than all before it
abbrev pub AreRising : List ℕ → Type 0
AreRising [] = Unit {0}
AreRising (n ∷ later) = AllByRecursion (λ m. n < m) later × AreRising later

-- the last of some lines is this one
abbrev pub EndWith : List ℕ → Lines → Type 0
EndWith line lines = (front : Lines) × (lines ≡ front ++ line ∷ [])

-- Order.

-- an entry is in an earlier slot than another, or in the same and hangs less on what is heard in it
abbrev pub StandsAbove : RunSlots → Spot → Spot → Type 0
StandsAbove run a b =
    (a.slot < b.slot)
    ⊎ ((a.slot ≡ b.slot) × (rank_of_entry (entry_at_spot run a) < rank_of_entry (entry_at_spot run b)))

-- all that entries name is told of older ones: it stands above them
abbrev pub AreNamedAbove : List Told → Type 0
AreNamedAbove [] = Unit {0}
AreNamedAbove (t ∷ older) =
    AllByRecursion (λ e. has_spot (spots_told older) e ≡ true) t.cause.entries × AreNamedAbove older

-- the line of each shows what it names: those of some entries, all that are told, are these
abbrev pub ShowsNamed : List Spot → Told → Type 0
ShowsNamed spots t = (e : Spot) → has_spot (filter (has_spot t.cause.entries) spots) e ≡ has_spot t.cause.entries e

-- the newest is this one, and each other is named by a newer one
abbrev pub AreToldFrom : Spot → List Told → Type 0
AreToldFrom spot [] = ⊥
AreToldFrom spot (t ∷ older) = (t.spot ≡ spot) × AreNamed t.cause.entries older

-- each names a line, or a clock past the window, or an older one that does
abbrev pub LeadBack : List Told → Type 0
LeadBack [] = Unit {0}
LeadBack (t ∷ older) = (leads_back (spots_told older) t.cause ≡ true) × LeadBack older

-- each entry but the newest names a line, or a clock past the window, or an older one that does
abbrev pub OthersLeadBack : List Told → Type 0
OthersLeadBack [] = Unit {0}
OthersLeadBack (t ∷ older) = LeadBack older

-- The trace.

-- how the line of an entry that is told begins, in the text and in a trace
abbrev pub head_told : RunSlots → Told → List ℕ
head_told run t = entry_head t.spot.slot t.spot.node (entry_at_spot run t.spot) ++ codes " "

abbrev pub BeginWith : List ℕ → List ℕ → Type 0
BeginWith head line = (rest : List ℕ) × (line ≡ head ++ rest)

-- one of some lines begins so
abbrev pub OneBeginsWith : List ℕ → Lines → Type 0
OneBeginsWith head lines =
    (before : Lines) × (line : List ℕ) × (after : Lines) × (lines ≡ before ++ line ∷ after) × BeginWith head line
