-- The line that says whether a node may be two-faced, how far apart the other clocks may come then, and how far they
-- came.
use Rattle.std.specs.Prelude.{ℕ, List, ◌++◌, codes, decimal}
use Rattle.std.specs.Fmt.{signed_decimal}
use Rattle.ttp_base.specs.Text.{newline}
use Rattle.ttp_world.specs.declared.medl.Medl.{Medl}
use Rattle.ttp_world.specs.declared.script.Script.{Script}
use Rattle.ttp_world.specs.World.{Numbers}
use Rattle.two_faced.specs.declared.faced.Faced.{Faced}
use Rattle.two_faced.specs.declared.faced.Faced.TheVariants as faced
use Rattle.two_faced.specs.declared.seen.Seen.{Seen}
use Rattle.two_faced.specs.Faced.{bound, faced_of}
use Rattle.two_faced.specs.Seen.{seen_of}

-- of a node that may: the start, the bound, and what was seen, with its slot
abbrev pub faced_line : Medl → ℕ → ℕ → Seen → List ℕ
faced_line list node start seen =
    codes "precision node " ++ decimal node ++ codes " start " ++ decimal start
    ++ codes " bound " ++ signed_decimal (bound list) ++ codes " seen " ++ signed_decimal seen.value
    ++ codes " slot " ++ decimal seen.slot ++ newline

-- of a rule that is broken, with the slot that is named for it
abbrev pub broken_line : ℕ → ℕ → List ℕ
broken_line rule slot = codes "precision no F" ++ decimal rule ++ codes " " ++ decimal slot ++ newline

-- the line on a node, by what the test says of it
abbrev pub answer_line : Medl → ℕ → Faced → Seen → List ℕ
answer_line list node (faced.Yes start) seen = faced_line list node start seen
answer_line list node (faced.No rule slot) seen = broken_line rule slot

-- the line for the run by these numbers
abbrev pub precision_line : Medl → Script → ℕ → Numbers → List ℕ
precision_line list script node numbers =
    answer_line list node (faced_of list script node) (seen_of list script numbers node)
