-- The slot table: a line for the list, and one for each slot of each round.
use Rattle.std.specs.Prelude.{ℕ, Bool, true, false, List, ◌∷◌, ◌++◌, length, map, codes, decimal}
use Rattle.ttp_base.specs.NodeSet.{below}
use Rattle.ttp_base.specs.Text.{Lines, newline, hex, lines_below}
use Rattle.ttp_world.specs.declared.medl.Kind.{Kind}
use Rattle.ttp_world.specs.declared.medl.Kind.TheVariants as kind
use Rattle.ttp_world.specs.declared.medl.Medl.{Medl}
use Rattle.ttp_world.specs.Medl.{kind_at, plan_at, payload_length}

-- the letter of a kind of frame
abbrev pub letter_of : Kind → List ℕ
letter_of kind.I = codes "I"
letter_of kind.N = codes "N"
letter_of kind.X = codes "X"

-- the word for whether something is so
abbrev pub yes_or_no : Bool → List ℕ
yes_or_no true = codes "yes"
yes_or_no false = codes "no"

-- the table's first line
unfoldable pub table_head : Medl → List ℕ
table_head list =
    codes "ttpbench schedule " ++ decimal list.version
    ++ codes " nodes " ++ decimal (length list.slots)
    ++ codes " rounds " ++ decimal list.rounds
    ++ codes " schedule " ++ hex 6 list.schedule ++ newline

-- the line of a slot in a round: its kind of frame, its bytes of payload, whether it is measured and its node may start
unfoldable pub slot_line : Medl → ℕ → ℕ → List ℕ
slot_line list round slot =
    codes "round " ++ decimal round ++ codes " slot " ++ decimal slot
    ++ codes " kind " ++ letter_of (kind_at list round slot)
    ++ codes " data " ++ decimal (payload_length list round slot)
    ++ codes " sync " ++ yes_or_no (plan_at list slot).sync
    ++ codes " start " ++ yes_or_no (plan_at list slot).start ++ newline

-- the lines of a round, in the order of the slots
abbrev pub round_lines : Medl → ℕ → Lines
round_lines list round = map (slot_line list round) (below (length list.slots))

-- the slot table
unfoldable pub slot_table : Medl → Lines
slot_table list = table_head list ∷ lines_below (round_lines list) list.rounds
