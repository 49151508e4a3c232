-- What came of a fault, how that looks in a chart, and the kinds of faults.
use Rattle.std.specs.Prelude.{ℕ, ◌+◌, ◌-◌, ◌*◌, ◌/◌, ◌%◌, ◌==◌, nat_le, nat_lt}
use Rattle.std.specs.Prelude.{Bool, true, false, ◌&&◌, not, if◌then◌else◌}
use Rattle.std.specs.Prelude.{List, [], ◌∷◌, ◌++◌, get_or, codes}
use Rattle.whole_campaign.specs.declared.shown.Doing.{Doing}
use Rattle.whole_campaign.specs.declared.shown.Doing.TheVariants as doing
use Rattle.whole_campaign.specs.declared.shown.FaultShown.{FaultShown}
use Rattle.chart_text.specs.declared.look.Look.{Look}
use Rattle.chart_text.specs.declared.look.Look.TheVariants as look
use Rattle.chart_text.specs.declared.look.Outcome.{Outcome}
use Rattle.chart_text.specs.declared.look.Outcome.TheVariants as outcome
use Rattle.chart_text.specs.declared.size.Size.{Size}

-- What came of a fault.

-- two memberships or more are left at the end
abbrev pub leaves_two : FaultShown → Bool
leaves_two fault = nat_le 2 fault.memberships

-- two memberships or more are left at the end, though two rounds of all nodes were left to mend it
abbrev pub leaves_two_for_good : Size → FaultShown → Bool
leaves_two_for_good size fault = leaves_two fault && nat_le (fault.slot + 2 * size.nodes) size.slots

-- the first that applies
abbrev pub came_of : Size → FaultShown → Outcome
came_of size fault =
    if fault.same then outcome.Same
    else if not fault.company then outcome.Dead
    else if leaves_two_for_good size fault then outcome.Torn
    else if fault.split then outcome.Split
    else if nat_lt 0 fault.hurt then outcome.Hurt
    else if leaves_two fault then outcome.Late
    else outcome.Cost

-- an outcome, where the test of the fault's script says yes, and where it says no
abbrev pub look_of : Outcome → Bool → Look
look_of outcome.Same kept = if kept then look.Same else look.SameOut
look_of outcome.Cost kept = if kept then look.Cost else look.CostOut
look_of outcome.Late kept = look.Late
look_of outcome.Hurt kept = look.Hurt
look_of outcome.Split kept = look.Split
look_of outcome.Torn kept = look.Torn
look_of outcome.Dead kept = look.Dead

abbrev pub fault_look : Size → FaultShown → Look
fault_look size fault = look_of (came_of size fault) fault.yes

-- the looks of faults that hurt whoever was not faulty
abbrev pub is_harm : Look → Bool
is_harm look.Hurt = true
is_harm look.Split = true
is_harm look.Torn = true
is_harm look.Dead = true
is_harm _ = false

-- a fault that is harmful
abbrev pub does_harm : Size → FaultShown → Bool
does_harm size fault = is_harm (fault_look size fault)

-- The table of looks, and the place of each in it.
abbrev pub looks : List Look
looks =
    look.Same ∷ look.SameOut ∷ look.Cost ∷ look.CostOut ∷ look.Late ∷ look.Hurt ∷ look.Split ∷ look.Torn ∷ look.Dead
    ∷ []

abbrev pub look_number : Look → ℕ
look_number look.Same = 0
look_number look.SameOut = 1
look_number look.Cost = 2
look_number look.CostOut = 3
look_number look.Late = 4
look_number look.Hurt = 5
look_number look.Split = 6
look_number look.Torn = 7
look_number look.Dead = 8

-- the name of a look, by which the style sheet has its class
abbrev pub look_text : Look → List ℕ
look_text look.Same = codes "same"
look_text look.SameOut = codes "same out"
look_text look.Cost = codes "cost"
look_text look.CostOut = codes "cost out"
look_text look.Late = codes "late"
look_text look.Hurt = codes "hurt"
look_text look.Split = codes "split"
look_text look.Torn = codes "torn"
look_text look.Dead = codes "dead"

-- what a style names it by
abbrev pub look_selector : Look → List ℕ
look_selector look.SameOut = codes "same.out"
look_selector look.CostOut = codes "cost.out"
look_selector other = look_text other

-- the letter that is shown for it
abbrev pub look_letter : Look → List ℕ
look_letter look.Same = codes "."
look_letter look.SameOut = codes "o"
look_letter look.Cost = codes "c"
look_letter look.CostOut = codes "p"
look_letter look.Late = codes "e"
look_letter look.Hurt = codes "H"
look_letter look.Split = codes "S"
look_letter look.Torn = codes "T"
look_letter look.Dead = codes "X"

-- its colour, and that of its letter
abbrev pub look_colour : Look → List ℕ
look_colour look.Same = codes "#f3f6f8"
look_colour look.SameOut = codes "#eeeeee"
look_colour look.Cost = codes "#d6e8f5"
look_colour look.CostOut = codes "#dddddd"
look_colour look.Late = codes "#e8e0a8"
look_colour look.Hurt = codes "#f0a800"
look_colour look.Split = codes "#d04a00"
look_colour look.Torn = codes "#8a2fa0"
look_colour look.Dead = codes "#000000"

abbrev pub look_letter_colour : Look → List ℕ
look_letter_colour look.Same = codes "#5c7482"
look_letter_colour look.SameOut = codes "#505050"
look_letter_colour look.Cost = codes "#000000"
look_letter_colour look.CostOut = codes "#000000"
look_letter_colour look.Late = codes "#000000"
look_letter_colour look.Hurt = codes "#000000"
look_letter_colour look.Split = codes "#ffffff"
look_letter_colour look.Torn = codes "#ffffff"
look_letter_colour look.Dead = codes "#ffffff"

-- what it means
abbrev pub look_meaning : Look → List ℕ
look_meaning look.Same = codes "nothing changed"
look_meaning look.SameOut = codes "nothing changed; the fault is outside the hypothesis"
look_meaning look.Cost = codes "faulty nodes left, and nobody else"
look_meaning look.CostOut = codes "the same; the fault is outside the hypothesis"
look_meaning look.Late = codes "two memberships, but the run ends too soon to tell"
look_meaning look.Hurt = codes "hurt: a healthy node left"
look_meaning look.Split = codes "split: healthy nodes held two memberships for a while"
look_meaning look.Torn = codes "torn: two memberships are left at the end"
look_meaning look.Dead = codes "dead: at the end no two nodes are together"

-- The kinds of faults: a word, and a place among the faults of a node.

abbrev pub doing_word : Doing → List ℕ
doing_word doing.Send = codes "send"
doing_word doing.Receive = codes "receive"
doing_word doing.Jump = codes "jump"

-- a jump, by its place
abbrev pub jump_said : ℕ → List ℕ
jump_said p = get_or (codes "4 W" ∷ codes "-4 W" ∷ codes "W" ∷ codes "-W" ∷ []) (p - 12) []

-- what is lost, by the place of the loss
abbrev pub loss_said : ℕ → List ℕ
loss_said p = if p % 2 == 0 then codes "silence" else codes "noise"

abbrev pub channels_said : ℕ → List ℕ
channels_said p = get_or (codes "AB" ∷ codes "A" ∷ codes "B" ∷ []) (p % 6 / 2) []

-- whether it stays to the end of the run
abbrev pub stays_said : ℕ → List ℕ
stays_said p = if nat_lt p 6 then [] else codes ", stays"

-- the fault of a place, in words
abbrev pub kind_said : ℕ → List ℕ
kind_said p =
    if nat_lt p 12 then channels_said p ++ codes " " ++ loss_said p ++ stays_said p else jump_said p

-- The marks below a cell: eight beside each other, those in the slot alone above those to the end, jumps behind the
-- losses.

-- how many marks are to the left of that of a place, and how many above it
abbrev pub marks_left : ℕ → ℕ
marks_left p = if nat_lt p 12 then p % 6 else 6 + p % 2

abbrev pub marks_above : ℕ → ℕ
marks_above p = if nat_lt p 12 then p / 6 else (p - 12) / 2
