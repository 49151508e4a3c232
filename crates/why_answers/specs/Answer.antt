-- What `why LIST SCRIPT NODE [SLOT]` answers of a right list and a right script.
use Rattle.std.specs.Fmt.{decimal}
use Rattle.std.specs.Prelude.{List, None, Option, Some, [], codes, if◌then◌else◌}
use Rattle.std.specs.Prelude.{length, nat_lt, option_map, ℕ, ◌++◌, ◌-◌}
use Rattle.std.specs.Prelude.{◌∷◌}
use Rattle.campaign.specs.Cost.{newest_leave}
use Rattle.ttp_world.specs.ZerosWorld.{zeros_world}
use Rattle.causes.specs.WhyText.{why_text}
use Rattle.line_numbers.specs.Numbers.{line_numbers_in}
use Rattle.ttp_base.specs.Text.{Lines, newline}
use Rattle.ttp_world.specs.declared.medl.Medl.{Medl}
use Rattle.ttp_world.specs.declared.script.Script.{Script}
use Rattle.why_answers.specs.declared.answer.WhyAnswer.{WhyAnswer}

-- an answer of this status and these lines
abbrev pub why_answered : ℕ → Lines → WhyAnswer
why_answered status lines = record { status = status; lines = lines }

-- a text with a number within
abbrev pub line_with_number : List ℕ → ℕ → List ℕ → List ℕ
line_with_number front number behind = front ++ decimal number ++ behind

-- the line on a node that the list has not, on a slot that the run has not, and on a node that never leaves
abbrev pub no_node_line : Medl → List ℕ
no_node_line list = line_with_number (codes "list: nodes 0 to ") (length list.slots - 1) newline

abbrev pub no_slot_line : Script → List ℕ
no_slot_line script = line_with_number (codes "script: slots 0 to ") (script.slots - 1) newline

abbrev pub stays_line : ℕ → List ℕ
stays_line k = line_with_number (codes "node ") k (codes " does not leave\n")

-- the slot of node k's newest departure in the first slots, so many, if it left
abbrev pub departure_before : Medl → Script → ℕ → ℕ → Option ℕ
departure_before list script slots k = option_map (λ leave. leave.slot) (newest_leave (zeros_world list script slots) k)

abbrev pub departure_slot : Medl → Script → ℕ → Option ℕ
departure_slot list script k = departure_before list script script.slots k

-- the lines on node k's entry in a slot, by the bytes of the script
abbrev pub lines_on_entry : Medl → Script → List ℕ → ℕ → ℕ → Lines
lines_on_entry list script bytes k slot = why_text list script (line_numbers_in (length list.slots) bytes) k slot

-- of a slot of the run
abbrev pub answer_of_slot : Medl → Script → List ℕ → ℕ → ℕ → WhyAnswer
answer_of_slot list script bytes k slot = why_answered 0 (lines_on_entry list script bytes k slot)

-- of a departure, if there is one
abbrev pub answer_of_departure : Medl → Script → List ℕ → ℕ → Option ℕ → WhyAnswer
answer_of_departure list script bytes k None = why_answered 1 (stays_line k ∷ [])
answer_of_departure list script bytes k (Some slot) = answer_of_slot list script bytes k slot

-- of a node of the list
abbrev pub answer_of_node : Medl → Script → List ℕ → ℕ → Option ℕ → WhyAnswer
answer_of_node list script bytes k None = answer_of_departure list script bytes k (departure_slot list script k)
answer_of_node list script bytes k (Some slot) =
    if nat_lt slot script.slots then answer_of_slot list script bytes k slot
    else why_answered 4 (no_slot_line script ∷ [])

-- the whole: of node k's entry in a slot, or of its newest departure
abbrev pub why_answer : Medl → Script → List ℕ → ℕ → Option ℕ → WhyAnswer
why_answer list script bytes k slot =
    if nat_lt k (length list.slots) then answer_of_node list script bytes k slot
    else why_answered 3 (no_node_line list ∷ [])
