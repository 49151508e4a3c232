-- The tables of a picture: the letter, the colours and the meaning of each word, its styles, and what a test says.
use Rattle.std.specs.Prelude.{ℕ, ◌-◌, List, [], ◌∷◌, ◌++◌, get_or, codes, decimal}
use Rattle.ttp_base.specs.Text.{Lines}
use Rattle.ttp_world.specs.declared.keep.Back.{Back}
use Rattle.ttp_world.specs.declared.keep.Back.TheVariants as back
use Rattle.ttp_world.specs.declared.keep.Keep.{Keep}
use Rattle.ttp_world.specs.declared.keep.Keep.TheVariants as keep
use Rattle.line_reader.specs.declared.trace_line.Word.{Word}
use Rattle.line_reader.specs.declared.trace_line.Word.TheVariants as word

-- Words, in the order of the legend.
abbrev pub words : List Word
words =
    word.Off ∷ word.Wait ∷ word.Retry ∷ word.Gone ∷ word.Start ∷ word.Join ∷ word.Send ∷ word.Correct ∷ word.Tentative
    ∷ word.Incorrect ∷ word.Invalid ∷ word.Null ∷ word.Denied ∷ word.Unacknowledged ∷ word.Clique ∷ []

abbrev pub letter : Word → List ℕ
letter word.Off = codes "o"
letter word.Wait = codes "w"
letter word.Retry = codes "r"
letter word.Gone = codes "g"
letter word.Start = codes "S"
letter word.Join = codes "J"
letter word.Send = codes "s"
letter word.Correct = codes "c"
letter word.Tentative = codes "t"
letter word.Incorrect = codes "i"
letter word.Invalid = codes "v"
letter word.Null = codes "n"
letter word.Denied = codes "D"
letter word.Unacknowledged = codes "U"
letter word.Clique = codes "Q"

-- the colour of a cell, and that of its letter
abbrev pub cell_colour : Word → List ℕ
cell_colour word.Off = codes "#ffffff"
cell_colour word.Wait = codes "#f0f0f0"
cell_colour word.Retry = codes "#cfcfcf"
cell_colour word.Gone = codes "#d9d9d9"
cell_colour word.Start = codes "#004b7c"
cell_colour word.Join = codes "#56b4e9"
cell_colour word.Send = codes "#0072b2"
cell_colour word.Correct = codes "#e3f2fb"
cell_colour word.Tentative = codes "#f0e442"
cell_colour word.Incorrect = codes "#e69f00"
cell_colour word.Invalid = codes "#cc79a7"
cell_colour word.Null = codes "#ffffff"
cell_colour word.Denied = codes "#b03a00"
cell_colour word.Unacknowledged = codes "#b03a00"
cell_colour word.Clique = codes "#b03a00"

abbrev pub letter_colour : Word → List ℕ
letter_colour word.Off = codes "#9a9a9a"
letter_colour word.Wait = codes "#8a8a8a"
letter_colour word.Retry = codes "#000000"
letter_colour word.Gone = codes "#a6a6a6"
letter_colour word.Start = codes "#ffffff"
letter_colour word.Join = codes "#000000"
letter_colour word.Send = codes "#ffffff"
letter_colour word.Correct = codes "#6c8798"
letter_colour word.Tentative = codes "#000000"
letter_colour word.Incorrect = codes "#000000"
letter_colour word.Invalid = codes "#000000"
letter_colour word.Null = codes "#000000"
letter_colour word.Denied = codes "#ffffff"
letter_colour word.Unacknowledged = codes "#ffffff"
letter_colour word.Clique = codes "#ffffff"

abbrev pub word_meaning : Word → List ℕ
word_meaning word.Off = codes "is off"
word_meaning word.Wait = codes "listens"
word_meaning word.Retry = codes "withdraws its cold start"
word_meaning word.Gone = codes "left earlier"
word_meaning word.Start = codes "sent its cold-start frame"
word_meaning word.Join = codes "joined on a frame"
word_meaning word.Send = codes "sent its frame"
word_meaning word.Correct = codes "accepted the frame"
word_meaning word.Tentative = codes "its own frame may be lost"
word_meaning word.Incorrect = codes "a frame of another C-state"
word_meaning word.Invalid = codes "spoilt, or too early or late"
word_meaning word.Null = codes "heard nothing"
word_meaning word.Denied = codes "left: its frame was lost"
word_meaning word.Unacknowledged = codes "left: no answer"
word_meaning word.Clique = codes "left: it was outvoted"

-- The styles behind those of the words.
abbrev pub styles : Lines
styles =
    codes ".null rect{stroke:#a0a0a0}.off rect{stroke:#c0c0c0;stroke-dasharray:2}"
    ∷ codes ".other rect{stroke:#d00000;stroke-width:2}.doubt rect{stroke:#000000;stroke-width:2;stroke-dasharray:3 2}"
    ∷ codes ".data text{text-decoration:underline}.refused rect{fill:#d00000}.round{fill:#7a8a94}"
    ∷ codes ".agree rect,.none rect{fill:#ffffff}.none text{fill:#555555;font-size:7.5px}.apart rect{fill:#ffffff}.apart text{fill:#555555;font-size:10px}"
    ∷ codes ".differ rect{fill:#000000}.differ text{fill:#ffffff;font-weight:bold}"
    ∷ codes ".row{text-anchor:end}.slot{text-anchor:middle;font-size:10px;fill:#444444}.said{font-weight:bold}"
    ∷ codes "rect.why{fill:#ffffff}text.why{fill:#b03a00;font-weight:bold;font-size:11px}"
    ∷ codes ".write,.read,.status{stroke:#000000}.write{fill:#00c853}.read{fill:#ffd000}.status{fill:#e040fb}"
    ∷ codes ".flag{stroke:#000000}.keep{text-anchor:end;font-size:10px}.back{font-size:10px}"
    ∷ codes ".why,.flag,.round{pointer-events:none}"
    ∷ []

-- Tests.

-- what it means that a rule is broken that both tests have
abbrev pub bounds_passed : List ℕ
bounds_passed = codes "a drift or a reading error is past the list's"

abbrev pub starts_ill : List ℕ
starts_ill = codes "no node would start, two would in the same slot, or one comes on after the start"

abbrev pub some_lost : List ℕ
some_lost = codes "two or more nodes lost a frame, but not all"

abbrev pub too_soon : List ℕ
too_soon = codes "a fault comes too soon after the start or another fault"

abbrev pub too_few : List ℕ
too_few = codes "fewer than four correct nodes are left to measure clocks by"

-- what it means that a rule is broken, from rule 1 on, of the hypothesis and on the places of armed nodes
abbrev pub rule_meanings : Lines
rule_meanings =
    bounds_passed
    ∷ codes "the window is narrower than clocks of this list need"
    ∷ codes "a bit is flipped, a node is armed, or a clock jumps a second time or by less than four windows"
    ∷ starts_ill
    ∷ some_lost
    ∷ too_soon
    ∷ too_few
    ∷ []

abbrev pub returning_meanings : Lines
returning_meanings =
    bounds_passed
    ∷ codes "the window is narrower than clocks need of which one came back"
    ∷ codes "a bit is flipped, or a clock jumps a second time or by less than four windows"
    ∷ starts_ill
    ∷ some_lost
    ∷ too_soon
    ∷ too_few
    ∷ codes "the node armed in this slot is not owed its place"
    ∷ []

abbrev pub keep_meaning : Keep → List ℕ
keep_meaning (keep.Yes start) =
    codes "from slot " ++ decimal start
    ++ codes " on the correct nodes agree and stay; a faulty one may differ until it leaves"
keep_meaning (keep.No rule slot) = get_or rule_meanings (rule - 1) []

abbrev pub back_meaning : Back → List ℕ
back_meaning (back.Yes start) = codes "each armed node is owed its place"
back_meaning (back.No rule slot) = get_or returning_meanings (rule - 1) []

-- the slot that a test names, and what its flag shows
abbrev pub keep_slot : Keep → ℕ
keep_slot (keep.Yes start) = start
keep_slot (keep.No rule slot) = slot

abbrev pub keep_name : Keep → List ℕ
keep_name (keep.Yes start) = codes "start"
keep_name (keep.No rule slot) = codes "H" ++ decimal rule

abbrev pub back_slot : Back → ℕ
back_slot (back.Yes start) = start
back_slot (back.No rule slot) = slot

abbrev pub back_name : Back → List ℕ
back_name (back.Yes start) = codes "start"
back_name (back.No rule slot) = codes "Q" ++ decimal rule
