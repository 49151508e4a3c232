-- What a line says of a fault of a script.
use Rattle.std.specs.Prelude.{ℕ, ℤ, ◌+◌, ◌/◌, List, [], ◌++◌, length, map, codes}
use Rattle.std.specs.Fmt.{decimal, signed_decimal}
use Rattle.std.specs.List.{flat_map}
use Rattle.script_errors.specs.declared.error.Form.{Form}
use Rattle.script_errors.specs.declared.error.Part.{Part}
use Rattle.script_errors.specs.declared.error.Part.TheVariants as part
use Rattle.script_errors.specs.declared.error.Wrong.{Wrong}
use Rattle.script_errors.specs.declared.error.Wrong.TheVariants as wrong
use Rattle.script_errors.specs.Agrees.{reader_fault}
use Rattle.script_errors.specs.Words.{forms, form_word, parts_of}
use Rattle.commands.specs.Faults.{line_fault_text}
use Rattle.check_words.specs.Shown.{shown_word, meant}

-- The parts of a line.

-- the name of a part of a line
abbrev pub part_name : Part → List ℕ
part_name part.Slots = codes "T"
part_name part.Node = codes "NODE"
part_name part.Writer = codes "NODE"
part_name part.Slot = codes "SLOT"
part_name part.From = codes "FROM"
part_name part.To = codes "TO"
part_name part.Channels = codes "CHANNELS"
part_name part.Fault = codes "FAULT"
part_name part.Bit = codes "BIT"
part_name part.Drift = codes "VALUE"
part_name part.Reading = codes "VALUE"
part_name part.Jump = codes "VALUE"
part_name part.Message = codes "HEX"
part_name part.Source = codes "SOURCE"

-- a form as it is written down: its word and the names of its parts
abbrev pub form_words : Form → List ℕ
form_words form = form_word form ++ flat_map (λ p. codes " " ++ part_name p) (parts_of form)

-- the words that name the forms
abbrev pub all_form_words : List (List ℕ)
all_form_words = map form_word forms

-- What is wrong.

-- what `ttpbench` calls it
abbrev pub wrong_fault : Wrong → List ℕ
wrong_fault w = line_fault_text (reader_fault w)

-- a part is this, and what is said behind
abbrev pub part_is : Part → List ℕ → List ℕ → List ℕ
part_is p text behind = part_name p ++ (codes " is " ++ (text ++ behind))

-- what is due for a part that is one of a few words
abbrev pub spelling : Part → List ℕ
spelling part.Channels = codes ", wanted A, B or AB"
spelling part.Fault = codes ", wanted silence or noise"
spelling _ = []

-- from a number to another
abbrev pub low_to_high : ℤ → ℤ → List ℕ
low_to_high low high = signed_decimal low ++ (codes " to " ++ signed_decimal high)

-- the first of the nodes that are wanted
abbrev pub nodes_from : Part → List ℕ
nodes_from part.Source = codes ", wanted status or 0 to "
nodes_from _ = codes ", wanted 0 to "

-- a thing of a node stands in another line
abbrev pub stands_text : List ℕ → ℕ → ℕ → List ℕ
stands_text front node line = front ++ (decimal node ++ (codes " stands in line " ++ decimal line))

-- what is said of a word, or of a line with this first word, beside what it is called
unfoldable pub script_said : List ℕ → Wrong → List ℕ
script_said word wrong.Mark = codes "a byte order mark, save the file without one"
script_said word wrong.Utf16 = codes "the file is UTF-16, save it as UTF-8"
script_said word wrong.IsList = codes "this file is a list, the script comes second"
script_said word wrong.NoForm = meant word all_form_words
script_said word wrong.NoSlots = codes "wanted a line slots T before this one"
script_said word wrong.NothingSaid = codes "no line says anything, wanted slots T"
script_said word wrong.Comment = shown_word word ++ codes ", a comment has a line of its own"
script_said word (wrong.WordCount words form) =
    codes "words " ++ (decimal words ++ (codes ", wanted " ++ (decimal (length (parts_of form) + 1) ++ (codes ": " ++
    form_words form))))
script_said word (wrong.Misspelt p) = part_is p (shown_word word) (spelling p)
script_said word (wrong.NoNumber p low high) =
    part_is p (shown_word word) (codes ", wanted a number " ++ low_to_high low high)
script_said word (wrong.OutOfRange p value low high) =
    part_is p (signed_decimal value) (codes ", wanted " ++ low_to_high low high)
script_said word (wrong.NoNode p node high) = part_is p (decimal node) (nodes_from p ++ decimal high)
script_said word (wrong.NoData p node) = part_is p (decimal node) (codes ", whose data is 0 in the list")
script_said word (wrong.NoSource high) =
    part_is part.Source (shown_word word) (codes ", wanted status or a number 0 to " ++ decimal high)
script_said word (wrong.ReadsItself node) =
    part_is part.Source (decimal node) (codes ", the node itself, wanted status or another node")
script_said word wrong.NoDigits =
    part_is part.Message (shown_word word) (codes ", wanted hexadecimal digits, two for each byte")
script_said word (wrong.DigitCount digits due node) =
    codes "HEX has digits " ++ (decimal digits ++ (codes ", wanted " ++ (decimal due ++ (codes " for data = " ++
    (decimal (due / 2) ++ (codes " of node " ++ decimal node))))))
script_said word (wrong.Backwards from to) =
    codes "TO is " ++ (decimal to ++ (codes ", wanted " ++ (decimal from ++ (codes " or more, since FROM is " ++
    decimal from))))
script_said word (wrong.SlotsAgain line) = codes "slots stands in line " ++ decimal line
script_said word (wrong.OnAgain node line) = stands_text (codes "on ") node line
script_said word (wrong.DriftAgain node line) = stands_text (codes "drift ") node line
script_said word wrong.NoBuffer = codes "buffers is 1 in the list, wanted 2 or more"
script_said word (wrong.TooMany node slot most) =
    codes "writes of node " ++ (decimal node ++ (codes " in slot " ++ (decimal slot ++ (codes
    " reach buffers, wanted at most " ++ decimal most))))
