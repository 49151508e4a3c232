-- Each line of what `why` writes is one line: its one line feed is its last byte.
use Rattle.std.proofs.Common.{◌≡◌, ℕ, Bool, true, false, List, [], ◌∷◌, ◌++◌, Option}
use Rattle.std.proofs.Common.{Some, None, map, length, refl, codes, decimal}
use Rattle.std.proofs.Common.{arith, sym, subst, suc, ◌-◌, ◌≤◌, ◌≢◌}
use Rattle.std.specs.Prelude.{filter, flat_map, if◌then◌else◌, nat_lt, option_map}
use Rattle.std.specs.Prelude.{reverse, slice_get, unwrap_or, ℤ, ◌&&◌}
use Rattle.std.specs.Fmt.{signed_decimal}
use Rattle.std.specs.Str.{bytes_eq}
use Rattle.std.proofs.lemmas.List.{reverse-append}
use Rattle.ttp_base.specs.Text.{is_line}
use Rattle.ttp_base.proofs.Lines.{is_line-append}
use Rattle.ttp_base.proofs.Numerals.{has-signed}
use Rattle.ttp_world.specs.declared.medl.Medl.{Medl}
use Rattle.ttp_world.specs.declared.node.Entry.{Entry}
use Rattle.ttp_world.specs.declared.script.Event.{Event}
use Rattle.ttp_world.specs.declared.script.Event.TheVariants as event
use Rattle.ttp_world.specs.declared.script.Script.{Script}
use Rattle.ttp_world.specs.Script.{drift_of, on_slot}
use Rattle.ttp_world.specs.Trace.{entry_pieces, entry_word, number_or_dash, peer_of}
use Rattle.ttp_base.proofs.Gathered.{has-gather}
use Rattle.ttp_world.proofs.LineLists.{each-append}
use Rattle.ttp_world.proofs.TraceWords.{has-entry_word}
use Rattle.campaign.specs.CostText.{channels_word, listed}
use Rattle.ttp_world.specs.ZerosWorld.{zeros_world}
use Rattle.causes.specs.Members.{entry_at_spot, newest_entry_of}
use Rattle.causes.specs.Reduced.{entry_alone, is_needed, is_same_word}
use Rattle.causes.specs.RunSlots.{RunSlots, slots_of_run}
use Rattle.causes.specs.Story.{has_spot, lines_told, states_fault, story}
use Rattle.causes.specs.WhyText.{alone_line, because_words, entry_head, in_file_order, joined_words, lacked_words}
use Rattle.causes.specs.WhyText.{line_number_words, line_words, miss_words, named_event_words}
use Rattle.causes.specs.WhyText.{named_line, needed_if, needed_word}
use Rattle.causes.specs.WhyText.{node_word, note_words, number_of_line, number_word, number_words, root_words}
use Rattle.causes.specs.WhyText.{script_line_line, spot_word, story_lines, told_line}
use Rattle.causes.specs.WhyText.{told_lines, uncorrected_words, why_head}
use Rattle.causes.specs.WhyText.{why_lines_of, why_text}
use Rattle.causes.specs.declared.cause.Because.{Because}
use Rattle.causes.specs.declared.cause.Because.TheVariants as because
use Rattle.causes.specs.declared.cause.ClockNote.{ClockNote}
use Rattle.causes.specs.declared.cause.LineNumbers.{LineNumbers}
use Rattle.causes.specs.declared.cause.Miss.{Miss}
use Rattle.causes.specs.declared.cause.Miss.TheVariants as miss
use Rattle.causes.specs.declared.cause.ScriptLine.{ScriptLine}
use Rattle.causes.specs.declared.cause.ScriptLine.TheVariants as line
use Rattle.causes.specs.declared.cause.Spot.{Spot}
use Rattle.causes.specs.declared.cause.Story.{Story}
use Rattle.causes.specs.declared.cause.Told.{Told}
use Rattle.why_answers.specs.Answer.{answer_of_departure, answer_of_node, answer_of_slot}
use Rattle.why_answers.specs.Answer.{departure_slot, no_node_line, no_slot_line}
use Rattle.why_answers.specs.Answer.{stays_line, why_answer, why_answered}
use Rattle.why_answers.specs.declared.answer.WhyAnswer.{WhyAnswer}
use Rattle.lab_top.proofs.FromBelow.{HasNone, none-append, none-decimal}
use Rattle.commands.specs.Lines.{AreLines}
use Rattle.lab_top.proofs.CampaignLines.{channels-none, ended, fault-none, listed-none}

abbrev IsLine : List ℕ → Type 0
IsLine piece = is_line piece ≡ true

-- Texts one behind another.

none3 : (a b c : List ℕ) → HasNone a → HasNone b → HasNone c → HasNone (a ++ b ++ c)
none3 a b c p q r = none-append (a ++ b) c (none-append a b p q) r

none4 : (a b c d : List ℕ) → HasNone a → HasNone b → HasNone c → HasNone d → HasNone (a ++ b ++ c ++ d)
none4 a b c d p q r s = none-append (a ++ b ++ c) d (none3 a b c p q r) s

none5 : (a b c d e : List ℕ) → HasNone a → HasNone b → HasNone c → HasNone d
    → HasNone e → HasNone (a ++ b ++ c ++ d ++ e)
none5 a b c d e p q r s t = none-append (a ++ b ++ c ++ d) e (none4 a b c d p q r s) t

none6 : (a b c d e f : List ℕ) → HasNone a → HasNone b → HasNone c → HasNone d → HasNone e → HasNone f
    → HasNone (a ++ b ++ c ++ d ++ e ++ f)
none6 a b c d e f p q r s t u = none-append (a ++ b ++ c ++ d ++ e) f (none5 a b c d e p q r s t) u

module _ (a b c d e f g h : List ℕ) where
  none8 : HasNone a → HasNone b → HasNone c → HasNone d → HasNone e → HasNone f → HasNone g → HasNone h
      → HasNone (a ++ b ++ c ++ d ++ e ++ f ++ g ++ h)
  none8 p q r s t u v w =
      none3 (a ++ b ++ c ++ d ++ e ++ f) g h (none6 a b c d e f p q r s t u) v w

-- Words.

none-signed : (z : ℤ) → HasNone (signed_decimal z)
none-signed z = has-signed 10 z (omega arith)

none-dash : (n : Option ℕ) → HasNone (number_or_dash n)
none-dash None = refl
none-dash (Some n) = none-decimal n

none-entry : (e : Entry) → HasNone (entry_word e)
none-entry e = has-entry_word 10 e (omega arith)

none-node : (k : ℕ) → HasNone (node_word k)
none-node k = none-append (codes "node ") (decimal k) refl (none-decimal k)

none-numbers : (numbers : LineNumbers) (lines : List ScriptLine) → HasNone (line_number_words numbers lines)
none-numbers numbers lines = listed-none (number_word numbers) (λ l. none-decimal (number_of_line numbers l)) lines

none-nodes : (nodes : List ℕ) → HasNone (number_words nodes)
none-nodes nodes = listed-none decimal none-decimal nodes

none-spot : (spot : Spot) → HasNone (spot_word spot)
none-spot spot =
    none3 (decimal spot.slot) (codes ":") (decimal spot.node) (none-decimal spot.slot) refl (none-decimal spot.node)

-- A line of the script.

none-event : (e : Event) → HasNone (named_event_words e)
none-event (event.Flip node channels bit slot) =
    none8 (codes "flip ") (decimal node) (codes " ") (channels_word channels) (codes " ")
    (decimal bit) (codes " ") (decimal slot)
    refl (none-decimal node) refl (channels-none channels.a channels.b) refl (none-decimal bit) refl (none-decimal slot)
none-event (event.Error node value from to) =
    none8 (codes "error ") (decimal node) (codes " ") (signed_decimal value)
    (codes " ") (decimal from) (codes " ") (decimal to)
    refl (none-decimal node) refl (none-signed value) refl (none-decimal from) refl (none-decimal to)
none-event (event.Arm node slot) =
    none4 (codes "arm ") (decimal node) (codes " ") (decimal slot) refl (none-decimal node) refl (none-decimal slot)
none-event (event.Send node channels kind from to) = fault-none (event.Send node channels kind from to)
none-event (event.Receive node channels kind from to) = fault-none (event.Receive node channels kind from to)
none-event (event.Jump node value slot) = fault-none (event.Jump node value slot)
none-event (event.Write node slot payload) = fault-none (event.Write node slot payload)
none-event (event.Read node slot from) = fault-none (event.Read node slot from)

none-line : (script : Script) (l : ScriptLine) → HasNone (line_words script l)
none-line script (line.Event place) = go (slice_get script.events place)
  where
    go : (e : Option Event) → HasNone (unwrap_or (option_map named_event_words e) [])
    go None = refl
    go (Some e) = none-event e
none-line script (line.On k) =
    none4 (codes "on ") (decimal k) (codes " ") (number_or_dash (on_slot script k)) refl (none-decimal k) refl
    (none-dash (on_slot script k))
none-line script (line.Drift k) =
    none4 (codes "drift ") (decimal k) (codes " ") (signed_decimal (drift_of script k)) refl (none-decimal k) refl
    (none-signed (drift_of script k))

-- Why a channel brought no frame that is accepted.

none-uncorrected : (k : ℕ) (is : Bool)
    → HasNone (if is then codes ", " ++ node_word k ++ codes " not corrected" else [])
none-uncorrected k true = none3 (codes ", ") (node_word k) (codes " not corrected") refl (none-node k) refl
none-uncorrected k false = refl

none-joined : (k : ℕ) (slot : Option ℕ) → HasNone (joined_words k slot)
none-joined k None = refl
none-joined k (Some slot) =
    none4 (codes ", ") (node_word k) (codes " joined in slot ") (decimal slot)
    refl (none-node k) refl (none-decimal slot)

none-notes : (notes : List ClockNote) → HasNone (flat_map note_words notes)
none-notes [] = refl
none-notes (note ∷ notes) =
    none-append (note_words note) (flat_map note_words notes)
    (none-append (uncorrected_words note) (joined_words note.node note.joined)
    (none-uncorrected note.node note.is_uncorrected)
    (none-joined note.node note.joined)) (none-notes notes)

none-miss : (list : Medl) (numbers : LineNumbers) (m : Miss) → HasNone (miss_words list numbers m)
none-miss list numbers (miss.Deaf l) =
    none-append (codes "AB silence of line ") (decimal (number_of_line numbers l)) refl
    (none-decimal (number_of_line numbers l))
none-miss list numbers (miss.Off p) = none-append (node_word p) (codes " is off") (none-node p) refl
none-miss list numbers (miss.Left p slot) =
    none3 (node_word p) (codes " left in slot ") (decimal slot) (none-node p) refl (none-decimal slot)
none-miss list numbers (miss.Listens p) = none-append (node_word p) (codes " listens") (none-node p) refl
none-miss list numbers (miss.Retries p) = none-append (node_word p) (codes " retries") (none-node p) refl
none-miss list numbers (miss.Elsewhere p) = none-append (node_word p) (codes " is at another place") (none-node p) refl
none-miss list numbers (miss.Silenced lines) =
    none-append (codes "silence of line ") (line_number_words numbers lines) refl (none-numbers numbers lines)
none-miss list numbers (miss.Noisy l) =
    none-append (codes "noise of line ") (decimal (number_of_line numbers l)) refl
    (none-decimal (number_of_line numbers l))
none-miss list numbers (miss.Collision nodes) =
    none-append (codes "collision of nodes ") (number_words nodes) refl (none-nodes nodes)
none-miss list numbers (miss.Flipped lines) =
    none-append (codes "flips of line ") (line_number_words numbers lines) refl (none-numbers numbers lines)
none-miss list numbers (miss.ColdStart p) = none-append (codes "cold start of ") (node_word p) refl (none-node p)
none-miss list numbers (miss.Clock deviation notes) =
    none5 (codes "clock ") (signed_decimal deviation) (codes " past window ") (signed_decimal list.window)
    (flat_map note_words notes) refl (none-signed deviation) refl (none-signed list.window) (none-notes notes)
none-miss list numbers (miss.Differs holds member lacks) =
    none6 (node_word holds) (codes " holds ") (node_word member) (codes " and ") (node_word lacks) (codes " does not")
    (none-node holds) refl (none-node member) refl (none-node lacks) refl
none-miss list numbers (miss.HoldsNeither p k x) =
    none5 (node_word p) (codes " holds neither ") (node_word k) (codes " nor ")
    (node_word x) (none-node p) refl (none-node k)
    refl (none-node x)
none-miss list numbers (miss.HoldsBoth p k x) =
    none5 (node_word p) (codes " holds ") (node_word k) (codes " and ")
    (node_word x) (none-node p) refl (none-node k) refl
    (none-node x)

none-each : (a b : List ℕ) (same : Bool) → HasNone a → HasNone b
    → HasNone (if same then codes "AB " ++ a else codes "A " ++ a ++ codes ", B " ++ b)
none-each a b true p q = none-append (codes "AB ") a refl p
none-each a b false p q = none4 (codes "A ") a (codes ", B ") b refl p refl q

none-lacked : (p : ℕ) (nodes : List ℕ) → HasNone (lacked_words p nodes)
none-lacked p [] = refl
none-lacked p (j ∷ nodes) =
    none5 (codes ", ") (node_word p) (codes " lacks ") (number_words (j ∷ nodes)) (codes " too") refl (none-node p) refl
    (none-nodes (j ∷ nodes)) refl

none-because : (list : Medl) (numbers : LineNumbers) (b : Because) → HasNone (because_words list numbers b)
none-because list numbers (because.SwitchedOn slot) =
    none-append (codes "it is switched on in slot ") (decimal slot) refl (none-decimal slot)
none-because list numbers because.NeverOn = refl
none-because list numbers (because.NothingToJoin slot) =
    none-append (codes "no frame to join on since slot ") (decimal slot) refl (none-decimal slot)
none-because list numbers (because.TakesOver p) =
    none-append (codes "it takes over the C-state of ") (node_word p) refl (none-node p)
none-because list numbers (because.Silence count) =
    none3 (codes "silence in ") (decimal count) (codes " slots") refl (none-decimal count) refl
none-because list numbers because.OwnSlot = refl
none-because list numbers (because.NoneSinceColdStart slot) =
    none-append (codes "no frame accepted since its cold start in slot ") (decimal slot) refl (none-decimal slot)
none-because list numbers (because.LeftIn slot) =
    none-append (codes "it left in slot ") (decimal slot) refl (none-decimal slot)
none-because list numbers (because.NoneSinceOwn slot) =
    none-append (codes "no frame accepted since its own in slot ") (decimal slot) refl (none-decimal slot)
none-because list numbers (because.Outvoted accepted rejected since peer lacked) =
    none-append
    (codes "accepted " ++ decimal accepted ++ codes " and rejected " ++ decimal rejected
    ++ codes " since slot " ++ decimal since)
    (lacked_words peer lacked)
    (none6 (codes "accepted ") (decimal accepted) (codes " and rejected ") (decimal rejected) (codes " since slot ")
    (decimal since) refl (none-decimal accepted) refl (none-decimal rejected) refl (none-decimal since))
    (none-lacked peer lacked)
none-because list numbers because.DueFrame = refl
none-because list numbers (because.HoldsOne p held lacked) =
    none5 (node_word p) (codes " holds ") (node_word held) (codes " and not ") (node_word lacked) (none-node p) refl
    (none-node held) refl (none-node lacked)
none-because list numbers (because.HoldsNot p lacked) =
    none3 (node_word p) (codes " does not hold ") (node_word lacked) (none-node p) refl (none-node lacked)
none-because list numbers (because.Missed why) = none-miss list numbers why
none-because list numbers (because.MissedOnEach a b) =
    none-each (miss_words list numbers a) (miss_words list numbers b)
    (bytes_eq (miss_words list numbers a) (miss_words list numbers b))
    (none-miss list numbers a) (none-miss list numbers b)

-- Lines.

head-is_line : (list : Medl) (script : Script) (k slot : ℕ) → is_line (why_head list script k slot) ≡ true
head-is_line list script k slot =
    ended (codes "ttplab why 1 nodes " ++ decimal (length list.slots) ++ codes " slots " ++ decimal script.slots
    ++ codes " node " ++ decimal k ++ codes " slot " ++ decimal slot)
    (none8 (codes "ttplab why 1 nodes ") (decimal (length list.slots))
    (codes " slots ") (decimal script.slots) (codes " node ")
    (decimal k) (codes " slot ") (decimal slot) refl
    (none-decimal (length list.slots)) refl (none-decimal script.slots) refl
    (none-decimal k) refl (none-decimal slot))

none-head : (slot k : ℕ) (e : Entry) → HasNone (entry_head slot k e)
none-head slot k e =
    has-gather 10 [] (codes "slot " ∷ decimal slot ∷ codes " node " ∷ decimal k
    ∷ entry_pieces (entry_word e) (number_or_dash (peer_of k e))) refl
    (simp (none-decimal slot, none-decimal k, none-entry e, none-dash (peer_of k e)))

none-root : (run : RunSlots) (spots : List Spot) → HasNone (root_words run spots)
none-root run [] = refl
none-root run (spot ∷ spots) =
    none4 (codes ", by the ") (entry_word (entry_at_spot run spot)) (codes " of slot ") (decimal spot.slot) refl
    (none-entry (entry_at_spot run spot)) refl (none-decimal spot.slot)

named-is_line : (list : Medl) (numbers : LineNumbers) (spot : Spot) (e : Entry)
    (lines : List ScriptLine) (entries : List Spot)
    (why : Because) (origin : List ℕ) → HasNone origin
    → is_line (named_line list numbers spot e lines entries why origin) ≡ true
named-is_line list numbers spot e lines entries why origin none =
    ended (entry_head spot.slot spot.node e ++ codes " lines " ++ line_number_words numbers lines ++ codes " entries "
    ++ listed (map spot_word entries) ++ codes " because " ++ because_words list numbers why ++ origin)
    (none8 (entry_head spot.slot spot.node e) (codes " lines ") (line_number_words numbers lines) (codes " entries ")
    (listed (map spot_word entries)) (codes " because ") (because_words list numbers why) origin
    (none-head spot.slot spot.node e) refl (none-numbers numbers lines) refl
    (listed-none spot_word none-spot entries) refl
    (none-because list numbers why) none)

told-is_line : (list : Medl) (numbers : LineNumbers) (run : RunSlots) (spots origin : List Spot) (told : Told)
    → is_line (told_line list numbers run spots origin told) ≡ true
told-is_line list numbers run spots origin told =
    named-is_line list numbers told.spot (entry_at_spot run told.spot) (in_file_order numbers told.cause.lines)
    (filter (has_spot told.cause.entries) spots) told.cause.because (root_words run origin) (none-root run origin)

tolds-each : (list : Medl) (numbers : LineNumbers) (run : RunSlots) (spots origin : List Spot) (told : List Told)
    → AreLines (told_lines list numbers run spots origin told)
tolds-each list numbers run spots origin [] = tt
tolds-each list numbers run spots origin (told ∷ older) =
    (told-is_line list numbers run spots origin told, tolds-each list numbers run spots [] older)

reverse-each : (lines : List (List ℕ)) → AreLines lines → AreLines (reverse lines)
reverse-each [] each = tt
reverse-each (l ∷ lines) each =
    subst AreLines (sym (reverse-append (l ∷ []) lines))
    (each-append IsLine (reverse lines) (l ∷ []) (reverse-each lines each.1) (each.0, tt))

none-needed : (list : Medl) (script : Script) (lines : List ScriptLine) (slot k : ℕ) (e : Entry) (suffices : Bool)
    (l : ScriptLine) → HasNone (needed_word list script lines slot k e suffices l)
none-needed list script lines slot k e suffices l = go suffices (states_fault script l)
  where
    by : (needed : Bool) → HasNone (needed_if needed)
    by true = refl
    by false = refl

    go : (suffices states : Bool)
        → HasNone (elim (suffices && states) [
          | true ↦ needed_if (is_needed list script lines slot k e l)
          | false ↦ codes "-"
        ])
    go true true = by (is_needed list script lines slot k e l)
    go true false = refl
    go false states = refl

script_line-is_line : (script : Script) (numbers : LineNumbers) (l : ScriptLine) (needed : List ℕ) → HasNone needed
    → is_line (script_line_line script numbers l needed) ≡ true
script_line-is_line script numbers l needed none =
    ended (codes "line " ++ decimal (number_of_line numbers l) ++ codes " needed "
    ++ needed ++ codes " " ++ line_words script l)
    (none6 (codes "line ") (decimal (number_of_line numbers l)) (codes " needed ")
    needed (codes " ") (line_words script l)
    refl (none-decimal (number_of_line numbers l)) refl none refl (none-line script l))

alone-is_line : (e : Entry) (suffices : Bool) → is_line (alone_line e suffices) ≡ true
alone-is_line e true = refl
alone-is_line e false =
    ended (codes "alone no " ++ entry_word e) (none-append (codes "alone no ") (entry_word e) refl (none-entry e))

named-each : (list : Medl) (script : Script) (numbers : LineNumbers) (named : List ScriptLine) (slot k : ℕ) (e : Entry)
    (suffices : Bool) (lines : List ScriptLine)
    → AreLines (map (λ l. script_line_line script numbers l (needed_word list script named slot k e suffices l)) lines)
named-each list script numbers named slot k e suffices [] = tt
named-each list script numbers named slot k e suffices (l ∷ lines) = (
  script_line-is_line script numbers l (needed_word list script named slot k e suffices l)
      (none-needed list script named slot k e suffices l),
  named-each list script numbers named slot k e suffices lines,
)

whole-each : (list : Medl) (script : Script) (numbers : LineNumbers) (run : RunSlots) (k slot : ℕ) (s : Story)
    (lines : List ScriptLine) (alone : Entry) → AreLines (why_lines_of list script numbers run k slot s lines alone)
whole-each list script numbers run k slot s lines alone =
    let e = newest_entry_of k run in
    let suffices = is_same_word e alone in
    let named = map (λ l. script_line_line script numbers l
    (needed_word list script lines slot k e suffices l)) lines in
    let spots = reverse (map (λ (t : Told). t.spot) s.told) in
    each-append IsLine ((why_head list script k slot ∷ named) ++ story_lines list numbers run s)
    (alone_line alone suffices ∷ [])
    (each-append IsLine (why_head list script k slot ∷ named) (story_lines list numbers run s)
    (head-is_line list script k slot, named-each list script numbers lines slot k e suffices lines)
    (reverse-each (told_lines list numbers run spots s.root s.told) (tolds-each list numbers run spots s.root s.told)))
    (alone-is_line alone suffices, tt)

text-each : (list : Medl) (script : Script) (numbers : LineNumbers) (k slot : ℕ)
    → AreLines (why_text list script numbers k slot)
text-each list script numbers k slot =
    let run = slots_of_run list script (zeros_world list script (suc slot)) in
    let s = story script run k in
    let lines = in_file_order numbers (lines_told s) in
    whole-each list script numbers run k slot s lines (entry_alone list script lines slot k)

-- The answer: its status is one that a form may have, and its lines are lines.

pub record IsWhyAnswer (answer : WhyAnswer) : Type 0 where
  pub few : answer.status ≤ 4
  pub not_usage : answer.status ≢ 2
  pub each : AreLines answer.lines

slot-answer : (list : Medl) (script : Script) (bytes : List ℕ) (k slot : ℕ)
    → IsWhyAnswer (answer_of_slot list script bytes k slot)
slot-answer list script bytes k slot = record {
  few = omega arith;
  not_usage = λ two. absurd (omega (arith, two));
  each = text-each list script _ k slot;
}

said-answer : (status : ℕ) (l : List ℕ) → status ≤ 4 → status ≢ 2 → is_line l ≡ true
    → IsWhyAnswer (why_answered status (l ∷ []))
said-answer status l few other is = record { few = few; not_usage = other; each = (is, tt) }

departure-answer : (list : Medl) (script : Script) (bytes : List ℕ) (k : ℕ) (slot : Option ℕ)
    → IsWhyAnswer (answer_of_departure list script bytes k slot)
departure-answer list script bytes k None =
    said-answer 1 (stays_line k) (omega arith) (λ two. absurd (omega (arith, two)))
    (is_line-append (codes "node " ++ decimal k) (codes " does not leave\n")
    (none-append (codes "node ") (decimal k) refl (none-decimal k)) refl)
departure-answer list script bytes k (Some slot) = slot-answer list script bytes k slot

node-answer : (list : Medl) (script : Script) (bytes : List ℕ) (k : ℕ) (slot : Option ℕ)
    → IsWhyAnswer (answer_of_node list script bytes k slot)
node-answer list script bytes k None = departure-answer list script bytes k (departure_slot list script k)
node-answer list script bytes k (Some slot) = go (nat_lt slot script.slots)
  where
    go : (b : Bool)
        → IsWhyAnswer (if b then answer_of_slot list script bytes k slot else why_answered 4 (no_slot_line script ∷ []))
    go true = slot-answer list script bytes k slot
    go false =
        said-answer 4 (no_slot_line script) (omega arith) (λ two. absurd (omega (arith, two)))
        (ended (codes "script: slots 0 to " ++ decimal (script.slots - 1))
        (none-append (codes "script: slots 0 to ") (decimal (script.slots - 1)) refl (none-decimal (script.slots - 1))))

pub why-answer : (list : Medl) (script : Script) (bytes : List ℕ) (k : ℕ) (slot : Option ℕ)
    → IsWhyAnswer (why_answer list script bytes k slot)
why-answer list script bytes k slot = go (nat_lt k (length list.slots))
  where
    go : (b : Bool)
        → IsWhyAnswer (if b then answer_of_node list script bytes k slot else why_answered 3 (no_node_line list ∷ []))
    go true = node-answer list script bytes k slot
    go false =
        said-answer 3 (no_node_line list) (omega arith) (λ two. absurd (omega (arith, two)))
        (ended (codes "list: nodes 0 to " ++ decimal (length list.slots - 1))
        (none-append (codes "list: nodes 0 to ") (decimal (length list.slots - 1)) refl
        (none-decimal (length list.slots - 1))))
