-- Where all fault lines are named, the last line says that they suffice.
use Rattle.std.proofs.Common.{◌≡◌, ℕ, suc, ◌++◌, ◌==◌, ◌||◌, ◌&&◌, Bool, true, false, List, [], ◌∷◌, ap, ◌∙◌, refl}
use Rattle.std.proofs.Common.{codes, map, not}
use Rattle.std.proofs.lemmas.Bool.{false≢true}
use Rattle.std.specs.List.{list_any}
use Rattle.causes.specs.Members.{newest_entry_of}
use Rattle.causes.specs.Reduced.{entry_alone, entry_in_run, events_kept, is_same_word}
use Rattle.causes.specs.Reduced.{names_all_faults, names_faults_from}
use Rattle.causes.specs.Reduced.{places_of_lines}
use Rattle.causes.specs.RunSlots.{RunSlots}
use Rattle.causes.specs.Story.{is_fault_event, story}
use Rattle.causes.specs.WhyText.{alone_line, needed_word, script_line_line, story_lines}
use Rattle.causes.specs.WhyText.{why_head, why_lines_of, why_text}
use Rattle.causes.specs.declared.cause.LineNumbers.{LineNumbers}
use Rattle.causes.specs.declared.cause.ScriptLine.{ScriptLine}
use Rattle.causes.specs.declared.cause.Story.{Story}
use Rattle.ttp_base.specs.Text.{Lines, newline}
use Rattle.ttp_world.proofs.NumberWords.{bytes_eq-same}
use Rattle.ttp_world.specs.Trace.{entry_word}
use Rattle.ttp_world.specs.declared.medl.Medl.{Medl}
use Rattle.ttp_world.specs.declared.node.Entry.{Entry}
use Rattle.ttp_world.specs.declared.script.Event.{Event}
use Rattle.ttp_world.specs.declared.script.Script.{Script}
use Rattle.why_answers.specs.Stories.{EndWith, first_slots, lines_listed}

-- Nothing is left out of a script whose faults are all named.

kept-first : (e : Event) (kept events : List Event) (b rest : Bool) → (b && rest) ≡ true → (rest ≡ true → kept ≡ events)
    → elim b as (λ c. List Event) [ true ↦ e ∷ kept | false ↦ kept ] ≡ e ∷ events
kept-first e kept events true rest both same = ap (λ (others : List Event). e ∷ others) (same both)
kept-first e kept events false rest both same = absurd (false≢true both)

all-kept : (places : List ℕ) (place : ℕ) (events : List Event) → names_faults_from places place events ≡ true
    → events_kept places place events ≡ events
all-kept places place [] named = refl
all-kept places place (e ∷ events) named =
    kept-first e (events_kept places (suc place) events) events
    (not (is_fault_event e) || list_any (λ other. other == place) places) (names_faults_from places (suc place) events)
    named (all-kept places (suc place) events)

alone-own : (list : Medl) (script : Script) (lines : List ScriptLine) (slot k : ℕ)
    → names_all_faults lines script ≡ true
    → entry_alone list script lines slot k ≡ entry_in_run list script slot k
alone-own list script lines slot k named =
    ap (λ (events : List Event). entry_in_run list (record script { events = events }) slot k)
    (all-kept (places_of_lines lines) 0 script.events named)

-- The text.

ends-of : (list : Medl) (script : Script) (numbers : LineNumbers) (run : RunSlots) (k slot : ℕ) (s : Story)
    (lines : List ScriptLine) (alone : Entry)
    → is_same_word (newest_entry_of k run) alone ≡ true
    → EndWith (codes "alone yes" ++ newline) (why_lines_of list script numbers run k slot s lines alone)
ends-of list script numbers run k slot s lines alone same =
    let e = newest_entry_of k run in
    let suffices = is_same_word e alone in
    let named : Lines =
    map (λ l. script_line_line script numbers l (needed_word list script lines slot k e suffices l)) lines in
    let told : Lines = story_lines list numbers run s in
    let front : Lines = why_head list script k slot ∷ (named ++ told) in
    (front, ap (λ (last : Bool). front ++ alone_line alone last ∷ []) same)

pub says-yes : (list : Medl) (script : Script) (numbers : LineNumbers) (k slot : ℕ)
    → names_all_faults (lines_listed list script numbers k slot) script ≡ true
    → EndWith (codes "alone yes" ++ newline) (why_text list script numbers k slot)
says-yes list script numbers k slot all =
    let run = first_slots list script (suc slot) in
    let lines = lines_listed list script numbers k slot in
    let alone = entry_alone list script lines slot k in
    ends-of list script numbers run k slot (story script run k) lines alone
    (ap (is_same_word (entry_in_run list script slot k)) (alone-own list script lines slot k all)
    ∙ bytes_eq-same (entry_word (entry_in_run list script slot k)))
