-- The whole text.
use Rattle.std.proofs.Common.{◌≡◌, ℕ, Bool, suc, ◌+◌, ◌-◌, List, [], ◌∷◌, ◌++◌, length, drop, map, ap, ◌∙◌, arith}
use Rattle.std.proofs.Math.Numerals.{suc-eq-add-one}
use Rattle.std.proofs.lemmas.Result.{IfOk-weaker}
use Rattle.std.specs.Prelude.{IfOk, Result}
use Rattle.ttp_base.specs.Text.{Lines}
use Rattle.ttp_world.specs.declared.medl.Medl.{Medl}
use Rattle.ttp_world.specs.declared.node.Entry.{Entry}
use Rattle.ttp_world.specs.declared.script.Script.{Script}
use Rattle.ttp_world.specs.ZerosWorld.{zeros_world}
use Rattle.causes.specs.Members.{entry_at_spot, newest_entry_of}
use Rattle.causes.specs.RunSlots.{RunSlots}
use Rattle.causes.specs.Reduced.{entry_alone, is_same_word}
use Rattle.causes.specs.Story.{lines_told, story}
use Rattle.causes.specs.WhyText.{alone_line, in_file_order, needed_word, script_line_line}
use Rattle.causes.specs.WhyText.{story_lines, why_head, why_lines_of}
use Rattle.causes.specs.WhyText.{why_lines_in, why_lines_told, why_text}
use Rattle.causes.specs.declared.cause.LineNumbers.{LineNumbers}
use Rattle.causes.specs.declared.cause.ScriptLine.{ScriptLine}
use Rattle.causes.specs.declared.cause.Story.{Story}
use Rattle.ttp_world.proofs.ZerosWorlds.{length-zeros_world}
use Rattle.why_story.specs.RunSource.{RunSource, source_slots, spot_at}
use Rattle.why_story.proofs.Slots.{length-run}

pub zeros-slots : (list : Medl) (script : Script) (slot : ℕ) → length (zeros_world list script (suc slot)) ≡ slot + 1
zeros-slots list script slot = length-zeros_world list script (suc slot) ∙ suc-eq-add-one slot

-- the entry of the newest slot
pub newest-entry : (source : RunSource) (slot k : ℕ) → length source.history ≡ slot + 1
    → entry_at_spot (source_slots source) (spot_at slot k) ≡ newest_entry_of k (source_slots source)
newest-entry source slot k count =
    let run = source_slots source in
    let whole = length-run source.list source.script source.history in
    let none : length run - suc slot ≡ 0 = omega (arith, count, whole) in
    ap (λ (n : ℕ). newest_entry_of k (drop n run)) none

-- lines that are pushed one after another
pub pushed : (first second third fourth last_of named stories : Lines) (head last : List ℕ) → first ≡ []
    → second ≡ first ++ head ∷ [] → third ≡ second ++ named → fourth ≡ third ++ stories → last_of ≡ fourth ++ last ∷ []
    → last_of ≡ ((head ∷ named) ++ stories) ++ last ∷ []
pushed first second third fourth last_of named stories head last none begun more told ended =
    ended
    ∙ ap (λ (x : Lines). x ++ last ∷ [])
    (told ∙ ap (λ (x : Lines). x ++ stories)
    (more ∙ ap (λ (x : Lines). x ++ named) (begun ∙ ap (λ (x : Lines). x ++ head ∷ []) none)))

-- the lines of those that a story names, by its entry and what suffices
abbrev pub named_lines : Medl → Script → LineNumbers → ℕ → ℕ → Entry → Bool → List ScriptLine → Lines
named_lines list script numbers slot k e suffices named =
    map (λ l. script_line_line script numbers l (needed_word list script named slot k e suffices l)) named

-- the lines of a story, by its entry, the lines that it names and the entry of these alone
pub told-lines : (list : Medl) (script : Script) (numbers : LineNumbers) (run : RunSlots) (k slot : ℕ) (s : Story)
    (e alone : Entry) (suffices : Bool) (named : List ScriptLine) → e ≡ newest_entry_of k run
    → named ≡ in_file_order numbers (lines_told s) → alone ≡ entry_alone list script named slot k
    → suffices ≡ is_same_word e alone
    → ((why_head list script k slot ∷ named_lines list script numbers slot k e suffices named)
    ++ story_lines list numbers run s)
    ++ alone_line alone suffices ∷ []
    ≡ why_lines_told list script numbers run k slot s
told-lines list script numbers run k slot s e alone suffices named newest order is same =
    let text : Entry → Bool → Lines = λ x b.
    ((why_head list script k slot ∷ named_lines list script numbers slot k x b named) ++ story_lines list numbers run s)
    ++ alone_line alone b ∷ [] in
    ap (text e) same
    ∙ (ap (λ (x : Entry). text x (is_same_word x alone)) newest
    ∙ (ap (λ (a : Entry). why_lines_of list script numbers run k slot s named a) is
    ∙ ap (λ (ls : List ScriptLine).
    why_lines_of list script numbers run k slot s ls (entry_alone list script ls slot k)) order))

-- the text of a run's story is the whole
pub whole-text : (list : Medl) (script : Script) (numbers : LineNumbers) (k slot : ℕ) (source : RunSource) (s : Story)
    → source ≡ record { list = list; script = script; history = zeros_world list script (suc slot) }
    → s ≡ story script (source_slots source) k
    → why_lines_told list script numbers (source_slots source) k slot s ≡ why_text list script numbers k slot
whole-text list script numbers k slot source s of_run is =
    ap (why_lines_told list script numbers (source_slots source) k slot) is
    ∙ ap (λ (x : RunSource). why_lines_in list script numbers (source_slots x) k slot) of_run

-- what is returned as a call gave it, by another name
pub if_ok-equal : {X E : Type 0} (r : Result X E) (y z : X) → IfOk r (λ x. x ≡ y) → y ≡ z → IfOk r (λ x. x ≡ z)
if_ok-equal r y z is same = IfOk-weaker r (λ x. x ≡ y) (λ x. x ≡ z) (λ x here. here ∙ same) is
