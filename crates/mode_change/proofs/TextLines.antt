-- Each line of the text of modes is one line: its one line feed is its last byte.
use Rattle.std.proofs.Common.{◌≡◌, ℕ, Bool, true, false, List, [], ◌∷◌, ◌++◌, length, Option, Some, None, refl}
use Rattle.std.proofs.Common.{codes, decimal}
use Rattle.std.specs.Prelude.{◌==◌}
use Rattle.std.specs.List.{AllByRecursion}
use Rattle.std.proofs.lemmas.List.Folds.{list_any-append}
use Rattle.ttp_base.specs.Text.{newline, is_line}
use Rattle.ttp_base.proofs.Below.{map_each-below}
use Rattle.ttp_base.proofs.Lines.{is_line-append}
use Rattle.ttp_base.proofs.Numerals.{has, has-decimal}
use Rattle.ttp_world.specs.declared.medl.Medl.{Medl}
use Rattle.ttp_world.specs.declared.script.Script.{Script}
use Rattle.ttp_world.specs.Diary.{History}
use Rattle.ttp_world.specs.Trace.{number_or_dash}
use Rattle.ttp_world.specs.World.{Numbers, world}
use Rattle.ttp_world.proofs.LineLists.{each-append}
use Rattle.ttp_world.proofs.TraceLines.{IsLine, feed_is_low}
use Rattle.ttp_world.proofs.TraceWords.{has-number_or_dash}
use Rattle.mode_change.specs.declared.node.Modes.{Modes}
use Rattle.mode_change.specs.ModeText.{mode_head, live_word, mode_line, mode_line_of, mode_slot_lines}
use Rattle.mode_change.specs.ModeText.{mode_history_lines, mode_lines}

head-by_words : (nodes slots : List ℕ) → has 10 nodes ≡ false → has 10 slots ≡ false
    → IsLine (codes "ttpbench modes 1 nodes " ++ nodes ++ codes " slots " ++ slots ++ newline)
head-by_words nodes slots p q =
    is_line-append (codes "ttpbench modes 1 nodes " ++ nodes ++ codes " slots " ++ slots) newline
    (simp (list_any-append (λ c. c == 10), p, q)) refl

mode_head-IsLine : (list : Medl) (script : Script) → IsLine (mode_head list script)
mode_head-IsLine list script =
    head-by_words (decimal (length list.slots)) (decimal script.slots) (has-decimal 10 (length list.slots) feed_is_low)
    (has-decimal 10 script.slots feed_is_low)

has-live_word : (live : Option Bool) → has 10 (live_word live) ≡ false
has-live_word None = refl
has-live_word (Some true) = refl
has-live_word (Some false) = refl

node-by_words : (slot k mode next live : List ℕ) → has 10 slot ≡ false → has 10 k ≡ false → has 10 mode ≡ false
    → has 10 next ≡ false → has 10 live ≡ false
    → IsLine (codes "slot " ++ slot ++ codes " node " ++ k ++ codes " mode " ++ mode ++ codes " next " ++ next
    ++ codes " live " ++ live ++ newline)
node-by_words slot k mode next live p q r s t =
    is_line-append (codes "slot " ++ slot ++ codes " node " ++ k ++ codes " mode " ++ mode ++ codes " next " ++ next
    ++ codes " live " ++ live) newline (simp (list_any-append (λ c. c == 10), p, q, r, s, t)) refl

mode_line-IsLine : (slot k : ℕ) (modes : Modes) (live : Option Bool) → IsLine (mode_line slot k modes live)
mode_line-IsLine slot k modes live =
    node-by_words (decimal slot) (decimal k) (number_or_dash modes.mode) (number_or_dash modes.next) (live_word live)
    (has-decimal 10 slot feed_is_low) (has-decimal 10 k feed_is_low) (has-number_or_dash 10 modes.mode feed_is_low)
    (has-number_or_dash 10 modes.next feed_is_low) (has-live_word live)

mode_history_lines-each : (list : Medl) (script : Script) (history : History)
    → AllByRecursion IsLine (mode_history_lines list script history)
mode_history_lines-each list script [] = tt
mode_history_lines-each list script (row ∷ history) =
    each-append IsLine (mode_history_lines list script history) (mode_slot_lines list script row history)
    (mode_history_lines-each list script history)
    (map_each-below IsLine (mode_line_of list script row history)
    (length list.slots) (λ k node. mode_line-IsLine _ k _ _))

pub mode_lines-each : (list : Medl) (script : Script) (numbers : Numbers)
    → AllByRecursion (λ line. is_line line ≡ true) (mode_lines list script numbers)
mode_lines-each list script numbers =
    (mode_head-IsLine list script, mode_history_lines-each list script (world list script numbers))
