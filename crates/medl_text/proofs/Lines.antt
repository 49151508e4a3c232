-- Each line of the slot table is one line.
use Rattle.std.proofs.Common.{◌≡◌, ℕ, Bool, true, false, List, [], ◌∷◌, ◌++◌, length, refl}
use Rattle.std.specs.Prelude.{◌==◌, codes}
use Rattle.std.specs.Fmt.{decimal}
use Rattle.std.specs.List.{AllByRecursion, flat_map}
use Rattle.std.proofs.lemmas.List.Folds.{list_any-append}
use Rattle.ttp_base.specs.NodeSet.{below}
use Rattle.ttp_base.specs.Text.{newline, is_line, hex}
use Rattle.ttp_base.proofs.Below.{map_each-below}
use Rattle.ttp_base.proofs.Lines.{is_line-append}
use Rattle.ttp_base.proofs.Numerals.{has, has-decimal, has-hex}
use Rattle.ttp_world.specs.declared.medl.Kind.{Kind}
use Rattle.ttp_world.specs.declared.medl.Kind.TheVariants as kind
use Rattle.ttp_world.specs.declared.medl.Medl.{Medl}
use Rattle.ttp_world.specs.Medl.{kind_at, plan_at, payload_length}
use Rattle.ttp_world.proofs.LineLists.{each-append}
use Rattle.medl_text.specs.Schedule.{letter_of, yes_or_no, table_head, slot_line, round_lines, slot_table}
use Rattle.ttp_world.proofs.TraceLines.{feed_is_low as low}

abbrev IsLine : List ℕ → Type 0
IsLine line = is_line line ≡ true

letter_none : (k : Kind) → has 10 (letter_of k) ≡ false
letter_none kind.I = refl
letter_none k = refl

answer_none : (answer : Bool) → has 10 (yes_or_no answer) ≡ false
answer_none true = refl
answer_none false = refl

head-by_words : (version nodes rounds schedule : List ℕ) → has 10 version ≡ false → has 10 nodes ≡ false
    → has 10 rounds ≡ false → has 10 schedule ≡ false
    → IsLine (codes "ttpbench schedule " ++ version ++ codes " nodes " ++ nodes ++ codes " rounds " ++ rounds
    ++ codes " schedule " ++ schedule ++ newline)
head-by_words version nodes rounds schedule p q r s =
    is_line-append (codes "ttpbench schedule " ++ version ++ codes " nodes " ++ nodes ++ codes " rounds " ++ rounds
    ++ codes " schedule " ++ schedule) newline
    (simp (list_any-append (λ c. c == 10), p, q, r, s)) refl

head-IsLine : (list : Medl) → IsLine (table_head list)
unfolding table_head
head-IsLine list =
    head-by_words (decimal list.version) (decimal (length list.slots)) (decimal list.rounds) (hex 6 list.schedule)
    (has-decimal 10 list.version low) (has-decimal 10 (length list.slots) low) (has-decimal 10 list.rounds low)
    (has-hex 10 6 list.schedule low)

slot-by_words : (round slot letter size sync start : List ℕ) → has 10 round ≡ false → has 10 slot ≡ false
    → has 10 letter ≡ false → has 10 size ≡ false → has 10 sync ≡ false → has 10 start ≡ false
    → IsLine (codes "round " ++ round ++ codes " slot " ++ slot ++ codes " kind " ++ letter ++ codes " data " ++ size
    ++ codes " sync " ++ sync ++ codes " start " ++ start ++ newline)
slot-by_words round slot letter size sync start p q r s t u =
    is_line-append
    (codes "round " ++ round ++ codes " slot " ++ slot ++ codes " kind " ++ letter ++ codes " data " ++ size
    ++ codes " sync " ++ sync ++ codes " start " ++ start) newline
    (simp (list_any-append (λ c. c == 10), p, q, r, s, t, u)) refl

slot-IsLine : (list : Medl) (round slot : ℕ) → IsLine (slot_line list round slot)
unfolding slot_line
slot-IsLine list round slot =
    slot-by_words (decimal round) (decimal slot) (letter_of (kind_at list round slot))
    (decimal (payload_length list round slot)) (yes_or_no (plan_at list slot).sync)
    (yes_or_no (plan_at list slot).start)
    (has-decimal 10 round low) (has-decimal 10 slot low) (letter_none (kind_at list round slot))
    (has-decimal 10 (payload_length list round slot) low) (answer_none (plan_at list slot).sync)
    (answer_none (plan_at list slot).start)

rounds-each : (list : Medl) (rounds : List ℕ) → AllByRecursion IsLine (flat_map (round_lines list) rounds)
rounds-each list [] = tt
rounds-each list (round ∷ rounds) =
    each-append IsLine (round_lines list round) (flat_map (round_lines list) rounds)
    (map_each-below IsLine (slot_line list round) (length list.slots) (λ slot less. slot-IsLine list round slot))
    (rounds-each list rounds)

pub slot_table-each : (list : Medl) → AllByRecursion (λ line. is_line line ≡ true) (slot_table list)
unfolding slot_table
slot_table-each list = (head-IsLine list, rounds-each list (below list.rounds))
