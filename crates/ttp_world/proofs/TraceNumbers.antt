-- The numbers that the lines of a trace name are those of its run.
use Rattle.ttp_world.proofs.Words.{◌≡◌, ℕ, suc, ◌<◌, ◌≤◌, ◌^◌, List, [], ◌∷◌, ◌++◌, length, refl, sym, ap, ◌∙◌, arith}
use Rattle.ttp_world.proofs.Words.{Bool, true, false, subst, append_assoc, map, codes, AllByRecursion, map-append, Back}
use Rattle.ttp_world.proofs.Words.{Keep, Medl, Script, History, keeps, IsLegal, IsValid, has_arm, returns}
use Rattle.ttp_world.proofs.Words.{IsValidScript, slot_lines, history_lines, trace_head, keep_line, back_line}
use Rattle.ttp_world.proofs.Words.{back_lines_if, test_lines, trace_lines, words_of, slot_numbers, Numbers, world}
use Rattle.ttp_world.specs.declared.keep.Back.TheVariants as back
use Rattle.ttp_world.specs.declared.keep.Keep.TheVariants as keep
use Rattle.ttp_world.specs.TraceNumbers.{numbers_below, numbers_in}
use Rattle.ttp_world.proofs.LineLists.{each-append}
use Rattle.ttp_world.proofs.LineNumbers.{IsOther}
use Rattle.ttp_world.proofs.NumberWords.{word-no_number}
use Rattle.ttp_world.proofs.LegalNumbers.{legal-AreNumbersOfAll}
use Rattle.ttp_world.proofs.Lists.{nodes-most}
use Rattle.ttp_world.proofs.RunNumbers.{AreNumbersOf, AreNumbersOfAll, numbers-slots}
use Rattle.ttp_world.proofs.SlotNumbers.{slot-IsOther, slot_numbers-between}

-- The lines of the slots below one are of other slots.

history-IsOther : (list : Medl) (script : Script) (history : History) (numbers : Numbers) (t : ℕ)
    → length history ≤ t → t < 2 ^ 64
    → AllByRecursion (IsOther t) (map words_of (history_lines list script history numbers))
history-IsOther list script [] numbers t past few = tt
history-IsOther list script (row ∷ history) [] t past few = tt
history-IsOther list script (row ∷ history) (new ∷ numbers) t past few =
    rw (map-append words_of (history_lines list script history numbers) (slot_lines list script row history new))
    (each-append (IsOther t) _ _ (history-IsOther list script history numbers t (omega arith) few)
    (slot-IsOther list script row history new t (omega arith) few (omega arith)))

-- The numbers of a history, between lines that are of none of its slots.

numbers_below-between : (list : Medl) (script : Script) (history : History) (numbers : Numbers)
    (first last : List (List (List ℕ))) → length list.slots < 2 ^ 64 → length numbers < 2 ^ 64
    → AreNumbersOfAll list script history numbers
    → ((t : ℕ) → t < length numbers → AllByRecursion (IsOther t) first)
    → ((t : ℕ) → t < length numbers → AllByRecursion (IsOther t) last)
    → numbers_below list (first ++ (map words_of (history_lines list script history numbers) ++ last)) (length numbers)
    ≡ numbers
numbers_below-between list script [] [] first last few short are before after = refl
numbers_below-between list script [] (new ∷ numbers) first last few short are before after = absurd are
numbers_below-between list script (row ∷ history) [] first last few short are before after = absurd are
numbers_below-between list script (row ∷ history) (new ∷ numbers) first last few short are before after =
    let old = map words_of (history_lines list script history numbers) in
    let lines = map words_of (slot_lines list script row history new) in
    let slots = numbers-slots list script history numbers are.1 in
    let whole = history_lines list script history numbers ++ slot_lines list script row history new in
    let split : first ++ (map words_of whole ++ last)
    ≡ first ++ (old ++ (lines ++ last)) =
    ap (λ ws. first ++ (ws ++ last))
    (map-append words_of (history_lines list script history numbers) (slot_lines list script row history new))
    ∙ ap (λ ws. first ++ ws) (append_assoc old lines last) in
    let here : slot_numbers list (first ++ (old ++ (lines ++ last))) (length numbers) ≡ new =
    ap (λ ws. slot_numbers list ws (length numbers)) (sym (append_assoc first old (lines ++ last)))
    ∙ ap (slot_numbers list ((first ++ old) ++ (lines ++ last))) (sym slots)
    ∙ slot_numbers-between list script row history new (first ++ old) last few
    (subst (λ s. AreNumbersOf list script row s new) (sym slots) are.0)
    (each-append (IsOther (length history)) first old (before (length history) (omega (arith, slots)))
    (history-IsOther list script history numbers (length history) (omega arith) (omega (arith, slots))))
    (after (length history) (omega (arith, slots))) in
    let earlier : numbers_below list (first ++ (old ++ (lines ++ last))) (length numbers) ≡ numbers =
    numbers_below-between list script history numbers first (lines ++ last) few (omega arith) are.1
    (λ t less. before t (omega arith))
    (λ t less. each-append (IsOther t) lines last
    (slot-IsOther list script row history new t (omega (arith, slots)) (omega arith) (omega (arith, slots)))
    (after t (omega arith))) in
    ap (λ ws. numbers_below list ws (suc (length numbers))) split
    ∙ (λ i. here i ∷ earlier i)

-- The first line and the last ones are of no slot.

head-IsOther : (list : Medl) (script : Script) (t : ℕ) → IsOther t (words_of (trace_head list script))
head-IsOther list script t = word-no_number (codes "trace") t refl

keep-IsOther : (k : Keep) (t : ℕ) → IsOther t (words_of (keep_line k))
keep-IsOther (keep.Yes start) t = word-no_number (codes "yes") t refl
keep-IsOther (keep.No rule slot) t = word-no_number (codes "no") t refl

back-IsOther : (list : Medl) (script : Script) (has_some : Bool) (t : ℕ)
    → AllByRecursion (IsOther t) (map words_of (back_lines_if list script has_some))
back-IsOther list script false t = tt
back-IsOther list script true t = (answer-IsOther (returns list script), tt)
  where
    answer-IsOther : (b : Back) → IsOther t (words_of (back_line b))
    answer-IsOther (back.Yes start) = word-no_number (codes "yes") t refl
    answer-IsOther (back.No rule slot) = word-no_number (codes "no") t refl

tests-IsOther : (list : Medl) (script : Script) (t : ℕ)
    → AllByRecursion (IsOther t) (map words_of (test_lines list script))
tests-IsOther list script t = (keep-IsOther (keeps list script) t, back-IsOther list script (has_arm script) t)

-- So the lines of a run with legal numbers name them.

trace-words : (list : Medl) (script : Script) (numbers : Numbers)
    → map words_of (trace_lines list script numbers)
    ≡ (words_of (trace_head list script) ∷ [])
    ++ (map words_of (history_lines list script (world list script numbers) numbers)
    ++ map words_of (test_lines list script))
trace-words list script numbers =
    ap (λ ws. words_of (trace_head list script) ∷ ws)
    (map-append words_of (history_lines list script (world list script numbers) numbers)
    (test_lines list script))

pub numbers_in-trace : (list : Medl) (script : Script) (numbers : Numbers) → IsValid list → IsValidScript list script
    → length numbers ≡ script.slots → IsLegal list script numbers
    → numbers_in list script (trace_lines list script numbers) ≡ numbers
numbers_in-trace list script numbers valid valid_script slots legal =
    let history = world list script numbers in
    ap (λ ws. numbers_below list ws script.slots) (trace-words list script numbers)
    ∙ ap (numbers_below list ((words_of (trace_head list script) ∷ [])
    ++ (map words_of (history_lines list script history numbers) ++ map words_of (test_lines list script))))
    (sym slots)
    ∙ numbers_below-between list script history numbers (words_of (trace_head list script) ∷ [])
    (map words_of (test_lines list script)) (omega (arith, nodes-most list valid))
    (omega (arith, slots, valid_script.slots.1))
    (legal-AreNumbersOfAll list script numbers valid valid_script (omega (arith, slots)) legal)
    (λ t less. (head-IsOther list script t, tt)) (λ t less. tests-IsOther list script t)
