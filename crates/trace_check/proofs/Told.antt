-- The lines of a slot, and of first slots, tell the legal numbers that they have.
use Rattle.trace_check.proofs.Words.{◌≡◌, ℕ, ◌<◌, ◌≤◌, List, [], ◌∷◌, ◌++◌, length, take, drop, refl, ap, sym, subst}
use Rattle.trace_check.proofs.Words.{◌∙◌, arith, map, take-append_seam, Lines, Medl, Script, IsLegal, IsValid}
use Rattle.trace_check.proofs.Words.{IsValidScript, slot_lines, history_lines, words_of, SlotNumbers, Numbers, world}
use Rattle.trace_check.proofs.Words.{legal-AreNumbersOfAll, legal-older, nodes-most, row_of_world, length-world}
use Rattle.std.proofs.Math.Seq.{drop-append_seam}
use Rattle.ttp_world.specs.TraceNumbers.{slot_numbers}
use Rattle.ttp_world.proofs.RunNumbers.{AreNumbersOf}
use Rattle.ttp_world.proofs.SlotNumbers.{slot_numbers-between}
use Rattle.trace_check.proofs.Counts.{length-history_lines, lines_of_slots}

-- the lines of the slot after some numbers, where these are that slot's
abbrev pub lines_after : Medl → Script → SlotNumbers → Numbers → Lines
lines_after list script new numbers =
    slot_lines list script (row_of_world list script new numbers) (world list script numbers) new

-- what the words of lines say of the slot after so many
abbrev told_in : Medl → Lines → ℕ → SlotNumbers
told_in list lines slot = slot_numbers list (map words_of lines ++ []) slot

pub slot-told : (list : Medl) (script : Script) (new : SlotNumbers) (numbers : Numbers) → IsValid list
    → IsValidScript list script → length numbers < script.slots → IsLegal list script (new ∷ numbers)
    → told_in list (lines_after list script new numbers) (length (world list script numbers)) ≡ new
slot-told list script new numbers valid valid_script within legal =
    slot_numbers-between list script (row_of_world list script new numbers) (world list script numbers) new [] []
    (omega (arith, nodes-most list valid))
    (subst (λ slot. AreNumbersOf list script (row_of_world list script new numbers) slot new)
    (sym (length-world list script numbers))
    (legal-AreNumbersOfAll list script (new ∷ numbers) valid valid_script (omega (arith, within)) legal).0)
    tt tt

-- two choices for one slot that have the same lines are one
pub one_choice : (list : Medl) (script : Script) (one other : SlotNumbers) (numbers : Numbers) → IsValid list
    → IsValidScript list script → length numbers < script.slots → IsLegal list script (one ∷ numbers)
    → IsLegal list script (other ∷ numbers)
    → lines_after list script one numbers ≡ lines_after list script other numbers → one ≡ other
one_choice list script one other numbers valid valid_script within legal legal_too same =
    sym (slot-told list script one numbers valid valid_script within legal)
    ∙ ap (λ (lines : Lines). told_in list lines (length (world list script numbers))) same
    ∙ slot-told list script other numbers valid valid_script within legal_too

-- Fronts of the same length.

pub front-same : {X : Type 0} (xs ys more others : List X) → length xs ≡ length ys → xs ++ more ≡ ys ++ others → xs ≡ ys
front-same xs ys more others long same =
    sym (take-append_seam xs more) ∙ (λ i. take (long i) (same i)) ∙ take-append_seam ys others

pub rest-same : {X : Type 0} (xs ys more others : List X) → length xs ≡ length ys → xs ++ more ≡ ys ++ others
    → more ≡ others
rest-same xs ys more others long same =
    sym (drop-append_seam xs more) ∙ (λ i. drop (long i) (same i)) ∙ drop-append_seam ys others

-- so first slots that have the same lines have the same numbers
pub one_run : (list : Medl) (script : Script) (ones others : Numbers) → IsValid list → IsValidScript list script
    → length ones ≡ length others → length ones ≤ script.slots → IsLegal list script ones
    → IsLegal list script others
    → history_lines list script (world list script ones) ones
    ≡ history_lines list script (world list script others) others
    → ones ≡ others
one_run list script [] [] valid valid_script long few legal legal_too same = refl
one_run list script [] (other ∷ others) valid valid_script long few legal legal_too same = absurd (omega (arith, long))
one_run list script (one ∷ ones) [] valid valid_script long few legal legal_too same = absurd (omega (arith, long))
one_run list script (one ∷ ones) (other ∷ others) valid valid_script long few legal legal_too same =
    let older = legal-older list script one ones legal in
    let older_too = legal-older list script other others legal_too in
    let as_long : length ones ≡ length others = omega (arith, long) in
    let many = length-history_lines list script ones older ∙ ap (lines_of_slots list script) as_long
    ∙ sym (length-history_lines list script others older_too) in
    let before : ones ≡ others = one_run list script ones others valid valid_script as_long (omega (arith, few)) older
    older_too (front-same _ _ _ _ many same) in
    let here : lines_after list script one ones ≡ lines_after list script other others =
    rest-same _ _ _ _ many same in
    let legal_here : IsLegal list script (other ∷ ones) =
    subst (λ (ns : Numbers). IsLegal list script (other ∷ ns)) (sym before) legal_too in
    λ i. one_choice list script one other ones valid valid_script (omega (arith, few)) legal legal_here
    (here ∙ ap (lines_after list script other) (sym before)) i
    ∷ before i
