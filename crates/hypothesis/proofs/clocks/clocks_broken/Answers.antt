use Rattle.hypothesis.proofs.Words.{◌≡◌, ℕ, ℤ, pos, ◌≤ℤ◌, Bool, true, false, cond, not, Some, sym, ◌∙◌, ap, length}
use Rattle.hypothesis.proofs.Words.{rules, arith, list_any, all-below, below, errors_hold_in, drifts_hold}
use Rattle.hypothesis.proofs.Words.{is_within_bound, reading_error, is_error}
use Rattle.std.specs.List.{find}
use Rattle.std.proofs.lemmas.Int.{ints}
use Rattle.hypothesis.proofs.ErrorFree.{no_errors-sum}
use Rattle.hypothesis.proofs.Ranges.{none-below, first-below}
use Rattle.hypothesis.proofs.clocks.clocks_broken.Goals as goal

nothing-within : (bound : ℤ) → pos 0 ≤ℤ bound → is_within_bound bound (pos 0) ≡ true
nothing-within bound least = grind (arith, ints)

pub returns-then-not-errors_hold_in : goal.returns-then-not-errors_hold_in
returns-then-not-errors_hold_in c =
    let fails : ℕ → Bool = λ slot. not (errors_hold_in c.args.list.now c.args.script.now slot) in
    sym (ap (λ b. cond b (find fails (below c.args.script.now.slots)) (Some 0)) c.loop-slot.invariant.drifts
    ∙ first-below fails c.args.script.now.slots c.loop-slot.slot (omega arith)
    c.loop-slot.invariant.fine (search rules))

pub returns : goal.returns
returns c =
    let fails : ℕ → Bool = λ slot. not (errors_hold_in c.args.list.now c.args.script.now slot) in
    sym (ap (λ b. cond b (find fails (below c.args.script.now.slots)) (Some 0)) c.loop-slot.invariant.drifts
    ∙ none-below fails c.args.script.now.slots (λ k less. c.loop-slot.invariant.fine k (omega arith)))

pub returns-then-not-has_errors : goal.returns-then-not-has_errors
returns-then-not-has_errors c =
    let list = c.args.list.now in
    let script = c.args.script.now in
    let fails : ℕ → Bool = λ slot. not (errors_hold_in list script slot) in
    let none : list_any is_error script.events ≡ false = search rules in
    let holds : drifts_hold list script ≡ true = search rules in
    sym (ap (λ b. cond b (find fails (below script.slots)) (Some 0)) holds
    ∙ none-below fails script.slots
    (λ slot less. ap not (all-below (λ k. is_within_bound list.error (reading_error script k slot)) (length list.slots)
    (λ k less. ap (is_within_bound list.error) (no_errors-sum k slot script.events none)
    ∙ nothing-within list.error c.requires.valid.error.0))))
