use Rattle.two_faced.proofs.Words.{ℕ, Bool, cond, not, Some, sym, ◌∙◌, ap, rules, arith, below, told_start_if}
use Rattle.two_faced.proofs.Words.{errors_allowed_in}
use Rattle.std.specs.List.{find}
use Rattle.two_faced.proofs.FromBelow.{none-below, first-below}
use Rattle.two_faced.proofs.clocks.faced_clocks_broken.Goals as goal

pub returns-then-not-errors_allowed_in : goal.returns-then-not-errors_allowed_in
returns-then-not-errors_allowed_in c =
    let fails : ℕ → Bool =
    λ slot. not (errors_allowed_in c.args.list.now c.args.script.now c.args.node (told_start_if c.args.start) slot) in
    sym (ap (λ b. cond b (find fails (below c.args.script.now.slots)) (Some 0)) c.loop-slot.invariant.0
    ∙ first-below fails c.args.script.now.slots c.loop-slot.slot (omega arith) c.loop-slot.invariant.1 (search rules))

pub returns : goal.returns
returns c =
    let fails : ℕ → Bool =
    λ slot. not (errors_allowed_in c.args.list.now c.args.script.now c.args.node (told_start_if c.args.start) slot) in
    sym (ap (λ b. cond b (find fails (below c.args.script.now.slots)) (Some 0)) c.loop-slot.invariant.0
    ∙ none-below fails c.args.script.now.slots (λ k less. c.loop-slot.invariant.1 k (omega arith)))
