use Rattle.std.proofs.Common.{ℕ, ◌+◌, arith, ap, ◌∙◌}
use Rattle.std.specs.Prelude.{get_or}
use Rattle.reduced_runs.proofs.Shown.{shown-entry}
use Rattle.reduced_runs.proofs.runs.entry_shown.Goals as goal

pub returns : goal.returns
returns c =
    let states = c.states.ensures c.args.script.now (c.args.slot + 1) c.requires.run (omega arith) in
    ap (λ (k : ℕ). (get_or c.states.result.now k c.index-states-from.result).entry) c.from.ensures
    ∙ shown-entry c.args.list.now c.args.script.now c.args.slot c.args.node
    c.states.result.now c.index-states-from.result
    states c.requires.node
