use Rattle.std.proofs.Common.{◌≡◌, ◌+◌, List, ap, subst, ◌∙◌, arith}
use Rattle.std.specs.Prelude.{IfOk}
use Rattle.ttp_world.specs.declared.node.Entry.{Entry}
use Rattle.ttp_world.specs.declared.script.Event.{Event}
use Rattle.campaign.specs.Tried.{faults_in}
use Rattle.pair_runs.proofs.FromBelow.{shown-row}
use Rattle.pair_runs.proofs.ahead.faults_at.Goals as goal

pub returns : goal.returns
returns c =
    let list = c.args.list.now in
    let script = c.args.script.now in
    let slot = c.args.slot in
    let shown = c.states.ensures script (slot + 1) c.requires.own (omega arith) in
    let told = ap (λ (entries : List Entry). faults_in list script entries slot)
    (c.as_slice.ensures ∙ c.in_ok-row.ensures ∙ shown-row list script slot c.states.result.now c.requires.slot shown) in
    subst (λ (fs : List Event). IfOk c.faults_in.result (λ (faults : List Event). faults ≡ fs)) told c.faults_in.ensures
