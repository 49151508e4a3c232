use Rattle.fault_runs.proofs.Words.{◌≡◌, length, Bool, cond, List, [], ap, sym, subst}
use Rattle.fault_runs.proofs.Words.{◌∙◌, Entry, Event, faults_in, row_of}
use Rattle.fault_runs.proofs.Words.{zeros_world, tried_in}
use Rattle.std.specs.Prelude.{IfOk}
use Rattle.fault_runs.proofs.Ranges.{length-next_row, zeros-row}
use Rattle.fault_runs.proofs.put.tried_in.Goals as goal

pub faults_in-requires-clause-row : goal.faults_in-requires-clause-row
faults_in-requires-clause-row c =
    let list = c.args.common.now.list.now in
    let script = c.args.common.now.script.now in
    ap length (c.requires.row ∙ zeros-row list script c.args.slot script.slots c.requires.slot)
    ∙ length-next_row list script c.args.slot

pub returns-then-is_in_range : goal.returns-then-is_in_range
returns-then-is_in_range c =
    let list = c.args.common.now.list.now in
    let script = c.args.common.now.script.now in
    let first = c.args.common.now.first in
    let last = c.args.common.now.last in
    let slot = c.args.slot in
    let row = row_of (zeros_world list script script.slots) slot in
    let told : faults_in list script c.args.row.now slot ≡ tried_in list script first last slot =
    ap (λ (entries : List Entry). faults_in list script entries slot) c.requires.row
    ∙ ap (λ (b : Bool). cond b (faults_in list script row slot) [])
    (sym c.if-is_in_range.true ∙ c.is_in_range.ensures) in
    subst (λ (fs : List Event). IfOk c.faults_in.result (λ (faults : List Event). faults ≡ fs)) told c.faults_in.ensures

pub returns : goal.returns
returns c =
    let list = c.args.common.now.list.now in
    let script = c.args.common.now.script.now in
    let slot = c.args.slot in
    c.new.ensures
    ∙ ap (λ (b : Bool). cond b (faults_in list script (row_of (zeros_world list script script.slots) slot) slot) [])
    (sym c.if-is_in_range.false ∙ c.is_in_range.ensures)
