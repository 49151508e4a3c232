use Rattle.fault_runs.proofs.Words.{◌≡◌, ◌≤◌, ◌+◌, ℕ, true, ap, sym, subst, ◌∙◌}
use Rattle.fault_runs.proofs.Words.{arith, Script, zeros_world, Cost, summary}
use Rattle.fault_runs.proofs.Words.{length}
use Rattle.std.specs.Prelude.{IfOk}
use Rattle.campaign.specs.Cost.{cost_of}
use Rattle.controller.specs.Agreement.{begins_at}
use Rattle.campaign.specs.Tried.{with_fault}
use Rattle.fault_runs.proofs.FromBelow.{next_row}
use Rattle.run_costs.specs.Later.{comes_later}
use Rattle.run_costs.specs.Standing.{IsSeenAfter}
use Rattle.run_costs.specs.States.{AreShown}
use Rattle.fault_runs.proofs.Losses.{loss-begins, loss-later}
use Rattle.fault_runs.proofs.Ranges.{length-next_row, zeros-row}
use Rattle.fault_runs.proofs.SameRuns.{merged-cost}
use Rattle.fault_runs.proofs.merged.cost_merged.Goals as goal

pub go_on_from-requires-clause-slots : goal.go_on_from-requires-clause-slots
go_on_from-requires-clause-slots c =
    let slots = ap (λ (s : Script). s.slots) c.requires.more in
    omega (arith, c.requires.own.before.count, c.requires.own.inside, slots)

pub go_on_from-requires-clause-other : goal.go_on_from-requires-clause-other
go_on_from-requires-clause-other c = record {
  same = c.requires.own.before.stands.same;
  zeros = c.requires.own.before.stands.zeros;
}

pub step-requires-clause-slot : goal.step-requires-clause-slot
step-requires-clause-slot c =
    let slots = ap (λ (s : Script). s.slots) c.requires.more in
    omega (arith, c.requires.own.inside, slots)

pub step-requires-clause-stands : goal.step-requires-clause-stands
step-requires-clause-stands c =
    let list = c.args.common.now.list.now in
    let script = c.args.common.now.script.now in
    let event = c.args.event.now in
    let slot = c.args.slot in
    let past = c.requires.own.before in
    let later : comes_later c.args.past.now.slots event ≡ true =
    ap (λ (n : ℕ). comes_later n event) past.count ∙ loss-later slot event c.requires.loss in
    let went =
    c.go_on_from.ensures script c.requires.more later
    (subst (λ (n : ℕ). IsSeenAfter c.args.past.now list script n) (sym past.count) past) in
    subst (λ (n : ℕ). IsSeenAfter c.go_on_from.new.self list c.args.more.now n) past.count went

pub did_same-requires : goal.did_same-requires
did_same-requires c =
    let list = c.args.common.now.list.now in
    let script = c.args.common.now.script.now in
    let now = c.states.ensures c.args.more.now (c.args.slot + 1) c.step.ensures.run (omega arith) in
    now.count ∙ sym (length-next_row list script c.args.slot)
    ∙ ap length (sym (c.requires.own.does ∙ zeros-row list script c.args.slot script.slots c.requires.own.inside))

pub returns-then-did_same-clause-cost : goal.returns-then-did_same-clause-cost
returns-then-did_same-clause-cost c =
    let list = c.args.common.now.list.now in
    let script = c.args.common.now.script.now in
    let event = c.args.event.now in
    let more = c.args.more.now in
    let slot = c.args.slot in
    let cost = c.in_ok-cost.cost in
    let is = c.requires.more in
    let begins : slot ≤ begins_at event = omega (arith, loss-begins slot event c.requires.loss) in
    let own : c.args.row.now ≡ next_row list script slot =
    c.requires.own.does ∙ zeros-row list script slot script.slots c.requires.own.inside in
    let now : AreShown list (with_fault script event)
    (zeros_world list (with_fault script event) (slot + 1)) c.states.result.now =
    subst (λ (s : Script). AreShown list s (zeros_world list s (slot + 1)) c.states.result.now) is
    (c.states.ensures more (slot + 1) c.step.ensures.run (omega arith)) in
    let told : cost ≡ cost_of list (with_fault script event) (zeros_world list (with_fault script event) (slot + 1)) =
    c.in_ok-cost.ensures more (slot + 1) c.step.ensures.run (omega arith)
    ∙ ap (λ (s : Script). cost_of list s (zeros_world list s (slot + 1))) is in
    let may = c.requires.may in
    let whole =
    merged-cost list script event slot c.args.common.now.settled c.args.row.now
    c.states.result.now c.args.common.now.end.now cost
    c.requires.loss begins c.requires.own.inside c.requires.settled may.settled may.end own now
    (c.did_same.ensures c.if-did_same.true) told
    ∙ ap (λ (s : Script). (summary list s).cost) (sym is) in
    subst (λ (k : Cost). IfOk c.with_end.result (λ (all : Cost). all ≡ k)) whole c.with_end.ensures
