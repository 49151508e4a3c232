use Rattle.std.proofs.Common.{subst, ◌≤◌, unsigned_abs, ℤ, ◌≡◌, ◌+ℤ◌, ap, sym, ◌∙◌, of_z, to_z, w64, ◌&&◌, not}
use Rattle.std.proofs.lemmas.Int.{to_z-of_z}
use Rattle.controller.specs.Limits.{most_clock}
use Rattle.run_rows.proofs.Beginning.{clock-moves, clock-stays}
use Rattle.run_rows.proofs.Near.{jump-same, jumped-fits, jumped-near, kept-near, near-same}
use Rattle.run_rows.specs.Begun.{is_off_phase}
use Rattle.ttp_world.specs.Script.{is_armed, is_on, jump_of}
use Rattle.ttp_world.specs.declared.events.Incidents.{Incidents}
use Rattle.ttp_world.specs.declared.node.Phase.{Phase}
use Rattle.run_rows.proofs.begun.clock_in.Goals as goal

pub returns-then-stays_off-clause-value : goal.returns-then-stays_off-clause-value
returns-then-stays_off-clause-value c = λ past phase offset.
    let list = c.args.list.now in
    let script = c.args.script.now in
    let k = c.args.node in
    let slot = c.args.slot in
    near-same slot c.args.offset c.requires.near c.requires.slot
    ∙ clock-stays list k (is_on script k slot) (is_armed script k slot) past
    (jump_of script k slot) c.args.offset offset
    (ap (λ (p : Phase). is_off_phase p && not (is_on script k slot)) phase
    ∙ sym c.stays_off.ensures ∙ c.if-stays_off.true)

pub returns-else-stays_off-clause-value : goal.returns-else-stays_off-clause-value
returns-else-stays_off-clause-value c = λ past phase offset.
    let list = c.args.list.now in
    let script = c.args.script.now in
    let k = c.args.node in
    let slot = c.args.slot in
    let jump = c.incidents.result.jump in
    let own = near-same slot c.args.offset c.requires.near c.requires.slot in
    let more : to_z w64 (of_z w64 jump) ≡ jump = jump-same jump c.incidents.ensures.bounds.jump in
    ap (λ (z : ℤ). to_z w64 (of_z w64 z)) (λ i. own i +ℤ more i)
    ∙ to_z-of_z w64 (c.args.offset +ℤ jump)
    (jumped-fits slot c.args.offset jump c.requires.near c.requires.slot c.incidents.ensures.bounds.jump)
    ∙ ap (λ (n : Incidents). c.args.offset +ℤ n.jump) c.incidents.ensures.value
    ∙ clock-moves list k (is_on script k slot) (is_armed script k slot) past
    (jump_of script k slot) c.args.offset offset
    (ap (λ (p : Phase). is_off_phase p && not (is_on script k slot)) phase
    ∙ sym c.stays_off.ensures ∙ c.if-stays_off.false)

pub returns-then-stays_off-clause-near : goal.returns-then-stays_off-clause-near
returns-then-stays_off-clause-near c =
    subst (λ (z : ℤ). unsigned_abs z ≤ most_clock)
    (sym (near-same c.args.slot c.args.offset c.requires.near c.requires.slot))
    (kept-near c.args.slot c.args.offset c.requires.near c.requires.slot)

pub returns-else-stays_off-clause-near : goal.returns-else-stays_off-clause-near
returns-else-stays_off-clause-near c =
    let slot = c.args.slot in
    let jump = c.incidents.result.jump in
    let own = near-same slot c.args.offset c.requires.near c.requires.slot in
    let more : to_z w64 (of_z w64 jump) ≡ jump = jump-same jump c.incidents.ensures.bounds.jump in
    subst (λ (z : ℤ). unsigned_abs z ≤ most_clock)
    (sym (ap (λ (z : ℤ). to_z w64 (of_z w64 z)) (λ i. own i +ℤ more i)
    ∙ to_z-of_z w64 (c.args.offset +ℤ jump)
    (jumped-fits slot c.args.offset jump c.requires.near c.requires.slot c.incidents.ensures.bounds.jump)))
    (jumped-near slot c.args.offset jump c.requires.near c.requires.slot c.incidents.ensures.bounds.jump)
