use Rattle.std.proofs.Common.{◌+◌, ◌-◌, ◌%◌, Bool, ◌&&◌, length, nat_le, ap, sym, ◌∙◌, arith}
use Rattle.std.specs.Prelude.{◌==◌}
use Rattle.std.proofs.lemmas.Bool.{le-leb, lt-leb}
use Rattle.causes.specs.RunSlots.{place_of_node}
use Rattle.entry_causes.proofs.FromBelow.{slot_in-list, slot_in-number}
use Rattle.run_rows.specs.Rows.{run_slot}
use Rattle.ttp_world.specs.declared.medl.Medl.{Medl}
use Rattle.entry_causes.proofs.listening.would_send.Goals as goal

pub nonzero_rem-result : goal.nonzero_rem-result
nonzero_rem-result c =
    omega (
      arith,
      c.list.ensures.valid.count,
      ap (λ (l : Medl). length l.slots)
          c.list.ensures.value,
      c.nodes-nodes.ensures,
    )

pub returns-then-left-later : goal.returns-then-left-later
returns-then-left-later c =
    let run = c.args.run.now in
    let q = c.args.node in
    let l = run_slot run c.args.left in
    let later = run_slot run c.args.later in
    let comes = ((place_of_node q l).slot + (later.begun.number - l.begun.number)) % length l.begun.list.slots == q in
    sym
    (ap (λ (b : Bool). b && comes)
    ((λ i. nat_le (slot_in-number run.list run.script c.args.left i)
    (slot_in-number run.list run.script c.args.later i))
    ∙ lt-leb c.args.left c.args.later c.if-left-later.true))

pub returns : goal.returns
returns c =
    let run = c.args.run.now in
    let q = c.args.node in
    let l = run_slot run c.args.left in
    let later = run_slot run c.args.later in
    let from = slot_in-number run.list run.script c.args.left in
    let to = slot_in-number run.list run.script c.args.later in
    let place = c.from.ensures ∙ c.place_slot.ensures.value in
    let distance = c.from-2.ensures ∙ (λ i. sym to i - sym from i) in
    let nodes =
    c.from-3.ensures ∙ c.nodes-nodes.ensures
    ∙ ap (λ (m : Medl). length m.slots) (c.list.ensures.value ∙ sym (slot_in-list run.list run.script c.args.left)) in
    let comes = ((place_of_node q l).slot + (later.begun.number - l.begun.number)) % length l.begun.list.slots == q in
    (λ i. (place i + distance i) % nodes i == c.from-4.ensures i)
    ∙ sym
    (ap (λ (b : Bool). b && comes)
    ((λ i. nat_le (from i) (to i)) ∙ le-leb c.args.left c.args.later (omega (arith, c.if-left-later.false))))
