use Rattle.std.proofs.Common.{Option, refl, subst}
use Rattle.causes.specs.OwnSlots.{shared_by}
use Rattle.causes.specs.RunSlots.{RunSlot}
use Rattle.entry_causes.proofs.Adding.{adds-none}
use Rattle.entry_causes.specs.Shared.{AnswersBy}
use Rattle.entry_causes.specs.declared.own.Shared.{Shared}
use Rattle.run_rows.specs.Rows.{past_slots}
use Rattle.entry_causes.proofs.own.add_answer.Goals as goal

pub returns-in_ok-lacked-in-Some : goal.returns-in_ok-lacked-in-Some
returns-in_ok-lacked-in-Some c =
    let k = c.args.node in
    let before = past_slots c.args.run.now c.args.before in
    let shared : Shared = record { peer = c.place_slot.result; lacked = c.in_ok-lacked-in-Some.lacked } in
    subst (λ (o : Option RunSlot). AnswersBy shared c.args.out.now c.add_shared.new.out (shared_by k before o))
    c.in-Some.ensures.value
    (record {
      peer = c.place_slot.ensures.value;
      lacked = c.in_ok-lacked-in-Some.ensures.0;
      adds = c.in_ok-lacked-in-Some.ensures.1;
    })

pub returns-in-None : goal.returns-in-None
returns-in-None c =
    let k = c.args.node in
    let before = past_slots c.args.run.now c.args.before in
    let shared : Shared = record { peer = k; lacked = c.new.result } in
    subst (λ (o : Option RunSlot).
    AnswersBy shared c.args.out.now c.args.out.now (shared_by k before o)) c.in-None.ensures.value
    (record { peer = refl; lacked = c.new.ensures; adds = adds-none c.args.out.now })
