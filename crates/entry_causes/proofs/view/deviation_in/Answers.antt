use Rattle.std.proofs.Common.{◌*◌, ◌+ℤ◌, ◌-ℤ◌, ap, sym, ◌∙◌, arith, rules, w64, FitsSigned}
use Rattle.std.proofs.lemmas.Int.{to_z-of_z}
use Rattle.entry_causes.proofs.FromBelow.{slot_in-number, slot_in-script}
use Rattle.ttp_world.proofs.SmallTests.{span-abs}
use Rattle.ttp_world.specs.Script.{reading_error}
use Rattle.ttp_world.specs.declared.events.Incidents.{Incidents}
use Rattle.ttp_world.specs.declared.script.TheConstants.{ERROR_LIMIT, EVENT_LIMIT}
use Rattle.entry_causes.proofs.view.deviation_in.Goals as goal

pub deviation_of-requires : goal.deviation_of-requires
deviation_of-requires c =
    let from : FitsSigned w64 c.clock-from.result = search rules in
    let own : FitsSigned w64 c.clock-own.result = search rules in
    rw (to_z-of_z w64 c.clock-from.result from, to_z-of_z w64 c.clock-own.result own)
    (omega (
      arith,
      c.clock-from.ensures.near,
      c.clock-own.ensures.near,
      span-abs (EVENT_LIMIT * ERROR_LIMIT) c.incidents-incidents.result.error
          c.incidents-incidents.ensures.bounds.error,
    ))

pub returns : goal.returns
returns c =
    let run = c.args.run.now in
    let from : FitsSigned w64 c.clock-from.result = search rules in
    let own : FitsSigned w64 c.clock-own.result = search rules in
    let scripts = c.script.ensures.value ∙ sym (slot_in-script run.list run.script c.args.slot) in
    let numbers = sym (slot_in-number run.list run.script c.args.slot) in
    let error =
    ap (λ (i : Incidents). i.error) c.incidents-incidents.ensures.value
    ∙ (λ i. reading_error (scripts i) c.args.node (numbers i)) in
    let sent = to_z-of_z w64 c.clock-from.result from ∙ c.clock-from.ensures.value in
    let heard = to_z-of_z w64 c.clock-own.result own ∙ c.clock-own.ensures.value in
    let late : FitsSigned w64 c.deviation_of.result = search rules in
    to_z-of_z w64 c.deviation_of.result late ∙ c.deviation_of.ensures ∙ (λ i. (sent i -ℤ heard i) +ℤ error i)
