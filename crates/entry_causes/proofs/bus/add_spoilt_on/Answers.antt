use Rattle.std.proofs.Common.{ap, subst, sym, ◌∙◌}
use Rattle.std.specs.Prelude.{OnOk}
use Rattle.causes.specs.LinesOf.{flipping_lines, spoilt_by}
use Rattle.causes.specs.Sources as causes
use Rattle.causes.specs.Sources.{only_lines}
use Rattle.entry_causes.specs.Hearing.{signal_heard}
use Rattle.run_looks.specs.Added.{AddsSources}
use Rattle.entry_causes.proofs.FromBelow.{slot_in-number, slot_in-script}
use Rattle.run_rows.specs.Rows.{run_slot}
use Rattle.ttp_world.specs.Medium.{Signal}
use Rattle.entry_causes.proofs.bus.add_spoilt_on.Goals as goal

pub returns-in-Silence : goal.returns-in-Silence
returns-in-Silence c =
    let s = run_slot c.args.run.now c.args.slot in
    subst (λ (sources : causes.Sources).
    OnOk c.add_silencing.result (AddsSources c.args.out.now c.add_silencing.new.out sources))
    (ap (λ (h : Signal). spoilt_by c.args.node s c.args.channel h)
    (ap signal_heard (sym c.in-Silence.is) ∙ c.heard_in.ensures.signal))
    c.add_silencing.ensures

pub returns-in-Noise : goal.returns-in-Noise
returns-in-Noise c =
    let s = run_slot c.args.run.now c.args.slot in
    subst (λ (sources : causes.Sources).
    OnOk c.add_noise.result (AddsSources c.args.out.now c.add_noise.new.out sources))
    (ap (λ (h : Signal). spoilt_by c.args.node s c.args.channel h)
    (ap signal_heard (sym c.in-Noise.is) ∙ c.heard_in.ensures.signal))
    c.add_noise.ensures

pub returns-in-Bits : goal.returns-in-Bits
returns-in-Bits c =
    let run = c.args.run.now in
    let s = run_slot run c.args.slot in
    let scripts = sym (slot_in-script run.list run.script c.args.slot) in
    let numbers = sym (slot_in-number run.list run.script c.args.slot) in
    subst (λ (sources : causes.Sources).
    OnOk c.add_flipping.result (AddsSources c.args.out.now c.add_flipping.new.out sources))
    ((λ i. only_lines (flipping_lines (scripts i) c.in-Bits.sender c.args.channel
    (numbers i) (c.size_of.ensures.value i)))
    ∙ ap (λ (h : Signal). spoilt_by c.args.node s c.args.channel h)
    (ap signal_heard (sym c.in-Bits.is) ∙ c.heard_in.ensures.signal))
    c.add_flipping.ensures
