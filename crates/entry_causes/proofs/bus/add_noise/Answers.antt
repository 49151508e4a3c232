use Rattle.std.proofs.Common.{ap, subst, sym, ◌∙◌, List, ℕ}
use Rattle.std.specs.Prelude.{OnOk, Option}
use Rattle.causes.specs.LinesOf.{noise_sources, spots_in}
use Rattle.causes.specs.Sources as causes
use Rattle.causes.specs.Sources.{only_entries}
use Rattle.causes.specs.declared.cause.ScriptLine.{ScriptLine}
use Rattle.run_looks.specs.Added.{AddsSources}
use Rattle.run_rows.specs.Rows.{run_slot}
use Rattle.entry_causes.proofs.bus.add_noise.Goals as goal

pub returns-in-Some : goal.returns-in-Some
returns-in-Some c =
    let s = run_slot c.args.run.now c.args.slot in
    subst (λ (sources : causes.Sources).
    OnOk c.add_line.result (AddsSources c.args.out.now c.add_line.new.self sources))
    (ap (λ (o : Option ScriptLine). noise_sources c.args.channel s o) (sym c.in-Some.is ∙ c.noisy_in.ensures))
    c.add_line.ensures

pub returns-in-None : goal.returns-in-None
returns-in-None c =
    let s = run_slot c.args.run.now c.args.slot in
    subst (λ (sources : causes.Sources).
    OnOk c.add_spots.result (AddsSources c.args.out.now c.add_spots.new.out sources))
    (ap (λ (nodes : List ℕ). only_entries (spots_in s nodes)) c.remaining_in.ensures.value
    ∙ ap (λ (o : Option ScriptLine). noise_sources c.args.channel s o) (sym c.in-None.is ∙ c.noisy_in.ensures))
    c.add_spots.ensures
