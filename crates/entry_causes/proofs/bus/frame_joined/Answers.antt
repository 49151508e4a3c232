use Rattle.std.proofs.Common.{ap, sym, ◌∙◌}
use Rattle.std.specs.Option.{option_map, option_or}
use Rattle.causes.specs.LinesOf.{heard_in}
use Rattle.causes.specs.Said.{frame_to_join}
use Rattle.entry_causes.specs.Hearing.{joined_shown}
use Rattle.run_rows.specs.Rows.{run_slot}
use Rattle.ttp_world.specs.declared.script.Channel.TheVariants as channel
use Rattle.entry_causes.proofs.bus.frame_joined.Goals as goal

pub returns-in-Some-clause-value : goal.returns-in-Some-clause-value
returns-in-Some-clause-value c =
    let s = run_slot c.args.run.now c.args.slot in
    let a = ap (option_map joined_shown) (sym c.in-Some.is) ∙ c.frame_on.ensures.value in
    (λ i. option_or (a i) (frame_to_join s.begun.list s (heard_in c.args.node s channel.B)))

pub returns-in-None-clause-value : goal.returns-in-None-clause-value
returns-in-None-clause-value c =
    let s = run_slot c.args.run.now c.args.slot in
    let a = ap (option_map joined_shown) (sym c.in-None.is) ∙ c.frame_on.ensures.value in
    c.frame_on-in-None.ensures.value
    ∙ (λ i. option_or (a i) (frame_to_join s.begun.list s (heard_in c.args.node s channel.B)))
