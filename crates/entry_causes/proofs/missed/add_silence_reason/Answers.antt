use Rattle.std.proofs.Common.{drop, length, length-append, ap, ◌∙◌, arith}
use Rattle.causes.specs.LinesOf.{silencing_in}
use Rattle.causes.specs.declared.cause.Miss.TheVariants as miss
use Rattle.causes.specs.declared.cause.ScriptLine.{ScriptLine}
use Rattle.entry_causes.proofs.Drops.{drop-added}
use Rattle.run_rows.specs.Rows.{run_slot}
use Rattle.entry_causes.proofs.missed.add_silence_reason.Goals as goal

pub lines_from-requires : goal.lines_from-requires
lines_from-requires c =
    let all = ap length c.in_ok-add_silencing.ensures.lines in
    omega (arith, all, c.len-from.ensures, length-append {A = ScriptLine})

pub returns : goal.returns
returns c =
    let old = c.args.out.now.lines in
    let more = silencing_in c.args.node (run_slot c.args.run.now c.args.slot) c.args.channel in
    let is =
    c.in_ok-lines_from.ensures ∙ (λ i. drop (c.len-from.ensures i) (c.in_ok-add_silencing.ensures.lines i))
    ∙ drop-added old more in
    ((λ i. miss.Silenced (is i)), c.in_ok-add_silencing.ensures)
