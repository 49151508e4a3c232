use Rattle.std.proofs.Common.{◌≡◌, ◌-◌, length, ap, sym, ◌∙◌}
use Rattle.causes.specs.RunSlots.{back_to, is_left}
use Rattle.run_looks.proofs.FromBelow.{length-past_slots_in}
use Rattle.run_rows.specs.Rows.{past_slots}
use Rattle.run_looks.proofs.back.newest_departure.Goals as goal

pub returns : goal.returns
returns c =
    let run = c.args.run.now in
    let count : c.back_to.result ≡ length (back_to is_left c.args.node (past_slots run c.args.before)) =
    sym (ap length c.back_to.ensures.is ∙ length-past_slots_in run.list run.script c.back_to.result) in
    c.newest_spot.ensures ∙ (λ i. record { slot = count i - 1; node = c.args.node })
