use Rattle.std.proofs.Common.{◌≡◌, ℕ, ◌-◌, length, ap, sym, ◌∙◌}
use Rattle.causes.specs.RunSlots.{back_to}
use Rattle.run_looks.proofs.FromBelow.{length-past_slots_in}
use Rattle.run_rows.specs.Rows.{past_slots}
use Rattle.ttp_world.specs.Acknowledgement.{is_sent_or_joined}
use Rattle.run_looks.proofs.back.own_slot.Goals as goal

pub returns : goal.returns
returns c =
    let run = c.args.run.now in
    let count : c.back_to.result ≡ length (back_to is_sent_or_joined c.args.node (past_slots run c.args.before)) =
    sym (ap length c.back_to.ensures.is ∙ length-past_slots_in run.list run.script c.back_to.result) in
    c.saturating_sub.ensures ∙ ap (λ (n : ℕ). n - 1) count
