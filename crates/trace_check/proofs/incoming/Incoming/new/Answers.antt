use Rattle.trace_check.proofs.Words.{◌≡◌, ◌∙◌, ℕ, ◌*◌, ◌+◌, ap, length, arith, length-replicate, nodes-most}
use Rattle.trace_check.proofs.FirstIncoming.{first-tells}
use Rattle.trace_check.proofs.incoming.Incoming.new.Goals as goal

pub returns-clause-tells : goal.returns-clause-tells
returns-clause-tells c = λ script.
    let n = c.len-nodes.result in
    let count : n ≡ length c.args.list.now.slots = omega arith in
    first-tells _ c.args.list.now script (omega (arith, nodes-most c.args.list.now c.requires)) (omega arith)
    c.in_ok-first_payloads.ensures c.in_ok-first_statuses.ensures
    (ap length c.in_ok-first_floors.ensures ∙ length-replicate {A = ℕ} (n * (n + 1)) 0
    ∙ ap (λ (m : ℕ). m * (m + 1)) count)
