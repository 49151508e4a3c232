use Rattle.wave_text.proofs.Words.{ℕ, List, ◌++◌, ap, sym, ◌∙◌, flat_map-next, Port, all_whats, ports_in}
use Rattle.wave_text.proofs.ports.ports_with.Goals as goal

pub loop-host-preserved : goal.loop-host-preserved
loop-host-preserved c =
    let of_host : ℕ → List Port = ports_in c.args.sizes.now (all_whats c.args.nodes) in
    c.in_ok-add_host.ensures ∙ ap (λ (ports : List Port). ports ++ of_host c.loop-host.host) c.loop-host.invariant
    ∙ sym (flat_map-next of_host c.loop-host.host)
