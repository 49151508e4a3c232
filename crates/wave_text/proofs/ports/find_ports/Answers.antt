use Rattle.wave_text.proofs.Words.{List, ap, sym, subst, ◌∙◌, All, flat_map, Head, Port, ports_of, HasLetters}
use Rattle.wave_text.proofs.PortLists.{have_letters, noted_ports}
use Rattle.wave_text.proofs.ports.find_ports.Goals as goal

pub returns-clause-value : goal.returns-clause-value
returns-clause-value c =
    let trace = c.args.trace.now in
    let lines = flat_map (λ slot. slot.hosts) trace.slots in
    let n = c.head-head.result.nodes in
    c.in_ok-ports.ensures ∙ noted_ports c.sizes_in-sizes.result lines n
    c.sizes_in-sizes.ensures c.head-head.ensures.nodes.1
    ∙ ap (λ (h : Head). ports_of h.nodes lines) c.head-head.ensures.value

pub returns-clause-letters : goal.returns-clause-letters
returns-clause-letters c =
    let trace = c.args.trace.now in
    let lines = flat_map (λ slot. slot.hosts) trace.slots in
    let n = c.head-head.result.nodes in
    subst (λ (ports : List Port). All HasLetters ports)
    (sym (c.in_ok-ports.ensures
    ∙ noted_ports c.sizes_in-sizes.result lines n c.sizes_in-sizes.ensures c.head-head.ensures.nodes.1))
    (have_letters lines n c.head-head.ensures.nodes.1)
