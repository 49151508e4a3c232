use Rattle.script_gen.proofs.Words.{◌≡◌, ◌+◌, ◌*◌, ◌++◌, ap, sym, ◌∙◌, arith, length, flat_map, below, drawn, fault_by}
use Rattle.script_gen.proofs.Words.{fault_within}
use Rattle.script_gen.proofs.LoopSteps.{faults-next, faults-past}
use Rattle.script_gen.proofs.faults.add_faults.Goals as goal
use Rattle.script_gen.proofs.faults.add_faults.Goals.{then-slot-slots+in_ok-push, else-slot-slots}

pub loop-j-preserved : goal.loop-j-preserved
loop-j-preserved c =
    let list = c.args.list.now in
    let slots = c.args.slots in
    let j = c.loop-j.j in
    let number = c.loop-j.draws.number in
    let before = c.loop-j.invariant in
    let drew : c.draw-draw.result ≡ drawn number (2 * length list.slots + j) =
    c.draw-draw.ensures.value ∙ ap (drawn number) before.count in
    let same =
    ap (λ m. c.args.events.now ++ flat_map (fault_within list slots m) (below (j + 1)))
    (sym c.draw-draw.ensures.number) in
    let nodes : c.from-nodes.result ≡ length list.slots = c.from-nodes.ensures ∙ c.nodes.ensures in
    let product : c.from-in-loop-j.result * (2 * c.from-nodes.result + 2) ≡ j * (2 * length list.slots + 2) =
    (λ i. c.from-in-loop-j.ensures i * (2 * nodes i + 2)) in
    record {
      number = c.draw-draw.ensures.number ∙ before.number;
      count = omega (arith, c.draw-draw.ensures.count, before.count);
      events = elim c.if-slot-slots.branch [
        | then-slot-slots+in_ok-push w ↦
            w.events-is
            ∙ faults-next list slots number j c.args.events.now c.loop-j.events w.push.new.self w.fault_by.result
            w.in_ok-push.ensures.ok before.events (w.fault_by.ensures ∙ ap (fault_by list j) drew)
            (omega (arith, w.if-slot-slots.true, product)) ∙ same
        | else-slot-slots w ↦
            w.events-is
            ∙ faults-past list slots number j c.args.events.now c.loop-j.events before.events
            (omega (arith, w.if-slot-slots.false, product)) ∙ same
      ];
    }
