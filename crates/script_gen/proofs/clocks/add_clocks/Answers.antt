use Rattle.script_gen.proofs.Words.{◌≡◌, ◌+◌, ◌-◌, ◌*◌, [], ◌∷◌, ◌++◌, ap, map, sym, ◌∙◌, rules, arith, below, drawn}
use Rattle.script_gen.proofs.Words.{spread_over, drift_by, error_by}
use Rattle.std.proofs.Common.{SFits, w64}
use Rattle.std.proofs.lemmas.Int.{to_z-of_z}
use Rattle.ttp_world.specs.declared.script.Event.TheVariants as event
use Rattle.script_gen.proofs.LoopSteps.{drifts-next, errors-next}
use Rattle.script_gen.proofs.clocks.add_clocks.Goals as goal

pub loop-node-preserved : goal.loop-node-preserved
loop-node-preserved c =
    let list = c.args.list.now in
    let slots = c.args.slots in
    let node = c.loop-node.node in
    let draws = c.loop-node.draws in
    let middle = c.spread.new.draws in
    let before = c.loop-node.invariant in
    let once : middle.number ≡ draws.number = c.spread.ensures.number in
    let twice : c.spread-in-loop-node.new.draws.number ≡ draws.number = c.spread-in-loop-node.ensures.number ∙ once in
    let place : middle.count ≡ 2 * node + 1 = omega (arith, c.spread.ensures.count, before.count) in
    let fits : SFits w64 c.spread.result = search rules in
    let drift_fits : SFits w64 list.drift = search rules in
    let error_fits : SFits w64 list.error = search rules in
    let fits_too : SFits w64 c.spread-in-loop-node.result = search rules in
    record {
      number = twice ∙ before.number;
      count = omega (arith, c.spread.ensures.count, c.spread-in-loop-node.ensures.count, before.count);
      drift = drifts-next list draws.number node draws.count c.loop-node.drift c.push.new.self c.spread.result
          (c.in_ok-push.ensures.ok
          ∙ ap (λ z. c.loop-node.drift ++ z ∷ []) (to_z-of_z w64 c.spread.result fits)) before.drift
          (c.spread.ensures.value
          ∙ ap (λ bound. spread_over bound (drawn draws.number draws.count))
          (to_z-of_z w64 list.drift drift_fits))
          before.count
          ∙ ap (λ number. map (drift_by list number) (below (node + 1))) (sym twice);
      events = errors-next list slots draws.number node middle.count c.args.events.now c.loop-node.events
          c.push-in-loop-node.new.self c.spread-in-loop-node.result
          (c.in_ok-push-2.ensures.ok
          ∙ ap (λ z. c.loop-node.events ++ event.Error node z 0 (slots - 1) ∷ [])
          (to_z-of_z w64 c.spread-in-loop-node.result fits_too)) before.events
          (c.spread-in-loop-node.ensures.value
          ∙ ap (λ bound. spread_over bound (drawn middle.number middle.count)) (to_z-of_z w64 list.error error_fits)
          ∙ ap (λ number. spread_over list.error (drawn number middle.count)) once) place
          ∙ ap (λ number. c.args.events.now ++ map (error_by list slots number) (below (node + 1))) (sym twice);
    }
