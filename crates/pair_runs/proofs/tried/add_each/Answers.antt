use Rattle.std.proofs.Common.{◌≡◌, ◌+◌, ◌++◌, ◌∷◌, [], take, ap, sym, ◌∙◌}
use Rattle.std.specs.Prelude.{map}
use Rattle.std.proofs.lemmas.List.{map-append, take_more}
use Rattle.ttp_world.specs.declared.script.Event.{Event}
use Rattle.pair_runs.specs.Tries.{pair_tried}
use Rattle.pair_runs.proofs.tried.add_each.Goals as goal

pub loop-two-preserved : goal.loop-two-preserved
loop-two-preserved c =
    let tried = pair_tried c.args.setting.now c.args.apart in
    let faults = c.args.faults.now in
    let i = c.loop-two.two-index in
    let two = c.two-item.result in
    let more : take i faults ++ two ∷ [] ≡ take (i + 1) faults =
    ap (λ (e : Event). take i faults ++ e ∷ []) c.two-item.is ∙ sym (take_more faults i two c.loop-two-test.true) in (
      c.in_ok-push.ensures.items
          ∙ (λ j. c.loop-two.invariant.0 j ++ c.in_ok-try_one.ensures.told j ∷ [])
          ∙ sym (map-append tried (take i faults) (two ∷ []))
          ∙ ap (map tried) more,
      c.in_ok-try_one.ensures.run,
    )
