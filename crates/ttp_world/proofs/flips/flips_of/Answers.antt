use Rattle.ttp_world.proofs.Words.{◌<◌, [], ◌∷◌, ◌++◌, length, take, subst, ap, sym, ◌∙◌, arith, take_more, All-more}
use Rattle.ttp_world.proofs.Words.{filter_map-append, keyed_flip, HasFlipKey}
use Rattle.std.specs.List.{filter_map}
use Rattle.ttp_world.proofs.flips.flips_of.Goals as goal

pub loop-event-preserved : goal.loop-event-preserved
loop-event-preserved c =
    let events = c.args.events.now in
    let i = c.loop-event.event-index in
    let e = c.event-item.result in
    let within : i < length events = omega arith in
    record {
      value = c.in_ok-add_flip.ensures.ok
          ∙ ap (λ flips. flips ++ filter_map keyed_flip (e ∷ [])) c.loop-event.invariant.value
          ∙ ap (λ e. filter_map keyed_flip (take i events) ++ filter_map keyed_flip (e ∷ [])) c.event-item.is
          ∙ sym (ap (filter_map keyed_flip) (take_more events i e within)
          ∙ filter_map-append keyed_flip (take i events) _);
      slots = All-more HasFlipKey events i e within c.loop-event.invariant.slots
          (subst HasFlipKey c.event-item.is c.in_ok-add_flip.ensures.slots);
    }
