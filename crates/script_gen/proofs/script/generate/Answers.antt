use Rattle.script_gen.proofs.Words.{◌≡◌, ◌≤◌, length, map, replicate, Some, ap, sym, ◌∙◌, subst, All, below}
use Rattle.script_gen.proofs.Words.{EVENT_LIMIT, IsBounded, keeps, IsValidScript, drift_by}
use Rattle.script_gen.proofs.LoopSteps.{events-made, script-made}
use Rattle.script_gen.proofs.Valid.{all-valid, all-indexed}
use Rattle.script_gen.proofs.Kept.{keeps-generated}
use Rattle.script_gen.proofs.script.generate.Goals as goal

pub index-requires-clause-count : goal.index-requires-clause-count
index-requires-clause-count c =
    let list = c.args.list.now in
    let indexed = all-indexed list c.args.slots c.args.number c.requires.valid c.requires.slots.0 c.requires.slots.1 in
    let made = events-made list c.args.slots c.args.number c.from-draws.result.number c.add_clocks.new.draws.number
    c.in_ok-events.events c.add_clocks.new.events c.add_faults.new.events c.add_host_events.new.events
    c.in_ok-events.ensures c.in_ok-add_clocks.ensures.events c.in_ok-add_faults.ensures
    c.in_ok-add_host_events.ensures c.from-draws.ensures.number c.add_clocks.ensures.number in
    subst (λ events. length events ≤ EVENT_LIMIT) (sym made) indexed.0

pub index-requires-clause-values : goal.index-requires-clause-values
index-requires-clause-values c =
    let list = c.args.list.now in
    let indexed = all-indexed list c.args.slots c.args.number c.requires.valid c.requires.slots.0 c.requires.slots.1 in
    let made = events-made list c.args.slots c.args.number c.from-draws.result.number c.add_clocks.new.draws.number
    c.in_ok-events.events c.add_clocks.new.events c.add_faults.new.events c.add_host_events.new.events
    c.in_ok-events.ensures c.in_ok-add_clocks.ensures.events c.in_ok-add_faults.ensures
    c.in_ok-add_host_events.ensures c.from-draws.ensures.number c.add_clocks.ensures.number in
    subst (All IsBounded) (sym made) indexed.1

pub returns : goal.returns
returns c =
    let list = c.args.list.now in
    let made = events-made list c.args.slots c.args.number c.from-draws.result.number c.add_clocks.new.draws.number
    c.in_ok-events.events c.add_clocks.new.events c.add_faults.new.events c.add_host_events.new.events
    c.in_ok-events.ensures c.in_ok-add_clocks.ensures.events c.in_ok-add_faults.ensures
    c.in_ok-add_host_events.ensures c.from-draws.ensures.number c.add_clocks.ensures.number in
    let on : c.in_ok-on.on ≡ replicate (length list.slots) (Some 0) =
    c.in_ok-on.ensures ∙ ap (λ n. replicate n (Some 0)) c.nodes-2.ensures in
    let drift : c.add_clocks.new.drift ≡ map (drift_by list c.args.number) (below (length list.slots)) =
    c.in_ok-add_clocks.ensures.drift
    ∙ ap (λ number. map (drift_by list number) (below (length list.slots))) c.from-draws.ensures.number in
    let script =
    script-made list c.args.slots c.args.number c.in_ok-on.on c.add_clocks.new.drift c.in_ok-events-2.events on drift
    (c.in_ok-events-2.ensures ∙ made) in
    record {
      script = script;
      valid = subst (IsValidScript list) (sym script)
          (all-valid list c.args.slots c.args.number c.requires.valid c.requires.slots.0 c.requires.slots.1);
      keeps = λ window some. ap (keeps list) script
          ∙ keeps-generated list c.args.slots c.args.number c.requires.valid window some;
    }
