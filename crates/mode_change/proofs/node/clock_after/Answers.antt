use Rattle.std.proofs.Common.{sym, subst}
use Rattle.ttp_world.specs.declared.node.Entry.{Entry}
use Rattle.ttp_world.specs.After.{place_after}
use Rattle.node_parts.specs.ClockStandsFor.{ClockStandsFor}
use Rattle.mode_change.proofs.node.clock_after.Goals as goal

pub returns-in-Sent : goal.returns-in-Sent
returns-in-Sent c place stands =
    let list = c.args.list.now in
    subst (λ (e : Entry). ClockStandsFor c.next_clock.result list (place_after list c.args.node place e))
    (sym c.in-Sent.is)
    (c.next_clock.ensures list place stands)

pub returns-in-Judged : goal.returns-in-Judged
returns-in-Judged c place stands =
    let list = c.args.list.now in
    subst (λ (e : Entry). ClockStandsFor c.next_clock-in-Judged.result list (place_after list c.args.node place e))
    (sym c.in-Judged.is) (c.next_clock-in-Judged.ensures list place stands)
