use Rattle.std.proofs.Common.{◌≡◌, ap, sym, ◌∙◌, arith}
use Rattle.causes.specs.Judged.{came_as_sent}
use Rattle.causes.specs.LinesOf.{bytes_sent, heard_in}
use Rattle.entry_causes.proofs.Signals.{alone-sends, heard-in_slot, heard-many, heard-none, heard-one, heard-silenced}
use Rattle.entry_causes.specs.Hearing.{signal_heard}
use Rattle.entry_causes.proofs.FromBelow.{slot_in-number, slot_in-script}
use Rattle.run_rows.specs.Rows.{run_slot}
use Rattle.ttp_world.specs.Medium.{signal_of, with_noise}
use Rattle.entry_causes.proofs.bus.heard_in.Goals as goal
use Rattle.entry_causes.proofs.bus.heard_in.Goals.{After-heard_of}

pub returns-then-is_silenced-clause-signal : goal.returns-then-is_silenced-clause-signal
returns-then-is_silenced-clause-signal c =
    heard-silenced c.args.node (run_slot c.args.run.now c.args.slot) c.args.channel
    (sym c.is_silenced.ensures ∙ c.if-is_silenced.true)

pub returns-then-is_silenced-clause-as_sent : goal.returns-then-is_silenced-clause-as_sent
returns-then-is_silenced-clause-as_sent c =
    ap (came_as_sent (run_slot c.args.run.now c.args.slot))
    (heard-silenced c.args.node (run_slot c.args.run.now c.args.slot) c.args.channel
    (sym c.is_silenced.ensures ∙ c.if-is_silenced.true))

pub returns-then-count-eq0-clause-signal : goal.returns-then-count-eq0-clause-signal
returns-then-count-eq0-clause-signal c =
    heard-none c.args.node (run_slot c.args.run.now c.args.slot) c.args.channel c.remaining_in-remaining.result
    c.remaining_in-remaining.ensures.value (sym c.is_silenced.ensures ∙ c.if-is_silenced.false)
    (omega (arith, c.count.ensures, c.if-count-eq0.true))

pub returns-then-count-eq0-clause-as_sent : goal.returns-then-count-eq0-clause-as_sent
returns-then-count-eq0-clause-as_sent c =
    ap (came_as_sent (run_slot c.args.run.now c.args.slot))
    (heard-none c.args.node (run_slot c.args.run.now c.args.slot) c.args.channel c.remaining_in-remaining.result
    c.remaining_in-remaining.ensures.value (sym c.is_silenced.ensures ∙ c.if-is_silenced.false)
    (omega (arith, c.count.ensures, c.if-count-eq0.true)))

pub returns-in-None-clause-signal : goal.returns-in-None-clause-signal
returns-in-None-clause-signal c =
    heard-many c.args.node (run_slot c.args.run.now c.args.slot) c.args.channel c.remaining_in-remaining.result
    c.remaining_in-remaining.ensures.value (sym c.is_silenced.ensures ∙ c.if-is_silenced.false)
    (sym c.in-None.is ∙ c.alone.ensures) (λ none. omega (arith, c.count.ensures, c.if-count-eq0.false, none))

pub returns-in-None-clause-as_sent : goal.returns-in-None-clause-as_sent
returns-in-None-clause-as_sent c =
    ap (came_as_sent (run_slot c.args.run.now c.args.slot))
    (heard-many c.args.node (run_slot c.args.run.now c.args.slot) c.args.channel c.remaining_in-remaining.result
    c.remaining_in-remaining.ensures.value (sym c.is_silenced.ensures ∙ c.if-is_silenced.false)
    (sym c.in-None.is ∙ c.alone.ensures) (λ none. omega (arith, c.count.ensures, c.if-count-eq0.false, none)))

pub heard_of-requires-clause-sender : goal.heard_of-requires-clause-sender
heard_of-requires-clause-sender c =
    let run = c.args.run.now in
    (alone-sends run.list run.script c.args.slot c.args.channel c.remaining_in-remaining.result c.in-Some.sender
    c.remaining_in-remaining.ensures.value (sym c.in-Some.is ∙ c.alone.ensures)).node

pub heard_of-requires-clause-sends : goal.heard_of-requires-clause-sends
heard_of-requires-clause-sends c =
    let run = c.args.run.now in
    (alone-sends run.list run.script c.args.slot c.args.channel c.remaining_in-remaining.result c.in-Some.sender
    c.remaining_in-remaining.ensures.value (sym c.in-Some.is ∙ c.alone.ensures)).sends

heard : (c : After-heard_of)
    → signal_heard c.heard_of.result ≡ heard_in c.args.node (run_slot c.args.run.now c.args.slot) c.args.channel
heard c =
    let run = c.args.run.now in
    let s = run_slot run c.args.slot in
    let ch = c.args.channel in
    let p = c.in-Some.sender in
    let scripts = sym (slot_in-script run.list run.script c.args.slot) in
    let numbers = sym (slot_in-number run.list run.script c.args.slot) in
    c.heard_of.ensures.signal
    ∙ (λ i. with_noise (c.is_noisy.ensures i)
    (signal_of (scripts i) (numbers i) ch (record { sender = p; bytes = bytes_sent s.frames p })))
    ∙ heard-one c.args.node s ch c.remaining_in-remaining.result p c.remaining_in-remaining.ensures.value
    (sym c.is_silenced.ensures ∙ c.if-is_silenced.false) (sym c.in-Some.is ∙ c.alone.ensures)

pub returns-in-Some-clause-signal : goal.returns-in-Some-clause-signal
returns-in-Some-clause-signal c = heard ((goal.at.returns-in-Some-clause-signal c).After-heard_of)

pub returns-in-Some-clause-as_sent : goal.returns-in-Some-clause-as_sent
returns-in-Some-clause-as_sent c =
    c.heard_of.ensures.as_sent ∙ ap (came_as_sent (run_slot c.args.run.now c.args.slot))
    (heard ((goal.at.returns-in-Some-clause-as_sent c).After-heard_of))

pub returns-in-Some-clause-sender : goal.returns-in-Some-clause-sender
returns-in-Some-clause-sender c =
    let run = c.args.run.now in
    heard-in_slot run.list (run_slot run c.args.slot) c.in-Some.sender c.heard_of.result
    (alone-sends run.list run.script c.args.slot c.args.channel c.remaining_in-remaining.result c.in-Some.sender
    c.remaining_in-remaining.ensures.value (sym c.in-Some.is ∙ c.alone.ensures)) c.heard_of.ensures.sender
