use Rattle.std.proofs.Common.{◌≡◌, Bool, true, false, cond, ap, is_some, subst, sym, ◌∙◌}
use Rattle.std.specs.Prelude.{None, Option, Some}
use Rattle.causes.specs.Judged.{came_as_sent}
use Rattle.causes.specs.LinesOf.{is_as_sent}
use Rattle.causes.specs.Said as said
use Rattle.causes.specs.Said.{frame_to_join}
use Rattle.entry_causes.specs.Hearing.{IsHeardBelow, is_heard_as_sent, signal_heard}
use Rattle.entry_causes.specs.declared.bus.Heard.{Heard}
use Rattle.ttp_world.specs.Fitting.{joinable}
use Rattle.entry_causes.proofs.bus.frame_to_join.Goals as goal

abbrev joined_if : Bool → said.JoinedFrame → Option said.JoinedFrame
joined_if joins joined = cond joins (Some joined) None

pub returns-then-is_some-clause-value : goal.returns-then-is_some-clause-value
returns-then-is_some-clause-value c = λ s same.
    let sender = c.in-Bits.sender in
    let bytes = c.in-Bits.frame in
    let as_sent : c.in-Bits.is_as_sent ≡ is_as_sent s sender bytes =
    ap is_heard_as_sent (sym c.in-Bits.is) ∙ same ∙ ap (λ (h : Heard). came_as_sent s (signal_heard h)) c.in-Bits.is in
    let reads = ap is_some (c.read_explicit.ensures ∙ ap (joinable c.args.list.now) c.as_slice.ensures) in
    let joins : is_some (joinable c.args.list.now bytes) ≡ true =
    sym reads ∙ sym c.is_some.ensures ∙ c.if-is_some.true in
    (λ i. joined_if (sym joins i) (record { sender = sender; is_as_sent = as_sent i }))
    ∙ ap (λ (h : Heard). frame_to_join c.args.list.now s (signal_heard h)) (sym c.in-Bits.is)

pub returns-else-is_some-clause-value : goal.returns-else-is_some-clause-value
returns-else-is_some-clause-value c = λ s same.
    let sender = c.in-Bits.sender in
    let bytes = c.in-Bits.frame in
    let reads = ap is_some (c.read_explicit.ensures ∙ ap (joinable c.args.list.now) c.as_slice.ensures) in
    let joins : is_some (joinable c.args.list.now bytes) ≡ false =
    sym reads ∙ sym c.is_some.ensures ∙ c.if-is_some.false in
    ap (λ (b : Bool). joined_if b (record { sender = sender; is_as_sent = is_as_sent s sender bytes })) (sym joins)
    ∙ ap (λ (h : Heard). frame_to_join c.args.list.now s (signal_heard h)) (sym c.in-Bits.is)

pub returns-then-is_some-clause-sender : goal.returns-then-is_some-clause-sender
returns-then-is_some-clause-sender c = λ n below. subst (λ (h : Heard). IsHeardBelow n h) c.in-Bits.is below
