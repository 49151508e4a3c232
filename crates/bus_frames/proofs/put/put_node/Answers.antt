use Rattle.std.proofs.Common.{◌∙◌, List, [], ◌∷◌, ℕ, ap, sym, subst, arith, true≢false}
use Rattle.std.specs.Prelude.{is_some, OnOk, OnErr}
use Rattle.ttp_base.specs.Outside.{CutShort, WroteLines}
use Rattle.ttp_base.specs.Text.{Lines}
use Rattle.ttp_base.proofs.Outputs.{Wrote-none}
use Rattle.bus_frames.proofs.Channels.{no-lines}
use Rattle.bus_frames.proofs.Nodes.{got, line-of, long-alone}
use Rattle.bus_frames.proofs.Offsets.{signed-same}
use Rattle.line_text.proofs.ForAbove.{some_same}
use Rattle.bus_frames.proofs.put.put_node.Goals as goal

pub returns-then-not-lies_on-clause-ok : goal.returns-then-not-lies_on-clause-ok
returns-then-not-lies_on-clause-ok g c all offsets row before stands offset meets =
    subst (λ (lines : Lines). WroteLines (g.K.Sink.output c.args.out.now) (g.K.Sink.output c.args.out.now) lines)
    (sym (no-lines c.args.plant.now all offsets c.args.list.now c.args.script.now c.args.slot row before stands
    c.requires.list c.args.node c.requires.node c.args.channel
    (sym (c.lies_on.ensures all offsets row before stands) ∙ c.if-not-lies_on.true))) (Wrote-none _)

pub returns-in_default-clause-ok : goal.returns-in_default-clause-ok
returns-in_default-clause-ok g c all offsets row before stands offset meets =
    let near = c.requires.near in
    let ahead = c.clock_of.ensures.near in
    let off = signed-same c.args.offset (omega (arith, near)) in
    let clock = signed-same c.clock_of.result ahead in
    let told = got c.args.plant.now all offsets c.args.list.now c.args.script.now c.args.slot row before stands
    c.requires.list c.args.node c.requires.node c.args.channel
    (sym (c.lies_on.ensures all offsets row before stands) ∙ c.if-not-lies_on.false) c.args.offset _ _
    c.incidents-incidents.result c.sending_of.result offset off c.incidents-incidents.ensures.value
    (clock ∙ c.clock_of.ensures.value)
    (c.sending_of.ensures.told all offsets c.args.script.now c.args.slot row before stands) in
    absurd (true≢false (sym (ap is_some told) ∙ ap is_some c.in_default.is))

pub form_line-requires-clause-long : goal.form_line-requires-clause-long
form_line-requires-clause-long g c few =
    let p = c.requires.past in
    let near = c.requires.near in
    let ahead = c.clock_of.ensures.near in
    let off = signed-same c.args.offset (omega (arith, near)) in
    let clock = signed-same c.clock_of.result ahead in
    let lying = sym (c.lies_on.ensures p.chosen p.offsets p.some.row p.some.before p.some.stands)
    ∙ c.if-not-lies_on.false in
    let told = got c.args.plant.now p.chosen p.offsets c.args.list.now
    c.args.script.now c.args.slot p.some.row p.some.before
    p.some.stands c.requires.list c.args.node c.requires.node c.args.channel lying
    c.args.offset _ _ c.incidents-incidents.result c.sending_of.result p.offset_is off
    c.incidents-incidents.ensures.value (clock ∙ c.clock_of.ensures.value)
    (c.sending_of.ensures.told p.chosen p.offsets c.args.script.now c.args.slot
    p.some.row p.some.before p.some.stands) in
    long-alone c.args.plant.now p.chosen p.offsets c.args.list.now
    c.args.script.now c.args.slot p.some.row p.some.before
    p.some.stands c.requires.list c.args.node c.requires.node c.args.channel lying c.carried.result c.in-Some.sending
    c.carried.ensures (sym p.meets_is ∙ few) (some_same c.in-Some.sending _ (sym c.in-Some.is ∙ told))

pub returns-clause-ok : goal.returns-clause-ok
returns-clause-ok g c all offsets row before stands offset meets =
    let near = c.requires.near in
    let ahead = c.clock_of.ensures.near in
    let off = signed-same c.args.offset (omega (arith, near)) in
    let clock = signed-same c.clock_of.result ahead in
    let lying = sym (c.lies_on.ensures all offsets row before stands) ∙ c.if-not-lies_on.false in
    let told = got c.args.plant.now all offsets c.args.list.now c.args.script.now c.args.slot row before stands
    c.requires.list c.args.node c.requires.node c.args.channel lying c.args.offset _ _
    c.incidents-incidents.result c.sending_of.result offset off c.incidents-incidents.ensures.value
    (clock ∙ c.clock_of.ensures.value)
    (c.sending_of.ensures.told all offsets c.args.script.now c.args.slot row before stands) in
    let lines = line-of c.args.plant.now all offsets c.args.list.now c.args.script.now c.args.slot row before stands
    c.requires.list c.args.node c.requires.node c.args.channel lying c.carried.result c.args.meets c.in-Some.sending
    c.form_line.new.line c.carried.ensures (some_same c.in-Some.sending _ (sym c.in-Some.is ∙ told)) meets
    c.form_line.ensures in
    subst (λ (ls : Lines). OnOk c.write.result
    (WroteLines (g.K.Sink.output c.args.out.now) (g.K.Sink.output c.write.new.self) ls))
    (ap (λ (l : List ℕ). l ∷ []) c.bytes.ensures ∙ sym lines) c.write.ensures.ok

pub returns-clause-failed : goal.returns-clause-failed
returns-clause-failed g c all offsets row before stands offset meets =
    let near = c.requires.near in
    let ahead = c.clock_of.ensures.near in
    let off = signed-same c.args.offset (omega (arith, near)) in
    let clock = signed-same c.clock_of.result ahead in
    let lying = sym (c.lies_on.ensures all offsets row before stands) ∙ c.if-not-lies_on.false in
    let told = got c.args.plant.now all offsets c.args.list.now c.args.script.now c.args.slot row before stands
    c.requires.list c.args.node c.requires.node c.args.channel lying c.args.offset _ _
    c.incidents-incidents.result c.sending_of.result offset off c.incidents-incidents.ensures.value
    (clock ∙ c.clock_of.ensures.value)
    (c.sending_of.ensures.told all offsets c.args.script.now c.args.slot row before stands) in
    let lines = line-of c.args.plant.now all offsets c.args.list.now c.args.script.now c.args.slot row before stands
    c.requires.list c.args.node c.requires.node c.args.channel lying c.carried.result c.args.meets c.in-Some.sending
    c.form_line.new.line c.carried.ensures (some_same c.in-Some.sending _ (sym c.in-Some.is ∙ told)) meets
    c.form_line.ensures in
    subst (λ (ls : Lines). OnErr c.write.result
    (CutShort (g.K.Sink.output c.args.out.now) (g.K.Sink.output c.write.new.self) ls))
    (ap (λ (l : List ℕ). l ∷ []) c.bytes.ensures ∙ sym lines) c.write.ensures.failed
