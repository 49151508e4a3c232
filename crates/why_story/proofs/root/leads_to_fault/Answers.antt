use Rattle.std.proofs.Common.{sym, ap, ◌∙◌, arith}
use Rattle.std.specs.List.{list_any}
use Rattle.causes.specs.Story.{has_fault_line}
use Rattle.why_story.proofs.Marked.{any-end, any-found}
use Rattle.why_story.proofs.Roots.{leads-before}
use Rattle.why_story.proofs.root.leads_to_fault.Goals as goal

pub returns-then-has_fault_line : goal.returns-then-has_fault_line
returns-then-has_fault_line g c =
    let names = has_fault_line c.args.script.now in
    any-found names c.as_slice-one-items.result.now c.loop-one.one-index c.one-item.result c.loop-one-test.true
    (ap names (sym c.one-item.is) ∙ (sym c.has_fault_line.ensures ∙ c.if-has_fault_line.true))
    ∙ (ap (list_any names) (c.as_slice-one-items.ensures ∙ c.in_ok-told.ensures)
    ∙ leads-before (g.C.Causes.source c.args.causes.now) c.args.script.now c.args.nodes c.args.slot c.args.from
    (omega (arith, c.requires.slot)) c.requires.nodes c.requires.most)

pub returns : goal.returns
returns g c =
    let names = has_fault_line c.args.script.now in
    any-end names c.as_slice-one-items.result.now c.loop-one.one-index c.loop-one-test.false c.loop-one.invariant
    ∙ (ap (list_any names) (c.as_slice-one-items.ensures ∙ c.in_ok-told.ensures)
    ∙ leads-before (g.C.Causes.source c.args.causes.now) c.args.script.now c.args.nodes c.args.slot c.args.from
    (omega (arith, c.requires.slot)) c.requires.nodes c.requires.most)
