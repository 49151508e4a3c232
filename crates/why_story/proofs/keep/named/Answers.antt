use Rattle.std.proofs.Common.{sym, ◌∙◌}
use Rattle.causes.specs.Story.{has_spot}
use Rattle.why_story.proofs.Marked.{filter-end, filter-skip, filter-take}
use Rattle.why_story.proofs.keep.named.Goals.{then-has+in_ok-push, else-has}
use Rattle.why_story.proofs.keep.named.Goals as goal

pub loop-entry-preserved : goal.loop-entry-preserved
loop-entry-preserved c =
    let entries = c.args.entries.now in
    let i = c.loop-entry.entry-index in
    elim c.if-has.branch [
      | then-has+in_ok-push w ↦ λ count leading are within.
          w.named-is
          ∙ (w.in_ok-push.ensures.ok
          ∙ filter-take (has_spot leading) entries c.loop-entry.named i _ c.loop-entry-test.true
          (sym (c.has.ensures.whole count leading are within) ∙ w.if-has.true)
          (c.loop-entry.invariant count leading are within))
      | else-has w ↦ λ count leading are within.
          w.named-is
          ∙ filter-skip (has_spot leading) entries c.loop-entry.named i _ c.loop-entry-test.true
          (sym (c.has.ensures.whole count leading are within) ∙ w.if-has.false)
          (c.loop-entry.invariant count leading are within)
    ]

pub returns : goal.returns
returns c = λ count leading are within.
    filter-end (has_spot leading) c.args.entries.now c.loop-entry.named c.loop-entry.entry-index c.loop-entry-test.false
    (c.loop-entry.invariant count leading are within)
