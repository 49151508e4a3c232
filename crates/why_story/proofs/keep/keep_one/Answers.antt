use Rattle.std.proofs.Common.{List, [], ◌++◌, sym, ap, ◌∙◌, subst}
use Rattle.std.proofs.lemmas.List.Elements.{All-head}
use Rattle.causes.specs.Story.{has_spot}
use Rattle.causes.specs.declared.cause.Spot.{Spot}
use Rattle.std.specs.Prelude.{filter}
use Rattle.why_story.specs.Marks.{AreMarked}
use Rattle.why_story.proofs.Keeping.{Keeps-marked, Keeps-unmarked}
use Rattle.why_story.proofs.Steps.{on-ok}
use Rattle.why_story.proofs.Within.{IsWithin}
use Rattle.why_story.proofs.keep.keep_one.Goals as goal

pub returns-then-not-has : goal.returns-then-not-has
returns-then-not-has c = λ count leading marked are within marks told.
    let here = All-head (λ t. IsWithin count t.spot) c.args.told [] told in
    Keeps-unmarked count leading marked c.args.told c.args.kept.now marks
    (sym (c.has.ensures.inside count marked marks here.0 here.1) ∙ c.if-not-has.true)

pub returns : goal.returns
returns c = λ count leading marked are within marks told.
    let here = All-head (λ t. IsWithin count t.spot) c.args.told [] told in
    let named = c.in_ok-entries.entries in
    on-ok c.push.result
    (λ pushed.
    Keeps-marked count leading marked c.args.told named c.args.kept.now _
    (sym (c.has.ensures.inside count marked marks here.0 here.1) ∙ c.if-not-has.false)
    (c.in_ok-entries.ensures count leading are within ∙ ap (filter (has_spot leading)) c.as_slice.ensures)
    (subst (λ (es : List Spot). AreMarked count (es ++ marked) c.mark_all.new.self) c.as_slice-2.ensures
    (c.mark_all.ensures count marked marks))
    pushed)
    c.push.ensures.ok
