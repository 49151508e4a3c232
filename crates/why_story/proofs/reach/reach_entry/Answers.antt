use Rattle.std.proofs.Common.{List, ◌∷◌, [], ◌++◌, sym, ap, ◌∙◌, subst}
use Rattle.causes.specs.Members.{entry_at_spot}
use Rattle.causes.specs.declared.cause.Cause.{Cause}
use Rattle.causes.specs.declared.cause.Spot.{Spot}
use Rattle.causes.specs.declared.cause.Told.{Told}
use Rattle.why_story.specs.Marks.{AreMarked}
use Rattle.why_story.specs.RunSource.{source_slots, spot_at}
use Rattle.why_story.proofs.Reaching.{Reaches-other, Reaches-told, Reaches-unmarked}
use Rattle.why_story.proofs.Steps.{is-rank, not-rank, on-ok}
use Rattle.why_story.proofs.reach.reach_entry.Goals as goal

pub returns-then-not-has : goal.returns-then-not-has
returns-then-not-has g c = λ count marked slot are.
    Reaches-unmarked (source_slots (g.C.Causes.source c.args.causes.now)) count c.args.rank
    marked (spot_at c.args.slot c.args.node)
    c.args.reach.now are (sym (c.has.ensures.inside count marked are slot c.requires.most) ∙ c.if-not-has.true)

pub returns-then-rank_of_entry-rank : goal.returns-then-rank_of_entry-rank
returns-then-rank_of_entry-rank g c = λ count marked slot are.
    let run = source_slots (g.C.Causes.source c.args.causes.now) in
    let here = spot_at c.args.slot c.args.node in
    Reaches-other run count c.args.rank marked here c.args.reach.now are
    (not-rank c.entry.result (entry_at_spot run here) c.rank_of_entry.result
    c.args.rank c.rank_of_entry.ensures c.entry.ensures
    c.if-rank_of_entry-rank.true)

pub returns : goal.returns
returns g c = λ count marked slot are.
    let run = source_slots (g.C.Causes.source c.args.causes.now) in
    let here = spot_at c.args.slot c.args.node in
    let told : Cause → List Told = λ x. c.args.reach.now.told ++ record { spot = here; cause = x } ∷ [] in
    on-ok c.push.result
    (λ pushed.
    Reaches-told run count c.args.rank marked here c.args.reach.now _
    (sym (c.has.ensures.inside count marked are slot c.requires.most) ∙ c.if-not-has.false)
    (is-rank c.entry.result (entry_at_spot run here) c.rank_of_entry.result
    c.args.rank c.rank_of_entry.ensures c.entry.ensures
    c.if-rank_of_entry-rank.false)
    (subst (λ (es : List Spot). AreMarked count (es ++ marked) c.mark_all.new.self)
    (c.as_slice.ensures ∙ ap (λ (x : Cause). x.entries) c.in_ok-cause.ensures)
    (c.mark_all.ensures count marked are))
    (pushed ∙ ap told c.in_ok-cause.ensures))
    c.push.ensures.ok
