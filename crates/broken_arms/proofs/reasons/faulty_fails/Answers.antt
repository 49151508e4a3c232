use Rattle.std.proofs.Common.{◌≡◌, ◌+◌, ◌≤◌, ◌<◌, Some, ◌∙◌, rules, arith}
use Rattle.std.proofs.lemmas.Bool.{le-leb, lt-leb}
use Rattle.ttp_world.specs.Returning.{two_rounds}
use Rattle.hypothesis.specs.Standing.{told_start}
use Rattle.broken_arms.specs.declared.reasons.NotOwed.TheVariants as why
use Rattle.broken_arms.proofs.Since.{is-long, not-long}
use Rattle.broken_arms.proofs.reasons.faulty_fails.Goals as goal

pub returns-then-slot-due : goal.returns-then-slot-due
returns-then-slot-due c =
    let list = c.args.list.now in
    let gap : c.two_rounds.result ≡ two_rounds list = search rules in
    let short : c.args.slot < c.args.since + two_rounds list = omega (arith, gap) in
    (λ i. Some (why.TooSoon c.args.since (c.args.since + gap i)))
    ∙ not-long list c.args.script.now (told_start c.args.start) c.args.node c.args.slot (Some c.args.since)
    c.requires.since (lt-leb (c.args.since + two_rounds list) c.args.slot short)

pub returns : goal.returns
returns c =
    let list = c.args.list.now in
    let gap : c.two_rounds.result ≡ two_rounds list = search rules in
    let long : c.args.since + two_rounds list ≤ c.args.slot = omega (arith, gap) in
    c.long_faulty_fails.ensures
    ∙ is-long list c.args.script.now (told_start c.args.start) c.args.node
    c.args.slot (Some c.args.since) c.requires.since
    (le-leb (c.args.since + two_rounds list) c.args.slot long)
