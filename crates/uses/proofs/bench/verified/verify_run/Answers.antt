use Rattle.std.proofs.Common.{◌≡◌, ◌∙◌, refl, [], ◌∷◌, length, ap, codes, arith}
use Rattle.std.specs.List.{concat}
use Rattle.ttp_base.specs.Outside.{holds}
use Rattle.commands.specs.Words.{texts_of}
use Rattle.uses.proofs.FromBelow.{surely_in_memory, judged_trace, own_text}
use Rattle.ttp_top.specs.Calls.Differences.{same_line}
use Rattle.ttp_top.specs.Calls.Words.{form_of}
use Rattle.uses.proofs.bench.verified.verify_run.Goals as goal

pub returns-clause-same : goal.returns-clause-same
returns-clause-same g c =
    let asked = ap form_of (ap texts_of c.deref.ensures.value ∙ c.in_ok-words.ensures) in
    let w = c.in_ok-text.ensures.trace in
    let made = c.in_ok-library in
    let five : length (concat (same_line ∷ [])) ≡ 5 = refl in
    judged_trace c.ask.ensures.answered.promise.call
    (surely_in_memory made.library (codes "list") c.args.list.now
    made.ensures.never made.ensures.counts made.ensures.list)
    (surely_in_memory made.library (codes "script") c.args.script.now made.ensures.never
    made.ensures.counts made.ensures.script) w.are
    (omega (arith, c.in_ok-out.ensures.quiet))
    (surely_in_memory made.library (codes "trace") c.in_ok-text.text.items made.ensures.never made.ensures.counts
    (made.ensures.trace ∙ ap holds c.as_slice.ensures.value))
    (c.ask.ensures.answered.of_verify (codes "list") (codes "script") (codes "trace") asked)
    (rw w.whole (own_text w.list w.script w.numbers w.valid w.valid_script w.legal))
    (omega (arith, five, c.in_ok-out.ensures.takes))
