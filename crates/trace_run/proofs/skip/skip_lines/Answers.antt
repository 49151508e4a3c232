use Rattle.std.proofs.Common.{◌≡◌, ◌∙◌, ap, sym, drop, arith}
use Rattle.std.proofs.lemmas.List.{drop-drop}
use Rattle.ttp_base.specs.Text.{lines_of}
use Rattle.trace_run.proofs.skip.skip_lines.Goals as goal

pub loop-preserved : goal.loop-preserved
loop-preserved c =
    let lines = lines_of c.args.text.now in
    sym c.cut_line.ensures.others ∙ ap (drop 1) c.loop.invariant ∙ drop-drop 1 c.loop.counter lines

pub returns : goal.returns
returns c =
    let all : c.loop.counter ≡ c.args.count = omega arith in
    c.loop.invariant ∙ ap (λ n. drop n (lines_of c.args.text.now)) all
