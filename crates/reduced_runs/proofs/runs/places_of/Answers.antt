use Rattle.std.proofs.Common.{ℕ, List, ◌<◌, [], ◌∷◌, ◌++◌, length, take, ap, sym, ◌∙◌, arith}
use Rattle.std.specs.Prelude.{get_or}
use Rattle.std.specs.List.{filter_map}
use Rattle.std.proofs.lemmas.List.{take_more}
use Rattle.std.proofs.lemmas.List.Elements.{filter_map-append}
use Rattle.causes.specs.declared.cause.ScriptLine.TheVariants as line
use Rattle.causes.specs.Reduced.{place_of_line}
use Rattle.reduced_runs.proofs.runs.places_of.Goals as goal

pub loop-line-preserved : goal.loop-line-preserved
loop-line-preserved c =
    let lines = c.args.lines.now in
    let i = c.loop-line.line-index in
    let within : i < length lines = omega arith in
    let here = get_or lines i (line.Event 0) in
    c.in_ok-add_place.ensures
    ∙ (ap (λ (places : List ℕ). places ++ filter_map place_of_line (here ∷ [])) c.loop-line.invariant
    ∙ sym (ap (filter_map place_of_line) (take_more lines i (line.Event 0) within)
    ∙ filter_map-append place_of_line (take i lines) (here ∷ [])))
