use Rattle.std.proofs.Common.{◌≡◌, ◌∙◌, ◌++◌, List, ℕ, refl, ap, sym}
use Rattle.std.specs.List.{concat}
use Rattle.std.proofs.lemmas.List.Folds.{concat-append}
use Rattle.ttp_world.specs.Trace.{run_lines, test_lines}
use Rattle.uses.proofs.FromBelow.{right_once}
use Rattle.uses.proofs.bench.last_lines.run_and_keeps.Goals as goal

pub returns : goal.returns
returns g c =
    let r = c.in_ok-run.ensures.trace in
    let k = c.in_ok-keeps.ensures in
    let same = right_once k.are r.are in
    let front = concat (run_lines r.list r.script r.numbers) in
    let tests : test_lines r.list r.script ≡ test_lines k.list k.script = rw (same.0, same.1) refl in (
      front,
      r.whole ∙ concat-append (run_lines r.list r.script r.numbers) (test_lines r.list r.script)
          ∙ ap (λ (end : List ℕ). front ++ end) (ap concat tests ∙ sym k.whole),
    )
