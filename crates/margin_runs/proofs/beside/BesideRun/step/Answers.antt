use Rattle.std.proofs.Common.{◌≡◌, ℕ, ◌+◌, ◌<◌, List, length, ap, ◌∙◌, arith}
use Rattle.ttp_base.specs.NodeSet.{has_node}
use Rattle.clock_margins.specs.Outcomes.{is_sound_beside}
use Rattle.margin_runs.proofs.SplitBeside.{sound-beside, split-more}
use Rattle.margin_runs.proofs.beside.BesideRun.step.Goals as goal

pub are_split-are_split-requires-clause-run : goal.are_split-are_split-requires-clause-run
are_split-are_split-requires-clause-run c = (c.args.script.now, c.args.slot + 1, c.step.ensures.run, omega arith)

pub returns-clause-run : goal.returns-clause-run
returns-clause-run c =
    let list = c.args.list.now in
    let script = c.args.script.now in
    let node = c.args.self.now.node in
    let slot = c.args.slot in
    let beside = c.requires.run in
    let correct = c.without-correct.result in
    let counts : (k : ℕ) → k < length list.slots → has_node correct k ≡ is_sound_beside list script node slot k =
    λ k within. ap (λ (s : List ℕ). has_node s k) c.without-correct.ensures
    ∙ sound-beside list script slot node c.step.result c.step.ensures.correct k within in
    let now = c.are_split-are_split.ensures script (slot + 1) (is_sound_beside list script node slot) c.step.ensures.run
    (omega arith) counts in
    record {
      run = c.step.ensures.run;
      node = beside.node;
      split =
          c.either-self.ensures
          ∙ split-more list script slot node c.are_split-are_split.result c.args.self.now.split now beside.split;
    }
