use Rattle.std.proofs.Common.{ℕ, not, sym, ap, ◌∙◌}
use Rattle.std.specs.Prelude.{nat_le}
use Rattle.std.proofs.lemmas.Bool.{not-true, and_parts}
use Rattle.ttp_world.specs.declared.script.Script.{Script}
use Rattle.ttp_world.specs.Returning.{is_arm}
use Rattle.controller.specs.Agreement.{begins_at}
use Rattle.clock_margins.specs.Outcomes.{was_split_beside}
use Rattle.ttp_world.specs.ZerosWorld.{zeros_world}
use Rattle.margin_runs.proofs.FromBelow.{later-begins}
use Rattle.margin_runs.proofs.SplitBeside.{split-longer}
use Rattle.margin_runs.proofs.beside.BesideRun.go_on_from.Goals as goal

pub returns-clause-run : goal.returns-clause-run
returns-clause-run c = λ script is later past.
    let list = c.args.list.now in
    let event = c.args.event.now in
    let node = c.args.past.now.node in
    let slots = c.args.past.now.run.slots in
    let same = c.requires.node in
    let plain = not-true (is_arm event) (and_parts (nat_le slots (begins_at event)) (not (is_arm event)) later).1 in
    record {
      run = c.go_on_from.ensures script is later past.run;
      node = rw same past.node;
      split =
          past.split
          ∙ split-longer list script event plain node slots (later-begins slots event later)
          ∙ ap (λ (s : Script). was_split_beside list s node (zeros_world list s slots)) (sym is)
          ∙ ap (λ (k : ℕ). was_split_beside list c.args.more.now k (zeros_world list c.args.more.now slots)) (sym same);
    }
