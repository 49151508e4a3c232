use Rattle.std.proofs.Common.{◌≡◌, ◌≤◌, List, length, sym, subst, ◌∙◌}
use Rattle.std.specs.Prelude.{All}
use Rattle.ttp_world.specs.declared.script.Event.{Event}
use Rattle.ttp_world.specs.declared.script.TheConstants.{EVENT_LIMIT}
use Rattle.ttp_world.specs.Script.{IsBounded}
use Rattle.margin_runs.proofs.FromBelow.{all-bounded}
use Rattle.margin_runs.proofs.scripts.copy_of_script.Goals as goal

pub index-requires : goal.index-requires
index-requires c =
    let valid = c.requires.list.1 in
    let same : c.in_ok-events.events ≡ c.args.script.now.events = c.in_ok-events.ensures ∙ c.as_slice-3.ensures in
    record {
      count = subst (λ (es : List Event). length es ≤ EVENT_LIMIT) (sym same) valid.event_count;
      values =
          subst (All IsBounded) (sym same)
          (all-bounded c.requires.list.0 c.args.script.now c.args.script.now.events valid.events);
    }
