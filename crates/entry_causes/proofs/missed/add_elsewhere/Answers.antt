use Rattle.std.proofs.Common.{refl}
use Rattle.causes.specs.Said.{path}
use Rattle.causes.specs.Sources.{only_entries}
use Rattle.entry_causes.proofs.Adding.{adds-both}
use Rattle.run_rows.specs.Rows.{past_slots}
use Rattle.entry_causes.proofs.missed.add_elsewhere.Goals as goal

pub returns : goal.returns
returns c =
    let before = past_slots c.args.run.now c.args.before in (
      refl,
      adds-both c.args.out.now c.add_path.new.out c.add_path-2.new.out (only_entries (path c.args.node before))
          (only_entries (path c.args.sender before)) c.in_ok-add_path.ensures c.in_ok-add_path-2.ensures,
    )
