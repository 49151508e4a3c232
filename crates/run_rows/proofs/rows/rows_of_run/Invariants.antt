use Rattle.std.proofs.Common.{◌≡◌, length}
use Rattle.run_costs.specs.Standing.{IsRunAfter}
use Rattle.run_rows.specs.Begun.{AreBegun}
use Rattle.run_rows.specs.Kept.{AreKeptOf}
use Rattle.run_rows.specs.Rows.{AreRowsNear, rows_in}
use Rattle.run_rows.proofs.rows.rows_of_run.Given as goal

-- the run so far, what is kept and begun behind it, and its rows
abbrev pub invariant-loop-slot : goal.invariant-loop-slot
invariant-loop-slot l = record {
  run : IsRunAfter l.run l.list l.script l.slot;
  kept : AreKeptOf l.list l.script l.slot (length l.list.slots) l.kept;
  begun : AreBegun l.list l.script l.slot (length l.list.slots) l.begun;
  rows : l.rows ≡ rows_in l.list l.script l.slot;
  near : AreRowsNear l.list l.script l.slot;
}
