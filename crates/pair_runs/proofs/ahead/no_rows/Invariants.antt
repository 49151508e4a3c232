use Rattle.std.proofs.Common.{◌≡◌, length}
use Rattle.std.specs.Prelude.{All}
use Rattle.ttp_world.specs.declared.medl.Medl.{Medl}
use Rattle.ttp_world.specs.declared.script.Script.{Script}
use Rattle.pair_runs.specs.Tries.{IsSingle}
use Rattle.pair_runs.proofs.ahead.no_rows.Given as goal

-- the loop's counter says how many rows there are, and none tells of a fault
abbrev pub invariant-loop : goal.invariant-loop
invariant-loop l =
    (length l.rows.items ≡ l.counter)
    × ((list : Medl) (script : Script) → All (λ row. All (IsSingle list script) row.all.items) l.rows.items)
