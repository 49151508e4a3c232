use Rattle.std.proofs.Common.{◌≡◌, List, ◌++◌, length}
use Rattle.std.specs.Vec.Iter.{into_iter_items, into_iter_len}
use Rattle.ttp_base.specs.Outside.{Output}
use Rattle.clock_margins.specs.Outcomes.{ValueTold}
use Rattle.margin_runs.specs.Tries.{are_told}
use Rattle.margin_runs.specs.Written.{IsPutOf}
use Rattle.margin_runs.proofs.put.put_tolds.Given as goal

-- the values so far were taken
abbrev pub invariant-loop-told : goal.invariant-loop-told
invariant-loop-told g l =
    (l.yielded ++ into_iter_items l.told-iterator ≡ into_iter_items l.initial.told-iterator)
    × (into_iter_len l.told-iterator ≡ length (into_iter_items l.told-iterator))
    × ((start : Output) (tolds : List ValueTold)
    → IsPutOf start (g.K.Sink.output l.initial.out) l.list l.sweep tolds l.initial.swept
    → IsPutOf start (g.K.Sink.output l.out) l.list l.sweep (tolds ++ are_told l.yielded) l.swept)
