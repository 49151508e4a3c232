use Rattle.pair_runs.proofs.singles.find.Given as goal

abbrev pub invariant-loop-single : goal.invariant-loop-single
invariant-loop-single l = Unit {0}
