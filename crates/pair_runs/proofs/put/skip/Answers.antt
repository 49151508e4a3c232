use Rattle.std.proofs.Common.{◌≡◌, ℕ, subst, arith}
use Rattle.fault_runs.specs.Tries.{IsOwnAfter}
use Rattle.pair_runs.proofs.put.skip.Goals as goal

pub returns : goal.returns
returns c =
    let end : c.loop-slot.slot ≡ c.args.end = omega arith in
    subst (λ (n : ℕ). IsOwnAfter c.loop-slot.own c.args.list.now c.args.script.now n) end c.loop-slot.invariant
