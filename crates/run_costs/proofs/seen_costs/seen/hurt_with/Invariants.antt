use Rattle.std.proofs.Common.{◌≡◌, ℕ, Bool, ◌&&◌, ◌||◌, length, ltb}
use Rattle.std.specs.Prelude.{filter}
use Rattle.ttp_base.specs.NodeSet.{below, has_node}
use Rattle.run_costs.specs.States.{state_at}
use Rattle.run_costs.specs.Told.{is_hurt_by}
use Rattle.run_costs.proofs.seen_costs.seen.hurt_with.Given as goal

-- those of the nodes so far, and those before
abbrev pub invariant-loop-k : goal.invariant-loop-k
invariant-loop-k l =
    (p : ℕ → Bool) → l.initial.all ≡ filter p (below (length l.states))
    → l.all ≡ filter (λ j. (ltb j l.k && is_hurt_by (state_at l.states j).entry (has_node l.correct j)) || p j)
    (below (length l.states))
