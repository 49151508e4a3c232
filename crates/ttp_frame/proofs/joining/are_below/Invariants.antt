use Rattle.std.proofs.Common.{◌≡◌, length, nat_lt}
use Rattle.std.specs.List.{list_all}
use Rattle.ttp_frame.proofs.joining.are_below.Given as goal

abbrev pub invariant-loop-k : goal.invariant-loop-k
invariant-loop-k l = list_all (λ k. nat_lt k l.limit) l.rest ≡ list_all (λ k. nat_lt k l.limit) l.fn.members

abbrev pub decreases-loop-k : goal.decreases-loop-k
decreases-loop-k l = length l.rest
