use Rattle.std.proofs.Common.{◌≡◌, ◌-◌, ◌*◌, ◌≤◌, ◌++◌, length, drop, vec_len, vec_capacity}
use Rattle.nbw_ring.specs.Pairs.{pairs_of}
use Rattle.nbw_ring.proofs.receipts.pair_up.Given as goal

abbrev pub invariant-loop-number : goal.invariant-loop-number
invariant-loop-number l =
    (length l.rest ≡ (length l.numbers - l.number-index) * l.width)
    × (l.pairs.items ++ pairs_of (drop l.number-index l.numbers) l.rest l.width ≡ pairs_of l.numbers l.fn.words l.width)
    × (vec_len l.pairs ≡ l.number-index)
    × (length l.numbers ≤ vec_capacity l.pairs)
