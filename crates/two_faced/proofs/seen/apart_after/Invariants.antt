use Rattle.two_faced.proofs.Words.{◌≡◌, ◌+◌, ◌-◌, length, IfSome, filter_map, range_with_len, zeros_world, clock_beside}
use Rattle.two_faced.proofs.Words.{apart_after, IsNearSpan}
use Rattle.two_faced.proofs.Spans.{widest_with}
use Rattle.two_faced.proofs.seen.apart_after.Given as goal

-- the clocks so far and those that are left are all, and those so far are near 0
abbrev pub invariant-loop-k : goal.invariant-loop-k
invariant-loop-k l =
    (widest_with l.span
    (filter_map (clock_beside l.list l.script l.node l.slot (zeros_world l.list l.script (l.slot + 1)))
    (range_with_len l.k (length l.list.slots - l.k)))
    ≡ apart_after l.list l.script l.node l.slot (zeros_world l.list l.script (l.slot + 1))) × IfSome l.span IsNearSpan
