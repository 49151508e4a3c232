use Rattle.ttp_top.proofs.Terms.{◌≡◌, drop, states_in, lowest_members}
use Rattle.ttp_top.proofs.totals.lowest_members.Given as goal

-- no node so far is active
abbrev pub invariant-loop-line : goal.invariant-loop-line
invariant-loop-line l =
    lowest_members (states_in (drop l.line-index l.nodes)) ≡ lowest_members (states_in l.nodes)
