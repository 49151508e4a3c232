use Rattle.ttp_top.proofs.Terms.{◌≡◌, ◌≤◌, take, count_by, shows_left}
use Rattle.ttp_top.proofs.totals.count_left.Given as goal

abbrev pub invariant-loop-line : goal.invariant-loop-line
invariant-loop-line l =
    (l.count ≡ count_by (λ line. shows_left line.state) (take l.line-index l.nodes)) × (l.count ≤ l.line-index)
