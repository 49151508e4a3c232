use Rattle.ttp_top.proofs.Terms.{◌≡◌, ◌≤◌, take, count_by, shows_sent}
use Rattle.ttp_top.proofs.totals.count_sent.Given as goal

abbrev pub invariant-loop-line : goal.invariant-loop-line
invariant-loop-line l =
    (l.count ≡ count_by (λ line. shows_sent line.state) (take l.line-index l.nodes)) × (l.count ≤ l.line-index)
