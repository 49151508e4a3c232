use Rattle.trace_check.proofs.Followed.{HasFollowed}
use Rattle.trace_check.proofs.follow.Follower.follow.Given as goal

-- the text begins with the lines of the slots so far, by some legal numbers for which the follower stands
abbrev pub invariant-loop-slot : goal.invariant-loop-slot
invariant-loop-slot l = HasFollowed l.self l.list l.script l.slot l.text l.rest
