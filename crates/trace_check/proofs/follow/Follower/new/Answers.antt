use Rattle.trace_check.proofs.follow.Follower.new.Goals as goal

pub returns : goal.returns
returns c = λ script. record {
  same = c.in_ok-plant.ensures.list;
  plant = c.in_ok-plant.ensures.stands script;
  outgoing = c.in_ok-outgoing.ensures script;
  incoming = c.in_ok-incoming.ensures.tells script;
  floors = c.in_ok-incoming.ensures.floors script;
}
