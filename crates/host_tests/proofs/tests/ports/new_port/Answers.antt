use Rattle.std.proofs.Common.{◌≡◌, ◌==◌, None, Some, cond, ap, subst, arith}
use Rattle.ttp_world.specs.declared.script.Source.TheVariants.{Status, Node}
use Rattle.ttp_world.specs.Medl.{plan_at}
use Rattle.ttp_world.specs.Words.{word_count}
use Rattle.host_port.specs.Rings.{at_source, shape_of, message_shape, IsNew}
use Rattle.host_tests.proofs.NewPorts.{new_room, new_takes}
use Rattle.host_tests.proofs.tests.ports.new_port.Goals as goal

pub returns-in-Ok-new-clause-status : goal.returns-in-Ok-new-clause-status
returns-in-Ok-new-clause-status c =
    new_room (shape_of c.in-Ok.list 4) (at_source c.in-Ok-new.port.1 Status) (c.in-Ok-new.ensures.incoming Status)

pub returns-in-Ok-new-clause-sender : goal.returns-in-Ok-new-clause-sender
returns-in-Ok-new-clause-sender c =
    let list = c.in-Ok.list in
    let w = at_source c.in-Ok-new.port.1 (Node 1) in
    let nine : (plan_at list 1).payload ≡ 9 = search (arith, c.sends_nine.ensures.second) in
    let shape : message_shape list 1 ≡ Some (shape_of list (word_count 9)) =
    ap (λ p. cond (p == 0) None (Some (shape_of list (word_count p)))) nine in
    let new : IsNew (Some (shape_of list (word_count 9))) w =
    subst (λ s. IsNew s w) shape (c.in-Ok-new.ensures.incoming (Node 1)) in
    (new_takes list 9 w (omega arith) new, new_room (shape_of list (word_count 9)) w new)

pub returns-in-Ok-new-clause-own : goal.returns-in-Ok-new-clause-own
returns-in-Ok-new-clause-own c =
    let list = c.in-Ok.list in
    let nine : (plan_at list 0).payload ≡ 9 = search (arith, c.sends_nine.ensures.first) in
    let shape : message_shape list 0 ≡ Some (shape_of list (word_count 9)) =
    ap (λ p. cond (p == 0) None (Some (shape_of list (word_count p)))) nine in
    let new : IsNew (Some (shape_of list (word_count 9))) c.in-Ok-new.port.2 =
    subst (λ s. IsNew s c.in-Ok-new.port.2) shape c.in-Ok-new.ensures.outgoing in (
      new_takes list 9 c.in-Ok-new.port.2 (omega arith) new,
      new_room
          (shape_of list (word_count 9)) c.in-Ok-new.port.2 new,
    )
