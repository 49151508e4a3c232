use Rattle.controller.proofs.Words.{rules, coming_place}
use Rattle.controller.proofs.Endings.{sends-own, loaded_length-own}
use Rattle.controller.proofs.sending.frame_of.Goals as goal

pub own_frame-requires-clause-payload : goal.own_frame-requires-clause-payload
own_frame-requires-clause-payload c =
    let list = c.args.list.now in
    let k = c.args.k in
    let past = c.args.node.now in
    let own = sends-own list k past c.args.act c.requires.possible c.in-Send.is in
    search (rules, c.requires.payload, c.in-Send.is, loaded_length-own list k (coming_place list past) own)
