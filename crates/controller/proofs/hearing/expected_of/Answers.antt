-- The candidates have room, as sets of nodes of the list.
use Rattle.controller.proofs.Words.{◌<◌, length, rules, arith}
use Rattle.controller.proofs.Sets.{candidates-room}
use Rattle.controller.proofs.hearing.expected_of.Goals as goal

pub returns-clause-expected : goal.returns-clause-expected
returns-clause-expected c =
    let list = c.args.list.now in
    let receiver = c.args.receiver.now in
    let is = c.requires.receiver in
    let sends : c.sender-sender.result < length list.slots =
    omega (arith, c.sender-sender.ensures.exists, is.coming.slots) in
    let rooms = candidates-room list receiver.ack receiver.number c.requires.valid is.number is.doubt receiver.members
    c.sender-sender.result sends is.members in
    record { place = is.coming; first = search (rules, rooms.first); second = search (rules, rooms.second) }
