use Rattle.controller.proofs.Words.{is_wide, cstate_at}
use Rattle.ttp_world.specs.Reception.{expected_header, expected_length}
use Rattle.ttp_frame.proofs.ForAbove.{Match-fits, Invalid-formed}
use Rattle.controller.proofs.hearing.match_with.Goals as goal

pub returns-clause-fits : goal.returns-clause-fits
returns-clause-fits c =
    let list = c.args.list.now in
    let place = c.args.expected.now.place.place in
    Match-fits c.judge.result (is_wide list) c.args.known.now.bytes (expected_header list place)
    (expected_length list place) list.schedule (cstate_at place c.args.members)
    (rw c.requires.known at c.judge.ensures.answer)

pub returns-clause-formed : goal.returns-clause-formed
returns-clause-formed c =
    let list = c.args.list.now in
    let place = c.args.expected.now.place.place in
    Invalid-formed c.judge.result (is_wide list) c.args.known.now.bytes (expected_header list place)
    (expected_length list place) list.schedule (cstate_at place c.args.members)
    (rw c.requires.known at c.judge.ensures.answer)
