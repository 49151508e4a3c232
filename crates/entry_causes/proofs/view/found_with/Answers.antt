use Rattle.entry_causes.proofs.FromBelow.{Invalid-formed, Match-fits}
use Rattle.ttp_world.specs.Diary.{cstate_at, joined_place}
use Rattle.ttp_world.specs.Medl.{is_wide}
use Rattle.ttp_world.specs.Reception.{expected_header, expected_length}
use Rattle.entry_causes.proofs.view.found_with.Goals as goal

pub returns-clause-fits : goal.returns-clause-fits
returns-clause-fits c =
    let list = c.args.list.now in
    let place = joined_place c.args.place.now in
    Match-fits c.found.result (is_wide list) c.args.bytes.now (expected_header list place) (expected_length list place)
    list.schedule (cstate_at place c.args.members) c.found.ensures

pub returns-clause-formed : goal.returns-clause-formed
returns-clause-formed c =
    let list = c.args.list.now in
    let place = joined_place c.args.place.now in
    Invalid-formed c.found.result (is_wide list) c.args.bytes.now
    (expected_header list place) (expected_length list place)
    list.schedule (cstate_at place c.args.members) c.found.ensures
