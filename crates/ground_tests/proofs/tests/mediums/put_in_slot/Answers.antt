use Rattle.std.proofs.Common.{ap, ◌∙◌}
use Rattle.ttp_world.specs.Script.{incidents_of}
use Rattle.ground_tests.proofs.tests.mediums.put_in_slot.Goals as goal

pub put-requires : goal.put-requires
put-requires c =
    c.incidents-incidents.ensures.value ∙ ap (incidents_of c.args.script.now c.args.node) c.slot.ensures
