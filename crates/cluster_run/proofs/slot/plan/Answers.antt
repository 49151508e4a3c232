use Rattle.cluster_run.proofs.Words.{length, refl, ap, ◌∙◌, arith, with_items_is, world, length-world}
use Rattle.cluster_run.proofs.FromBelow.{payloads-chosen}
use Rattle.cluster_run.proofs.Choices.{chosen_sizes}
use Rattle.cluster_run.proofs.SlotParts.{has_begun, has_begun_for}
use Rattle.cluster_run.proofs.slot.plan.Goals as goal

pub choose-requires-after_bounds : goal.choose-requires-after_bounds
choose-requires-after_bounds g c κs within =
    let are = c.requires.nodes.are in
    let stands = c.requires.nodes.stands in
    record {
      ends_count = are.host_ends;
      seats_count = c.begin_all.ensures.count ∙ ap length c.as_mut_slice-seats.ensures.value ∙ are.seats_count;
      chosen_count = ap length c.as_mut_slice-chosen.ensures.value ∙ are.chosen;
      bytes = c.requires.bytes;
      numbers = stands.numbers;
      begun = has_begun_for c.args.at.now stands.at c.as_mut_slice-seats.ensures.value c.begin_all.ensures.begin;
    }

pub plan_all-requires-clause-chosen : goal.plan_all-requires-clause-chosen
plan_all-requires-clause-chosen g c =
    let at = c.args.at.now in
    let stands = c.requires.nodes.stands in
    let was = c.as_mut_slice-seats.ensures.value in
    let many = c.begin_all.ensures.count ∙ ap length was ∙ c.requires.nodes.are.seats_count in
    payloads-chosen c.choose.new.chosen (omega (arith, many)) (has_begun at stands.at was c.begin_all.ensures.begin)
    (chosen_sizes at.valid_script (c.in_ok-writes.ensures.chooses stands.numbers
    (has_begun_for at stands.at was c.begin_all.ensures.begin)))

pub returns : goal.returns
returns g c =
    let at = c.args.at.now in
    let are = c.requires.nodes.are in
    let chose = c.in_ok-writes.ensures in
    let was = c.as_mut_slice-seats.ensures.value in
    let seats = with_items_is c.args.nodes.now.seats _
    (c.plan_all.ensures.count ∙ c.begin_all.ensures.count ∙ c.as_mut_slice-seats.ensures.len) in
    let chosen = with_items_is c.args.nodes.now.chosen _ (c.choose.auto.chosen ∙ c.as_mut_slice-chosen.ensures.len) in
    record {
      are = record {
        seats_count = ap length seats ∙ c.plan_all.ensures.count
            ∙ c.begin_all.ensures.count ∙ ap length was ∙ are.seats_count;
        seats = rw seats c.plan_all.ensures.seats;
        incidents = rw seats c.plan_all.ensures.incidents;
        desks = are.desks;
        host_ends = chose.count ∙ are.host_ends;
        chosen = ap length chosen ∙ c.choose.auto.chosen ∙ ap length c.as_mut_slice-chosen.ensures.value ∙ are.chosen;
        slot_is = c.plan_all.ensures.slot;
        medium = c.plan_all.ensures.medium;
      };
      desks = refl;
      bytes = chose.bytes;
      lines_are = chose.lines_are;
      plans = λ numbers stands.
          let history = world at.list.now at.script.now numbers in
          let begun = has_begun at stands was c.begin_all.ensures.begin in
          record {
            chosen = rw chosen (chose.chooses numbers (has_begun_for at stands was c.begin_all.ensures.begin));
            planned = rw (seats, chosen) (c.plan_all.ensures.plan history begun);
            carries = rw chosen (c.plan_all.ensures.carries history
                (length-world at.list.now at.script.now numbers ∙ stands.count) begun);
          };
    }
