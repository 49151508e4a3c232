use Rattle.cluster_run.proofs.Words.{◌≡◌, ◌<◌, length, refl, sym, ap, ◌∙◌, arith, length-map, Seat, no_outcome}
use Rattle.cluster_run.proofs.Words.{outcomes_of, Desk, outcome_of, at_any, slice_get_read, get_or-map}
use Rattle.cluster_run.proofs.HandingOn.{handed_more, have_handed_on, no_desk}
use Rattle.cluster_run.proofs.ending.end_from.Goals as goal

pub hand_on-requires-clause-room : goal.hand_on-requires-clause-room
hand_on-requires-clause-room g c κs within =
    let j = c.loop-j.j in
    let so = c.loop-j.invariant in
    let may = c.requires.may in
    let old = c.args.desks.now in
    let end = λ (d : Desk). d.end in
    let near : j < length c.loop-j.desks = omega (arith, so.changed.count, c.loop-j-test.true) in
    let seats = c.take_all.new.seats in
    let there = slice_get_read seats (length seats) j c.index-seats-j.result refl
    (omega (arith, c.take_all.ensures.count, c.requires.count, so.changed.count, near)) c.index-seats-j.is in
    let left = (c.take_all.ensures.end may.history may.chosen may.planned may.carries).left.each j _ there in
    let end_is = ap end (at_any c.loop-j.desks j c.index-desks-j.result no_desk near ∙ so.changed.rest j (omega arith))
    ∙ sym (get_or-map end old j no_desk) in
    rw (end_is, ← c.index-seats-j.is, left.delivered)
    (may.hands_on j (omega (arith, length-map old end, so.changed.count, near)))

pub loop-j-preserved : goal.loop-j-preserved
loop-j-preserved g c =
    let j = c.loop-j.j in
    let so = c.loop-j.invariant in
    let seats = c.take_all.new.seats in
    let left = λ (s : Seat). s.outcome in
    let near : j < length c.loop-j.desks = omega (arith, so.changed.count, c.loop-j-test.true) in
    let outcome : c.index-seats-j.result.outcome ≡ outcome_of (outcomes_of seats) j =
    ap left c.index-seats-j.is ∙ sym (get_or-map left seats j c.index-seats-j.result)
    ∙ at_any (outcomes_of seats) j c.index-seats-j.result.outcome no_outcome
    (omega (arith, length-map seats left, c.take_all.ensures.count, c.requires.count, so.changed.count, near)) in
    handed_more c.index-desks-j.result c.hand_on.new.desk so near c.index-desks-j.is
    (record {
      end_is = rw (← outcome, c.index-desks-j.is, c.index-seats-j.is) c.hand_on.ensures.end;
      number_is = rw (← outcome, c.index-desks-j.is, c.index-seats-j.is) c.hand_on.ensures.number;
    })

pub returns : goal.returns
returns g c =
    let so = c.loop-j.invariant in
    record {
      count = c.take_all.ensures.count;
      seats_are = c.take_all.ensures.seats;
      end = c.take_all.ensures.end;
      rings = so.rings;
      handed = have_handed_on (omega (arith, so.changed.count, c.loop-j-test.false)) so;
    }
