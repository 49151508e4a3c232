use Rattle.cluster_run.proofs.Words.{◌≡◌, ◌∷◌, ◌++◌, [], take, length, get_or, Some, None, sym, ap, ◌∙◌, arith}
use Rattle.cluster_run.proofs.Words.{option_map, vec_len, vec_capacity, filter_map, with_items_is, All-push, write_at}
use Rattle.cluster_run.proofs.Words.{Takes, host_at, WritesBytes, at_any, host_write, within_list}
use Rattle.cluster_run.proofs.Sends.{written_more, takes_after, room_after, takes-some, taken_some, taken_none}
use Rattle.cluster_run.proofs.Sends.{taken_room}
use Rattle.cluster_run.proofs.sending.write_all.Goals.{in-Some, in_default}
use Rattle.cluster_run.proofs.sending.write_all.Goals as goal

pub write_one-requires-clause-takes : goal.write_one-requires-clause-takes
write_one-requires-clause-takes g c κs within =
    let w = host_write c.in-Some.write in
    let place = get_or c.args.places.now c.loop-place.place-index 0 in
    let may = c.requires.writes place w (sym c.write.ensures ∙ ap (option_map host_write) c.in-Some.is) in
    let writes = filter_map (write_at c.args.script.now) (take c.loop-place.place-index c.args.places.now) in
    rw (c.as_mut_slice.ensures.value, c.loop-place.invariant.written.each w.host)
    (takes_after w.host writes (host_at c.args.ends.items w.host) (length w.payload) may.takes)

pub write_one-requires-clause-room : goal.write_one-requires-clause-room
write_one-requires-clause-room g c κs within =
    let w = host_write c.in-Some.write in
    let places = c.args.places.now in
    let i = c.loop-place.place-index in
    let at = write_at c.args.script.now in
    let place = get_or places i 0 in
    let is : at place ≡ Some w = sym c.write.ensures ∙ ap (option_map host_write) c.in-Some.is in
    let may = c.requires.writes place w is in
    rw (c.as_mut_slice.ensures.value, c.loop-place.invariant.written.each w.host)
    (room_after w.host (filter_map at (take i places)) (host_at c.args.ends.items w.host) (length w.payload)
    (length (filter_map at places)) may.takes may.room
    (taken_room at places i place w c.loop-place-test.true (at_any places i 0 place c.loop-place-test.true) is))

pub loop-place-preserved : goal.loop-place-preserved
loop-place-preserved g c =
    let places = c.args.places.now in
    let i = c.loop-place.place-index in
    let at = write_at c.args.script.now in
    let place = get_or places i 0 in
    let here = at_any places i 0 place c.loop-place-test.true in
    let old = c.args.ends.items in
    let ends = c.loop-place.ends.items in
    let lines = c.loop-place.lines.items in
    let so = c.loop-place.invariant.written in
    elim c.match-write.branch [
      | in-Some w ↦
          let x = host_write w.in-Some.write in
          let is : at place ≡ Some x = sym c.write.ensures ∙ ap (option_map host_write) w.in-Some.is in
          let may = c.requires.writes place x is in
          let there : Takes (host_at ends x.host) (length x.payload) = rw (so.each x.host)
          (takes_after x.host (filter_map at (take i places)) (host_at old x.host) (length x.payload) may.takes) in
          let one = taken_some at places i place x c.loop-place-test.true here is in
          let ends_are = ap (λ v. v.items) w.ends-is
          ∙ with_items_is c.loop-place.ends _ (w.write_one.auto.ends ∙ w.as_mut_slice.ensures.len)
          ∙ w.write_one.ensures.ends in
          let lines_are = ap (λ v. v.items) w.lines-is ∙ w.push_reserved.ensures.items
          ∙ ap (λ l. lines ++ l ∷ []) w.write_one.ensures.line in
          record {
            written = rw (one, ends_are, lines_are, w.as_mut_slice.ensures.value)
                (written_more old ends (filter_map at (take i places)) lines x so
                (within_list (λ e. Takes e (length x.payload)) None ends x.host (λ none. none) there)
                (takes-some (host_at ends x.host) (length x.payload) there));
            bytes = rw one (All-push WritesBytes (filter_map at (take i places)) x c.loop-place.invariant.bytes
                w.write_one.ensures.bytes);
            count = omega (arith, ap vec_len w.lines-is, w.push_reserved.ensures.len, c.loop-place.invariant.count);
            room = ap vec_capacity w.lines-is ∙ w.push_reserved.ensures.capacity ∙ c.loop-place.invariant.room;
          }
      | in_default w ↦
          let is : at place ≡ None = sym c.write.ensures ∙ ap (option_map host_write) w.in_default.is in
          let none = taken_none at places i place c.loop-place-test.true here is in
          record {
            written = rw (none, ap (λ v. v.items) w.ends-is, ap (λ v. v.items) w.lines-is) so;
            bytes = rw none c.loop-place.invariant.bytes;
            count = omega (arith, ap vec_len w.lines-is, c.loop-place.invariant.count);
            room = ap vec_capacity w.lines-is ∙ c.loop-place.invariant.room;
          }
    ]
