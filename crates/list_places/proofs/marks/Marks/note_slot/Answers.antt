use Rattle.std.proofs.Common.{refl}
use Rattle.list_places.specs.Marks.{begun_slot}
use Rattle.list_places.proofs.Marking.{empty_keys, slots_push}
use Rattle.list_places.proofs.marks.Marks.note_slot.Goals as goal

pub returns : goal.returns
returns c m are = record {
  top = are.top;
  slots = rw c.in_ok-push.ensures.items (slots_push c.args.self.now.slots.items m.slots
      (record { left = c.args.left; keys = c.new-keys.result }) (begun_slot c.args.left) are.slots
      (record { left = refl; keys = empty_keys c.new-keys.result c.new-keys.ensures.empty }));
  has_headers = are.has_headers;
  is_in_slot = are.is_in_slot;
}
