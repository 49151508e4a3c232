-- What one more entry changes of a node's stint: all but its phase, its entry, its listening and its clock.
use Rattle.std.specs.Prelude.{ℕ, take}
use Rattle.ttp_world.specs.declared.medl.Medl.{Medl}
use Rattle.ttp_world.specs.declared.node.Entry.{Entry}
use Rattle.ttp_world.specs.After.{place_after, members_after, accepted_after, rejected_after, ack_after}
use Rattle.ttp_world.specs.After.{cold_start_after, notes_after}
use Rattle.ttp_world.specs.Past.{NodePast}
use Rattle.node_parts.specs.Notes.{kept_notes}

-- what one more entry makes of node k's stint, where the last four notes are kept
abbrev pub stint_after : Medl → ℕ → NodePast → Entry → NodePast
stint_after list k past e =
    record past {
      place = place_after list k past.place e;
      members = members_after list k past.members past.ack e;
      accepted = accepted_after past.accepted e;
      rejected = rejected_after past.rejected past.ack e;
      ack = ack_after past.ack e;
      cold_start = cold_start_after past.cold_start e;
      notes = take kept_notes (notes_after list past.notes (place_after list k past.place e) e);
    }
