-- What a node keeps of its past.
use Rattle.std.specs.Prelude.{min, take}
use Rattle.ttp_world.specs.Past.{NodePast}
use Rattle.node_parts.specs.Listening.{most_silent}
use Rattle.node_parts.specs.Notes.{kept_notes}

-- all that the rules ask of it, but of the silent slots no more than the largest limit there is, and of the notes the
-- last four
abbrev pub kept : NodePast → NodePast
kept past = record past { silent_slots = min past.silent_slots most_silent; notes = take kept_notes past.notes }
