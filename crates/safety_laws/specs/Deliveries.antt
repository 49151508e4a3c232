-- What an active node delivers of the frame of a slot.
use Rattle.std.specs.Prelude.{ℕ, List, Option, Some, None, if◌then◌else◌}
use Rattle.ttp_world.specs.declared.medl.Medl.{Medl}
use Rattle.ttp_world.specs.declared.node.Delivered.{Delivered}
use Rattle.ttp_world.specs.Conduct.{carries_payload}
use Rattle.ttp_world.specs.Diary.{Place}
use Rattle.ttp_world.specs.Fitting.{payload_in}
use Rattle.ttp_world.specs.Medl.{member_width}
use Rattle.ttp_world.specs.Reception.{expected_header, expected_length}

-- the payload in the bytes of a frame, as the list lays it out for a place
abbrev pub payload_of_frame : Medl → Place → List ℕ → List ℕ
payload_of_frame list place bytes =
    payload_in (member_width list) (expected_header list place) (expected_length list place) bytes

-- what is delivered of these bytes at a place where they are correct
abbrev pub delivery_at : Medl → Place → List ℕ → Option Delivered
delivery_at list place bytes =
    if carries_payload list place
    then Some (record { sender = place.slot; payload = payload_of_frame list place bytes }) else None
