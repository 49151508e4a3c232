-- The frame of a place.
use Rattle.std.specs.Prelude.{ℕ, List}
use Rattle.ttp_world.specs.declared.medl.Medl.{Medl}
use Rattle.ttp_world.specs.Diary.{Place, cstate_at}
use Rattle.ttp_world.specs.Frame.{header_of, frame}
use Rattle.ttp_world.specs.Medl.{member_width, kind_at}

-- that of a sender which holds these members, with this payload
abbrev pub frame_at : Medl → Place → List ℕ → List ℕ → List ℕ
frame_at list place members payload =
    frame (member_width list) (header_of (kind_at list place.round place.slot)) (cstate_at place members) payload
    list.schedule
