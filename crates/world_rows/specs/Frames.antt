-- Frames of the rows, and a list with a slot of each kind.
use Rattle.std.specs.Prelude.{ℕ, pos, true, false, List, [], ◌∷◌}
use Rattle.ttp_world.specs.declared.medl.Kind.TheVariants as kind
use Rattle.ttp_world.specs.declared.medl.Medl.{Medl}
use Rattle.ttp_world.specs.declared.node.CState.{CState}
use Rattle.ttp_world.specs.Frame.{frame}
use Rattle.ttp_world.specs.Medium.{SentFrame}
use Rattle.ttp_world.specs.Medl.{member_bytes}
use Rattle.world_rows.specs.Cases.{list_with}

-- a C-state of these parts
abbrev pub cstate : ℕ → ℕ → ℕ → List ℕ → CState
cstate time round slot members = record { time = time; round = round; slot = slot; members = members }

-- four nodes in one round: node 0 sends X-frames and node 2 N-frames, each of two bytes, and the others I-frames
abbrev pub mixed_list : Medl
mixed_list = list_with (pos 0) (pos 0) (pos 1) (
    record { kinds = kind.X ∷ []; payload = 2; sync = true; start = true; requests = false; live = 1 }
    ∷ record { kinds = kind.I ∷ []; payload = 0; sync = true; start = false; requests = false; live = 1 }
    ∷ record { kinds = kind.N ∷ []; payload = 2; sync = true; start = false; requests = false; live = 1 }
    ∷ record { kinds = kind.I ∷ []; payload = 0; sync = true; start = false; requests = false; live = 1 } ∷ [])

-- the cold-start frame of node 0
abbrev pub cold_start : List ℕ
cold_start = frame (member_bytes false) 3 (cstate 0 0 0 (0 ∷ [])) [] 0

-- the frame of node 0 with implicit C-state and no payload, at time 0
abbrev pub implicit_frame : List ℕ → List ℕ
implicit_frame members = frame (member_bytes false) 0 (cstate 0 0 0 members) [] 0

-- what nodes 0 and 1 send at once
abbrev pub two_frames : List SentFrame
two_frames = record { sender = 0; bytes = 5 ∷ 6 ∷ [] } ∷ record { sender = 1; bytes = 7 ∷ [] } ∷ []
