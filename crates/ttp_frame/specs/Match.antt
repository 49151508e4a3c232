-- What bytes are to a receiver that expects a frame.
use Rattle.std.specs.Prelude.{ℕ, List, if◌then◌else◌}
use Rattle.std.specs.Prelude.{Bool}
use Rattle.ttp_world.specs.declared.node.CState.{CState}
use Rattle.ttp_world.specs.Fitting.{fits, is_formed}
use Rattle.ttp_world.specs.Medl.{member_bytes}
use Rattle.ttp_frame.specs.declared.judging.FrameMatch.{FrameMatch}
use Rattle.ttp_frame.specs.declared.judging.FrameMatch.TheVariants.{Match, Differs, Invalid}

-- a frame of the receiver's C-state, one of another, or none of the header and length that it expects
abbrev pub match_of : Bool → List ℕ → ℕ → ℕ → ℕ → CState → FrameMatch
match_of wide bytes header size start c =
    if fits (member_bytes wide) bytes header size start c then Match
    else (if is_formed (member_bytes wide) bytes header size start then Differs else Invalid)
