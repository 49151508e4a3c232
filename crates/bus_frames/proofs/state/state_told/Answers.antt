use Rattle.std.proofs.Common.{◌≡◌, ◌∙◌, ◌/◌, ap, sym}
use Rattle.std.specs.Prelude.{if◌then◌else◌}
use Rattle.ttp_world.specs.Medl.{is_wide}
use Rattle.bus_frames.proofs.States.{place-of, state-of}
use Rattle.bus_frames.proofs.state.state_told.Goals as goal
use Rattle.bus_frames.proofs.state.state_told.Goals.{then-is_wide, else-is_wide}

pub returns : goal.returns
returns c s room members word =
    let list = c.args.list.now in
    let divided : c.if-is_wide.place ≡ c.args.word / (if is_wide list then 16777216 else 65536) =
    elim c.if-is_wide.branch [
      | then-is_wide w ↦ w.place-is
          ∙ sym (ap (λ b. c.args.word / (if b then 16777216 else 65536)) (sym c.is_wide.ensures ∙ w.if-is_wide.true))
      | else-is_wide w ↦ w.place-is
          ∙ sym (ap (λ b. c.args.word / (if b then 16777216 else 65536)) (sym c.is_wide.ensures ∙ w.if-is_wide.false))
    ] in
    state-of s c.if-is_wide.place c.args.members
    (place-of (is_wide list) c.args.word c.if-is_wide.place s word divided room.time room.round room.slot room.members)
    room.time room.round room.slot members
