-- What the lines of a channel are, by what is on it.
use Rattle.std.specs.Prelude.{◌≡◌, ℕ, List, [], ◌∷◌, ◌++◌, length, codes}
use Rattle.ttp_base.specs.Text.{newline}
use Rattle.ttp_world.specs.declared.medl.Medl.{Medl}
use Rattle.ttp_world.specs.declared.node.Entry.{Entry}
use Rattle.ttp_world.specs.declared.script.Channel.{Channel}
use Rattle.ttp_world.specs.declared.script.Script.{Script}
use Rattle.ttp_world.specs.Diary.{History}
use Rattle.ttp_world.specs.Medium.{SentFrame, channel_signal}
use Rattle.ttp_world.specs.World.{slot_after}
use Rattle.bus_frames.specs.FrameText.{channel_lines, line_front, signal_line}
use Rattle.bus_frames.specs.Sending.{frames_sent, sending_in}

-- they are one, which says what is on it
pub record IsLoneLine (list : Medl) (script : Script) (row : List Entry) (before : History) (c : Channel) : Type 0 where
  pub sender : ℕ
  pub line : channel_lines list script row before c
      ≡ signal_line list (length before) c (sending_in (slot_after list script before) sender)
      (channel_signal script (length before) c (frames_sent list script row before)) ∷ []

-- the line of a frame that meets another
abbrev pub meeting_line : Medl → Script → History → Channel → SentFrame → List ℕ
meeting_line list script before c sent =
    line_front list (length before) c (sending_in (slot_after list script before) sent.sender) (codes "collision")
    ++ newline
