-- What comes to a node in a slot in which one node sends, or none.
use Rattle.std.specs.Prelude.{◌≡◌, ℕ, Bool, true, false, [], IsTrue}
use Rattle.ttp_world.specs.declared.script.Channel.{Channel}
use Rattle.ttp_world.specs.declared.script.Script.{Script}
use Rattle.ttp_world.specs.Medium.{SentFrame, Signal, Silence, Noise, Bits}
use Rattle.ttp_world.specs.Reception.{Hearing}
use Rattle.ttp_world.specs.Script.{flipped_bits}

-- silence or noise
abbrev pub is_frameless : Signal → Bool
is_frameless Silence = true
is_frameless Noise = true
is_frameless (Bits sender bytes) = false

-- no bit of a node's frame is flipped in a slot
abbrev pub IsUnflipped : Script → ℕ → ℕ → Type 0
IsUnflipped script k slot = (c : Channel) → flipped_bits script k c slot ≡ []

-- what is heard of a frame that comes as it was sent
abbrev pub signal_as_sent : SentFrame → Signal
signal_as_sent sent = Bits sent.sender sent.bytes

-- a frame comes to a node as it was sent, on both channels or on one of them, and no other frame comes
pub data HearsFrame (sent : SentFrame) (h : Hearing) : Type 0 where
  OnBoth : h.a ≡ signal_as_sent sent → h.b ≡ signal_as_sent sent → HearsFrame sent h
  OnA : h.a ≡ signal_as_sent sent → IsTrue (is_frameless h.b) → HearsFrame sent h
  OnB : IsTrue (is_frameless h.a) → h.b ≡ signal_as_sent sent → HearsFrame sent h

-- no frame comes to it
pub record HearsNoFrame (h : Hearing) : Type 0 where
  pub a : IsTrue (is_frameless h.a)
  pub b : IsTrue (is_frameless h.b)

-- nothing comes to it
pub record HearsSilence (h : Hearing) : Type 0 where
  pub a : h.a ≡ Silence
  pub b : h.b ≡ Silence
