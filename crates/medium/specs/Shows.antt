-- What an arrival shows of a signal.
use Rattle.std.specs.Prelude.{◌≡◌, ℕ, ℤ, Bool, List, if◌then◌else◌}
use Rattle.ttp_world.specs.Medium.{Signal, Silence, Noise, Bits, with_noise}
use Rattle.medium.specs.declared.arrival.Arrival.{Arrival}
use Rattle.medium.specs.declared.arrival.Arrival.TheVariants as arrival

-- what came is these bits, of a sender whose clock is so far ahead
abbrev pub IsBits : Arrival → List ℕ → ℤ → Type 0
IsBits arrival.Silence sent ahead = ⊥
IsBits arrival.Noise sent ahead = ⊥
IsBits (arrival.Bits bytes offset) sent ahead = (bytes.now ≡ sent) × (offset ≡ ahead)

-- What came shows a signal, where the clock of each node is so far ahead: silence and noise as they are, and bits with
-- the clock of the node that sent them.
abbrev pub Shows : Arrival → Signal → (ℕ → ℤ) → Type 0
Shows came Silence clock = came ≡ arrival.Silence
Shows came Noise clock = came ≡ arrival.Noise
Shows came (Bits sender sent) clock = IsBits came sent (clock sender)

-- A receiver's faults on a channel: whatever signal the one arrival shows, the other shows what they leave of it.
abbrev pub ShowsReceived : Arrival → Bool → Bool → Arrival → Type 0
ShowsReceived there silenced noisy received =
    (s : Signal) (clock : ℕ → ℤ) → Shows there s clock
    → Shows received (if silenced then Silence else with_noise noisy s) clock

-- Of what is there, this comes to a receiver: all of it, or bits as noise, or nothing.
abbrev pub IsPartOf : Arrival → Arrival → Type 0
IsPartOf there arrival.Silence = Unit {0}
IsPartOf there arrival.Noise = Unit {0}
IsPartOf there (arrival.Bits bytes offset) = there ≡ arrival.Bits bytes offset
