-- How large the weights of events and of their sums are.
use Rattle.ttp_world.proofs.Words.{ℕ, ◌+◌, ◌≤◌, ℤ, pos, neg_ℤ, ◌+ℤ◌, Bool, true, false, ◌&&◌, arith, ints, Event}
use Rattle.ttp_world.proofs.Words.{ERROR_LIMIT, JUMP_LIMIT, Weights, is_same_fault, IsBounded, one_if, no_weights}
use Rattle.ttp_world.proofs.Words.{weights_of, added, negated, AreWithin}
use Rattle.ttp_world.specs.declared.script.Channels.{Channels}
use Rattle.ttp_world.specs.declared.script.Event.TheVariants as event
use Rattle.ttp_world.specs.declared.script.Fault.TheVariants as fault
use Rattle.ttp_world.specs.declared.weights.Counts.{Counts}
use Rattle.ttp_world.specs.Events.{IsWithinSpan}
use Rattle.ttp_world.specs.Weights.{no_counts, chosen_counts, added_counts, negated_counts, no_sums}
use Rattle.ttp_world.specs.Weights.{AreWithinCounts, AreWithinSums}

-- One number.

pub within-wider : (m n : ℕ) (z : ℤ) → m ≤ n → IsWithinSpan m z → IsWithinSpan n z
within-wider m n z wider within = (omega (arith, ints, within.0), omega (arith, ints, within.1))

pub within-added : (m n : ℕ) (y z : ℤ) → IsWithinSpan m y → IsWithinSpan n z → IsWithinSpan (m + n) (y +ℤ z)
within-added m n y z first second = (omega (arith, ints, first.0, second.0), omega (arith, ints, first.1, second.1))

within-negated : (n : ℕ) (z : ℤ) → IsWithinSpan n z → IsWithinSpan n (neg_ℤ z)
within-negated n z within = (omega (arith, ints, within.1), omega (arith, ints, within.0))

pub within-none : (n : ℕ) → IsWithinSpan n (pos 0)
within-none n = (omega (arith, ints), omega (arith, ints))

one_if-within : (n : ℕ) (is : Bool) → 1 ≤ n → IsWithinSpan n (one_if is)
one_if-within n true some = (omega (arith, ints), omega (arith, ints))
one_if-within n false some = within-none n

-- All numbers of weights.

counts-wider : (m n : ℕ) (c : Counts) → m ≤ n → AreWithinCounts m c → AreWithinCounts n c
counts-wider m n c wider within =
    record { a = within-wider m n c.a wider within.a; b = within-wider m n c.b wider within.b }

pub AreWithin-wider : (m n : ℕ) (w : Weights) → m ≤ n → AreWithin m w → AreWithin n w
AreWithin-wider m n w wider within = record {
  send_silence = counts-wider m n w.send_silence wider within.send_silence;
  send_noise = counts-wider m n w.send_noise wider within.send_noise;
  receive_silence = counts-wider m n w.receive_silence wider within.receive_silence;
  receive_noise = counts-wider m n w.receive_noise wider within.receive_noise;
  flips = counts-wider m n w.flips wider within.flips;
  sums = record {
    arms = within-wider m n w.sums.arms wider within.sums.arms;
    error = within-wider m n w.sums.error wider within.sums.error;
    jump = within-wider m n w.sums.jump wider within.sums.jump;
  };
}

counts-added : (m n : ℕ) (c d : Counts) → AreWithinCounts m c → AreWithinCounts n d
    → AreWithinCounts (m + n) (added_counts c d)
counts-added m n c d first second =
    record { a = within-added m n c.a d.a first.a second.a; b = within-added m n c.b d.b first.b second.b }

pub AreWithin-added : (m n : ℕ) (v w : Weights) → AreWithin m v → AreWithin n w → AreWithin (m + n) (added v w)
AreWithin-added m n v w first second = record {
  send_silence = counts-added m n v.send_silence w.send_silence first.send_silence second.send_silence;
  send_noise = counts-added m n v.send_noise w.send_noise first.send_noise second.send_noise;
  receive_silence = counts-added m n v.receive_silence w.receive_silence first.receive_silence second.receive_silence;
  receive_noise = counts-added m n v.receive_noise w.receive_noise first.receive_noise second.receive_noise;
  flips = counts-added m n v.flips w.flips first.flips second.flips;
  sums = record {
    arms = within-added m n v.sums.arms w.sums.arms first.sums.arms second.sums.arms;
    error = within-added m n v.sums.error w.sums.error first.sums.error second.sums.error;
    jump = within-added m n v.sums.jump w.sums.jump first.sums.jump second.sums.jump;
  };
}

counts-negated : (n : ℕ) (c : Counts) → AreWithinCounts n c → AreWithinCounts n (negated_counts c)
counts-negated n c within = record { a = within-negated n c.a within.a; b = within-negated n c.b within.b }

pub AreWithin-negated : (n : ℕ) (w : Weights) → AreWithin n w → AreWithin n (negated w)
AreWithin-negated n w within = record {
  send_silence = counts-negated n w.send_silence within.send_silence;
  send_noise = counts-negated n w.send_noise within.send_noise;
  receive_silence = counts-negated n w.receive_silence within.receive_silence;
  receive_noise = counts-negated n w.receive_noise within.receive_noise;
  flips = counts-negated n w.flips within.flips;
  sums = record {
    arms = within-negated n w.sums.arms within.sums.arms;
    error = within-negated n w.sums.error within.sums.error;
    jump = within-negated n w.sums.jump within.sums.jump;
  };
}

counts-none : (n : ℕ) → AreWithinCounts n no_counts
counts-none n = record { a = within-none n; b = within-none n }

sums-none : (n : ℕ) → AreWithinSums n no_sums
sums-none n = record { arms = within-none n; error = within-none n; jump = within-none n }

pub AreWithin-none : (n : ℕ) → AreWithin n no_weights
AreWithin-none n = record {
  send_silence = counts-none n;
  send_noise = counts-none n;
  receive_silence = counts-none n;
  receive_noise = counts-none n;
  flips = counts-none n;
  sums = sums-none n;
}

-- One event.

counts-chosen : (n : ℕ) (meant : Bool) (channels : Channels) → 1 ≤ n → AreWithinCounts n (chosen_counts meant channels)
counts-chosen n meant channels some =
    record { a = one_if-within n (meant && channels.a) some; b = one_if-within n (meant && channels.b) some }

made : (n : ℕ) (w : Weights) → AreWithinCounts n w.send_silence → AreWithinCounts n w.send_noise
    → AreWithinCounts n w.receive_silence
    → AreWithinCounts n w.receive_noise → AreWithinCounts n w.flips → AreWithinSums n w.sums → AreWithin n w
made n w send_silence send_noise receive_silence receive_noise flips sums = record {
  send_silence = send_silence;
  send_noise = send_noise;
  receive_silence = receive_silence;
  receive_noise = receive_noise;
  flips = flips;
  sums = sums;
}

pub weights_of-within : (e : Event) → IsBounded e → AreWithin JUMP_LIMIT (weights_of e)
weights_of-within (event.Send node channels f from to) bounded =
    let none = counts-none JUMP_LIMIT in
    made JUMP_LIMIT (weights_of (event.Send node channels f from to))
    (counts-chosen JUMP_LIMIT (is_same_fault f fault.Silence) channels (omega arith))
    (counts-chosen JUMP_LIMIT (is_same_fault f fault.Noise) channels (omega arith)) none none none
    (sums-none JUMP_LIMIT)
weights_of-within (event.Receive node channels f from to) bounded =
    let none = counts-none JUMP_LIMIT in
    made JUMP_LIMIT (weights_of (event.Receive node channels f from to)) none none
    (counts-chosen JUMP_LIMIT (is_same_fault f fault.Silence) channels (omega arith))
    (counts-chosen JUMP_LIMIT (is_same_fault f fault.Noise) channels (omega arith)) none (sums-none JUMP_LIMIT)
weights_of-within (event.Flip node channels bit slot) bounded =
    let none = counts-none JUMP_LIMIT in
    made JUMP_LIMIT (weights_of (event.Flip node channels bit slot)) none none none none
    (counts-chosen JUMP_LIMIT true channels (omega arith)) (sums-none JUMP_LIMIT)
weights_of-within (event.Error node value from to) bounded =
    let none = counts-none JUMP_LIMIT in
    let zero = within-none JUMP_LIMIT in
    made JUMP_LIMIT (weights_of (event.Error node value from to)) none none none none none
    (record { arms = zero; error = within-wider ERROR_LIMIT JUMP_LIMIT value (omega arith) bounded; jump = zero })
weights_of-within (event.Jump node value slot) bounded =
    let none = counts-none JUMP_LIMIT in
    let zero = within-none JUMP_LIMIT in
    made JUMP_LIMIT (weights_of (event.Jump node value slot)) none none none none none
    (record { arms = zero; error = zero; jump = bounded })
weights_of-within (event.Arm node slot) bounded =
    let none = counts-none JUMP_LIMIT in
    let zero = within-none JUMP_LIMIT in
    made JUMP_LIMIT (weights_of (event.Arm node slot)) none none none none none
    (record { arms = one_if-within JUMP_LIMIT true (omega arith); error = zero; jump = zero })
weights_of-within (event.Write node slot payload) bounded = AreWithin-none JUMP_LIMIT
weights_of-within (event.Read node slot from) bounded = AreWithin-none JUMP_LIMIT
