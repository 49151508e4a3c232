-- What events weigh: how many of each kind there are, and what their numbers add up to.
use Rattle.std.specs.Prelude.{ℕ, ◌^◌, ℤ, pos, negsuc, zero, suc, neg_ℤ, ◌+ℤ◌, if◌then◌else◌, Bool, true, false, ◌&&◌}
use Rattle.std.specs.Prelude.{◌||◌}
use Rattle.ttp_world.specs.declared.events.Incidents.{Incidents}
use Rattle.ttp_world.specs.declared.script.Channels.{Channels}
use Rattle.ttp_world.specs.declared.script.Event.{Event}
use Rattle.ttp_world.specs.declared.script.Event.TheVariants as event
use Rattle.ttp_world.specs.declared.script.Fault.TheVariants as fault
use Rattle.ttp_world.specs.declared.weights.Counts.{Counts}
use Rattle.ttp_world.specs.declared.weights.Sums.{Sums}
use Rattle.ttp_world.specs.declared.weights.Weights.{Weights}
use Rattle.ttp_world.specs.Events.{is_same_fault, IsWithinSpan}

-- 1 where something is so, and else 0
abbrev pub one_if : Bool → ℤ
one_if is = if is then pos 1 else pos 0

-- a number is 1 or more
abbrev pub is_positive : ℤ → Bool
is_positive (pos zero) = false
is_positive (pos (suc n)) = true
is_positive (negsuc n) = false

-- Counts on both channels.

-- nothing counted on either channel
abbrev pub no_counts : Counts
no_counts = record { a = pos 0; b = pos 0 }

-- one on each of the channels, if they are meant at all
abbrev pub chosen_counts : Bool → Channels → Counts
chosen_counts meant channels = record { a = one_if (meant && channels.a); b = one_if (meant && channels.b) }

-- counts together
abbrev pub added_counts : Counts → Counts → Counts
added_counts c d = record { a = c.a +ℤ d.a; b = c.b +ℤ d.b }

-- what takes counts away again
abbrev pub negated_counts : Counts → Counts
negated_counts c = record { a = neg_ℤ c.a; b = neg_ℤ c.b }

-- the channels of which one or more are counted
abbrev pub counted : Counts → Channels
counted c = record { a = is_positive c.a; b = is_positive c.b }

-- Sums.

-- nothing summed up
abbrev pub no_sums : Sums
no_sums = record { arms = pos 0; error = pos 0; jump = pos 0 }

-- two sums together
abbrev pub added_sums : Sums → Sums → Sums
added_sums s t = record { arms = s.arms +ℤ t.arms; error = s.error +ℤ t.error; jump = s.jump +ℤ t.jump }

-- what takes sums away again
abbrev pub negated_sums : Sums → Sums
negated_sums s = record { arms = neg_ℤ s.arms; error = neg_ℤ s.error; jump = neg_ℤ s.jump }

-- Weights.

-- the weights of no event
abbrev pub no_weights : Weights
no_weights = record {
  send_silence = no_counts;
  send_noise = no_counts;
  receive_silence = no_counts;
  receive_noise = no_counts;
  flips = no_counts;
  sums = no_sums;
}

-- what an event weighs in the slots that it covers
abbrev pub weights_of : Event → Weights
weights_of (event.Send node channels f from to) = record no_weights {
  send_silence = chosen_counts (is_same_fault f fault.Silence) channels;
  send_noise = chosen_counts (is_same_fault f fault.Noise) channels;
}
weights_of (event.Receive node channels f from to) = record no_weights {
  receive_silence = chosen_counts (is_same_fault f fault.Silence) channels;
  receive_noise = chosen_counts (is_same_fault f fault.Noise) channels;
}
weights_of (event.Flip node channels bit slot) = record no_weights { flips = chosen_counts true channels }
weights_of (event.Error node value from to) = record no_weights { sums = record no_sums { error = value } }
weights_of (event.Jump node value slot) = record no_weights { sums = record no_sums { jump = value } }
weights_of (event.Arm node slot) = record no_weights { sums = record no_sums { arms = pos 1 } }
weights_of (event.Write node slot payload) = no_weights
weights_of (event.Read node slot from) = no_weights

-- weights together
abbrev pub added : Weights → Weights → Weights
added v w = record {
  send_silence = added_counts v.send_silence w.send_silence;
  send_noise = added_counts v.send_noise w.send_noise;
  receive_silence = added_counts v.receive_silence w.receive_silence;
  receive_noise = added_counts v.receive_noise w.receive_noise;
  flips = added_counts v.flips w.flips;
  sums = added_sums v.sums w.sums;
}

-- what takes weights away again
abbrev pub negated : Weights → Weights
negated w = record {
  send_silence = negated_counts w.send_silence;
  send_noise = negated_counts w.send_noise;
  receive_silence = negated_counts w.receive_silence;
  receive_noise = negated_counts w.receive_noise;
  flips = negated_counts w.flips;
  sums = negated_sums w.sums;
}

-- what happens to a node where events of these weights cover the slot
abbrev pub incidents_from : Weights → Incidents
incidents_from w = record {
  send_silence = counted w.send_silence;
  send_noise = counted w.send_noise;
  receive_silence = counted w.receive_silence;
  receive_noise = counted w.receive_noise;
  has_flip = is_positive w.flips.a || is_positive w.flips.b;
  armed = is_positive w.sums.arms;
  error = w.sums.error;
  jump = w.sums.jump;
}

-- Bounds.

-- numbers of which two can be added
abbrev pub summable_limit : ℕ
summable_limit = 2 ^ 61

-- each number lies within plus or minus a bound
pub record AreWithinCounts (bound : ℕ) (c : Counts) : Type 0 where
  pub a : IsWithinSpan bound c.a
  pub b : IsWithinSpan bound c.b

pub record AreWithinSums (bound : ℕ) (s : Sums) : Type 0 where
  pub arms : IsWithinSpan bound s.arms
  pub error : IsWithinSpan bound s.error
  pub jump : IsWithinSpan bound s.jump

pub record AreWithin (bound : ℕ) (w : Weights) : Type 0 where
  pub send_silence : AreWithinCounts bound w.send_silence
  pub send_noise : AreWithinCounts bound w.send_noise
  pub receive_silence : AreWithinCounts bound w.receive_silence
  pub receive_noise : AreWithinCounts bound w.receive_noise
  pub flips : AreWithinCounts bound w.flips
  pub sums : AreWithinSums bound w.sums

-- counts of which two can be added
abbrev pub AreSummableCounts : Counts → Type 0
AreSummableCounts c = AreWithinCounts summable_limit c

-- sums of which two can be added
abbrev pub AreSummableSums : Sums → Type 0
AreSummableSums s = AreWithinSums summable_limit s

-- weights of which two can be added
abbrev pub AreSummable : Weights → Type 0
AreSummable w = AreWithin summable_limit w
