-- How large the sums of events are.
use Rattle.ttp_world.proofs.Words.{ℕ, ◌+◌, ◌*◌, ℤ, Bool, true, false, cond, ◌&&◌, List, [], ◌∷◌, length, Option, Some}
use Rattle.ttp_world.proofs.Words.{None, IfSome, arith, ◌==◌, cons_option, All-head, All-tail, Event, ERROR_LIMIT}
use Rattle.ttp_world.proofs.Words.{JUMP_LIMIT, covers, error_in, incidents_in, IsBounded, AreBounded, AreFew}
use Rattle.std.specs.List.{All, filter_map}
use Rattle.ttp_world.specs.declared.script.Event.TheVariants as event
use Rattle.ttp_world.specs.declared.script.TheConstants.{EVENT_LIMIT}
use Rattle.ttp_world.specs.Events.{sum_ℤ, jump_in, IsWithinSpan}
use Rattle.ttp_world.proofs.WeightBounds.{within-wider, within-added, within-none}

-- numbers of which each lies within a bound
sum-option : (bound n : ℕ) (o : Option ℤ) (zs : List ℤ) → IfSome o (IsWithinSpan bound)
    → IsWithinSpan (n * bound) (sum_ℤ zs)
    → IsWithinSpan (bound + n * bound) (sum_ℤ (cons_option o zs))
sum-option bound n None zs within sum = within-wider (n * bound) (bound + n * bound) (sum_ℤ zs) (omega arith) sum
sum-option bound n (Some z) zs within sum = within-added bound (n * bound) z (sum_ℤ zs) within sum

sum-within : (bound : ℕ) (h : Event → Option ℤ) → ((e : Event) → IsBounded e → IfSome (h e) (IsWithinSpan bound))
    → (events : List Event) → All IsBounded events
    → IsWithinSpan (length events * bound) (sum_ℤ (filter_map h events))
sum-within bound h each [] bounded = within-none (0 * bound)
sum-within bound h each (e ∷ events) bounded =
    within-wider (bound + length events * bound) (length (e ∷ events) * bound) _ (omega arith)
    (sum-option bound (length events) (h e) (filter_map h events) (each e (All-head IsBounded e events bounded))
    (sum-within bound h each events (All-tail IsBounded e events bounded)))

if_some : (bound : ℕ) (is : Bool) (z : ℤ) → IsWithinSpan bound z → IfSome (cond is (Some z) None) (IsWithinSpan bound)
if_some bound true z within = within
if_some bound false z within = tt

error_in-within : (k slot : ℕ) (e : Event) → IsBounded e → IfSome (error_in k slot e) (IsWithinSpan ERROR_LIMIT)
error_in-within k slot (event.Error node value from to) bounded =
    if_some ERROR_LIMIT ((node == k) && covers from to slot) value bounded
error_in-within k slot e bounded = tt

jump_in-within : (k slot : ℕ) (e : Event) → IsBounded e → IfSome (jump_in k slot e) (IsWithinSpan JUMP_LIMIT)
jump_in-within k slot (event.Jump node value at) bounded =
    if_some JUMP_LIMIT ((node == k) && (at == slot)) value bounded
jump_in-within k slot e bounded = tt

pub incidents_in-bounded : (events : List Event) (k slot : ℕ) → AreFew events → AreBounded (incidents_in events k slot)
incidents_in-bounded events k slot few = record {
  error = within-wider (length events * ERROR_LIMIT) (EVENT_LIMIT * ERROR_LIMIT) _ (omega (arith, few.count))
      (sum-within ERROR_LIMIT (error_in k slot) (error_in-within k slot) events few.values);
  jump = within-wider (length events * JUMP_LIMIT) (EVENT_LIMIT * JUMP_LIMIT) _ (omega (arith, few.count))
      (sum-within JUMP_LIMIT (jump_in k slot) (jump_in-within k slot) events few.values);
}
