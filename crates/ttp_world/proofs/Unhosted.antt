-- A script in which no host writes or reads: there are no writes and no reads in any slot.
use Rattle.ttp_world.proofs.Words.{◌≡◌, ℕ, ◌+◌, Bool, true, false, cond, Option, None, List, [], ◌∷◌, refl, sym, ◌∙◌}
use Rattle.ttp_world.proofs.Words.{arith, count_by, cons_option, false≢true, sum_by-cons, Event, Script, write_in}
use Rattle.ttp_world.proofs.Words.{read_in, writes_in, reads_in}
use Rattle.std.specs.List.{filter_map}
use Rattle.ttp_world.specs.declared.script.Event.TheVariants as event
use Rattle.ttp_world.specs.Script.{is_host_event}

-- Events that are none of hosts.

-- a test that none of a list passes fails at its head, and none of the others passes it
none_passes : (b : Bool) (n : ℕ) → cond b 1 0 + n ≡ 0 → (b ≡ false) × (n ≡ 0)
none_passes true n none = absurd (omega arith)
none_passes false n none = (refl, omega arith)

filter_map-none : {X Y : Type 0} (p : X → Bool) (f : X → Option Y) (xs : List X)
    → ((x : X) → p x ≡ false → f x ≡ None) → count_by p xs ≡ 0 → filter_map f xs ≡ []
filter_map-none p f [] agree none = refl
filter_map-none p f (x ∷ xs) agree none =
    let split = none_passes (p x) (count_by p xs) (sym (sum_by-cons (λ y. cond (p y) 1 0) x xs) ∙ none) in
    λ i. cons_option (agree x split.0 i) (filter_map-none p f xs agree split.1 i)

pub write_in-none : (slot : ℕ) (e : Event) → is_host_event e ≡ false → write_in slot e ≡ None
write_in-none slot (event.Write node at payload) other = absurd (false≢true (sym other))
write_in-none slot e other = refl

read_in-none : (slot : ℕ) (e : Event) → is_host_event e ≡ false → read_in slot e ≡ None
read_in-none slot (event.Read node at from) other = absurd (false≢true (sym other))
read_in-none slot e other = refl

pub writes_in-none : (script : Script) (slot : ℕ) → count_by is_host_event script.events ≡ 0
    → writes_in script slot ≡ []
writes_in-none script slot none = filter_map-none is_host_event (write_in slot) script.events (write_in-none slot) none

pub reads_in-none : (script : Script) (slot : ℕ) → count_by is_host_event script.events ≡ 0 → reads_in script slot ≡ []
reads_in-none script slot none = filter_map-none is_host_event (read_in slot) script.events (read_in-none slot) none
