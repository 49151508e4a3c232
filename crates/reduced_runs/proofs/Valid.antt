-- A script with fewer faults is valid.
use Rattle.std.proofs.Common.{◌≡◌, ℕ, suc, ◌+◌, ◌≤◌, Bool, true, false, List, [], ◌∷◌, length, Option}
use Rattle.std.proofs.Common.{ap, sym, ◌∙◌, cond, refl, arith}
use Rattle.std.proofs.lemmas.Bool.{false≢true}
use Rattle.std.specs.Prelude.{All, count_by, not, ◌||◌, ◌==◌}
use Rattle.std.specs.List.{filter_map, cons_option, list_any}
use Rattle.std.proofs.lemmas.List.Elements.{All-nil, All-cons, All-head, All-tail}
use Rattle.std.proofs.lemmas.List.Sums.{sum_by-cons}
use Rattle.ttp_world.specs.declared.medl.Medl.{Medl}
use Rattle.ttp_world.specs.declared.script.Event.{Event}
use Rattle.ttp_world.specs.declared.script.Event.TheVariants as event
use Rattle.ttp_world.specs.declared.script.Script.{Script}
use Rattle.ttp_world.specs.Script.{HostWrite, write_in, payload_of_host, IsValidEvent, is_host_event}
use Rattle.ttp_world.specs.Script.{IsValidScript, IsBounded}
use Rattle.causes.specs.Story.{is_fault_event}
use Rattle.causes.specs.Reduced.{events_kept, with_faults_at}

-- a valid event is valid whatever events stand beside it
same-valid : (list : Medl) (script : Script) (places : List ℕ) (e : Event) → IsValidEvent list script e
    → IsValidEvent list (with_faults_at places script) e
same-valid list script places (event.Send node channels f from to) valid = valid
same-valid list script places e valid = valid

-- all of them have what all events have
all-of : (P : Event → Type 0) (e : Event) (all kept : List Event) (b : Bool) → P e → All P kept
    → All P (elim b as (λ c. List Event) [ true ↦ e ∷ kept | false ↦ kept ])
all-of P e all kept true here behind = All-cons P e kept here behind
all-of P e all kept false here behind = behind

all-kept : (P : Event → Type 0) (places : List ℕ) (place : ℕ) (events : List Event) → All P events
    → All P (events_kept places place events)
all-kept P places place [] all = all
all-kept P places place (e ∷ events) all =
    all-of P e events (events_kept places (suc place) events)
    (not (is_fault_event e) || list_any (λ other. other == place) places) (All-head P e events all)
    (all-kept P places (suc place) events (All-tail P e events all))

all-valid : (list : Medl) (script : Script) (places : List ℕ) (events : List Event)
    → All (IsValidEvent list script) events
    → All (IsValidEvent list (with_faults_at places script)) events
all-valid list script places [] all = All-nil (IsValidEvent list (with_faults_at places script))
all-valid list script places (e ∷ events) all =
    All-cons (IsValidEvent list (with_faults_at places script)) e events
    (same-valid list script places e (All-head (IsValidEvent list script) e events all))
    (all-valid list script places events (All-tail (IsValidEvent list script) e events all))

-- no more events
fewer-of : (e : Event) (kept : List Event) (b : Bool) (n : ℕ) → length kept ≤ n
    → length (elim b as (λ c. List Event) [ true ↦ e ∷ kept | false ↦ kept ]) ≤ suc n
fewer-of e kept true n few = omega (arith, few)
fewer-of e kept false n few = omega (arith, few)

fewer : (places : List ℕ) (place : ℕ) (events : List Event) → length (events_kept places place events) ≤ length events
fewer places place [] = omega arith
fewer places place (e ∷ events) =
    fewer-of e (events_kept places (suc place) events)
    (not (is_fault_event e) || list_any (λ other. other == place) places) (length events)
    (fewer places (suc place) events)

-- A fault is none of a host: what hosts write and how often is as it was.

-- what an event that is dropped adds to what is found among events
none-of : {Y : Type 0} (f : Event → Option Y) (e : Event) (all kept : List Event) (b : Bool)
    → (b ≡ false → cons_option (f e) (filter_map f all) ≡ filter_map f all) → filter_map f kept ≡ filter_map f all
    → filter_map f (elim b as (λ c. List Event) [ true ↦ e ∷ kept | false ↦ kept ])
    ≡ cons_option (f e) (filter_map f all)
none-of f e all kept true none same = ap (cons_option (f e)) same
none-of f e all kept false none same = same ∙ sym (none refl)

unwritten : (slot : ℕ) (e : Event) (b : Bool) → not (is_fault_event e) || b ≡ false → (writes : List HostWrite)
    → cons_option (write_in slot e) writes ≡ writes
unwritten slot (event.Write node at payload) b dropped writes = absurd (false≢true (sym dropped))
unwritten slot e b dropped writes = refl

same-writes : (slot : ℕ) (places : List ℕ) (place : ℕ) (events : List Event)
    → filter_map (write_in slot) (events_kept places place events) ≡ filter_map (write_in slot) events
same-writes slot places place [] = refl
same-writes slot places place (e ∷ events) =
    none-of (write_in slot) e events (events_kept places (suc place) events)
    (not (is_fault_event e) || list_any (λ other. other == place) places)
    (λ dropped. unwritten slot e (list_any (λ other. other == place) places)
    dropped (filter_map (write_in slot) events))
    (same-writes slot places (suc place) events)

-- no more events of hosts
host-of : (e : Event) (kept : List Event) (b : Bool) (n : ℕ) → count_by is_host_event kept ≤ n
    → count_by is_host_event (elim b as (λ c. List Event) [ true ↦ e ∷ kept | false ↦ kept ])
    ≤ cond (is_host_event e) 1 0 + n
host-of e kept true n few =
    let here = sum_by-cons (λ (x : Event). cond (is_host_event x) 1 0) e kept in omega (arith, few, here)
host-of e kept false n few = omega (arith, few)

fewer-hosts : (places : List ℕ) (place : ℕ) (events : List Event)
    → count_by is_host_event (events_kept places place events) ≤ count_by is_host_event events
fewer-hosts places place [] = omega arith
fewer-hosts places place (e ∷ events) =
    let here = sum_by-cons (λ (x : Event). cond (is_host_event x) 1 0) e events in
    let few =
    host-of e (events_kept places (suc place) events)
    (not (is_fault_event e) || list_any (λ other. other == place) places) (count_by is_host_event events)
    (fewer-hosts places (suc place) events) in
    omega (arith, here, few)

-- The script.

pub with_faults_at-valid : (list : Medl) (script : Script) (places : List ℕ) → IsValidScript list script
    → IsValidScript list (with_faults_at places script)
with_faults_at-valid list script places valid = record {
  slots = valid.slots;
  on_count = valid.on_count;
  on = valid.on;
  drift_count = valid.drift_count;
  drift = valid.drift;
  events =
      all-kept (IsValidEvent list (with_faults_at places script)) places 0 script.events
      (all-valid list script places script.events valid.events);
  writes = λ k slot.
      let same = ap (λ (w : List HostWrite). length (filter_map (payload_of_host k) w))
      (same-writes slot places 0 script.events) in
      let few = valid.writes k slot in
      omega (arith, same, few);
  event_count =
      let few = fewer places 0 script.events in
      let count = valid.event_count in
      omega (arith, few, count);
  host_event_count =
      let few = fewer-hosts places 0 script.events in
      let count = valid.host_event_count in
      omega (arith, few, count);
}

-- What the index of the events asks.

pub kept_bounded : (places : List ℕ) (events : List Event) → All IsBounded events
    → All IsBounded (events_kept places 0 events)
kept_bounded places events all = all-kept IsBounded places 0 events all

pub kept_fewer : (places : List ℕ) (events : List Event) → length (events_kept places 0 events) ≤ length events
kept_fewer places events = fewer places 0 events
