-- A script of the generator, part by part.
use Rattle.script_gen.proofs.Words.{◌≡◌, ℕ, ◌+◌, ◌*◌, ◌%◌, ◌<◌, Bool, true, false, cond, ◌&&◌, ◌||◌, [], ◌∷◌, ◌++◌}
use Rattle.script_gen.proofs.Words.{length, map, replicate, Some, refl, ap, ◌∙◌, ◌==◌, nat_le, nat_lt, AllByRecursion}
use Rattle.script_gen.proofs.Words.{list_any, and_parts, list_any-append, below, map_each-below, Medl, Event, Script}
use Rattle.script_gen.proofs.Words.{plan_at, drawn, starter_of, drift_by, error_by, most_faults, fault_slot_of}
use Rattle.script_gen.proofs.Words.{both_channels, fault_by, fault_within, has_payload, write_by, reads_by}
use Rattle.script_gen.proofs.Words.{host_events_in, error_events, fault_events, host_events, all_events, generated}
use Rattle.script_gen.proofs.Words.{each-append}
use Rattle.std.proofs.lemmas.Bool.{cond_both, ltb-true}
use Rattle.ttp_world.specs.declared.script.Event.TheVariants as event
use Rattle.ttp_world.specs.declared.script.Fault.TheVariants as fault
use Rattle.ttp_world.specs.declared.script.Source.TheVariants as source
use Rattle.script_gen.proofs.Ranges.{each-flat_map, any-each, any-flat_map}

-- a script is the one that a number gives
pub record IsGenerated (list : Medl) (number : ℕ) (script : Script) : Type 0 where
  pub on : script.on ≡ replicate (length list.slots) (Some 0)
  pub drift : script.drift ≡ map (drift_by list number) (below (length list.slots))
  pub events : script.events ≡ all_events list script.slots number

pub generated-is : (list : Medl) (slots number : ℕ) → IsGenerated list number (generated list slots number)
unfolding generated
generated-is list slots number = record { on = refl; drift = refl; events = refl }

-- whose slot the slot of a fault is, and the node after it
abbrev pub sender_at : Medl → ℕ → ℕ
sender_at list j = (starter_of list + 2 * j) % length list.slots

abbrev pub receiver_at : Medl → ℕ → ℕ
receiver_at list j = (starter_of list + 2 * j + 1) % length list.slots

abbrev pub is_even : Medl → ℕ → ℕ → Bool
is_even list number j = drawn number (2 * length list.slots + j) % 2 == 0

-- what holds of the faults of each kind, and of all that hosts do
pub record OfFaults (P : Event → Type 0) (list : Medl) (slots : ℕ) : Type 0 where
  pub sends : (j : ℕ) → j < most_faults list → fault_slot_of list j < slots
      → P (event.Send (sender_at list j) both_channels fault.Noise (fault_slot_of list j) (fault_slot_of list j))
  pub receives : (j : ℕ) → j < most_faults list → fault_slot_of list j < slots
      → P (event.Receive (receiver_at list j) both_channels fault.Noise (fault_slot_of list j) (fault_slot_of list j))

pub record OfHosts (P : Event → Type 0) (list : Medl) (slots : ℕ) : Type 0 where
  pub writes : (slot : ℕ) → slot < slots → has_payload list (slot % length list.slots) ≡ true
      → P (event.Write (slot % length list.slots) slot
      (replicate (plan_at list (slot % length list.slots)).payload (slot % 256)))
  pub statuses : (slot : ℕ) → slot < slots → P (event.Read ((slot + 1) % length list.slots) slot source.Status)
  pub reads : (slot : ℕ) → slot < slots → has_payload list (slot % length list.slots) ≡ true
      → P (event.Read ((slot + 1) % length list.slots) slot (source.Node (slot % length list.slots)))

one-if : (P : Event → Type 0) (b : Bool) (e : Event) → (b ≡ true → P e) → AllByRecursion P (cond b (e ∷ []) [])
one-if P true e holds = (holds refl, tt)
one-if P false e holds = tt

pub each-fault : (P : Event → Type 0) (list : Medl) (slots number : ℕ) → OfFaults P list slots
    → AllByRecursion P (fault_events list slots number)
each-fault P list slots number each =
    each-flat_map P (fault_within list slots number) (most_faults list)
    (λ j less.
    one-if P (nat_lt (fault_slot_of list j) slots) (fault_by list j (drawn number (2 * length list.slots + j)))
    (λ within.
    let at : fault_slot_of list j < slots = ltb-true (fault_slot_of list j) slots within in
    cond_both (is_even list number j) _ _ P (λ even. each.sends j less at) (λ odd. each.receives j less at)))

pub each-host : (P : Event → Type 0) (list : Medl) (slots : ℕ) → OfHosts P list slots
    → AllByRecursion P (host_events list slots)
each-host P list slots each =
    let n = length list.slots in
    each-flat_map P (host_events_in list) slots
    (λ slot less.
    each-append P (write_by list slot (slot % n)) (reads_by list slot ((slot + 1) % n) (slot % n))
    (one-if P (nat_le 2 list.buffers && has_payload list (slot % n)) _
    (λ both. each.writes slot less (and_parts (nat_le 2 list.buffers) (has_payload list (slot % n)) both).1)) (
      each.statuses slot less,
      one-if P (has_payload list (slot % n)) _ (λ loaded. each.reads slot less loaded),
    ))

pub each-event : (P : Event → Type 0) (list : Medl) (slots number : ℕ)
    → ((k : ℕ) → k < length list.slots → P (error_by list slots number k)) → OfFaults P list slots
    → OfHosts P list slots
    → AllByRecursion P (all_events list slots number)
each-event P list slots number errors faults hosts =
    each-append P (error_events list slots number) (fault_events list slots number ++ host_events list slots)
    (map_each-below P (error_by list slots number) (length list.slots) errors)
    (each-append P (fault_events list slots number) (host_events list slots) (each-fault P list slots number faults)
    (each-host P list slots hosts))

-- what no error and nothing of hosts passes is passed by a fault, if at all
pub any-fault : (p : Event → Bool) (list : Medl) (slots number : ℕ)
    → ((k : ℕ) → p (error_by list slots number k) ≡ false) → OfHosts (λ e. p e ≡ false) list slots
    → list_any p (all_events list slots number)
    ≡ list_any (λ j. list_any p (fault_within list slots number j)) (below (most_faults list))
any-fault p list slots number errors hosts =
    let faults = fault_events list slots number in
    list_any-append p (error_events list slots number) (faults ++ host_events list slots)
    ∙ ap (λ b. b || list_any p (faults ++ host_events list slots))
    (any-each p (error_events list slots number)
    (map_each-below (λ e. p e ≡ false) (error_by list slots number) (length list.slots) (λ k less. errors k)))
    ∙ list_any-append p faults (host_events list slots)
    ∙ ap (λ b. list_any p faults || b)
    (any-each p (host_events list slots) (each-host (λ e. p e ≡ false) list slots hosts))
    ∙ or-false (list_any p faults)
    ∙ any-flat_map p (fault_within list slots number) (below (most_faults list))
  where
    or-false : (b : Bool) → (b || false) ≡ b
    or-false true = refl
    or-false false = refl
