-- Who loses a frame in a script of the generator: in the slot of a fault all others or one node, by what was drawn.
use Rattle.script_gen.proofs.Words.{◌≡◌, ℕ, ◌+◌, ◌-◌, ◌*◌, ◌<◌, ◌≤◌, ℤ, Bool, true, false, cond, not, ◌&&◌, ◌||◌, List}
use Rattle.script_gen.proofs.Words.{[], ◌∷◌, length, None, refl, ap, ◌∙◌, inl, inr, arith, ◌==◌, is_some, nat_le}
use Rattle.script_gen.proofs.Words.{nat_lt, filter_map, list_any, mul-le-mul_right, and_parts, and_right, cases_lt}
use Rattle.script_gen.proofs.Words.{eq-eqb, false≢true, le-leb, leb-true, lt-ltb, Medl, Event, Script, covers, least_of}
use Rattle.script_gen.proofs.Words.{loses, most_faults, fault_slot_of, both_channels, fault_within, all_events}
use Rattle.std.proofs.lemmas.Bool.{false_from_ne_true}
use Rattle.ttp_world.specs.declared.script.Channel.{Channel}
use Rattle.ttp_world.specs.declared.script.Channel.TheVariants as channel
use Rattle.ttp_world.specs.declared.script.Event.TheVariants as event
use Rattle.ttp_world.specs.declared.script.Fault.{Fault}
use Rattle.ttp_world.specs.declared.script.Fault.TheVariants as fault
use Rattle.ttp_world.specs.declared.script.Source.{Source}
use Rattle.ttp_world.specs.Events.{is_among, is_send_fault, is_receive_fault, jump_in}
use Rattle.ttp_world.specs.Hypothesis.{outside_slot, outside_broken, is_covered}
use Rattle.ttp_world.specs.Script.{has_jump}
use Rattle.script_gen.proofs.Parts.{IsGenerated, OfHosts, sender_at, receiver_at, is_even, each-event}
use Rattle.script_gen.proofs.Parts.{any-fault}
use Rattle.script_gen.proofs.Ranges.{any-each, any-none, any-one}
use Rattle.ttp_base.proofs.NodeSets.{and-true}
use Rattle.ttp_world.proofs.LineLists.{filter_map-none as nothing-each}

-- Nothing stands outside the hypothesis, and no clock jumps.

pub outside-holds : (list : Medl) (number : ℕ) (script : Script) → IsGenerated list number script
    → outside_broken list script ≡ None
outside-holds list number script is =
    ap (λ events. least_of (filter_map (outside_slot list script) events)) is.events
    ∙ ap least_of (nothing-each (outside_slot list script) (all_events list script.slots number)
    (each-event (λ e. outside_slot list script e ≡ None) list script.slots number (λ k less. refl)
    (record { sends = λ j less within. refl; receives = λ j less within. refl })
    (record {
      writes = λ t less loaded. refl;
      statuses = λ t less. refl;
      reads = λ t less loaded. refl;
    })))

pub no-jumps : (list : Medl) (number : ℕ) (script : Script) (k slot : ℕ) → IsGenerated list number script
    → has_jump script k slot ≡ false
no-jumps list number script k slot is =
    ap (list_any (λ e. is_some (jump_in k slot e))) is.events
    ∙ any-each (λ e. is_some (jump_in k slot e)) (all_events list script.slots number)
    (each-event (λ e. is_some (jump_in k slot e) ≡ false) list script.slots number (λ k less. refl)
    (record { sends = λ j less within. refl; receives = λ j less within. refl })
    (record {
      writes = λ t less loaded. refl;
      statuses = λ t less. refl;
      reads = λ t less loaded. refl;
    }))

-- An event that is of one slot.

covers-here : (slot : ℕ) → covers slot slot slot ≡ true
covers-here slot = let at : nat_le slot slot ≡ true = le-leb slot slot (omega arith) in rw at refl

covers-other : (at slot : ℕ) → (at ≡ slot → ⊥) → covers at at slot ≡ false
covers-other at slot other =
    false_from_ne_true (covers at at slot) (λ both.
    let parts = and_parts (nat_le at slot) (nat_le slot at) both in
    let from = leb-true at slot parts.0 in
    let to = leb-true slot at parts.1 in
    other (omega (arith, from, to)))

among-both : (c : Channel) → is_among c both_channels ≡ true
among-both channel.A = refl
among-both channel.B = refl

-- a fault of either kind at a slot
abbrev fault_at : Bool → ℕ → ℕ → ℕ → Event
fault_at even sender receiver at =
    cond even (event.Send sender both_channels fault.Noise at at)
    (event.Receive receiver both_channels fault.Noise at at)

send-other : (kind : Fault) (k : ℕ) (c : Channel) (slot : ℕ) (even : Bool) (sender receiver at : ℕ)
    → (at ≡ slot → ⊥) → is_send_fault kind k c slot (fault_at even sender receiver at) ≡ false
send-other fault.Silence k c slot true sender receiver at other =
    and_right (sender == k) _ (and_right (is_among c both_channels) _ refl)
send-other fault.Noise k c slot true sender receiver at other =
    and_right (sender == k) _ (and_right (is_among c both_channels) _ (covers-other at slot other))
send-other kind k c slot false sender receiver at other = refl

receive-other : (kind : Fault) (k : ℕ) (c : Channel) (slot : ℕ) (even : Bool) (sender receiver at : ℕ)
    → (at ≡ slot → ⊥) → is_receive_fault kind k c slot (fault_at even sender receiver at) ≡ false
receive-other kind k c slot true sender receiver at other = refl
receive-other fault.Silence k c slot false sender receiver at other =
    and_right (receiver == k) _ (and_right (is_among c both_channels) _ refl)
receive-other fault.Noise k c slot false sender receiver at other =
    and_right (receiver == k) _ (and_right (is_among c both_channels) _ (covers-other at slot other))

send-here : (k : ℕ) (c : Channel) (slot : ℕ) (even : Bool) (sender receiver : ℕ)
    → is_send_fault fault.Noise k c slot (fault_at even sender receiver slot) ≡ (even && (sender == k))
send-here k c slot true sender receiver =
    ap (λ b. (sender == k) && (b && covers slot slot slot)) (among-both c)
    ∙ ap (λ b. (sender == k) && b) (covers-here slot) ∙ and-true (sender == k)
send-here k c slot false sender receiver = refl

receive-here : (k : ℕ) (c : Channel) (slot : ℕ) (even : Bool) (sender receiver : ℕ)
    → is_receive_fault fault.Noise k c slot (fault_at even sender receiver slot) ≡ (not even && (receiver == k))
receive-here k c slot true sender receiver = refl
receive-here k c slot false sender receiver =
    ap (λ b. (receiver == k) && (b && covers slot slot slot)) (among-both c)
    ∙ ap (λ b. (receiver == k) && b) (covers-here slot) ∙ and-true (receiver == k)

silent-send : (k : ℕ) (c : Channel) (slot : ℕ) (even : Bool) (sender receiver at : ℕ)
    → is_send_fault fault.Silence k c slot (fault_at even sender receiver at) ≡ false
silent-send k c slot true sender receiver at = and_right (sender == k) _ (and_right (is_among c both_channels) _ refl)
silent-send k c slot false sender receiver at = refl

silent-receive : (k : ℕ) (c : Channel) (slot : ℕ) (even : Bool) (sender receiver at : ℕ)
    → is_receive_fault fault.Silence k c slot (fault_at even sender receiver at) ≡ false
silent-receive k c slot true sender receiver at = refl
silent-receive k c slot false sender receiver at =
    and_right (receiver == k) _ (and_right (is_among c both_channels) _ refl)

-- Of all events.

-- two faults lie two rounds apart, and two slots
pub faults-apart : (list : Medl) (i j : ℕ) → i < j
    → fault_slot_of list i + (2 * length list.slots + 2) ≤ fault_slot_of list j
faults-apart list i j less =
    let gap = 2 * length list.slots + 2 in
    let more : (i + 1) * gap ≤ j * gap = mul-le-mul_right gap (omega arith) in
    let next : (i + 1) * gap ≡ i * gap + gap = omega arith in
    omega arith

faults-differ : (list : Medl) (i j : ℕ) → (i ≡ j → ⊥) → fault_slot_of list i ≡ fault_slot_of list j → ⊥
faults-differ list i j other same = elim (cases_lt i j) [
  | inl less ↦ let apart = faults-apart list i j less in omega arith
  | inr from ↦ let apart = faults-apart list j i (omega arith) in omega arith
]

-- a test that no event passes but faults of one slot
pub record IsOfSlot (slot : ℕ) (p : Event → Bool) : Type 0 where
  pub errors : (k from to : ℕ) (value : ℤ) → p (event.Error k value from to) ≡ false
  pub faults : (even : Bool) (sender receiver at : ℕ) → (at ≡ slot → ⊥) → p (fault_at even sender receiver at) ≡ false
  pub writes : (k at : ℕ) (payload : List ℕ) → p (event.Write k at payload) ≡ false
  pub reads : (k at : ℕ) (from : Source) → p (event.Read k at from) ≡ false

of-hosts : (list : Medl) (slots slot : ℕ) (p : Event → Bool) → IsOfSlot slot p → OfHosts (λ e. p e ≡ false) list slots
of-hosts list slots slot p of = record {
  writes = λ t less loaded. of.writes _ _ _;
  statuses = λ t less. of.reads _ _ _;
  reads = λ t less loaded. of.reads _ _ _;
}

one-passes : (p : Event → Bool) (b : Bool) (e : Event) → b ≡ true → list_any p (cond b (e ∷ []) []) ≡ p e
one-passes p true e is = or-false (p e)
  where
    or-false : (b : Bool) → (b || false) ≡ b
    or-false true = refl
    or-false false = refl
one-passes p false e is = absurd (false≢true is)

one-fails : (p : Event → Bool) (b : Bool) (e : Event) → p e ≡ false → list_any p (cond b (e ∷ []) []) ≡ false
one-fails p true e fails = rw fails refl
one-fails p false e fails = refl

pub any-quiet : (list : Medl) (slots number slot : ℕ) (p : Event → Bool) → IsOfSlot slot p
    → ((j : ℕ) → j < most_faults list → fault_slot_of list j ≡ slot → ⊥)
    → list_any p (all_events list slots number) ≡ false
any-quiet list slots number slot p of quiet =
    any-fault p list slots number (λ k. of.errors k 0 (slots - 1) _) (of-hosts list slots slot p of)
    ∙ any-none (λ j. list_any p (fault_within list slots number j)) (most_faults list)
    (λ j less. one-fails p (nat_lt (fault_slot_of list j) slots) _
    (of.faults (is_even list number j) (sender_at list j) (receiver_at list j) (fault_slot_of list j) (quiet j less)))

pub any-struck : (list : Medl) (slots number j : ℕ) (p : Event → Bool) → IsOfSlot (fault_slot_of list j) p
    → j < most_faults list → fault_slot_of list j < slots
    → list_any p (all_events list slots number)
    ≡ p (fault_at (is_even list number j) (sender_at list j) (receiver_at list j) (fault_slot_of list j))
any-struck list slots number j p of less within =
    any-fault p list slots number (λ k. of.errors k 0 (slots - 1) _) (of-hosts list slots (fault_slot_of list j) p of)
    ∙ any-one (λ i. list_any p (fault_within list slots number i)) (most_faults list) j
    (λ i other. one-fails p (nat_lt (fault_slot_of list i) slots) _
    (of.faults (is_even list number i) (sender_at list i) (receiver_at list i) (fault_slot_of list i)
    (faults-differ list i j other))) less
    ∙ one-passes p (nat_lt (fault_slot_of list j) slots) _ (lt-ltb (fault_slot_of list j) slots within)

of-send : (kind : Fault) (k : ℕ) (c : Channel) (slot : ℕ) → IsOfSlot slot (is_send_fault kind k c slot)
of-send kind k c slot = record {
  errors = λ j from to value. refl;
  faults = send-other kind k c slot;
  writes = λ j at payload. refl;
  reads = λ j at from. refl;
}

of-receive : (kind : Fault) (k : ℕ) (c : Channel) (slot : ℕ) → IsOfSlot slot (is_receive_fault kind k c slot)
of-receive kind k c slot = record {
  errors = λ j from to value. refl;
  faults = receive-other kind k c slot;
  writes = λ j at payload. refl;
  reads = λ j at from. refl;
}

-- Who loses a frame.

loses-by : (script : Script) (sender slot r : ℕ) (b : Bool)
    → ((c : Channel) → is_covered script sender r slot c ≡ b) → loses script sender slot r ≡ b
loses-by script sender slot r b covered =
    (λ i. covered channel.A i && covered channel.B i) ∙ both-same b
  where
    both-same : (b : Bool) → (b && b) ≡ b
    both-same true = refl
    both-same false = refl

-- nobody, where no fault has its slot
pub none-loses : (list : Medl) (number : ℕ) (script : Script) (sender slot r : ℕ) → IsGenerated list number script
    → ((j : ℕ) → j < most_faults list → fault_slot_of list j ≡ slot → ⊥) → loses script sender slot r ≡ false
none-loses list number script sender slot r is quiet = loses-by script sender slot r false covered
  where
    none : (p : Event → Bool) → IsOfSlot slot p → list_any p script.events ≡ false
    none p of = ap (list_any p) is.events ∙ any-quiet list script.slots number slot p of quiet

    covered : (c : Channel) → is_covered script sender r slot c ≡ false
    covered c = λ i.
        (none (is_send_fault fault.Silence sender c slot) (of-send fault.Silence sender c slot) i
        || none (is_send_fault fault.Noise sender c slot) (of-send fault.Noise sender c slot) i)
        || (none (is_receive_fault fault.Silence r c slot) (of-receive fault.Silence r c slot) i
        || none (is_receive_fault fault.Noise r c slot) (of-receive fault.Noise r c slot) i)

-- in the slot of a fault all do, or the node after the sender
by-draw : (even here : Bool) → ((false || (even && true)) || (false || (not even && here))) ≡ (even || here)
by-draw true here = refl
by-draw false here = refl

pub who-loses : (list : Medl) (number : ℕ) (script : Script) (j r : ℕ) → IsGenerated list number script
    → j < most_faults list → fault_slot_of list j < script.slots
    → loses script (sender_at list j) (fault_slot_of list j) r ≡ (is_even list number j || (receiver_at list j == r))
who-loses list number script j r is less within =
    loses-by script sender slot r (even || (receiver == r)) (λ c.
    (λ i.
    ((told (is_send_fault fault.Silence sender c slot) (of-send fault.Silence sender c slot)
    ∙ silent-send sender c slot even sender receiver slot) i
    || (told (is_send_fault fault.Noise sender c slot) (of-send fault.Noise sender c slot)
    ∙ send-here sender c slot even sender receiver ∙ ap (λ b. even && b) (eq-eqb sender sender refl)) i)
    || ((told (is_receive_fault fault.Silence r c slot) (of-receive fault.Silence r c slot)
    ∙ silent-receive r c slot even sender receiver slot) i
    || (told (is_receive_fault fault.Noise r c slot) (of-receive fault.Noise r c slot)
    ∙ receive-here r c slot even sender receiver) i))
    ∙ by-draw even (receiver == r))
  where
    sender : ℕ
    sender = sender_at list j

    receiver : ℕ
    receiver = receiver_at list j

    slot : ℕ
    slot = fault_slot_of list j

    even : Bool
    even = is_even list number j

    told : (p : Event → Bool) → IsOfSlot slot p → list_any p script.events ≡ p (fault_at even sender receiver slot)
    told p of = ap (list_any p) is.events ∙ any-struck list script.slots number j p of less within
