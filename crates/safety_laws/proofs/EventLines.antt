-- What lines of a script tell of a node and a slot.
use Rattle.safety_laws.proofs.BackWords.{◌≡◌, ℕ, ◌+◌, ◌<◌, ◌≤◌, Bool, true, false, cond}
use Rattle.safety_laws.proofs.BackWords.{◌&&◌, ℤ, Some, None, refl, ap, sym, ◌∙◌}
use Rattle.safety_laws.proofs.BackWords.{arith, ◌==◌, nat_le, Contains, list_any, and_parts}
use Rattle.safety_laws.proofs.BackWords.{and_from, both_ways, eqb-true}
use Rattle.safety_laws.proofs.BackWords.{leb-true, lt-ltb, Medl, Channel, Event, Fault, Script, four_rounds, is_line_of}
use Rattle.safety_laws.proofs.BackWords.{is_arm_line, arms, is_armed, has_send_fault}
use Rattle.safety_laws.proofs.BackWords.{has_receive_fault, has_jump, any-of}
use Rattle.std.specs.Prelude.{nat_lt, is_some}
use Rattle.std.proofs.lemmas.Bool.{le-leb}
use Rattle.ttp_world.specs.Returning.{touches}
use Rattle.ttp_world.specs.Script.{covers, is_send_fault, is_receive_fault}
use Rattle.ttp_world.specs.Script.{jump_in}
use Rattle.safety_laws.proofs.Lists.{none-stricter}
use Rattle.ttp_world.specs.declared.script.Event.TheVariants as event

-- An arm line.

pub arm-is : (k slot : ℕ) (e : Event) → arms k slot e ≡ true → e ≡ event.Arm k slot
arm-is k slot (event.Arm node at) is =
    let parts = and_parts (node == k) (at == slot) is in
    λ i. event.Arm (eqb-true node k parts.0 i) (eqb-true at slot parts.1 i)
arm-is k slot (event.Send node channels f from to) is = absurd (both_ways _ refl is)
arm-is k slot e is = absurd (both_ways _ refl is)

-- one that is armed has its line
pub arm-line : (script : Script) (k slot : ℕ) → is_armed script k slot ≡ true
    → Contains script.events (event.Arm k slot)
arm-line script k slot is =
    let found = any-of (arms k slot) script.events is in
    let same = arm-is k slot found.0 found.1.1 in
    rw (sym same) found.1.0

pub same-arm : (j k slot later : ℕ) (e : Event) → arms j slot e ≡ true → arms k later e ≡ true
    → (j ≡ k) × (slot ≡ later)
same-arm j k slot later e one other =
    let same : event.Arm j slot ≡ event.Arm k later = sym (arm-is j slot e one) ∙ arm-is k later e other in
    (node-same same, slot-same same)
  where
    node-same : event.Arm j slot ≡ event.Arm k later → j ≡ k
    node-same same = cc

    slot-same : event.Arm j slot ≡ event.Arm k later → slot ≡ later
    slot-same same = cc

-- an arm line of a slot near
pub arm-near : (list : Medl) (k slot at : ℕ) (e : Event) → slot ≤ at → at < slot + four_rounds list → arms k at e ≡ true
    → is_arm_line list slot e ≡ true
arm-near list k slot at e from to is =
    ap (is_arm_line list slot) (arm-is k at e is) ∙ and_from _ _ (le-leb _ _ from) (lt-ltb _ _ to)

-- Lines of a node that is left alone in the four rounds from a slot on.

touched : (list : Medl) (slot from to at : ℕ) → slot ≤ at → at < slot + four_rounds list → covers from to at ≡ true
    → touches list slot from to ≡ true
touched list slot from to at after near is =
    let parts = and_parts (nat_le from at) (nat_le at to) is in
    let low = leb-true from at parts.0 in
    let high = leb-true at to parts.1 in
    and_from (nat_lt from (slot + four_rounds list)) (nat_le slot to)
    (lt-ltb from (slot + four_rounds list) (omega (arith, low))) (le-leb slot to (omega (arith, high)))

send-line : (list : Medl) (kind : Fault) (k slot at : ℕ) (c : Channel) → slot ≤ at → at < slot + four_rounds list
    → (e : Event) → is_send_fault kind k c at e ≡ true → is_line_of list k slot e ≡ true
send-line list kind k slot at c after near (event.Send node channels f from to) is =
    let parts = and_parts _ _ is in
    let rest = and_parts _ _ parts.1 in
    let last = and_parts _ _ rest.1 in
    and_from _ _ parts.0 (touched list slot from to at after near last.1)
send-line list kind k slot at c after near (event.Receive node channels f from to) is = absurd (both_ways _ refl is)
send-line list kind k slot at c after near w is = absurd (both_ways _ refl is)

receive-line : (list : Medl) (kind : Fault) (k slot at : ℕ) (c : Channel) → slot ≤ at → at < slot + four_rounds list
    → (e : Event) → is_receive_fault kind k c at e ≡ true → is_line_of list k slot e ≡ true
receive-line list kind k slot at c after near (event.Receive node channels f from to) is =
    let parts = and_parts _ _ is in
    let rest = and_parts _ _ parts.1 in
    let last = and_parts _ _ rest.1 in
    and_from _ _ parts.0 (touched list slot from to at after near last.1)
receive-line list kind k slot at c after near (event.Send node channels f from to) is = absurd (both_ways _ refl is)
receive-line list kind k slot at c after near w is = absurd (both_ways _ refl is)

jumped : (b : Bool) (value : ℤ) → is_some (cond b (Some value) None) ≡ true → b ≡ true
jumped true value is = refl
jumped false value is = absurd (both_ways _ refl is)

jump-line : (list : Medl) (k slot at : ℕ) → slot ≤ at → at < slot + four_rounds list → (e : Event)
    → is_some (jump_in k at e) ≡ true → is_line_of list k slot e ≡ true
jump-line list k slot at after near (event.Jump node value t) is =
    let parts = and_parts _ _ (jumped ((node == k) && (t == at)) value is) in
    let same : t ≡ at = eqb-true t at parts.1 in
    and_from _ _ parts.0 (touched list slot t t at after near
    (and_from _ _ (le-leb t at (omega (arith, same))) (le-leb at t (omega (arith, same)))))
jump-line list k slot at after near (event.Send node channels f from to) is = absurd (both_ways _ refl is)
jump-line list k slot at after near w is = absurd (both_ways _ refl is)

-- so no such line speaks of it there
pub alone-sends : (list : Medl) (script : Script) (kind : Fault) (k slot at : ℕ) (c : Channel) → slot ≤ at
    → at < slot + four_rounds list → list_any (is_line_of list k slot) script.events ≡ false
    → has_send_fault script kind k c at ≡ false
alone-sends list script kind k slot at c after near none =
    none-stricter (is_line_of list k slot) (is_send_fault kind k c at) script.events
    (send-line list kind k slot at c after near) none

pub alone-hears : (list : Medl) (script : Script) (kind : Fault) (k slot at : ℕ) (c : Channel) → slot ≤ at
    → at < slot + four_rounds list → list_any (is_line_of list k slot) script.events ≡ false
    → has_receive_fault script kind k c at ≡ false
alone-hears list script kind k slot at c after near none =
    none-stricter (is_line_of list k slot) (is_receive_fault kind k c at) script.events
    (receive-line list kind k slot at c after near) none

pub alone-still : (list : Medl) (script : Script) (k slot at : ℕ) → slot ≤ at → at < slot + four_rounds list
    → list_any (is_line_of list k slot) script.events ≡ false → has_jump script k at ≡ false
alone-still list script k slot at after near none =
    none-stricter (is_line_of list k slot) (λ e. is_some (jump_in k at e)) script.events
    (jump-line list k slot at after near) none
