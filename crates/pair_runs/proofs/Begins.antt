-- The faults that are tried in a slot may stand in the script, and begin in that slot.
use Rattle.std.proofs.Common.{◌≡◌, ℕ, ◌-◌, ◌<◌, ◌≤◌, ℤ, Bool, true, false, cond}
use Rattle.std.proofs.Common.{List, [], ◌∷◌, length, ap, sym, subst, arith}
use Rattle.std.specs.Prelude.{All, flat_map, map, nat_le, ◌&&◌}
use Rattle.std.specs.List.{AllByRecursion, list_any}
use Rattle.std.proofs.lemmas.Bool.{le-leb}
use Rattle.std.proofs.lemmas.List.Elements.{All-from_recursion}
use Rattle.ttp_world.specs.declared.medl.Medl.{Medl}
use Rattle.ttp_world.specs.declared.node.Entry.{Entry}
use Rattle.ttp_world.specs.declared.script.Channels.{Channels}
use Rattle.ttp_world.specs.declared.script.Event.{Event}
use Rattle.ttp_world.specs.declared.script.Event.TheVariants as event
use Rattle.ttp_world.specs.declared.script.Fault.{Fault}
use Rattle.ttp_world.specs.declared.script.Fault.TheVariants as fault
use Rattle.ttp_world.specs.declared.script.Script.{Script}
use Rattle.ttp_world.specs.Diary.{entry_of}
use Rattle.ttp_world.specs.Hypothesis.{nodes_of}
use Rattle.ttp_world.specs.Medium.{is_sending}
use Rattle.ttp_world.specs.Medl.{IsValid}
use Rattle.ttp_world.specs.Script.{IsValidEvent}
use Rattle.ttp_world.proofs.Lists.{nodes-most}
use Rattle.ttp_world.proofs.LineLists.{each-append}
use Rattle.campaign.specs.Lines.{fault_node}
use Rattle.campaign.specs.Tried.{both_channels, only_a, only_b, is_hearing, is_timed}
use Rattle.campaign.specs.Tried.{losses_between, losses_from, losses_of}
use Rattle.campaign.specs.Tried.{jump_sizes, jumps_of, faults_of, faults_in, with_fault, row_of}
use Rattle.ttp_world.specs.ZerosWorld.{zeros_world}
use Rattle.single_faults.specs.Tried.{MayStand}
use Rattle.pair_runs.proofs.FromBelow.{faults_in-stand, tried-few}
use Rattle.run_costs.specs.Later.{comes_later}
use Rattle.pair_runs.specs.Tries.{MayBegin}
use Rattle.pair_runs.specs.Written.{faults_at}

module _ (slot : ℕ) where
  abbrev Begins : Event → Type 0
  Begins e = comes_later slot e ≡ true

  here : (nat_le slot slot && true) ≡ true
  here = ap (λ b. b && true) (le-leb slot slot (omega arith))

  losses : (kind : Channels → Fault → ℕ → ℕ → Event) (to : ℕ) → ((c : Channels) (f : Fault) → Begins (kind c f slot to))
      → AllByRecursion Begins (losses_between kind slot to)
  losses kind to begins = (
    begins both_channels fault.Silence,
    (
      begins both_channels fault.Noise,
      (
        begins only_a fault.Silence,
        (begins only_a fault.Noise, (begins only_b fault.Silence, (begins only_b fault.Noise, tt))),
      ),
    ),
  )

  all-losses : (kind : Channels → Fault → ℕ → ℕ → Event) (script : Script)
      → ((c : Channels) (f : Fault) (to : ℕ) → Begins (kind c f slot to))
      → AllByRecursion Begins (losses_from kind script slot)
  all-losses kind script begins =
      each-append Begins (losses_between kind slot slot) (losses_between kind slot (script.slots - 1))
      (losses kind slot (λ c f. begins c f slot))
      (losses kind (script.slots - 1) (λ c f. begins c f (script.slots - 1)))

  jumps : (k : ℕ) (sizes : List ℤ) → AllByRecursion Begins (map (λ z. event.Jump k z slot) sizes)
  jumps k [] = tt
  jumps k (z ∷ sizes) = (here, jumps k sizes)

  of-node : (list : Medl) (script : Script) (row : List Entry) (k : ℕ)
      → AllByRecursion Begins (faults_of list script row slot k)
  of-node list script row k =
      each-append Begins (losses_of script row slot k) (jumps_of list row slot k)
      (lost (is_sending (entry_of row k)) (is_hearing (entry_of row k) && list_any is_sending row))
      (jumped (is_timed (entry_of row k)))
    where
      lost : (a b : Bool) → AllByRecursion Begins (cond a (losses_from (event.Send k) script slot)
          (cond b (losses_from (event.Receive k) script slot) []))
      lost true b = all-losses (event.Send k) script (λ c f to. here)
      lost false true = all-losses (event.Receive k) script (λ c f to. here)
      lost false false = tt

      jumped : (a : Bool) → AllByRecursion Begins (cond a (map (λ z. event.Jump k z slot) (jump_sizes list)) [])
      jumped true = jumps k (jump_sizes list)
      jumped false = tt

  of-nodes : (list : Medl) (script : Script) (row : List Entry) (ks : List ℕ)
      → AllByRecursion Begins (flat_map (faults_of list script row slot) ks)
  of-nodes list script row [] = tt
  of-nodes list script row (k ∷ ks) =
      each-append Begins (faults_of list script row slot k) (flat_map (faults_of list script row slot) ks)
      (of-node list script row k) (of-nodes list script row ks)

pub faults_in-begin : (list : Medl) (script : Script) (row : List Entry) (slot : ℕ) → IsValid list → slot < script.slots
    → All (MayBegin list script slot) (faults_in list script row slot)
faults_in-begin list script row slot valid inside =
    let begin =
    All-from_recursion (λ (e : Event). comes_later slot e ≡ true) (faults_in list script row slot)
    (of-nodes slot list script row (nodes_of list)) in
    let stand = faults_in-stand list script row slot valid inside in
    λ k d less. record { may = stand k d less; later = begin k d less }

-- what may stand in a script may stand in one with an event more
stands-also : (list : Medl) (script : Script) (one e : Event) → IsValidEvent list script e
    → IsValidEvent list (with_fault script one) e
stands-also list script one (event.Send node channels f from to) valid = valid
stands-also list script one e valid = valid

pub may-stand_also : (list : Medl) (script : Script) (one two : Event) → MayStand list script two
    → MayStand list (with_fault script one) two
may-stand_also list script one two may =
    record { valid = stands-also list script one two may.valid; unhosted = may.unhosted }

-- its node is one of the list
node-small : (list : Medl) (script : Script) (e : Event) → IsValid list → IsValidEvent list script e → fault_node e < 24
node-small list script (event.Send node channels f from to) valid may = omega (arith, may.0, nodes-most list valid)
node-small list script (event.Receive node channels f from to) valid may = omega (arith, may.0, nodes-most list valid)
node-small list script (event.Jump node value slot) valid may = omega (arith, may.0, nodes-most list valid)
node-small list script e valid may = omega arith

pub may-node : (list : Medl) (script : Script) (e : Event) → IsValid list → MayStand list script e → fault_node e < 24
may-node list script e valid may = node-small list script e valid may.valid

-- Those of a slot of a run.

pub at-begin : (list : Medl) (script : Script) (slot : ℕ) → IsValid list → slot < script.slots
    → All (MayBegin list script slot) (faults_at list script slot)
at-begin list script slot valid inside =
    faults_in-begin list script (row_of (zeros_world list script script.slots) slot) slot valid inside

pub at-stands : (list : Medl) (script : Script) (slot : ℕ) → IsValid list → slot < script.slots
    → All (MayStand list script) (faults_at list script slot)
at-stands list script slot valid inside =
    faults_in-stand list script (row_of (zeros_world list script script.slots) slot) slot valid inside

-- those that are tried with a fault more may stand in the script without it
pub at-stand : (list : Medl) (script more : Script) (one : Event) (slot : ℕ) → IsValid list → slot < script.slots
    → more ≡ with_fault script one → All (MayStand list script) (faults_at list more slot)
at-stand list script more one slot valid inside is =
    subst (λ (s : Script). All (MayStand list script) (faults_at list s slot)) (sym is)
    (faults_in-stand list script
    (row_of (zeros_world list (with_fault script one) script.slots) slot) slot valid inside)

pub at-few : (list : Medl) (script : Script) (slot : ℕ) → IsValid list → length (faults_at list script slot) ≤ 384
at-few list script slot valid =
    let same : (nat_le slot slot && nat_le slot slot) ≡ true =
    (λ i. le-leb slot slot (omega arith) i && le-leb slot slot (omega arith) i) in
    subst (λ (b : Bool). length (cond b (faults_at list script slot) []) ≤ 384) same
    (tried-few list script slot slot slot (nodes-most list valid))
