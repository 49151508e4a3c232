-- Each fault that is tried may stand in the script.
use Rattle.std.proofs.Common.{ℕ, ◌-◌, ◌<◌, ◌≤◌, ℤ, pos, ◌≤ℤ◌, Bool, true, false, cond, List, [], ◌∷◌}
use Rattle.std.proofs.Common.{length, refl, neg_ℤ, arith}
use Rattle.std.specs.Prelude.{All, flat_map, filter, map, nat_le, ◌&&◌, if◌then◌else◌}
use Rattle.std.specs.List.{AllByRecursion, list_any}
use Rattle.std.proofs.lemmas.Int.{int_min_is, ints}
use Rattle.std.proofs.lemmas.List.Elements.{All-nil, All-cons, All-append}
use Rattle.ttp_base.specs.NodeSet.{below}
use Rattle.ttp_base.proofs.Below.{below-lt}
use Rattle.ttp_world.specs.declared.medl.Medl.{Medl}
use Rattle.ttp_world.specs.declared.node.Entry.{Entry}
use Rattle.ttp_world.specs.declared.script.Channels.{Channels}
use Rattle.ttp_world.specs.declared.script.Event.{Event}
use Rattle.ttp_world.specs.declared.script.Event.TheVariants as event
use Rattle.ttp_world.specs.declared.script.Fault.{Fault}
use Rattle.ttp_world.specs.declared.script.Fault.TheVariants as fault
use Rattle.ttp_world.specs.declared.script.Script.{Script}
use Rattle.ttp_world.specs.declared.script.TheConstants.{JUMP_LIMIT}
use Rattle.ttp_world.specs.Diary.{History, entry_of}
use Rattle.ttp_world.specs.Hypothesis.{nodes_of, four_windows}
use Rattle.ttp_world.specs.Medium.{is_sending}
use Rattle.ttp_world.specs.Medl.{IsValid}
use Rattle.ttp_world.specs.Script.{IsWithinSpan}
use Rattle.campaign.specs.Tried.{is_hearing, is_timed, both_channels, only_a, only_b, losses_between, losses_from}
use Rattle.campaign.specs.Tried.{losses_of, sized, jump_sizes, jumps_of, faults_of, faults_in, row_of, slots_between}
use Rattle.campaign.specs.Tried.{faults_from}
use Rattle.single_faults.specs.Tried.{MayStand}

all-each : {X : Type 0} (P : X → Type 0) (xs : List X) → AllByRecursion P xs → All P xs
all-each P [] each = All-nil P
all-each P (x ∷ xs) each = All-cons P x xs each.0 (all-each P xs each.1)

-- of one of two lists, and of the lists of some numbers
all-if : {X : Type 0} (P : X → Type 0) (b : Bool) (xs ys : List X) → All P xs → All P ys → All P (if b then xs else ys)
all-if P true xs ys one other = one
all-if P false xs ys one other = other

all-flat : {X : Type 0} (P : X → Type 0) (f : ℕ → List X) (R : ℕ → Type 0) (ks : List ℕ)
    → ((k : ℕ) → R k → All P (f k)) → AllByRecursion R ks → All P (flat_map f ks)
all-flat P f R [] each within = All-nil P
all-flat P f R (k ∷ ks) each within =
    All-append P (f k) (flat_map f ks) (each k within.0) (all-flat P f R ks each within.1)

-- Losses.

module _ (list : Medl) (script : Script) where
  between : (kind : Channels → Fault → ℕ → ℕ → Event) (from to : ℕ)
      → ((c : Channels) (f : Fault) → MayStand list script (kind c f from to))
      → All (MayStand list script) (losses_between kind from to)
  between kind from to stands =
      all-each (MayStand list script) (losses_between kind from to) (
        stands both_channels fault.Silence,
        (
          stands both_channels fault.Noise,
          (
            stands only_a fault.Silence,
            (stands only_a fault.Noise, (stands only_b fault.Silence, (stands only_b fault.Noise, tt))),
          ),
        ),
      )

  sent-stand : (slot k : ℕ) → k < length list.slots → slot < script.slots
      → All (MayStand list script) (losses_from (event.Send k) script slot)
  sent-stand slot k node inside =
      All-append (MayStand list script) (losses_between (event.Send k) slot slot)
      (losses_between (event.Send k) slot (script.slots - 1))
      (between (event.Send k) slot slot (λ c f. record { valid = (node, (omega arith, inside)); unhosted = refl }))
      (between (event.Send k) slot (script.slots - 1)
      (λ c f. record { valid = (node, (omega (arith, inside), omega (arith, inside))); unhosted = refl }))

  heard-stand : (slot k : ℕ) → k < length list.slots → slot < script.slots
      → All (MayStand list script) (losses_from (event.Receive k) script slot)
  heard-stand slot k node inside =
      All-append (MayStand list script) (losses_between (event.Receive k) slot slot)
      (losses_between (event.Receive k) slot (script.slots - 1))
      (between (event.Receive k) slot slot (λ c f. record { valid = (node, (omega arith, inside)); unhosted = refl }))
      (between (event.Receive k) slot (script.slots - 1)
      (λ c f. record { valid = (node, (omega (arith, inside), omega (arith, inside))); unhosted = refl }))

  losses-stand : (row : List Entry) (slot k : ℕ) → k < length list.slots → slot < script.slots
      → All (MayStand list script) (losses_of script row slot k)
  losses-stand row slot k node inside =
      all-if (MayStand list script) (is_sending (entry_of row k)) (losses_from (event.Send k) script slot)
      (if is_hearing (entry_of row k) && list_any is_sending row then losses_from (event.Receive k) script slot else [])
      (sent-stand slot k node inside)
      (all-if (MayStand list script) (is_hearing (entry_of row k) && list_any is_sending row)
      (losses_from (event.Receive k) script slot) [] (heard-stand slot k node inside) (All-nil (MayStand list script)))

  -- Jumps.

  jump-stands : (z : ℤ) (slot k : ℕ) → k < length list.slots → slot < script.slots → IsWithinSpan JUMP_LIMIT z
      → MayStand list script (event.Jump k z slot)
  jump-stands z slot k node inside within = record { valid = (node, within, inside); unhosted = refl }

  within-sized : (z : ℤ) → pos 0 ≤ℤ z → IsWithinSpan JUMP_LIMIT (sized z)
  within-sized z some =
      let least = int_min_is z (pos JUMP_LIMIT) in
      (omega (arith, ints, least, some), omega (arith, ints, least, some))

  within-negated : (z : ℤ) → pos 0 ≤ℤ z → IsWithinSpan JUMP_LIMIT (neg_ℤ (sized z))
  within-negated z some =
      let least = int_min_is z (pos JUMP_LIMIT) in
      (omega (arith, ints, least, some), omega (arith, ints, least, some))

  jumps-stand : (row : List Entry) (slot k : ℕ) → IsValid list → k < length list.slots → slot < script.slots
      → All (MayStand list script) (jumps_of list row slot k)
  jumps-stand row slot k valid node inside =
      let window = valid.window in
      let near : pos 0 ≤ℤ list.window = omega (arith, ints, window) in
      let far : pos 0 ≤ℤ four_windows list = omega (arith, ints, window) in
      all-if (MayStand list script) (is_timed (entry_of row k)) (map (λ z. event.Jump k z slot) (jump_sizes list)) []
      (all-each (MayStand list script) (map (λ z. event.Jump k z slot) (jump_sizes list)) (
        jump-stands (sized (four_windows list)) slot k node inside (within-sized (four_windows list) far),
        (
          jump-stands (neg_ℤ (sized (four_windows list))) slot k node inside (within-negated (four_windows list) far),
          (
            jump-stands (sized list.window) slot k node inside (within-sized list.window near),
            (jump-stands (neg_ℤ (sized list.window)) slot k node inside (within-negated list.window near), tt),
          ),
        ),
      ))
      (All-nil (MayStand list script))

  -- All of a slot, and of a range.

  pub faults_in-stand : (row : List Entry) (slot : ℕ) → IsValid list → slot < script.slots
      → All (MayStand list script) (faults_in list script row slot)
  faults_in-stand row slot valid inside =
      all-flat (MayStand list script) (faults_of list script row slot) (λ k. k < length list.slots) (nodes_of list)
      (λ k node. All-append (MayStand list script) (losses_of script row slot k) (jumps_of list row slot k)
      (losses-stand row slot k node inside) (jumps-stand row slot k valid node inside))
      (below-lt (length list.slots))

  filtered : (p : ℕ → Bool) (n : ℕ) (ks : List ℕ) → AllByRecursion (λ k. k < n) ks
      → AllByRecursion (λ k. k < n) (filter p ks)
  filtered p n [] within = tt
  filtered p n (k ∷ ks) within = by (p k) (filtered p n ks within.1)
    where
      by : (b : Bool) → AllByRecursion (λ k. k < n) (filter p ks)
          → AllByRecursion (λ k. k < n) (cond b (k ∷ filter p ks) (filter p ks))
      by true rest = (within.0, rest)
      by false rest = rest

  pub faults_from-stand : (history : History) (first last : ℕ) → IsValid list
      → All (MayStand list script) (faults_from list script history first last)
  faults_from-stand history first last valid =
      all-flat (MayStand list script) (λ slot. faults_in list script (row_of history slot) slot)
      (λ slot. slot < script.slots) (slots_between script first last)
      (λ slot inside. faults_in-stand (row_of history slot) slot valid inside)
      (filtered (λ slot. nat_le first slot && nat_le slot last) script.slots (below script.slots)
      (below-lt script.slots))
