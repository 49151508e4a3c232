-- A start lies after the first slot.
use Rattle.hypothesis.proofs.Words.{◌≡◌, ℕ, ◌+◌, ◌*◌, ◌<◌, Bool, true, false, List, [], ◌∷◌, length, Option, Some, None}
use Rattle.hypothesis.proofs.Words.{refl, arith, IfSome, if◌then◌else◌, filter_map, Medl, Script, lesser, least_of}
use Rattle.hypothesis.proofs.Words.{nodes_of, start_slot, starts_in, IsValid}
use Rattle.std.proofs.Common.{option_map}
use Rattle.std.specs.List.{filter}
use Rattle.ttp_world.specs.Hypothesis.{only_starter, are_all_on}
use Rattle.ttp_world.specs.Hypothesis.{start_in, start_of}
use Rattle.ttp_world.specs.Medl.{may_start}
use Rattle.ttp_world.specs.Script.{on_slot}

abbrev IsLater : Option ℕ → Type 0
IsLater found = IfSome found (λ slot. 0 < slot)

later-lesser : (n : ℕ) (least : Option ℕ) → 0 < n → IsLater least → IsLater (lesser n least)
later-lesser n None here rest = here
later-lesser n (Some m) here rest = omega arith

later-step : (f : ℕ → Option ℕ) (k : ℕ) (ks : List ℕ) (found : Option ℕ) → f k ≡ found → IsLater (f k)
    → IsLater (least_of (filter_map f ks)) → IsLater (least_of (filter_map f (k ∷ ks)))
later-step f k ks None is here rest = rw is rest
later-step f k ks (Some n) is here rest = rw is (later-lesser n (least_of (filter_map f ks)) (rw is at here) rest)

later-least : (f : ℕ → Option ℕ) (ks : List ℕ) → ((k : ℕ) → IsLater (f k)) → IsLater (least_of (filter_map f ks))
later-least f [] each = tt
later-least f (k ∷ ks) each = later-step f k ks (f k) refl (each k) (later-least f ks each)

later-slot : (may : Bool) (on : Option ℕ) (size k : ℕ) → 0 < size
    → IsLater (if may then option_map (λ on. on + 2 * size + k) on else None)
later-slot true None size k some = tt
later-slot true (Some on) size k some = omega arith
later-slot false on size k some = tt

later-only : (slot : ℕ) (ks : List ℕ) (all : Bool) → 0 < slot
    → IfSome (if all then only_starter slot ks else None) (λ start. 0 < start.slot)
later-only slot [] true later = tt
later-only slot (k ∷ []) true later = later
later-only slot (k ∷ j ∷ ks) true later = tt
later-only slot ks false later = tt

later-in : (list : Medl) (script : Script) (least : Option ℕ) → IsLater least
    → IfSome (start_in list script least) (λ start. 0 < start.slot)
later-in list script None later = tt
later-in list script (Some slot) later =
    later-only slot (filter (starts_in list script slot) (nodes_of list)) (are_all_on list script slot) later

pub start_of-later : (list : Medl) (script : Script) → IsValid list
    → IfSome (start_of list script) (λ start. 0 < start.slot)
start_of-later list script valid =
    later-in list script (least_of (filter_map (start_slot list script) (nodes_of list)))
    (later-least (start_slot list script) (nodes_of list)
    (λ k. later-slot (may_start list k) (on_slot script k) (length list.slots) k (omega (arith, valid.count))))
