-- The nodes that left, by the newest time that each of them did.
use Rattle.std.proofs.Common.{◌≡◌, ℕ, cond, List, [], ◌∷◌, map, length, Option, Some, None, refl}
use Rattle.std.specs.Prelude.{filter, is_some, IfSome}
use Rattle.std.specs.List.{filter_map, cons_option}
use Rattle.ttp_world.specs.declared.node.Entry.{Entry}
use Rattle.ttp_world.specs.declared.node.Entry.TheVariants as entry
use Rattle.ttp_world.specs.Diary.{History, entry_of}
use Rattle.campaign.specs.declared.cost.Leave.{Leave}
use Rattle.campaign.specs.Cost.{leave_after, newest_leave}

leave-node : (history : History) (k : ℕ) → IfSome (newest_leave history k) (λ leave. leave.node ≡ k)
leave-node [] k = tt
leave-node (row ∷ history) k = by (entry_of row k) (newest_leave history k) (leave-node history k)
  where
    by : (e : Entry) (before : Option Leave) → IfSome before (λ leave. leave.node ≡ k)
        → IfSome (leave_after k (length history) e before) (λ leave. leave.node ≡ k)
    by (entry.Left reason peer) before is = refl
    by _ before is = is

with_leave : (k : ℕ) (left : Option Leave) → IfSome left (λ leave. leave.node ≡ k) → (leaves : List Leave) (ks : List ℕ)
    → map (λ leave. leave.node) leaves ≡ ks
    → map (λ leave. leave.node) (cons_option left leaves) ≡ cond (is_some left) (k ∷ ks) ks
with_leave k None is leaves ks same = same
with_leave k (Some leave) is leaves ks same = λ i. is i ∷ same i

pub nodes-left : (history : History) (ks : List ℕ)
    → map (λ leave. leave.node) (filter_map (newest_leave history) ks)
    ≡ filter (λ k. is_some (newest_leave history k)) ks
nodes-left history [] = refl
nodes-left history (k ∷ ks) =
    with_leave k (newest_leave history k) (leave-node history k) (filter_map (newest_leave history) ks)
    (filter (λ k. is_some (newest_leave history k)) ks) (nodes-left history ks)
