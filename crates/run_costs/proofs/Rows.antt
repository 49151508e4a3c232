-- What is read of one row more.
use Rattle.std.proofs.Common.{◌≡◌, ℕ, ◌+◌, ◌-◌, ◌<◌, Bool, ◌&&◌, ◌||◌, not, List, ◌∷◌}
use Rattle.std.proofs.Common.{length, get_or, Option, None, refl, ap, sym, ◌∙◌, add-one, arith}
use Rattle.std.specs.Prelude.{filter}
use Rattle.ttp_base.specs.NodeSet.{below, has_node}
use Rattle.ttp_base.proofs.NodeSets.{has_node-sieve, same_sieve}
use Rattle.ttp_world.specs.declared.medl.Medl.{Medl}
use Rattle.ttp_world.specs.declared.node.Entry.{Entry}
use Rattle.ttp_world.specs.declared.node.Entry.TheVariants as entry
use Rattle.ttp_world.specs.declared.node.NodeState.{NodeState}
use Rattle.ttp_world.specs.declared.script.Script.{Script}
use Rattle.ttp_world.specs.Diary.{History, entry_of}
use Rattle.ttp_world.specs.Medl.{IsValid}
use Rattle.ttp_world.specs.Returning.{is_sound}
use Rattle.ttp_world.specs.Script.{is_on}
use Rattle.ttp_world.specs.World.{slot_after, row_in}
use Rattle.ttp_world.proofs.Lists.{nodes-most}
use Rattle.hypothesis.specs.Standing.{HaveSameNodes}
use Rattle.campaign.specs.declared.cost.Leave.{Leave}
use Rattle.campaign.specs.Cost.{faulty_by_test, leave_after, newest_leave, is_hurt_in, is_hurt, hurt_nodes}
use Rattle.campaign.specs.Cost.{firm_members, each_once, has_two, memberships, is_split}
use Rattle.ttp_world.specs.ZerosWorld.{all_zeros, zeros_world}
use Rattle.run_costs.specs.States.{state_at, AreShown, firm_of, firm_sets}
use Rattle.run_costs.specs.Told.{is_hurt_by}
use Rattle.run_costs.proofs.Nodes.{filter_map_agree-below}

-- The run in which frames carry zeros.

-- the next row
abbrev pub next_row : Medl → Script → ℕ → List Entry
next_row list script slot = row_in (slot_after list script (zeros_world list script slot)) (all_zeros list)

pub zeros-next : (list : Medl) (script : Script) (slot : ℕ)
    → zeros_world list script (slot + 1) ≡ next_row list script slot ∷ zeros_world list script slot
zeros-next list script slot = ap (zeros_world list script) (add-one slot)

-- Who left.

pub left-next : (list : Medl) (script : Script) (row : List Entry) (history : History) (states : List NodeState)
    (slot : ℕ) (old new : List (Option Leave)) → length history ≡ slot → AreShown list script (row ∷ history) states
    → ((k : ℕ) → k < length list.slots → get_or old k None ≡ newest_leave history k)
    → ((k : ℕ) → k < length states
    → get_or new k None ≡ leave_after k slot (state_at states k).entry (get_or old k None))
    → (k : ℕ) → k < length list.slots → get_or new k None ≡ newest_leave (row ∷ history) k
left-next list script row history states slot old new long shown before noted k node =
    noted k (omega (arith, shown.count, node))
    ∙ (λ i. leave_after k (sym long i) (shown.nodes k node i).entry (before k node i))

-- Who was hurt.

is_hurt_in-by : (list : Medl) (script : Script) (slot k : ℕ) (e : Entry)
    → is_hurt_in list script slot k e ≡ is_hurt_by e (is_sound script (faulty_by_test list script slot) slot k)
is_hurt_in-by list script slot k entry.Off = refl
is_hurt_in-by list script slot k e = refl

-- a set of correct nodes, by the faulty ones in whatever order
pub correct-sound : (list : Medl) (script : Script) (slot : ℕ) (faulty correct : List ℕ) → IsValid list
    → HaveSameNodes faulty (faulty_by_test list script slot)
    → correct ≡ filter (is_sound script faulty slot) (below (length list.slots))
    → (k : ℕ) → k < length list.slots
    → has_node correct k ≡ is_sound script (faulty_by_test list script slot) slot k
correct-sound list script slot faulty correct valid same are k node =
    ap (λ (s : List ℕ). has_node s k) are
    ∙ has_node-sieve (is_sound script faulty slot) (length list.slots) k node
    ∙ ap (λ (b : Bool). is_on script k slot && not b) (same k (omega (arith, nodes-most list valid, node)))

pub hurt-next : (list : Medl) (script : Script) (row : List Entry) (history : History) (states : List NodeState)
    (slot : ℕ) (correct hurt : List ℕ) → length history ≡ slot → AreShown list script (row ∷ history) states
    → ((k : ℕ) → k < length list.slots → has_node correct k ≡ is_sound script (faulty_by_test list script slot) slot k)
    → hurt ≡ filter (λ k. is_hurt_by (state_at states k).entry (has_node correct k) || is_hurt list script history k)
    (below (length states))
    → hurt ≡ hurt_nodes list script (row ∷ history)
hurt-next list script row history states slot correct hurt long shown sound are =
    are
    ∙ (λ i. filter (λ k. is_hurt_by (state_at states k).entry (has_node correct k) || is_hurt list script history k)
    (below (shown.count i)))
    ∙ same_sieve (λ k. is_hurt_by (state_at states k).entry (has_node correct k) || is_hurt list script history k)
    (is_hurt list script (row ∷ history)) (length list.slots)
    (λ k node. ap (λ (b : Bool). b || is_hurt list script history k)
    ((λ i. is_hurt_by (shown.nodes k node i).entry (sound k node i))
    ∙ sym (is_hurt_in-by list script slot k (entry_of row k))
    ∙ ap (λ (n : ℕ). is_hurt_in list script n k (entry_of row k)) (sym long)))

-- Memberships.

pub shown-memberships : (list : Medl) (script : Script) (history : History) (states : List NodeState)
    (meant among : ℕ → Bool) → AreShown list script history states
    → ((k : ℕ) → k < length list.slots → meant k ≡ among k)
    → each_once (firm_sets states meant (length states)) ≡ memberships list history among
shown-memberships list script history states meant among shown same =
    ap (λ (n : ℕ). each_once (firm_sets states meant n)) shown.count
    ∙ ap each_once
    (filter_map_agree-below (λ k. firm_of (state_at states k) (meant k)) (firm_members list history among)
    (length list.slots) (λ k node i. firm_of (shown.nodes k node i) (same k node i)))

pub split-next : (list : Medl) (script : Script) (row : List Entry) (history : History) (states : List NodeState)
    (slot : ℕ) (correct : List ℕ) → length history ≡ slot → AreShown list script (row ∷ history) states
    → ((k : ℕ) → k < length list.slots → has_node correct k ≡ is_sound script (faulty_by_test list script slot) slot k)
    → has_two (each_once (firm_sets states (has_node correct) (length states))) ≡ is_split list script (row ∷ history)
split-next list script row history states slot correct long shown sound =
    let newest : slot ≡ length (row ∷ history) - 1 = omega (arith, long) in
    ap has_two
    (shown-memberships list script (row ∷ history) states (has_node correct)
    (is_sound script (faulty_by_test list script slot) slot) shown sound)
    ∙ ap (λ (n : ℕ). has_two (memberships list (row ∷ history) (is_sound script (faulty_by_test list script n) n)))
    newest
