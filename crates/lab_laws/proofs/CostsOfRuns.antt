-- What a run costs names nodes of the list and slots of the run.
use Rattle.lab_laws.proofs.Words.{◌≡◌, ℕ, zero, suc, ◌+◌, ◌<◌, ◌≤◌, Bool, true, false, ◌&&◌, not, List, [], ◌∷◌}
use Rattle.lab_laws.proofs.Words.{length, All, Option, Some, None, IfSome, refl, subst, arith, decimal, filter}
use Rattle.lab_laws.proofs.Words.{range_with_len, cond_both, All-cons, All-head, All-tail, HasWord, Medl, Entry}
use Rattle.lab_laws.proofs.Words.{Script, History, entry_of, IsValid, nodes-most, Leave, Span, leave_word}
use Rattle.lab_laws.proofs.Words.{members_word, Kind}
use Rattle.std.specs.List.{filter_map, cons_option}
use Rattle.std.specs.Str.{bytes_eq}
use Rattle.std.proofs.lemmas.List.Elements.{All-filter, All-from_recursion}
use Rattle.std.proofs.lemmas.List.Elements.{recursion_from_All}
use Rattle.ttp_base.specs.NodeSet.{below}
use Rattle.ttp_base.proofs.Below.{below-lt}
use Rattle.ttp_base.proofs.SetWords.{HasWord-nil, HasWord-filter}
use Rattle.ttp_world.specs.declared.node.Entry.TheVariants as entry
use Rattle.ttp_world.specs.Diary.{diary_of, is_active}
use Rattle.ttp_world.specs.Membership.{is_good}
use Rattle.ttp_world.specs.Safety.{members_of_node}
use Rattle.ttp_world.proofs.HostMessages.{filter_map-each}
use Rattle.ttp_world.proofs.Pasts.{elim_both}
use Rattle.campaign.specs.Cost.{leave_after, newest_leave, leaves, is_hurt, is_firm, firm_members, each_once}
use Rattle.campaign.specs.Cost.{memberships, span_after, is_split, split_span, cost_of}
use Rattle.whole_campaign.specs.declared.listed.Kind.TheVariants as kind
use Rattle.lab_laws.proofs.ListsRead.{IsNodeWord, AreNodeWords, IsSetWord}
use Rattle.lab_laws.proofs.CostsRead.{IsSpanBelow, IsCostIn, leave-is_word, node-is_word, members-are_word}

-- Nodes of a range, each with a word.

module _ {X : Type 0} (kind : Kind) (n : ℕ) (word : X → List ℕ) (node : X → ℕ) where
  -- what is found of node k is a word of it
  abbrev IsWordOf : ℕ → X → Type 0
  IsWordOf k x = (node x ≡ k) × IsNodeWord kind (word x) (node x)

  first-found : (a : ℕ) (o : Option X) (xs : List X) (least : ℕ) → least ≤ a → a < n → IfSome o (IsWordOf a)
      → ((next : ℕ) → next ≤ a + 1 → AreNodeWords kind n word node next xs)
      → AreNodeWords kind n word node least (cons_option o xs)
  first-found a None xs least low high is others = others least (omega (arith, low))
  first-found a (Some x) xs least low high is others =
      (is.1, omega (arith, low, is.0), omega (arith, high, is.0), others (node x + 1) (omega (arith, is.0)))

  words-found : (f : ℕ → Option X) (least a m : ℕ) → least ≤ a → a + m ≤ n
      → ((k : ℕ) → k < n → IfSome (f k) (IsWordOf k))
      → AreNodeWords kind n word node least (filter_map f (range_with_len a m))
  words-found f least a zero low high each = tt
  words-found f least a (suc m) low high each =
      first-found a (f a) (filter_map f (range_with_len (a + 1) m)) least low (omega (arith, high))
      (each a (omega (arith, high)))
      (λ next less. words-found f next (a + 1) m (omega (arith, less)) (omega (arith, high)) each)

nodes-kept : (n : ℕ) (p : ℕ → Bool) (least a m : ℕ) → n ≤ 24 → least ≤ a → a + m ≤ n
    → AreNodeWords kind.Hurt n decimal (λ k. k) least (filter p (range_with_len a m))
nodes-kept n p least a zero few low high = tt
nodes-kept n p least a (suc m) few low high =
    cond_both (p a) (a ∷ filter p (range_with_len (a + 1) m)) (filter p (range_with_len (a + 1) m))
    (AreNodeWords kind.Hurt n decimal (λ k. k) least)
    (λ is. (
      node-is_word a (omega (arith, high, few)),
      low,
      omega (arith, high),
      nodes-kept n p (a + 1) (a + 1) m few (omega arith) (omega (arith, high)),
    ))
    (λ is_not. nodes-kept n p least (a + 1) m few (omega (arith, low)) (omega (arith, high)))

-- Who left.

-- it is that of node k, in one of so many slots
abbrev IsLeaveIn : ℕ → ℕ → Leave → Type 0
IsLeaveIn k slots leave = (leave.node ≡ k) × (leave.slot < slots)

later-leave : (k slot : ℕ) (before : Option Leave) → IfSome before (IsLeaveIn k slot)
    → IfSome before (IsLeaveIn k (suc slot))
later-leave k slot None is = tt
later-leave k slot (Some leave) is = (is.0, omega (arith, is.1))

leave-in : (k slot : ℕ) (e : Entry) (before : Option Leave) → IfSome before (IsLeaveIn k slot)
    → IfSome (leave_after k slot e before) (IsLeaveIn k (suc slot))
leave-in k slot (entry.Left why peer) before is = (refl, omega arith)
leave-in k slot e before is = later-leave k slot before is

newest-in : (history : History) (k : ℕ) → IfSome (newest_leave history k) (IsLeaveIn k (length history))
newest-in [] k = tt
newest-in (row ∷ history) k =
    leave-in k (length history) (entry_of row k) (newest_leave history k) (newest-in history k)

leave-word-of : (k n slots : ℕ) (o : Option Leave) → k < n → n ≤ 24 → slots ≤ 20000 → IfSome o (IsLeaveIn k slots)
    → IfSome o (λ (leave : Leave). (leave.node ≡ k) × IsNodeWord (kind.Leaving slots) (leave_word leave) leave.node)
leave-word-of k n slots None node nodes few is = tt
leave-word-of k n slots (Some leave) node nodes few is =
    (is.0, leave-is_word slots leave (omega (arith, is.0, node, nodes)) is.1 few)

-- When memberships were split.

later-span : (slot : ℕ) (before : Option Span) → IfSome before (IsSpanBelow slot)
    → IfSome before (IsSpanBelow (suc slot))
later-span slot None is = tt
later-span slot (Some span) is = (is.0, omega (arith, is.1))

span-in : (slot : ℕ) (split : Bool) (before : Option Span) → IfSome before (IsSpanBelow slot)
    → IfSome (span_after slot split before) (IsSpanBelow (suc slot))
span-in slot true None is = (omega arith, omega arith)
span-in slot true (Some span) is = (omega (arith, is.0, is.1), omega arith)
span-in slot false before is = later-span slot before is

split-in : (list : Medl) (script : Script) (history : History)
    → IfSome (split_span list script history) (IsSpanBelow (length history))
split-in list script [] = tt
split-in list script (row ∷ history) =
    span-in (length history) (is_split list script (row ∷ history)) (split_span list script history)
    (split-in list script history)

-- What is left.

once-all : (P : List ℕ → Type 0) (sets : List (List ℕ)) → All P sets → All P (each_once sets)
once-all P [] all = all
once-all P (s ∷ sets) all =
    let others = once-all P sets (All-tail P s sets all) in
    All-cons P s _ (All-head P s sets all) (All-filter (λ m. not (bytes_eq s m)) P (each_once sets) others)

members-of-node : (list : Medl) (history : History) (k : ℕ) → IsValid list
    → HasWord (length list.slots) (members_of_node list history k)
members-of-node list history k valid =
    let diary = diary_of history k in
    elim_both (is_active diary) (filter (is_good k diary) (below (length list.slots))) [] (HasWord (length list.slots))
    (HasWord-filter (length list.slots) (is_good k diary) (length list.slots) (omega arith) (nodes-most list valid))
    (HasWord-nil (length list.slots))

-- All of it.

pub cost-in : (list : Medl) (script : Script) (history : History) (slots : ℕ) → IsValid list → slots ≤ 20000
    → length history ≡ slots → IsCostIn list (length list.slots) slots (cost_of list script history)
cost-in list script history slots valid few long =
    let n = length list.slots in
    let nodes = nodes-most list valid in
    let IsSet : List ℕ → Type 0 = λ members. IsSetWord n (members_word list members) (length members) in
    let firm = firm_members list history (λ k. true) in
    let each = λ (k : ℕ) (node : k < n).
    cond_both (is_firm (diary_of history k) && true) (Some (members_of_node list history k)) None (λ o. IfSome o IsSet)
    (λ is. members-are_word list n (members_of_node list history k) valid.count.1
    nodes (members-of-node list history k valid))
    (λ is_not. tt) in
    let all = filter_map-each firm (λ k. k < n) IsSet (below n) each
    (All-from_recursion (λ k. k < n) (below n) (below-lt n)) in
    record {
      left = subst
          (λ (t : ℕ). AreNodeWords (kind.Leaving t) n leave_word (λ (l : Leave). l.node) 0 (leaves list history)) long
          (words-found (kind.Leaving (length history)) n leave_word (λ (l : Leave). l.node) (newest_leave history) 0 0 n
          (omega arith) (omega arith)
          (λ k node. leave-word-of k n (length history) (newest_leave history k) node nodes (omega (arith, few, long))
          (newest-in history k)));
      hurt = nodes-kept n (is_hurt list script history) 0 0 n nodes (omega arith) (omega arith);
      split = subst (λ (t : ℕ). IfSome (split_span list script history) (IsSpanBelow t)) long
          (split-in list script history);
      end = recursion_from_All IsSet (memberships list history (λ k. true))
          (once-all IsSet (filter_map firm (below n)) all);
    }
