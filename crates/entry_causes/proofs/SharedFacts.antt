-- What the frame that answered a node shares with it, by sets of nodes.
use Rattle.std.proofs.Common.{◌≡◌, ℕ, ◌<◌, ◌≤◌, Bool, ◌&&◌, ◌||◌, ◌++◌, List}
use Rattle.std.proofs.Common.{length, filter, map, not, Some, ap, sym, ◌∙◌}
use Rattle.std.proofs.Common.{arith}
use Rattle.causes.specs.Members.{members_sent}
use Rattle.causes.specs.OwnSlots.{lacked_since_own, lacked_too, rejected_peers, shared_by, slots_before_one}
use Rattle.causes.specs.RunSlots.{place_of_node}
use Rattle.causes.specs.Said.{said}
use Rattle.ttp_world.proofs.WorldFacts.{has_node-append}
use Rattle.entry_causes.proofs.Past.{slots_before-past}
use Rattle.entry_causes.proofs.FromBelow.{slot_in-list, slot_in-number}
use Rattle.run_rows.specs.Rows.{past_slots_in, slot_in}
use Rattle.ttp_base.proofs.NodeSets.{same_sieve}
use Rattle.ttp_base.specs.NodeSet.{below, has_node}
use Rattle.ttp_world.specs.declared.medl.Medl.{Medl}
use Rattle.ttp_world.specs.declared.script.Script.{Script}

lacked-same : (list : Medl) (script : Script) (before slot k peer : ℕ) (lacked told sent : List ℕ)
    → length list.slots ≤ 24
    → peer ≡ (place_of_node k (slot_in list script slot)).slot → sent ≡ members_sent peer (slot_in list script slot)
    → ((j : ℕ) → j < 24 → has_node lacked j ≡ has_node (lacked_since_own k (past_slots_in list script before)) j)
    → ((j : ℕ) → j < 24 → has_node told j
    ≡ (has_node lacked j || has_node (rejected_peers k (past_slots_in list script before) slot) j))
    → filter (λ j. has_node told j && not (has_node sent j)) (below (length list.slots))
    ≡ lacked_too k (past_slots_in list script before) (slot_in list script slot)
lacked-same list script before slot k peer lacked told sent few stands sends lacks tells =
    let u = slot_in list script slot in
    let run = past_slots_in list script before in
    let number = slot_in-number list script slot in
    let own = lacked_since_own k run in
    let peers = rejected_peers k run slot in
    same_sieve (λ j. has_node told j && not (has_node sent j)) (λ j. has_node (own ++ peers) j && not (has_node sent j))
    (length list.slots) (λ j less.
    let within : j < 24 = omega (arith, less, few) in
    ap (λ (b : Bool). b && not (has_node sent j))
    (tells j within ∙ ap (λ (b : Bool). b || has_node peers j) (lacks j within) ∙ sym (has_node-append own peers j)))
    ∙ (λ i.
    filter (λ j. has_node (own ++ rejected_peers k run (sym number i)) j && not (has_node (sends i) j))
    (below (length (sym (slot_in-list list script slot) i).slots)))
    ∙ ap (λ (p : ℕ).
    filter (λ j. has_node (own ++ rejected_peers k run u.begun.number) j && not (has_node (members_sent p u) j))
    (below (length u.begun.list.slots))) stands

pub shared-told : (list : Medl) (script : Script) (before slot k peer : ℕ) (lacked told sent : List ℕ)
    → length list.slots ≤ 24 → slot ≤ before
    → peer ≡ (place_of_node k (slot_in list script slot)).slot → sent ≡ members_sent peer (slot_in list script slot)
    → ((j : ℕ) → j < 24 → has_node lacked j ≡ has_node (lacked_since_own k (past_slots_in list script before)) j)
    → ((j : ℕ) → j < 24 → has_node told j
    ≡ (has_node lacked j || has_node (rejected_peers k (past_slots_in list script before) slot) j))
    → record {
      peer = peer;
      lacked = filter (λ j. has_node told j && not (has_node sent j)) (below (length list.slots));
      entries = map (λ j. said peer j (past_slots_in list script slot))
          (filter (λ j. has_node told j && not (has_node sent j)) (below (length list.slots)));
    } ≡ shared_by k (past_slots_in list script before) (Some (slot_in list script slot))
shared-told list script before slot k peer lacked told sent few within stands sends lacks tells =
    let those = lacked-same list script before slot k peer lacked told sent few stands sends lacks tells in
    let back =
    ap (λ (n : ℕ). slots_before_one (past_slots_in list script before) n)
    (slot_in-number list script slot)
    ∙ slots_before-past list script before slot within in
    (λ i. record {
      peer = stands i;
      lacked = those i;
      entries = map (λ j. said (stands i) j (sym back i)) (those i);
    })
