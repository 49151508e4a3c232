-- A loss in one slot in which no node does anything else than without it: the run goes on as without it.
use Rattle.fault_runs.proofs.Words.{◌≡◌, ℕ, ◌+◌, ◌<◌, ◌≤◌, Bool, true, false, List, ◌∷◌, length, inl, inr, refl, ap}
use Rattle.fault_runs.proofs.Words.{sym, subst, ◌∙◌, arith, get_or, Medl, Entry, Script, History, Event, zeros_world}
use Rattle.fault_runs.proofs.Words.{cond, list_any, Cost, summary}
use Rattle.std.proofs.Common.{zero, suc, not, ◌-◌, ◌||◌, Option}
use Rattle.std.proofs.lemmas.Bool.{cases_eq, cases_lt, false≢true}
use Rattle.std.proofs.lemmas.List.{ext_get_or, get_or_past}
use Rattle.std.proofs.lemmas.List.Folds.{list_any_at}
use Rattle.ttp_base.proofs.NodeSets.{same_sieve}
use Rattle.ttp_world.specs.declared.node.Entry.TheVariants as entry
use Rattle.ttp_world.specs.declared.node.NodeState.{NodeState}
use Rattle.ttp_world.specs.Diary.{entry_of, diary_of, newest_entry}
use Rattle.ttp_world.specs.Returning.{is_sound}
use Rattle.ttp_world.specs.Safety.{newest_slot}
use Rattle.ttp_world.specs.World.{step}
use Rattle.campaign.specs.declared.cost.Leave.{Leave}
use Rattle.campaign.specs.Cost.{cost_of, leaves, leave_after, newest_leave, is_hurt, is_hurt_in, hurt_nodes}
use Rattle.campaign.specs.Cost.{split_span, span_after, memberships, has_two, faulty_by_test}
use Rattle.campaign.specs.Tried.{with_fault}
use Rattle.ttp_world.specs.ZerosWorld.{all_zeros}
use Rattle.controller.specs.Agreement.{begins_at}
use Rattle.fault_runs.proofs.FromBelow.{surroundings_in-same, zeros-longer, filter_map_agree-below, next_row}
use Rattle.fault_runs.proofs.FromBelow.{zeros-next}
use Rattle.run_costs.specs.States.{off_state, state_at, AreShown}
use Rattle.ttp_world.proofs.ZerosWorlds.{length-zeros_world}
use Rattle.fault_runs.specs.Merging.{has_just_left, is_waiting, is_left_entry, is_loss_in}
use Rattle.fault_runs.specs.Merging.{IsSameDeed, HasSettledAt, IsSettledFrom}
use Rattle.fault_runs.proofs.Losses.{jumps-alike, alike-other}
use Rattle.fault_runs.proofs.OneMembership.{still-one}
use Rattle.fault_runs.proofs.Ranges.{length-next_row}
use Rattle.fault_runs.proofs.SamePasts.{AreNear, past-near, step-near}

module _ (list : Medl) (script : Script) (e : Event) (slot : ℕ) (is : is_loss_in slot e ≡ true) where
  abbrev more : Script
  more = with_fault script e

  -- Both runs are the same after the slot, in which nobody waited.
  module _ (after : zeros_world list script (slot + 1) ≡ zeros_world list more (slot + 1))
      (busy : (k : ℕ) → is_waiting (entry_of (next_row list script slot) k) ≡ false) where
    near : (n k : ℕ) → AreNear script more k (zeros_world list script n)
    near zero k = tt
    near (suc n) k =
        let row = next_row list script n in
        let t = length (zeros_world list script n) in
        let long = length-zeros_world list script n in (
          elim (cases_eq n slot) [
            | inl same ↦ record {
              jump = jumps-alike script slot e is k t;
              drift = refl;
              silent = λ waits. absurd (false≢true
                  (sym (busy k) ∙ ap (λ j. is_waiting (entry_of (next_row list script j) k)) (sym same) ∙ waits));
            }
            | inr other ↦
                let alike = alike-other script slot e is t (λ at. other (sym long ∙ at)) in
                let same = surroundings_in-same alike row k refl in record {
                  jump = λ i. (same i).jump;
                  drift = λ i. (same i).drift;
                  silent = λ _ i. (same i).is_silent;
                }
          ],
          near n k,
        )

    -- The worlds of both scripts are equal in all slots behind the loss.
    pub worlds-same : (m : ℕ) → zeros_world list script (slot + 1 + m) ≡ zeros_world list more (slot + 1 + m)
    worlds-same zero =
        let same : slot + 1 ≡ slot + 1 + 0 = omega arith in
        subst (λ n. zeros_world list script n ≡ zeros_world list more n) same after
    worlds-same (suc m) =
        let n = slot + 1 + m in
        let older = worlds-same m in
        let long = length-zeros_world list script n in
        let next : suc n ≡ slot + 1 + suc m = omega arith in
        let other : length (zeros_world list script n) ≡ slot → ⊥ = λ at. absurd (omega (arith, long, at)) in
        subst (λ n. zeros_world list script n ≡ zeros_world list more n) next
        (step-near list script more (zeros_world list script n) (all_zeros list)
        (λ k. past-near list script more (zeros_world list script n) k (near n k))
        (alike-other script slot e is (length (zeros_world list script n)) other)
        ∙ (λ i. step list more (older i) (all_zeros list)))

-- A settled slot adds nothing to what a run costs, whoever is faulty.

leave-still : (k slot : ℕ) (e : Entry) (before : Option Leave) → is_left_entry e
    ≡ false → leave_after k slot e before ≡ before
leave-still k slot (entry.Left reason peer) before stays = absurd (false≢true (sym stays))
leave-still k slot _ before stays = refl

hurt-still : (list : Medl) (script : Script) (slot k : ℕ) (e : Entry) → is_left_entry e ≡ false
    → is_hurt_in list script slot k e ≡ false
hurt-still list script slot k (entry.Left reason peer) stays = absurd (false≢true (sym stays))
hurt-still list script slot k _ stays = refl

module _ (list : Medl) (script : Script) (row : List Entry) (history : History)
    (settled : HasSettledAt list (row ∷ history)) where
  leaves-still : leaves list (row ∷ history) ≡ leaves list history
  leaves-still =
      filter_map_agree-below (newest_leave (row ∷ history)) (newest_leave history) (length list.slots)
      (λ k node. leave-still k (length history) (entry_of row k) (newest_leave history k) (settled.stay k node))

  hurt_nodes-still : hurt_nodes list script (row ∷ history) ≡ hurt_nodes list script history
  hurt_nodes-still =
      same_sieve (is_hurt list script (row ∷ history)) (is_hurt list script history) (length list.slots)
      (λ k node. ap (λ b. b || is_hurt list script history k)
      (hurt-still list script (length history) k (entry_of row k) (settled.stay k node)))

  span-still : split_span list script (row ∷ history) ≡ split_span list script history
  span-still =
      ap (λ b. span_after (length history) b (split_span list script history))
      (let newest = newest_slot (row ∷ history) in
      still-one list (row ∷ history) (is_sound script (faulty_by_test list script newest) newest) settled.one)

-- what it cost so far, but for the memberships that are left
abbrev pub cost_up_to : Medl → Script → History → List (List ℕ) → Cost
cost_up_to list script history end = record (cost_of list script history) { end = end }

module _ (list : Medl) (script : Script) (n : ℕ) (end : List (List ℕ)) where
  pub rest-still : (m : ℕ) → ((t : ℕ) → n ≤ t → t < n + m → HasSettledAt list (zeros_world list script (t + 1)))
      → cost_up_to list script (zeros_world list script (n + m)) end
      ≡ cost_up_to list script (zeros_world list script n) end
  rest-still zero settled =
      ap (λ j. cost_up_to list script (zeros_world list script j) end) (let same : n + 0 ≡ n = omega arith in same)
  rest-still (suc m) settled =
      let older = rest-still m (λ t from to. settled t from (omega (arith, to))) in
      let row = next_row list script (n + m) in
      let history = zeros_world list script (n + m) in
      let last : HasSettledAt list (row ∷ history) =
      subst (HasSettledAt list) (zeros-next list script (n + m)) (settled (n + m) (omega arith) (omega arith)) in
      let next : n + suc m ≡ suc (n + m) = omega arith in
      ap (λ j. cost_up_to list script (zeros_world list script j) end) next
      ∙ (λ i. record {
        left = leaves-still list script row history last i;
        hurt = hurt_nodes-still list script row history last i;
        split = span-still list script row history last i;
        end = end;
      })
      ∙ older

-- What is shown after a slot.

none-at : {X : Type 0} (p : X → Bool) (xs : List X) (k : ℕ) (d : X) → list_any p xs ≡ false → k < length xs
    → p (get_or xs k d) ≡ false
none-at p xs k d none inside = by (p (get_or xs k d)) refl
  where
    by : (b : Bool) → p (get_or xs k d) ≡ b → b ≡ false
    by true is = absurd (false≢true (sym none ∙ list_any_at p xs k d inside is))
    by false is = refl

module _ (list : Medl) (script : Script) (slot : ℕ) (states : List NodeState)
    (shown : AreShown list script (zeros_world list script (slot + 1)) states) where
  after-next : AreShown list script (next_row list script slot ∷ zeros_world list script slot) states
  after-next = subst (λ (h : History). AreShown list script h states) (zeros-next list script slot) shown

  pub settled-shown : list_any has_just_left states ≡ false
      → has_two (memberships list (zeros_world list script (slot + 1)) (λ k. true)) ≡ false
      → HasSettledAt list (zeros_world list script (slot + 1))
  settled-shown none one = record {
    stay = λ k node.
        ap (λ (h : History). is_left_entry (newest_entry (diary_of h k))) (zeros-next list script slot)
        ∙ ap (λ (state : NodeState). is_left_entry state.entry) (sym (after-next.nodes k node))
        ∙ none-at has_just_left states k off_state none (omega (arith, node, shown.count));
    one = one;
  }

-- from which slot on a run is settled, with one slot more
pub settled-next : (list : Medl) (script : Script) (n old new : ℕ) (b : Bool) → new ≡ cond b old (n + 1)
    → (b ≡ true → HasSettledAt list (zeros_world list script (n + 1)))
    → ((t : ℕ) → old ≤ t → t < n → HasSettledAt list (zeros_world list script (t + 1)))
    → (t : ℕ) → new ≤ t → t < n + 1 → HasSettledAt list (zeros_world list script (t + 1))
settled-next list script n old new true is here before t from to =
    let same : new ≡ old = is in
    elim (cases_lt t n) [
      | inl less ↦ before t (omega (arith, same, from)) less
      | inr last ↦
          let now : n ≡ t = omega (arith, last, to) in
          subst (λ j. HasSettledAt list (zeros_world list script (j + 1))) now (here refl)
    ]
settled-next list script n old new false is here before t from to =
    let same : new ≡ n + 1 = is in
    absurd (omega (arith, same, from, to))

-- Where each node did the same in a slot, both runs are the same after it.
module _ (list : Medl) (script : Script) (e : Event) (slot : ℕ) (begins : slot ≤ begins_at e) (row : List Entry)
    (now : List NodeState) (own : row ≡ next_row list script slot)
    (told : AreShown list (with_fault script e) (zeros_world list (with_fault script e) (slot + 1)) now)
    (deeds : (k : ℕ) → k < length now → IsSameDeed (state_at now k).entry (entry_of row k)) where
  entry-now : (k : ℕ) → k < length list.slots
      → entry_of (next_row list (with_fault script e) slot) k ≡ (state_at now k).entry
  entry-now k node =
      ap (λ (state : NodeState). state.entry) (sym ((after-next list (with_fault script e) slot now told).nodes k node))

  pub rows-same : next_row list script slot ≡ next_row list (with_fault script e) slot
  rows-same =
      let own_row = length-next_row list script slot in
      let now_row = length-next_row list (with_fault script e) slot in
      ext_get_or entry.Off (next_row list script slot)
      (next_row list (with_fault script e) slot) (own_row ∙ sym now_row)
      (λ k inside.
      let node : k < length list.slots = omega (arith, inside, own_row) in
      ap (λ (r : List Entry). entry_of r k) (sym own) ∙ sym (deeds k (omega (arith, node, told.count))).same
      ∙ sym (entry-now k node))

  pub after-same : zeros_world list script (slot + 1) ≡ zeros_world list (with_fault script e) (slot + 1)
  after-same =
      zeros-next list script slot
      ∙ (λ i. rows-same i ∷ zeros-longer list script e slot begins i)
      ∙ sym (zeros-next list (with_fault script e) slot)

  pub busy-all : (k : ℕ) → is_waiting (entry_of (next_row list script slot) k) ≡ false
  busy-all k = elim (cases_lt k (length list.slots)) [
    | inl node ↦
        let deed = deeds k (omega (arith, node, told.count)) in
        ap is_waiting (ap (λ (r : List Entry). entry_of r k) (sym own) ∙ sym deed.same) ∙ deed.busy
    | inr past ↦
        ap is_waiting (get_or_past (next_row list script slot) k entry.Off
        (omega (arith, past, length-next_row list script slot)))
  ]

module _ (list : Medl) (script : Script) (e : Event) (slot settled : ℕ) where
  -- The cost of the whole run is that of the slots up to the loss, with the memberships that are left in the own run.
  pub merged-cost : (row : List Entry) (now : List NodeState) (end : List (List ℕ)) (cost : Cost)
      → is_loss_in slot e ≡ true → slot ≤ begins_at e → slot < script.slots → settled ≤ slot + 1
      → IsSettledFrom list script settled → end ≡ (summary list script).cost.end → row ≡ next_row list script slot
      → AreShown list (with_fault script e) (zeros_world list (with_fault script e) (slot + 1)) now
      → ((k : ℕ) → k < length now → IsSameDeed (state_at now k).entry (entry_of row k))
      → cost ≡ cost_of list (with_fault script e) (zeros_world list (with_fault script e) (slot + 1))
      → record cost { end = end } ≡ (summary list (with_fault script e)).cost
  merged-cost row now end cost is begins within early rests own_end own told deeds costs =
      let more = with_fault script e in
      let m = script.slots - (slot + 1) in
      let all : slot + 1 + m ≡ script.slots = omega (arith, within) in
      let after = after-same list script e slot begins row now own told deeds in
      let busy = busy-all list script e slot begins row now own told deeds in
      let worlds = worlds-same list script e slot is after busy in
      let still : (t : ℕ) → slot + 1 ≤ t → t < slot + 1 + m → HasSettledAt list (zeros_world list more (t + 1)) =
      λ t from to.
      let same : slot + 1 + (t - slot) ≡ t + 1 = omega (arith, from) in
      subst (HasSettledAt list)
      (sym (ap (zeros_world list script) same) ∙ worlds (t - slot) ∙ ap (zeros_world list more) same)
      (rests t (omega (arith, early, from)) (omega (arith, to, all))) in
      let left : end ≡ memberships list (zeros_world list more (slot + 1 + m)) (λ k. true) =
      own_end
      ∙ ap (λ n. memberships list (zeros_world list script n) (λ k. true)) (sym all)
      ∙ ap (λ (h : History). memberships list h (λ k. true)) (worlds m) in
      (λ i. record (costs i) { end = end })
      ∙ sym (rest-still list more (slot + 1) end m still)
      ∙ (λ i. record (cost_of list more (zeros_world list more (slot + 1 + m))) { end = left i })
      ∙ ap (λ n. cost_of list more (zeros_world list more n)) all
