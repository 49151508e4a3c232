-- Where the test of a script says yes, and each faulty node became so two rounds before the end, one membership is
-- left.
use Rattle.std.proofs.Common.{◌≡◌, ℕ, suc, ◌+◌, ◌-◌, ◌*◌, ◌<◌, ◌≤◌, Bool, true}
use Rattle.std.proofs.Common.{false, cond, not, ◌&&◌, ◌||◌, List, [], ◌∷◌}
use Rattle.std.proofs.Common.{length, Option, Some, None, refl, ap, sym, ◌∙◌, subst, arith, IsTrue}
use Rattle.std.specs.Prelude.{nat_le, ◌==◌}
use Rattle.std.specs.List.{filter_map, cons_option, list_all, AllByRecursion}
use Rattle.std.proofs.lemmas.Bool.{false≢true, and_parts, or_from, eqb-true, le-leb, lt-leb, leb-true, leb-false}
use Rattle.ttp_base.specs.NodeSet.{has_node}
use Rattle.ttp_base.proofs.Below.{below-lt}
use Rattle.ttp_world.specs.declared.keep.Back.{Back}
use Rattle.ttp_world.specs.declared.keep.Back.TheVariants as back
use Rattle.ttp_world.specs.declared.keep.Keep.{Keep}
use Rattle.ttp_world.specs.declared.keep.Keep.TheVariants as keep
use Rattle.ttp_world.specs.declared.medl.Medl.{Medl}
use Rattle.ttp_world.specs.declared.node.Act.{Act}
use Rattle.ttp_world.specs.declared.node.Phase.{Phase}
use Rattle.ttp_world.specs.declared.node.Phase.TheVariants as phase
use Rattle.ttp_world.specs.declared.script.Script.{Script}
use Rattle.ttp_world.specs.After.{past_after}
use Rattle.ttp_world.specs.BackSafety.{IsBackSafe, is_armed_among, is_back_gone, back_correct_nodes}
use Rattle.ttp_world.specs.Conduct.{new_entry}
use Rattle.ttp_world.specs.Diary.{History, diary_of, phase_of, is_active, is_active_phase}
use Rattle.ttp_world.specs.Hypothesis.{ClusterStart, FaultyNode, numbers_of, nodes_of}
use Rattle.ttp_world.specs.Hypothesis.{keeps, faulty_after, faulty_nodes_after}
use Rattle.ttp_world.specs.Legal.{IsLegal}
use Rattle.ttp_world.specs.Medl.{IsValid}
use Rattle.ttp_world.specs.Messages.{is_left_phase}
use Rattle.ttp_world.specs.Returning.{has_arm, returns, is_sound, back_faulty_after, two_rounds}
use Rattle.ttp_world.specs.Safety.{newest_slot, has_left, is_settled, is_gone, is_out}
use Rattle.ttp_world.specs.Safety.{is_out_among, members_of_node, IsSafe}
use Rattle.ttp_world.specs.Script.{on_slot, has_come, is_on, IsValidScript}
use Rattle.ttp_world.specs.Starts.{StartsAlone}
use Rattle.ttp_world.specs.World.{Numbers, node_past, world, messages_chosen}
use Rattle.ttp_world.proofs.LegalRuns.{legal-whole, legal-none}
use Rattle.ttp_world.proofs.Worlds.{length-world}
use Rattle.campaign_laws.proofs.FromBelow.{kept-plan, node_past-step, first_due, WaitAll-world, kept-safe}
use Rattle.campaign_laws.proofs.FromBelow.{returned-safe, returned-by_plan, zeros-legal, act-off as off-act}
use Rattle.safety_laws.specs.NodeSlot.{NodeSlot, node_slot, next_past}
use Rattle.campaign.specs.Cost.{is_kept, is_owed, says_yes, says_yes_if, faulty_by_test}
use Rattle.campaign.specs.Cost.{faulty_if, is_firm, firm_members}
use Rattle.campaign.specs.Cost.{each_once, memberships, has_two, is_split, split_span, span_after, span_with, cost_of}
use Rattle.campaign.specs.declared.cost.Cost.{Cost}
use Rattle.campaign.specs.Lines.{summary}
use Rattle.ttp_world.specs.ZerosWorld.{zeros_world}
use Rattle.campaign_laws.specs.Ends.{faulty_nodes_if, IsOver, AreOver}
use Rattle.campaign_laws.proofs.Alike.{cost-alike}
use Rattle.campaign_laws.proofs.Yes.{IsUnharmed, all-inactive, waiting, yes-unharmed}

-- A node that is not on is off.

off-next : (x : NodeSlot) → x.past.phase ≡ phase.Off → x.on ≡ false → (next_past x).phase ≡ phase.Off
off-next x off stays =
    ap (λ (a : Act). (past_after x.list x.node x.past
    (new_entry x.list x.node x.past x.chosen x.hearing a) x.around).phase)
    (off-act x off stays)

not_yet : (slot later : ℕ) (on : Option ℕ) → slot ≤ later → has_come later on ≡ false → has_come slot on ≡ false
not_yet slot later None less off = refl
not_yet slot later (Some on) less off = let after = leb-false on later off in
    lt-leb on slot (omega (arith, after, less))

module _ (list : Medl) (script : Script) (k : ℕ) (node : k < length list.slots) where
  off-world : (numbers : Numbers) → is_on script k (length numbers - 1) ≡ false
      → (node_past list script (world list script numbers) k).phase ≡ phase.Off
  off-world [] off = refl
  off-world (new ∷ numbers) off =
      let history = world list script numbers in
      let chosen = messages_chosen list script (length numbers) new.sent in
      let long = length-world list script numbers in
      let count : suc (length numbers) - 1 ≡ length numbers = omega arith in
      let still : is_on script k (length numbers) ≡ false = ap (is_on script k) (sym count) ∙ off in
      let before = off-world numbers
      (not_yet (length numbers - 1) (length numbers) (on_slot script k) (omega arith) still) in
      ap (λ past. past.phase) (node_past-step list script history chosen k node)
      ∙ off-next (node_slot list script history chosen k) before (ap (is_on script k) long ∙ still)

  pub active-on : (numbers : Numbers) → is_active (diary_of (world list script numbers) k) ≡ true
      → is_on script k (length numbers - 1) ≡ true
  active-on numbers active = by (is_on script k (length numbers - 1)) refl
    where
      by : (b : Bool) → is_on script k (length numbers - 1) ≡ b → is_on script k (length numbers - 1) ≡ true
      by true on = on
      by false off = absurd (false≢true (sym (ap is_active_phase (off-world numbers off)) ∙ active))

-- A node that is active after the end is none of the faulty ones.

apart : (p : Phase) → is_left_phase p ≡ true → is_active_phase p ≡ false
apart phase.Left left = refl
apart p left = absurd (false≢true left)

-- each of some nodes is another, where each of them that is this one would have gone
none-is : (P : FaultyNode → Type 0) (gone : FaultyNode → Bool) (k : ℕ) (faulty : List FaultyNode)
    → ((f : FaultyNode) → P f → gone f ≡ true → (f.node == k) ≡ false) → AllByRecursion P faulty
    → list_all gone faulty ≡ true → has_node (numbers_of faulty) k ≡ false
none-is P gone k [] other are all = refl
none-is P gone k (f ∷ faulty) other are all =
    let parts = and_parts (gone f) (list_all gone faulty) all in
    or_from (f.node == k) (has_node (numbers_of faulty) k) (other f are.0 parts.0)
    (none-is P gone k faulty other are.1 parts.1)

gone-left : (late left out : Bool) → (not late || (left && out)) ≡ true → late ≡ true → left ≡ true
gone-left true left out all is = (and_parts left out all).0
gone-left false left out all is = absurd (false≢true is)

unarmed-left : (late armed left out : Bool)
    → (not late || (armed || (left && out))) ≡ true → late ≡ true → armed ≡ false
    → left ≡ true
unarmed-left true true left out all is none = absurd (false≢true (sym none))
unarmed-left true false left out all is none = (and_parts left out all).0
unarmed-left false armed left out all is none = absurd (false≢true is)

-- a node that has left is not one that is active
another : (history : History) (j k : ℕ) → has_left history j ≡ true → is_active (diary_of history k) ≡ true
    → (j == k) ≡ false
another history j k left active = by (j == k) refl
  where
    by : (b : Bool) → (j == k) ≡ b → (j == k) ≡ false
    by false is = is
    by true is =
        let same = eqb-true j k is in
        absurd (false≢true (sym (apart (phase_of (diary_of history k)) (ap (has_left history) (sym same) ∙ left))
        ∙ active))

module _ (list : Medl) (script : Script) (history : History) (count : length history ≡ script.slots)
    (some : 1 ≤ script.slots) (k : ℕ) (active : is_active (diary_of history k) ≡ true) where
  newest : newest_slot history ≡ script.slots - 1
  newest = ap (λ n. n - 1) count

  kept-clear : IsSafe list script history
      → AllByRecursion (IsOver list script) (faulty_nodes_after list script (script.slots - 1))
      → has_node (faulty_after list script (newest_slot history)) k ≡ false
  kept-clear safe over =
      none-is (IsOver list script) (is_gone list script history) k
      (faulty_nodes_after list script (newest_slot history))
      (λ f is gone.
      let late : suc (newest_slot history) ≡ script.slots = omega (arith, newest, some) in
      let early = is.early in
      another history f.node k
      (gone-left (nat_le (f.slot + 2 * length list.slots) (suc (newest_slot history))) (has_left history f.node)
      (is_out list script history f.node) gone
      (le-leb (f.slot + 2 * length list.slots) (suc (newest_slot history)) (omega (arith, late, early)))) active)
      (subst (λ (slot : ℕ). AllByRecursion (IsOver list script)
      (faulty_nodes_after list script slot)) (sym newest) over)
      safe.faulty

  back-clear : IsBackSafe list script history
      → AllByRecursion (IsOver list script) (back_faulty_after list script (script.slots - 1))
      → has_node (numbers_of (back_faulty_after list script (newest_slot history))) k ≡ false
  back-clear safe over =
      none-is (IsOver list script) (is_back_gone list script history) k
      (back_faulty_after list script (newest_slot history))
      (λ f is gone.
      let early = is.early in
      another history f.node k
      (unarmed-left (nat_le (f.slot + two_rounds list) (length history))
      (is_armed_among script f.node f.slot (length history - f.slot)) (has_left history f.node)
      (is_out_among list history (back_correct_nodes list script history) f.node) gone
      (le-leb (f.slot + two_rounds list) (length history) (omega (arith, count, early)))
      (ap (λ n. is_armed_among script f.node f.slot (n - f.slot)) count ∙ is.unarmed)) active)
      (subst (λ (slot : ℕ). AllByRecursion (IsOver list script) (back_faulty_after list script slot)) (sym newest) over)
      safe.faulty

-- One membership.

same-given : (f g : ℕ → Option (List ℕ)) (n : ℕ) (ks : List ℕ) → ((k : ℕ) → k < n → f k ≡ g k)
    → AllByRecursion (λ k. k < n) ks → filter_map f ks ≡ filter_map g ks
same-given f g n [] same within = refl
same-given f g n (k ∷ ks) same within = λ i. cons_option (same k within.0 i) (same-given f g n ks same within.1 i)

-- the newest slot of a history in which memberships were never split
unsplit-last : (list : Medl) (script : Script) (history : History) → 1 ≤ length history
    → split_span list script history ≡ None → is_split list script history ≡ false
unsplit-last list script [] some none = absurd (omega (arith, some))
unsplit-last list script (row ∷ history) some none = by (is_split list script (row ∷ history)) refl
  where
    by : (b : Bool) → is_split list script (row ∷ history) ≡ b → is_split list script (row ∷ history) ≡ false
    by false is = is
    by true is =
        absurd
        (let both : Some (span_with (length history) (split_span list script history)) ≡ None =
        sym (ap (λ b. span_after (length history) b (split_span list script history)) is) ∙ none in
        cc)

few-sets : (sets : List (List ℕ)) → has_two sets ≡ false → length sets ≤ 1
few-sets sets none = let few = leb-false 2 (length sets) none in omega (arith, few)

-- a run whose nodes that are active at its end are none of the faulty ones
module _ (list : Medl) (script : Script) (numbers : Numbers) (valid : IsValid list) (start : ClusterStart)
    (alone : StartsAlone list script start) (some : 1 ≤ length numbers)
    (unsplit : is_split list script (world list script numbers) ≡ false)
    (clear : start.slot < length numbers → (k : ℕ) → k < length list.slots
    → is_active (diary_of (world list script numbers) k) ≡ true
    → has_node (faulty_by_test list script (newest_slot (world list script numbers))) k ≡ false) where
  abbrev history : History
  history = world list script numbers

  abbrev among : ℕ → Bool
  among = is_sound script (faulty_by_test list script (newest_slot history)) (newest_slot history)

  sound : start.slot < length numbers → (k : ℕ) → k < length list.slots → is_active (diary_of history k) ≡ true
      → among k ≡ true
  sound after k node active =
      let long = length-world list script numbers in
      let on : is_on script k (newest_slot history) ≡ true =
      ap (λ n. is_on script k (n - 1)) long ∙ active-on list script k node numbers active in
      (λ i. on i && not (clear after k node active i))

  same-firm : start.slot < length numbers → (k : ℕ) → k < length list.slots
      → firm_members list history (λ j. true) k ≡ firm_members list history among k
  same-firm after k node = by (is_firm (diary_of history k)) refl
    where
      by : (b : Bool) → is_firm (diary_of history k) ≡ b
          → firm_members list history (λ j. true) k ≡ firm_members list history among k
      by true firm =
          let active = (and_parts (is_active (diary_of history k)) (is_settled history k) firm).0 in
          (λ i. cond (is_firm (diary_of history k) && sym (sound after k node active) i)
          (Some (members_of_node list history k)) None)
      by false none =
          (λ i. cond (none i && true) (Some (members_of_node list history k)) None)
          ∙ sym (λ i. cond (none i && among k) (Some (members_of_node list history k)) None)

  one-left : length (memberships list history (λ j. true)) ≤ 1
  one-left = few-sets (memberships list history (λ j. true)) (by (nat_le (length numbers) start.slot) refl)
    where
      by : (b : Bool) → nat_le (length numbers) start.slot ≡ b → has_two (memberships list history (λ j. true)) ≡ false
      by true early =
          let wait = WaitAll-world list script start.slot numbers valid (first_due list script start alone)
          (leb-true (length numbers) start.slot early) in
          all-inactive list history (λ j. true) (λ k node. ap is_active_phase (wait k node).phase ∙ waiting _)
      by false after =
          ap (λ (sets : List (List ℕ)). has_two (each_once sets))
          (same-given (firm_members list history (λ j. true)) (firm_members list history among) (length list.slots)
          (nodes_of list) (same-firm (leb-false (length numbers) start.slot after)) (below-lt (length list.slots)))
          ∙ unsplit

module _ (list : Medl) (script : Script) (valid : IsValid list) (script_valid : IsValidScript list script)
    (over : AreOver list script) where
  some-slots : 1 ≤ script.slots
  some-slots = let some = script_valid.slots.0 in omega (arith, some)

  -- what a run is that shows nobody hurt and no split, by the numbers of a whole run
  module _ (numbers : Numbers) (legal : IsLegal list script numbers) (whole : length numbers ≡ script.slots)
      (unharmed : IsUnharmed (cost_of list script (world list script numbers))) where
    count : length (world list script numbers) ≡ script.slots
    count = length-world list script numbers ∙ whole

    unsplit : is_split list script (world list script numbers) ≡ false
    unsplit =
        let some = some-slots in
        unsplit-last list script (world list script numbers) (omega (arith, count, some)) unharmed.split

    kept-one : (slot : ℕ) → keeps list script ≡ keep.Yes slot → has_arm script ≡ false
        → length (cost_of list script (world list script numbers)).end ≤ 1
    kept-one slot kept unarmed =
        let plan = kept-plan list script slot valid kept in
        let some = some-slots in
        one-left list script numbers valid plan.start plan.alone (omega (arith, whole, some)) unsplit
        (λ after k node active.
        let from = plan.from in
        let safe = kept-safe list script slot valid script_valid kept numbers legal (omega (arith, from, after))
        (omega (arith, whole)) in
        ap (λ b. has_node (faulty_if list script (newest_slot (world list script numbers)) b) k) unarmed
        ∙ kept-clear list script (world list script numbers) count some k active safe
        (subst (λ b. AllByRecursion (IsOver list script)
        (faulty_nodes_if list script (script.slots - 1) b)) unarmed over))

    owed-one : (slot : ℕ) → returns list script ≡ back.Yes slot → has_arm script ≡ true
        → length (cost_of list script (world list script numbers)).end ≤ 1
    owed-one slot owed armed =
        let plan = returned-by_plan list script slot valid script_valid owed in
        let some = some-slots in
        one-left list script numbers valid plan.start plan.alone (omega (arith, whole, some)) unsplit
        (λ after k node active.
        let from = plan.from in
        let safe = returned-safe list script slot valid script_valid owed numbers legal (omega (arith, from, after))
        (omega (arith, whole)) in
        ap (λ b. has_node (faulty_if list script (newest_slot (world list script numbers)) b) k) armed
        ∙ back-clear list script (world list script numbers) count some k active safe
        (subst (λ b. AllByRecursion (IsOver list script)
        (faulty_nodes_if list script (script.slots - 1) b)) armed over))

    yes-one : IsTrue (says_yes list script) → length (cost_of list script (world list script numbers)).end ≤ 1
    yes-one says = by (has_arm script) refl says
      where
        unarmed : (k : Keep) → keeps list script ≡ k → has_arm script ≡ false → IsTrue (is_kept k)
            → length (cost_of list script (world list script numbers)).end ≤ 1
        unarmed (keep.Yes slot) kept none is = kept-one slot kept none
        unarmed (keep.No rule slot) kept none is = absurd (false≢true is)

        armed : (b : Back) → returns list script ≡ b → has_arm script ≡ true → IsTrue (is_owed b)
            → length (cost_of list script (world list script numbers)).end ≤ 1
        armed (back.Yes slot) owed some is = owed-one slot owed some
        armed (back.No rule slot) owed some is = absurd (false≢true is)

        by : (b : Bool) → has_arm script ≡ b → IsTrue (says_yes_if list script b)
            → length (cost_of list script (world list script numbers)).end ≤ 1
        by true some is = armed (returns list script) refl some is
        by false none is = unarmed (keeps list script) refl none is

  pub one-end : IsTrue (says_yes list script) → length (summary list script).cost.end ≤ 1
  one-end says =
      let run = legal-whole list script [] script.slots (legal-none list script) in
      let whole : length run.whole ≡ script.slots = let slots = run.slots in omega (arith, slots) in
      subst (λ (cost : Cost). length cost.end ≤ 1)
      (cost-alike list script (world list script run.whole) (zeros_world list script script.slots)
      (zeros-legal list script run.whole script.slots script_valid run.legal whole))
      (yes-one run.whole run.legal whole
      (yes-unharmed list script valid script_valid says run.whole run.legal (omega (arith, whole))) says)
