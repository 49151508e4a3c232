-- Where the test of a script says yes, nobody is hurt and no memberships are split.
use Rattle.std.proofs.Common.{◌≡◌, ℕ, suc, ◌-◌, ◌<◌, ◌≤◌, Bool, true, false, cond, not, ◌&&◌, ◌||◌, List, [], ◌∷◌}
use Rattle.std.proofs.Common.{length, Option, Some, None, refl, ap, sym, ◌∙◌, subst, arith, inl, inr, IsTrue}
use Rattle.std.specs.Prelude.{filter, ◌⊎◌, nat_le}
use Rattle.std.specs.List.{filter_map, cons_option, AllByRecursion}
use Rattle.std.specs.Str.{bytes_eq}
use Rattle.std.proofs.lemmas.Bool.{false≢true, and_parts, leb-true, leb-false}
use Rattle.ttp_base.proofs.Below.{below-lt}
use Rattle.ttp_world.specs.declared.keep.Back.{Back}
use Rattle.ttp_world.specs.declared.keep.Back.TheVariants as back
use Rattle.ttp_world.specs.declared.keep.Keep.{Keep}
use Rattle.ttp_world.specs.declared.keep.Keep.TheVariants as keep
use Rattle.ttp_world.specs.declared.medl.Medl.{Medl}
use Rattle.ttp_world.specs.declared.node.Entry.{Entry}
use Rattle.ttp_world.specs.declared.node.Entry.TheVariants as entry
use Rattle.ttp_world.specs.declared.node.Phase.TheVariants as phase
use Rattle.ttp_world.specs.declared.script.Script.{Script}
use Rattle.ttp_world.specs.Diary.{History, entry_of, diary_of, phase_after, is_active, is_active_phase}
use Rattle.ttp_world.specs.Hypothesis.{ClusterStart, nodes_of, keeps}
use Rattle.ttp_world.specs.Legal.{IsLegal}
use Rattle.ttp_world.specs.Medl.{IsValid}
use Rattle.ttp_world.specs.Messages.{is_left_phase}
use Rattle.ttp_world.specs.Returning.{has_arm, returns, is_sound}
use Rattle.ttp_world.specs.Safety.{newest_slot, is_settled, members_of_node, has_left}
use Rattle.ttp_world.specs.Script.{IsValidScript}
use Rattle.ttp_world.specs.Starts.{StartsAlone}
use Rattle.ttp_world.specs.World.{SlotNumbers, Numbers, world}
use Rattle.ttp_world.proofs.LegalRuns.{legal-whole, legal-none}
use Rattle.ttp_world.proofs.LegalShapes.{legal-older}
use Rattle.campaign_laws.proofs.FromBelow.{kept-plan, first_due, WaitAll, WaitAll-world, kept-safe, returned-safe}
use Rattle.campaign_laws.proofs.FromBelow.{returned-by_plan, zeros-legal, waiting-unleft as waiting-stays}
use Rattle.campaign.specs.Cost.{is_kept, is_owed, says_yes, says_yes_if, faulty_by_test, faulty_if, is_hurt_in, is_hurt}
use Rattle.campaign.specs.Cost.{is_firm, firm_members, each_once, memberships, has_two, is_split, split_span}
use Rattle.campaign.specs.Cost.{span_after, cost_of}
use Rattle.campaign.specs.declared.cost.Cost.{Cost}
use Rattle.ttp_world.specs.ZerosWorld.{zeros_world}
use Rattle.campaign_laws.proofs.Alike.{cost-alike}
use Rattle.campaign_laws.proofs.Calm.{IsCalm, safe-calm, back-calm}

-- nobody is hurt, and no memberships are split
pub record IsUnharmed (cost : Cost) : Type 0 where
  pub hurt : cost.hurt ≡ []
  pub split : cost.split ≡ None

none-pass : (p : ℕ → Bool) (n : ℕ) (ks : List ℕ) → ((k : ℕ) → k < n → p k ≡ false) → AllByRecursion (λ k. k < n) ks
    → filter p ks ≡ []
none-pass p n [] fails within = refl
none-pass p n (k ∷ ks) fails within =
    ap (λ b. cond b (k ∷ filter p ks) (filter p ks)) (fails k within.0) ∙ none-pass p n ks fails within.1

-- One membership.

-- what is so of each is so of each that is kept
kept-each : (P : List ℕ → Type 0) (p : List ℕ → Bool) (sets : List (List ℕ)) → AllByRecursion P sets
    → AllByRecursion P (filter p sets)
kept-each P p [] each = tt
kept-each P p (set ∷ sets) each = by (p set) (kept-each P p sets each.1)
  where
    by : (b : Bool) → AllByRecursion P (filter p sets)
        → AllByRecursion P (cond b (set ∷ filter p sets) (filter p sets))
    by true rest = (each.0, rest)
    by false rest = rest

-- What holds of each set of a list holds of each that is told once.
once-each : (P : List ℕ → Type 0) (sets : List (List ℕ)) → AllByRecursion P sets → AllByRecursion P (each_once sets)
once-each P [] all = tt
once-each P (set ∷ sets) all =
    (all.0, kept-each P (λ m. not (bytes_eq set m)) (each_once sets) (once-each P sets all.1))

-- nothing is left that differs from it
none-differ : (set : List ℕ) (sets : List (List ℕ)) → AllByRecursion (λ s. bytes_eq set s ≡ true) sets
    → filter (λ m. not (bytes_eq set m)) sets ≡ []
none-differ set [] all = refl
none-differ set (s ∷ sets) all =
    ap (λ b. cond (not b) (s ∷ filter (λ m. not (bytes_eq set m)) sets) (filter (λ m. not (bytes_eq set m)) sets)) all.0
    ∙ none-differ set sets all.1

one-set : (sets : List (List ℕ)) → AllByRecursion (λ s. AllByRecursion (λ t. bytes_eq s t ≡ true) sets) sets
    → has_two (each_once sets) ≡ false
one-set [] all = refl
one-set (set ∷ sets) all =
    ap (λ (more : List (List ℕ)). has_two (set ∷ more))
    (none-differ set (each_once sets) (once-each (λ m. bytes_eq set m ≡ true) sets all.0.1))

-- what is so of what each node gives is so of all that is given
given-each : (P : List ℕ → Type 0) (f : ℕ → Option (List ℕ)) (n : ℕ) (ks : List ℕ)
    → ((k : ℕ) (set : List ℕ) → k < n → f k ≡ Some set → P set) → AllByRecursion (λ k. k < n) ks
    → AllByRecursion P (filter_map f ks)
given-each P f n [] each within = tt
given-each P f n (k ∷ ks) each within = by (f k) (λ set. each k set within.0) (given-each P f n ks each within.1)
  where
    by : (o : Option (List ℕ)) → ((set : List ℕ) → o ≡ Some set → P set) → AllByRecursion P (filter_map f ks)
        → AllByRecursion P (cons_option o (filter_map f ks))
    by None here rest = rest
    by (Some set) here rest = (here set refl, rest)

-- a node that gives members is active and not in doubt, and one of those that are asked
pub record GivesMembers (list : Medl) (history : History) (among : ℕ → Bool) (k : ℕ) (set : List ℕ) : Type 0 where
  pub active : is_active (diary_of history k) ≡ true
  pub settled : is_settled history k ≡ true
  pub among_them : among k ≡ true
  pub members : members_of_node list history k ≡ set

gives : (list : Medl) (history : History) (among : ℕ → Bool) (k : ℕ) (set : List ℕ)
    → firm_members list history among k ≡ Some set → GivesMembers list history among k set
gives list history among k set is = by (is_firm (diary_of history k) && among k) refl is
  where
    by : (b : Bool) → (is_firm (diary_of history k) && among k) ≡ b
        → cond b (Some (members_of_node list history k)) None ≡ Some set → GivesMembers list history among k set
    by true firm gave =
        let parts = and_parts (is_firm (diary_of history k)) (among k) firm in
        let whole = and_parts (is_active (diary_of history k)) (is_settled history k) parts.0 in
        record { active = whole.0; settled = whole.1; among_them = parts.1; members = cc }
    by false firm gave = absurd cc

-- After a slot.

not_left : (list : Medl) (script : Script) (slot k : ℕ) (e : Entry) → is_left_phase (phase_after e) ≡ false
    → is_hurt_in list script slot k e ≡ false
not_left list script slot k (entry.Left reason peer) stays = absurd (false≢true (sym stays))
not_left list script slot k e stays = refl

-- a node that leaves is not correct, where none of the correct ones has left
unhurt : (list : Medl) (script : Script) (slot k : ℕ) (e : Entry)
    → (is_sound script (faulty_by_test list script slot) slot k ≡ true → is_left_phase (phase_after e) ≡ false)
    → is_hurt_in list script slot k e ≡ false
unhurt list script slot k e stays = by (is_sound script (faulty_by_test list script slot) slot k) refl
  where
    unsound : (e : Entry) → is_sound script (faulty_by_test list script slot) slot k ≡ false
        → is_hurt_in list script slot k e ≡ false
    unsound (entry.Left reason peer) is = is
    unsound e is = refl

    by : (b : Bool) → is_sound script (faulty_by_test list script slot) slot k ≡ b
        → is_hurt_in list script slot k e ≡ false
    by true sound = not_left list script slot k e (stays sound)
    by false not_sound = unsound e not_sound

calm-unsplit : (list : Medl) (script : Script) (history : History)
    → IsCalm list script history (faulty_by_test list script (newest_slot history))
    → is_split list script history ≡ false
calm-unsplit list script history calm =
    one-set (filter_map f (nodes_of list))
    (given-each (λ s. AllByRecursion (λ t. bytes_eq s t ≡ true) (filter_map f (nodes_of list))) f n (nodes_of list)
    (λ j s one gave. given-each (λ t. bytes_eq s t ≡ true) f n (nodes_of list)
    (λ k t other gave_too. same j k s t one other (gives list history among j s gave)
    (gives list history among k t gave_too))
    (below-lt n))
    (below-lt n))
  where
    n : ℕ
    n = length list.slots

    among : ℕ → Bool
    among = is_sound script (faulty_by_test list script (newest_slot history)) (newest_slot history)

    f : ℕ → Option (List ℕ)
    f = firm_members list history among

    same : (j k : ℕ) (s t : List ℕ) → j < n → k < n → GivesMembers list history among j s
        → GivesMembers list history among k t → bytes_eq s t ≡ true
    same j k s t one other of_j of_k =
        (λ i. bytes_eq (sym of_j.members i) (sym of_k.members i))
        ∙ calm.agree j k one other of_j.among_them of_k.among_them of_j.settled of_k.settled

-- While all wait.

pub waiting : (none : Bool) → is_active_phase (cond none phase.Off phase.Listening) ≡ false
waiting true = refl
waiting false = refl

pub all-inactive : (list : Medl) (history : History) (among : ℕ → Bool)
    → ((k : ℕ) → k < length list.slots → is_active (diary_of history k) ≡ false)
    → has_two (memberships list history among) ≡ false
all-inactive list history among inactive =
    one-set (filter_map (firm_members list history among) (nodes_of list))
    (given-each _ (firm_members list history among) (length list.slots) (nodes_of list)
    (λ k s node gave.
    absurd (false≢true (sym (inactive k node) ∙ (gives list history among k s gave).active)))
    (below-lt (length list.slots)))

-- The run.

abbrev newest_row : History → List Entry
newest_row [] = []
newest_row (row ∷ history) = row

module _ (list : Medl) (script : Script) (start : ClusterStart) (valid : IsValid list)
    (script_valid : IsValidScript list script) (alone : StartsAlone list script start)
    (calm : (numbers : Numbers) → IsLegal list script numbers → start.slot < length numbers
    → length numbers ≤ script.slots
    → IsCalm list script (world list script numbers)
    (faulty_by_test list script (newest_slot (world list script numbers)))) where
  wait : (numbers : Numbers) → length numbers ≤ start.slot → WaitAll list script (world list script numbers)
  wait numbers early = WaitAll-world list script start.slot numbers valid (first_due list script start alone) early

  -- whether the start is over
  begun : (slots : ℕ) → (slots ≤ start.slot) ⊎ (start.slot < slots)
  begun slots = by (nat_le slots start.slot) refl
    where
      by : (b : Bool) → nat_le slots start.slot ≡ b → (slots ≤ start.slot) ⊎ (start.slot < slots)
      by true is = inl (leb-true slots start.slot is)
      by false is = inr (leb-false slots start.slot is)

  -- after a slot
  hurt-now : (new : SlotNumbers) (numbers : Numbers) (k : ℕ) (e : Entry) → IsLegal list script (new ∷ numbers)
      → suc (length numbers) ≤ script.slots → k < length list.slots
      → e ≡ entry_of (newest_row (world list script (new ∷ numbers))) k
      → is_hurt_in list script (length (world list script numbers)) k e ≡ false
  hurt-now new numbers k e legal within node is =
      unhurt list script (length (world list script numbers)) k e (λ sound.
      ap (λ (e : Entry). is_left_phase (phase_after e)) is ∙ by (begun (suc (length numbers))) sound)
    where
      slots : suc (length (world list script numbers)) - 1 ≡ length (world list script numbers)
      slots = omega arith

      by : (suc (length numbers) ≤ start.slot) ⊎ (start.slot < suc (length numbers))
          → is_sound script (faulty_by_test list script (length (world list script numbers)))
          (length (world list script numbers)) k
          ≡ true
          → has_left (world list script (new ∷ numbers)) k ≡ false
      by (inl early) sound =
          ap is_left_phase (wait (new ∷ numbers) early k node).phase ∙ waiting-stays _
      by (inr after) sound =
          (calm (new ∷ numbers) legal after within).stay k node
          (ap (λ m. is_sound script (faulty_by_test list script m) m k) slots ∙ sound)

  hurt-none : (numbers : Numbers) (k : ℕ) → IsLegal list script numbers → length numbers ≤ script.slots
      → k < length list.slots → is_hurt list script (world list script numbers) k ≡ false
  hurt-none [] k legal within node = refl
  hurt-none (new ∷ numbers) k legal within node =
      ap (λ b. b || is_hurt list script (world list script numbers) k)
      (hurt-now new numbers k _ legal within node refl)
      ∙ hurt-none numbers k (legal-older list script new numbers legal) (omega (arith, within)) node

  unsplit : (new : SlotNumbers) (numbers : Numbers) → IsLegal list script (new ∷ numbers)
      → suc (length numbers) ≤ script.slots → is_split list script (world list script (new ∷ numbers)) ≡ false
  unsplit new numbers legal within =
      elim (begun (suc (length numbers))) [
        | inl early ↦ all-inactive list (world list script (new ∷ numbers)) _
            (λ k node. ap is_active_phase (wait (new ∷ numbers) early k node).phase ∙ waiting _)
        | inr after ↦ calm-unsplit list script (world list script (new ∷ numbers))
            (calm (new ∷ numbers) legal after within)
      ]

  split-none : (numbers : Numbers) → IsLegal list script numbers → length numbers ≤ script.slots
      → split_span list script (world list script numbers) ≡ None
  split-none [] legal within = refl
  split-none (new ∷ numbers) legal within =
      (λ i. span_after (length (world list script numbers)) (unsplit new numbers legal within i)
      (split-none numbers (legal-older list script new numbers legal) (omega (arith, within)) i))

  pub unharmed : (numbers : Numbers) → IsLegal list script numbers → length numbers ≤ script.slots
      → IsUnharmed (cost_of list script (world list script numbers))
  unharmed numbers legal within = record {
    hurt = none-pass (is_hurt list script (world list script numbers)) (length list.slots) (nodes_of list)
        (λ k. hurt-none numbers k legal within) (below-lt (length list.slots));
    split = split-none numbers legal within;
  }

-- By the test that says yes.

faulty-calm : (list : Medl) (script : Script) (history : History) (armed : Bool) → has_arm script ≡ armed
    → IsCalm list script history (faulty_if list script (newest_slot history) armed)
    → IsCalm list script history (faulty_by_test list script (newest_slot history))
faulty-calm list script history armed is =
    subst (IsCalm list script history) (sym (ap (faulty_if list script (newest_slot history)) is))

module _ (list : Medl) (script : Script) (valid : IsValid list) (script_valid : IsValidScript list script) where
  kept-unharmed : (slot : ℕ) → keeps list script ≡ keep.Yes slot → has_arm script ≡ false → (numbers : Numbers)
      → IsLegal list script numbers → length numbers ≤ script.slots
      → IsUnharmed (cost_of list script (world list script numbers))
  kept-unharmed slot kept unarmed =
      let plan = kept-plan list script slot valid kept in
      unharmed list script plan.start valid script_valid plan.alone (λ numbers legal after within.
      faulty-calm list script (world list script numbers) false unarmed
      (safe-calm list script (world list script numbers)
      (kept-safe list script slot valid script_valid kept numbers legal
      (let from = plan.from in omega (arith, from, after)) within)))

  owed-unharmed : (slot : ℕ) → returns list script ≡ back.Yes slot → has_arm script ≡ true → (numbers : Numbers)
      → IsLegal list script numbers → length numbers ≤ script.slots
      → IsUnharmed (cost_of list script (world list script numbers))
  owed-unharmed slot owed armed =
      let plan = returned-by_plan list script slot valid script_valid owed in
      unharmed list script plan.start valid script_valid plan.alone (λ numbers legal after within.
      faulty-calm list script (world list script numbers) true armed
      (back-calm list script (world list script numbers)
      (returned-safe list script slot valid script_valid owed numbers legal
      (let from = plan.from in omega (arith, from, after)) within)))

  pub yes-unharmed : IsTrue (says_yes list script) → (numbers : Numbers) → IsLegal list script numbers
      → length numbers ≤ script.slots → IsUnharmed (cost_of list script (world list script numbers))
  yes-unharmed says = by (has_arm script) refl says
    where
      unarmed : (k : Keep) → keeps list script ≡ k → has_arm script ≡ false → IsTrue (is_kept k) → (numbers : Numbers)
          → IsLegal list script numbers → length numbers ≤ script.slots
          → IsUnharmed (cost_of list script (world list script numbers))
      unarmed (keep.Yes slot) kept none is = kept-unharmed slot kept none
      unarmed (keep.No rule slot) kept none is = absurd (false≢true is)

      armed : (b : Back) → returns list script ≡ b → has_arm script ≡ true → IsTrue (is_owed b) → (numbers : Numbers)
          → IsLegal list script numbers → length numbers ≤ script.slots
          → IsUnharmed (cost_of list script (world list script numbers))
      armed (back.Yes slot) owed some is = owed-unharmed slot owed some
      armed (back.No rule slot) owed some is = absurd (false≢true is)

      by : (b : Bool) → has_arm script ≡ b → IsTrue (says_yes_if list script b) → (numbers : Numbers)
          → IsLegal list script numbers → length numbers ≤ script.slots
          → IsUnharmed (cost_of list script (world list script numbers))
      by true some is = armed (returns list script) refl some is
      by false none is = unarmed (keeps list script) refl none is

  -- there are legal numbers of a whole run, and what they show is what a line tells
  pub yes-line : IsTrue (says_yes list script) → IsUnharmed (cost_of list script (zeros_world list script script.slots))
  yes-line says =
      let run = legal-whole list script [] script.slots (legal-none list script) in
      let count : length run.whole ≡ script.slots = let slots = run.slots in omega (arith, slots) in
      subst IsUnharmed
      (cost-alike list script (world list script run.whole) (zeros_world list script script.slots)
      (zeros-legal list script run.whole script.slots script_valid run.legal count))
      (yes-unharmed says run.whole run.legal (omega (arith, count)))
