-- What the tests of a script answer fits into their lines: a rule that there is, and a slot of five digits.
use Rattle.std.proofs.Common.{ℕ, zero, suc, ◌+◌, ◌-◌, ◌*◌, ◌^◌, ◌<◌, ◌≤◌, Bool, true, false, cond, List, [], ◌∷◌}
use Rattle.std.proofs.Common.{◌++◌, All, length, find, Option, Some, None, IfSome, IsTrue, refl, arith}
use Rattle.std.specs.Prelude.{map, not, option_map, filter, nat_lt, slice_get, unwrap_or, reverse}
use Rattle.std.specs.List.{filter_map, range_with_len, AllByRecursion}
use Rattle.std.proofs.lemmas.Bool.{cond_both}
use Rattle.std.proofs.lemmas.List.Elements.{All-nil, All-cons, All-append, All-head}
use Rattle.std.proofs.lemmas.List.Elements.{All-tail, All-map, All-from_recursion}
use Rattle.std.proofs.lemmas.List.Elements.{recursion_from_All}
use Rattle.ttp_base.specs.NodeSet.{below}
use Rattle.ttp_base.proofs.Below.{below-lt}
use Rattle.ttp_world.specs.declared.keep.Back.{Back}
use Rattle.ttp_world.specs.declared.keep.Back.TheVariants as back
use Rattle.ttp_world.specs.declared.keep.Keep.{Keep}
use Rattle.ttp_world.specs.declared.keep.Keep.TheVariants as keep
use Rattle.ttp_world.specs.declared.medl.Medl.{Medl}
use Rattle.ttp_world.specs.declared.script.Event.{Event}
use Rattle.ttp_world.specs.declared.script.Event.TheVariants as event
use Rattle.ttp_world.specs.declared.script.Script.{Script}
use Rattle.ttp_world.specs.declared.script.TheConstants.{SLOT_LIMIT}
use Rattle.ttp_world.specs.Hypothesis.{drifts_hold, errors_hold_in, clocks_broken, window_broken, outside_slot}
use Rattle.ttp_world.specs.Hypothesis.{is_allowed_jump, lesser, least_of, outside_broken, ClusterStart, start_slot}
use Rattle.ttp_world.specs.Hypothesis.{starts_in, are_all_on, only_starter, start_in, start_of, nodes_of, FaultyNode}
use Rattle.ttp_world.specs.Hypothesis.{numbers_of, loss_in, nodes_made, jumpers_in}
use Rattle.ttp_world.specs.Hypothesis.{faulty_nodes_in, faulty_nodes_before}
use Rattle.ttp_world.specs.Hypothesis.{breaks_in, loss_broken, first_too_early, fault_slots, distance_broken}
use Rattle.ttp_world.specs.Hypothesis.{has_four_steady, lacks_steady_after, sync_broken, slots_since_start, unless}
use Rattle.ttp_world.specs.Hypothesis.{started_keep, keeps}
use Rattle.ttp_world.specs.Medl.{IsValid, may_start}
use Rattle.ttp_world.specs.Returning.{back_window_broken, disturbed_slot, disturbance_broken, stayed_in}
use Rattle.ttp_world.specs.Returning.{slots_before, breaks_back_in, back_loss_broken, joinings, back_fault_slots}
use Rattle.ttp_world.specs.Returning.{back_distance_broken, has_four_before, lacks_four_after, back_sync_broken}
use Rattle.ttp_world.specs.Returning.{breaks_arm_in, arms_broken, unless_back, started_back, returns}
use Rattle.ttp_world.specs.Script.{IsValidEvent, IsValidScript, IsWithinRun, on_slot}
use Rattle.ttp_world.proofs.HostMessages.{filter_map-each}
use Rattle.ttp_world.proofs.LegalReads.{reverse-all}
use Rattle.ttp_world.proofs.Lists.{nodes-most}
use Rattle.line_reader.specs.TraceLines.{FitsBack, FitsKeep}
use Rattle.whole_trace.specs.Due.{is_back, is_keep, lies_within}

-- a number that is named, if one is
abbrev IsIn : ℕ → Option ℕ → Type 0
IsIn bound o = IfSome o (λ n. n < bound)

wider : (a b : ℕ) (o : Option ℕ) → a ≤ b → IsIn a o → IsIn b o
wider a b None less is = tt
wider a b (Some n) less is = omega (arith, less, is)

-- of some numbers the first that passes
found_in_range : (p : ℕ → Bool) (a n : ℕ) → IsIn (a + n) (find p (range_with_len a n))
found_in_range p a zero = tt
found_in_range p a (suc n) =
    cond_both (p a) (Some a) (find p (range_with_len (a + 1) n)) (IsIn (a + suc n)) (λ here. omega arith)
    (λ later. wider (a + 1 + n) (a + suc n) (find p (range_with_len (a + 1) n)) (omega arith)
    (found_in_range p (a + 1) n))

found_below : (p : ℕ → Bool) (n : ℕ) → IsIn n (find p (below n))
found_below p n = wider (0 + n) n (find p (below n)) (omega arith) (found_in_range p 0 n)

-- the least of some
lesser-in : (bound n : ℕ) (o : Option ℕ) → n < bound → IsIn bound o → IsIn bound (lesser n o)
lesser-in bound n None first is = first
lesser-in bound n (Some m) first is = omega (arith, first)

least_of-in : (bound : ℕ) (ns : List ℕ) → All (λ n. n < bound) ns → IsIn bound (least_of ns)
least_of-in bound [] all = tt
least_of-in bound (n ∷ ns) all =
    lesser-in bound n (least_of ns) (All-head (λ m. m < bound) n ns all)
    (least_of-in bound ns (All-tail (λ m. m < bound) n ns all))

-- The first slot of a list that comes too early is within the bound of all.
early-in : (bound gap earliest : ℕ) (slots : List ℕ) → AllByRecursion (λ n. n < bound) slots
    → IsIn bound (first_too_early gap earliest slots)
early-in bound gap earliest [] all = tt
early-in bound gap earliest (slot ∷ slots) all =
    cond_both (nat_lt slot earliest) (Some slot) (first_too_early gap (slot + gap) slots) (IsIn bound) (λ is. all.0)
    (λ late. early-in bound gap (slot + gap) slots all.1)

-- What both tests ask.

broken_if : (bound : ℕ) (b : Bool) → 0 < bound → IsIn bound (cond b None (Some 0))
broken_if bound true some = tt
broken_if bound false some = some

-- Nodes that become faulty do so in slots before the one that comes.

abbrev IsFaultyBefore : ℕ → FaultyNode → Type 0
IsFaultyBefore bound f = f.slot < bound

made_in : (bound slot : ℕ) (ks : List ℕ) → slot < bound
    → All (IsFaultyBefore bound) (map (λ k. (let f : FaultyNode = record { slot = slot; node = k } in f)) ks)
made_in bound slot [] early = All-nil (IsFaultyBefore bound)
made_in bound slot (k ∷ ks) early =
    All-cons (IsFaultyBefore bound) (record { slot = slot; node = k })
    (map (λ k. (let f : FaultyNode = record { slot = slot; node = k } in f)) ks) early (made_in bound slot ks early)

now_in : (list : Medl) (script : Script) (start : ClusterStart) (bound slot : ℕ) (faulty : List FaultyNode)
    → slot < bound → All (IsFaultyBefore bound) (faulty_nodes_in list script start slot faulty)
now_in list script start bound slot faulty early =
    made_in bound slot
    (nodes_made (loss_in list script start (numbers_of faulty) slot) ++ jumpers_in list script (numbers_of faulty) slot)
    early

before_in : (list : Medl) (script : Script) (start : ClusterStart) (bound slots : ℕ) → slots ≤ bound
    → All (IsFaultyBefore bound) (faulty_nodes_before list script start slots)
before_in list script start bound zero few = All-nil (IsFaultyBefore bound)
before_in list script start bound (suc slot) few =
    let faulty = faulty_nodes_before list script start slot in
    All-append (IsFaultyBefore bound) (faulty_nodes_in list script start slot faulty) faulty
    (now_in list script start bound slot faulty (omega (arith, few)))
    (before_in list script start bound slot (omega (arith, few)))

joined_in : (list : Medl) (script : Script) (start : ClusterStart) (bound slots : ℕ) → slots ≤ bound
    → All (IsFaultyBefore bound) (joinings (slots_before list script start slots))
joined_in list script start bound zero few = All-nil (IsFaultyBefore bound)
joined_in list script start bound (suc slot) few =
    let before = slots_before list script start slot in
    All-append (IsFaultyBefore bound) _ (joinings before)
    (now_in list script start bound slot (stayed_in list script before slot) (omega (arith, few)))
    (joined_in list script start bound slot (omega (arith, few)))

in_order : (bound : ℕ) (faulty : List FaultyNode) → All (IsFaultyBefore bound) faulty
    → AllByRecursion (λ n. n < bound) (reverse (map (λ (f : FaultyNode). f.slot) faulty))
in_order bound faulty all =
    reverse-all (λ n. n < bound) (map (λ (f : FaultyNode). f.slot) faulty)
    (recursion_from_All (λ n. n < bound) (map (λ (f : FaultyNode). f.slot) faulty)
    (All-map (λ n. n < bound) (λ (f : FaultyNode). f.slot) faulty all))

-- Rules.

abbrev five_digits : ℕ
five_digits = 10 ^ 5

-- the answer fits into its line, and is one
pub record KeepFits (k : Keep) : Type 0 where
  pub fits : FitsKeep k
  pub is : IsTrue (is_keep k)

pub record BackFits (b : Back) : Type 0 where
  pub fits : FitsBack b
  pub is : IsTrue (is_back b)

unless-fits : (rule : ℕ) (o : Option ℕ) (others : Keep) → rule < 256 → IsTrue (lies_within 1 7 rule)
    → IsIn five_digits o → KeepFits others → KeepFits (unless rule o others)
unless-fits rule None others small within is fits = fits
unless-fits rule (Some slot) others small within is fits = record { fits = (small, is); is = within }

unless_back-fits : (rule : ℕ) (o : Option ℕ) (others : Back) → rule < 256 → IsTrue (lies_within 1 8 rule)
    → IsIn five_digits o → BackFits others → BackFits (unless_back rule o others)
unless_back-fits rule None others small within is fits = fits
unless_back-fits rule (Some slot) others small within is fits = record { fits = (small, is); is = within }

-- Of a valid script, however many events it has.

-- what the tests are asked of: some slots, and the nodes' first ones and the events lie among them
pub record HasSlots (list : Medl) (script : Script) : Type 0 where
  pub slots : (1 ≤ script.slots) × (script.slots ≤ SLOT_LIMIT)
  pub on : All (IsWithinRun script) script.on
  pub events : All (IsValidEvent list script) script.events

pub valid-slots : (list : Medl) (script : Script) → IsValidScript list script → HasSlots list script
valid-slots list script valid = record { slots = valid.slots; on = valid.on; events = valid.events }

module _ (list : Medl) (script : Script) (valid : IsValid list) (valid_script : HasSlots list script) where
  run_in : (o : Option ℕ) → IsIn script.slots o → IsIn five_digits o
  run_in o is = wider script.slots five_digits o (omega (arith, valid_script.slots)) is

  clocks_in : IsIn five_digits (clocks_broken list script)
  clocks_in =
      cond_both (drifts_hold list script) _ (Some 0) (IsIn five_digits)
      (λ hold. run_in _ (found_below (λ slot. not (errors_hold_in list script slot)) script.slots))
      (λ fail. omega arith)

  outside_in : (e : Event) → IsValidEvent list script e → IfSome (outside_slot list script e) (λ n. n < script.slots)
  outside_in (event.Flip node channels bit slot) is = is.3
  outside_in (event.Arm node slot) is = is.1
  outside_in (event.Jump node value slot) is =
      cond_both (is_allowed_jump list script node slot) None (Some slot)
      (IsIn script.slots) (λ allowed. tt) (λ other. is.2)
  outside_in (event.Send node channels f from to) is = tt
  outside_in e is = tt

  -- the least slot that valid events name
  of_events : (named : Event → Option ℕ) → ((e : Event) → IsValidEvent list script e → IsIn script.slots (named e))
      → IsIn five_digits (least_of (filter_map named script.events))
  of_events named each =
      run_in (least_of (filter_map named script.events))
      (least_of-in script.slots (filter_map named script.events)
      (filter_map-each named (IsValidEvent list script) (λ n. n < script.slots) script.events each valid_script.events))

  disturbed_in : (e : Event) → IsValidEvent list script e
      → IfSome (disturbed_slot list script e) (λ n. n < script.slots)
  disturbed_in (event.Flip node channels bit slot) is = is.3
  disturbed_in (event.Jump node value slot) is =
      cond_both (is_allowed_jump list script node slot) None (Some slot)
      (IsIn script.slots) (λ allowed. tt) (λ other. is.2)
  disturbed_in (event.Arm node slot) is = tt
  disturbed_in e is = tt

  -- The start comes at most three rounds after the last slot in which a node can come on.

  abbrev starts_before : ℕ
  starts_before = script.slots + 72

  come_on : (ons : List (Option ℕ)) (k : ℕ) → AllByRecursion (IsWithinRun script) ons
      → IsIn script.slots (unwrap_or (slice_get ons k) None)
  come_on [] k all = tt
  come_on (on ∷ ons) zero all = all.0
  come_on (on ∷ ons) (suc k) all = come_on ons k all.1

  started_at : (k : ℕ) (on : Option ℕ) → k < length list.slots → IsIn script.slots on
      → IsIn starts_before (option_map (λ at. at + 2 * length list.slots + k) on)
  started_at k None node is = tt
  started_at k (Some at) node is = omega (arith, node, is, nodes-most list valid)

  start_slot-in : (k : ℕ) → k < length list.slots → IfSome (start_slot list script k) (λ n. n < starts_before)
  start_slot-in k node =
      cond_both (may_start list k) (option_map (λ on. on + 2 * length list.slots + k) (on_slot script k)) None
      (IsIn starts_before)
      (λ may. started_at k (on_slot script k) node
      (come_on script.on k (recursion_from_All (IsWithinRun script) script.on valid_script.on)))
      (λ no. tt)

  abbrev StartsIn : Option ClusterStart → Type 0
  StartsIn start = IfSome start (λ s. s.slot < starts_before)

  only-in : (slot : ℕ) (ks : List ℕ) → slot < starts_before → StartsIn (only_starter slot ks)
  only-in slot [] is = tt
  only-in slot (k ∷ []) is = is
  only-in slot (k ∷ j ∷ ks) is = tt

  start_in-in : (o : Option ℕ) → IsIn starts_before o → StartsIn (start_in list script o)
  start_in-in None is = tt
  start_in-in (Some slot) is =
      cond_both (are_all_on list script slot) (only_starter slot (filter (starts_in list script slot) (nodes_of list)))
      None StartsIn (λ all. only-in slot (filter (starts_in list script slot) (nodes_of list)) is) (λ not_all. tt)

  start_of-in : StartsIn (start_of list script)
  start_of-in =
      start_in-in (least_of (filter_map (start_slot list script) (nodes_of list)))
      (least_of-in starts_before (filter_map (start_slot list script) (nodes_of list))
      (filter_map-each (start_slot list script) (λ k. k < length list.slots) (λ n. n < starts_before) (nodes_of list)
      start_slot-in (All-from_recursion (λ k. k < length list.slots) (nodes_of list) (below-lt (length list.slots)))))

  since_in : (p : ℕ → Bool) (b : Bool) (start : ClusterStart) → start.slot < starts_before
      → IsIn five_digits (cond b (find p (slots_since_start script start)) (Some start.slot))
  since_in p true start is =
      wider (start.slot + (script.slots - start.slot)) five_digits (find p (slots_since_start script start))
      (omega (arith, is, valid_script.slots)) (found_in_range p start.slot (script.slots - start.slot))
  since_in p false start is = omega (arith, is, valid_script.slots)

  -- The hypothesis.

  started_keep-fits : (start : Option ClusterStart) → StartsIn start → KeepFits (started_keep list script start)
  started_keep-fits None is = record { fits = (omega arith, omega arith); is = refl }
  started_keep-fits (Some start) is =
      unless-fits 5 (loss_broken list script start) _ (omega arith) refl
      (run_in (loss_broken list script start) (found_below (breaks_in list script start) script.slots))
      (unless-fits 6 (distance_broken list script start) _ (omega arith) refl
      (run_in (distance_broken list script start)
      (early-in script.slots (2 * length list.slots) (start.slot + 2 * length list.slots)
      (fault_slots list script start)
      (in_order script.slots (faulty_nodes_before list script start script.slots)
      (before_in list script start script.slots script.slots (omega arith)))))
      (unless-fits 7 (sync_broken list script start) (keep.Yes start.slot) (omega arith) refl
      (since_in (lacks_steady_after list script start)
      (has_four_steady list script (faulty_nodes_before list script start start.slot)) start is)
      (record { fits = omega (arith, is, valid_script.slots); is = refl })))

  pub keeps-fits : KeepFits (keeps list script)
  keeps-fits =
      unless-fits 1 (clocks_broken list script) _ (omega arith) refl clocks_in
      (unless-fits 2 (window_broken list) _ (omega arith) refl (broken_if five_digits _ (omega arith))
      (unless-fits 3 (outside_broken list script) (started_keep list script (start_of list script)) (omega arith) refl
      (of_events (outside_slot list script) outside_in)
      (started_keep-fits (start_of list script) start_of-in)))

  -- Whether armed nodes are guaranteed their places.

  started_back-fits : (start : Option ClusterStart) → StartsIn start → BackFits (started_back list script start)
  started_back-fits None is = record { fits = (omega arith, omega arith); is = refl }
  started_back-fits (Some start) is =
      unless_back-fits 5 (back_loss_broken list script start) _ (omega arith) refl
      (run_in (back_loss_broken list script start) (found_below (breaks_back_in list script start) script.slots))
      (unless_back-fits 6 (back_distance_broken list script start) _ (omega arith) refl
      (run_in (back_distance_broken list script start)
      (early-in script.slots (2 * length list.slots) (start.slot + 2 * length list.slots)
      (back_fault_slots list script start)
      (in_order script.slots (joinings (slots_before list script start script.slots))
      (joined_in list script start script.slots script.slots (omega arith)))))
      (unless_back-fits 7 (back_sync_broken list script start) _ (omega arith) refl
      (since_in (lacks_four_after list script start) (has_four_before list script start start.slot) start is)
      (unless_back-fits 8 (arms_broken list script start) (back.Yes start.slot) (omega arith) refl
      (run_in (arms_broken list script start) (found_below (breaks_arm_in list script start) script.slots))
      (record { fits = omega (arith, is, valid_script.slots); is = refl }))))

  pub returns-fits : BackFits (returns list script)
  returns-fits =
      unless_back-fits 1 (clocks_broken list script) _ (omega arith) refl clocks_in
      (unless_back-fits 2 (back_window_broken list) _ (omega arith) refl (broken_if five_digits _ (omega arith))
      (unless_back-fits 3 (disturbance_broken list script) (started_back list script (start_of list script))
      (omega arith) refl (of_events (disturbed_slot list script) disturbed_in)
      (started_back-fits (start_of list script) start_of-in)))
