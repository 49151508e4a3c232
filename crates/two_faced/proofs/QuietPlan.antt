-- A plan that loses no node.
use Rattle.two_faced.proofs.Words.{◌≡◌, ℕ, ◌+◌, ◌<◌, ◌≤◌, true, not, [], length, Some, None, refl, ap, sym, subst, ◌∙◌}
use Rattle.two_faced.proofs.Words.{arith, pos, false, Bool, List, ◌∷◌, Option, zero, suc, cond, ◌&&◌, int_le, ◌+ℤ◌}
use Rattle.two_faced.proofs.Words.{◌==◌, AllByRecursion, filter_map, both_ways, none-some, below, has_node, Medl}
use Rattle.two_faced.proofs.Words.{Script, ClusterStart, is_within_bound, drifts_hold, start_of, IsValid, plan_at}
use Rattle.two_faced.proofs.Words.{IsValidScript, is_on, drift_of, reading_error, jump_of, sole_start, FaultPlan}
use Rattle.two_faced.proofs.Words.{sender, fate_of, is_sound_after, is_lost, Fate, Absent, Sound, Falling, Fallen}
use Rattle.two_faced.proofs.Words.{is_sound_fate, FollowsPlan, never-listens, none-enters, bound, HasFacedClocks}
use Rattle.two_faced.proofs.Words.{errors_allowed_in, faced_clocks_broken, first_fault_slot, faults_broken}
use Rattle.std.specs.Prelude.{find, is_some}
use Rattle.std.specs.List.{filter, list_any, Contains}
use Rattle.std.proofs.lemmas.Bool.{not-false, leb-true}
use Rattle.ttp_base.proofs.Below.{each-below}
use Rattle.ttp_base.proofs.NodeSets.{has_node-sieve, same_sieve}
use Rattle.ttp_world.specs.Hypothesis.{only_starter, is_steady}
use Rattle.ttp_world.specs.Hypothesis.{loses}
use Rattle.ttp_world.specs.Medl.{may_start}
use Rattle.ttp_world.specs.Script.{is_ever_on, on_slot, has_jump}
use Rattle.ttp_world.specs.Script.{flipped_bits, has_send_fault, has_receive_fault, is_send_fault}
use Rattle.ttp_world.specs.Script.{is_receive_fault, flipped_bit, jump_in, sum_ℤ}
use Rattle.ttp_world.specs.Starts.{StartsAlone}
use Rattle.ttp_world.proofs.Lists.{nodes-most}
use Rattle.ttp_world.proofs.Starts.{found-start, alone-start, on-start}
use Rattle.hypothesis.specs.SoleStart.{sole_start_in}
use Rattle.safety_laws.specs.Plan.{fault_plan_of, Return, incident_at, is_in_slot}
use Rattle.safety_laws.specs.Fates.{is_steady_after, steady_nodes}
use Rattle.safety_laws.specs.Fates.{fate_at_begin, next_fate, turned, struck}
use Rattle.safety_laws.specs.GoodPlan.{IsGoodPlan}
use Rattle.safety_laws.specs.Kept.{IsHeardByPlan}
use Rattle.two_faced.proofs.FromBelow.{both-hold, wide, on-always, due-ever, none-among, none-armed, none-found}
use Rattle.two_faced.proofs.FromBelow.{lost-begin as begin-lost, sound-begin as begin-sound, next-same, fate-told}
use Rattle.safety_laws.specs.PlannedRun.{IsBegunAlone}
use Rattle.two_faced.specs.Faced.{allowed_error}
use Rattle.two_faced.proofs.Rules.{RulesHold}
use Rattle.ttp_world.proofs.SmallTests.{le_of_test, and-true}
use Rattle.ttp_world.specs.declared.script.Channel.{Channel}
use Rattle.ttp_world.specs.declared.script.Channel.TheVariants as channel
use Rattle.ttp_world.specs.declared.script.Event.{Event}
use Rattle.ttp_world.specs.declared.script.Event.TheVariants as event
use Rattle.ttp_world.specs.declared.script.Fault.{Fault}
use Rattle.ttp_world.specs.declared.script.Fault.TheVariants as fault
use Rattle.ttp_world.proofs.Jumps.{each-none}
use Rattle.safety_laws.specs.Told.{IsTold}

pub none-at : (plan : FaultPlan) (slot : ℕ) → plan.incidents ≡ [] → incident_at plan slot ≡ None
none-at plan slot none = ap (find (is_in_slot slot)) none

turned-begin : (own begins : Bool) (slot : ℕ) → turned own slot (cond begins Sound Absent) ≡ cond begins Sound Absent
turned-begin true true slot = refl
turned-begin true false slot = refl
turned-begin false begins slot = refl

-- one slot changes no fate
fate-same : (plan : FaultPlan) (slot k : ℕ) (fate : Fate) → plan.incidents ≡ [] → plan.returns ≡ []
    → fate ≡ fate_at_begin plan k → next_fate plan slot k fate ≡ fate_at_begin plan k
fate-same plan slot k fate none stay is =
    next-same plan slot k fate (none-armed plan slot k stay) (none-enters plan slot k stay)
    ∙ ap (λ found. turned (sender plan slot == k) slot (struck slot k fate found)) (none-at plan slot none)
    ∙ ap (turned (sender plan slot == k) slot) is ∙ turned-begin (sender plan slot == k) (has_node plan.begin k) slot

pub fate-always : (plan : FaultPlan) (slot k : ℕ) → plan.incidents ≡ [] → plan.returns ≡ []
    → fate_of plan slot k ≡ fate_at_begin plan k
fate-always plan zero k none stay = fate-same plan 0 k (fate_at_begin plan k) none stay refl
fate-always plan (suc slot) k none stay =
    fate-same plan (suc slot) k (fate_of plan slot k) none stay (fate-always plan slot k none stay)

-- the nodes that begin are sound always
pub sound-always : (plan : FaultPlan) (slot k : ℕ) → plan.incidents ≡ [] → plan.returns ≡ []
    → is_sound_after plan slot k ≡ has_node plan.begin k
sound-always plan slot k none stay =
    ap is_sound_fate (fate-always plan slot k none stay) ∙ begin-sound (has_node plan.begin k)

-- A plan without incidents loses no node, and only a lost node returns.

never-lost : (plan : FaultPlan) (slot k : ℕ) (fate : Fate) → plan.incidents ≡ [] → IsTold plan slot k fate
    → is_lost fate ≡ true → ⊥
never-lost plan slot k (Falling change since) none told lost =
    none-some told.loss.incident (sym (none-at plan since none) ∙ told.loss.found)
never-lost plan slot k (Fallen change since shown) none told lost =
    none-some told.loss.incident (sym (none-at plan since none) ∙ told.loss.found)
never-lost plan slot k _ none told lost = both_ways false refl lost

pub none-returns : (plan : FaultPlan) → IsGoodPlan plan → plan.incidents ≡ [] → plan.returns ≡ []
none-returns plan good none = by plan.returns refl
  where
    by : (returns : List Return) → plan.returns ≡ returns → plan.returns ≡ []
    by [] is = is
    by (r ∷ returns) is =
        let among : Contains plan.returns r = subst (λ rs. Contains rs r) (sym is) (0, omega arith, refl) in
        let was = (good.returns r among).was in
        absurd (never-lost plan was.0 r.node (fate_of plan was.0 r.node) none
        (fate-told plan was.0 r.node good) was.1.1)

-- A script without faults of senders and receivers, flipped bits and jumps.

-- what no event is, or says, of a kind that is no fault
none-any : (p : Event → Bool) (events : List Event) → ((e : Event) → first_fault_slot e ≡ None → p e ≡ false)
    → AllByRecursion (λ e. first_fault_slot e ≡ None) events → list_any p events ≡ false
none-any p [] fails quiet = refl
none-any p (e ∷ events) fails quiet =
    let here : p e ≡ false = fails e quiet.0 in
    rw here (none-any p events fails quiet.1)

none-mapped : {B : Type 0} (f : Event → Option B) (events : List Event)
    → ((e : Event) → first_fault_slot e ≡ None → f e ≡ None)
    → AllByRecursion (λ e. first_fault_slot e ≡ None) events → filter_map f events ≡ []
none-mapped f [] fails quiet = refl
none-mapped f (e ∷ events) fails quiet =
    let here : f e ≡ None = fails e quiet.0 in
    rw here (none-mapped f events fails quiet.1)

no-send : (kind : Fault) (k : ℕ) (c : Channel) (slot : ℕ) (e : Event) → first_fault_slot e ≡ None
    → is_send_fault kind k c slot e ≡ false
no-send kind k c slot (event.Send node channels f from to) none = absurd (none-some from (sym none))
no-send kind k c slot _ none = refl

no-receive : (kind : Fault) (k : ℕ) (c : Channel) (slot : ℕ) (e : Event) → first_fault_slot e ≡ None
    → is_receive_fault kind k c slot e ≡ false
no-receive kind k c slot (event.Receive node channels f from to) none = absurd (none-some from (sym none))
no-receive kind k c slot _ none = refl

no-flip : (k : ℕ) (c : Channel) (slot : ℕ) (e : Event) → first_fault_slot e ≡ None → flipped_bit k c slot e ≡ None
no-flip k c slot (event.Flip node channels bit at) none = absurd (none-some at (sym none))
no-flip k c slot _ none = refl

no-jump : (k slot : ℕ) (e : Event) → first_fault_slot e ≡ None → jump_in k slot e ≡ None
no-jump k slot (event.Jump node value at) none = absurd (none-some at (sym none))
no-jump k slot _ none = refl

-- in each slot, of all nodes
pub record IsQuiet (script : Script) : Type 0 where
  pub heard : (p r slot : ℕ) → loses script p slot r ≡ false
  pub flips : (k slot : ℕ) (c : Channel) → flipped_bits script k c slot ≡ []
  pub jumps : (k slot : ℕ) → has_jump script k slot ≡ false
  pub still : (k slot : ℕ) → jump_of script k slot ≡ pos 0

pub quiet-script : (script : Script) → faults_broken script ≡ None → IsQuiet script
quiet-script script none = record {
  heard = λ p r slot. rw (
    sends fault.Silence p channel.A slot,
    sends fault.Noise p channel.A slot,
    receives fault.Silence r channel.A slot,
    receives fault.Noise r channel.A slot,
  ) refl;
  flips = λ k slot c. none-mapped (flipped_bit k c slot) script.events (no-flip k c slot) quiet;
  jumps = λ k slot. none-any (λ e. is_some (jump_in k slot e)) script.events
      (λ e none. ap is_some (no-jump k slot e none)) quiet;
  still = λ k slot. ap sum_ℤ (none-mapped (jump_in k slot) script.events (no-jump k slot) quiet);
}
  where
    quiet : AllByRecursion (λ e. first_fault_slot e ≡ None) script.events
    quiet = each-none first_fault_slot script.events none

    sends : (kind : Fault) (k : ℕ) (c : Channel) (slot : ℕ) → has_send_fault script kind k c slot ≡ false
    sends kind k c slot = none-any (is_send_fault kind k c slot) script.events (no-send kind k c slot) quiet

    receives : (kind : Fault) (k : ℕ) (c : Channel) (slot : ℕ) → has_receive_fault script kind k c slot ≡ false
    receives kind k c slot = none-any (is_receive_fault kind k c slot) script.events (no-receive kind k c slot) quiet

-- The plan of a script in which no node is lost: it loses none, and the script follows it.

abbrev pub quiet_plan : Medl → Script → ClusterStart → FaultPlan
quiet_plan list script start = record (fault_plan_of list script start) { incidents = [] }

sole-start : (list : Medl) (script : Script) (start : ClusterStart) → start_of list script ≡ Some start
    → sole_start list script ≡ Some start
sole-start list script start is =
    let found = found-start list script start is in
    ap (sole_start_in list script) found.least ∙ ap (only_starter start.slot) found.only

module _ (list : Medl) (script : Script) (z slot : ℕ) (valid : IsValid list) (rules : RulesHold list script z slot)
  where
    abbrev start : ClusterStart
    start = rules.start

    abbrev plan : FaultPlan
    plan = quiet_plan list script start

    quiet : IsQuiet script
    quiet = quiet-script script rules.faults

    alone : StartsAlone list script start
    alone = alone-start list script start rules.started

    sound : (turn k : ℕ) → is_sound_after plan turn k ≡ has_node plan.begin k
    sound turn k = sound-always plan turn k refl refl

    steady-same : (turn : ℕ) → filter (is_steady list script []) (below (length list.slots)) ≡ steady_nodes plan turn
    steady-same turn =
        same_sieve (is_steady list script []) (is_steady_after plan turn) (length list.slots) (λ k less.
        let measured = sym (has_node-sieve (λ k. (plan_at list k).sync) (length list.slots) k less) in
        let begins = sym (has_node-sieve (is_ever_on script) (length list.slots) k less) ∙ sym (sound turn k) in
        λ i. measured i && (sym (and-true (is_ever_on script k)) ∙ begins ∙ and-true (is_sound_after plan turn k)) i)

    good : IsGoodPlan plan
    good = record {
      count = (valid.count.0, nodes-most list valid);
      starter = (
        alone.node,
        has_node-sieve (is_ever_on script) (length list.slots) start.node alone.node
            ∙ due-ever (may_start list start.node) (on_slot script start.node) (length list.slots) start.node start.slot
            alone.due,
      );
      late = λ slot incident found. absurd (none-some incident found);
      apart = λ slot later first second found next less. absurd (none-some first found);
      losses = λ turn incident found. absurd (none-some incident found);
      returns = λ r among. absurd (none-among plan r refl among);
      steady = λ turn less. subst (λ ks. 4 ≤ length ks) (steady-same turn) (leb-true 4 _ rules.steady);
    }

    hearing : (turn : ℕ) → IsHeardByPlan script start plan turn
    hearing turn = record {
      heard = λ r node other good sound. quiet.heard (sender plan turn) r (start.slot + turn);
      listens = λ r since node good fate. absurd (never-listens plan turn r since refl fate);
      unheard = λ r incident node found. absurd (none-some incident found);
      deaf = λ incident found. absurd (none-some incident found);
      still = λ k node sound. quiet.jumps k (start.slot + turn);
      jumps = λ incident found. absurd (none-some incident found);
    }

    on : (turn k : ℕ) → k < length list.slots → has_node plan.begin k ≡ is_on script k (start.slot + turn)
    on turn k node =
        has_node-sieve (is_ever_on script) (length list.slots) k node
        ∙ on-always list script start turn k (λ j. on-start list script start j rules.started) node

    pub follows : FollowsPlan list script start plan
    follows = record {
      good = good;
      flips = quiet.flips;
      nodes = refl;
      starter = refl;
      slots = refl;
      measured = λ k node. has_node-sieve (λ k. (plan_at list k).sync) (length list.slots) k node;
      on = on;
      hearing = λ turn within. hearing turn;
      returns = λ r among. absurd (none-among plan r refl among);
      clocks = λ turn k node within sound. quiet.still k (start.slot + turn);
    }

    -- a node that is on in a slot from the start on is sound after it
    pub on-sound : (turn k : ℕ) → k < length list.slots → is_on script k (start.slot + turn) ≡ true
        → is_sound_after plan turn k ≡ true
    on-sound turn k node is = sound turn k ∙ on turn k node ∙ is

    pub begun : IsValidScript list script → IsBegunAlone list script start plan
    begun script_valid = record {
      planned = record {
        valid = valid;
        script_valid = script_valid;
        follows = follows;
        arms = λ k turn node lost. absurd (both_ways (is_lost (fate_of plan turn k))
            (ap is_lost (fate-always plan turn k refl refl) ∙ begin-lost (has_node plan.begin k)) lost);
      };
      alone = alone;
      heard = λ k node other on. quiet.heard start.node k start.slot;
    }

    parts : (drifts_hold list script ≡ true)
        × (find (λ slot. not (errors_allowed_in list script z (Some start) slot)) (below script.slots) ≡ None)
    parts =
        both-hold (drifts_hold list script) _ (subst (λ found. faced_clocks_broken list script z found ≡ None)
        (sole-start list script start rules.started) rules.clocks)

    pub clocks : HasFacedClocks list script start z
    clocks = record {
      drifts = λ k node.
          each-below (λ k. is_within_bound list.drift (drift_of script k)) (length list.slots) k parts.0 node;
      errors = λ k slot node within.
          each-below (λ k. is_within_bound (allowed_error list z (Some start) slot) (reading_error script k slot))
          (length list.slots) k
          (not-false _ (none-found (λ slot. not (errors_allowed_in list script z (Some start) slot)) 0 script.slots slot
          parts.1 (omega arith) (omega arith))) node;
      window = le_of_test (bound list +ℤ list.error) list.window
          (wide (int_le (bound list +ℤ list.error) list.window) rules.window);
    }
