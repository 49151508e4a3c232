-- A script with one event more, which comes later: who is faulty after the slots before it.
use Rattle.std.proofs.Common.{◌≡◌, ℕ, zero, suc, ◌-◌, ◌<◌, ◌≤◌, Bool, true, false}
use Rattle.std.proofs.Common.{cond, not, ◌&&◌, ◌||◌, List, [], ◌∷◌, ◌++◌}
use Rattle.std.proofs.Common.{map, Option, Some, None, refl, ap, sym, ◌∙◌, arith}
use Rattle.std.specs.Prelude.{◌==◌, nat_lt, filter, is_some, if◌then◌else◌}
use Rattle.std.specs.List.{list_any, filter_map}
use Rattle.std.proofs.lemmas.Bool.{ne_eqb}
use Rattle.std.proofs.lemmas.List.{append-nil}
use Rattle.std.proofs.lemmas.List.Elements.{filter_map-append}
use Rattle.std.proofs.lemmas.List.Folds.{list_any-append}
use Rattle.std.proofs.Math.Bool.{and-false, or-false}
use Rattle.ttp_base.specs.NodeSet.{has_node}
use Rattle.ttp_world.specs.declared.medl.Medl.{Medl}
use Rattle.ttp_world.specs.declared.script.Channel.{Channel}
use Rattle.ttp_world.specs.declared.script.Channel.TheVariants as channel
use Rattle.ttp_world.specs.declared.script.Event.{Event}
use Rattle.ttp_world.specs.declared.script.Event.TheVariants as event
use Rattle.ttp_world.specs.declared.script.Script.{Script}
use Rattle.ttp_world.specs.Events.{jump_in, sum_ℤ}
use Rattle.ttp_world.specs.Hypothesis.{nodes_of, ClusterStart, FaultyNode, numbers_of}
use Rattle.ttp_world.specs.Hypothesis.{is_covered, loses, others_in, loss_among}
use Rattle.ttp_world.specs.Hypothesis.{Harmless, sender_loss, expected_sender, jumpers_in, loss_in, nodes_made}
use Rattle.ttp_world.specs.Hypothesis.{faulty_nodes_in, faulty_nodes_before, start_of, started_faulty_nodes}
use Rattle.ttp_world.specs.Hypothesis.{is_far_jump, is_jump_before, is_allowed_jump, least_of}
use Rattle.ttp_world.specs.Returning.{FaultySlot, faulty_since, faulty_then, four_rounds}
use Rattle.ttp_world.specs.Returning.{stayed_in, slots_before, faulty_at}
use Rattle.ttp_world.specs.Returning.{started_since, is_arm, has_arm, disturbed_slot, disturbance_broken}
use Rattle.ttp_world.specs.Script.{is_on, is_ever_on, incidents_of, has_jump}
use Rattle.controller.specs.Agreement.{AgreeBelow, begins_at}
use Rattle.run_costs.proofs.FromBelow.{agree-more}
use Rattle.hypothesis.specs.Walks.{joined_in}
use Rattle.campaign.specs.Cost.{faulty_if, faulty_by_test}
use Rattle.campaign.specs.Tried.{with_fault}

no_jump-earlier : (k slot : ℕ) (e : Event) → slot < begins_at e → is_some (jump_in k slot e) ≡ false
no_jump-earlier k slot (event.Jump node value at) less =
    let other : (at == slot) ≡ false = ne_eqb at slot (λ same. absurd (omega (arith, less, same))) in
    ap (λ (b : Bool). is_some (cond b (Some value) None))
    (ap (λ (b : Bool). (node == k) && b) other ∙ and-false (node == k))
no_jump-earlier k slot _ less = refl

module _ (list : Medl) (script : Script) (more : Event) where
  abbrev pub longer : Script
  longer = with_fault script more

  -- Where the event says nothing, the script says what it did.

  any-longer : (p : Event → Bool) → p more ≡ false → list_any p script.events ≡ list_any p longer.events
  any-longer p none =
      sym (list_any-append p script.events (more ∷ [])
      ∙ ap (λ (b : Bool). list_any p script.events || (b || false)) none ∙ or-false (list_any p script.events))

  all-longer : {Y : Type 0} (f : Event → Option Y) → f more ≡ None
      → filter_map f script.events ≡ filter_map f longer.events
  all-longer f none =
      sym (filter_map-append f script.events (more ∷ [])
      ∙ ap (λ (o : Option _). filter_map f script.events ++ filter_map (λ (e : Event). o) (more ∷ [])) none
      ∙ append-nil (filter_map f script.events))

  agree : AgreeBelow script longer (begins_at more)
  agree = agree-more script more (begins_at more) (omega arith)

  happens : (k slot : ℕ) → slot < begins_at more → incidents_of script k slot ≡ incidents_of longer k slot
  happens k slot less = (agree.said k slot less).incidents

  has_jump-longer : (k slot : ℕ) → slot < begins_at more → has_jump script k slot ≡ has_jump longer k slot
  has_jump-longer k slot less =
      any-longer (λ (e : Event). is_some (jump_in k slot e)) (no_jump-earlier k slot more less)

  -- What a slot before it makes of the faulty nodes.

  covered-longer : (sender r slot : ℕ) → slot < begins_at more → (c : Channel)
      → is_covered script sender r slot c ≡ is_covered longer sender r slot c
  covered-longer sender r slot less channel.A =
      let sends = happens sender slot less in
      let hears = happens r slot less in
      λ i. ((sends i).send_silence.a || (sends i).send_noise.a)
      || ((hears i).receive_silence.a || (hears i).receive_noise.a)
  covered-longer sender r slot less channel.B =
      let sends = happens sender slot less in
      let hears = happens r slot less in
      λ i. ((sends i).send_silence.b || (sends i).send_noise.b)
      || ((hears i).receive_silence.b || (hears i).receive_noise.b)

  loses-longer : (sender slot : ℕ) → slot < begins_at more → (r : ℕ)
      → loses script sender slot r ≡ loses longer sender slot r
  loses-longer sender slot less r =
      let on_a = covered-longer sender r slot less channel.A in
      let on_b = covered-longer sender r slot less channel.B in
      λ i. on_a i && on_b i

  jumpers-longer : (faulty : List ℕ) (slot : ℕ) → slot < begins_at more
      → jumpers_in list script faulty slot ≡ jumpers_in list longer faulty slot
  jumpers-longer faulty slot less = λ i.
      filter (λ k. is_on script k slot && (not (has_node faulty k) && has_jump-longer k slot less i)) (nodes_of list)

  sender-longer : (faulty : List ℕ) (slot : ℕ) → slot < begins_at more → (sender : ℕ)
      → sender_loss list script faulty slot sender ≡ sender_loss list longer faulty slot sender
  sender-longer faulty slot less sender =
      let others = others_in list script faulty sender slot in λ i.
      if not (is_ever_on script sender) || has_node faulty sender then Harmless
      else loss_among sender others (filter (λ r. loses-longer sender slot less r i) others)

  loss-longer : (start : ClusterStart) (faulty : List ℕ) (slot : ℕ) → slot < begins_at more
      → loss_in list script start faulty slot ≡ loss_in list longer start faulty slot
  loss-longer start faulty slot less = λ i.
      if nat_lt slot start.slot then Harmless
      else sender-longer (jumpers-longer faulty slot less i ++ faulty) slot less (expected_sender list start slot) i

  nodes-longer : (start : ClusterStart) (slot : ℕ) → slot < begins_at more → (before : List FaultyNode)
      → faulty_nodes_in list script start slot before ≡ faulty_nodes_in list longer start slot before
  nodes-longer start slot less before = λ i.
      map (λ (k : ℕ). record { slot = slot; node = k })
      (nodes_made (loss-longer start (numbers_of before) slot less i) ++ jumpers-longer (numbers_of before) slot less i)

  -- By the single-fault hypothesis.

  pub kept-longer : (start : ClusterStart) (n : ℕ) → n ≤ begins_at more
      → faulty_nodes_before list script start n ≡ faulty_nodes_before list longer start n
  kept-longer start zero few = refl
  kept-longer start (suc slot) few =
      let less : slot < begins_at more = omega (arith, few) in
      let before = kept-longer start slot (omega (arith, few)) in
      λ i. nodes-longer start slot less (before i) i ++ before i

  -- By the test on armed nodes.

  stayed-longer : (slot : ℕ) → slot < begins_at more → (before : List FaultySlot)
      → stayed_in list script before slot ≡ stayed_in list longer before slot
  stayed-longer slot less before =
      let earlier : slot - four_rounds list < begins_at more = omega (arith, less) in λ i.
      filter (λ (f : FaultyNode). not (has_node (faulty_then list before) f.node
      && (happens f.node (slot - four_rounds list) earlier i).armed)) (faulty_since before)

  pub slots-longer : (start : ClusterStart) (n : ℕ) → n ≤ begins_at more
      → slots_before list script start n ≡ slots_before list longer start n
  slots-longer start zero few = refl
  slots-longer start (suc slot) few =
      let less : slot < begins_at more = omega (arith, few) in
      let before = slots-longer start slot (omega (arith, few)) in λ i.
      let stayed = stayed-longer slot less (before i) i in
      record { stayed = stayed; joined = nodes-longer start slot less stayed i } ∷ before i

  pub at-longer : (start : ClusterStart) (slot : ℕ) → slot < begins_at more
      → faulty_at list script start slot ≡ faulty_at list longer start slot
  at-longer start slot less =
      let before = slots-longer start slot (omega (arith, less)) in λ i. stayed-longer slot less (before i) i

  pub joined-longer : (start : ClusterStart) (slot : ℕ) → slot < begins_at more
      → joined_in list script start slot ≡ joined_in list longer start slot
  joined-longer start slot less =
      let before = at-longer start slot less in λ i.
      nodes_made (loss-longer start (numbers_of (before i)) slot less i)
      ++ jumpers-longer (numbers_of (before i)) slot less i

  -- By whichever the script is put to.

  pub has_arm-longer : is_arm more ≡ false → has_arm script ≡ has_arm longer
  has_arm-longer plain = any-longer is_arm plain

  kept_since-longer : (slot : ℕ) → slot < begins_at more → (start : Option ClusterStart)
      → started_faulty_nodes list script slot start ≡ started_faulty_nodes list longer slot start
  kept_since-longer slot less None = refl
  kept_since-longer slot less (Some start) = kept-longer start (suc slot) (omega (arith, less))

  back_since-longer : (slot : ℕ) → slot < begins_at more → (start : Option ClusterStart)
      → started_since list script slot start ≡ started_since list longer slot start
  back_since-longer slot less None = refl
  back_since-longer slot less (Some start) = ap faulty_since (slots-longer start (suc slot) (omega (arith, less)))

  faulty_if-longer : (slot : ℕ) → slot < begins_at more → (b : Bool)
      → faulty_if list script slot b ≡ faulty_if list longer slot b
  faulty_if-longer slot less true = ap numbers_of (back_since-longer slot less (start_of list script))
  faulty_if-longer slot less false = ap numbers_of (kept_since-longer slot less (start_of list script))

  pub faulty_by_test-longer : is_arm more ≡ false → (slot : ℕ) → slot < begins_at more
      → faulty_by_test list script slot ≡ faulty_by_test list longer slot
  faulty_by_test-longer plain slot less =
      faulty_if-longer slot less (has_arm script) ∙ ap (faulty_if list longer slot) (has_arm-longer plain)

  -- A loss changes nothing of which jumps there are.
  module _ (still : (k slot : ℕ) → jump_in k slot more ≡ None)
      (calm : (k slot : ℕ) → is_jump_before k slot more ≡ false)
      (allowed : disturbed_slot list longer more ≡ None) where
    allowed-longer : (k slot : ℕ) → is_allowed_jump list script k slot ≡ is_allowed_jump list longer k slot
    allowed-longer k slot =
        let jumps = all-longer (jump_in k slot) (still k slot) in
        let before = any-longer (is_jump_before k slot) (calm k slot) in
        λ i. is_far_jump list (sum_ℤ (jumps i)) && not (before i)

    disturbed-longer : (e : Event) → disturbed_slot list script e ≡ disturbed_slot list longer e
    disturbed-longer (event.Jump node value slot) = λ i. if allowed-longer node slot i then None else Some slot
    disturbed-longer _ = refl

    pub disturbance-longer : disturbance_broken list script ≡ disturbance_broken list longer
    disturbance-longer =
        (λ i. least_of (filter_map (λ e. disturbed-longer e i) script.events))
        ∙ ap least_of (all-longer (disturbed_slot list longer) allowed)
