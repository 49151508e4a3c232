-- The nodes that the faults of a generated script make faulty, one after another.
use Rattle.script_gen.proofs.Words.{◌≡◌, ℕ, zero, suc, ◌+◌, ◌-◌, ◌*◌, ◌%◌, ◌<◌, ◌≤◌, Bool, true, false, cond, not, ◌&&◌}
use Rattle.script_gen.proofs.Words.{◌||◌, List, [], ◌∷◌, ◌++◌, length, map, refl, ap, sym, ◌≢◌, ◌∙◌, inl, inr, mod-lt}
use Rattle.script_gen.proofs.Words.{arith, ◌==◌, is_some, nat_lt, filter, and_right, cases_eq, cases_lt, eq-eqb, le-ltb}
use Rattle.script_gen.proofs.Words.{ne_eqb, false≢true, below, has_node, same_sieve, Medl, Script, FaultyNode, nodes_of}
use Rattle.script_gen.proofs.Words.{numbers_of, loses, faulty_nodes_before, breaks_in, IsValid, is_ever_on, is_on}
use Rattle.script_gen.proofs.Words.{starter_of, start_slot_of, most_faults, fault_slot_of}
use Rattle.std.proofs.Math.Nat.{add-mul-mod_self_right}
use Rattle.std.proofs.lemmas.Bool.{and_from, cases_Bool}
use Rattle.std.proofs.lemmas.Bool.{or_from}
use Rattle.ttp_base.proofs.NodeSets.{filter-filter}
use Rattle.ttp_world.specs.Hypothesis.{Loss, Harmless, Makes, Breaks}
use Rattle.ttp_world.specs.Hypothesis.{expected_sender, is_other, others_in, loss_among, receivers_loss}
use Rattle.ttp_world.specs.Hypothesis.{sender_loss, jumps_now, jumpers_in, loss_in, nodes_made, faulty_nodes_in}
use Rattle.ttp_world.specs.Hypothesis.{is_breaking}
use Rattle.script_gen.proofs.Counts.{without-some, length-all}
use Rattle.script_gen.proofs.FaultEvents.{faults-apart, no-jumps, none-loses, who-loses}
use Rattle.script_gen.proofs.Parts.{IsGenerated, sender_at, receiver_at, is_even}
use Rattle.script_gen.proofs.Ranges.{filter-only}
use Rattle.script_gen.proofs.Starter.{start_at, on-is, on-always}
use Rattle.script_gen.proofs.Turns.{turns-differ}
use Rattle.ttp_world.proofs.MemberSets.{eqb_comm as turned}

-- whom a fault strikes
abbrev pub struck_at : Medl → ℕ → ℕ → ℕ
struck_at list number j = cond (is_even list number j) (sender_at list j) (receiver_at list j)

-- those that the first faults strike, so many, the newest first
abbrev pub struck : Medl → ℕ → ℕ → List FaultyNode
struck list number zero = []
struck list number (suc j) =
    record { slot = fault_slot_of list j; node = struck_at list number j } ∷ struck list number j

-- the node so many after the starter
abbrev turn : Medl → ℕ → ℕ
turn list x = (starter_of list + x) % length list.slots

struck-turn : (list : Medl) (number j : ℕ)
    → (x : ℕ) × ((2 * j ≤ x) × (x < 2 * suc j) × (struck_at list number j ≡ turn list x))
struck-turn list number j = elim (cases_Bool (is_even list number j)) [
  | inl even ↦
      (2 * j, (omega arith, omega arith, ap (λ b. cond b (sender_at list j) (receiver_at list j)) even))
  | inr odd ↦
      let more : starter_of list + 2 * j + 1 ≡ starter_of list + (2 * j + 1) = omega arith in (
        2 * j + 1,
        (
          omega arith,
          omega arith,
          ap (λ b. cond b (sender_at list j) (receiver_at list j)) odd ∙ ap (λ t. t % length list.slots) more,
        ),
      )
]

-- a later node is none of them
not-yet : (list : Medl) (number c x : ℕ) → 2 * c ≤ x → x < length list.slots
    → has_node (numbers_of (struck list number c)) (turn list x) ≡ false
not-yet list number zero x later less = refl
not-yet list number (suc c) x later less =
    let newest = struck-turn list number c in
    let apart : (struck_at list number c == turn list x) ≡ false =
    ne_eqb (struck_at list number c) (turn list x)
    (λ same. turns-differ (length list.slots) (starter_of list + newest.0) (starter_of list + x)
    (omega (arith, newest.1.1)) (omega arith) (sym newest.1.2 ∙ same)) in
    or_from (struck_at list number c == turn list x) (has_node (numbers_of (struck list number c)) (turn list x)) apart
    (not-yet list number c x (omega arith) less)

pub length-struck : (list : Medl) (number c : ℕ) → length (numbers_of (struck list number c)) ≡ c
length-struck list number zero = refl
length-struck list number (suc c) = ap suc (length-struck list number c)

-- Whose slot it is.

expected-at : (list : Medl) (j : ℕ) → expected_sender list (start_at list) (fault_slot_of list j) ≡ sender_at list j
expected-at list j =
    let n = length list.slots in
    let since : starter_of list + (fault_slot_of list j - start_slot_of list)
    ≡ (starter_of list + 2 * j) + (2 + 2 * j) * n = omega arith in
    ap (λ t. t % n) since ∙ add-mul-mod_self_right (starter_of list + 2 * j) (2 + 2 * j) n

-- The others in a slot.

same-test : (on among sender : Bool) → on ≡ true → (on && (not among && not sender)) ≡ (true && not (sender || among))
same-test true among true on = and-not-true among
  where
    and-not-true : (b : Bool) → (not b && false) ≡ false
    and-not-true true = refl
    and-not-true false = refl
same-test true among false on = and-not-false among
  where
    and-not-false : (b : Bool) → (not b && true) ≡ not b
    and-not-false true = refl
    and-not-false false = refl
same-test false among sender on = absurd (false≢true on)

two-others : (list : Medl) (number : ℕ) (script : Script) (sender slot c : ℕ) → IsValid list
    → IsGenerated list number script → c < most_faults list
    → 2 ≤ length (others_in list script (numbers_of (struck list number c)) sender slot)
two-others list number script sender slot c valid is few =
    let n = length list.slots in
    let faulty = numbers_of (struck list number c) in
    let same =
    same_sieve (is_other script faulty sender slot) (λ k. true && not (has_node (sender ∷ faulty) k)) n
    (λ k less. ap (λ b. is_on script k slot && (not (has_node faulty k) && not b)) (turned k sender)
    ∙ same-test (is_on script k slot) (has_node faulty k) (sender == k)
    (on-always list number script k slot is less)) in
    omega (
      arith,
      ap length same,
      without-some (λ k. true) (sender ∷ faulty) n,
      length-all n,
      length-struck list number c,
      valid.count,
    )

-- Losses.

all-lose : (sender : ℕ) (others : List ℕ) → 2 ≤ length others → loss_among sender others others ≡ Makes sender
all-lose sender [] some = absurd (omega arith)
all-lose sender (r ∷ []) some = absurd (omega arith)
all-lose sender (r ∷ q ∷ others) some =
    ap (λ b. cond b (Makes sender) Breaks) (eq-eqb (length (r ∷ q ∷ others)) (length (r ∷ q ∷ others)) refl)

one-loses : (sender r : ℕ) (others : List ℕ) → 2 ≤ length others → loss_among sender others (r ∷ []) ≡ Makes r
one-loses sender r others some =
    ap (λ b. cond b (Makes sender) (Makes r)) (ne_eqb (length others) 1 (λ one. omega arith))

filter-all : (p : ℕ → Bool) (ks : List ℕ) → ((k : ℕ) → p k ≡ true) → filter p ks ≡ ks
filter-all p [] passes = refl
filter-all p (k ∷ ks) passes = let here : p k ≡ true = passes k in rw here (ap (λ js. k ∷ js) (filter-all p ks passes))

filter-no : (p : ℕ → Bool) (ks : List ℕ) → ((k : ℕ) → p k ≡ false) → filter p ks ≡ []
filter-no p [] fails = refl
filter-no p (k ∷ ks) fails = let here : p k ≡ false = fails k in rw here (filter-no p ks fails)

no_jumpers : (list : Medl) (number : ℕ) (script : Script) (faulty : List ℕ) (slot : ℕ) → IsGenerated list number script
    → jumpers_in list script faulty slot ≡ []
no_jumpers list number script faulty slot is =
    filter-no (jumps_now script faulty slot) (nodes_of list)
    (λ k. and_right (is_on script k slot) _
    (and_right (not (has_node faulty k)) _ (no-jumps list number script k slot is)))

loss-without_jumps : (list : Medl) (number : ℕ) (script : Script) (faulty : List ℕ) (slot : ℕ)
    → IsGenerated list number script
    → loss_in list script (start_at list) faulty slot
    ≡ cond (nat_lt slot (start_slot_of list)) Harmless
    (sender_loss list script faulty slot (expected_sender list (start_at list) slot))
loss-without_jumps list number script faulty slot is =
    ap (λ jumpers. cond (nat_lt slot (start_slot_of list)) Harmless
    (sender_loss list script (jumpers ++ faulty) slot (expected_sender list (start_at list) slot)))
    (no_jumpers list number script faulty slot is)

harmless : (b : Bool) (loss : Loss) → loss ≡ Harmless → cond b Harmless loss ≡ Harmless
harmless true loss is = refl
harmless false loss is = is

-- in a slot of no fault nothing happens
quiet-slot : (list : Medl) (number : ℕ) (script : Script) (faulty : List ℕ) (slot : ℕ) → IsGenerated list number script
    → ((j : ℕ) → j < most_faults list → fault_slot_of list j ≡ slot → ⊥)
    → loss_in list script (start_at list) faulty slot ≡ Harmless
quiet-slot list number script faulty slot is quiet =
    let sender = expected_sender list (start_at list) slot in
    let others = others_in list script faulty sender slot in
    let lost : filter (loses script sender slot) others ≡ [] =
    filter-no (loses script sender slot) others
    (λ r. none-loses list number script sender slot r is quiet) in
    loss-without_jumps list number script faulty slot is
    ∙ harmless (nat_lt slot (start_slot_of list)) _
    (harmless (not (is_ever_on script sender) || has_node faulty sender) _
    (ap (loss_among sender others) lost))

-- in that of a fault its node becomes faulty
asked : (ever among : Bool) (loss : Loss) → ever ≡ true → among ≡ false → cond (not ever || among) Harmless loss ≡ loss
asked ever among loss on sound = λ i. cond (not (on i) || sound i) Harmless loss

passes : (on among same : Bool) → on ≡ true → among ≡ false → same ≡ false → (on && (not among && not same)) ≡ true
passes on among same is sound other = λ i. is i && (not (sound i) && not (other i))

receiver-lost : (list : Medl) (number : ℕ) (script : Script) (faulty : List ℕ) (j : ℕ) → IsGenerated list number script
    → j < most_faults list → fault_slot_of list j < script.slots → is_even list number j ≡ false
    → receiver_at list j < length list.slots
    → has_node faulty (receiver_at list j) ≡ false → (receiver_at list j ≡ sender_at list j → ⊥)
    → filter (loses script (sender_at list j) (fault_slot_of list j))
    (others_in list script faulty (sender_at list j) (fault_slot_of list j))
    ≡ receiver_at list j ∷ []
receiver-lost list number script faulty j is less within odd node sound other =
    let n = length list.slots in
    let sender = sender_at list j in
    let receiver = receiver_at list j in
    let slot = fault_slot_of list j in
    let who = λ (r : ℕ).
    who-loses list number script j r is less within ∙ ap (λ b. b || (receiver_at list j == r)) odd in
    let both = λ (r : ℕ). is_other script faulty sender slot r && loses script sender slot r in
    filter-filter (is_other script faulty sender slot) (loses script sender slot) (below n)
    ∙ filter-only both n receiver
    (and_from (is_other script faulty sender slot receiver) (loses script sender slot receiver)
    (passes (is_on script receiver slot) (has_node faulty receiver) (receiver == sender)
    (on-always list number script receiver slot is node) sound (ne_eqb receiver sender other))
    (who receiver ∙ eq-eqb receiver receiver refl))
    (λ r small apart. and_right (is_other script faulty sender slot r) _
    (who r ∙ ne_eqb receiver r (λ same. apart (sym same)))) node

strike : (list : Medl) (number : ℕ) (script : Script) (j : ℕ) → IsValid list → IsGenerated list number script
    → j < most_faults list → fault_slot_of list j < script.slots
    → loss_in list script (start_at list) (numbers_of (struck list number j)) (fault_slot_of list j)
    ≡ Makes (struck_at list number j)
strike list number script j valid is less within =
    let n = length list.slots in
    let slot = fault_slot_of list j in
    let sender = sender_at list j in
    let receiver = receiver_at list j in
    let faulty = numbers_of (struck list number j) in
    let others = others_in list script faulty sender slot in
    let half : 2 * suc j ≤ n = omega arith in
    let node : sender < n = mod-lt (starter_of list + 2 * j) (omega (arith, valid.count)) in
    let receiver_node : receiver < n = mod-lt (starter_of list + 2 * j + 1) (omega (arith, valid.count)) in
    let two = two-others list number script sender slot j valid is less in
    let sound = not-yet list number j (2 * j) (omega arith) (omega arith) in
    let next : starter_of list + 2 * j + 1 ≡ starter_of list + (2 * j + 1) = omega arith in
    let receiver_sound : has_node faulty receiver ≡ false =
    ap (λ t. has_node faulty (t % n)) next ∙ not-yet list number j (2 * j + 1) (omega arith) (omega arith) in
    let apart = λ (same : receiver ≡ sender).
    turns-differ n (starter_of list + 2 * j) (starter_of list + 2 * j + 1) (omega arith) (omega (arith, valid.count))
    (sym same) in
    let ever : is_ever_on script sender ≡ true = ap is_some (on-is list number script sender is node) in
    let since : nat_lt slot (start_slot_of list) ≡ false = le-ltb slot (start_slot_of list) (omega arith) in
    let lost : receivers_loss script sender slot others ≡ Makes (struck_at list number j) =
    elim (cases_Bool (is_even list number j)) [
      | inl even ↦
          ap (loss_among sender others)
          (filter-all (loses script sender slot) others
          (λ r. who-loses list number script j r is less within ∙ ap (λ b. b || (receiver_at list j == r)) even))
          ∙ all-lose sender others two
          ∙ ap Makes (sym (ap (λ b. cond b (sender_at list j) (receiver_at list j)) even))
      | inr odd ↦
          ap (loss_among sender others)
          (receiver-lost list number script faulty j is less within odd receiver_node receiver_sound apart)
          ∙ one-loses sender receiver others two
          ∙ ap Makes (sym (ap (λ b. cond b (sender_at list j) (receiver_at list j)) odd))
    ] in
    loss-without_jumps list number script faulty slot is
    ∙ ap (λ b. cond b Harmless (sender_loss list script faulty slot (expected_sender list (start_at list) slot))) since
    ∙ ap (sender_loss list script faulty slot) (expected-at list j)
    ∙ asked (is_ever_on script sender) (has_node faulty sender) (receivers_loss script sender slot others) ever sound
    ∙ lost

-- Slot by slot.

-- the first faults, so many, came before a slot, and no other
pub record AreBefore (list : Medl) (slot c : ℕ) : Type 0 where
  pub few : c ≤ most_faults list
  pub done : (j : ℕ) → j < c → fault_slot_of list j < slot
  pub left : (j : ℕ) → c ≤ j → j < most_faults list → slot ≤ fault_slot_of list j

pub record IsReached (list : Medl) (number : ℕ) (script : Script) (slot : ℕ) : Type 0 where
  pub count : ℕ
  pub before : AreBefore list slot count
  pub faulty : faulty_nodes_before list script (start_at list) slot ≡ struck list number count

-- the faults that come before a slot are of the run
abbrev pub AreShown : Medl → Script → ℕ → Type 0
AreShown list script slot = (j : ℕ) → fault_slot_of list j < slot → fault_slot_of list j < script.slots

-- nodes that a slot adds
abbrev added : ℕ → List ℕ → List FaultyNode
added slot ks = map (λ k. record { slot = slot; node = k }) ks

next-faulty : (list : Medl) (number : ℕ) (script : Script) (slot : ℕ) (faulty : List FaultyNode) (loss : Loss)
    → IsGenerated list number script → faulty_nodes_before list script (start_at list) slot ≡ faulty
    → loss_in list script (start_at list) (numbers_of faulty) slot ≡ loss
    → faulty_nodes_before list script (start_at list) (suc slot) ≡ added slot (nodes_made loss ++ []) ++ faulty
next-faulty list number script slot faulty loss is before told =
    ap (λ fs. faulty_nodes_in list script (start_at list) slot fs ++ fs) before
    ∙ (λ i. added slot (nodes_made (told i) ++ no_jumpers list number script (numbers_of faulty) slot is i) ++ faulty)

later-than : (list : Medl) (i j slot : ℕ) → i < j → slot ≤ fault_slot_of list i → slot < fault_slot_of list j
later-than list i j slot less from = omega (arith, faults-apart list i j less)

none-at : (list : Medl) (slot c : ℕ) → AreBefore list slot c
    → (c < most_faults list → fault_slot_of list c ≡ slot → ⊥)
    → (j : ℕ) → j < most_faults list → fault_slot_of list j ≡ slot → ⊥
none-at list slot c before other j less is = elim (cases_lt j c) [
  | inl past ↦ let done = before.done j past in omega (arith, done)
  | inr from ↦ elim (cases_eq c j) [
    | inl same ↦ other (omega arith) (ap (fault_slot_of list) same ∙ is)
    | inr apart ↦
        let left = before.left c (omega arith) (omega arith) in
        let later = later-than list c j slot (omega arith) left in
        omega arith
  ]
]

-- what a slot does: it strikes the next node, or none
data Happens (list : Medl) (slot c : ℕ) : Type 0 where
  strikes : (less : c < most_faults list) (at : fault_slot_of list c ≡ slot) → Happens list slot c
  quiet : (none : (j : ℕ) → j < most_faults list → fault_slot_of list j ≡ slot → ⊥) → Happens list slot c

happens : (list : Medl) (slot c : ℕ) → AreBefore list slot c → Happens list slot c
happens list slot c before = elim (cases_lt c (most_faults list)) [
  | inl less ↦ elim (cases_eq (fault_slot_of list c) slot) [
    | inl same ↦ strikes less same
    | inr other ↦ quiet (none-at list slot c before (λ small is. other is))
  ]
  | inr all ↦ quiet (none-at list slot c before (λ small is. absurd (omega arith)))
]

struck-before : (list : Medl) (slot c : ℕ) → AreBefore list slot c → c < most_faults list → fault_slot_of list c ≡ slot
    → AreBefore list (suc slot) (suc c)
struck-before list slot c before less at = record {
  few = omega arith;
  done = λ j small. elim (cases_lt j c) [
    | inl past ↦ let done = before.done j past in omega arith
    | inr from ↦ let same : fault_slot_of list j ≡ fault_slot_of list c =
        ap (fault_slot_of list) (omega arith) in omega arith
  ];
  left = λ j from small. let apart = faults-apart list c j (omega arith) in omega arith;
}

quiet-before : (list : Medl) (slot c : ℕ) → AreBefore list slot c
    → ((j : ℕ) → j < most_faults list → fault_slot_of list j ≡ slot → ⊥)
    → AreBefore list (suc slot) c
quiet-before list slot c before none = record {
  few = before.few;
  done = λ j small. let done = before.done j small in omega arith;
  left = λ j from small.
      let left = before.left j from small in
      let other : fault_slot_of list j ≢ slot = none j small in
      omega arith;
}

-- the loss of a slot, by what it does
loss-of : (list : Medl) (number : ℕ) (script : Script) (slot c : ℕ) → IsValid list → IsGenerated list number script
    → AreShown list script (suc slot) → AreBefore list slot c
    → (is_breaking (loss_in list script (start_at list) (numbers_of (struck list number c)) slot) ≡ false)
    × ((faulty_nodes_before list script (start_at list) slot ≡ struck list number c)
    → IsReached list number script (suc slot))
loss-of list number script slot c valid is shown before = by (happens list slot c before)
  where
    loss : Loss
    loss = loss_in list script (start_at list) (numbers_of (struck list number c)) slot

    by : Happens list slot c
        → (is_breaking loss ≡ false)
        × ((faulty_nodes_before list script (start_at list) slot ≡ struck list number c)
        → IsReached list number script (suc slot))
    by (strikes less at) =
        let told : loss ≡ Makes (struck_at list number c) =
        ap (loss_in list script (start_at list) (numbers_of (struck list number c))) (sym at)
        ∙ strike list number script c valid is less (shown c (omega arith)) in (
          ap is_breaking told,
          λ known. record {
            count = suc c;
            before = struck-before list slot c before less at;
            faulty = next-faulty list number script slot (struck list number c) (Makes (struck_at list number c)) is
                known told
                ∙ ap (λ t. record { slot = t; node = struck_at list number c } ∷ struck list number c) (sym at);
          },
        )
    by (quiet none) =
        let told : loss ≡ Harmless =
        quiet-slot list number script (numbers_of (struck list number c)) slot is none in (
          ap is_breaking told,
          λ known. record {
            count = c;
            before = quiet-before list slot c before none;
            faulty = next-faulty list number script slot (struck list number c) Harmless is known told;
          },
        )

pub reached : (list : Medl) (number : ℕ) (script : Script) (slot : ℕ) → IsValid list → IsGenerated list number script
    → AreShown list script slot
    → IsReached list number script slot
reached list number script zero valid is shown = record {
  count = 0;
  before = record { few = omega arith; done = λ j less. absurd (omega arith); left = λ j from less. omega arith };
  faulty = refl;
}
reached list number script (suc slot) valid is shown =
    let before = reached list number script slot valid is (λ j less. shown j (omega arith)) in
    (loss-of list number script slot before.count valid is shown before.before).1 before.faulty

pub never-breaks : (list : Medl) (number : ℕ) (script : Script) (slot : ℕ) → IsValid list
    → IsGenerated list number script → slot < script.slots
    → breaks_in list script (start_at list) slot ≡ false
never-breaks list number script slot valid is within =
    let before = reached list number script slot valid is (λ j less. omega arith) in
    ap (λ fs. is_breaking (loss_in list script (start_at list) (numbers_of fs) slot)) before.faulty
    ∙ (loss-of list number script slot before.count valid is (λ j less. omega arith) before.before).0
