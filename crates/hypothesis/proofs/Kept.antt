-- What is kept of what happens to the nodes.
use Rattle.hypothesis.proofs.Words.{◌≡◌, ℕ, ◌+◌, ◌<◌, ◌≤◌, max, pos, Bool, true, false, not, ◌&&◌, ◌||◌, List, [], ◌∷◌}
use Rattle.hypothesis.proofs.Words.{None, refl, ap, sym, ◌∙◌, arith, is_some, cond, length, ◌++◌, ◌==◌}
use Rattle.hypothesis.proofs.Words.{nat_lt, and-false, list_any, ne_eqb, lt-ltb, below, has_node, same_sieve}
use Rattle.hypothesis.proofs.Words.{filter-filter, Medl, Event, Script, ClusterStart, FaultyNode, Harmless, numbers_of}
use Rattle.hypothesis.proofs.Words.{loss_in, jumpers_in, loses, expected_sender, is_other, others_in, is_breaking}
use Rattle.hypothesis.proofs.Words.{jumps_now, IsValid, disturbance_broken, has_jump, jump_of, jump_in, is_on}
use Rattle.hypothesis.proofs.Words.{is_ever_on, incidents_of, is_jump_within, IsOfKinds, may_lose, HaveSameNodes}
use Rattle.hypothesis.proofs.Words.{AreFaultsIn, nodes_made}
use Rattle.std.specs.Prelude.{filter}
use Rattle.std.proofs.lemmas.Bool.{or_parts}
use Rattle.ttp_base.proofs.NodeLists.{filter-none}
use Rattle.ttp_world.specs.declared.script.Event.TheVariants as event
use Rattle.ttp_world.specs.Hypothesis.{loss_among}
use Rattle.hypothesis.specs.declared.incidents.Kinds.{Kinds}
use Rattle.hypothesis.proofs.FarJumps.{far_jump-sum}

pub not_false : (b : Bool) → not b ≡ false → b ≡ true
not_false true none = refl
not_false false none = grind arith

-- Jumps.

-- where all jumps go far, those that add up to nothing are none
pub no_far_jump : (list : Medl) (script : Script) (k slot : ℕ) → IsValid list → disturbance_broken list script ≡ None
    → jump_of script k slot ≡ pos 0 → has_jump script k slot ≡ false
no_far_jump list script k slot valid inside nothing = by (has_jump script k slot) refl
  where
    by : (b : Bool) → has_jump script k slot ≡ b → b ≡ false
    by true has = absurd (far_jump-sum list script k slot valid.window.0 inside has nothing)
    by false has = refl

no_jump-one : (from until k t : ℕ) (e : Event) → is_jump_within from until e ≡ false → from ≤ t
    → t < max until (from + 1) → is_some (jump_in k t e) ≡ false
no_jump-one from until k t (event.Jump node value at) none since before =
    let other : (at == t) ≡ false = ne_eqb at t (λ same. grind (arith, none, since, before, same)) in
    grind (arith, other)
no_jump-one from until k t _ none since before = refl

no_jump-next : (from until k t : ℕ) (e : Event) (rest all : Bool) → (is_jump_within from until e || all) ≡ false
    → (all ≡ false → rest ≡ false) → from ≤ t → t < max until (from + 1) → (is_some (jump_in k t e) || rest) ≡ false
no_jump-next from until k t e rest all none later since before =
    let parts = or_parts (is_jump_within from until e) all none in
    rw (no_jump-one from until k t e parts.0 since before, later parts.1) refl

-- no event is a jump in a slot, where none is in it and those after it and before another
pub no_jump-within : (from until k t : ℕ) (events : List Event) → list_any (is_jump_within from until) events ≡ false
    → from ≤ t → t < max until (from + 1) → list_any (λ e. is_some (jump_in k t e)) events ≡ false
no_jump-within from until k t [] none since before = refl
no_jump-within from until k t (e ∷ events) none since before =
    no_jump-next from until k t e (list_any (λ e. is_some (jump_in k t e)) events)
    (list_any (is_jump_within from until) events) none
    (λ rest. no_jump-within from until k t events rest since before) since before

-- Slots that make nobody faulty.

pub no-sieve : (p : ℕ → Bool) (n : ℕ) → ((k : ℕ) → k < n → p k ≡ false) → filter p (below n) ≡ []
no-sieve p n each = same_sieve p (λ _. false) n each ∙ filter-none (λ _. false) 0 n (λ j from. refl)

-- where no clock jumps, no node becomes faulty since it does
pub no-jumpers : (list : Medl) (script : Script) (faulty : List ℕ) (slot : ℕ)
    → ((k : ℕ) → k < length list.slots → has_jump script k slot ≡ false) → jumpers_in list script faulty slot ≡ []
no-jumpers list script faulty slot none =
    no-sieve (jumps_now script faulty slot) (length list.slots)
    (λ k less. rw (none k less, and-false (not (has_node faulty k))) (and-false (is_on script k slot)))

-- where no frame of a sender may be lost, none is
neither : (sends struck misses : Bool) → (struck ≡ false → misses ≡ false) → (sends || struck) ≡ false
    → (sends || misses) ≡ false
neither sends struck misses less none =
    let parts = or_parts sends struck none in rw (parts.0, less parts.1) refl

not_both : (a b x y : Bool) → (a ≡ false → x ≡ false) → (b ≡ false → y ≡ false) → (a && b) ≡ false → (x && y) ≡ false
not_both true b x y on_a on_b none = rw (on_b none) (and-false x)
not_both false b x y on_a on_b none = rw (on_a refl) refl

pub loses-none : (script : Script) (sender slot k : ℕ) (kinds : Kinds) → IsOfKinds kinds (incidents_of script k slot)
    → may_lose (incidents_of script sender slot) kinds.unheard ≡ false → loses script sender slot k ≡ false
loses-none script sender slot k kinds are none =
    let sends = incidents_of script sender slot in
    let hears = incidents_of script k slot in
    let sends_a : Bool = sends.send_silence.a || sends.send_noise.a in
    let sends_b : Bool = sends.send_silence.b || sends.send_noise.b in
    let hears_a : Bool = hears.receive_silence.a || hears.receive_noise.a in
    let hears_b : Bool = hears.receive_silence.b || hears.receive_noise.b in
    not_both (sends_a || kinds.unheard.a) (sends_b || kinds.unheard.b) (sends_a || hears_a) (sends_b || hears_b)
    (neither sends_a kinds.unheard.a hears_a are.heard_a) (neither sends_b kinds.unheard.b hears_b are.heard_b) none

either-way : {X : Type 0} (b : Bool) (x : X) → cond b x x ≡ x
either-way true x = refl
either-way false x = refl

-- before the start nothing is asked
pub loss-before : (list : Medl) (script : Script) (start : ClusterStart) (faulty : List ℕ) (slot : ℕ)
    → slot < start.slot → loss_in list script start faulty slot ≡ Harmless
loss-before list script start faulty slot less = rw (lt-ltb slot start.slot less) refl

-- where nobody loses the sender's frame, nobody is faulty for it
pub loss-none : (list : Medl) (script : Script) (start : ClusterStart) (faulty : List ℕ) (slot : ℕ)
    → ((k : ℕ) → k < length list.slots → loses script (expected_sender list start slot) slot k ≡ false)
    → loss_in list script start faulty slot ≡ Harmless
loss-none list script start faulty slot none =
    let sender = expected_sender list start slot in
    let fallen = jumpers_in list script faulty slot ++ faulty in
    let hears : ℕ → Bool = is_other script fallen sender slot in
    let lost : filter (loses script sender slot) (others_in list script fallen sender slot) ≡ [] =
    filter-filter hears (loses script sender slot) (below (length list.slots))
    ∙ no-sieve (λ k. hears k && loses script sender slot k) (length list.slots)
    (λ k less. ap (λ b. hears k && b) (none k less) ∙ and-false (hears k)) in
    let is_free : Bool = not (is_ever_on script sender) || has_node fallen sender in
    ap (λ ks. cond (nat_lt slot start.slot) Harmless
    (cond is_free Harmless (loss_among sender (others_in list script fallen sender slot) ks))) lost
    ∙ ap (λ loss. cond (nat_lt slot start.slot) Harmless loss) (either-way is_free Harmless)
    ∙ either-way (nat_lt slot start.slot) Harmless

-- a slot with neither loss nor jump leaves the faulty nodes as they are
pub calm-faults : (list : Medl) (script : Script) (start : ClusterStart) (slot : ℕ) (before : List FaultyNode)
    (faulty jumped made : List ℕ) → loss_in list script start (numbers_of before) slot ≡ Harmless
    → jumpers_in list script (numbers_of before) slot ≡ [] → HaveSameNodes faulty (numbers_of before) → jumped ≡ []
    → made ≡ [] → AreFaultsIn list script start slot before
    (record { before = faulty; jumped = jumped; made = made; faulty = faulty; count = 0; breaks = false })
calm-faults list script start slot before faulty jumped made loss jumpers same no_jump no_loss = record {
  before = same;
  jumped = no_jump ∙ sym jumpers;
  made = no_loss ∙ sym (ap nodes_made loss);
  faulty = rw (loss, jumpers) same;
  count = rw (loss, jumpers) refl;
  breaks = sym (ap is_breaking loss);
}
