-- The list of the worked slots is valid, and what its nodes are and hear in a slot, by what was worked out.
use Rattle.safety_laws.proofs.Words.{◌≡◌, ◌≢◌, ℕ, ◌<◌, List, length, refl, sym, subst, arith, IsTrue, ints, Script}
use Rattle.safety_laws.proofs.Words.{Bits, IsValid, AreNodes, expected_length, is_within_window, OnBoth, owner_of}
use Rattle.safety_laws.proofs.Words.{slot_frame, IsAboutListed, IsJudging, HearsMembers, IsAtOwnSlot, four_kinds, at}
use Rattle.ttp_world.specs.declared.node.Phase.TheVariants as phase
use Rattle.safety_laws.specs.NodeSlot.{slot_place}

pub four_nodes-valid : IsValid four_kinds
four_nodes-valid = record {
  version = (omega arith, omega arith);
  rounds = (omega arith, omega arith);
  schedule = omega arith;
  buffers = (omega arith, omega arith);
  drift = (omega (arith, ints), omega (arith, ints));
  error = (omega (arith, ints), omega (arith, ints));
  window = (omega (arith, ints), omega (arith, ints));
  modes = (omega arith, omega arith);
  count = (omega arith, omega arith);
  slots = (
    record { kinds = refl; payload = omega arith; bare = λ all. refl; requests = λ asks. cc; live = omega arith },
    (
      record { kinds = refl; payload = omega arith; bare = λ all. refl; requests = λ asks. cc; live = omega arith },
      (
        record { kinds = refl; payload = omega arith; bare = λ all. cc; requests = λ asks. cc; live = omega arith },
        (
          record { kinds = refl; payload = omega arith; bare = λ all. cc; requests = λ asks. cc; live = omega arith },
          tt,
        ),
      ),
    ),
  );
  sync = omega arith;
}

pub judging-at : (script : Script) (slot k : ℕ) (members : List ℕ) → k < 4 →
    let x = at script slot k in
    x.past.phase ≡ phase.Active → owner_of x < 4 → owner_of x ≢ k → x.past.members ≡ members
    → AreNodes four_kinds members → IsAboutListed four_kinds x.past.ack → IsJudging x
judging-at script slot k members node active owner other held nodes doubted = record {
  valid = four_nodes-valid;
  node = node;
  active = active;
  owner = owner;
  other = other;
  members = subst (AreNodes four_kinds) (sym held) nodes;
  doubted = doubted;
}

pub own-at : (script : Script) (slot k : ℕ) (members : List ℕ) → k < 4 →
    let x = at script slot k in
    x.past.phase ≡ phase.Active → owner_of x ≡ k → x.past.members ≡ members → AreNodes four_kinds members
    → IsAtOwnSlot x
own-at script slot k members node active own held nodes = record {
  valid = four_nodes-valid;
  node = node;
  active = active;
  own = own;
  members = subst (AreNodes four_kinds) (sym held) nodes;
}

pub hears-at : (script : Script) (slot k sender : ℕ) (members payload : List ℕ) →
    let x = at script slot k in
    length payload ≡ expected_length four_kinds (slot_place x) → AreNodes four_kinds members
    → x.hearing.a ≡ Bits sender (slot_frame four_kinds (slot_place x) members payload)
    → x.hearing.b ≡ Bits sender (slot_frame four_kinds (slot_place x) members payload)
    → IsTrue (is_within_window four_kinds (x.hearing.deviation sender)) → HearsMembers x sender members
hears-at script slot k sender members payload size nodes a b within = record {
  bytes = slot_frame four_kinds (slot_place (at script slot k)) members payload;
  frame = record { payload = payload; size = size; nodes = nodes; same = refl };
  comes = OnBoth a b;
  within = within;
}
