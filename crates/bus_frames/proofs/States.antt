-- The C-state with which a node has sent, after its slot.
use Rattle.std.proofs.Common.{◌≡◌, ℕ, ◌+◌, ◌*◌, ◌/◌, ◌%◌, ◌^◌, ◌<◌, Bool, true, false, List, [], ◌++◌, length, ap, sym}
use Rattle.std.proofs.Common.{◌∙◌, suc, arith}
use Rattle.std.specs.Prelude.{Option, ◌==◌, if◌then◌else◌}
use Rattle.std.proofs.lemmas.Bool.{cond_both}
use Rattle.ttp_base.specs.NodeSet.{set_bits}
use Rattle.ttp_base.proofs.NodeLists.{with_node-nil}
use Rattle.ttp_world.specs.declared.medl.Medl.{Medl}
use Rattle.ttp_world.specs.declared.node.CState.{CState}
use Rattle.ttp_world.specs.declared.node.Entry.TheVariants as entry
use Rattle.ttp_world.specs.declared.script.Script.{Script}
use Rattle.ttp_world.specs.Act.{coming_place}
use Rattle.ttp_world.specs.After.{past_after}
use Rattle.ttp_world.specs.Conduct.{cold_start_cstate, own_cstate}
use Rattle.ttp_world.specs.Diary.{History, Place, SlotSurroundings, cstate_at, diary_of}
use Rattle.ttp_world.specs.Diary.{is_active, next_place, start_place}
use Rattle.ttp_world.specs.Diary.{time_limit}
use Rattle.ttp_world.specs.Fitting.{number_in}
use Rattle.ttp_world.specs.Frame.{big_endian, cstate_bytes}
use Rattle.ttp_world.specs.Medl.{IsValid, member_bytes}
use Rattle.ttp_world.specs.Membership.{AreNodes, is_good}
use Rattle.ttp_world.specs.Past.{NodePast}
use Rattle.ttp_world.specs.World.{node_past}
use Rattle.ttp_world.proofs.Lists.{nodes-most}
use Rattle.ttp_world.proofs.MemberSets.{members_after-Sent, members_after-Started}
use Rattle.ttp_world.proofs.Pasts.{elim_both}
use Rattle.ttp_world.proofs.WorldFacts.{AreNodes-filter, AreNodes-nil}

-- what a node shows after an entry
abbrev pub state_after : NodePast → CState
state_after past = cstate_at past.place past.members

-- the members of a past are nodes of the list
pub members-nodes : (list : Medl) (script : Script) (history : History) (k : ℕ)
    → AreNodes list (node_past list script history k).members
members-nodes list script history k =
    let diary = diary_of history k in
    elim_both (is_active diary) _ [] (AreNodes list) (AreNodes-filter list (is_good k diary)) (AreNodes-nil list)

module _ (list : Medl) (k : ℕ) (past : NodePast) (s : SlotSurroundings) (valid : IsValid list)
    (node : k < length list.slots) where
  pub after-Started : state_after (past_after list k past entry.Started s) ≡ cold_start_cstate k
  after-Started =
      ap (cstate_at (start_place k))
      (sym (members_after-Started list k past.members past.ack node (nodes-most list valid))
      ∙ with_node-nil k (let most = nodes-most list valid in omega (arith, most, node)))

  pub after-Sent : (message : Option ℕ) → AreNodes list past.members
      → state_after (past_after list k past (entry.Sent message) s) ≡ own_cstate list k past
  after-Sent message are =
      ap (cstate_at (coming_place list past))
      (sym (members_after-Sent list k past.members past.ack message are node (nodes-most list valid)))

-- times are below their limit
pub next-time : (list : Medl) (place : Place) → (next_place list place).time < time_limit
next-time list place =
    cond_both (suc place.slot == length list.slots) _ _ (λ (p : Place). p.time < time_limit) (λ last. omega arith)
    (λ inside. omega arith)

-- The number of a C-state's bytes tells its place.

wide-number : (time round slot members : ℕ) → time < 65536 → round < 256 → slot < 256 → members < 16777216
    → number_in (big_endian 2 time ++ big_endian 1 round ++ big_endian 1 slot ++ big_endian 3 members) / 16777216
    ≡ (time * 256 + round) * 256 + slot
wide-number time round slot members t r s m = omega (arith, t, r, s, m)

narrow-number : (time round slot members : ℕ) → time < 65536 → round < 256 → slot < 256 → members < 65536
    → number_in (big_endian 2 time ++ big_endian 1 round ++ big_endian 1 slot ++ big_endian 2 members) / 65536
    ≡ (time * 256 + round) * 256 + slot
narrow-number time round slot members t r s m = omega (arith, t, r, s, m)

pub place-told : (wide : Bool) (c : CState) → c.time < 65536 → c.round < 256 → c.slot < 256
    → set_bits c.members < 2 ^ (8 * member_bytes wide)
    → number_in (cstate_bytes (member_bytes wide) c) / (if wide then 16777216 else 65536)
    ≡ (c.time * 256 + c.round) * 256 + c.slot
place-told true c t r s m = wide-number c.time c.round c.slot (set_bits c.members) t r s (omega (arith, m))
place-told false c t r s m = narrow-number c.time c.round c.slot (set_bits c.members) t r s (omega (arith, m))

pub place-of : (wide : Bool) (word place : ℕ) (c : CState) → word ≡ number_in (cstate_bytes (member_bytes wide) c)
    → place ≡ word / (if wide then 16777216 else 65536) → c.time < 65536 → c.round < 256 → c.slot < 256
    → set_bits c.members < 2 ^ (8 * member_bytes wide)
    → place ≡ (c.time * 256 + c.round) * 256 + c.slot
place-of wide word place c told is t r s m =
    is ∙ ap (λ n. n / (if wide then 16777216 else 65536)) told ∙ place-told wide c t r s m

pub state-of : (c : CState) (place : ℕ) (members : List ℕ) → place ≡ (c.time * 256 + c.round) * 256 + c.slot
    → c.time < 65536 → c.round < 256 → c.slot < 256 → c.members ≡ members
    → ◌≡◌ {A = CState} (record {
      time = place / 65536 % 65536;
      round = place / 256 % 256;
      slot = place % 256;
      members = members;
    }) c
state-of c place members is t r s same =
    let time : place / 65536 % 65536 ≡ c.time = omega (arith, is, t, r, s) in
    let round : place / 256 % 256 ≡ c.round = omega (arith, is, t, r, s) in
    let slot : place % 256 ≡ c.slot = omega (arith, is, t, r, s) in
    λ i. record { time = time i; round = round i; slot = slot i; members = sym same i }
