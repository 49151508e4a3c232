use Rattle.std.proofs.Common.{◌≡◌, ◌<◌, ◌≤◌, ℕ, Bool, true, false, cond, [], take}
use Rattle.std.proofs.Common.{replicate, length, ap, refl, sym, ◌∙◌, zero-add}
use Rattle.std.proofs.lemmas.List.{take-replicate}
use Rattle.std.proofs.lemmas.List.FromFn.{get_or-map-range_with_len}
use Rattle.ttp_world.specs.ZerosWorld.{all_zeros, zeros_chosen}
use Rattle.ttp_world.specs.Conduct.{carries_payload, payload_sent}
use Rattle.ttp_world.specs.Diary.{Place, joined_place}
use Rattle.ttp_world.specs.Frame.{frame, header_of}
use Rattle.ttp_world.specs.Medl.{member_bytes, plan_at}
use Rattle.ttp_world.specs.Outgoing.{nothing_chosen}
use Rattle.ttp_world.specs.World.{chosen_of}
use Rattle.ttp_world.specs.declared.medl.Medl.{Medl}
use Rattle.ttp_world.specs.declared.node.Chosen.{Chosen}
use Rattle.entry_causes.proofs.frames.own_frame.Goals as goal

zeros-of : (list : Medl) (k : ℕ) → k < length list.slots → chosen_of (all_zeros list) k ≡ zeros_chosen list k
zeros-of list k node = get_or-map-range_with_len (zeros_chosen list) 0
    (length list.slots) k k nothing_chosen node (zero-add k)

paid-if : (carries : Bool) (size : ℕ) → replicate {A = ℕ} (cond carries size 0) 0
    ≡ cond carries (replicate {A = ℕ} size 0) []
paid-if true size = refl
paid-if false size = refl

paid : (list : Medl) (place : Place) (k size : ℕ) → k < length list.slots → size ≤ 240
    → size ≡ cond (carries_payload list place) (plan_at list k).payload 0
    → take size (replicate {A = ℕ} 240 0) ≡ payload_sent list place (chosen_of (all_zeros list) k)
paid list place k size node fits is =
    take-replicate {X = ℕ} size 240 0 fits ∙ ap (λ (n : ℕ). replicate {A = ℕ} n 0) is
    ∙ paid-if (carries_payload list place) (plan_at list k).payload
    ∙ ap (λ (chosen : Chosen). payload_sent list place chosen) (sym (zeros-of list k node))

pub returns : goal.returns
returns c =
    let list = c.args.list.now in
    let cstate = c.args.cstate.now in
    let payload = paid list (joined_place cstate) c.args.node c.payload_size-size.result c.requires.node
    c.payload_size-size.ensures.fits c.payload_size-size.ensures.value in
    c.outgoing.ensures
    ∙ (λ i. frame (member_bytes (c.is_wide.ensures i)) ((c.header.ensures ∙ ap header_of c.kind_at.ensures) i) cstate
    (payload i) list.schedule)
