-- What an entry makes of an active node's past: it stays within the numbers of the list.
use Rattle.controller.proofs.Words.{◌≡◌, ◌≢◌, ℕ, ◌+◌, ◌*◌, ◌<◌, ◌≤◌, ℤ, pos, Bool, true, false, cond, List, [], ◌∷◌}
use Rattle.controller.proofs.Words.{◌++◌, length, take, Option, Some, None, refl, sym, subst, ◌∙◌, ap, arith, All}
use Rattle.controller.proofs.Words.{IfSome, nat_tests, ints, length-take, Medl, Ack, Entry, Verdict, is_correct}
use Rattle.controller.proofs.Words.{past_after, correction_after, Place, Diary, SlotSurroundings, phase_after, IsValid}
use Rattle.controller.proofs.Words.{plan_at, NodePast, nodes-most, kept_notes, kept, IsAckWithin, IsNearEnough}
use Rattle.controller.proofs.Words.{IsPastWithin, IsEntryWithin, option_to_list, All-nil, All-cons, All-take}
use Rattle.controller.proofs.Words.{ack_answered, members_after, next_place, limit_of, IsPlaceOf, IsPlaceOf-next}
use Rattle.controller.proofs.Words.{members_after-Judged, slots_to_own, IsJudgedWithin, IfSome-cond, fta-take, AreNodes}
use Rattle.controller.proofs.Words.{is_corrected, AreNodes-filter, AreNodes-nil}
use Rattle.node_parts.specs.Moves.{IsMoveOf, moved_members, IsDoubtElsewhere}
use Rattle.ttp_world.specs.Counts.{is_rejection}
use Rattle.node_parts.specs.declared.acknowledgement.moves.AckMove.{AckMove}
use Rattle.ttp_world.specs.declared.node.Ack.TheVariants as ack
use Rattle.ttp_world.specs.declared.node.Entry.TheVariants as entry
use Rattle.ttp_world.specs.declared.node.Verdict.TheVariants as verdict

-- How far a node's own slot is.

-- at most a round
to_own-round : (list : Medl) (k slot : ℕ) → k < length list.slots → slots_to_own list k slot ≤ length list.slots
to_own-round list k slot node = grind (arith, nat_tests)

-- one slot later it is one slot nearer, unless that slot is it
nearer : (list : Medl) (k : ℕ) (place : Place) → place.slot < length list.slots → k < length list.slots
    → (next_place list place).slot ≢ k
    → slots_to_own list k (next_place list place).slot + 1 ≡ slots_to_own list k place.slot
nearer list k place within node other = grind (arith, nat_tests)

-- Acknowledgements.

-- a doubt stays one about a node that had its slot
IsAckWithin-later : (list : Medl) (k slot later : ℕ) (a : Ack) → slots_to_own list k later ≤ slots_to_own list k slot
    → IsAckWithin list k slot a → IsAckWithin list k later a
IsAckWithin-later list k slot later (ack.Doubt x) less within = (within.0, omega (arith, less, within.1))
IsAckWithin-later list k slot later _ less within = tt

-- the sender that is judged is that of the slot
ack_answered-within : (list : Medl) (k slot : ℕ) (a : Ack) (v : Verdict) → slot < length list.slots
    → IsAckWithin list k slot a → IsAckWithin list k slot (ack_answered a v slot)
ack_answered-within list k slot ack.Closed v exists within = tt
ack_answered-within list k slot _ verdict.Correct exists within = tt
ack_answered-within list k slot _ verdict.Tentative exists within = (exists, omega arith)
ack_answered-within list k slot ack.First _ exists within = tt
ack_answered-within list k slot (ack.Doubt x) _ exists within = within

-- Notes.

-- those of a slot, put before those of the round before it
All-noted : (P : ℤ → Type 0) (sync begins : Bool) (noted : Option ℤ) (notes : List ℤ) → IfSome noted P → All P notes
    → All P (cond sync (option_to_list noted) [] ++ cond begins [] notes)
All-noted P true true (Some z) notes here before = All-cons P z [] here (All-nil P)
All-noted P true false (Some z) notes here before = All-cons P z notes here before
All-noted P true true None notes here before = All-nil P
All-noted P true false None notes here before = before
All-noted P false true noted notes here before = All-nil P
All-noted P false false noted notes here before = before

pub zero_near : (list : Medl) → IsValid list → IsNearEnough list (pos 0)
zero_near list valid = (omega (arith, ints, valid.window), omega (arith, ints, valid.window))

-- the last four after a slot
record AreFewNear (list : Medl) (notes : List ℤ) : Type 0 where
  few : length notes ≤ kept_notes
  near : All (IsNearEnough list) notes

noted_near : (list : Medl) (slot : ℕ) (begins : Bool) (noted : Option ℤ) (notes : List ℤ)
    → IfSome noted (IsNearEnough list) → All (IsNearEnough list) notes
    → AreFewNear list (take kept_notes
    (cond (plan_at list slot).sync (option_to_list noted) [] ++ cond begins [] notes))
noted_near list slot begins noted notes here before =
    let all = All-noted (IsNearEnough list) (plan_at list slot).sync begins noted notes here before in
    record { few = omega (arith, length-take {A = ℤ}); near = All-take (IsNearEnough list) kept_notes _ all }

-- One more entry.

one_more : (b : Bool) (count : ℕ) → cond b 1 0 + count ≤ count + 1
one_more true count = omega arith
one_more false count = omega arith

-- a node that has accepted no frame but its own newest one, and rejected none
begun : (list : Medl) (k : ℕ) (past : NodePast) → k < length list.slots → past.phase ≡ phase_after past.entry
    → IsPlaceOf list past.place
    → AreNodes list past.members → past.accepted ≤ 1 → past.rejected ≡ 0 → IsAckWithin list k past.place.slot past.ack
    → past.limit ≤ 3 * length list.slots
    → AreFewNear list past.notes → IsPastWithin list k past
begun list k past node phase place members accepted rejected acked limit notes =
    let own = to_own-round list k past.place.slot node in
    record {
      phase = phase;
      round = place.round;
      slot = place.slot;
      members = members;
      accepted = omega (arith, own, accepted);
      rejected = omega (arith, own, rejected);
      ack = acked;
      limit = limit;
      few = notes.few;
      notes = notes.near;
    }

-- a node that is not active
pub idle : (list : Medl) (k : ℕ) (past : NodePast) → IsValid list → k < length list.slots
    → past.phase ≡ phase_after past.entry → past.place.round ≡ 0 → past.place.slot ≡ 0
    → past.members ≡ [] → past.accepted ≡ 0 → past.rejected ≡ 0 → past.ack ≡ ack.Closed
    → past.limit ≤ 3 * length list.slots → past.notes ≡ []
    → IsPastWithin list k past
idle list k past valid node phase round slot members accepted rejected acked limit notes =
    begun list k past node phase
    (record { round = omega (arith, round, valid.rounds); slot = omega (arith, slot, node) })
    (subst (AreNodes list) (sym members) (AreNodes-nil list)) (omega (arith, accepted)) rejected
    (subst (IsAckWithin list k past.place.slot) (sym acked) tt) limit
    (subst (AreFewNear list) (sym notes) (record { few = omega arith; near = All-nil (IsNearEnough list) }))

-- With one more entry, a node's past stays within what it can keep of it.
module _ (list : Medl) (k : ℕ) (past : NodePast) (valid : IsValid list) (node : k < length list.slots)
    (within : IsPastWithin list k past) where
  -- what a node that sends, starts or joins notes of its own slot
  noted_itself : (slot : ℕ) (begins : Bool) → AreFewNear list
      (take kept_notes (cond (plan_at list slot).sync (pos 0 ∷ []) [] ++ cond begins [] past.notes))
  noted_itself slot begins = noted_near list slot begins (Some (pos 0)) past.notes (zero_near list valid) within.notes

  pub kept_after-within : (e : Entry) (s : SlotSurroundings) → IsEntryWithin list k past e
      → IsPastWithin list k (kept (past_after list k past e s))
  kept_after-within entry.Started s next =
      begun list k _ node refl (record { round = omega (arith, valid.rounds); slot = node }) (AreNodes-filter list _)
      (omega arith) refl tt within.limit (noted_itself k _)
  kept_after-within (entry.Joined sender cstate deviation) s next =
      begun list k _ node refl (record { round = next.0.round; slot = next.0.slot }) (AreNodes-filter list _)
      (omega arith) refl tt within.limit (noted_itself cstate.slot _)
  kept_after-within (entry.Sent message) s next =
      begun list k _ node refl (IsPlaceOf-next list past.place valid within.round within.slot)
      (AreNodes-filter list _) (omega arith) refl tt within.limit (noted_itself (next_place list past.place).slot _)
  kept_after-within (entry.Judged sender v deviation) s next =
      let place = next_place list past.place in
      let exists = IsPlaceOf-next list past.place valid within.round within.slot in
      let own = nearer list k past.place within.slot node (λ same. next.another (next.coming ∙ same)) in
      let later = IsAckWithin-later list k past.place.slot place.slot past.ack (omega (arith, own)) within.ack in
      let notes = noted_near list place.slot _ _ past.notes
      (IfSome-cond (IsNearEnough list) (is_correct v) deviation next.near) within.notes in
      record {
        phase = refl;
        round = exists.round;
        slot = exists.slot;
        members = AreNodes-filter list _;
        accepted = omega (arith, own, within.accepted, one_more (is_correct v) past.accepted);
        rejected = omega (arith, own, within.rejected, one_more (is_rejection past.ack v) past.rejected);
        ack = subst (λ (x : ℕ). IsAckWithin list k place.slot (ack_answered past.ack v x)) (sym next.coming)
            (ack_answered-within list k place.slot past.ack v exists.slot later);
        limit = within.limit;
        few = notes.few;
        notes = notes.near;
      }
  kept_after-within _ s next =
      idle list k _ valid node refl refl refl refl refl refl refl (omega (arith, within.limit)) refl

-- the limit that is read of any diary of node k
pub limit_of-within : (list : Medl) (k : ℕ) (diary : Diary) → k < length list.slots
    → limit_of list k diary ≤ 3 * length list.slots
limit_of-within list k diary node = grind (arith, nat_tests)

-- Judged slots.

doubt_of_another : (list : Medl) (k : ℕ) (place : Place) (a : Ack) → place.slot < length list.slots
    → k < length list.slots → (next_place list place).slot ≢ k
    → IsAckWithin list k place.slot a → IsDoubtElsewhere a (next_place list place).slot
doubt_of_another list k place (ack.Doubt x) slot node another within =
    λ same. omega (arith, within.1, nearer list k place slot node another, ap (slots_to_own list k) same)
doubt_of_another list k place _ slot node another within = tt

-- the move of a judgement leads to the members after it
pub moved_members-after : (list : Medl) (k : ℕ) (past : NodePast) (sender : ℕ) (v : Verdict) (deviation : ℤ)
    (move : AckMove) → IsValid list → k < length list.slots
    → IsPastWithin list k past → IsJudgedWithin list k past sender v deviation → IsMoveOf move past.ack v sender
    → moved_members move past.members sender
    ≡ members_after list k past.members past.ack (entry.Judged sender v deviation)
moved_members-after list k past sender v deviation move valid node within judged moves =
    let place = next_place list past.place in
    let another : place.slot ≢ k = λ same. judged.another (judged.coming ∙ same) in
    let exists : sender < length list.slots =
    omega (arith, judged.coming, (IsPlaceOf-next list past.place valid within.round within.slot).slot) in
    moves.members past.members judged.stays
    (subst (IsDoubtElsewhere past.ack) (sym judged.coming)
    (doubt_of_another list k past.place past.ack within.slot node another within.ack))
    ∙ members_after-Judged list k past.members past.ack sender v deviation within.members exists (nodes-most list valid)

-- Corrections.

-- the last four settle the correction
pub correction_after-take : (list : Medl) (place : Place) (notes : List ℤ) (e : Entry)
    → correction_after list place (take kept_notes notes) e ≡ correction_after list place notes e
correction_after-take list place notes e =
    ap (λ z. cond (is_corrected list (phase_after e) place) z (pos 0)) (fta-take notes)
