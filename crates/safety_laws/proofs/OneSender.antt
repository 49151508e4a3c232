-- What comes to each node in a slot after a history in which one node alone sends, or none.
use Rattle.safety_laws.proofs.Words.{◌≡◌, ℕ, suc, ◌+◌, ◌<◌, true, false, List, [], ◌∷◌, length, ap, ◌∙◌, subst, arith}
use Rattle.safety_laws.proofs.Words.{mod-lt, ◌==◌, cond_both, has_node, with_node, Medl, Chosen, Script, own_frame}
use Rattle.safety_laws.proofs.Words.{History, Place, time_limit, next_place, is_explicit, loses, IsValid}
use Rattle.safety_laws.proofs.Words.{is_within_window, expected_header, Numbers, slot_after, frames_in, deviation_in}
use Rattle.safety_laws.proofs.Words.{world, nodes-most, coming_place-world, HearsFrame, HearsNoFrame, HearsSilence}
use Rattle.safety_laws.proofs.Words.{HearsPlace, HearsNoPlace, NodeSlot, node_slot, SendsAlone, NoneSends, IsSlotFrame}
use Rattle.safety_laws.proofs.Words.{HearsMembers, HearsOutside}
use Rattle.std.proofs.Common.{◌%◌}
use Rattle.safety_laws.specs.NodeSlot.{slot_place}
use Rattle.safety_laws.proofs.Hearing.{HearsFrame-kept, HearsNoFrame-lost, HearsSilence-none}
use Rattle.safety_laws.proofs.Joins.{joinable-explicit, joinable-without}
use Rattle.safety_laws.proofs.GroupSets.{has_node-put_in}
use Rattle.safety_laws.proofs.NodeSlots.{frames_of-made}
use Rattle.safety_laws.proofs.OwnSlots.{frames_made-own, IsSlotFrame-own}
use Rattle.safety_laws.proofs.Senders.{frames_in-none, frames_in-one}

-- the next place has a time of the range
time-next : (list : Medl) (place : Place) → (next_place list place).time < time_limit
time-next list place =
    cond_both (suc place.slot == length list.slots) _ _ (λ (p : Place). p.time < time_limit)
    (λ last. small) (λ inside. small)
  where
    small : (place.time + 1) % time_limit < time_limit
    small = mod-lt (place.time + 1) (omega arith)

pub silent-none_sends : (list : Medl) (script : Script) (history : History) (chosen : List Chosen) (r : ℕ)
    → NoneSends list script history chosen → HearsSilence (node_slot list script history chosen r).hearing
silent-none_sends list script history chosen r none =
    let s = slot_after list script history in
    HearsSilence-none s (frames_in s chosen) r
    (frames_in-none s chosen (λ k node. frames_of-made list script history chosen k node ∙ none k node))

module _ {list : Medl} {script : Script} {history : History} {chosen : List Chosen} {p : ℕ} (r : ℕ)
    (sends : SendsAlone list script history chosen p) where
  frames-alone : frames_in (slot_after list script history) chosen ≡ record {
    sender = p;
    bytes = own_frame list p (node_slot list script history chosen p).past
        (node_slot list script history chosen p).chosen;
  } ∷ []
  frames-alone =
      frames_in-one (slot_after list script history) chosen p sends.own.node
      (λ k node other. frames_of-made list script history chosen k node ∙ sends.others k node other)
      ∙ frames_of-made list script history chosen p sends.own.node
      ∙ frames_made-own (node_slot list script history chosen p) sends.own sends.closed sends.accepted

  pub comes-alone : loses script p (length history) r ≡ false → HearsFrame (record {
    sender = p;
    bytes = own_frame list p (node_slot list script history chosen p).past
        (node_slot list script history chosen p).chosen;
  }) (node_slot list script history chosen r).hearing
  comes-alone kept =
      let s = slot_after list script history in
      HearsFrame-kept s (frames_in s chosen) _ r frames-alone sends.unflipped kept

  -- inside the window, at the same place, it is the frame of the slot with the sender's members and the sender
  pub members-alone : loses script p (length history) r ≡ false
      → slot_place (node_slot list script history chosen p) ≡ slot_place (node_slot list script history chosen r)
      → is_within_window list (deviation_in (slot_after list script history) r p) ≡ true
      → HearsMembers (node_slot list script history chosen r) p
      (with_node (node_slot list script history chosen p).past.members p)
  members-alone kept together within =
      let x = node_slot list script history chosen p in
      record {
        bytes = own_frame list p x.past x.chosen;
        frame = subst (λ (place : Place). IsSlotFrame list place (with_node x.past.members p)
            (own_frame list p x.past x.chosen)) together (IsSlotFrame-own x sends.own sends.payload);
        comes = comes-alone kept;
        within = within;
      }

  pub outside-alone : loses script p (length history) r ≡ false
      → is_within_window list (deviation_in (slot_after list script history) r p) ≡ false
      → HearsOutside (node_slot list script history chosen r) p
  outside-alone kept outside = record { bytes = _; comes = comes-alone kept; outside = outside }

  -- and no frame where it is lost
  pub none-alone : loses script p (length history) r ≡ true
      → HearsNoFrame (node_slot list script history chosen r).hearing
  none-alone lost =
      let s = slot_after list script history in
      HearsNoFrame-lost s (frames_in s chosen) _ r frames-alone lost

-- A frame with its C-state tells a listening node the sender's place and members, and one without tells it none.
module _ {list : Medl} {script : Script} (numbers : Numbers) {chosen : List Chosen} {p : ℕ} (r : ℕ)
    (valid : IsValid list) (sends : SendsAlone list script (world list script numbers) chosen p)
    (kept : loses script p (length (world list script numbers)) r ≡ false) where
  abbrev x : NodeSlot
  x = node_slot list script (world list script numbers) chosen p

  pub place-alone : is_explicit (expected_header list (slot_place x)) ≡ true
      → HearsPlace (node_slot list script (world list script numbers) chosen r) p (slot_place x)
      (with_node x.past.members p)
  place-alone explicit =
      let frame = IsSlotFrame-own x sends.own sends.payload in
      record {
        bytes = own_frame list p x.past x.chosen;
        comes = comes-alone r sends kept;
        can = joinable-explicit list (slot_place x) (with_node x.past.members p) valid (record {
          time = time-next list x.past.place;
          cycle = coming_place-world list script numbers p valid sends.own.node;
          nodes = frame.nodes;
          owner = ap (has_node (with_node x.past.members p)) sends.own.own ∙ has_node-put_in x.past.members p
              (omega (arith, sends.own.node, nodes-most list valid));
        }) (own_frame list p x.past x.chosen) explicit frame;
        nodes = frame.nodes;
      }

  pub no_place-alone : is_explicit (expected_header list (slot_place x)) ≡ false
      → HearsNoPlace (node_slot list script (world list script numbers) chosen r) p
  no_place-alone implicit = record {
    bytes = own_frame list p x.past x.chosen;
    comes = comes-alone r sends kept;
    can_not = joinable-without list (slot_place x) (with_node x.past.members p) (own_frame list p x.past x.chosen)
        implicit (IsSlotFrame-own x sends.own sends.payload);
  }
