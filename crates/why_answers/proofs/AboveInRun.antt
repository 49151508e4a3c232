-- In the run of a script causes stand above, and so its stories hold together.
use Rattle.std.proofs.Common.{◌≡◌, ℕ, zero, suc, ◌<◌, ◌≤◌, inl, inr, Bool, true, false, [], ap, sym, subst, ◌∙◌}
use Rattle.std.proofs.Common.{refl, arith, length, not, Option, Some, None, ℤ}
use Rattle.std.proofs.lemmas.Bool.{and_parts, cases_lt, false≢true}
use Rattle.std.proofs.lemmas.List.{get_or_past}
use Rattle.std.specs.List.{AllByRecursion}
use Rattle.std.specs.Prelude.{IfSome, if◌then◌else◌}
use Rattle.ttp_world.specs.ZerosWorld.{all_zeros, zeros_world}
use Rattle.causes.specs.Causes.{cause_at, entry_cause, newest_cause}
use Rattle.causes.specs.LinesOf.{remaining_in}
use Rattle.causes.specs.Members.{entry_at_spot}
use Rattle.causes.specs.RunSlots.{entry_in_slot}
use Rattle.causes.specs.Story.{rank_of_entry}
use Rattle.causes.specs.declared.cause.Cause.{Cause}
use Rattle.causes.specs.declared.cause.Spot.{Spot}
use Rattle.why_answers.proofs.FromBelow.{remaining-slot_in, length-past_slots_in, past_slots_in-next, past_slots_in-suc}
use Rattle.why_answers.proofs.FromBelow.{past_slots_in-zero, slot_in-number}
use Rattle.entry_causes.specs.Senders.{is_left_on}
use Rattle.ttp_world.proofs.ZerosWorlds.{length-zeros_world}
use Rattle.run_rows.specs.Rows.{past_slots_in, slot_in}
use Rattle.ttp_world.proofs.EntriesMade.{listening_entry-holds}
use Rattle.ttp_world.proofs.Filters.{each-sieve}
use Rattle.ttp_world.proofs.Slots.{entry_of-row_after, length-row_in}
use Rattle.ttp_world.specs.Conduct.{new_entry}
use Rattle.ttp_world.specs.Fitting.{joinable}
use Rattle.ttp_world.specs.Medium.{is_sending}
use Rattle.ttp_world.specs.Past.{NodePast}
use Rattle.ttp_world.specs.Reception.{Hearing}
use Rattle.ttp_world.specs.Script.{has_send_fault, is_on}
use Rattle.ttp_world.specs.World.{chosen_of, frames_in, hearing_in, node_after, row_in, slot_after}
use Rattle.ttp_world.specs.declared.medl.Medl.{Medl}
use Rattle.ttp_world.specs.declared.node.Act.TheVariants.{Listen, Off}
use Rattle.ttp_world.specs.declared.node.CState.{CState}
use Rattle.ttp_world.specs.declared.node.Chosen.{Chosen}
use Rattle.ttp_world.specs.declared.node.Entry.{Entry}
use Rattle.ttp_world.specs.declared.node.Entry.TheVariants as entry
use Rattle.ttp_world.specs.declared.script.Channel.{Channel}
use Rattle.ttp_world.specs.declared.script.Fault.TheVariants as fault
use Rattle.ttp_world.specs.declared.script.Script.{Script}
use Rattle.why_answers.proofs.CausesAbove.{IsNext, StandsIn, cause-stands, is_late}
use Rattle.why_answers.proofs.PastSpots.{ArePast}
use Rattle.why_answers.proofs.RunOrder.{above-level, level}
use Rattle.why_answers.proofs.RunSpots.{cause-at, entry-at}
use Rattle.why_answers.proofs.RunStory.{told-story}
use Rattle.why_answers.proofs.SpotOrder.{each-weaker}
use Rattle.why_answers.proofs.StoryOrder.{IsStory}
use Rattle.why_answers.specs.Stories.{StandsAbove, first_slots, why_told}
use Rattle.why_story.specs.RunSource.{spot_at}

-- Who sends hangs on nothing that is heard.

sending-rank : (e : Entry) → is_sending e ≡ true → rank_of_entry e ≡ 0
sending-rank entry.Started sends = refl
sending-rank (entry.Sent message) sends = refl
sending-rank e sends = absurd (false≢true sends)

senders-first : (list : Medl) (script : Script) (t : ℕ) (c : Channel)
    → AllByRecursion (λ p. rank_of_entry (entry_in_slot p (slot_in list script t)) ≡ 0)
    (remaining_in c (slot_in list script t))
senders-first list script t c =
    let s = slot_in list script t in
    subst (AllByRecursion (λ p. rank_of_entry (entry_in_slot p s) ≡ 0)) (remaining-slot_in list script t c)
    (each-weaker (λ k. (k < length list.slots) × (is_left_on c s k ≡ true))
    (λ p. rank_of_entry (entry_in_slot p s) ≡ 0) _
    (λ k two. sending-rank (entry_in_slot k s)
    (and_parts (is_sending (entry_in_slot k s))
    (not (has_send_fault s.begun.script fault.Silence k c s.begun.number)) two.1).0)
    (each-sieve (is_left_on c s) (length list.slots)))

-- A slot of the run, and those before it.

past-of : (list : Medl) (script : Script) (t n : ℕ) → n ≤ t → ArePast t (past_slots_in list script n)
past-of list script t zero within = subst (ArePast t) (sym (past_slots_in-zero list script)) tt
past-of list script t (suc n) within =
    let number = slot_in-number list script n in
    subst (ArePast t) (sym (past_slots_in-suc list script n))
    (omega (arith, number, within), past-of list script t n (omega (arith, within)))

next-is : (list : Medl) (script : Script) (t : ℕ) → IsNext (slot_in list script t) (past_slots_in list script t) t
next-is list script t = record {
  number = slot_in-number list script t;
  past = past-of list script t t (omega arith);
  count = omega (arith, length-past_slots_in list script t);
  senders = senders-first list script t;
}

-- In the first slot nodes are off, or listen.

join-early : (c : Option CState) → IfSome c (λ c. (d : ℤ) → is_late (entry.Joined c.slot c d) ≡ false)
join-early None = tt
join-early (Some c) = λ d. refl

act-early : (list : Medl) (k : ℕ) (past : NodePast) (chosen : Chosen) (h : Hearing) (on : Bool)
    → is_late (new_entry list k past chosen h (if on then Listen else Off)) ≡ false
act-early list k past chosen h false = refl
act-early list k past chosen h true =
    listening_entry-holds (λ e. is_late e ≡ false) list h refl (λ bytes. join-early (joinable list bytes))

first-early : (list : Medl) (script : Script) (k : ℕ) → is_late (entry_in_slot k (slot_in list script 0)) ≡ false
unfolding slot_in
first-early list script k =
    let s = slot_after list script [] in
    let chosen = all_zeros list in
    let n = node_after list script [] k in
    elim (cases_lt k (length list.slots)) [
      | inl node ↦ subst (λ (e : Entry). is_late e ≡ false) (sym (entry_of-row_after list script [] chosen k node))
          (act-early list k n.past (chosen_of chosen k) (hearing_in s (frames_in s chosen) k) (is_on script k 0))
      | inr other ↦
          let long = length-row_in s chosen in
          subst (λ (e : Entry). is_late e ≡ false)
          (sym (get_or_past (row_in s chosen) k entry.Off (omega (arith, long, other))))
          refl
    ]

late-some : (list : Medl) (script : Script) (t k : ℕ) → is_late (entry_in_slot k (slot_in list script t)) ≡ true → 0 < t
late-some list script zero k late = absurd (false≢true (sym (first-early list script k) ∙ late))
late-some list script (suc t) k late = omega arith

-- Causes.

pub causes-above : (list : Medl) (script : Script) (count : ℕ) (spot : Spot) → spot.slot < count
    → AllByRecursion (λ e. StandsAbove (first_slots list script count) e spot)
    (cause_at (first_slots list script count) spot).entries
causes-above list script count spot within =
    let run = first_slots list script count in
    let t = spot.slot in
    let s = slot_in list script t in
    let before = past_slots_in list script t in
    let own = entry_in_slot spot.node s in
    let at : (e : Spot) → e.slot < count → rank_of_entry (entry_at_spot run e)
    ≡ rank_of_entry (entry_in_slot e.node (slot_in list script e.slot)) =
    λ e less. sym (ap rank_of_entry (entry-at list script count e.slot e.node less)) in
    let stands : (e : Spot) → StandsIn s t (rank_of_entry own) e → StandsAbove run e spot =
    λ e is. elim is [
      | inl earlier ↦ inl earlier
      | inr here ↦
          let same : e.slot ≡ t = here.0 in
          let low : rank_of_entry (entry_in_slot e.node s) < rank_of_entry own = here.1 in
          let other = at e (omega (arith, same, within))
          ∙ ap (λ (n : ℕ). rank_of_entry (entry_in_slot e.node (slot_in list script n))) same in
          let self = at spot within in
          inr (same, omega (arith, low, other, self))
    ] in
    subst (λ (cause : Cause). AllByRecursion (λ e. StandsAbove run e spot) cause.entries)
    (sym (ap (newest_cause spot.node) (past_slots_in-next list script t))
    ∙ cause-at list script count t spot.node within)
    (each-weaker (StandsIn s t (rank_of_entry own)) (λ e. StandsAbove run e spot)
    (entry_cause spot.node s before own).entries
    stands
    (cause-stands spot.node s before t own (next-is list script t) (late-some list script t spot.node)))

-- The story of an entry.

pub story-of : (list : Medl) (script : Script) (k slot : ℕ) → k < length list.slots
    → IsStory (spot_at slot k) (why_told list script k slot)
story-of list script k slot node =
    let history = zeros_world list script slot in
    let run = first_slots list script (suc slot) in
    let long = length-zeros_world list script slot in
    subst (λ (n : ℕ). IsStory (spot_at n k) (why_told list script k slot)) long
    (told-story list script (row_in (slot_after list script history) (all_zeros list)) history k node
    (λ s within. each-weaker (λ e. StandsAbove run e s) (λ e. level run e < level run s) (cause_at run s).entries
    (λ e is. above-level run e s is) (causes-above list script (suc slot) s (omega (arith, within, long)))))
