-- An active node of a world is judging in the slot after it, or in its own.
use Rattle.safety_laws.proofs.Words.{◌≡◌, ◌≢◌, ℕ, ◌<◌, Bool, true, false, List, [], ◌∷◌, length, Option, Some, None}
use Rattle.safety_laws.proofs.Words.{IfSome, if◌then◌else◌, AllByRecursion, list_any, Medl, Ack, Chosen, Entry, Script}
use Rattle.safety_laws.proofs.Words.{Diary, History, diary_of, is_active, IsValid, AreNodes, Numbers, node_past, world}
use Rattle.safety_laws.proofs.Words.{coming_place-world, node_slot, owner_of, IsAboutListed, IsJudging, IsAtOwnSlot}
use Rattle.safety_laws.proofs.Words.{AreNodes-filter}
use Rattle.ttp_world.specs.declared.node.Ack.TheVariants as ack
use Rattle.ttp_world.specs.declared.node.Entry.TheVariants as entry
use Rattle.ttp_world.specs.declared.node.Phase.TheVariants as phase
use Rattle.ttp_world.specs.declared.node.Verdict.TheVariants as verdict
use Rattle.ttp_world.specs.Acknowledgement.{is_sent_or_joined, is_judged_correct, since_sent_or_joined, newest_doubted}
use Rattle.ttp_world.specs.Acknowledgement.{newest_sent_or_joined, first_or_doubt, ack_since, ack_of}
use Rattle.ttp_world.specs.Membership.{is_good, members_of}
use Rattle.ttp_world.proofs.Pasts.{elim_both}
use Rattle.ttp_world.proofs.Places.{IsOfList, AreOfList, entry_of-of_list}
use Rattle.ttp_world.proofs.Worlds.{world-of_list}
use Rattle.ttp_world.proofs.WorldFacts.{AreNodes-nil}

-- Its members are nodes of the list.

AreNodes-members_of : (list : Medl) (k : ℕ) (diary : Diary) → AreNodes list (members_of list k diary)
AreNodes-members_of list k diary =
    elim_both (is_active diary) _ [] (AreNodes list) (AreNodes-filter list (is_good k diary)) (AreNodes-nil list)

-- A doubt is about one.

abbrev AreEntries : Medl → List Entry → Type 0
AreEntries list entries = AllByRecursion (IsOfList list) entries

doubted-listed : (list : Medl) (entries : List Entry) → AreEntries list entries
    → IfSome (newest_doubted entries) (λ x. x < length list.slots)
doubted-listed list [] all = tt
doubted-listed list (entry.Judged sender verdict.Tentative deviation ∷ entries) all = all.0
doubted-listed list (_ ∷ entries) all = doubted-listed list entries all.1

since-listed : (list : Medl) (diary : Diary) → AreEntries list diary → AreEntries list (since_sent_or_joined diary)
since-listed list [] all = tt
since-listed list (e ∷ diary) all =
    elim_both (is_sent_or_joined e) [] (e ∷ since_sent_or_joined diary) (AreEntries list) tt
    (all.0, since-listed list diary all.1)

first_or_doubt-listed : (list : Medl) (doubted : Option ℕ) → IfSome doubted (λ x. x < length list.slots)
    → IsAboutListed list (first_or_doubt doubted)
first_or_doubt-listed list None all = tt
first_or_doubt-listed list (Some x) all = all

closed_or : (list : Medl) (correct : Bool) (a : Ack) → IsAboutListed list a
    → IsAboutListed list (if correct then ack.Closed else a)
closed_or list true a about = tt
closed_or list false a about = about

ack_since-listed : (list : Medl) (own : Option Entry) (entries : List Entry) → AreEntries list entries
    → IsAboutListed list (ack_since own entries)
ack_since-listed list own entries all = by own
  where
    otherwise : IsAboutListed list
        (if list_any is_judged_correct entries then ack.Closed else first_or_doubt (newest_doubted entries))
    otherwise =
        closed_or list (list_any is_judged_correct entries) (first_or_doubt (newest_doubted entries))
        (first_or_doubt-listed list (newest_doubted entries) (doubted-listed list entries all))

    by : (own : Option Entry) → IsAboutListed list (ack_since own entries)
    by (Some (entry.Joined sender c deviation)) = tt
    by _ = otherwise

ack_of-listed : (list : Medl) (diary : Diary) → AreEntries list diary → IsAboutListed list (ack_of diary)
ack_of-listed list diary all =
    elim_both (is_active diary) (ack_since (newest_sent_or_joined diary) (since_sent_or_joined diary)) ack.Closed
    (IsAboutListed list)
    (ack_since-listed list (newest_sent_or_joined diary) (since_sent_or_joined diary) (since-listed list diary all)) tt

diary-listed : (list : Medl) (history : History) (k : ℕ) → AreOfList list history → AreEntries list (diary_of history k)
diary-listed list [] k all = tt
diary-listed list (row ∷ history) k all = (entry_of-of_list list row k all.0, diary-listed list history k all.1)

-- The node in the slot after a world.
module _ (list : Medl) (script : Script) (numbers : Numbers) (chosen : List Chosen) (k : ℕ) (valid : IsValid list)
    (node : k < length list.slots) (active : (node_past list script (world list script numbers) k).phase ≡ phase.Active)
  where
    pub IsJudging-world : owner_of (node_slot list script (world list script numbers) chosen k) ≢ k
        → IsJudging (node_slot list script (world list script numbers) chosen k)
    IsJudging-world other = record {
      valid = valid;
      node = node;
      active = active;
      owner = (coming_place-world list script numbers k valid node).slot;
      other = other;
      members = AreNodes-members_of list k (diary_of (world list script numbers) k);
      doubted = ack_of-listed list (diary_of (world list script numbers) k)
          (diary-listed list (world list script numbers) k (world-of_list list script numbers valid));
    }

    pub IsAtOwnSlot-world : owner_of (node_slot list script (world list script numbers) chosen k) ≡ k
        → IsAtOwnSlot (node_slot list script (world list script numbers) chosen k)
    IsAtOwnSlot-world own = record {
      valid = valid;
      node = node;
      active = active;
      own = own;
      members = AreNodes-members_of list k (diary_of (world list script numbers) k);
    }
