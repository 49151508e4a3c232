-- Where no host does anything a run has one list of legal numbers: each frame with payload carries message 0.
use Rattle.ttp_top.proofs.Terms.{◌≡◌, ℕ, zero, suc, ◌<◌, ◌≤◌, Bool, true, List, [], ◌∷◌, ◌++◌, length, Option, Some}
use Rattle.ttp_top.proofs.Terms.{None, if◌then◌else◌, refl, ap, sym, subst, ◌∙◌, arith, map, Medl, Script, IsLegal}
use Rattle.ttp_top.proofs.Terms.{SlotNumbers, Numbers, world, legal-shapes}
use Rattle.std.proofs.Common.{get_or}
use Rattle.std.specs.Prelude.{nat_le, IsTrue}
use Rattle.std.specs.List.{filter_map}
use Rattle.std.proofs.Math.ListN.{get_or-map}
use Rattle.std.proofs.lemmas.Bool.{and_parts, cond-true, leb-true}
use Rattle.std.proofs.lemmas.List.FromFn.{get_or-map-range_with_len}
use Rattle.ttp_world.specs.declared.node.Entry.TheVariants as entry
use Rattle.ttp_world.specs.Diary.{entry_of}
use Rattle.ttp_world.specs.Legal.{is_between, is_legal_message}
use Rattle.ttp_world.specs.Messages.{message_of, newest_number}
use Rattle.ttp_world.specs.Outgoing.{zeros_of, messages_before, nothing_chosen, message_chosen}
use Rattle.ttp_world.specs.Script.{payload_of_host}
use Rattle.ttp_world.specs.World.{slot_after, is_loaded, chosen_of, messages_chosen}
use Rattle.ttp_world.proofs.Carried.{AgreeWhereLoaded, message_of-row_in, row_in-same}
use Rattle.ttp_world.proofs.LegalShapes.{legal-message, legal-older}
use Rattle.ttp_world.proofs.Unhosted.{writes_in-none, reads_in-none}
use Rattle.ttp_world.proofs.Worlds.{row_of_world}
use Rattle.ttp_top.specs.Scripts.Unhosted.{IsUnhosted}
use Rattle.ttp_world.proofs.ListFacts.{nothing_in}

-- message 0 is the only one that there is
messages_before-only : (list : Medl) (script : Script) (k slot : ℕ) → IsUnhosted script
    → messages_before list script k slot ≡ zeros_of list k ∷ []
messages_before-only list script k zero none = refl
messages_before-only list script k (suc slot) none =
    λ i. messages_before-only list script k slot none i
    ++ filter_map (payload_of_host k) (writes_in-none script slot none i)

-- Where no host writes, a legal number is 0.
legal_number-first : (list : Medl) (script : Script) (slot k i : ℕ) → IsUnhosted script
    → IsTrue (is_legal_message list script slot k (Some i)) → i ≡ 0
legal_number-first list script slot k i none legal =
    let here : is_between 0 0 i ≡ true =
    (λ j. is_between (newest_number (sym (messages_before-only list script k slot none) j))
    (newest_number (sym (messages_before-only list script k (suc slot) none) j)) i) ∙ legal in
    let most : i ≤ 0 = leb-true i 0 (and_parts (nat_le 0 i) (nat_le i 0) here).1 in
    omega (arith, most)

sent_first : (list : Medl) (script : Script) (slot k i : ℕ) (loaded : Bool) (message : Option ℕ) → IsUnhosted script
    → message ≡ (if loaded then Some i else None) → loaded ≡ true
    → IsTrue (is_legal_message list script slot k message) → message ≡ Some 0
sent_first list script slot k i loaded message none is loads legal =
    let carried = is ∙ cond-true loaded (Some i) None loads in
    carried ∙ ap Some (legal_number-first list script slot k i none
    (subst (λ (m : Option ℕ). IsTrue (is_legal_message list script slot k m)) carried legal))

-- the numbers that a slot's own make a node's frame carry
chosen_first : (list : Medl) (script : Script) (numbers : Numbers) (new : SlotNumbers) (k : ℕ) → IsUnhosted script
    → IsLegal list script (new ∷ numbers) → k < length list.slots
    → is_loaded (slot_after list script (world list script numbers)) k ≡ true
    → chosen_of (messages_chosen list script (length numbers) new.sent) k
    ≡ message_chosen list script (length numbers) k (Some 0)
chosen_first list script numbers new k none legal node loaded =
    let slot = length numbers in
    let s = slot_after list script (world list script numbers) in
    let chosen = messages_chosen list script slot new.sent in
    let row = row_of_world list script new numbers in
    let shape = (legal-shapes list script (new ∷ numbers) legal).0 in
    let told : get_or new.sent k None ≡ message_of (entry_of row k) =
    ap (λ (sent : List (Option ℕ)). get_or sent k None) shape.sent ∙ get_or-map message_of row k entry.Off in
    let first = sent_first list script slot k (chosen_of chosen k).number (is_loaded s k)
    (message_of (entry_of row k)) none (message_of-row_in s chosen k node) loaded
    (legal-message list script new numbers k legal node) in
    get_or-map-range_with_len (λ j. message_chosen list script slot j (get_or new.sent j None)) 0
    (length list.slots) k k nothing_chosen node (omega arith)
    ∙ ap (message_chosen list script slot k) (told ∙ first)

-- Where no host does anything, a slot has one choice of legal numbers.
next_same : (list : Medl) (script : Script) (numbers : Numbers) (new other : SlotNumbers) → IsUnhosted script
    → IsLegal list script (new ∷ numbers) → IsLegal list script (other ∷ numbers) → new ≡ other
next_same list script numbers new other none legal other_legal =
    let slot = length numbers in
    let s = slot_after list script (world list script numbers) in
    let chosen = messages_chosen list script slot new.sent in
    let other_chosen = messages_chosen list script slot other.sent in
    let shape = (legal-shapes list script (new ∷ numbers) legal).0 in
    let other_shape = (legal-shapes list script (other ∷ numbers) other_legal).0 in
    let agree : AgreeWhereLoaded s chosen other_chosen = record {
      same = λ k node loaded.
          chosen_first list script numbers new k none legal node loaded
          ∙ sym (chosen_first list script numbers other k none other_legal node loaded);
    } in
    let sent = shape.sent ∙ ap (map message_of) (row_in-same s chosen other_chosen agree) ∙ sym other_shape.sent in
    let reads = nothing_in new.read (shape.reads ∙ ap length (reads_in-none script slot none)) in
    let other_reads = nothing_in other.read (other_shape.reads ∙ ap length (reads_in-none script slot none)) in
    λ i. record { sent = sent i; read = (reads ∙ sym other_reads) i }

pub numbers-same : (list : Medl) (script : Script) (numbers others : Numbers) → IsUnhosted script
    → length numbers ≡ length others → IsLegal list script numbers → IsLegal list script others → numbers ≡ others
numbers-same list script [] [] none long legal other_legal = refl
numbers-same list script [] (other ∷ others) none long legal other_legal = absurd (omega (arith, long))
numbers-same list script (new ∷ numbers) [] none long legal other_legal = absurd (omega (arith, long))
numbers-same list script (new ∷ numbers) (other ∷ others) none long legal other_legal =
    let before = numbers-same list script numbers others none (omega (arith, long))
    (legal-older list script new numbers legal) (legal-older list script other others other_legal) in
    let here = next_same list script numbers new other none legal
    (subst (λ (ns : Numbers). IsLegal list script (other ∷ ns)) (sym before) other_legal) in
    λ i. here i ∷ before i
