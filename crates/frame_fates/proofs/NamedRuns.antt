-- By numbers that name messages of hosts the world's run is one whose messages are as long as the list says.
use Rattle.std.proofs.Common.{◌≡◌, ℕ, suc, ◌<◌, ◌≤◌, Bool, true, false, cond, List, [], ◌∷◌, length, get_or}
use Rattle.std.proofs.Common.{Option, Some, None, refl, ap, sym, subst, ◌∙◌, arith}
use Rattle.std.specs.Prelude.{nat_le}
use Rattle.std.proofs.Math.ListN.{get_or-map}
use Rattle.std.proofs.lemmas.Bool.{and_parts, leb-true}
use Rattle.std.proofs.lemmas.List.FromFn.{get_or-map-range_with_len}
use Rattle.ttp_world.specs.declared.medl.Medl.{Medl}
use Rattle.ttp_world.specs.declared.node.Chosen.{Chosen}
use Rattle.ttp_world.specs.declared.node.Entry.TheVariants as entry
use Rattle.ttp_world.specs.declared.script.Script.{Script}
use Rattle.ttp_world.specs.Diary.{entry_of}
use Rattle.ttp_world.specs.Legal.{is_legal_message, IsLegal}
use Rattle.ttp_world.specs.Messages.{message_of, newest_number}
use Rattle.ttp_world.specs.Outgoing.{messages_before, out_messages, nothing_chosen, message_chosen}
use Rattle.ttp_world.specs.Script.{IsValidScript}
use Rattle.ttp_world.specs.World.{Numbers, slot_after, is_loaded, chosen_of, messages_chosen, world}
use Rattle.ttp_world.proofs.Carried.{message_of-row_in}
use Rattle.ttp_world.proofs.HostMessages.{HasSize, message_sizes, some_message}
use Rattle.ttp_world.proofs.LegalShapes.{legal-shapes, legal-message, legal-older}
use Rattle.ttp_world.proofs.Worlds.{row_of_world}
use Rattle.frame_fates.specs.Runs.{IsRun, IsWritten, NameMessages}

-- what is chosen for a node is what its number names
chosen-named : (list : Medl) (script : Script) (slot k : ℕ) (sent : List (Option ℕ)) → k < length list.slots
    → chosen_of (messages_chosen list script slot sent) k ≡ message_chosen list script slot k (get_or sent k None)
chosen-named list script slot k sent node =
    get_or-map-range_with_len (λ j. message_chosen list script slot j (get_or sent j None)) 0 (length list.slots) k k
    nothing_chosen node (omega arith)

-- a message that is there is as long as the list says
written-size : (list : Medl) (script : Script) (slot k : ℕ) (told : Option ℕ) → IsValidScript list script
    → IsWritten list script slot k told → HasSize list k (message_chosen list script slot k told).payload
written-size list script slot k None valid there = absurd there
written-size list script slot k (Some i) valid there = message_sizes list script k (suc slot) valid i [] there

pub named-run : (list : Medl) (script : Script) (numbers : Numbers) → IsValidScript list script
    → NameMessages list script numbers → IsRun list script (world list script numbers)
named-run list script [] valid named = tt
named-run list script (new ∷ numbers) valid named = (
  record {
    chosen = messages_chosen list script (length numbers) new.sent;
    sizes = λ k node loaded.
        ap (λ (c : Chosen). length c.payload) (chosen-named list script (length numbers) k new.sent node)
        ∙ written-size list script (length numbers) k (get_or new.sent k None) valid (named.0 k node loaded);
    made = refl;
  },
  named-run list script numbers valid named.1,
)

-- Legal numbers name messages.

legal-written : (list : Medl) (script : Script) (slot k i : ℕ) → is_legal_message list script slot k (Some i) ≡ true
    → IsWritten list script slot k (Some i)
legal-written list script slot k i legal =
    let newest = newest_number (out_messages list script k slot) in
    let within : i ≤ newest =
    leb-true i newest (and_parts (nat_le (newest_number (messages_before list script k slot)) i) _ legal).1 in
    omega (arith, within, some_message list script k (suc slot))

number_told : (loaded : Bool) (i : ℕ) (told : Option ℕ) → loaded ≡ true → told ≡ cond loaded (Some i) None
    → told ≡ Some i
number_told true i told is same = same
number_told false i told is same = absurd cc

pub legal-names : (list : Medl) (script : Script) (numbers : Numbers) → IsLegal list script numbers
    → NameMessages list script numbers
legal-names list script [] legal = tt
legal-names list script (new ∷ numbers) legal =
    let slot = length numbers in
    let s = slot_after list script (world list script numbers) in
    let chosen = messages_chosen list script slot new.sent in
    let row = row_of_world list script new numbers in (
      λ k node loaded.
          let i = (chosen_of chosen k).number in
          let told : message_of (entry_of row k) ≡ Some i = number_told (is_loaded s k) i (message_of (entry_of row k))
          loaded (message_of-row_in s chosen k node) in
          let sent : get_or new.sent k None ≡ Some i =
          ap (λ (ns : List (Option ℕ)). get_or ns k None) (legal-shapes list script (new ∷ numbers) legal).0.sent
          ∙ get_or-map message_of row k entry.Off ∙ told in
          subst (IsWritten list script slot k) (sym sent)
          (legal-written list script slot k i
          (ap (is_legal_message list script slot k) (sym told) ∙ legal-message list script new numbers k legal node)),
      legal-names list script numbers (legal-older list script new numbers legal),
    )
