-- What legal numbers say of a run: which numbers there are of each slot, and that those of its older slots are legal.
use Rattle.ttp_world.proofs.Words.{◌≡◌, ℕ, ◌<◌, true, ◌&&◌, List, [], ◌∷◌, ◌++◌, length, Option, Some, None, IsTrue}
use Rattle.ttp_world.proofs.Words.{refl, ap, sym, ◌∙◌, arith, map, reverse, list_all, and_parts, eqb-true, false≢true}
use Rattle.ttp_world.proofs.Words.{length-map, each-below, Medl, Entry, Script, entry_of, is_legal_message}
use Rattle.ttp_world.proofs.Words.{are_same_numbers, are_legal_messages, ReadMessage, read_messages, is_legal_read}
use Rattle.ttp_world.proofs.Words.{are_legal_reads, is_legal_slot, are_legal_slots, is_not_older, never_fall, all_reads}
use Rattle.ttp_world.proofs.Words.{IsLegal, message_of, reads_in, SlotNumbers, Numbers, slot_after, messages_chosen}
use Rattle.ttp_world.proofs.Words.{world}
use Rattle.ttp_world.specs.Legal.{is_same_number}
use Rattle.ttp_world.proofs.Slots.{length-row_in}
use Rattle.ttp_world.proofs.Worlds.{row_of_world, length-world}

-- The numbers of one slot.

-- those that are told of the frames are those of the row, one for each node, and there are as many as reads
pub record HasShape (list : Medl) (script : Script) (slot : ℕ) (row : List Entry) (new : SlotNumbers) : Type 0 where
  pub sent : new.sent ≡ map message_of row
  pub nodes : length new.sent ≡ length list.slots
  pub reads : length new.read ≡ length (reads_in script slot)

-- the numbers of each slot have the shape of its row and its reads
abbrev pub HaveShapes : Medl → Script → Numbers → Type 0
HaveShapes list script [] = Unit {0}
HaveShapes list script (new ∷ numbers) =
    HasShape list script (length numbers) (row_of_world list script new numbers) new × HaveShapes list script numbers

same_number : (m n : Option ℕ) → is_same_number m n ≡ true → m ≡ n
same_number None None is = refl
same_number None (Some j) is = absurd (false≢true is)
same_number (Some i) None is = absurd (false≢true is)
same_number (Some i) (Some j) is = ap Some (eqb-true i j is)

same_numbers : (ms ns : List (Option ℕ)) → are_same_numbers ms ns ≡ true → ms ≡ ns
same_numbers [] [] is = refl
same_numbers [] (n ∷ ns) is = absurd (false≢true is)
same_numbers (m ∷ ms) [] is = absurd (false≢true is)
same_numbers (m ∷ ms) (n ∷ ns) is =
    let parts = and_parts (is_same_number m n) (are_same_numbers ms ns) is in
    λ i. same_number m n parts.0 i ∷ same_numbers ms ns parts.1 i

-- The tests that legal numbers pass, by what they are about.

pub record IsLegalSlot (list : Medl) (script : Script) (new : SlotNumbers) (numbers : Numbers) : Type 0 where
  pub messages : are_legal_messages list script (length (world list script numbers))
      (row_of_world list script new numbers) new.sent ≡ true
  pub reads : are_legal_reads list script (world list script numbers) (world list script (new ∷ numbers))
      (reads_in script (length (world list script numbers))) new.read ≡ true
  pub older : are_legal_slots list script (world list script numbers) numbers ≡ true

pub are_legal_slots-parts : (list : Medl) (script : Script) (new : SlotNumbers) (numbers : Numbers)
    → are_legal_slots list script (world list script (new ∷ numbers)) (new ∷ numbers) ≡ true
    → IsLegalSlot list script new numbers
are_legal_slots-parts list script new numbers legal =
    let row = row_of_world list script new numbers in
    let history = world list script numbers in
    let both = and_parts (is_legal_slot list script row history new) (are_legal_slots list script history numbers)
    legal in
    let slot = and_parts (are_legal_messages list script (length history) row new.sent) _ both.0 in
    record { messages = slot.0; reads = slot.1; older = both.1 }

pub slots-legal : (list : Medl) (script : Script) (numbers : Numbers) → IsLegal list script numbers
    → are_legal_slots list script (world list script numbers) numbers ≡ true
slots-legal list script numbers legal =
    (and_parts (are_legal_slots list script (world list script numbers) numbers) _ legal).0

pub reads-never_fall : (list : Medl) (script : Script) (numbers : Numbers) → IsLegal list script numbers
    → never_fall (all_reads script numbers) ≡ true
reads-never_fall list script numbers legal =
    (and_parts (are_legal_slots list script (world list script numbers) numbers) _ legal).1

-- Legal numbers have their shape.

shape : (list : Medl) (script : Script) (new : SlotNumbers) (numbers : Numbers) → IsLegalSlot list script new numbers
    → HasShape list script (length numbers) (row_of_world list script new numbers) new
shape list script new numbers legal =
    let history = world list script numbers in
    let row = row_of_world list script new numbers in
    let told : new.sent ≡ map message_of row =
    same_numbers new.sent (map message_of row)
    (and_parts (are_same_numbers new.sent (map message_of row)) _ legal.messages).0 in
    record {
      sent = told;
      nodes = ap length told ∙ length-map row message_of
          ∙ length-row_in (slot_after list script history) (messages_chosen list script (length numbers) new.sent);
      reads =
          sym (eqb-true (length (reads_in script (length history))) (length new.read)
          (and_parts _ (list_all (is_legal_read list script history (world list script (new ∷ numbers)))
          (read_messages (reads_in script (length history)) new.read)) legal.reads).0)
          ∙ ap (λ slot. length (reads_in script slot)) (length-world list script numbers);
    }

shapes : (list : Medl) (script : Script) (numbers : Numbers)
    → are_legal_slots list script (world list script numbers) numbers ≡ true
    → HaveShapes list script numbers
shapes list script [] legal = tt
shapes list script (new ∷ numbers) legal =
    let parts = are_legal_slots-parts list script new numbers legal in
    (shape list script new numbers parts, shapes list script numbers parts.older)

pub legal-shapes : (list : Medl) (script : Script) (numbers : Numbers) → IsLegal list script numbers
    → HaveShapes list script numbers
legal-shapes list script numbers legal =
    shapes list script numbers (slots-legal list script numbers legal)

-- and the message of each frame is legal
pub legal-message : (list : Medl) (script : Script) (new : SlotNumbers) (numbers : Numbers) (k : ℕ)
    → IsLegal list script (new ∷ numbers) → k < length list.slots
    → IsTrue (is_legal_message list script (length numbers) k
    (message_of (entry_of (row_of_world list script new numbers) k)))
legal-message list script new numbers k legal node =
    let history = world list script numbers in
    let row = row_of_world list script new numbers in
    let parts = are_legal_slots-parts list script new numbers (slots-legal list script (new ∷ numbers) legal) in
    let width = length-row_in (slot_after list script history) (messages_chosen list script (length numbers) new.sent)
    in
    ap (λ slot. is_legal_message list script slot k (message_of (entry_of row k)))
    (sym (length-world list script numbers))
    ∙ each-below (λ j. is_legal_message list script (length history) j (message_of (entry_of row j))) (length row) k
    (and_parts (are_same_numbers new.sent (map message_of row)) _ parts.messages).1 (omega (arith, width))

-- each read of legal numbers is legal
pub legal-reads : (list : Medl) (script : Script) (new : SlotNumbers) (numbers : Numbers)
    → IsLegal list script (new ∷ numbers)
    → IsTrue (list_all (is_legal_read list script (world list script numbers) (world list script (new ∷ numbers)))
    (read_messages (reads_in script (length numbers)) new.read))
legal-reads list script new numbers legal =
    let history = world list script numbers in
    let test = is_legal_read list script history (world list script (new ∷ numbers)) in
    let parts = are_legal_slots-parts list script new numbers (slots-legal list script (new ∷ numbers) legal) in
    ap (λ slot. list_all test (read_messages (reads_in script slot) new.read)) (sym (length-world list script numbers))
    ∙ (and_parts _ (list_all test (read_messages (reads_in script (length history)) new.read)) parts.reads).1

-- The numbers of the older slots are legal too.

pub never_fall-older : (rs earlier : List ReadMessage) → never_fall (rs ++ earlier) ≡ true → never_fall earlier ≡ true
never_fall-older [] earlier falls = falls
never_fall-older (r ∷ rs) earlier falls =
    never_fall-older rs earlier (and_parts (list_all (is_not_older r) (rs ++ earlier)) _ falls).1

pub legal-older : (list : Medl) (script : Script) (new : SlotNumbers) (numbers : Numbers)
    → IsLegal list script (new ∷ numbers) → IsLegal list script numbers
legal-older list script new numbers legal =
    let slots = (are_legal_slots-parts list script new numbers (slots-legal list script (new ∷ numbers) legal)).older in
    let reads =
    never_fall-older (reverse (read_messages (reads_in script (length numbers)) new.read)) (all_reads script numbers)
    (reads-never_fall list script (new ∷ numbers) legal) in
    λ i. slots i && reads i
