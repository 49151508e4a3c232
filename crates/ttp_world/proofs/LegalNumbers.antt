-- Legal numbers are those of their run, and a word of a line can hold each.
use Rattle.ttp_world.proofs.Words.{◌≡◌, ℕ, zero, suc, ◌+◌, ◌*◌, ◌<◌, ◌≤◌, ◌^◌, Bool, true, false, List, [], ◌∷◌, cond}
use Rattle.ttp_world.proofs.Words.{is_some, length, Option, Some, None, IfSome, sym, arith, length-append, ◌==◌, nat_le}
use Rattle.ttp_world.proofs.Words.{AllByRecursion, list_all, and_parts, leb-true, Medl, Delivered, Script, Source}
use Rattle.ttp_world.proofs.Words.{History, entry_of, is_legal_message, read_messages, is_legal_read, IsLegal, IsValid}
use Rattle.ttp_world.proofs.Words.{message_of, delivered_of, new_messages, in_messages, status_words, status_messages}
use Rattle.ttp_world.proofs.Words.{ring_messages, newest_number, messages_before, out_messages, messages_written}
use Rattle.ttp_world.proofs.Words.{reads_in, IsValidScript, SlotNumbers, Numbers, node_past, world}
use Rattle.ttp_world.specs.declared.script.Source.TheVariants as source
use Rattle.ttp_world.specs.Script.{HostRead}
use Rattle.ttp_world.proofs.LegalShapes.{legal-shapes, legal-message, legal-reads, legal-older}
use Rattle.ttp_world.proofs.RunNumbers.{AreNumbersOf, AreNumbersOfAll}
use Rattle.ttp_world.proofs.Worlds.{row_of_world, length-world}

-- How many messages there are.

messages_before-few : (list : Medl) (script : Script) → IsValid list → IsValidScript list script → (k slot : ℕ)
    → length (messages_before list script k slot) ≤ 1 + 16 * slot
messages_before-few list script valid valid_script k zero = omega arith
messages_before-few list script valid valid_script k (suc slot) =
    omega (
      arith,
      length-append (messages_before list script k slot) (messages_written script k slot),
      messages_before-few list script valid valid_script k slot,
      valid_script.writes k slot,
      valid.buffers.1,
    )

pub new_messages-few : (p : ℕ) (delivered : Option Delivered) → length (new_messages p delivered) ≤ 1
new_messages-few p None = omega arith
new_messages-few p (Some delivered) = by_sender (delivered.sender == p)
  where
    by_sender : (same : Bool) → length (cond same (delivered.payload ∷ []) []) ≤ 1
    by_sender true = omega arith
    by_sender false = omega arith

pub in_messages-few : (list : Medl) (script : Script) (history : History) (k p : ℕ)
    → length (in_messages list script history k p) ≤ 1 + length history
in_messages-few list script [] k p = omega arith
in_messages-few list script (row ∷ history) k p =
    let new = new_messages p (delivered_of list script history row k) in
    omega (
      arith,
      length-append (in_messages list script history k p) new,
      in_messages-few list script history k p,
      new_messages-few p (delivered_of list script history row k),
    )

pub status_messages-count : (list : Medl) (script : Script) (history : History) (k : ℕ)
    → length (status_messages list script history k) ≡ 1 + length history
status_messages-count list script [] k = omega arith
status_messages-count list script (row ∷ history) k =
    let new = status_words list (length history) (node_past list script (row ∷ history) k)
    (is_some (delivered_of list script history row k)) in
    omega (
      arith,
      length-append (status_messages list script history k) (new ∷ []),
      status_messages-count list script history k,
    )

pub ring_messages-few : (list : Medl) (script : Script) (history : History) (k : ℕ) (from : Source)
    → length (ring_messages list script history k from) ≤ 1 + length history
ring_messages-few list script history k source.Status = omega (arith, status_messages-count list script history k)
ring_messages-few list script history k (source.Node p) = in_messages-few list script history k p

-- The numbers of frames.

legal_message-small : (list : Medl) (script : Script) → IsValid list → IsValidScript list script → (slot k : ℕ)
    → slot < script.slots → (message : Option ℕ) → is_legal_message list script slot k message ≡ true
    → IfSome message (λ i. i < 2 ^ 64)
legal_message-small list script valid valid_script slot k within None legal = tt
legal_message-small list script valid valid_script slot k within (Some i) legal =
    let newest = newest_number (out_messages list script k slot) in
    let parts = and_parts (nat_le (newest_number (messages_before list script k slot)) i) (nat_le i newest) legal in
    omega (
      arith,
      leb-true i newest parts.1,
      messages_before-few list script valid valid_script k (suc slot),
      valid_script.slots.1,
    )

-- The numbers of reads.

legal_reads-small : (list : Medl) (script : Script) (before after : History) → length after < 2 ^ 63
    → (reads : List HostRead) (numbers : List ℕ) → length reads ≡ length numbers
    → list_all (is_legal_read list script before after) (read_messages reads numbers) ≡ true
    → AllByRecursion (λ i. i < 2 ^ 64) numbers
legal_reads-small list script before after few [] [] same legal = tt
legal_reads-small list script before after few [] (i ∷ numbers) same legal = absurd (omega (arith, same))
legal_reads-small list script before after few (r ∷ reads) [] same legal = tt
legal_reads-small list script before after few (r ∷ reads) (i ∷ numbers) same legal =
    let parts = and_parts (is_legal_read list script before after (record { read = r; number = i }))
    (list_all (is_legal_read list script before after) (read_messages reads numbers)) legal in
    let newest = newest_number (ring_messages list script after r.host r.source) in
    let oldest = newest_number (ring_messages list script before r.host r.source) in
    let most = and_parts (nat_le oldest i) (nat_le i newest) parts.0 in (
      omega (arith, leb-true i newest most.1, ring_messages-few list script after r.host r.source),
      legal_reads-small list script before after few reads numbers (omega (arith, same)) parts.1,
    )

-- Slots and runs.

legal_slot-AreNumbersOf : (list : Medl) (script : Script) (new : SlotNumbers) (numbers : Numbers) → IsValid list
    → IsValidScript list script → length numbers < script.slots → IsLegal list script (new ∷ numbers)
    → AreNumbersOf list script (row_of_world list script new numbers) (length numbers) new
legal_slot-AreNumbersOf list script new numbers valid valid_script within legal =
    let after = world list script (new ∷ numbers) in
    let shape = (legal-shapes list script (new ∷ numbers) legal).0 in
    record {
      shape = shape;
      small_sent = λ k less.
          legal_message-small list script valid valid_script (length numbers) k within
          (message_of (entry_of (row_of_world list script new numbers) k))
          (legal-message list script new numbers k legal less);
      small_read =
          legal_reads-small list script (world list script numbers) after
          (omega (arith, length-world list script numbers, valid_script.slots.1)) (reads_in script (length numbers))
          new.read (sym shape.reads) (legal-reads list script new numbers legal);
    }

pub legal-AreNumbersOfAll : (list : Medl) (script : Script) (numbers : Numbers) → IsValid list
    → IsValidScript list script → length numbers ≤ script.slots → IsLegal list script numbers
    → AreNumbersOfAll list script (world list script numbers) numbers
legal-AreNumbersOfAll list script [] valid valid_script few legal = tt
legal-AreNumbersOfAll list script (new ∷ numbers) valid valid_script few legal = (
  legal_slot-AreNumbersOf list script new numbers valid valid_script (omega (arith, few)) legal,
  legal-AreNumbersOfAll list script numbers valid valid_script (omega (arith, few))
      (legal-older list script new numbers legal),
)
