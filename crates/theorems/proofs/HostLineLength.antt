-- How long the lines of hosts are.
use Rattle.std.proofs.Common.{ℕ, ◌+◌, ◌*◌, ◌<◌, ◌≤◌, List, [], ◌∷◌, ◌++◌, length}
use Rattle.std.proofs.Common.{get_or, IsTrue, arith, codes, length-append}
use Rattle.std.specs.Prelude.{◌==◌, count_by, map, nat_le}
use Rattle.std.specs.Fmt.{decimal}
use Rattle.std.specs.List.{AllByRecursion, concat, list_all}
use Rattle.std.proofs.lemmas.Bool.{and_parts, leb-true}
use Rattle.ttp_base.specs.Text.{newline}
use Rattle.ttp_world.specs.declared.host_lines.HostRead.{HostRead}
use Rattle.ttp_world.specs.declared.medl.Medl.{Medl}
use Rattle.ttp_world.specs.declared.script.Script.{Script}
use Rattle.ttp_world.specs.declared.script.Source.{Source}
use Rattle.ttp_world.specs.declared.script.Source.TheVariants as source
use Rattle.ttp_world.specs.declared.script.TheConstants.{SLOT_LIMIT}
use Rattle.ttp_world.specs.Diary.{History}
use Rattle.ttp_world.specs.Legal.{ReadMessage, read_messages, is_legal_read}
use Rattle.ttp_world.specs.Medl.{IsValid}
use Rattle.ttp_world.specs.Messages.{newest_number, ring_messages}
use Rattle.ttp_world.specs.Outgoing.{messages_before}
use Rattle.ttp_world.specs.Script.{HostWrite}
use Rattle.ttp_world.specs.Trace.{source_word, message_hex, more_write_lines, read_line, write_line}
use Rattle.ttp_world.proofs.HostPayloads.{IsReadOf}
use Rattle.ttp_world.proofs.Lists.{nodes-most}
use Rattle.theorems.proofs.MessageSizes.{message-short}
use Rattle.ttp_world.proofs.LegalNumbers.{ring_messages-few}
use Rattle.theorems.proofs.WordLengths.{decimal-any, decimal-byte, decimal-five}

-- Writes. The numbers in their lines may be any.

write_line-short : (list : Medl) (script : Script) (slot k earlier : ℕ)
    → length (write_line list script slot k earlier) ≤ 528
write_line-short list script slot k earlier =
    let number = decimal-any (length (messages_before list script k slot) + earlier) in
    simp length-append (omega (arith, decimal-any slot, decimal-any k, number))

pub writes-short : (list : Medl) (script : Script) (slot : ℕ) (earlier writes : List HostWrite)
    → length (concat (more_write_lines list script slot earlier writes)) ≤ 528 * length writes
writes-short list script slot earlier [] = omega arith
writes-short list script slot earlier (w ∷ writes) =
    let number = count_by (λ e. e.host == w.host) earlier in
    let line = write_line list script slot w.host number in
    let first = write_line-short list script slot w.host number in
    let more = writes-short list script slot (w ∷ earlier) writes in
    omega (arith, first, more, length-append line (concat (more_write_lines list script slot (w ∷ earlier) writes)))

-- Reads, whose lines have up to 480 digits of a message.

read_text : (slot k from number message : List ℕ) → length slot ≤ 5 → length k ≤ 3 → length from ≤ 6
    → length number ≤ 5 → length message ≤ 480
    → length (codes "slot " ++ slot ++ codes " host " ++ k ++ codes " read " ++ from ++ codes " " ++ number
    ++ codes " " ++ message ++ newline) ≤ 528
read_text slot k from number message p q r s t = simp length-append (omega arith)

source_word-short : (list : Medl) (k : ℕ) (from : Source) → IsValid list → IsReadOf list k from
    → length (source_word from) ≤ 6
source_word-short list k source.Status valid read = omega arith
source_word-short list k (source.Node p) valid read =
    omega (arith, decimal-byte p (omega (arith, read.1.0, nodes-most list valid)))

read_line-short : (list : Medl) (script : Script) (slot : ℕ) (after : History) (r : ReadMessage) → IsValid list
    → slot < SLOT_LIMIT → IsReadOf list r.read.host r.read.source → r.number ≤ SLOT_LIMIT
    → length (read_line list script slot after r) ≤ 528
read_line-short list script slot after r valid early read small =
    let message = get_or (ring_messages list script after r.read.host r.read.source) r.number [] in
    read_text (decimal slot) (decimal r.read.host) (source_word r.read.source) (decimal r.number)
    (message_hex r.read.source message) (decimal-five slot (omega arith))
    (decimal-byte r.read.host (omega (arith, read.0, nodes-most list valid)))
    (source_word-short list r.read.host r.read.source valid read)
    (decimal-five r.number (omega arith))
    (message-short list script after r.read.host r.read.source r.number valid)

-- reads of a slot, where the numbers are legal
pub reads-short : (list : Medl) (script : Script) (slot : ℕ) (before after : History) (reads : List HostRead)
    (numbers : List ℕ) → IsValid list → slot < SLOT_LIMIT → length after ≤ SLOT_LIMIT
    → AllByRecursion (λ (r : HostRead). IsReadOf list r.host r.source) reads
    → IsTrue (list_all (is_legal_read list script before after) (read_messages reads numbers))
    → length (concat (map (read_line list script slot after) (read_messages reads numbers))) ≤ 528 * length reads
reads-short list script slot before after [] numbers valid early few are legal = omega arith
reads-short list script slot before after (r ∷ reads) [] valid early few are legal = omega arith
reads-short list script slot before after (r ∷ reads) (n ∷ numbers) valid early few are legal =
    let first : ReadMessage = record { read = r; number = n } in
    let parts = and_parts (is_legal_read list script before after first)
    (list_all (is_legal_read list script before after) (read_messages reads numbers)) legal in
    let low = nat_le (newest_number (ring_messages list script before r.host r.source)) n in
    let newest = newest_number (ring_messages list script after r.host r.source) in
    let within : n ≤ newest = leb-true n newest (and_parts low (nat_le n newest) parts.0).1 in
    let small : n ≤ SLOT_LIMIT = omega (arith, ring_messages-few list script after r.host r.source) in
    let line = read_line list script slot after in
    let short = read_line-short list script slot after first valid early are.0 small in
    let more = reads-short list script slot before after reads numbers valid early few are.1 parts.1 in
    omega (arith, short, more, length-append (line first) (concat (map line (read_messages reads numbers))))
