-- How long the lines of nodes are.
use Rattle.std.proofs.Common.{◌≡◌, ℕ, suc, ◌*◌, ◌<◌, ◌≤◌, true, List, [], ◌∷◌, ◌++◌, length}
use Rattle.std.proofs.Common.{Option, Some, None, IfSome, arith, length-append}
use Rattle.std.specs.Prelude.{map, nat_le, option_map}
use Rattle.std.specs.Fmt.{decimal, signed_decimal}
use Rattle.std.specs.List.{AllByRecursion, concat}
use Rattle.std.proofs.lemmas.Bool.{and_parts, leb-true}
use Rattle.std.proofs.lemmas.List.FromFn.{length-range_with_len}
use Rattle.ttp_base.specs.NodeSet.{below, set_bits}
use Rattle.ttp_base.specs.Text.{newline, hex}
use Rattle.ttp_base.proofs.Below.{below-lt}
use Rattle.ttp_world.specs.declared.medl.Medl.{Medl}
use Rattle.ttp_world.specs.declared.node.Delivered.{Delivered}
use Rattle.ttp_world.specs.declared.node.Entry.{Entry}
use Rattle.ttp_world.specs.declared.node.Entry.TheVariants as entry
use Rattle.ttp_world.specs.declared.node.NodeState.{NodeState}
use Rattle.ttp_world.specs.declared.script.Script.{Script}
use Rattle.ttp_world.specs.declared.script.TheConstants.{SLOT_LIMIT}
use Rattle.ttp_world.specs.Diary.{History, entry_of}
use Rattle.ttp_world.specs.Legal.{is_legal_message, IsLegal}
use Rattle.ttp_world.specs.Medl.{IsValid}
use Rattle.ttp_world.specs.Messages.{message_of, delivered_of, newest_number}
use Rattle.ttp_world.specs.Outgoing.{messages_before, out_messages}
use Rattle.ttp_world.specs.Past.{state_of}
use Rattle.ttp_world.specs.Script.{IsValidScript}
use Rattle.ttp_world.specs.Trace.{number_or_dash, entry_word, peer_of, ack_word, member_digits, node_line, node_line_of}
use Rattle.ttp_world.specs.Trace.{number_delivered, message_shown, node_line_text}
use Rattle.ttp_world.specs.World.{SlotNumbers, Numbers, node_past, world}
use Rattle.ttp_world.proofs.HostMessages.{few_messages}
use Rattle.ttp_world.proofs.LegalShapes.{legal-message}
use Rattle.ttp_world.proofs.Lists.{nodes-most}
use Rattle.ttp_world.proofs.Worlds.{row_of_world, length-world}
use Rattle.ttp_world.proofs.LegalNumbers.{in_messages-few}
use Rattle.theorems.proofs.Small.{IsSmall}
use Rattle.theorems.proofs.SmallStates.{small_states}
use Rattle.theorems.proofs.WordLengths.{decimal-byte, decimal-five, signed-small, dash-byte, dash-six}
use Rattle.theorems.proofs.WordLengths.{entry_word-short, ack_word-short, members-short}

-- One line.

module _ (slot k entry peer message members accepted rejected ack clock : List ℕ) where
  node_text : length slot ≤ 5 → length k ≤ 3 → length entry ≤ 14 → length peer ≤ 3 → length message ≤ 6
      → length members ≤ 6 → length accepted ≤ 5 → length rejected ≤ 5 → length ack ≤ 9 → length clock ≤ 18
      → length (node_line_text slot k entry peer message members accepted rejected ack clock ++ newline) ≤ 128
  node_text p q r s t u v w x y =
      simp length-append (omega arith)

-- a small state and a number of six digits make a line of at most 128 bytes
node_line-short : (list : Medl) (slot k : ℕ) (state : NodeState) (message : Option ℕ) → slot < SLOT_LIMIT → k < 24
    → IsSmall state → IfSome message (λ i. i < 1000000)
    → length (node_line (member_digits list) slot k state message) ≤ 128
node_line-short list slot k state message early node small number =
    node_text (decimal slot) (decimal k) (entry_word state.entry) (number_or_dash (peer_of k state.entry))
    (number_or_dash message) (hex (member_digits list) (set_bits state.members)) (decimal state.accepted)
    (decimal state.rejected) (ack_word state.ack) (signed_decimal state.offset)
    (decimal-five slot (omega arith)) (decimal-byte k (omega arith)) (entry_word-short state.entry)
    (dash-byte (peer_of k state.entry) (small.peer k (omega arith))) (dash-six message number)
    (members-short list (set_bits state.members)) (decimal-five state.accepted (omega (arith, small.accepted)))
    (decimal-five state.rejected (omega (arith, small.rejected))) (ack_word-short state.ack small.doubt)
    (signed-small state.offset (omega (arith, small.offset)))

-- The message that it names: a legal one that was sent, or the newest of a ring.

shown-delivered : (list : Medl) (script : Script) (row : List Entry) (before : History) (k : ℕ) (o : Option Delivered)
    → length before < SLOT_LIMIT
    → IfSome (option_map (number_delivered list script (row ∷ before) k) o) (λ i. i < 1000000)
shown-delivered list script row before k None early = tt
shown-delivered list script row before k (Some delivered) early =
    omega (arith, in_messages-few list script (row ∷ before) k delivered.sender)

shown-small : (list : Medl) (script : Script) (row : List Entry) (before : History) (k : ℕ) (e : Entry)
    → length before < SLOT_LIMIT → IfSome (message_of e) (λ i. i < 1000000)
    → IfSome (message_shown list script row before k e) (λ i. i < 1000000)
shown-small list script row before k (entry.Sent message) early sent = sent
shown-small list script row before k (entry.Judged sender v deviation) early sent =
    shown-delivered list script row before k (delivered_of list script before row k) early
shown-small list script row before k _ early sent = tt

sent-small : (list : Medl) (script : Script) (slot k : ℕ) (message : Option ℕ) → IsValid list
    → IsValidScript list script → slot < SLOT_LIMIT → is_legal_message list script slot k message ≡ true
    → IfSome message (λ i. i < 1000000)
sent-small list script slot k None valid script_valid early legal = tt
sent-small list script slot k (Some i) valid script_valid early legal =
    let newest = newest_number (out_messages list script k slot) in
    let parts = and_parts (nat_le (newest_number (messages_before list script k slot)) i) (nat_le i newest) legal in
    omega (arith, leb-true i newest parts.1, few_messages list script k (suc slot) valid script_valid)

-- The lines of a slot.

node_line_of-short : (list : Medl) (script : Script) (new : SlotNumbers) (numbers : Numbers) (k : ℕ)
    → IsValid list → IsValidScript list script → length numbers < script.slots → IsLegal list script (new ∷ numbers)
    → k < length list.slots
    → length (node_line_of list script (row_of_world list script new numbers) (world list script numbers) k) ≤ 128
node_line_of-short list script new numbers k valid script_valid within legal node =
    let before = world list script numbers in
    let row = row_of_world list script new numbers in
    let state = state_of (node_past list script (row ∷ before) k) in
    let e = entry_of row k in
    let slots = length-world list script numbers in
    let early : length before < SLOT_LIMIT = omega (arith, slots, script_valid.slots) in
    let sent = sent-small list script (length numbers) k (message_of e) valid script_valid (omega (arith, slots))
    (legal-message list script new numbers k legal node) in
    node_line-short list (length before) k state (message_shown list script row before k e) early
    (omega (arith, nodes-most list valid))
    (small_states list script (new ∷ numbers) k valid script_valid (omega arith) node)
    (shown-small list script row before k e early sent)

lines_each : (line : ℕ → List ℕ) (ks : List ℕ) (n : ℕ) → ((k : ℕ) → k < n → length (line k) ≤ 128)
    → AllByRecursion (λ k. k < n) ks → length (concat (map line ks)) ≤ 128 * length ks
lines_each line [] n each within = omega arith
lines_each line (k ∷ ks) n each within =
    omega (arith, each k within.0, length-append (line k) (concat (map line ks)), lines_each line ks n each within.1)

-- those of at most 24 nodes
pub node_lines-short : (list : Medl) (script : Script) (new : SlotNumbers) (numbers : Numbers)
    → IsValid list → IsValidScript list script → length numbers < script.slots → IsLegal list script (new ∷ numbers)
    → length (concat (map (node_line_of list script (row_of_world list script new numbers) (world list script numbers))
    (below (length list.slots)))) ≤ 3072
node_lines-short list script new numbers valid script_valid within legal =
    let n = length list.slots in
    let line = node_line_of list script (row_of_world list script new numbers) (world list script numbers) in
    let all = lines_each line (below n) n
    (λ k node. node_line_of-short list script new numbers k valid script_valid within legal node) (below-lt n) in
    omega (arith, all, length-range_with_len 0 n, nodes-most list valid)
