-- The line of a node after a slot of a run is read, and is the one that is due.
use Rattle.std.proofs.Common.{◌≡◌, ℕ, suc, ◌*◌, ◌^◌, ◌<◌, ◌≤◌, ℤ, pos, negsuc, Bool, true, false, cond, ◌&&◌}
use Rattle.std.proofs.Common.{not, List, [], ◌∷◌, length, Option, Some, None, IfSome, IsTrue, is_none, unsigned_abs}
use Rattle.std.proofs.Common.{refl, sym, ap, ◌∙◌, arith, zero-lt-suc}
use Rattle.std.specs.Prelude.{◌==◌, nat_le, option_map}
use Rattle.std.proofs.Math.Nat.{pow-le-pow_right}
use Rattle.std.proofs.lemmas.Bool.{and_parts, eq-eqb, le-leb, leb-true, lt-ltb}
use Rattle.ttp_base.specs.NodeSet.{set_bits}
use Rattle.ttp_base.proofs.SetWords.{HasWord, HasWord-nil, HasWord-filter, set_bits-small, members_in-set_bits}
use Rattle.ttp_world.specs.declared.medl.Medl.{Medl}
use Rattle.ttp_world.specs.declared.node.Ack.{Ack}
use Rattle.ttp_world.specs.declared.node.Ack.TheVariants as ack
use Rattle.ttp_world.specs.declared.node.Delivered.{Delivered}
use Rattle.ttp_world.specs.declared.node.Entry.{Entry}
use Rattle.ttp_world.specs.declared.node.Entry.TheVariants as entry
use Rattle.ttp_world.specs.declared.node.Reason.TheVariants as reason
use Rattle.ttp_world.specs.declared.node.Verdict.TheVariants as verdict
use Rattle.ttp_world.specs.declared.script.Script.{Script}
use Rattle.ttp_world.specs.declared.script.TheConstants.{SLOT_LIMIT}
use Rattle.ttp_world.specs.Acknowledgement.{is_correct}
use Rattle.ttp_world.specs.Act.{coming_place}
use Rattle.ttp_world.specs.Conduct.{carries_payload, delivery}
use Rattle.ttp_world.specs.Diary.{Diary, History, diary_of, entry_of, is_active}
use Rattle.ttp_world.specs.Legal.{is_legal_message, IsLegal}
use Rattle.ttp_world.specs.Medl.{IsValid, is_wide, member_bytes}
use Rattle.ttp_world.specs.Membership.{is_good, members_of}
use Rattle.ttp_world.specs.Messages.{delivered_of, message_of, messages_of, newest_number}
use Rattle.ttp_world.specs.Outgoing.{messages_before, out_messages}
use Rattle.ttp_world.specs.Past.{NodePast, state_of}
use Rattle.ttp_world.specs.Reception.{Hearing}
use Rattle.ttp_world.specs.Script.{IsValidScript}
use Rattle.ttp_world.specs.Trace.{message_shown, node_line_of, number_delivered, peer_of}
use Rattle.ttp_world.specs.World.{SlotNumbers, Numbers, frames_in, hearing_in, node_of, node_past, slot_after, world}
use Rattle.ttp_world.proofs.HostMessages.{few_messages}
use Rattle.ttp_world.proofs.LegalNumbers.{in_messages-few}
use Rattle.ttp_world.proofs.LegalShapes.{legal-message}
use Rattle.ttp_world.proofs.Lists.{nodes-most}
use Rattle.ttp_world.proofs.Pasts.{elim_both}
use Rattle.ttp_world.proofs.Worlds.{row_of_world, length-world}
use Rattle.line_text.specs.Numerals.{message_digits}
use Rattle.line_reader.specs.TraceLines.{fits_word, FitsAck, FitsMembers, FitsOffset, FitsNode}
use Rattle.line_reader.specs.WorldLines.{line_of_node, word_of}
use Rattle.lab_laws.proofs.FromBelow.{node-value, value-again, small_states}
use Rattle.whole_trace.specs.Due.{are_members, doubted, has_digits, is_below, is_node_line}
use Rattle.whole_trace.specs.Whole.{value_of}
use Rattle.lab_laws.specs.TakenTrace.{head_of_run}
use Rattle.lab_laws.proofs.Standing.{IsDoubtIn, shown-in}

-- The message that a line names: only the line of a frame that was sent, or of one that was correct, names one.

-- of another frame nothing was delivered
abbrev DeliversIfCorrect : Entry → Option Delivered → Type 0
DeliversIfCorrect (entry.Judged sender v deviation) o = is_correct v ≡ false → o ≡ None
DeliversIfCorrect _ o = Unit {0}

none_where : (b c : Bool) (o : Option Delivered) → b ≡ false → cond (b && c) o None ≡ None
none_where b c o other = ap (λ (x : Bool). cond (x && c) o None) other

delivers : (list : Medl) (k : ℕ) (past : NodePast) (h : Hearing) (e : Entry)
    → DeliversIfCorrect e (delivery list k past h e)
delivers list k past h (entry.Judged sender v deviation) =
    none_where (is_correct v) (carries_payload list (coming_place list past)) _
delivers list k past h entry.Off = tt
delivers list k past h e = tt

module _ (list : Medl) (script : Script) (row : List Entry) (before : History) (k : ℕ) where
  abbrev came : Option Delivered
  came = delivered_of list script before row k

  none_named : came ≡ None → is_none (option_map (number_delivered list script (row ∷ before) k) came) ≡ true
  none_named none = ap (λ (o : Option Delivered).
      is_none (option_map (number_delivered list script (row ∷ before) k) o)) none

  word-named : (e : Entry) → DeliversIfCorrect e came
      → IsTrue (fits_word (word_of e) (peer_of k e) (message_shown list script row before k e))
  word-named entry.Off says = refl
  word-named entry.Waited says = refl
  word-named entry.Retried says = refl
  word-named entry.Gone says = refl
  word-named entry.Started says = refl
  word-named (entry.Sent message) says = refl
  word-named (entry.Joined sender cstate deviation) says = refl
  word-named (entry.Judged sender verdict.Correct deviation) says = refl
  word-named (entry.Judged sender verdict.Null deviation) says = none_named (says refl)
  word-named (entry.Judged sender verdict.Invalid deviation) says = none_named (says refl)
  word-named (entry.Judged sender verdict.Incorrect deviation) says = none_named (says refl)
  word-named (entry.Judged sender verdict.Tentative deviation) says = none_named (says refl)
  word-named (entry.Judged sender verdict.Denied deviation) says = none_named (says refl)
  word-named (entry.Left reason.Denied peer) says = refl
  word-named (entry.Left reason.Unacknowledged peer) says = refl
  word-named (entry.Left reason.Clique peer) says = refl

  came_few : (o : Option Delivered) → length before < SLOT_LIMIT
      → IfSome (option_map (number_delivered list script (row ∷ before) k) o) (λ i. i < 10 ^ message_digits)
  came_few None early = tt
  came_few (Some d) early = omega (arith, in_messages-few list script (row ∷ before) k d.sender)

  -- it has at most six digits
  number-named : (e : Entry) → length before < SLOT_LIMIT → IfSome (message_of e) (λ i. i < 10 ^ message_digits)
      → IfSome (message_shown list script row before k e) (λ i. i < 10 ^ message_digits)
  number-named (entry.Sent message) early sent = sent
  number-named (entry.Judged sender v deviation) early sent = came_few came early
  number-named e early sent = tt

sent_few : (list : Medl) (script : Script) (slot k : ℕ) (message : Option ℕ) → IsValid list
    → IsValidScript list script → slot < SLOT_LIMIT → is_legal_message list script slot k message ≡ true
    → IfSome message (λ i. i < 10 ^ message_digits)
sent_few list script slot k None valid script_valid early legal = tt
sent_few list script slot k (Some i) valid script_valid early legal =
    let newest = newest_number (out_messages list script k slot) in
    let parts = and_parts (nat_le (newest_number (messages_before list script k slot)) i) (nat_le i newest) legal in
    omega (arith, leb-true i newest parts.1, few_messages list script k (suc slot) valid script_valid)

-- Members.

members-word : (list : Medl) (k : ℕ) (diary : Diary) → IsValid list
    → HasWord (length list.slots) (members_of list k diary)
members-word list k diary valid =
    let n = length list.slots in
    elim_both (is_active diary) _ [] (HasWord n)
    (HasWord-filter n (is_good k diary) n (omega arith) (nodes-most list valid)) (HasWord-nil n)

bits_in_bytes : (wide : Bool) (n word : ℕ) → n ≤ 8 * member_bytes wide → word < 2 ^ n → word < 256 ^ member_bytes wide
bits_in_bytes true n word few small =
    let more : 2 ^ n ≤ 2 ^ 24 = pow-le-pow_right (zero-lt-suc 1) few in omega (arith, small, more)
bits_in_bytes false n word few small =
    let more : 2 ^ n ≤ 2 ^ 16 = pow-le-pow_right (zero-lt-suc 1) few in omega (arith, small, more)

-- members of a cluster of so many
record AreMembers (list : Medl) (members : List ℕ) : Type 0 where
  fits : FitsMembers (member_bytes (is_wide list)) members
  are : are_members (length list.slots) members ≡ true

members-are : (list : Medl) (k : ℕ) (diary : Diary) → IsValid list → AreMembers list (members_of list k diary)
members-are list k diary valid =
    let n = length list.slots in
    let members = members_of list k diary in
    let has = members-word list k diary valid in
    let most = nodes-most list valid in
    let small = set_bits-small n members has most in
    record {
      fits = record {
        set = sym (members_in-set_bits n members has most);
        few = bits_in_bytes (is_wide list) n (set_bits members) valid.count.1 small;
      };
      are = λ i. le-leb n 24 most i && lt-ltb (set_bits members) (2 ^ n) small i;
    }

-- What else is shown.

offset-fits : (z : ℤ) → unsigned_abs z ≤ SLOT_LIMIT * 2 ^ 38 → FitsOffset z
offset-fits (pos n) small = omega (arith, small)
offset-fits (negsuc n) small = omega (arith, small)

ack-fits : (n : ℕ) (a : Ack) → n ≤ 24 → IsDoubtIn n a → FitsAck a
ack-fits n ack.Closed few inside = tt
ack-fits n ack.First few inside = tt
ack-fits n (ack.Doubt x) few inside = omega (arith, few, inside)

doubt-below : (n : ℕ) (a : Ack) → IsDoubtIn n a → is_below n (doubted a) ≡ true
doubt-below n ack.Closed inside = refl
doubt-below n ack.First inside = refl
doubt-below n (ack.Doubt x) inside = lt-ltb x n inside

peer-below : (n : ℕ) (peer : Option ℕ) → IfSome peer (λ p. p < n) → is_below n peer ≡ true
peer-below n None inside = refl
peer-below n (Some p) inside = lt-ltb p n inside

peer-fits : (n : ℕ) (peer : Option ℕ) → n ≤ 24 → IfSome peer (λ p. p < n) → IfSome peer (λ p. p < 256)
peer-fits n None few inside = tt
peer-fits n (Some p) few inside = omega (arith, few, inside)

digits-are : (wide : Bool) (version : ℕ) → wide ≡ (version == 2) → has_digits wide version ≡ true
digits-are true version is = sym is
digits-are false version is = ap not (sym is)

-- The line.

pub record IsNodeRead (list : Medl) (script : Script) (row : List Entry) (before : History) (k : ℕ) : Type 0 where
  pub value : value_of (node_line_of list script row before k)
      ≡ Some (line_of_node list (length before) k (state_of (node_past list script (row ∷ before) k))
      (message_shown list script row before k (entry_of row k)))
  pub due : is_node_line (head_of_run list script) (length before) k
      (line_of_node list (length before) k (state_of (node_past list script (row ∷ before) k))
      (message_shown list script row before k (entry_of row k))) ≡ true

pub node-read : (list : Medl) (script : Script) (new : SlotNumbers) (numbers : Numbers) (k : ℕ)
    → IsValid list → IsValidScript list script → length numbers < script.slots → IsLegal list script (new ∷ numbers)
    → k < length list.slots
    → IsNodeRead list script (row_of_world list script new numbers) (world list script numbers) k
node-read list script new numbers k valid script_valid within legal node =
    let n = length list.slots in
    let before = world list script numbers in
    let row = row_of_world list script new numbers in
    let slot = length before in
    let past = node_past list script (row ∷ before) k in
    let state = state_of past in
    let e = entry_of row k in
    let message = message_shown list script row before k e in
    let same = length-world list script numbers in
    let early : slot < SLOT_LIMIT = omega (arith, same, script_valid.slots, within) in
    let most = nodes-most list valid in
    let shown = shown-in list script (new ∷ numbers) k valid node in
    let small = small_states list script (new ∷ numbers) k valid script_valid (omega (arith, within)) node in
    let members = members-are list k (diary_of (row ∷ before) k) valid in
    let s = slot_after list script before in
    let frames = frames_in s (messages_of list script (length before) row) in
    let sent = sent_few list script (length numbers) k (message_of e) valid script_valid (omega (arith, same, early))
    (legal-message list script new numbers k legal node) in
    let fits : FitsNode slot k (word_of e) (peer_of k e) message (is_wide list) state.members state.accepted
    state.rejected state.ack state.offset = record {
      slot = omega (arith, early);
      node = omega (arith, node, most);
      word = word-named list script row before k e
          (delivers list k (node_of s k).past (hearing_in s frames k) e);
      peer = peer-fits n (peer_of k e) most shown.peer;
      message = number-named list script row before k e early sent;
      members = members.fits;
      accepted = omega (arith, shown.accepted, most);
      rejected = omega (arith, shown.rejected, most);
      ack = ack-fits n state.ack most shown.doubt;
      offset = offset-fits state.offset (omega (arith, small.offset));
    } in
    record {
      value = ap value_of (node-value list slot k state message)
          ∙ value-again (line_of_node list slot k state message) fits;
      due = λ i.
          eq-eqb slot slot refl i && eq-eqb k k refl i && lt-ltb k n node i
          && digits-are (is_wide list) list.version refl i
          && peer-below n (peer_of k e) shown.peer i && members.are i && doubt-below n state.ack shown.doubt i;
    }
