-- A node's line after a slot tells of the messages that were chosen in the slot only the number of its own.
use Rattle.trace_check.proofs.Words.{◌≡◌, ℕ, ◌<◌, List, ◌∷◌, length, Option, Some, None, option_map, refl, ap, sym, ◌∙◌}
use Rattle.trace_check.proofs.Words.{none-some, same_Some, Medl, Delivered, Entry, Script, History, entry_of}
use Rattle.trace_check.proofs.Words.{message_of, delivered_of, in_messages, newest_number, state_of, member_digits}
use Rattle.trace_check.proofs.Words.{number_delivered, message_shown, node_line_of, node_past, AreRuns}
use Rattle.ttp_world.specs.declared.node.Entry.TheVariants as entry
use Rattle.ttp_world.specs.Past.{NodePast}
use Rattle.ttp_world.specs.Trace.{node_line}
use Rattle.frame_fates.specs.Alike.{unnumbered, unnumbered_past, sender_delivered}
use Rattle.trace_check.proofs.FromBelow.{runs-pasts, runs-deliveries, runs-received}

-- Entries with one number are one, if they are alike.

numbered : Option ℕ → Entry → Entry
numbered message (entry.Sent other) = entry.Sent message
numbered message entry.Off = entry.Off
numbered message entry.Waited = entry.Waited
numbered message entry.Retried = entry.Retried
numbered message entry.Gone = entry.Gone
numbered message entry.Started = entry.Started
numbered message (entry.Joined sender c deviation) = entry.Joined sender c deviation
numbered message (entry.Judged sender v deviation) = entry.Judged sender v deviation
numbered message (entry.Left why peer) = entry.Left why peer

numbered-again : (e : Entry) → numbered (message_of e) (unnumbered e) ≡ e
unfolding numbered
numbered-again (entry.Sent message) = refl
numbered-again e = refl

same-numbered : (e f : Entry) → unnumbered e ≡ unnumbered f → message_of e ≡ message_of f → e ≡ f
same-numbered e f alike same = sym (numbered-again e) ∙ (λ i. numbered (same i) (alike i)) ∙ numbered-again f

-- a past with another newest entry
abbrev with_entry : NodePast → Entry → NodePast
with_entry past e = record {
  phase = past.phase;
  entry = e;
  place = past.place;
  members = past.members;
  accepted = past.accepted;
  rejected = past.rejected;
  ack = past.ack;
  cold_start = past.cold_start;
  limit = past.limit;
  silent_slots = past.silent_slots;
  offset = past.offset;
  notes = past.notes;
}

same-past : (p q : NodePast) → unnumbered_past p ≡ unnumbered_past q → message_of p.entry ≡ message_of q.entry → p ≡ q
same-past p q alike same =
    let entries = same-numbered p.entry q.entry (ap (λ (past : NodePast). past.entry) alike) same in
    λ i. with_entry (alike i) (entries i)

-- What a line names.

module _ (list : Medl) (script : Script) (row row_too : List Entry) (history : History)
    (runs : AreRuns list script (row ∷ history) (row_too ∷ history)) where
  shown-same : (k : ℕ) (one other : Option Delivered) → sender_delivered one ≡ sender_delivered other
      → option_map (number_delivered list script (row ∷ history) k) one
      ≡ option_map (number_delivered list script (row_too ∷ history) k) other
  shown-same k None None same = refl
  shown-same k None (Some d) same = absurd (none-some d.sender same)
  shown-same k (Some d) None same = absurd (none-some d.sender (sym same))
  shown-same k (Some d) (Some e) same =
      let sender : d.sender ≡ e.sender = same_Some d.sender e.sender same in
      ap Some
      (runs-received list script (row ∷ history) (row_too ∷ history) k d.sender runs
      ∙ ap (λ p. newest_number (in_messages list script (row_too ∷ history) k p)) sender)

  message-same : (k : ℕ) (e : Entry)
      → message_shown list script row history k e ≡ message_shown list script row_too history k e
  message-same k (entry.Sent message) = refl
  message-same k entry.Off = refl
  message-same k entry.Waited = refl
  message-same k entry.Retried = refl
  message-same k entry.Gone = refl
  message-same k entry.Started = refl
  message-same k (entry.Joined sender c deviation) = refl
  message-same k (entry.Judged sender v deviation) =
      shown-same k (delivered_of list script history row k) (delivered_of list script history row_too k)
      (runs-deliveries list script row row_too history history k runs)
  message-same k (entry.Left why peer) = refl

  pub node_line-same : (k : ℕ) → k < length list.slots
      → message_of (entry_of row k) ≡ message_of (entry_of row_too k)
      → node_line_of list script row history k ≡ node_line_of list script row_too history k
  node_line-same k node same =
      let one = node_past list script (row ∷ history) k in
      let other = node_past list script (row_too ∷ history) k in
      let past : one ≡ other = same-past one other
      ((runs-pasts list script (row ∷ history) (row_too ∷ history) runs).pasts k node) same in
      (λ i. node_line (member_digits list) (length history) k (state_of (past i))
      (message_shown list script row history k (past i).entry))
      ∙ ap (node_line (member_digits list) (length history) k (state_of other)) (message-same k other.entry)
