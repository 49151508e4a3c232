-- Each message that a host reads is one of its source: four words of a status, and else bytes, as many as the list
-- gives the node that sent them.
use Rattle.ttp_world.proofs.Words.{◌≡◌, ℕ, suc, ◌<◌, ◌≤◌, true, List, [], ◌∷◌, ◌++◌, length, get_or, Option, Some, None}
use Rattle.ttp_world.proofs.Words.{IfSome, refl, sym, ap, subst, ◌∙◌, arith, length-append, is_some, ◌==◌, nat_le, map}
use Rattle.ttp_world.proofs.Words.{replicate, AllByRecursion, list_all, and_parts, cond_both, eqb-true, leb-true}
use Rattle.ttp_world.proofs.Words.{length-replicate, All-nil, All-cons, All-append, All-head, All-tail, Medl, Chosen}
use Rattle.ttp_world.proofs.Words.{Delivered, Event, Script, Source, History, entry_of, IsLegal, ReadMessage}
use Rattle.ttp_world.proofs.Words.{is_legal_read, read_messages, plan_at, message_of, delivered_of, in_messages}
use Rattle.ttp_world.proofs.Words.{new_messages, newest_number, ring_messages, status_messages, status_words, zeros_of}
use Rattle.ttp_world.proofs.Words.{messages_before, IsValidEvent, IsValidScript, messages_written, read_in, reads_in}
use Rattle.ttp_world.proofs.Words.{Numbers, SlotNumbers, delivered_in, frames_in, messages_chosen, slot_after, world}
use Rattle.ttp_world.proofs.Words.{node_past}
use Rattle.std.proofs.Common.{All}
use Rattle.std.proofs.lemmas.List.Elements.{All-replicate}
use Rattle.std.proofs.lemmas.List.Elements.{recursion_from_All}
use Rattle.ttp_world.specs.declared.host_lines.HostRead.{HostRead}
use Rattle.ttp_world.specs.declared.script.Event.TheVariants as event
use Rattle.ttp_world.specs.declared.script.Source.TheVariants as source
use Rattle.ttp_world.specs.Script.{IsSource}
use Rattle.ttp_world.proofs.Carried.{delivered_of-told}
use Rattle.ttp_world.proofs.DeliveredSizes.{HasSendersSize, delivered-size}
use Rattle.ttp_world.proofs.FrameBytes.{AreBytes, BringsBytes, IsByte, delivered-bytes}
use Rattle.ttp_world.proofs.HostMessages.{filter_map-each}
use Rattle.ttp_world.proofs.LegalShapes.{legal-older, legal-reads, legal-shapes}
use Rattle.ttp_world.proofs.Worlds.{length-world, row_of_world}

-- a message of a source: a status has four words, and a payload is bytes, as many as the list gives its node
abbrev pub IsMessageOf : Medl → Source → List ℕ → Type 0
IsMessageOf list source.Status message = length message ≡ 4
IsMessageOf list (source.Node p) message = AreBytes message × (length message ≡ (plan_at list p).payload)

-- what all hosts wrote in the first slots, so many, is bytes
abbrev pub AreBytesWritten : Medl → Script → ℕ → Type 0
AreBytesWritten list script slot = (k : ℕ) → All AreBytes (messages_before list script k slot)

front-of : {X : Type 0} (P : X → Type 0) (xs ys : List X) → All P (xs ++ ys) → All P xs
front-of P [] ys all = All-nil P
front-of P (x ∷ xs) ys all =
    All-cons P x xs (All-head P x (xs ++ ys) all) (front-of P xs ys (All-tail P x (xs ++ ys) all))

earlier : (list : Medl) (script : Script) (slot : ℕ) → AreBytesWritten list script (suc slot)
    → AreBytesWritten list script slot
earlier list script slot bytes k =
    front-of AreBytes (messages_before list script k slot) (messages_written script k slot) (bytes k)

-- One delivery.

new-payloads : (list : Medl) (p : ℕ) (delivered : Option Delivered) → IfSome delivered BringsBytes
    → IfSome delivered (HasSendersSize list) → All (IsMessageOf list (source.Node p)) (new_messages p delivered)
new-payloads list p None bytes size = All-nil (IsMessageOf list (source.Node p))
new-payloads list p (Some d) bytes size =
    let P = IsMessageOf list (source.Node p) in
    cond_both (d.sender == p) (d.payload ∷ []) [] (All P)
    (λ is. All-cons P d.payload [] (bytes, size ∙ ap (λ j. (plan_at list j).payload) (eqb-true d.sender p is))
    (All-nil P))
    (λ other. All-nil P)

delivered_of-world-size : (list : Medl) (script : Script) (new : SlotNumbers) (numbers : Numbers) (k : ℕ)
    → IsLegal list script (new ∷ numbers) → k < length list.slots
    → IfSome (delivered_of list script (world list script numbers) (row_of_world list script new numbers) k)
    (HasSendersSize list)
delivered_of-world-size list script new numbers k legal node =
    let history = world list script numbers in
    let row = row_of_world list script new numbers in
    let s = slot_after list script history in
    let sent = (legal-shapes list script (new ∷ numbers) legal).0.sent in
    let chosen = messages_chosen list script (length numbers) new.sent in
    let same : messages_chosen list script (length history) (map message_of row) ≡ chosen =
    λ i. messages_chosen list script (length-world list script numbers i) (sym sent i) in
    let told : delivered_of list script history row k ≡ delivered_in s (frames_in s chosen) k (entry_of row k) =
    delivered_of-told list script history row k
    ∙ ap (λ (cs : List Chosen). delivered_in s (frames_in s cs) k (entry_of row k)) same in
    subst (λ (o : Option Delivered). IfSome o (HasSendersSize list)) (sym told)
    (delivered-size list script history chosen k node)

-- All that has come from a node.

pub in_messages-payloads : (list : Medl) (script : Script) (numbers : Numbers) (k p : ℕ)
    → IsLegal list script numbers → AreBytesWritten list script (length numbers) → k < length list.slots
    → All (IsMessageOf list (source.Node p)) (in_messages list script (world list script numbers) k p)
in_messages-payloads list script [] k p legal bytes node =
    let P = IsMessageOf list (source.Node p) in
    let size = (plan_at list p).payload in
    All-cons P (zeros_of list p) [] (All-replicate IsByte size 0 (omega arith), length-replicate size 0) (All-nil P)
in_messages-payloads list script (new ∷ numbers) k p legal bytes node =
    let history = world list script numbers in
    let row = row_of_world list script new numbers in
    let delivered = delivered_of list script history row k in
    All-append (IsMessageOf list (source.Node p)) (in_messages list script history k p) (new_messages p delivered)
    (in_messages-payloads list script numbers k p (legal-older list script new numbers legal)
    (earlier list script (length numbers) bytes) node)
    (new-payloads list p delivered
    (delivered-bytes list script history row k
    (subst (λ n. AreBytesWritten list script (suc n)) (sym (length-world list script numbers)) bytes))
    (delivered_of-world-size list script new numbers k legal node))

pub in_messages-some : (list : Medl) (script : Script) (history : History) (k p : ℕ)
    → 1 ≤ length (in_messages list script history k p)
in_messages-some list script [] k p = omega arith
in_messages-some list script (row ∷ history) k p =
    let delivered = delivered_of list script history row k in
    omega (
      arith,
      in_messages-some list script history k p,
      length-append (in_messages list script history k p) (new_messages p delivered),
    )

-- All that a node has published.

status_messages-words : (list : Medl) (script : Script) (history : History) (k : ℕ)
    → All (IsMessageOf list source.Status) (status_messages list script history k)
status_messages-words list script [] k =
    let P = IsMessageOf list source.Status in All-cons P (replicate 4 0) [] refl (All-nil P)
status_messages-words list script (row ∷ history) k =
    let P = IsMessageOf list source.Status in
    All-append P (status_messages list script history k) _ (status_messages-words list script history k)
    (All-cons P _ [] refl (All-nil P))

status_messages-some : (list : Medl) (script : Script) (history : History) (k : ℕ)
    → 1 ≤ length (status_messages list script history k)
status_messages-some list script [] k = omega arith
status_messages-some list script (row ∷ history) k =
    let new = status_words list (length history) (node_past list script (row ∷ history) k)
    (is_some (delivered_of list script history row k)) in
    omega (
      arith,
      status_messages-some list script history k,
      length-append (status_messages list script history k) (new ∷ []),
    )

-- What hosts read in a slot.

-- a host of the list reads a ring that it has
abbrev pub IsReadOf : Medl → ℕ → Source → Type 0
IsReadOf list k from = (k < length list.slots) × IsSource list k from

abbrev IsValidRead : Medl → HostRead → Type 0
IsValidRead list r = IsReadOf list r.host r.source

valid_read : (list : Medl) (script : Script) (slot : ℕ) (e : Event) → IsValidEvent list script e
    → IfSome (read_in slot e) (IsValidRead list)
valid_read list script slot (event.Read node at from) valid =
    cond_both (at == slot) (Some (record { host = node; source = from })) None
    (λ (o : Option HostRead). IfSome o (IsValidRead list)) (λ now. (valid.0, valid.2)) (λ other. tt)
valid_read list script slot (event.Send node channels f from to) valid = tt
valid_read list script slot e valid = tt

pub reads_of_valid : (list : Medl) (script : Script) (slot : ℕ) → IsValidScript list script
    → AllByRecursion (λ (r : HostRead). IsReadOf list r.host r.source) (reads_in script slot)
reads_of_valid list script slot valid =
    recursion_from_All (IsValidRead list) (reads_in script slot)
    (filter_map-each (read_in slot) (IsValidEvent list script) (IsValidRead list) script.events
    (valid_read list script slot) valid.events)

-- a read that got a message of its source
pub record HasRead (list : Medl) (script : Script) (after : History) (r : ReadMessage) : Type 0 where
  pub read : IsReadOf list r.read.host r.read.source
  pub message : IsMessageOf list r.read.source
      (get_or (ring_messages list script after r.read.host r.read.source) r.number [])

module _ (list : Medl) (script : Script) (new : SlotNumbers) (numbers : Numbers)
    (legal : IsLegal list script (new ∷ numbers)) (bytes : AreBytesWritten list script (suc (length numbers))) where
  abbrev before : History
  before = world list script numbers

  abbrev after : History
  after = world list script (new ∷ numbers)

  message_read : (host : ℕ) (from : Source) (i : ℕ) → host < length list.slots
      → i ≤ newest_number (ring_messages list script after host from)
      → IsMessageOf list from (get_or (ring_messages list script after host from) i [])
  message_read host source.Status i node within =
      status_messages-words list script after host i []
      (omega (arith, within, status_messages-some list script after host))
  message_read host (source.Node p) i node within =
      in_messages-payloads list script (new ∷ numbers) host p legal bytes node i []
      (omega (arith, within, in_messages-some list script after host p))

  all_read : (reads : List HostRead) (ns : List ℕ) → AllByRecursion (IsValidRead list) reads
      → list_all (is_legal_read list script before after) (read_messages reads ns) ≡ true
      → AllByRecursion (HasRead list script after) (read_messages reads ns)
  all_read [] ns valid all = tt
  all_read (r ∷ rs) [] valid all = tt
  all_read (r ∷ rs) (n ∷ ns) valid all =
      let test = is_legal_read list script before after in
      let first : ReadMessage = record { read = r; number = n } in
      let parts = and_parts (test first) (list_all test (read_messages rs ns)) all in
      let low = nat_le (newest_number (ring_messages list script before r.host r.source)) n in
      let high = newest_number (ring_messages list script after r.host r.source) in (
        record {
          read = valid.0;
          message = message_read r.host r.source n valid.0.0
              (leb-true n high (and_parts low (nat_le n high) parts.0).1);
        },
        all_read rs ns valid.1 parts.1,
      )

  -- each read of the newest slot got a message of its source
  pub messages_read : IsValidScript list script
      → AllByRecursion (HasRead list script after) (read_messages (reads_in script (length numbers)) new.read)
  messages_read valid =
      all_read (reads_in script (length numbers)) new.read (reads_of_valid list script (length numbers) valid)
      (legal-reads list script new numbers legal)
