-- The lines of what hosts write and read in a slot of a run are read, and are due.
use Rattle.std.proofs.Common.{◌≡◌, ℕ, zero, suc, ◌+◌, ◌*◌, ◌<◌, ◌≤◌, Bool, true, false, cond, List, [], ◌∷◌}
use Rattle.std.proofs.Common.{All, length, get_or, Option, Some, None, IfSome, refl, sym, ap, subst, ◌∙◌, arith}
use Rattle.std.proofs.Common.{length-append}
use Rattle.std.specs.Prelude.{◌==◌, count_by, nat_le, slice_get, unwrap_or}
use Rattle.std.specs.Int.{w64, to_be_bytes}
use Rattle.std.specs.List.{AllByRecursion, flat_map, list_all}
use Rattle.std.proofs.lemmas.Bool.{and_parts, cond_both, leb-true, lt-ltb}
use Rattle.std.proofs.lemmas.List.Elements.{All-nil, All-cons, All-append, All-replicate, All-from_recursion}
use Rattle.std.proofs.lemmas.List.Elements.{recursion_from_All}
use Rattle.std.proofs.lemmas.List.Sums.{sum_by-cons}
use Rattle.ttp_world.specs.declared.medl.Medl.{Medl}
use Rattle.ttp_world.specs.declared.medl.SlotPlan.{SlotPlan}
use Rattle.ttp_world.specs.declared.script.Event.{Event}
use Rattle.ttp_world.specs.declared.script.Event.TheVariants as event
use Rattle.ttp_world.specs.declared.script.Script.{Script}
use Rattle.ttp_world.specs.declared.script.TheConstants.{HOST_EVENT_LIMIT, SLOT_LIMIT}
use Rattle.ttp_world.specs.declared.script.Source.{Source}
use Rattle.ttp_world.specs.declared.script.Source.TheVariants as source
use Rattle.ttp_world.specs.Diary.{History}
use Rattle.ttp_world.specs.Legal.{IsLegal, ReadMessage, is_legal_read, read_messages}
use Rattle.ttp_world.specs.Medl.{IsValid, IsValidSlot, no_plan, plan_at}
use Rattle.ttp_world.specs.Messages.{newest_number, ring_messages}
use Rattle.ttp_world.specs.Outgoing.{messages_before, zeros_of}
use Rattle.ttp_world.specs.Script.{HostWrite, IsSource, IsValidScript, messages_written}
use Rattle.ttp_world.specs.Script.{payload_of_host, reads_in, write_in}
use Rattle.ttp_world.specs.Script.{writes_in}
use Rattle.ttp_world.specs.Trace.{read_line, write_line}
use Rattle.ttp_world.specs.World.{Numbers, SlotNumbers, world}
use Rattle.ttp_world.proofs.HostMessages.{IsValidWrite, few_messages, filter_map-each, valid_writes}
use Rattle.ttp_world.proofs.HostPayloads.{AreBytesWritten, HasRead, IsMessageOf, messages_read}
use Rattle.ttp_world.proofs.LegalNumbers.{ring_messages-few, status_messages-count}
use Rattle.ttp_world.proofs.LegalShapes.{legal-reads}
use Rattle.ttp_world.proofs.Lists.{nodes-most}
use Rattle.ttp_world.proofs.Worlds.{length-world}
use Rattle.line_text.specs.HostLines.{AreBytes, message_line}
use Rattle.line_reader.specs.declared.trace_line.TraceLine.TheVariants as line
use Rattle.line_reader.specs.TraceLines.{FitsRead, FitsWrite}
use Rattle.line_reader.specs.WorldLines.{bytes_of_message}
use Rattle.lab_laws.proofs.FromBelow.{status-value, value-again, host_events-most, host_events-next}
use Rattle.whole_trace.specs.Due.{is_below, source_node}
use Rattle.whole_trace.specs.Whole.{value_of}
use Rattle.lab_laws.specs.TakenTrace.{IsOfBytes}
use Rattle.lab_laws.proofs.StatusWords.{AreWords, statuses-small}

-- Writes.

-- behind so many writes of the slot, each further one
pub record IsWriteRead (list : Medl) (script : Script) (slot earlier : ℕ) (w : HostWrite) : Type 0 where
  pub host : w.host < length list.slots
  pub value : (i : ℕ) → i ≤ earlier → value_of (write_line list script slot w.host i)
      ≡ Some (line.Write slot w.host (length (messages_before list script w.host slot) + i))

write-read : (list : Medl) (script : Script) (slot : ℕ) (w : HostWrite) → IsValid list → IsValidScript list script
    → slot < SLOT_LIMIT → IsValidWrite list w → IsWriteRead list script slot HOST_EVENT_LIMIT w
write-read list script slot w valid valid_script early is = record {
  host = is.node;
  value = λ i few.
      let number = length (messages_before list script w.host slot) + i in
      let fits : FitsWrite slot w.host number = record {
        slot = omega (arith, early);
        host = omega (arith, is.node, nodes-most list valid);
        number = omega (arith, few, early, few_messages list script w.host slot valid valid_script);
      } in
      value-again (line.Write slot w.host number) fits;
}

writes-each : (list : Medl) (script : Script) (slot : ℕ) (ws : List HostWrite) → IsValid list
    → IsValidScript list script → slot < SLOT_LIMIT → AllByRecursion (IsValidWrite list) ws
    → AllByRecursion (IsWriteRead list script slot HOST_EVENT_LIMIT) ws
writes-each list script slot [] valid valid_script early are = tt
writes-each list script slot (w ∷ ws) valid valid_script early are = (
  write-read list script slot w valid valid_script early are.0,
  writes-each list script slot ws valid valid_script early are.1,
)

pub writes-read : (list : Medl) (script : Script) (slot : ℕ) → IsValid list
    → IsValidScript list script → slot < SLOT_LIMIT
    → AllByRecursion (IsWriteRead list script slot HOST_EVENT_LIMIT) (writes_in script slot)
writes-read list script slot valid valid_script early =
    writes-each list script slot (writes_in script slot) valid valid_script early
    (recursion_from_All (IsValidWrite list) (writes_in script slot) (valid_writes list script slot valid_script))

-- there are not more of them than that
pub writes-few : (list : Medl) (script : Script) (slot : ℕ) → IsValidScript list script
    → length (writes_in script slot) ≤ HOST_EVENT_LIMIT
writes-few list script slot valid_script =
    omega (
      arith,
      host_events-next script.events slot,
      host_events-most script.events (suc slot),
      valid_script.host_event_count,
    )

pub host_writes-few : (k : ℕ) (ws : List HostWrite) → count_by (λ (w : HostWrite). w.host == k) ws ≤ length ws
host_writes-few k [] = omega arith
host_writes-few k (w ∷ ws) =
    let one : (b : Bool) → cond b 1 0 ≤ 1 = elim [ true ↦ omega arith | false ↦ omega arith ] in
    omega (
      arith,
      sum_by-cons (λ (x : HostWrite). cond (x.host == k) 1 0) w ws,
      one (w.host == k),
      host_writes-few k ws,
    )

-- What hosts write is bytes.

write_bytes : (slot : ℕ) (e : Event) → IsOfBytes e → IfSome (write_in slot e) (λ w. AreBytes w.payload)
write_bytes slot (event.Write node at payload) bytes =
    cond_both (at == slot) (Some (record { host = node; payload = payload })) None
    (λ (o : Option HostWrite). IfSome o (λ w. AreBytes w.payload)) (λ now. bytes) (λ other. tt)
write_bytes slot (event.Send node channels f from to) bytes = tt
write_bytes slot e bytes = tt

host_bytes : (k : ℕ) (w : HostWrite) → AreBytes w.payload → IfSome (payload_of_host k w) AreBytes
host_bytes k w bytes =
    cond_both (w.host == k) (Some w.payload) None (λ (o : Option (List ℕ)). IfSome o AreBytes) (λ own. bytes)
    (λ other. tt)

pub bytes_written : (list : Medl) (script : Script) (slot : ℕ) → All IsOfBytes script.events
    → AreBytesWritten list script slot
bytes_written list script zero bytes k =
    All-cons AreBytes (zeros_of list k) [] (All-replicate (λ b. b < 256) (plan_at list k).payload 0 (omega arith))
    (All-nil AreBytes)
bytes_written list script (suc slot) bytes k =
    All-append AreBytes (messages_before list script k slot) (messages_written script k slot)
    (bytes_written list script slot bytes k)
    (filter_map-each (payload_of_host k) (λ (w : HostWrite). AreBytes w.payload) AreBytes (writes_in script slot)
    (host_bytes k)
    (filter_map-each (write_in slot) IsOfBytes (λ (w : HostWrite). AreBytes w.payload) script.events (write_bytes slot)
    bytes))

-- Messages as bytes.

eight_bytes : (w : ℕ) → AllByRecursion (λ b. b < 256) (to_be_bytes w64 w)
eight_bytes w = (
  omega arith,
  (
    omega arith,
    (omega arith, (omega arith, (omega arith, (omega arith, (omega arith, (omega arith, tt)))))),
  ),
)

record AreEights (words message : List ℕ) : Type 0 where
  bytes : AreBytes message
  size : length message ≡ 8 * length words

eights : (words : List ℕ) → AreEights words (flat_map (to_be_bytes w64) words)
eights [] = record { bytes = All-nil (λ b. b < 256); size = omega arith }
eights (w ∷ words) =
    let others = eights words in
    record {
      bytes = All-append (λ b. b < 256) (to_be_bytes w64 w) (flat_map (to_be_bytes w64) words)
          (All-from_recursion (λ b. b < 256) (to_be_bytes w64 w) (eight_bytes w)) others.bytes;
      size = omega (arith, length-append (to_be_bytes w64 w) (flat_map (to_be_bytes w64) words), others.size);
    }

-- a message of a source can be told in a line
abbrev IsTold : Source → List ℕ → Type 0
IsTold source.Status message = (length message ≡ 4) × AreWords message
IsTold (source.Node p) message = (p < 256) × (1 ≤ length message) × (length message ≤ 240) × AreBytes message

told-read : (slot host : ℕ) (from : Source) (number : ℕ) (message : List ℕ) → slot < SLOT_LIMIT → host < 256
    → number ≤ SLOT_LIMIT → IsTold from message
    → value_of (message_line slot host from number message)
    ≡ Some (line.Read slot host from number (bytes_of_message from message))
told-read slot host source.Status number words early node few told =
    let bytes = flat_map (to_be_bytes w64) words in
    let fits : FitsRead slot host source.Status number bytes = record {
      slot = omega (arith, early);
      host = node;
      number = omega (arith, few);
      source = omega (arith, (eights words).size, told.0);
      payload = (eights words).bytes;
    } in
    ap value_of (status-value slot host number words told.1)
    ∙ value-again (line.Read slot host source.Status number bytes) fits
told-read slot host (source.Node p) number payload early node few told =
    let fits : FitsRead slot host (source.Node p) number payload = record {
      slot = omega (arith, early);
      host = node;
      number = omega (arith, few);
      source = (told.0, told.1, told.2);
      payload = told.3;
    } in
    value-again (line.Read slot host (source.Node p) number payload) fits

-- Reads.

pub record IsReadRead (list : Medl) (script : Script) (slot : ℕ) (after : History) (r : ReadMessage) : Type 0 where
  pub host : r.read.host < length list.slots
  pub from : is_below (length list.slots) (source_node r.read.source) ≡ true
  pub value : value_of (read_line list script slot after r)
      ≡ Some (line.Read slot r.read.host r.read.source r.number (bytes_of_message r.read.source
      (get_or (ring_messages list script after r.read.host r.read.source) r.number [])))

source-below : (list : Medl) (host : ℕ) (from : Source) → IsSource list host from
    → is_below (length list.slots) (source_node from) ≡ true
source-below list host source.Status is = refl
source-below list host (source.Node p) is = lt-ltb p (length list.slots) is.0

-- a read got a message up to the newest of its ring
abbrev IsOfRing : Medl → Script → History → ReadMessage → Type 0
IsOfRing list script after r =
    r.number ≤ newest_number (ring_messages list script after r.read.host r.read.source)

of_rings : (list : Medl) (script : Script) (before after : History) (rs : List ReadMessage)
    → list_all (is_legal_read list script before after) rs ≡ true → AllByRecursion (IsOfRing list script after) rs
of_rings list script before after [] legal = tt
of_rings list script before after (r ∷ rs) legal =
    let parts = and_parts (is_legal_read list script before after r)
    (list_all (is_legal_read list script before after) rs) legal in
    let low = nat_le (newest_number (ring_messages list script before r.read.host r.read.source)) r.number in
    let newest = newest_number (ring_messages list script after r.read.host r.read.source) in (
      leb-true r.number newest (and_parts low (nat_le r.number newest) parts.0).1,
      of_rings list script before after rs parts.1,
    )

plan-few : (rounds modes : ℕ) (plans : List SlotPlan) (k : ℕ) → AllByRecursion (IsValidSlot rounds modes) plans
    → (unwrap_or (slice_get plans k) no_plan).payload < 241
plan-few rounds modes [] k valid = omega arith
plan-few rounds modes (plan ∷ plans) zero valid = omega (arith, valid.0.payload)
plan-few rounds modes (plan ∷ plans) (suc k) valid = plan-few rounds modes plans k valid.1

module _ (list : Medl) (script : Script) (new : SlotNumbers) (numbers : Numbers) (valid : IsValid list)
    (valid_script : IsValidScript list script) (within : length numbers < script.slots) where
  abbrev after : History
  after = world list script (new ∷ numbers)

  is_told : (host : ℕ) (from : Source) (number : ℕ) → host < length list.slots → IsSource list host from
      → number ≤ newest_number (ring_messages list script after host from)
      → IsMessageOf list from (get_or (ring_messages list script after host from) number [])
      → IsTold from (get_or (ring_messages list script after host from) number [])
  is_told host source.Status number node source few is = (
    is,
    statuses-small list script (new ∷ numbers) host valid (omega (arith, within, valid_script.slots)) node number []
        (omega (arith, few, status_messages-count list script after host)),
  )
  is_told host (source.Node p) number node source few is = (
    omega (arith, source.0, nodes-most list valid),
    omega (arith, is.1, source.1),
    omega (arith, is.1, plan-few list.rounds list.modes list.slots p valid.slots),
    is.0,
  )

  read-read : (r : ReadMessage) → HasRead list script after r → IsOfRing list script after r
      → IsReadRead list script (length (world list script numbers)) after r
  read-read r has few =
      let message = get_or (ring_messages list script after r.read.host r.read.source) r.number [] in
      let slot = length (world list script numbers) in
      let count = length-world list script numbers in
      let ring = ring_messages-few list script after r.read.host r.read.source in
      record {
        host = has.read.0;
        from = source-below list r.read.host r.read.source has.read.1;
        value = told-read slot r.read.host r.read.source r.number message
            (omega (arith, count, within, valid_script.slots)) (omega (arith, has.read.0, nodes-most list valid))
            (omega (arith, few, ring, count, within, valid_script.slots))
            (is_told r.read.host r.read.source r.number has.read.0 has.read.1 few has.message);
      }

  reads-each : (rs : List ReadMessage) → AllByRecursion (HasRead list script after) rs
      → AllByRecursion (IsOfRing list script after) rs
      → AllByRecursion (IsReadRead list script (length (world list script numbers)) after) rs
  reads-each [] have few = tt
  reads-each (r ∷ rs) have few = (read-read r have.0 few.0, reads-each rs have.1 few.1)

  pub reads-read : All IsOfBytes script.events → IsLegal list script (new ∷ numbers)
      → AllByRecursion (IsReadRead list script (length (world list script numbers)) after)
      (read_messages (reads_in script (length (world list script numbers))) new.read)
  reads-read bytes legal =
      subst (λ (at : ℕ). AllByRecursion (IsReadRead list script (length (world list script numbers)) after)
      (read_messages (reads_in script at) new.read)) (sym (length-world list script numbers))
      (reads-each (read_messages (reads_in script (length numbers)) new.read)
      (messages_read list script new numbers legal
      (bytes_written list script (suc (length numbers)) bytes) valid_script)
      (of_rings list script (world list script numbers) after
      (read_messages (reads_in script (length numbers)) new.read) (legal-reads list script new numbers legal)))
