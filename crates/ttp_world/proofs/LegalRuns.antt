-- Any legal beginning of a run can be continued legally: each frame carries its host's newest message, and each read
-- gets the newest of its ring.
use Rattle.ttp_world.proofs.Words.{◌≡◌, ℕ, zero, suc, ◌+◌, ◌<◌, ◌≤◌, Bool, true, false, ◌&&◌, List, [], ◌∷◌, ◌++◌}
use Rattle.ttp_world.proofs.Words.{length, drop, Option, Some, None, if◌then◌else◌, refl, ap, sym, ◌∙◌, subst, arith}
use Rattle.ttp_world.proofs.Words.{map, reverse, AllByRecursion, list_all, eq-eqb, le-leb, length-map}
use Rattle.ttp_world.proofs.Words.{get_or-map-range_with_len, below, Medl, Chosen, Entry, Script, History, entry_of}
use Rattle.ttp_world.proofs.Words.{is_legal_message, are_same_numbers, are_legal_messages, ReadMessage, read_messages}
use Rattle.ttp_world.proofs.Words.{is_legal_read, are_legal_reads, is_legal_slot, is_same_ring, all_reads, is_not_older}
use Rattle.ttp_world.proofs.Words.{never_fall, IsLegal, message_of, newest_number, messages_before, out_messages}
use Rattle.ttp_world.proofs.Words.{nothing_chosen, message_chosen, reads_in, BegunSlot, SlotNumbers, Numbers}
use Rattle.ttp_world.proofs.Words.{slot_after, is_loaded, chosen_of, row_in, world}
use Rattle.ttp_base.proofs.Below.{all-below}
use Rattle.ttp_world.specs.Legal.{is_between}
use Rattle.ttp_world.specs.Script.{HostRead}
use Rattle.ttp_world.proofs.Carried.{message_of-row_in, AreOfHosts}
use Rattle.ttp_world.proofs.LegalReads.{newest_of, AreUpTo, up_to-next, reads-up_to}
use Rattle.ttp_world.proofs.LegalReads.{reverse-all, same_read, not_older_if}
use Rattle.ttp_world.proofs.LegalShapes.{slots-legal, reads-never_fall}
use Rattle.ttp_world.proofs.LineLists.{each-append}
use Rattle.ttp_world.proofs.Rings.{newest_written, newest_read}
use Rattle.ttp_world.proofs.Slots.{length-row_in}
use Rattle.ttp_world.proofs.Worlds.{row_of_world, length-world, row_of_world-told}

-- Frames.

-- the number of the newest message of node k's host in a slot
abbrev pub newest_out : Medl → Script → ℕ → ℕ → ℕ
newest_out list script slot k = newest_number (out_messages list script k slot)

-- each frame that carries a message carries its host's newest
pub record AreNewest (s : BegunSlot) (chosen : List Chosen) : Type 0 where
  pub message : (k : ℕ) → k < length s.list.slots → is_loaded s k ≡ true
      → chosen_of chosen k
      ≡ message_chosen s.list s.script s.number k (Some (newest_out s.list s.script s.number k))

pub AreOfHosts-newest : (s : BegunSlot) (chosen : List Chosen) → AreNewest s chosen → AreOfHosts s chosen
AreOfHosts-newest s chosen newest = record {
  message = λ k node loaded.
      let is = newest.message k node loaded in
      is ∙ ap (λ (c : Chosen). message_chosen s.list s.script s.number k (Some c.number)) (sym is);
}

is_between-high : (low high : ℕ) → low ≤ high → is_between low high high ≡ true
is_between-high low high up = λ i. le-leb low high up i && le-leb high high (omega arith) i

is_legal_message-newest : (list : Medl) (script : Script) (slot k : ℕ)
    → is_legal_message list script slot k (Some (newest_out list script slot k)) ≡ true
is_legal_message-newest list script slot k =
    is_between-high (newest_number (messages_before list script k slot)) (newest_out list script slot k)
    (newest_written list script k slot)

is_legal_message-if : (list : Medl) (script : Script) (slot k number : ℕ) (loaded : Bool)
    → (loaded ≡ true → number ≡ newest_out list script slot k)
    → is_legal_message list script slot k (if loaded then Some number else None) ≡ true
is_legal_message-if list script slot k number true is =
    ap (λ i. is_legal_message list script slot k (Some i)) (is refl) ∙ is_legal_message-newest list script slot k
is_legal_message-if list script slot k number false is = refl

pub are_same_numbers-refl : (ns : List (Option ℕ)) → are_same_numbers ns ns ≡ true
are_same_numbers-refl [] = refl
are_same_numbers-refl (None ∷ ns) = are_same_numbers-refl ns
are_same_numbers-refl (Some n ∷ ns) = λ i. eq-eqb n n refl i && are_same_numbers-refl ns i

list_all-each : {X : Type 0} (p : X → Bool) (Q : X → Type 0) (xs : List X) → ((x : X) → Q x → p x ≡ true)
    → AllByRecursion Q xs → list_all p xs ≡ true
list_all-each p Q [] each all = refl
list_all-each p Q (x ∷ xs) each all = λ i. each x all.0 i && list_all-each p Q xs each all.1 i

messages-legal : (s : BegunSlot) (chosen : List Chosen) → AreNewest s chosen
    → are_legal_messages s.list s.script s.number (row_in s chosen) (map message_of (row_in s chosen)) ≡ true
messages-legal s chosen newest =
    let row = row_in s chosen in
    let n = length s.list.slots in
    let legal = λ (k : ℕ). is_legal_message s.list s.script s.number k (message_of (entry_of row k)) in
    let each : (k : ℕ) → k < n → legal k ≡ true = λ k node.
    ap (is_legal_message s.list s.script s.number k) (message_of-row_in s chosen k node)
    ∙ is_legal_message-if s.list s.script s.number k (chosen_of chosen k).number (is_loaded s k)
    (λ loaded. ap (λ (c : Chosen). c.number) (newest.message k node loaded)) in
    let all : list_all legal (below (length row)) ≡ true =
    ap (λ m. list_all legal (below m)) (length-row_in s chosen)
    ∙ all-below legal n each in
    λ i. are_same_numbers-refl (map message_of row) i && all i

-- Reads.

-- reads that got the newest one
abbrev AreAt : (HostRead → ℕ) → List ReadMessage → Type 0
AreAt most rs = AllByRecursion (λ r. r.number ≡ most r.read) rs

at-up_to : (most : HostRead → ℕ) (rs : List ReadMessage) → AreAt most rs → AreUpTo most rs
at-up_to most [] at = tt
at-up_to most (r ∷ rs) at = (omega (arith, at.0), at-up_to most rs at.1)

read_messages-at : (most : HostRead → ℕ) (reads : List HostRead) → AreAt most (read_messages reads (map most reads))
read_messages-at most [] = tt
read_messages-at most (read ∷ reads) = (refl, read_messages-at most reads)

is_legal_read-newest : (list : Medl) (script : Script) (row : List Entry) (history : History) (r : ReadMessage)
    → r.number ≡ newest_of list script (row ∷ history) r.read
    → is_legal_read list script history (row ∷ history) r ≡ true
is_legal_read-newest list script row history r is =
    ap (is_between (newest_of list script history r.read) (newest_of list script (row ∷ history) r.read)) is
    ∙ is_between-high (newest_of list script history r.read) (newest_of list script (row ∷ history) r.read)
    (newest_read list script row history r.read.host r.read.source)

reads-legal : (list : Medl) (script : Script) (row : List Entry) (history : History) (reads : List HostRead)
    → are_legal_reads list script history (row ∷ history) reads
    (map (newest_of list script (row ∷ history)) reads) ≡ true
reads-legal list script row history reads =
    let newest = newest_of list script (row ∷ history) in
    let many = eq-eqb (length reads) (length (map newest reads)) (sym (length-map reads newest)) in
    let each = list_all-each (is_legal_read list script history (row ∷ history)) (λ r. r.number ≡ newest r.read)
    (read_messages reads (map newest reads)) (is_legal_read-newest list script row history)
    (read_messages-at newest reads) in
    λ i. many i && each i

-- Reads never fall.

-- a read of the newest message is not older than one that got no newer
is_not_older-newest : (most : HostRead → ℕ) (r earlier : ReadMessage) → r.number ≡ most r.read
    → earlier.number ≤ most earlier.read → is_not_older r earlier ≡ true
is_not_older-newest most r earlier at up =
    not_older_if (is_same_ring r.read earlier.read) earlier.number r.number
    (λ same. omega (arith, up, at, ap most (same_read r.read earlier.read same)))

never_fall-newest : (most : HostRead → ℕ) (rs earlier : List ReadMessage) → AreAt most rs → AreUpTo most earlier
    → never_fall earlier ≡ true → never_fall (rs ++ earlier) ≡ true
never_fall-newest most [] earlier at up falls = falls
never_fall-newest most (r ∷ rs) earlier at up falls =
    let others = each-append (λ e. e.number ≤ most e.read) rs earlier (at-up_to most rs at.1) up in
    let here = list_all-each (is_not_older r) (λ e. e.number ≤ most e.read) (rs ++ earlier)
    (λ e late. is_not_older-newest most r e at.0 late) others in
    λ i. here i && never_fall-newest most rs earlier at.1 up falls i

-- The slot after legal numbers.

-- the numbers of a slot of this row whose reads get the newest messages
abbrev pub newest_numbers : Medl → Script → History → List Entry → SlotNumbers
newest_numbers list script history row = record {
  sent = map message_of row;
  read = map (newest_of list script (row ∷ history)) (reads_in script (length history));
}

pub legal-next : (list : Medl) (script : Script) (numbers : Numbers) (chosen : List Chosen)
    → IsLegal list script numbers → AreNewest (slot_after list script (world list script numbers)) chosen
    → IsLegal list script
    (newest_numbers list script (world list script numbers)
    (row_in (slot_after list script (world list script numbers)) chosen) ∷ numbers)
legal-next list script numbers chosen legal newest =
    let history = world list script numbers in
    let s = slot_after list script history in
    let row = row_in s chosen in
    let new = newest_numbers list script history row in
    let most = newest_of list script (row ∷ history) in
    let same : row_of_world list script new numbers ≡ row =
    row_of_world-told list script numbers chosen new.read (AreOfHosts-newest s chosen newest) in
    let at_row : is_legal_slot list script row history new ≡ true = λ i.
    messages-legal s chosen newest i && reads-legal list script row history (reads_in script (length history)) i in
    let slot = subst (λ (r : List Entry). is_legal_slot list script r history new ≡ true) (sym same) at_row in
    let reads = λ (at : ℕ). read_messages (reads_in script at) new.read in
    let at : AreAt most (reads (length numbers)) =
    subst (λ at. AreAt most (reads at)) (length-world list script numbers)
    (read_messages-at most (reads_in script (length history))) in
    let up = up_to-next list script row history (all_reads script numbers)
    (reads-up_to list script numbers (slots-legal list script numbers legal)) in
    let falls = never_fall-newest most (reverse (reads (length numbers))) (all_reads script numbers)
    (reverse-all (λ r. r.number ≡ most r.read) (reads (length numbers)) at) up
    (reads-never_fall list script numbers legal) in
    λ i. (slot i && slots-legal list script numbers legal i) && falls i

-- so there always are some
newest_chosen : Medl → Script → ℕ → List Chosen
newest_chosen list script slot =
    map (λ k. message_chosen list script slot k (Some (newest_out list script slot k))) (below (length list.slots))

AreNewest-chosen : (list : Medl) (script : Script) (history : History)
    → AreNewest (slot_after list script history) (newest_chosen list script (length history))
unfolding newest_chosen
AreNewest-chosen list script history = record {
  message = λ k node loaded.
      get_or-map-range_with_len
      (λ j. message_chosen list script (length history) j (Some (newest_out list script (length history) j))) 0
      (length list.slots) k k nothing_chosen node (omega arith);
}

pub legal-continued : (list : Medl) (script : Script) (numbers : Numbers) → IsLegal list script numbers
    → (new : SlotNumbers) × IsLegal list script (new ∷ numbers)
legal-continued list script numbers legal =
    let history = world list script numbers in
    let chosen = newest_chosen list script (length history) in (
      newest_numbers list script history (row_in (slot_after list script history) chosen),
      legal-next list script numbers chosen legal (AreNewest-chosen list script history),
    )

-- Longer runs.

pub legal-none : (list : Medl) (script : Script) → IsLegal list script []
legal-none list script = refl

-- legal numbers of so many slots more, whose older part these are
pub record LegalWhole (list : Medl) (script : Script) (numbers : Numbers) (more : ℕ) : Type 0 where
  pub whole : Numbers
  pub legal : IsLegal list script whole
  pub slots : length whole ≡ more + length numbers
  pub older : drop more whole ≡ numbers

pub legal-whole : (list : Medl) (script : Script) (numbers : Numbers) (more : ℕ) → IsLegal list script numbers
    → LegalWhole list script numbers more
legal-whole list script numbers zero legal =
    record { whole = numbers; legal = legal; slots = omega arith; older = refl }
legal-whole list script numbers (suc more) legal =
    let before = legal-whole list script numbers more legal in
    let next = legal-continued list script before.whole before.legal in
    record {
      whole = next.0 ∷ before.whole;
      legal = next.1;
      slots = omega (arith, before.slots);
      older = before.older;
    }
