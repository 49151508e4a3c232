-- Readers are lent to hosts for the reads of a slot: they have room for all of these, stay readers of their rings, and
-- are settled.
use Rattle.cluster_run.proofs.Words.{◌≡◌, ℕ, ◌<◌, false, List, [], ◌∷◌, length, Option, refl, HostRead, Source}
use Rattle.cluster_run.proofs.Words.{reads_in, Numbers, ReadersState, reads_from, ControllerState, CurrentSlot, Desk}
use Rattle.cluster_run.proofs.Words.{Nodes, desk_ends, AreReadersLent, has_reads, MayEndSlot, HoldsRead, steps, map}
use Rattle.cluster_run.proofs.Words.{get_or, Some, None, sym, ap, ◌∙◌, arith, ForSome, length-map, none-some, same_Some}
use Rattle.cluster_run.proofs.Words.{AreReadersOfEnd, rings_read, end_at, rings_of, AreReadersOfAll, HaveRead}
use Rattle.cluster_run.proofs.Words.{readers_at, rings_in, ◌+◌, ◌≤◌, Bool, true, cond, IsSomeAnd, All, inl, inr}
use Rattle.cluster_run.proofs.Words.{AllByRecursion, cases_lt, get_or_past, All-from_recursion, Message, WriterState}
use Rattle.cluster_run.proofs.Words.{ReaderState, Medl, Script, IsSource, IsValidScript, lent, source_place, at_source}
use Rattle.cluster_run.proofs.Words.{incoming_shape, reader_at, calls_in, IsRingOf, is_read_at, IsReadOf}
use Rattle.cluster_run.proofs.Words.{reads_of_valid, HaveRoomForReads, zero, suc, recursion_from_All, ReadLine}
use Rattle.cluster_run.proofs.Words.{IsReaderSettled, settled, got_of, pairs_from, desk_numbers, SettlesReads}
use Rattle.cluster_run.proofs.Words.{SettlesReadsOf, read_of, AreLinesBy, queue_of, all_settled, get_or-map, replicate}
use Rattle.cluster_run.proofs.Words.{length-replicate, outcomes_of, HaveHandedOn, TellsReads}
use Rattle.std.proofs.lemmas.List.{get_or-map as get_or-map_within}
use Rattle.cluster_run.proofs.Changes.{AreChanged}
use Rattle.cluster_run.proofs.HandingOn.{no_desk}
use Rattle.ttp_world.specs.declared.script.Source.TheVariants as source

-- Where a host does not read, none of its reads is of a source.
pub not_read : (reads : List HostRead) (k : ℕ) (from : Source) → has_reads reads k ≡ false → reads_from reads k from ≡ 0
not_read [] k from none = refl
not_read (r ∷ reads) k from none = grind (steps, not_read reads k from)

-- Readers were lent for the reads of a slot, by ends whose rings are those of the world of these numbers.
pub record AreLentFor (at : CurrentSlot) (numbers : Numbers) (ends : List ControllerState)
    (readers : List (Option ReadersState)) : Type 0 where
  pub ends_count : length ends ≡ length at.list.now.slots
  pub lent : AreReadersLent (reads_in at.script.now at.slot) ends readers
  pub rings : (k : ℕ) → k < length at.list.now.slots → (from : Source)
      → HoldsRead at.list.now at.script.now numbers ends k from

pub all_lent_for : {at : CurrentSlot} {readers : List (Option ReadersState)} {desks : List Desk}
    {reads : List HostRead} (nodes : Nodes) (may : MayEndSlot at nodes) → desks ≡ nodes.desks.items
    → reads ≡ reads_in at.script.now at.slot → AreReadersLent reads (desk_ends desks) readers
    → AreLentFor at may.numbers (desk_ends nodes.desks.items) readers
all_lent_for nodes may same is lent = grind steps

-- the rings of an end
rings_at : (ends : List ControllerState) (k : ℕ) → k < length ends
    → get_or (map rings_of ends) k [] ≡ rings_of (end_at ends k)
rings_at ends k near = get_or-map_within rings_of ends k [] [] near

own_as : (old new : ControllerState) (a b : Option ReadersState) → rings_of new ≡ rings_of old → rings_in b ≡ rings_in a
    → ForSome a (AreReadersOfEnd old) → ForSome b (AreReadersOfEnd new)
own_as old new (Some a) (Some b) rings read own = λ x is.
    rw (← same_Some b x is, rings, same_Some (rings_read b.readers) (rings_read a.readers) read) (own a refl)
own_as old new None (Some b) rings read own = absurd (none-some (rings_read b.readers) (sym read))
own_as old new a b rings read own = λ x is. absurd (none-some x is)

pub still_own : {reads asked : List HostRead} (old new : List ControllerState) (a b : List (Option ReadersState))
    → map rings_of new ≡ map rings_of old → HaveRead reads a b → AreReadersLent asked old a → AreReadersOfAll new b
still_own old new a b rings read lent =
    let count : length new ≡ length old = sym (length-map new rings_of) ∙ ap length rings ∙ length-map old rings_of in
    record {
      count = read.count ∙ lent.count ∙ sym count;
      own = λ k near.
          let old_near : k < length old = omega (arith, near, count) in
          own_as (end_at old k) (end_at new k) (readers_at a k) (readers_at b k)
          (sym (rings_at new k near) ∙ ap (λ rs. get_or rs k []) rings ∙ rings_at old k old_near)
          (read.rings k) (lent.each k old_near).own;
    }

-- The reads of a valid script are of nodes of its list.

each_within : (n : ℕ) (Q : ℕ → Source → Type 0) (reads : List HostRead)
    → AllByRecursion (λ (r : HostRead). (r.host < n) × Q r.host r.source) reads
    → AllByRecursion (λ (r : HostRead). r.host < n) reads
each_within n Q [] all = tt
each_within n Q (r ∷ reads) all = (all.0.0, each_within n Q reads all.1)

pub hosts_within : (list : Medl) (script : Script) (slot : ℕ) → IsValidScript list script
    → All (λ (read : HostRead). read.host < length list.slots) (reads_in script slot)
hosts_within list script slot valid =
    All-from_recursion (λ (r : HostRead). r.host < length list.slots) (reads_in script slot)
    (each_within (length list.slots) (IsSource list) (reads_in script slot) (reads_of_valid list script slot valid))

-- What holds of each read holds of a host and source that are read.

one_more : (k : ℕ) (from : Source) (r : HostRead) (reads : List HostRead) (b : Bool)
    → is_read_at k (source_place from) r ≡ b → 1 ≤ reads_from (r ∷ reads) k from
    → 1 ≤ cond b 1 0 + reads_from reads k from
one_more k from r reads b is some = grind steps

read_here : (Q : ℕ → Source → Type 0) (k : ℕ) (from : Source) (r : HostRead) (b : Bool)
    → is_read_at k (source_place from) r ≡ b → Q r.host r.source → (b ≡ false → Q k from) → Q k from
read_here Q k from r true is here later = grind steps
read_here Q k from r false is here later = later refl

read_there : (Q : ℕ → Source → Type 0) (k : ℕ) (from : Source) (reads : List HostRead)
    → AllByRecursion (λ (r : HostRead). Q r.host r.source) reads → 1 ≤ reads_from reads k from → Q k from
read_there Q k from [] all some = absurd (omega arith)
read_there Q k from (r ∷ reads) all some = read_here Q k from r (is_read_at k (source_place from) r) refl all.0
    (λ not_here. read_there Q k from reads all.1 (omega (arith, one_more k from r reads false not_here some)))

-- A reader that is lent of a ring has room for the n reads that are made of it.
lent_room : (list : Medl) (k : ℕ) (from : Source) (messages : List (List ℕ)) (pairs : List Message)
    (w : Option WriterState) (n : ℕ) → IsSource list k from → IsRingOf (incoming_shape list k from) messages pairs w
    → 1 ≤ n → IsSomeAnd (lent w n) (λ (r : ReaderState). n ≤ r.spare)
lent_room list k source.Status messages pairs None n is ring some = absurd ring
lent_room list k source.Status messages pairs (Some w) n is ring some = grind steps
lent_room list k (source.Node p) messages pairs None n is ring some = grind steps
lent_room list k (source.Node p) messages pairs (Some w) n is ring some = grind steps

-- Readers that were lent for the reads of a slot may make them all.
module _ {at : CurrentSlot} {numbers : Numbers} {ends : List ControllerState} {readers : List (Option ReadersState)}
    (are : AreLentFor at numbers ends readers) where
  abbrev list : Medl
  list = at.list.now

  abbrev reads : List HostRead
  reads = reads_in at.script.now at.slot

  room_lent : (k : ℕ) (from : Source) → 1 ≤ reads_from reads k from
      → IsSomeAnd (reader_at readers k from) (λ (r : ReaderState). reads_from reads k from ≤ r.spare)
  room_lent k from some =
      let n = reads_from reads k from in
      let is = read_there (IsReadOf list) k from reads
      (reads_of_valid list at.script.now at.slot at.valid_script) some in
      rw ((are.lent.each k (omega (arith, is.0, are.ends_count))).readers from)
      (lent_room list k from _ _ (at_source (end_at ends k) from) n is.1 (are.rings k is.0 from) some)

  pub may_read_all : HaveRoomForReads reads readers
  may_read_all = record {
    calls = λ k.
        elim (cases_lt k (length ends)) [
          | inl near ↦ (are.lent.each k near).calls
          | inr past ↦ ap calls_in (get_or_past readers k None (omega (arith, past, are.lent.count)))
        ];
    room = room_lent;
  }

-- One host's.

pub settled-none : (w : Option WriterState) → w ≡ settled w None
settled-none None = refl
settled-none (Some w) = refl

pub is_settled-none : (w : Option WriterState) → IsReaderSettled w None
is_settled-none None = tt
is_settled-none (Some w) = tt

nothing_settled : (r : Option ReaderState) → None ≡ settled None r
nothing_settled None = refl
nothing_settled (Some r) = refl

all_settled-at : (ws : List (Option WriterState)) (rs : List (Option ReaderState)) (i : ℕ)
    → get_or (all_settled ws rs) i None ≡ settled (get_or ws i None) (get_or rs i None)
all_settled-at [] rs i = nothing_settled (get_or rs i None)
all_settled-at (w ∷ ws) [] zero = settled-none w
all_settled-at (w ∷ ws) [] (suc i) = settled-none (get_or ws i None)
all_settled-at (w ∷ ws) (r ∷ rs) zero = refl
all_settled-at (w ∷ ws) (r ∷ rs) (suc i) = all_settled-at ws rs i

-- one that does
pub settles_readers : (old new : ControllerState) (r : ReadersState)
    → ((from : Source) → IsReaderSettled (at_source old from) (at_source r.readers from))
    → new ≡ all_settled old r.readers
    → SettlesReadsOf old (Some r) new
settles_readers old new r whole joined = grind (steps, all_settled-at)

hosted : (k : ℕ) (lines : List ReadLine) → AllByRecursion (λ (line : ReadLine). line.host ≡ k) lines
    → map read_of lines
    ≡ map (λ (from : Source). record { host = k; source = from }) (map (λ (line : ReadLine). line.source) lines)
hosted k [] all = refl
hosted k (line ∷ lines) all = λ i. record { host = all.0 i; source = line.source } ∷ hosted k lines all.1 i

-- with its lines
pub lines_queued : (k : ℕ) (r : ReadersState) (lines : List ReadLine)
    → map (λ (line : ReadLine). line.source) lines ≡ r.calls → All (λ (line : ReadLine). line.host ≡ k) lines
    → ((from : Source) → pairs_from from lines ≡ got_of (at_source r.readers from)) → AreLinesBy k (Some r) lines
lines_queued k r lines sources hosts pairs = grind (steps, hosted, recursion_from_All)

-- The first hosts' are settled, so many: the other desks and readers are as they were.
pub record AreReadersSettled (k : ℕ) (old_readers readers : List (Option ReadersState)) (old desks : List Desk)
    (queues : List (List ReadLine)) : Type 0 where
  pub numbers : desk_numbers desks ≡ desk_numbers old
  pub desks_are : AreChanged (λ i was is. SettlesReadsOf was.end (readers_at old_readers i) is.end) no_desk k old desks
  pub readers_are : AreChanged (λ i was is. Unit {0}) None k old_readers readers
  pub queues_are : (i : ℕ) → i < k → AreLinesBy i (readers_at old_readers i) (queue_of queues i)
  pub queues_count : length queues ≡ k

-- all are
pub are_settled : {k : ℕ} {old_readers readers : List (Option ReadersState)} {old desks : List Desk}
    {queues : List (List ReadLine)} → length old_readers ≤ k → AreReadersSettled k old_readers readers old desks queues
    → SettlesReads (desk_ends old) old_readers (desk_ends desks)
are_settled {old_readers = readers} {old = old} {desks = desks} all so = record {
  each = λ i near.
      let end = λ (d : Desk). d.end in
      rw (get_or-map end old i no_desk, get_or-map end desks i no_desk)
      (so.desks_are.done i (omega (arith, near, all)));
}

-- nothing for each of so many nodes
abbrev nobody : ℕ → List (Option ReadersState)
nobody n = replicate n None

none_there : (n k : ℕ) → readers_at (nobody n) k ≡ None
none_there n k = grind steps

pub none_read : (at : CurrentSlot) (old new : Nodes) → reads_in at.script.now at.slot ≡ []
    → HaveHandedOn (outcomes_of new.seats.items) (desk_ends old.desks.items) (desk_ends new.desks.items)
    (desk_numbers new.desks.items)
    → TellsReads at old new []
none_read at old new quiet handed =
    let n = length (desk_ends old.desks.items) in
    record {
      handed = desk_ends new.desks.items;
      first = nobody n;
      last = nobody n;
      handed_are = handed;
      lent = rw quiet (record {
        count = length-replicate n None;
        each = λ k near. rw (none_there n k)
            (record { readers = λ from. refl; calls = refl; own = λ x is. absurd (none-some x is) });
      });
      read = rw quiet (record {
        count = refl;
        rings = λ k. refl;
        each = λ k from. refl;
        calls = λ k clear. rw (none_there n k) refl;
      });
      settles = record {
        each = λ k near. rw (none_there n k)
            (record { whole = λ from. is_settled-none _; settled_is = λ from. settled-none _ });
      };
      told = λ got. rw quiet (record { reads_are = refl; pairs = λ k from. rw (none_there n k) refl });
    }
