-- What the reads of a slot got of one ring, and the ring once its reader is settled.
use Rattle.cluster_run.proofs.Words.{◌≡◌, ℕ, ◌+◌, ◌≤◌, List, [], ◌++◌, length, Option, Some, None, refl, sym, ap, ◌∙◌}
use Rattle.cluster_run.proofs.Words.{arith, AllByRecursion, ForSome, append-nil, none-some, recursion_from_All, Message}
use Rattle.cluster_run.proofs.Words.{Shape, WriterState, ReaderState, new_reader, IsReaderSettled, settled, got_of}
use Rattle.cluster_run.proofs.Words.{ReadsMany, IsClear, IsRing, IsRingOf, steps}
use Rattle.nbw_ring.specs.Numbers.{newest_number, IsMessageOf}
use Rattle.cluster_run.proofs.Rings.{settled_ring}
use Rattle.cluster_run.proofs.LentReaders.{settled-none}
use Rattle.cluster_run.proofs.ReadAll.{Rises, GotEvery, many_keep, got_every}

-- a reader, if there is one, is a new one of this writer's
abbrev pub IsLentBy : Option WriterState → Option ReaderState → Type 0
IsLentBy (Some w) (Some r) = (reads : ℕ) × (r ≡ new_reader w reads)
IsLentBy None (Some r) = ⊥
IsLentBy w r = Unit {0}

-- of the messages of a ring before and after a slot: what was got of them in it
pub record AreGotOf (before after : List (List ℕ)) (got : List Message) : Type 0 where
  pub least : AllByRecursion (λ (m : Message). newest_number before ≤ m.number) got
  pub are : AllByRecursion (IsMessageOf after) got
  pub rise : Rises got

pub nothing_got : (before after : List (List ℕ)) → AreGotOf before after []
nothing_got before after = record { least = tt; are = tt; rise = tt }

-- A ring in a slot. Its reader was lent before the slot's message came, `writer` is the writer then and `later` the one
-- after it; `lent` is the reader as it was lent, and `read` the one that has read, which is settled in the later
-- writer.
pub record RingSlot (before after : List (List ℕ)) (pairs : List Message) (shape : Option Shape)
    (writer later : Option WriterState) (lent read : Option ReaderState) : Type 0 where
  pub some : ForSome shape (λ (s : Shape). 1 ≤ s.buffers)
  pub there : 1 ≤ length before
  pub few : length after ≤ length before + 1
  pub is : IsRingOf shape before pairs writer
  pub be : IsRingOf shape after pairs later
  pub lent_by : IsLentBy writer lent
  pub settles : IsReaderSettled later read

-- With two buffers or more its reader is clear, as the slot brought one message at most.

pub clear_of : {before after : List (List ℕ)} {pairs : List Message} (shape : Option Shape)
    (writer later : Option WriterState) (lent read : Option ReaderState)
    → RingSlot before after pairs shape writer later lent read → IsClear lent read
clear_of (Some s) (Some w) (Some v) (Some old) (Some new) r = λ more.
    let after = ap length r.be.messages_are in
    let before = ap length r.is.messages_are in
    let floor = ap (λ (x : ReaderState). x.floor) r.lent_by.1 in
    let lent_buffers = ap (λ (x : ReaderState). x.ring.shape.buffers) r.lent_by.1 in
    let buffers = ap (λ (x : Shape). x.buffers) r.is.shape_is in
    omega (arith, r.settles.1, r.few, r.there, after, before, floor, lent_buffers, buffers, r.some s refl, more)
clear_of (Some s) (Some w) None (Some old) (Some new) r = absurd r.be
clear_of (Some s) None later (Some old) (Some new) r = absurd r.is
clear_of None (Some w) later (Some old) (Some new) r = absurd (none-some w (sym r.is))
clear_of None None later (Some old) (Some new) r = absurd r.lent_by
clear_of shape writer later lent read r = tt

-- What a clear reader got.

got_ring : (before after : List (List ℕ)) {shape : Shape} {pairs : List Message} {w v : WriterState} {n : ℕ}
    {old new : ReaderState} → IsRing shape before pairs w → IsRing shape after pairs v → IsLentBy (Some w) (Some old)
    → GotEvery n old new → IsReaderSettled (Some v) (Some new) → AreGotOf before after new.got
got_ring before after {v = v} {new = new} is be lent got settles = grind (steps, recursion_from_All)

-- what its reader got, and its writer once the reader is settled
pub record IsRingRead (before after : List (List ℕ)) (pairs : List Message) (shape : Option Shape)
    (later : Option WriterState) (read : Option ReaderState) : Type 0 where
  pub got : AreGotOf before after (got_of read)
  pub ring : IsRingOf shape after (pairs ++ got_of read) (settled later read)

pub ring_read : {before after : List (List ℕ)} {pairs : List Message} (shape : Option Shape)
    (writer later : Option WriterState) (lent read : Option ReaderState) (n : ℕ)
    → RingSlot before after pairs shape writer later lent read → ReadsMany n lent read → IsClear lent read
    → IsRingRead before after pairs shape later read
ring_read shape writer later None None n r many clear =
    record { got = nothing_got _ _; ring = rw (← settled-none later, append-nil) r.be }
ring_read shape writer later None (Some new) n r many clear = absurd (many_keep n None (Some new) many)
ring_read shape writer later (Some old) None n r many clear = absurd (many_keep n (Some old) None many)
ring_read (Some s) (Some w) (Some v) (Some old) (Some new) n r many clear =
    let shaped = ap (λ (x : ReaderState). x.ring.shape) r.lent_by.1 ∙ r.is.shape_is in
    let got = got_every n old (Some new) (ap (λ (x : ReaderState). x.got) r.lent_by.1)
    (ap (λ (x : ReaderState). x.tries) r.lent_by.1) many clear in
    record {
      got = got_ring _ _ r.is r.be r.lent_by got r.settles;
      ring = settled_ring new r.be
          (λ more. got.once (λ one. more (ap (λ (x : Shape). x.buffers) (sym shaped) ∙ one))
          ∙ sym got.count) r.settles.1;
    }
ring_read (Some s) (Some w) None (Some old) (Some new) n r many clear = absurd r.be
ring_read (Some s) None later (Some old) (Some new) n r many clear = absurd r.is
ring_read None (Some w) later (Some old) (Some new) n r many clear = absurd (none-some w (sym r.is))
ring_read None None later (Some old) (Some new) n r many clear = absurd r.lent_by
