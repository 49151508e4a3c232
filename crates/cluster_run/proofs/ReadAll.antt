-- The reads of a slot, one after another, by the readers of all hosts: what each of them keeps, and that each got a
-- message where the readers are clear.
use Rattle.cluster_run.proofs.Words.{◌≡◌, ◌≢◌, ℕ, zero, suc, ◌+◌, ◌/◌, ◌<◌, ◌≤◌, true, List, [], ◌∷◌, ◌++◌, length}
use Rattle.cluster_run.proofs.Words.{Option, Some, None, IsSomeAnd, refl, sym, ap, ◌∙◌, subst, arith, AllByRecursion}
use Rattle.cluster_run.proofs.Words.{Message, ReaderState, Reads, buffers_of, got_one, ReadsMany, IsClear, steps}
use Rattle.cluster_run.proofs.Words.{lt-ltb, limit, RingState, cond, set, take, get_or, inl, inr, cases_eq, take_more}
use Rattle.cluster_run.proofs.Words.{HostRead, Source, ReadersState, reads_from, readers_at, reader_in, reader_at}
use Rattle.cluster_run.proofs.Words.{calls_in, rings_in, IsRead, reads_of_host, is_host, filter, filter-append}
use Rattle.cluster_run.proofs.Words.{append-nil, map-append, HaveRead, HaveRoomForReads, ◌⊎◌, at_any, length-append}
use Rattle.cluster_run.proofs.Words.{IsLeft, within_list}
use Rattle.nbw_ring.specs.Attempts.{Gets}
use Rattle.ttp_world.proofs.LineLists.{each-append}

-- Up to n reads leave the ring as it was; what a reader has loaded and got never falls back, and each read takes room
-- for one message at most.

pub record KeepsReader (n : ℕ) (old new : ReaderState) : Type 0 where
  pub ring : new.ring ≡ old.ring
  pub floor : old.floor ≤ new.floor
  pub seen : old.seen ≤ new.seen
  pub spare : old.spare ≤ new.spare + n

abbrev pub Keeps : ℕ → Option ReaderState → Option ReaderState → Type 0
Keeps n None None = Unit {0}
Keeps n (Some old) (Some new) = KeepsReader n old new
Keeps n old new = ⊥

pub keeps_refl : (r : Option ReaderState) → Keeps 0 r r
keeps_refl None = tt
keeps_refl (Some r) = record { ring = refl; floor = omega arith; seen = omega arith; spare = omega arith }

keeps_more : (n : ℕ) (a b c : Option ReaderState) → Keeps n a b → Keeps 1 b c → Keeps (suc n) a c
keeps_more n (Some a) (Some b) (Some c) p q =
    record { ring = q.ring ∙ p.ring; floor = omega arith; seen = omega arith; spare = omega arith }
keeps_more n (Some a) (Some b) None p q = q
keeps_more n None None (Some c) p q = q
keeps_more n None None None p q = tt
keeps_more n a b c p q = absurd p

pub reads_keep : (old new : Option ReaderState) → Reads (buffers_of old) old new → Keeps 1 old new
reads_keep (Some old) (Some new) reads = grind steps
reads_keep old new reads = absurd reads

pub many_keep : (n : ℕ) (old new : Option ReaderState) → ReadsMany n old new → Keeps n old new
many_keep zero old new same = subst (Keeps 0 old) (sym same) (keeps_refl old)
many_keep (suc n) old new reads =
    keeps_more n old reads.0 new (many_keep n old reads.0 reads.1) (reads_keep reads.0 new reads.2)

-- One of more reads than were made has room.
pub many_left : (all n : ℕ) (old new : Option ReaderState) → IsSomeAnd old (λ (r : ReaderState). all ≤ r.spare)
    → ReadsMany n old new → n < all → IsLeft new
many_left all n None new room reads less = absurd room
many_left all n (Some old) None room reads less = absurd (many_keep n (Some old) None reads)
many_left all n (Some old) (Some new) room reads less =
    omega (arith, room, (many_keep n (Some old) (Some new) reads).spare)

-- What is clear at the end was clear before each read.
pub clear_before : (n : ℕ) (old mid new : Option ReaderState) → Keeps n mid new → IsClear old new → IsClear old mid
clear_before n (Some old) (Some mid) (Some new) keeps clear = λ more. omega (arith, clear more, keeps.seen)
clear_before n (Some old) (Some mid) None keeps clear = absurd keeps
clear_before n old mid new keeps clear = tt

-- A read whose message nobody has overwritten at its newest load got that message.

intact : (n : ℕ) (old mid new : ReaderState) → KeepsReader n old mid
    → Reads mid.ring.shape.buffers (Some mid) (Some new)
    → IsClear (Some old) (Some new) → new.seen < limit new.ring.shape (new.first / 2)
intact n old mid new keeps reads clear = grind steps

gets : (mid new : ReaderState) → Reads mid.ring.shape.buffers (Some mid) (Some new)
    → new.seen < limit new.ring.shape (new.first / 2) → Gets mid new (new.first / 2)
gets mid new reads below = grind steps

least : (mid new : ReaderState) → Reads mid.ring.shape.buffers (Some mid) (Some new) → mid.floor ≤ new.first / 2
least mid new reads = grind steps

-- of a read after so many others
pub clear_got : (n : ℕ) (old mid new : Option ReaderState) → ReadsMany n old mid → Reads (buffers_of mid) mid new
    → IsClear old new → got_one new ≡ true
clear_got n (Some old) (Some mid) (Some new) many reads clear =
    lt-ltb new.seen (limit new.ring.shape (new.first / 2))
    (intact n old mid new (many_keep n (Some old) (Some mid) many) reads clear)
clear_got n None (Some mid) (Some new) many reads clear = absurd (many_keep n None (Some mid) many)
clear_got n old mid new many reads clear = absurd reads

-- What a clear reader got by so many reads: a message by each, none older than its floor at first, and none older than
-- the one before it.

-- no number is below an earlier one
abbrev pub Rises : List Message → Type 0
Rises [] = Unit {0}
Rises (m ∷ ms) = AllByRecursion (λ (e : Message). m.number ≤ e.number) ms × Rises ms

pub record GotEvery (n : ℕ) (old new : ReaderState) : Type 0 where
  pub keeps : KeepsReader n old new
  pub count : length new.got ≡ n
  pub once : old.ring.shape.buffers ≢ 1 → new.tries ≡ n
  pub least : AllByRecursion (λ (m : Message). old.floor ≤ m.number) new.got
  pub most : AllByRecursion (λ (m : Message). m.number ≤ new.floor) new.got
  pub rise : Rises new.got

each-raised : (ms : List Message) (low high : ℕ) → low ≤ high → AllByRecursion (λ (m : Message). m.number ≤ low) ms
    → AllByRecursion (λ (m : Message). m.number ≤ high) ms
each-raised [] low high up all = tt
each-raised (m ∷ ms) low high up all = (omega (arith, up, all.0), each-raised ms low high up all.1)

rises-push : (ms : List Message) (m : Message) (most : ℕ) → Rises ms
    → AllByRecursion (λ (e : Message). e.number ≤ most) ms → most ≤ m.number → Rises (ms ++ m ∷ [])
rises-push [] m most rise all up = (tt, tt)
rises-push (e ∷ ms) m most rise all up = grind (steps, rises-push ms m most rise.1 all.1 up)

tries_more : (n : ℕ) (old mid new : ReaderState) → GotEvery n old mid
    → Reads mid.ring.shape.buffers (Some mid) (Some new) → old.ring.shape.buffers ≢ 1 → new.tries ≡ suc n
tries_more n old mid new so reads more =
    let same = ap (λ (r : RingState). r.shape.buffers) so.keeps.ring in
    omega (arith, (reads.1 (λ one. more (sym same ∙ one))).tries, so.once more)

got_more : (n : ℕ) (old mid new : ReaderState) → GotEvery n old mid
    → Reads mid.ring.shape.buffers (Some mid) (Some new) → IsClear (Some old) (Some new) → GotEvery (suc n) old new
got_more n old mid new so reads clear =
    let g = gets mid new reads (intact n old mid new so.keeps reads clear) in
    let up = least mid new reads in
    let m : Message = record { number = new.first / 2; words = g.words } in
    record {
      keeps = keeps_more n (Some old) (Some mid) (Some new) so.keeps (reads_keep (Some mid) (Some new) reads);
      count = ap length g.got ∙ length-append mid.got (m ∷ []) ∙ (omega (arith, so.count));
      once = tries_more n old mid new so reads;
      least = rw g.got (each-append (λ (e : Message). old.floor ≤ e.number) mid.got (m ∷ []) so.least
          (omega (arith, so.keeps.floor, up), tt));
      most = rw g.got (each-append (λ (e : Message). e.number ≤ new.floor) mid.got (m ∷ [])
          (each-raised mid.got mid.floor new.floor (omega (arith, g.floor, up)) so.most) (omega (arith, g.floor), tt));
      rise = rw g.got (rises-push mid.got m mid.floor so.rise so.most up);
    }

got_next : (n : ℕ) (old : ReaderState) (mid new : Option ReaderState) → IsSomeAnd mid (GotEvery n old)
    → Reads (buffers_of mid) mid new → IsClear (Some old) new → IsSomeAnd new (GotEvery (suc n) old)
got_next n old None new so reads clear = absurd so
got_next n old (Some mid) None so reads clear = absurd reads
got_next n old (Some mid) (Some new) so reads clear = got_more n old mid new so reads clear

pub got_every : (n : ℕ) (old : ReaderState) (new : Option ReaderState) → old.got ≡ [] → old.tries ≡ 0
    → ReadsMany n (Some old) new → IsClear (Some old) new → IsSomeAnd new (GotEvery n old)
got_every zero old new none untried same clear = grind steps
got_every (suc n) old new none untried many clear =
    let keeps = reads_keep many.0 new many.2 in
    got_next n old many.0 new
    (got_every n old many.0 none untried many.1 (clear_before 1 (Some old) many.0 new keeps clear)) many.2 clear

-- Which reads are of a host and a source.

host_more-own : (done : List HostRead) (r : HostRead) (k : ℕ) → r.host ≡ k
    → filter (is_host k) (done ++ r ∷ []) ≡ filter (is_host k) done ++ r ∷ []
host_more-own done r k own = grind (steps, filter-append)

host_more-other : (done : List HostRead) (r : HostRead) (k : ℕ) → r.host ≢ k
    → filter (is_host k) (done ++ r ∷ []) ≡ filter (is_host k) done
host_more-other done r k other = grind (steps, append-nil, filter-append)

-- A read, among the readers of all hosts.

record IsReadAt (r : HostRead) (old new : List (Option ReadersState)) : Type 0 where
  pub count : length new ≡ length old
  pub own : IsRead r (readers_at old r.host) (readers_at new r.host)
  pub others : (k : ℕ) → r.host ≢ k → readers_at new k ≡ readers_at old k

is_read_at-set : (r : HostRead) (h : ℕ) (now : List (Option ReadersState)) (new : Option ReadersState) → h ≡ r.host
    → h < length now → IsRead r (readers_at now h) new → IsReadAt r now (set now h new)
is_read_at-set r h now new host within is = grind steps

-- What it makes of a reader: it is of this host and source, and made it, or the reader is as it was.

record MadeIt (done : List HostRead) (r : HostRead) (old new : List (Option ReadersState)) (k : ℕ) (from : Source)
    : Type 0 where
  pub reads : Reads (buffers_of (reader_at old k from)) (reader_at old k from) (reader_at new k from)
  pub count : reads_from (done ++ r ∷ []) k from ≡ suc (reads_from done k from)

record LeftIt (done : List HostRead) (r : HostRead) (old new : List (Option ReadersState)) (k : ℕ) (from : Source)
    : Type 0 where
  pub same : reader_at new k from ≡ reader_at old k from
  pub count : reads_from (done ++ r ∷ []) k from ≡ reads_from done k from

made_or_left : (done : List HostRead) {r : HostRead} {old new : List (Option ReadersState)} → IsReadAt r old new
    → (k : ℕ) (from : Source) → MadeIt done r old new k from ⊎ LeftIt done r old new k from
made_or_left done {r} {old} {new} is k from = grind steps

-- One read more.

module _ {done : List HostRead} {r : HostRead} {start old new : List (Option ReadersState)}
    (so : HaveRead done start old) (is : IsReadAt r old new) where
  each_more : (k : ℕ) (from : Source)
      → ReadsMany (reads_from (done ++ r ∷ []) k from) (reader_at start k from) (reader_at new k from)
  each_more k from =
      elim (made_or_left done is k from) [
        | inl made ↦ rw made.count (reader_at old k from, so.each k from, made.reads)
        | inr left ↦ rw (left.count, left.same) (so.each k from)
      ]

  rings_more : (k : ℕ) → rings_in (readers_at new k) ≡ rings_in (readers_at start k)
  rings_more k =
      elim (cases_eq r.host k) [
        | inl own ↦ rw (← own) (is.own.rings ∙ so.rings r.host)
        | inr other ↦ ap rings_in (is.others k other) ∙ so.rings k
      ]

  was_clear : (k : ℕ) (from : Source) → IsClear (reader_at start k from) (reader_at new k from)
      → IsClear (reader_at start k from) (reader_at old k from)
  was_clear k from clear =
      elim (made_or_left [] is k from) [
        | inl made ↦
            clear_before 1 (reader_at start k from) (reader_at old k from) (reader_at new k from)
            (reads_keep (reader_at old k from) (reader_at new k from) made.reads) clear
        | inr left ↦ subst (IsClear (reader_at start k from)) left.same clear
      ]

  own_more : ((from : Source) → IsClear (reader_at start r.host from) (reader_at new r.host from))
      → reads_of_host r.host (calls_in (readers_at new r.host)) ≡ filter (is_host r.host) (done ++ r ∷ [])
  own_more clear =
      let h = r.host in
      let got = clear_got (reads_from done h r.source) (reader_at start h r.source) (reader_at old h r.source)
      (reader_at new h r.source) (so.each h r.source) is.own.reads (clear r.source) in
      let calls = calls_in (readers_at old h) in
      ap (reads_of_host h) (is.own.calls ∙ ap (λ b. cond b (calls ++ r.source ∷ []) calls) got)
      ∙ map-append (λ (from : Source). record { host = h; source = from }) calls (r.source ∷ [])
      ∙ ap (λ rs. rs ++ r ∷ []) (so.calls h (λ from. was_clear h from (clear from))) ∙ sym (host_more-own done r h refl)

  calls_more : (k : ℕ) → ((from : Source) → IsClear (reader_at start k from) (reader_at new k from))
      → reads_of_host k (calls_in (readers_at new k)) ≡ filter (is_host k) (done ++ r ∷ [])
  calls_more k clear =
      elim (cases_eq r.host k) [
        | inl own ↦ rw (← own) (own_more (λ from. rw own (clear from)))
        | inr other ↦
            ap (λ o. reads_of_host k (calls_in o)) (is.others k other)
            ∙ so.calls k (λ from. was_clear k from (clear from))
            ∙ sym (host_more-other done r k other)
      ]

  have_more : HaveRead (done ++ r ∷ []) start new
  have_more = record { count = is.count ∙ so.count; rings = rings_more; each = each_more; calls = calls_more }

-- The next read, whose host is a number that is handed on: there is room for it, as it is counted among all.

next_counted : (reads : List HostRead) (i : ℕ) (r : HostRead) → i < length reads → r ≡ get_or reads i r
    → reads_from (take i reads) r.host r.source < reads_from reads r.host r.source
next_counted reads i r within here = grind steps

pub record IsNextRead (reads : List HostRead) (i : ℕ) (d : HostRead) (start now : List (Option ReadersState)) (h : ℕ)
    : Type 0 where
  pub near : i < length reads
  pub host : h ≡ (get_or reads i d).host
  pub may : HaveRoomForReads reads start
  pub so : HaveRead (take i reads) start now

module _ {reads : List HostRead} {i : ℕ} {d : HostRead} {start now : List (Option ReadersState)} {h : ℕ}
    (next : IsNextRead reads i d start now h) where
  abbrev r : HostRead
  r = get_or reads i d

  pub left_at : IsLeft (reader_at now h r.source)
  left_at =
      let less = next_counted reads i r next.near (at_any reads i d r next.near) in
      rw next.host
      (many_left (reads_from reads r.host r.source) (reads_from (take i reads) r.host r.source)
      (reader_at start r.host r.source) (reader_at now r.host r.source)
      (next.may.room r.host r.source (omega (arith, less))) (next.so.each r.host r.source) less)

  pub within_at : h < length now
  within_at = within_list (λ o. IsLeft (reader_in o r.source)) None now h (λ none. none) left_at

  pub read_next : (old new : Option ReadersState) → IsRead r (get_or now h old) new
      → HaveRead (take (i + 1) reads) start (set now h new)
  read_next old new is =
      subst (λ xs. HaveRead xs start (set now h new)) (sym (take_more reads i d next.near))
      (have_more next.so (is_read_at-set r h now new next.host within_at
      (subst (λ o. IsRead r o new) (at_any now h old None within_at) is)))
