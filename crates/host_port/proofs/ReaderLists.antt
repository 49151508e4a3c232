-- Lists of readers and writers: one for each place, as they are lent, read and settled.
use Rattle.host_port.proofs.Names.{◌≡◌, ℕ, zero, suc, ◌+◌, ◌<◌, ◌==◌, Bool, true, false, cond, List, [], ◌∷◌, ◌++◌}
use Rattle.host_port.proofs.Names.{length, map, take, set, get_or, Option, Some, None, option_map, inl, inr, refl, sym}
use Rattle.host_port.proofs.Names.{ap, ◌∙◌, arith, add-one, zero-add, subst, IfSome, ◌≤◌, Result, Ok, Err, OnErr}
use Rattle.host_port.proofs.Names.{cases_eq, cond_both, Source, ControllerState, source_place, at_source}
use Rattle.host_port.proofs.Names.{HaveBuffers, rings_read, IsItsRing, AreTheirRings, reads_at, lent, IsLeft, Reads}
use Rattle.host_port.proofs.Names.{buffers_of, got_of, settled, all_settled, all_lent, spare_of, calls_at, sum_by}
use Rattle.host_port.proofs.Names.{◌≢◌, false≢true}
use Rattle.std.proofs.Common.{length-append}
use Rattle.std.specs.Prelude.{if◌then◌else◌}
use Rattle.std.proofs.lemmas.Bool.{lt-ltb}
use Rattle.std.proofs.lemmas.Bool.Decides.{nat_tests}
use Rattle.std.proofs.lemmas.Grind.{common_steps}
use Rattle.std.proofs.lemmas.List.Sums.{sum_by-set, get_or-le-sum_by}
use Rattle.nbw_ring.specs.Attempts.{Gets, GetsNothing}
use Rattle.host_port.specs.Reading.{got_one, calls_after}
use Rattle.std.proofs.lemmas.List.{map-set, set-get_or, get_or-set_same, get_or-set_other, get_or_read, get_or-map}
use Rattle.std.proofs.lemmas.List.{length-map}
use Rattle.nbw_ring.specs.States.{RingState, WriterState, ReaderState, new_reader}
use Rattle.ttp_world.specs.declared.host_lines.HostRead.{HostRead}
use Rattle.host_port.specs.Writing.{written}

-- a place lies within a list where something is so of what is there that is not so of what is told for no place
pub within_list : {A : Type 0} (P : A → Type 0) (d : A) (xs : List A) (i : ℕ) → (P d → ⊥) → P (get_or xs i d)
    → i < length xs
within_list P d [] i none here = absurd (none here)
within_list P d (x ∷ xs) zero none here = omega arith
within_list P d (x ∷ xs) (suc i) none here = omega (arith, within_list P d xs i none here)

-- what is written back where it was leaves a list as it was
pub set_back : {A : Type 0} (xs : List A) (i : ℕ) (old new : A) → old ≡ get_or xs i old → new ≡ old → set xs i new ≡ xs
set_back xs i old new here same = ap (set xs i) (same ∙ here) ∙ set-get_or xs i old

abbrev pub ring_written : Option WriterState → Option RingState
ring_written = option_map (λ w. w.ring)

abbrev pub ring_read : Option ReaderState → Option RingState
ring_read = option_map (λ r. r.ring)

-- A message more leaves a writer at its ring.

pub written_ring : (writer : Option WriterState) (words : List ℕ)
    → ring_written (written writer words) ≡ ring_written writer
written_ring (Some w) words = refl
written_ring None words = refl

-- what is read alike is written where it was: the same is read of the whole list
pub read_alike : {A B : Type 0} (f : A → B) (xs : List A) (i : ℕ) (old new : A) → old ≡ get_or xs i old → f new ≡ f old
    → map f (set xs i new) ≡ map f xs
read_alike f xs i old new here same = map-set f xs i new
    ∙ (ap (set (map f xs) i) (same ∙ ap f here)
    ∙ (sym (map-set f xs i (get_or xs i old)) ∙ ap (map f) (set-get_or xs i old)))

-- So does a reader that is joined.

settled_ring : (w : Option WriterState) (r : Option ReaderState) → ring_written (settled w r) ≡ ring_written w
settled_ring (Some w) (Some r) = refl
settled_ring w r = refl

pub settled_rings : (end : ControllerState) (readers : List (Option ReaderState))
    → map ring_written (all_settled end readers) ≡ map ring_written end
settled_rings (w ∷ ws) (r ∷ rs) = λ k. settled_ring w r k ∷ settled_rings ws rs k
settled_rings ws rs = refl

pub written_rings : (end : ControllerState) (place : ℕ) (words : List ℕ)
    → map ring_written (set end place (written (get_or end place None) words)) ≡ map ring_written end
written_rings [] place words = refl
written_rings (w ∷ ws) zero words = λ k. written_ring w words k ∷ map ring_written ws
written_rings (w ∷ ws) (suc place) words = λ k. ring_written w ∷ written_rings ws place words k

-- Readers are lent.

pub all_lent-more : (reads : List HostRead) (node first : ℕ) (ws : List (Option WriterState)) (i place : ℕ)
    → i < length ws → first + i ≡ place
    → all_lent reads node first (take (suc i) ws)
    ≡ all_lent reads node first (take i ws) ++ lent (get_or ws i None) (reads_at reads node place) ∷ []
all_lent-more reads node first [] i place within sum = absurd (omega arith)
all_lent-more reads node first (w ∷ ws) zero place within sum =
    let same : first ≡ place = omega arith in ap (λ p. lent w (reads_at reads node p) ∷ []) same
all_lent-more reads node first (w ∷ ws) (suc i) place within sum = ap (λ l. lent w (reads_at reads node first) ∷ l)
    (all_lent-more reads node (first + 1) ws i place (omega arith) (omega arith))

pub all_lent-at : (reads : List HostRead) (node first : ℕ) (ws : List (Option WriterState)) (i place : ℕ)
    → first + i ≡ place
    → get_or (all_lent reads node first ws) i None ≡ lent (get_or ws i None) (reads_at reads node place)
all_lent-at reads node first [] i place sum =
    cond_both (reads_at reads node place == 0) None None (λ r. None ≡ r) (λ is. refl) (λ some. refl)
all_lent-at reads node first (w ∷ ws) zero place sum =
    let same : first ≡ place = omega arith in ap (λ p. lent w (reads_at reads node p)) same
all_lent-at reads node first (w ∷ ws) (suc i) place sum = all_lent-at reads node (first + 1) ws i place (omega arith)

-- each reads the ring of its writer, and got nothing yet
lent-new : (w : Option WriterState) (reads : ℕ) (none : Bool) →
    let r = cond none None (option_map (λ v. new_reader v reads) w) in
    IsItsRing (ring_written w) (ring_read r) × (got_of r ≡ [])
lent-new w reads true = (tt, refl)
lent-new (Some w) reads false = (refl, refl)
lent-new None reads false = (tt, refl)

pub all_lent-rings : (reads : List HostRead) (node first : ℕ) (ws : List (Option WriterState))
    → AreTheirRings (map ring_written ws) (rings_read (all_lent reads node first ws))
all_lent-rings reads node first [] = record { count = refl; each = λ place. tt }
all_lent-rings reads node first (w ∷ ws) =
    let rest = all_lent-rings reads node (first + 1) ws in record {
      count = ap suc rest.count;
      each = λ place. elim place as (λ p. IsItsRing (get_or (map ring_written (w ∷ ws)) p None) (get_or (rings_read
          (all_lent reads node first (w ∷ ws))) p None)) [
            | zero ↦ (lent-new w (reads_at reads node first) (reads_at reads node first == 0)).0
            | suc p ↦ rest.each p
          ];
    }

pub all_lent-got : (reads : List HostRead) (node : ℕ) (ws : List (Option WriterState)) (place : ℕ)
    → got_of (get_or (all_lent reads node 0 ws) place None) ≡ []
all_lent-got reads node ws place = ap got_of (all_lent-at reads node 0 ws place place (zero-add place))
    ∙ (lent-new (get_or ws place None) (reads_at reads node place) (reads_at reads node place == 0)).1

-- A host reads.

-- it goes on reading its ring
read_ring : (buffers : ℕ) (old new : Option ReaderState) → Reads buffers old new → ring_read new ≡ ring_read old
read_ring buffers (Some old) (Some new) reads =
    elim (cases_eq buffers 1) [
      | inl one ↦ ap (λ ring. Some ring) (reads.0 one).ring
      | inr more ↦ ap (λ ring. Some ring) (reads.1 more).ring
    ]
read_ring buffers old new reads = absurd reads

pub still_rings : (readers : List (Option ReaderState)) (buffers place : ℕ) (old new : Option ReaderState)
    → old ≡ get_or readers place old → Reads buffers old new
    → map ring_read (set readers place new) ≡ map ring_read readers
still_rings readers buffers place old new here reads =
    read_alike ring_read readers place old new here (read_ring buffers old new reads)

-- Where it reads, one message is got more, and there is room for one less, or nothing is.

pub record IsStep (many : ℕ) (old new : Option ReaderState) : Type 0 where
  pub got : length (got_of new) ≡ length (got_of old) + many
  pub spare : spare_of new + many ≡ spare_of old

one_more : (old new : ReaderState) (number : ℕ) → Gets old new number → IsStep 1 (Some old) (Some new)
one_more old new number gets = record {
  got = ap length gets.got ∙ length-append old.got (record { number = number; words = gets.words } ∷ []);
  spare = gets.spare;
}

none_more : (old new : ReaderState) (number start last : ℕ) → GetsNothing old new number start last
    → IsStep 0 (Some old) (Some new)
none_more old new number start last none =
    record { got = omega (arith, ap length none.got); spare = omega (arith, none.spare) }

pub step_got : (buffers : ℕ) (old new : Option ReaderState) → Reads buffers old new → got_one new ≡ true
    → IsStep 1 old new
step_got buffers (Some old) (Some new) reads is =
    elim (cases_eq buffers 1) [
      | inl one ↦ one_more old new _ (reads.0 one).got
      | inr more ↦ one_more old new _ ((reads.1 more).got is)
    ]
step_got buffers old new reads is = absurd reads

pub step_none : (buffers : ℕ) (old new : Option ReaderState) → Reads buffers old new → got_one new ≡ false
    → IsStep 0 old new
step_none buffers (Some old) (Some new) reads is =
    elim (cases_eq buffers 1) [
      | inl one ↦ absurd (false≢true (sym is ∙ lt-ltb _ _ (reads.0 one).got.intact))
      | inr more ↦ none_more old new _ _ _ ((reads.1 more).nothing is)
    ]
step_none buffers old new reads is = absurd reads

left_spare : (r : Option ReaderState) → IsLeft r → 1 ≤ spare_of r
left_spare (Some r) left = left
left_spare None left = absurd left

one_call : (from : Source) (calls : List Source) (place : ℕ) → place ≡ source_place from
    → calls_at place (calls ++ from ∷ []) ≡ calls_at place calls + 1
one_call from calls place placed = grind (arith, common_steps, nat_tests)

no_call : (from : Source) (calls : List Source) (other : ℕ) → other ≢ source_place from
    → calls_at other (calls ++ from ∷ []) ≡ calls_at other calls
no_call from calls other apart = grind (arith, common_steps, nat_tests)

-- the one that read is found where it was, and the others are as they were
module _ {shown readers : List (Option ReaderState)} (from : Source) {place : ℕ} {old : Option ReaderState}
    (new : Option ReaderState) (same : readers ≡ shown) (placed : place ≡ source_place from)
    (here : old ≡ get_or readers place old) (left : IsLeft (at_source shown from)) where
  within : place < length readers
  within = rw (same, placed) (within_list IsLeft None shown (source_place from) (λ none. none) left)

  before : old ≡ at_source shown from
  before = get_or_read readers place old within here None ∙ (λ k. get_or (same k) (placed k) None)

  after : at_source (set readers place new) from ≡ new
  after = (λ k. get_or (set readers place new) (sym placed k) None) ∙ get_or-set_same readers place new None within

  pub reads_there : Reads (buffers_of old) old new
      → Reads (buffers_of (at_source shown from)) (at_source shown from) (at_source (set readers place new) from)
  reads_there reads = rw (← before, after) reads

  pub others_there : (other : Source) → source_place other ≢ source_place from
      → at_source (set readers place new) other ≡ at_source shown other
  others_there other apart =
      get_or-set_other readers place (source_place other) new None (λ is. apart (is ∙ placed))
      ∙ ap (λ rs. at_source rs other) same

  pub calls_there : {was told : List Source} (got : Bool) → was ≡ told → got_one new ≡ got
      → (if got then was ++ from ∷ [] else was) ≡ calls_after told from (at_source (set readers place new) from)
  calls_there got calls is =
      λ k. if (sym is ∙ ap got_one (sym after)) k then calls k ++ from ∷ [] else calls k

  -- there is room for what is read
  pub room_there : (len room : ℕ) → len + sum_by spare_of readers ≤ room → len < room
  room_there len room so =
      omega (
        arith,
        so,
        left_spare (at_source shown from) left,
        ap spare_of before,
        ap spare_of (get_or_read readers place old within here None),
        get_or-le-sum_by spare_of readers place None within,
      )

  -- and it is counted
  pub room_after : {many : ℕ} (len room : ℕ) → IsStep many old new → len + sum_by spare_of readers ≤ room
      → len + many + sum_by spare_of (set readers place new) ≤ room
  room_after len room step so =
      omega (
        arith,
        so,
        step.spare,
        sum_by-set spare_of readers place new None within,
        ap spare_of (get_or_read readers place old within here None),
      )

  counts_after : {many : ℕ} (was now : List Source) → IsStep many old new
      → calls_at place now ≡ calls_at place was + many
      → ((p : ℕ) → p ≢ place → calls_at p now ≡ calls_at p was)
      → ((p : ℕ) → calls_at p was ≡ length (got_of (get_or readers p None)))
      → (p : ℕ) → calls_at p now ≡ length (got_of (get_or (set readers place new) p None))
  counts_after was now step one others counts p =
      let many = λ (r : Option ReaderState). length (got_of r) in
      elim (cases_eq p place) [
        | inl is ↦
            subst (λ q. calls_at q now ≡ length (got_of (get_or (set readers place new) q None))) (sym is)
            (omega (
              arith,
              one,
              counts place,
              step.got,
              ap many (get_or_read readers place old within here None),
              ap many (get_or-set_same readers place new None within),
            ))
        | inr apart ↦
            others p apart ∙ counts p ∙ ap many (sym (get_or-set_other readers place p new None apart))
      ]

  pub counts_got : (was : List Source) → IsStep 1 old new
      → ((p : ℕ) → calls_at p was ≡ length (got_of (get_or readers p None)))
      → (p : ℕ) → calls_at p (was ++ from ∷ []) ≡ length (got_of (get_or (set readers place new) p None))
  counts_got was step = counts_after was (was ++ from ∷ []) step (one_call from was place placed)
      (λ p apart. no_call from was p (λ is. apart (is ∙ sym placed)))

  pub counts_none : (was : List Source) → IsStep 0 old new
      → ((p : ℕ) → calls_at p was ≡ length (got_of (get_or readers p None)))
      → (p : ℕ) → calls_at p was ≡ length (got_of (get_or (set readers place new) p None))
  counts_none was step = counts_after was was step (omega arith) (λ p apart. refl)

-- the ring of a port has the port's number of buffers
ring_buffers : (buffers : ℕ) (ring : Option RingState) (r : Option ReaderState)
    → IfSome ring (λ s. s.shape.buffers ≡ buffers) → IsItsRing ring (ring_read r) → IsLeft r → buffers_of r ≡ buffers
ring_buffers buffers ring None of_port own left = absurd left
ring_buffers buffers None (Some r) of_port own left = absurd own
ring_buffers buffers (Some ring) (Some r) of_port own left = ap (λ s. s.shape.buffers) own ∙ of_port

pub buffers_there : (buffers : ℕ) (rings : List (Option RingState)) (readers : List (Option ReaderState)) (place : ℕ)
    → AreTheirRings rings (rings_read readers) → HaveBuffers buffers rings → IsLeft (get_or readers place None)
    → buffers_of (get_or readers place None) ≡ buffers
buffers_there buffers rings readers place own have left =
    let within = within_list IsLeft None readers place (λ none. none) left in
    let count = own.count in
    let far : place < length rings = omega (arith, length-map readers ring_read) in
    ring_buffers buffers (get_or rings place None) (get_or readers place None) (have place None far)
    (subst (IsItsRing (get_or rings place None)) (get_or-map ring_read readers place None None within) (own.each place))
    left

-- a fact holds at an error, whether it is one or not
pub on_err : {A E P : Type 0} (r : Result A E) → P → OnErr r P
on_err (Ok x) p = tt
on_err (Err e) p = p

pub all_settled-none : (ws : List (Option WriterState)) → all_settled ws [] ≡ ws
all_settled-none [] = refl
all_settled-none (w ∷ ws) = refl

-- those that come later are as they were
all_settled-later : (ws : List (Option WriterState)) (rs : List (Option ReaderState)) (i : ℕ)
    → get_or (all_settled ws (take i rs)) i None ≡ get_or ws i None
all_settled-later (w ∷ ws) rs zero = refl
all_settled-later (w ∷ ws) (r ∷ rs) (suc i) = all_settled-later ws rs i
all_settled-later ws rs i = refl

all_settled-more : (ws : List (Option WriterState)) (rs : List (Option ReaderState)) (i : ℕ) → i < length ws
    → i < length rs
    → set (all_settled ws (take i rs)) i (settled (get_or ws i None) (get_or rs i None))
    ≡ all_settled ws (take (suc i) rs)
all_settled-more (w ∷ ws) (r ∷ rs) zero near far = ap (λ l. settled w r ∷ l) (sym (all_settled-none ws))
all_settled-more (w ∷ ws) (r ∷ rs) (suc i) near far =
    ap (λ l. settled w r ∷ l) (all_settled-more ws rs i (omega arith) (omega arith))
all_settled-more ws rs i near far = absurd (omega arith)

pub length-all_settled : (ws : List (Option WriterState)) (rs : List (Option ReaderState))
    → length (all_settled ws rs) ≡ length ws
length-all_settled (w ∷ ws) (r ∷ rs) = ap suc (length-all_settled ws rs)
length-all_settled ws rs = refl

-- the writers `now`, of which the first i are settled, and the next one's writer and reader
pub record IsNext (ws now : List (Option WriterState)) (rs : List (Option ReaderState)) (i : ℕ)
    (writer : Option WriterState) (reader : Option ReaderState) : Type 0 where
  pub settled_so : now ≡ all_settled ws (take i rs)
  pub writers : i < length ws
  pub readers : i < length rs
  pub writer_is : writer ≡ get_or now i writer
  pub reader_is : reader ≡ get_or rs i None

-- the next one, where the readers that are left are as they were
pub is_next : {ws now : List (Option WriterState)} {rs : List (Option ReaderState)} (left : List (Option ReaderState))
    {i : ℕ} {writer : Option WriterState} {reader : Option ReaderState} → i < length ws
    → AreTheirRings (map ring_written ws) (rings_read rs) → now ≡ all_settled ws (take i rs)
    → length left ≡ length rs → ((j : ℕ) → i ≤ j → get_or left j None ≡ get_or rs j None) → writer ≡ get_or now i writer
    → reader ≡ get_or left i reader → IsNext ws now rs i writer reader
is_next {ws} {now} {rs} left {i} {writer} {reader} within own settled_so same later here there =
    let count = own.count in
    let readers : i < length rs = omega (arith, length-map ws ring_written, length-map rs ring_read) in
    record {
      settled_so = settled_so;
      writers = within;
      readers = readers;
      writer_is = here;
      reader_is =
          let near : i < length left = omega arith in
          get_or_read left i reader near there None ∙ later i (omega arith);
    }

-- that writer is as it was
pub next_writer : {ws now : List (Option WriterState)} {rs : List (Option ReaderState)} {i : ℕ}
    {writer : Option WriterState} {reader : Option ReaderState} → IsNext ws now rs i writer reader
    → writer ≡ get_or ws i None
next_writer {ws} {now} {rs} {i} {writer} next =
    let same : length now ≡ length ws = ap length next.settled_so ∙ length-all_settled ws (take i rs) in
    let within : i < length now = let near = next.writers in omega arith in
    get_or_read now i writer within next.writer_is None
    ∙ (ap (λ l. get_or l i None) next.settled_so ∙ all_settled-later ws rs i)

-- and once it is settled one more is
pub next_settled : {ws now : List (Option WriterState)} {rs : List (Option ReaderState)} {i : ℕ}
    {writer : Option WriterState} {reader : Option ReaderState} → IsNext ws now rs i writer reader
    → (new : Option WriterState) → new ≡ settled writer reader → set now i new ≡ all_settled ws (take (i + 1) rs)
next_settled {ws} {now} {rs} {i} {writer} {reader} next new done =
    (λ k. set (next.settled_so k) i ((done ∙ (λ j. settled (next_writer next j) (next.reader_is j))) k))
    ∙ rw add-one (all_settled-more ws rs i next.writers next.readers)

-- one of the readers reads the ring of its writer
pub same_ring : {ws now : List (Option WriterState)} {rs : List (Option ReaderState)} {i : ℕ}
    {writer : Option WriterState} {reader : Option ReaderState} → IsNext ws now rs i writer reader
    → AreTheirRings (map ring_written ws) (rings_read rs) → IsItsRing (ring_written writer) (ring_read reader)
same_ring {ws} {now} {rs} {i} next own =
    let writer = get_or-map ring_written ws i None None next.writers ∙ ap ring_written (sym (next_writer next)) in
    let reader = get_or-map ring_read rs i None None next.readers ∙ ap ring_read (sym next.reader_is) in
    rw (← writer, ← reader) (own.each i)
