-- What the sending of a slot asks and gives, write by write and node by node.
use Rattle.cluster_run.proofs.Words.{◌≡◌, ℕ, ◌+◌, ◌<◌, ◌≤◌, Bool, true, false, cond, List, [], ◌∷◌, ◌++◌, length, map}
use Rattle.cluster_run.proofs.Words.{set, take, drop, get_or, count_by, Option, Some, None, option_map, refl, sym, ap}
use Rattle.cluster_run.proofs.Words.{◌∙◌, arith, ◌==◌, IsSome, filter_map, false≢true, eq-eqb, eqb-true}
use Rattle.cluster_run.proofs.Words.{false_from_ne_true, append-nil, length-map, take_more, take-append-drop, HostWrite}
use Rattle.cluster_run.proofs.Words.{payload_of_host, words_of_payload, WriteLine, HostState, written, Takes, HasRoom}
use Rattle.cluster_run.proofs.Words.{host_at, with_messages, after_writes, message_count, host_write_line}
use Rattle.cluster_run.proofs.Words.{host_write_lines, steps, cons_option, filter_map-append, most_number, messages_by}
use Rattle.cluster_run.proofs.Words.{length-append, suc, IfSome, All, subst, ForSome, All-head, none-some, same_Some}
use Rattle.cluster_run.proofs.Words.{Message, ReaderState, new_reader, Medl, Chosen, Script, EVENT_LIMIT, plan_at}
use Rattle.cluster_run.proofs.Words.{messages_before, nothing_chosen, messages_written, writes_in, word_count}
use Rattle.cluster_run.proofs.Words.{BegunSlot, Numbers, is_loaded, world, AreBytes, Seat, CurrentSlot, AreBytesBefore}
use Rattle.cluster_run.proofs.Words.{HaveBegunFor, HaveChosen, next_slot, writes_shown, words_written, AreLent, Fetches}
use Rattle.cluster_run.proofs.Words.{MaySettle, MayLend, MayWriteAll, FetchesOne, WritesBytes, fetcher_lent, add-one}
use Rattle.cluster_run.proofs.Words.{cond_both, All-append, All-tail, write_in, pairs_sent, FetchAll, MayFetchAll}
use Rattle.cluster_run.proofs.Words.{MayFetchAlone, IsValidWrite, few_messages, filter_map-each, valid_write_at}
use Rattle.cluster_run.proofs.Words.{valid_writes, filter_map-few, HaveBegun, slice_get, unwrap_or, no_plan, plan_few}
use Rattle.std.proofs.lemmas.List.Sums.{count_by-le-length}
use Rattle.ttp_world.specs.declared.medl.SlotPlan.{SlotPlan}
use Rattle.cluster_run.proofs.Choices.{HasRing, has_ring, node_choice}
use Rattle.cluster_run.proofs.Rings.{ring_count, ring_some, ring_takes}
use Rattle.cluster_run.proofs.HandingOn.{loaded-payload}
use Rattle.cluster_run.proofs.Changes.{AreBothChanged}

-- the ends and the lines once these writes were made
pub record AreWritten (old : List HostState) (writes : List HostWrite) (ends : List HostState) (lines : List WriteLine)
    : Type 0 where
  pub count : length ends ≡ length old
  pub each : (k : ℕ) → host_at ends k ≡ after_writes writes k (host_at old k)
  pub lines_are : lines ≡ host_write_lines old [] writes

-- Of one more: its host's ring has one message more.

after_one : (own : Bool) (messages : List (List ℕ)) (payload : List ℕ) (end : HostState)
    → option_map (λ w. with_messages w (messages ++ cons_option (cond own (Some payload) None) [])) end
    ≡ cond own (written (option_map (λ w. with_messages w messages) end) (words_of_payload payload))
    (option_map (λ w. with_messages w messages) end)
after_one true messages payload (Some w) = grind steps
after_one false messages payload (Some w) = λ i. Some (with_messages w (append-nil messages i))
after_one own messages payload end = refl

after_more : (writes : List HostWrite) (w : HostWrite) (k : ℕ) (end : HostState)
    → after_writes (writes ++ w ∷ []) k end
    ≡ cond (w.host == k) (written (after_writes writes k end) (words_of_payload w.payload)) (after_writes writes k end)
after_more writes w k end =
    ap (λ ms. option_map (λ v. with_messages v ms) end) (filter_map-append (payload_of_host k) writes (w ∷ []))
    ∙ after_one (w.host == k) (messages_by k writes) w.payload end

-- The line: its number follows those of the messages before it.

write_lines-more : (old : List HostState) (earlier writes : List HostWrite) (w : HostWrite)
    → host_write_lines old earlier (writes ++ w ∷ [])
    ≡ host_write_lines old earlier writes
    ++ host_write_line old w.host
    (count_by (λ e. e.host == w.host) earlier + count_by (λ e. e.host == w.host) writes) ∷ []
write_lines-more old earlier [] w = ap (λ n. host_write_line old w.host n ∷ []) (omega arith)
write_lines-more old earlier (v ∷ writes) w = grind (steps, write_lines-more old (v ∷ earlier) writes w)

counted : (k : ℕ) (writes : List HostWrite) → length (messages_by k writes) ≡ count_by (λ e. e.host == k) writes
counted k [] = refl
counted k (w ∷ writes) = grind (steps, counted k writes)

count_after : (k : ℕ) (writes : List HostWrite) (end : HostState) → IsSome end
    → message_count (after_writes writes k end) ≡ message_count end + count_by (λ e. e.host == k) writes
count_after k writes None some = absurd (false≢true some)
count_after k writes (Some w) some = length-append w.messages (map words_of_payload (messages_by k writes))
    ∙ ap (λ n. length w.messages + n) (length-map (messages_by k writes) words_of_payload ∙ counted k writes)

was_some : (k : ℕ) (writes : List HostWrite) (end : HostState) → IsSome (after_writes writes k end) → IsSome end
was_some k writes None some = some
was_some k writes (Some w) some = some

pub written_more : (old ends : List HostState) (writes : List HostWrite) (lines : List WriteLine) (w : HostWrite)
    → AreWritten old writes ends lines → w.host < length ends → IsSome (host_at ends w.host)
    → AreWritten old (writes ++ w ∷ [])
    (set ends w.host (written (host_at ends w.host) (words_of_payload w.payload)))
    (lines ++ host_write_line ends w.host 0 ∷ [])
written_more old ends writes lines w so within some =
    grind (steps, after_more, count_after, eq-eqb, eqb-true, false_from_ne_true, was_some, write_lines-more)

-- What a ring takes, it takes after the writes, and it has room for one more of so many.

pub takes_after : (k : ℕ) (writes : List HostWrite) (end : HostState) (size : ℕ) → Takes end size
    → Takes (after_writes writes k end) size
takes_after k writes None size takes = takes
takes_after k writes (Some w) size takes = takes

pub room_after : (k : ℕ) (writes : List HostWrite) (end : HostState) (size many : ℕ) → Takes end size
    → message_count end + many ≤ most_number → length writes < many → HasRoom (after_writes writes k end)
room_after k writes None size many takes few more = takes
room_after k writes (Some w) size many takes few more =
    omega (arith, count_after k writes (Some w) refl, count_by-le-length (λ (e : HostWrite). e.host == k) writes)

pub takes-some : (end : HostState) (size : ℕ) → Takes end size → IsSome end
takes-some None size takes = absurd takes
takes-some (Some w) size takes = refl

-- The writes at the first places.

pub taken_some : {X Y : Type 0} (h : X → Option Y) (xs : List X) (i : ℕ) (x : X) (y : Y) → i < length xs
    → x ≡ get_or xs i x → h x ≡ Some y → filter_map h (take (i + 1) xs) ≡ filter_map h (take i xs) ++ y ∷ []
taken_some h xs i x y within here is = ap (filter_map h) (take_more xs i x within)
    ∙ filter_map-append h (take i xs) (get_or xs i x ∷ [])
    ∙ ap (λ o. filter_map h (take i xs) ++ cons_option o []) (ap h (sym here) ∙ is)

pub taken_none : {X Y : Type 0} (h : X → Option Y) (xs : List X) (i : ℕ) (x : X) → i < length xs → x ≡ get_or xs i x
    → h x ≡ None → filter_map h (take (i + 1) xs) ≡ filter_map h (take i xs)
taken_none h xs i x within here is = grind (steps, append-nil, filter_map-append, take_more)

-- one that is taken leaves room in the count of all
pub taken_room : {X Y : Type 0} (h : X → Option Y) (xs : List X) (i : ℕ) (x : X) (y : Y) → i < length xs
    → x ≡ get_or xs i x → h x ≡ Some y → length (filter_map h (take i xs)) < length (filter_map h xs)
taken_room h xs i x y within here is =
    let front = filter_map h (take (i + 1) xs) in
    let back = filter_map h (drop (i + 1) xs) in
    let one : length front ≡ length (filter_map h (take i xs) ++ y ∷ []) =
    ap length (taken_some h xs i x y within here is) in
    let whole : length (filter_map h xs) ≡ length (front ++ back) = ap length
    (ap (filter_map h) (sym (take-append-drop (i + 1) xs)) ∙ filter_map-append h (take (i + 1) xs) (drop (i + 1) xs)) in
    omega (arith, one, whole, length-append (filter_map h (take i xs)) (y ∷ []), length-append front back)

-- The slot of a list's node.
pub plan_there : (list : Medl) (k : ℕ) (plan : SlotPlan) → slice_get list.slots k ≡ Some plan → plan_at list k ≡ plan
plan_there list k plan here = ap (λ (o : Option SlotPlan). unwrap_or o no_plan) here

pub few_writes : (script : Script) (slot : ℕ) → length script.events ≤ EVENT_LIMIT
    → length (writes_in script slot) ≤ EVENT_LIMIT
few_writes script slot few = omega (arith, filter_map-few (write_in slot) script.events, few)

-- Their lines.

lines_of : (list : Medl) (script : Script) (slot : ℕ) (ends : List HostState) (earlier writes : List HostWrite)
    → ((k : ℕ) → k < length list.slots → 1 ≤ (plan_at list k).payload
    → message_count (host_at ends k) ≡ length (messages_before list script k slot))
    → All (IsValidWrite list) writes
    → host_write_lines ends earlier writes ≡ writes_shown list script slot earlier writes
lines_of list script slot ends earlier [] counts valid = refl
lines_of list script slot ends earlier (w ∷ writes) counts valid =
    let write = All-head (IsValidWrite list) w writes valid in
    let count = counts w.host write.node write.some in
    λ i. record { host = w.host; number = count i + count_by (λ e. e.host == w.host) earlier }
    ∷ lines_of list script slot ends (w ∷ earlier) writes counts (All-tail (IsValidWrite list) w writes valid) i

-- What they write is bytes.

own_bytes : (k : ℕ) (w : HostWrite) → WritesBytes w → IfSome (payload_of_host k w) AreBytes
own_bytes k w bytes =
    cond_both (w.host == k) (Some w.payload) None (λ o. IfSome o AreBytes) (λ own. bytes) (λ other. tt)

pub more_bytes : (at : CurrentSlot) → AreBytesBefore at.list.now at.script.now at.slot
    → All WritesBytes (writes_in at.script.now at.slot) → AreBytesBefore at.list.now at.script.now (at.slot + 1)
more_bytes at bytes written k =
    let script = at.script.now in
    rw add-one
    (All-append AreBytes (messages_before at.list.now script k at.slot) (messages_written script k at.slot) (bytes k)
    (filter_map-each (payload_of_host k) WritesBytes AreBytes (writes_in script at.slot) (own_bytes k) written))

-- Controllers may fetch.

pub lent_may : (loaded : Bool) (end : HostState) (f : ReaderState) → fetcher_lent loaded end ≡ Some f → 1 ≤ f.spare
lent_may true (Some w) f is = omega (arith, ap (λ (r : ReaderState). r.spare) (same_Some (new_reader w 1) f is))
lent_may loaded end f is = absurd (none-some f is)

pub may_fetch_all : {s : BegunSlot} {ends : List HostState} {fetchers : List (Option ReaderState)}
    → AreLent s ends fetchers → MayFetchAll fetchers
may_fetch_all {s = s} {ends = ends} {fetchers = fetchers} lent k f is = grind steps

-- Fetchers may be settled.

pub fetched_may : {messages : List (List ℕ)} {pairs : List Message} (list : Medl) (k : ℕ) (loaded : Bool)
    (end : HostState) (f1 : Option ReaderState) (f : ReaderState)
    → (loaded ≡ true → HasRing list k messages pairs end) → Fetches (fetcher_lent loaded end) f1 → f1 ≡ Some f
    → MaySettle end (plan_at list k).payload f
fetched_may list k loaded end None f ring fetches is = absurd (none-some f is)
fetched_may list k true (Some w) (Some f1) f ring fetches is = grind steps
fetched_may list k loaded end (Some f1) f ring fetches is = absurd fetches

-- A fetcher that may be settled may be settled after the hosts' writes.
after_own : (writes : List HostWrite) (k len : ℕ) (end : HostState) (f : ReaderState) → MaySettle end len f
    → MaySettle (after_writes writes k end) len f
after_own writes k len None f may = absurd may.own
after_own writes k len (Some w) f may = record { own = may.own; words = may.words }

-- A slot that has begun for some numbers.

module _ {at : CurrentSlot} {numbers : Numbers} {seats : List Seat} {ends : List HostState}
    (count : length ends ≡ length at.list.now.slots) (begun : HaveBegunFor at numbers seats ends) where
  abbrev list : Medl
  list = at.list.now

  abbrev script : Script
  script = at.script.now

  abbrev s : BegunSlot
  s = next_slot list script numbers

  pub ring_loaded : (k : ℕ) → k < length list.slots → is_loaded s k ≡ true
      → HasRing list k (words_written list script k (length numbers))
      (pairs_sent list script numbers k) (host_at ends k)
  ring_loaded k node loaded =
      has_ring list k _ _ (host_at ends k) (loaded-payload list script (world list script numbers) k node loaded)
      (begun.written k node)

  -- fetchers may be lent
  abbrev pub may_lend : MayLend seats ends
  may_lend = record {
    slot = s;
    begun = begun.begun;
    rings = λ k near loaded. ring_some _ _ _ (host_at ends k) (ring_loaded k (omega (arith, near, count)) loaded).there;
  }

  -- hosts may write
  pub may_write_all : (many : ℕ) → many ≤ EVENT_LIMIT → MayWriteAll script many ends
  may_write_all many few place w here =
      let write = valid_write_at list script place w at.valid_script here in
      let end = host_at ends w.host in
      let ring = (has_ring list w.host (words_written list script w.host (length numbers))
      (pairs_sent list script numbers w.host) end write.some (begun.written w.host write.node)).there in
      let before = messages_before list script w.host (length numbers) in
      let many_before = ring_count _ _ _ end ring ∙ length-map before words_of_payload in
      let few_before = few_messages list script w.host (length numbers) at.valid at.valid_script in
      record {
        takes = ring_takes _ _ _ end (length w.payload) ring
            (omega (arith, write.size, plan_few list w.host at.valid)) (ap word_count write.size);
        room = omega (arith, many_before, few_before, begun.count, at.within, at.valid_script.slots, few);
      }

  -- the lines of what they write
  pub lines_shown : host_write_lines ends [] (writes_in script at.slot) ≡ writes_shown list script at.slot []
      (writes_in script at.slot)
  lines_shown = lines_of list script at.slot ends [] (writes_in script at.slot)
      (λ k node some.
      ring_count _ _ _ (host_at ends k) (has_ring list k _ _ (host_at ends k) some (begun.written k node)).there
      ∙ length-map (messages_before list script k (length numbers)) words_of_payload
      ∙ ap (λ n. length (messages_before list script k n)) begun.count)
      (valid_writes list script at.slot at.valid_script)

  -- controllers may fetch where no host writes
  pub may_fetch_alone : MayFetchAlone list seats ends
  may_fetch_alone = record {
    lend = may_lend;
    settle = λ k near tried fetches f is.
        fetched_may list k (is_loaded s k) (host_at ends k) tried f
        (ring_loaded k (omega (arith, near, count))) fetches is;
  }

  -- fetchers may be settled
  pub may_settle : {fetchers : List (Option ReaderState)} (tried : List (Option ReaderState)) (writes : List HostWrite)
      → AreLent s ends fetchers → FetchAll fetchers tried → (k : ℕ) → k < length ends
      → ForSome (get_or tried k None) (MaySettle (after_writes writes k (host_at ends k)) (plan_at list k).payload)
  may_settle tried writes lent tries k near f is = after_own writes k (plan_at list k).payload (host_at ends k) f
      (fetched_may list k (is_loaded s k) (host_at ends k) (get_or tried k None) f
      (ring_loaded k (omega (arith, near, count)))
      (rw (lent.each k near) at (tries.each k (omega (arith, near, lent.count)))) is)

  -- Once all fetchers are settled, each frame's message is chosen.
  pub have_chosen : {settled_ends : List HostState} {chosen : List Chosen} (before : List Chosen)
      → AreBytesBefore list script (at.slot + 1)
      → ((k : ℕ) → k < length list.slots → FetchesOne (plan_at list k).payload (is_loaded s k) (host_at ends k)
      (after_writes (writes_in script at.slot) k (host_at ends k)) (host_at settled_ends k)
      (get_or before k nothing_chosen) (get_or chosen k nothing_chosen))
      → HaveChosen list script numbers chosen settled_ends
  have_chosen {settled_ends = settled_ends} {chosen = chosen} before bytes fetches =
      let each = λ (k : ℕ) (node : k < length list.slots). node_choice list script (length numbers) k at.valid_script
      (subst (λ n. All AreBytes (messages_before list script k n))
      (add-one at.slot ∙ ap suc (sym begun.count)) (bytes k))
      (loaded-payload list script (world list script numbers) k node) (begun.written k node)
      (subst (λ n. FetchesOne (plan_at list k).payload (is_loaded s k) (host_at ends k)
      (after_writes (writes_in script n) k (host_at ends k)) (host_at settled_ends k) (get_or before k nothing_chosen)
      (get_or chosen k nothing_chosen)) (sym begun.count) (fetches k node)) in
      record {
        messages = λ k node loaded. (each k node).message loaded;
        legal = λ k node. (each k node).legal;
        written = λ k node. (each k node).ring;
      }

-- the first controllers have fetched, so many, and what is of the others is as it was
abbrev pub HaveFetched : Medl → List Seat → ℕ → List HostState → List HostState → List Chosen → List Chosen → Type 0
HaveFetched list seats k =
    AreBothChanged (λ j old new before after. (s : BegunSlot) → HaveBegun s 0 seats
    → FetchesOne (plan_at list j).payload (is_loaded s j) old old new before after) None nothing_chosen k

-- No write leaves an end as it was.
pub unwritten : (end : HostState) (k : ℕ) → after_writes [] k end ≡ end
unwritten None k = refl
unwritten (Some w) k = grind steps
