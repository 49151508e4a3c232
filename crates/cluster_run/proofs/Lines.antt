-- The lines of a slot: those of reads wait in queues, one for each host, and are brought into the order of the reads.
use Rattle.cluster_run.proofs.Words.{◌≡◌, ◌≢◌, ℕ, ◌<◌, Bool, true, false, cond, List, [], ◌∷◌, ◌++◌, length, map}
use Rattle.cluster_run.proofs.Words.{Option, Some, None, refl, sym, ap, ◌∙◌, append_assoc, filter, IsSome, eq-eqb}
use Rattle.cluster_run.proofs.Words.{map-append, append-nil, HostRead, ReadLine, is_host, read_of, lines_by, queue_of}
use Rattle.cluster_run.proofs.Words.{AreDue, steps, ◌↔◌, IfNone, append_cancel_left, filter-append, ◌≤◌, inl, inr}
use Rattle.cluster_run.proofs.Words.{arith, ◌==◌, cases_lt, get_or_past, Source, ReadersState, calls_in, reads_of_host}
use Rattle.cluster_run.proofs.Words.{AllGot, AreLinesOf, AreQueuesOf, ◌&&◌, ◌||◌, subst, nat_le, reverse}
use Rattle.cluster_run.proofs.Words.{AllByRecursion, list_all, and_parts, le-leb, Message, Medl, Script, History}
use Rattle.cluster_run.proofs.Words.{ring_messages, ReadMessage, read_messages, never_fall, is_legal_read, pairs_from}
use Rattle.cluster_run.proofs.Words.{source_place, read_shown, pairs_read_in, not, reverse-append, is_same_source}
use Rattle.cluster_run.proofs.Words.{is_same_ring, is_not_older, is_line_from, pair_read, newest_number, get_or}
use Rattle.cluster_run.proofs.Words.{slice_get, Entry, node_past, IsEnded, ShowsState, Seat, NodeLine, HaveEndedSlot}
use Rattle.cluster_run.proofs.Words.{message_named, number_told, node_shown, zero-add, Diary, Surroundings, diary_of}
use Rattle.cluster_run.proofs.Words.{past_of, state_of, message_shown, StandsAfter, IsControllerOf, ControllerStandsFor}
use Rattle.cluster_run.proofs.Words.{Stands}
use Rattle.std.proofs.lemmas.List.Folds.{list_all-append}
use Rattle.ttp_world.proofs.LegalReads.{reverse-all}
use Rattle.ttp_world.specs.declared.node.NodeState.{NodeState}
use Rattle.ttp_world.specs.Medium.{surroundings_of}
use Rattle.controller.specs.ControllerView.{ControllerView}
use Rattle.cluster_run.proofs.ReadAll.{Rises}
use Rattle.ttp_world.specs.declared.script.Source.TheVariants as source
use Rattle.ttp_world.specs.declared.node.Entry.TheVariants as entry

-- where nothing is first there is nothing
pub if_none : {X : Type 0} (first : Option X) (old before : List X) (n : ℕ) → old ≡ before → n ≡ length before
    → (IsSome first ↔ (0 < n)) → IfNone first (old ≡ [])
if_none None old before n was long some = grind steps
if_none (Some x) old before n was long some = tt

-- Lines of one host.

pub map-kept : {A B : Type 0} (f : A → B) (b : Bool) (x : A) (xs : List A)
    → cond b (f x ∷ map f xs) (map f xs) ≡ map f (cond b (x ∷ xs) xs)
map-kept f true x xs = refl
map-kept f false x xs = refl

filter-map : {A B : Type 0} (p : B → Bool) (f : A → B) (xs : List A)
    → filter p (map f xs) ≡ map f (filter (λ x. p (f x)) xs)
filter-map p f [] = refl
filter-map p f (x ∷ xs) =
    ap (λ ys. cond (p (f x)) (f x ∷ ys) ys) (filter-map p f xs) ∙ map-kept f (p (f x)) x (filter (λ y. p (f y)) xs)

-- After the first reads: their lines, and those that are left in the queues.
pub record AreInOrder (done : List HostRead) (whole now : List (List ReadLine)) (lines : List ReadLine) : Type 0 where
  pub told : map read_of lines ≡ done
  pub kept : (k : ℕ) → lines_by k lines ++ queue_of now k ≡ queue_of whole k

head_same : {X : Type 0} (x y : X) (xs ys : List X) → x ∷ xs ≡ y ∷ ys → x ≡ y
head_same x y xs ys same = cc

none_some : {X : Type 0} (x : X) (xs : List X) → [] ≡ x ∷ xs → ⊥
none_some x xs same = cc

pub map_nothing : {A B : Type 0} (f : A → B) (xs : List A) → map f xs ≡ [] → xs ≡ []
map_nothing f [] same = refl
map_nothing f (x ∷ xs) same = absurd (none_some (f x) (map f xs) (sym same))

-- what is left for a host are its reads that are left
left_due : {reads done : List HostRead} {whole now : List (List ReadLine)}
    {lines : List ReadLine} (rest : List HostRead)
    → reads ≡ done ++ rest → AreDue reads whole → AreInOrder done whole now lines → (k : ℕ)
    → map read_of (queue_of now k) ≡ filter (is_host k) rest
left_due rest split due so k = grind (steps, append_cancel_left, filter-append, filter-map, map-append)

-- The first line that is left in the queue of the next read's host is that read's.
module _ {reads done : List HostRead} {whole now : List (List ReadLine)} {lines : List ReadLine} (r : HostRead)
    (later : List HostRead) (split : reads ≡ done ++ r ∷ later) (due : AreDue reads whole)
    (so : AreInOrder done whole now lines) where
  next_due : map read_of (queue_of now r.host) ≡ r ∷ filter (is_host r.host) later
  next_due = left_due (r ∷ later) split due so r.host
      ∙ ap (λ b. cond b (r ∷ filter (is_host r.host) later) (filter (is_host r.host) later)) (eq-eqb r.host r.host refl)

  pub line_there : queue_of now r.host ≡ [] → ⊥
  line_there none = none_some r (filter (is_host r.host) later) (ap (map read_of) (sym none) ∙ next_due)

  pub line_taken : {after : List (List ReadLine)} (line : ReadLine) → queue_of now r.host ≡ line ∷ queue_of after r.host
      → ((other : ℕ) → other ≢ r.host → queue_of after other ≡ queue_of now other)
      → AreInOrder (done ++ r ∷ []) whole after (lines ++ line ∷ [])
  line_taken line first others =
      grind (steps, append_assoc, append-nil, filter-append, head_same, map-append, next_due)

-- At the end no line is left.
pub all_in_order : {reads : List HostRead} {whole now : List (List ReadLine)} {lines : List ReadLine}
    → AreDue reads whole → AreInOrder reads whole now lines → (k : ℕ) → lines_by k lines ≡ queue_of whole k
all_in_order {reads} {whole} {now} {lines} due so k =
    let none : queue_of now k ≡ [] =
    map_nothing read_of (queue_of now k) (left_due [] (sym (append-nil reads)) due so k) in
    sym (append-nil (lines_by k lines)) ∙ ap (λ q. lines_by k lines ++ q) (sym none) ∙ so.kept k

are_due : (reads : List HostRead) (readers : List (Option ReadersState)) (queues : List (List ReadLine))
    → length queues ≡ length readers → AreQueuesOf readers queues → AllGot reads readers → AreDue reads queues
are_due reads readers queues count are got = λ k.
    elim (cases_lt k (length readers)) [
      | inl near ↦ (are k near).reads ∙ got k
      | inr past ↦
          ap (map read_of) (get_or_past queues k [] (omega arith))
          ∙ sym (ap (λ o. reads_of_host k (calls_in o)) (get_or_past readers k None past)) ∙ got k
    ]

pub lines_of_all : (reads : List HostRead) (readers : List (Option ReadersState)) (queues : List (List ReadLine))
    (lines : List ReadLine) → length queues ≡ length readers → AreQueuesOf readers queues
    → (AreDue reads queues → map read_of lines ≡ reads)
    → (AreDue reads queues → (k : ℕ) → lines_by k lines ≡ queue_of queues k) → AllGot reads readers
    → AreLinesOf reads readers lines
lines_of_all reads readers queues lines count are told own got = grind (steps, are_due, get_or_past)

-- the message that a line tells of, by its number
abbrev pub message_told : ReadLine → ReadMessage
message_told line = record { read = read_of line; number = line.pair.number }

pub messages_told : (lines : List ReadLine)
    → read_messages (map read_of lines) (map (λ (line : ReadLine). line.pair.number) lines) ≡ map message_told lines
messages_told [] = refl
messages_told (line ∷ lines) = ap (λ ms. message_told line ∷ ms) (messages_told lines)

-- The lines of one host and source.

abbrev pub pairs_of : ℕ → Source → List ReadLine → List Message
pairs_of k from lines = pairs_from from (lines_by k lines)

-- one line more in front, by whether it is of them
pairs_front : (k : ℕ) (from : Source) (line : ReadLine) (lines : List ReadLine) (b c : Bool) → (line.host == k) ≡ b
    → is_line_from from line ≡ c
    → pairs_of k from (line ∷ lines) ≡ cond (b && c) (line.pair ∷ pairs_of k from lines) (pairs_of k from lines)
pairs_front k from line lines true true own here = grind steps
pairs_front k from line lines true false own here = grind steps
pairs_front k from line lines false c own here =
    ap (λ t. pairs_from from (cond t (line ∷ lines_by k lines) (lines_by k lines))) own

pub pairs_own : (line : ReadLine) (lines : List ReadLine)
    → pairs_of line.host line.source (line ∷ lines) ≡ line.pair ∷ pairs_of line.host line.source lines
pairs_own line lines = grind steps

-- what holds of all pairs of each host and source holds of each line
front_later : (P : Message → Type 0) (x : Message) (xs : List Message) (b : Bool)
    → AllByRecursion P (cond b (x ∷ xs) xs) → AllByRecursion P xs
front_later P x xs true all = all.1
front_later P x xs false all = all

pub each_line : (P : ℕ → Source → Message → Type 0) (lines : List ReadLine)
    → ((k : ℕ) (from : Source) → AllByRecursion (P k from) (pairs_of k from lines))
    → AllByRecursion (λ (line : ReadLine). P line.host line.source line.pair) lines
each_line P [] all = tt
each_line P (line ∷ lines) all = (
  (subst (AllByRecursion (P line.host line.source)) (pairs_own line lines) (all line.host line.source)).0,
  each_line P lines (λ k from.
      front_later (P k from) line.pair (pairs_of k from lines) ((line.host == k) && is_line_from from line)
      (subst (AllByRecursion (P k from))
      (pairs_front k from line lines (line.host == k) (is_line_from from line) refl refl) (all k from))),
)

-- No number falls.

same_by_place : (a b : Source) → is_same_source a b ≡ (source_place a == source_place b)
same_by_place source.Status source.Status = refl
same_by_place (source.Node j) (source.Node k) = grind steps
same_by_place a b = grind steps

never_fall-last : (rs : List ReadMessage) (e : ReadMessage) → never_fall rs ≡ true
    → AllByRecursion (λ (r : ReadMessage). is_not_older r e ≡ true) rs → never_fall (rs ++ e ∷ []) ≡ true
never_fall-last [] e falls all = refl
never_fall-last (r ∷ rs) e falls all =
    let parts = and_parts (list_all (is_not_older r) rs) (never_fall rs) falls in
    let here : list_all (is_not_older r) (rs ++ e ∷ []) ≡ true =
    list_all-append (is_not_older r) rs (e ∷ []) ∙ (λ i. parts.0 i && (all.0 i && true)) in
    λ i. here i && never_fall-last rs e parts.1 all.1 i

not_older_if : (same : Bool) (n : ℕ) (m : Message) (ms : List Message)
    → AllByRecursion (λ (e : Message). n ≤ e.number) (cond same (m ∷ ms) ms) → (not same || nat_le n m.number) ≡ true
not_older_if true n m ms all = le-leb n m.number all.0
not_older_if false n m ms all = refl

not_older_later : (line : ReadLine) (lines : List ReadLine)
    → AllByRecursion (λ (e : Message). line.pair.number ≤ e.number) (pairs_of line.host line.source lines)
    → AllByRecursion (λ (r : ReadMessage). is_not_older r (message_told line) ≡ true) (map message_told lines)
not_older_later line [] all = tt
not_older_later line (e ∷ lines) all =
    let from = line.source in
    let n = line.pair.number in
    let rest = pairs_of line.host from lines in
    let same = (e.host == line.host) && is_line_from from e in
    let front = subst (AllByRecursion (λ (m : Message). n ≤ m.number))
    (pairs_front line.host from e lines (e.host == line.host) (is_line_from from e) refl refl) all in
    let ring : is_same_ring (read_of e) (read_of line) ≡ same =
    ap (λ b. (e.host == line.host) && b) (same_by_place e.source from) in (
      ap (λ b. not b || nat_le n e.pair.number) ring ∙ not_older_if same n e.pair rest front,
      not_older_later line lines (front_later (λ (m : Message). n ≤ m.number) e.pair rest same front),
    )

rise_later : (m : Message) (ms : List Message) (b : Bool) → Rises (cond b (m ∷ ms) ms) → Rises ms
rise_later m ms true rise = rise.1
rise_later m ms false rise = rise

pub never_fall-lines : (lines : List ReadLine) → ((k : ℕ) (from : Source) → Rises (pairs_of k from lines))
    → never_fall (reverse (map message_told lines)) ≡ true
never_fall-lines [] rise = refl
never_fall-lines (line ∷ lines) rise =
    let told = map message_told lines in
    ap never_fall (reverse-append (message_told line ∷ []) told) ∙ never_fall-last (reverse told) (message_told line)
    (never_fall-lines lines (λ k from.
    rise_later line.pair (pairs_of k from lines) ((line.host == k) && is_line_from from line)
    (subst Rises (pairs_front k from line lines (line.host == k) (is_line_from from line) refl refl) (rise k from))))
    (reverse-all (λ (r : ReadMessage). is_not_older r (message_told line) ≡ true) told
    (not_older_later line lines ((subst Rises (pairs_own line lines) (rise line.host line.source)).0)))

-- Lines that tell the messages of their rings.

abbrev pub TellsRing : Medl → Script → History → ReadLine → Type 0
TellsRing list script after line = line.pair ≡ pair_read list script after (message_told line)

pub reads_shown : (list : Medl) (script : Script) (after : History) (lines : List ReadLine)
    → AllByRecursion (TellsRing list script after) lines
    → lines ≡ map (read_shown list script after) (map message_told lines)
reads_shown list script after [] all = refl
reads_shown list script after (line ∷ lines) all =
    λ i. record { host = line.host; source = line.source; pair = all.0 i } ∷ reads_shown list script after lines all.1 i

pub pairs_told : (list : Medl) (script : Script) (after : History) (lines : List ReadLine) (k : ℕ) (from : Source)
    → AllByRecursion (TellsRing list script after) lines
    → pairs_read_in list script after (map message_told lines) k from ≡ pairs_of k from lines
pairs_told list script after [] k from all = refl
pairs_told list script after (line ∷ lines) k from all = grind (steps, pairs_told list script after lines k from all.1)

-- A line shows a message between the newest of its ring before the slot and the newest after it.
pub record IsLegalLine (list : Medl) (script : Script) (before after : History) (line : ReadLine) : Type 0 where
  pub least : newest_number (ring_messages list script before line.host line.source) ≤ line.pair.number
  pub most : line.pair.number ≤ newest_number (ring_messages list script after line.host line.source)

pub legal_lines : (list : Medl) (script : Script) (before after : History) (lines : List ReadLine)
    → AllByRecursion (IsLegalLine list script before after) lines
    → list_all (is_legal_read list script before after) (map message_told lines) ≡ true
legal_lines list script before after [] all = refl
legal_lines list script before after (line ∷ lines) all =
    grind (steps, legal_lines list script before after lines all.1)

named_shown : (list : Medl) (script : Script) (row : List Entry) (before : History) (k : ℕ) (e : Entry)
    → message_named e (number_told list script row before k) ≡ message_shown list script row before k e
named_shown list script row before k entry.Off = refl
named_shown list script row before k e = refl

stands_now : {view : ControllerView} {diary : Diary} {surroundings : Surroundings}
    → ControllerStandsFor view diary surroundings
    → Stands view diary surroundings view.turn
stands_now stands = record { past = stands.past; slots = stands.slots; turn = refl }

module _ {list : Medl} where
  -- The line of a node that has ended a slot, whose controller shows these states, with the number of what was
  -- delivered:
  -- the message is that of the entry in any state that it shows.
  pub line_shown :
      {script : Script} {row : List Entry} {before : History} {seats : List Seat} {delivered : List (Option ℕ)}
      (so : HaveEndedSlot list script row before seats delivered) (k : ℕ) (seat : Seat) (line : NodeLine)
      (again : NodeState)
      → slice_get seats k ≡ Some seat → k < length seats → ShowsState seat.controller line.state
      → ShowsState seat.controller again → line.message ≡ message_named again.entry (get_or delivered k None)
      → line ≡ node_shown list script row before k
  line_shown {script} {row} {before} so k seat line again here near shows shows_again message =
      let after = row ∷ before in
      let view = seat.controller in
      let is = subst (λ j. IsControllerOf list IsEnded so.bound j view) (zero-add k) (so.seats_are.each k seat here) in
      let stands = stands_now (subst (λ j. StandsAfter script after j view) (zero-add k) (so.stand.each k seat here)) in
      let past = past_of view.list view.node (diary_of after k) (surroundings_of script after k) in
      let state : line.state ≡ state_of past =
      shows (diary_of after k) (surroundings_of script after k) view.turn stands in
      let state_again : again ≡ state_of past =
      shows_again (diary_of after k) (surroundings_of script after k) view.turn stands in
      let same : state_of past ≡ state_of (node_past list script after k) =
      λ i. state_of (past_of (is.list i) (is.node i) (diary_of after k) (surroundings_of script after k)) in
      let named : line.message ≡ message_shown list script row before k
      (state_of (node_past list script after k)).entry =
      message ∙ (λ i. message_named ((state_again ∙ same) i).entry (so.numbers k near i))
      ∙ named_shown list script row before k (state_of (node_past list script after k)).entry in
      λ i. record { state = (state ∙ same) i; message = named i }
