-- The causes of an entry are of earlier slots, or hang less on what is heard in its own.
use Rattle.std.proofs.Common.{◌≡◌, ℕ, zero, suc, ◌+◌, ◌-◌, ◌<◌, ◌≤◌, ◌++◌, ◌==◌}
use Rattle.std.proofs.Common.{◌&&◌, ◌||◌, ◌⊎◌, inl, inr, Bool, true, false}
use Rattle.std.proofs.Common.{List, [], ◌∷◌}
use Rattle.std.proofs.Common.{ap, refl, arith, drop, length, map, not, take}
use Rattle.std.proofs.lemmas.Bool.{false≢true}
use Rattle.std.proofs.lemmas.List.Elements.{All-from_recursion, All-take, recursion_from_All}
use Rattle.std.specs.List.{AllByRecursion, list_any}
use Rattle.std.specs.Prelude.{None, Option, Some, filter, flat_map, is_some, nat_le, nat_lt}
use Rattle.causes.specs.Causes.{entry_cause}
use Rattle.causes.specs.Clocks.{NotedClock, clock_reason, lower_first, noted_clock}
use Rattle.causes.specs.Clocks.{noted_clocks, spots_joined, stint_join}
use Rattle.causes.specs.Clocks.{is_unread, unread_before, unread_entries, was_averaged}
use Rattle.causes.specs.Judged.{against_sources, came_as_sent, correct_by, denied_cause, doubt_entries}
use Rattle.causes.specs.Judged.{second_channel, sender_heard, tentative_cause}
use Rattle.causes.specs.LinesOf.{flipping_lines, has_frames, heard_in, noise_sources}
use Rattle.causes.specs.LinesOf.{noisy_in, remaining_in, silencing_in}
use Rattle.causes.specs.LinesOf.{bytes_sent, first_line, lines_where, spoilt_by, spoilt_in}
use Rattle.causes.specs.Listening.{back_to_listening, has_joinable, hears_nothing, is_empty, join_cause, join_cause_on}
use Rattle.causes.specs.Listening.{kept_from_joining, listening_by, listening_from, listening_node, listening_since}
use Rattle.causes.specs.Listening.{listening_sources, missing_by, missing_node, off_cause}
use Rattle.causes.specs.Listening.{on_line_unless, silenced_in, silent_node}
use Rattle.causes.specs.Listening.{sources_before_join, start_cause, wait_cause, wait_sources, would_send}
use Rattle.causes.specs.Members.{Difference, difference_of, differing, doubt_reason, earliest, entry_at_spot}
use Rattle.causes.specs.Members.{if_join, is_earlier, members_due, members_reason}
use Rattle.causes.specs.Members.{members_reason_of, members_sent, telling_of}
use Rattle.causes.specs.Missed.{absence_reason, channel_reason, deafens, decides, elsewhere, frame_reason}
use Rattle.causes.specs.Missed.{is_same_place, is_same_view, missed_by, missed_by_each, missed_cause, nobody_reason}
use Rattle.causes.specs.Missed.{nobody_reason_by, noise_reason, reason_of_signal, signal_sent, view_of_signal}
use Rattle.causes.specs.OwnSlots.{answer_of, clique_cause, lacked_too, quiet_entries, retry_cause, settled_doubts}
use Rattle.causes.specs.OwnSlots.{shared_by, slots_before_one, start_again, unanswered_entries}
use Rattle.causes.specs.RunSlots.{RunSlot, RunSlots, back_to, doubted_in, entry_in_slot, is_gone_entry, is_joined}
use Rattle.causes.specs.RunSlots.{is_left, is_miss, is_miss_or_tentative, is_quiet, is_rejected, is_retried, is_started}
use Rattle.causes.specs.RunSlots.{is_tentative, is_waited, judged_since_own, judged_so}
use Rattle.causes.specs.RunSlots.{newest_departure, node_spot, past_in}
use Rattle.causes.specs.RunSlots.{place_of_node, since_own, spots_at_node}
use Rattle.causes.specs.Said.{JoinedFrame, frame_joined, path, said}
use Rattle.causes.specs.Sources.{ChannelReason, Sources, all_sources, by_entries, by_lines, has_sources, no_sources}
use Rattle.causes.specs.Sources.{only_entries, only_lines, sources_of, with_sources}
use Rattle.causes.specs.Story.{rank_of_entry}
use Rattle.causes.specs.declared.cause.Cause.{Cause}
use Rattle.causes.specs.declared.cause.Miss.TheVariants as miss
use Rattle.causes.specs.declared.cause.ScriptLine.{ScriptLine}
use Rattle.causes.specs.declared.cause.ScriptLine.TheVariants as line
use Rattle.causes.specs.declared.cause.Spot.{Spot}
use Rattle.ttp_base.specs.NodeSet.{below, has_node}
use Rattle.ttp_world.proofs.LineLists.{each-append}
use Rattle.ttp_world.specs.Acknowledgement.{is_correct, is_sent_or_joined}
use Rattle.ttp_world.specs.Diary.{begins_stint}
use Rattle.ttp_world.specs.Medium.{Bits, Noise, Signal, Silence}
use Rattle.ttp_world.specs.Reception.{is_within_window}
use Rattle.ttp_world.specs.Script.{on_slot}
use Rattle.ttp_world.specs.World.{deviation_in}
use Rattle.ttp_world.specs.declared.node.Entry.{Entry}
use Rattle.ttp_world.specs.declared.node.Entry.TheVariants as entry
use Rattle.ttp_world.specs.declared.node.Reason.TheVariants as reason
use Rattle.ttp_world.specs.declared.node.Verdict.{Verdict}
use Rattle.ttp_world.specs.declared.node.Verdict.TheVariants as verdict
use Rattle.ttp_world.specs.declared.script.Channel.{Channel}
use Rattle.ttp_world.specs.declared.script.Channel.TheVariants as channel
use Rattle.why_answers.proofs.PastSpots.{ArePast, IsPast, back-count, back-each, departure-past, doubts-past, each-any}
use Rattle.why_answers.proofs.PastSpots.{each-drop, each-flat_map, each-kept, each-map, elim-both, if-both}
use Rattle.why_answers.proofs.PastSpots.{judged-each, judged-past, path-past, said-past, since-each, spots-past}
use Rattle.why_answers.proofs.SpotOrder.{each-weaker}

-- What spoils.

abbrev Have : (Spot → Type 0) → Sources → Type 0
Have P sources = AllByRecursion P sources.entries

abbrev HaveReason : (Spot → Type 0) → ChannelReason → Type 0
HaveReason P r = AllByRecursion P r.sources.entries

abbrev pub HaveCauses : (Spot → Type 0) → Cause → Type 0
HaveCauses P cause = AllByRecursion P cause.entries

-- of what sends in a slot
abbrev Spoils : (Spot → Type 0) → RunSlot → Type 0
Spoils P u = (c : Channel) → AllByRecursion (λ p. P (node_spot p u)) (remaining_in c u)

noise-have : (P : Spot → Type 0) (c : Channel) (u : RunSlot) (l : Option ScriptLine) → Spoils P u
    → Have P (noise_sources c u l)
noise-have P c u (Some l) spoils = tt
noise-have P c u None spoils = each-map P (λ p. node_spot p u) (remaining_in c u) (spoils c)

spoilt-by : (P : Spot → Type 0) (k : ℕ) (u : RunSlot) (c : Channel) (signal : Signal) → Spoils P u
    → Have P (spoilt_by k u c signal)
spoilt-by P k u c Silence spoils = tt
spoilt-by P k u c Noise spoils = noise-have P c u (noisy_in k u c) spoils
spoilt-by P k u c (Bits p bytes) spoils = tt

spoilt-have : (P : Spot → Type 0) (k : ℕ) (u : RunSlot) → Spoils P u → Have P (spoilt_in k u)
spoilt-have P k u spoils =
    let a = spoilt_by k u channel.A (heard_in k u channel.A) in
    let b = spoilt_by k u channel.B (heard_in k u channel.B) in
    elim-both (has_frames u.frames) (with_sources a b) no_sources (Have P)
    (λ is. each-append P a.entries b.entries (spoilt-by P k u channel.A (heard_in k u channel.A) spoils)
    (spoilt-by P k u channel.B (heard_in k u channel.B) spoils))
    (λ is. tt)

past-spoils : (t : ℕ) (u : RunSlot) → u.begun.number < t → Spoils (IsPast t) u
past-spoils t u here c = each-any (λ p. IsPast t (node_spot p u)) (λ p. here) (remaining_in c u)

-- Listening.

listening-by : (t k : ℕ) (run : RunSlots) (s : RunSlot) (e : Entry)
    → s.begun.number < t → IsPast t (newest_departure k run)
    → Have (IsPast t) (listening_by k run s e)
listening-by t k run s entry.Retried here left = (here, tt)
listening-by t k run s (entry.Left why peer) here left = (left, tt)
listening-by t k run s entry.Gone here left = (left, tt)
listening-by t k run s e here left = tt

listening-since : (t k : ℕ) (run : RunSlots) → ArePast t run → length run ≤ t → Have (IsPast t) (listening_since k run)
listening-since t k [] past few = tt
listening-since t k (s ∷ before) past few =
    listening-by t k (s ∷ before) s (entry_in_slot k s) past.0
    (departure-past k t (s ∷ before) (omega (arith, few)) few)

listening-past : (t k : ℕ) (before : RunSlots) → ArePast t before → length before ≤ t
    → Have (IsPast t) (listening_sources k before)
listening-past t k before past few =
    listening-since t k (back_to_listening k before)
    (back-each (λ u. u.begun.number < t) (λ e. not (is_waited e)) k before past)
    (back-count (λ e. not (is_waited e)) k t before few)

-- Waiting.

all-have : (P : Spot → Type 0) (f : RunSlot → Sources) (slots : RunSlots) → AllByRecursion (λ u. Have P (f u)) slots
    → Have P (all_sources (map f slots))
all-have P f [] all = tt
all-have P f (u ∷ slots) all =
    each-append P (f u).entries (all_sources (map f slots)).entries all.0 (all-have P f slots all.1)

kept-have : (P : Spot → Type 0) (k : ℕ) (u : RunSlot) → Spoils P u → Have P (kept_from_joining k u)
kept-have P k u spoils =
    elim-both (has_joinable u) (spoilt_in k u) no_sources (Have P) (λ is. spoilt-have P k u spoils) (λ is. tt)

wait-have : (P : Spot → Type 0) (k : ℕ) (u : RunSlot) (older : RunSlots) → Have P (listening_sources k older)
    → AllByRecursion (Spoils P) (u ∷ older) → Have P (wait_sources k (u ∷ older))
wait-have P k u older listens spoils =
    let n = suc (length older) - listening_from k older in
    let slots = u ∷ older in
    let Kept : RunSlot → Type 0 = λ v. Have P (kept_from_joining k v) in
    each-append P (listening_sources k older).entries
    (all_sources (map (kept_from_joining k) (take n slots))).entries listens
    (all-have P (kept_from_joining k) (take n slots)
    (recursion_from_All Kept (take n slots)
    (All-take Kept n slots
    (All-from_recursion Kept slots (each-weaker (Spoils P) Kept slots (λ v is. kept-have P k v is) spoils)))))

wait-past : (t k : ℕ) (before : RunSlots) → ArePast t before → length before ≤ t
    → Have (IsPast t) (wait_sources k before)
wait-past t k [] past few = tt
wait-past t k (u ∷ older) past few =
    wait-have (IsPast t) k u older (listening-past t k older past.1 (omega (arith, few)))
    (each-weaker (λ v. v.begun.number < t) (Spoils (IsPast t)) (u ∷ older) (past-spoils t) past)

-- Joining.

before-join : (t k : ℕ) (before : RunSlots) → ArePast t before → length before ≤ t
    → Have (IsPast t) (sources_before_join k before)
before-join t k [] past few = tt
before-join t k (u ∷ older) past few =
    elim-both (is_waited (entry_in_slot k u)) (wait_sources k (u ∷ older))
    (listening_sources k (u ∷ older)) (Have (IsPast t))
    (λ is. wait-past t k (u ∷ older) past few) (λ is. listening-past t k (u ∷ older) past few)

-- Starting.

on-line-none : (P : Spot → Type 0) (k : ℕ) (sources : Sources) → Have P (on_line_unless k sources)
on-line-none P k sources =
    if-both (length sources.entries == 0) (only_lines (line.On k ∷ [])) no_sources (Have P) tt tt

silenced-none : (P : Spot → Type 0) (k : ℕ) (u : RunSlot) → Have P (silenced_in k u)
silenced-none P k u =
    elim-both (has_frames u.frames)
    (only_lines (silencing_in k u channel.A ++ silencing_in k u channel.B)) no_sources (Have P)
    (λ is. tt) (λ is. tt)

missing-by : (t q : ℕ) (audible slots : RunSlots) → ArePast t slots
    → AllByRecursion (IsPast t) (missing_by q audible slots)
missing-by t q audible [] past = tt
missing-by t q audible (left ∷ before) past =
    if-both (list_any (would_send q left) audible) (node_spot q left ∷ []) []
    (AllByRecursion (IsPast t)) (past.0, tt) tt

missing-node : (t q : ℕ) (s : RunSlot) (before audible : RunSlots) → ArePast t before
    → AllByRecursion (IsPast t) (missing_node q s before audible)
missing-node t q s before audible past =
    elim-both (is_gone_entry (entry_in_slot q s)) (missing_by q audible (back_to is_left q before)) []
    (AllByRecursion (IsPast t))
    (λ is. missing-by t q audible (back_to is_left q before)
    (back-each (λ u. u.begun.number < t) is_left q before past))
    (λ is. tt)

listening-node : (t q : ℕ) (slots : RunSlots) → ArePast t slots → AllByRecursion (IsPast t) (listening_node q slots)
listening-node t q [] past = tt
listening-node t q (s ∷ before) past =
    if-both (is_waited (entry_in_slot q s) || is_retried (entry_in_slot q s)) (node_spot q s ∷ []) []
    (AllByRecursion (IsPast t)) (past.0, tt) tt

listening-if : (t q : ℕ) (before audible : RunSlots) → ArePast t before
    → AllByRecursion (IsPast t)
    (elim (is_empty audible) as (λ c. List Spot) [ true ↦ [] | false ↦ listening_node q before ])
listening-if t q before audible past =
    elim-both (is_empty audible) [] (listening_node q before) (AllByRecursion (IsPast t)) (λ is. tt)
    (λ is. listening-node t q before past)

silent-node : (t k : ℕ) (s : RunSlot) (before audible : RunSlots) (q : ℕ) → ArePast t before
    → AllByRecursion (IsPast t) (silent_node k s before audible q)
silent-node t k s before audible q past =
    let listens : List Spot =
    elim (is_empty audible) as (λ c. List Spot) [ true ↦ [] | false ↦ listening_node q before ] in
    elim-both (q == k) [] (missing_node q s before audible ++ listens) (AllByRecursion (IsPast t)) (λ is. tt)
    (λ is. each-append (IsPast t) (missing_node q s before audible) listens (missing-node t q s before audible past)
    (listening-if t q before audible past))

start-past : (t k : ℕ) (s : RunSlot) (before : RunSlots) → ArePast t before → length before ≤ t
    → HaveCauses (IsPast t) (start_cause k s before)
start-past t k s before past few =
    let silent = take (past_in k s).limit before in
    let audible = filter (λ u. not (hears_nothing k u)) silent in
    let waits = wait_sources k before in
    let on = on_line_unless k (listening_sources k before) in
    let silenced = all_sources (map (silenced_in k) silent) in
    let nodes = flat_map (silent_node k s before audible) (below (length s.begun.list.slots)) in
    each-append (IsPast t) waits.entries (on.entries ++ (silenced.entries ++ nodes)) (wait-past t k before past few)
    (each-append (IsPast t) on.entries (silenced.entries ++ nodes)
    (on-line-none (IsPast t) k (listening_sources k before))
    (each-append (IsPast t) silenced.entries nodes
    (all-have (IsPast t) (silenced_in k) silent
    (each-any (λ u. Have (IsPast t) (silenced_in k u)) (silenced-none (IsPast t) k) silent))
    (each-flat_map (IsPast t) (silent_node k s before audible) (below (length s.begun.list.slots))
    (each-any (λ q. AllByRecursion (IsPast t) (silent_node k s before audible q))
    (λ q. silent-node t k s before audible q past) (below (length s.begun.list.slots))))))

-- Own slots.

start-again : (t k : ℕ) (slots : RunSlots) → ArePast t slots → AllByRecursion (IsPast t) (start_again k slots)
start-again t k [] past = tt
start-again t k (s ∷ before) past =
    if-both (length (listening_sources k before).entries == 0) [] (node_spot k s ∷ []) (AllByRecursion (IsPast t)) tt
    (past.0, tt)

retry-past : (t k : ℕ) (before : RunSlots) → ArePast t before → HaveCauses (IsPast t) (retry_cause k before)
retry-past t k before past =
    let own = back_to is_sent_or_joined k before in
    each-append (IsPast t) (unanswered_entries k before) (start_again k own)
    (judged-past t is_miss_or_tentative k before past)
    (start-again t k own (back-each (λ u. u.begun.number < t) is_sent_or_joined k before past))

quiet-past : (t k : ℕ) (s : RunSlot) (before : RunSlots) → ArePast t before
    → AllByRecursion (IsPast t) (quiet_entries k s before)
quiet-past t k s before past =
    let quiet = judged_since_own is_quiet k before in
    if-both (nat_lt (past_in k s).rejected ((past_in k s).accepted + length quiet)) quiet [] (AllByRecursion (IsPast t))
    (judged-past t is_quiet k before past) tt

shared-past : (t k : ℕ) (before : RunSlots) (u : Option RunSlot) → 0 < t → ArePast t before
    → AllByRecursion (IsPast t) (shared_by k before u).entries
shared-past t k before None some past = tt
shared-past t k before (Some u) some past =
    let p = (place_of_node k u).slot in
    let older = slots_before_one before u.begun.number in
    each-map (IsPast t) (λ j. said p j older) (lacked_too k before u)
    (each-any (λ j. IsPast t (said p j older))
    (λ j. said-past t p j older some
    (each-drop (λ v. v.begun.number < t) (length before - u.begun.number) before past)) (lacked_too k before u))

clique-past : (t k : ℕ) (s : RunSlot) (before : RunSlots) → 0 < t → ArePast t before
    → HaveCauses (IsPast t) (clique_cause k s before)
clique-past t k s before some past =
    let settled = filter (λ u. is_some (doubted_in k u)) (judged_so is_correct k (since_own k before)) in
    let shared = (shared_by k before (answer_of k before)).entries in
    each-append (IsPast t) (judged_since_own is_rejected k before)
    (settled_doubts k before ++ (quiet_entries k s before ++ shared)) (judged-past t is_rejected k before past)
    (each-append (IsPast t) (settled_doubts k before) (quiet_entries k s before ++ shared)
    (spots-past t k settled
    (each-kept (λ u. u.begun.number < t) (λ u. is_some (doubted_in k u)) (judged_so is_correct k (since_own k before))
    (judged-each t is_correct k (since_own k before) (since-each (λ u. u.begun.number < t) k before past))))
    (each-append (IsPast t) (quiet_entries k s before) shared (quiet-past t k s before past)
    (shared-past t k before (answer_of k before) some past)))

-- Clocks.

unread-of : (t x stint : ℕ) (first : RunSlot) (older : RunSlots) → ArePast t older
    → AllByRecursion (IsPast t) (unread_before x stint (first ∷ older))
unread-of t x stint first older past =
    let n = length first.begun.list.slots in
    let Past : RunSlot → Type 0 = λ u. u.begun.number < t in
    let is_told : RunSlot → Bool =
    λ s. nat_le stint s.begun.number && is_unread first.begun.list (entry_in_slot x s) in
    elim-both (was_averaged x first) []
    (spots_at_node x (filter is_told (take n older))) (AllByRecursion (IsPast t)) (λ is. tt)
    (λ is. spots-past t x (filter is_told (take n older))
    (each-kept Past is_told (take n older)
    (recursion_from_All Past (take n older) (All-take Past n older (All-from_recursion Past older past)))))

unread-past : (t x stint : ℕ) (slots : RunSlots) → ArePast t slots
    → AllByRecursion (IsPast t) (unread_before x stint slots)
unread-past t x stint [] past = tt
unread-past t x stint (first ∷ older) past = unread-of t x stint first older past.1

unread-drop : (t x stint n : ℕ) (s : RunSlot) (before : RunSlots) → ArePast t before
    → AllByRecursion (IsPast t) (unread_before x stint (drop n (s ∷ before)))
unread-drop t x stint zero s before past = unread-of t x stint s before past
unread-drop t x stint (suc n) s before past =
    unread-past t x stint (drop n before) (each-drop (λ u. u.begun.number < t) n before past)

stint-past : (t x : ℕ) (slots : RunSlots) → ArePast t slots
    → AllByRecursion (IsPast t) (spots_joined x (stint_join x slots))
stint-past t x [] past = tt
stint-past t x (s ∷ before) past =
    elim-both (is_joined (entry_in_slot x s) && has_sources (sources_of (join_cause x s before)))
    (Some s.begun.number) None
    (λ joined. AllByRecursion (IsPast t) (spots_joined x joined)) (λ is. (past.0, tt)) (λ is. tt)

clock-past : (t x : ℕ) (s : RunSlot) (before : RunSlots) → ArePast t before
    → AllByRecursion (IsPast t) (noted_clock x s before).entries
clock-past t x s before past =
    let stint = back_to begins_stint x before in
    each-append (IsPast t) (unread_entries x s before) (spots_joined x (stint_join x stint))
    (unread-drop t x (length stint) (place_of_node x s).slot s before past)
    (stint-past t x stint (back-each (λ u. u.begun.number < t) begins_stint x before past))

noted-past : (t p k : ℕ) (s : RunSlot) (before : RunSlots) (jumps : List ScriptLine) → ArePast t before
    → AllByRecursion (IsPast t) (flat_map (λ n. n.entries) (noted_clocks p k s before jumps))
noted-past t p k s before [] past =
    each-flat_map (IsPast t) (λ (n : NotedClock). n.entries) (map (λ x. noted_clock x s before) (lower_first p k))
    (each-map (λ (n : NotedClock). AllByRecursion (IsPast t) n.entries) (λ x. noted_clock x s before) (lower_first p k)
    (each-any (λ x. AllByRecursion (IsPast t) (noted_clock x s before).entries) (λ x. clock-past t x s before past)
    (lower_first p k)))
noted-past t p k s before (jump ∷ jumps) past = tt

-- Members.

difference-past : (t p k : ℕ) (before : RunSlots) (holds : Bool) (j : ℕ) → 0 < t → ArePast t before
    → IsPast t (difference_of p k before holds j).said
difference-past t p k before true j some past = said-past t k j before some past
difference-past t p k before false j some past = said-past t p j before some past

earliest-past : (t : ℕ) (d : Difference) (others : List Difference) → IsPast t d.said
    → AllByRecursion (λ (o : Difference). IsPast t o.said) others → IsPast t (earliest d others).said
earliest-past t d [] here past = here
earliest-past t d (o ∷ others) here past =
    if-both (is_earlier o.said d.said) (earliest o others) (earliest d others) (λ (e : Difference). IsPast t e.said)
    (earliest-past t o others past.0 past.1) (earliest-past t d others here past.1)

join-past : (t : ℕ) (before : RunSlots) (spot : Spot) → IsPast t spot → AllByRecursion (IsPast t) (if_join before spot)
join-past t before spot past =
    if-both (is_joined (entry_at_spot before spot)) (spot ∷ []) [] (AllByRecursion (IsPast t)) (past, tt) tt

doubt-past : (t p k : ℕ) (before : RunSlots) (holds : Bool) (x : Option ℕ) → 0 < t → ArePast t before
    → HaveReason (IsPast t) (doubt_reason p k before holds x)
doubt-past t p k before true None some past = tt
doubt-past t p k before false None some past = tt
doubt-past t p k before true (Some x) some past = judged-past t is_tentative k before past
doubt-past t p k before false (Some x) some past =
    (said-past t p k before some past, (said-past t p x before some past, tt))

members-of : (t p k : ℕ) (s : RunSlot) (before : RunSlots) (differences : List Difference) → 0 < t → ArePast t before
    → AllByRecursion (λ (d : Difference). IsPast t d.said) differences
    → HaveReason (IsPast t) (members_reason_of p k s before differences)
members-of t p k s before [] some past all =
    doubt-past t p k before (has_node (members_sent p s) k) (doubted_in k s) some past
members-of t p k s before (d ∷ others) some past all =
    let first = earliest d others in (
      earliest-past t d others all.0 all.1,
      join-past t before (said first.holds first.member before) (said-past t first.holds first.member before some past),
    )

members-past : (t p k : ℕ) (s : RunSlot) (before : RunSlots) → 0 < t → ArePast t before
    → HaveReason (IsPast t) (members_reason p k s before)
members-past t p k s before some past =
    let sent = members_sent p s in
    let nodes = telling_of k (past_in k s).ack (differing s.begun.list sent (members_due k s)) in
    members-of t p k s before (map (λ j. difference_of p k before (has_node sent j) j) nodes) some past
    (each-map (λ (d : Difference). IsPast t d.said) (λ j. difference_of p k before (has_node sent j) j) nodes
    (each-any (λ j. IsPast t (difference_of p k before (has_node sent j) j).said)
    (λ j. difference-past t p k before (has_node sent j) j some past) nodes))

-- In a slot behind some.

-- an entry of one of these, or of the slot, of a lower rank
abbrev pub StandsIn : RunSlot → ℕ → ℕ → Spot → Type 0
StandsIn s t rank e = (e.slot < t) ⊎ ((e.slot ≡ t) × (rank_of_entry (entry_in_slot e.node s) < rank))

pub record IsNext (s : RunSlot) (before : RunSlots) (t : ℕ) : Type 0 where
  pub number : s.begun.number ≡ t
  pub past : ArePast t before
  pub count : length before ≤ t
  pub senders : (c : Channel) → AllByRecursion (λ p. rank_of_entry (entry_in_slot p s) ≡ 0) (remaining_in c s)

past-stands : (s : RunSlot) (t rank : ℕ) (spots : List Spot) → AllByRecursion (IsPast t) spots
    → AllByRecursion (StandsIn s t rank) spots
past-stands s t rank spots past = each-weaker (IsPast t) (StandsIn s t rank) spots (λ e less. inl less) past

spoils-here : (s : RunSlot) (before : RunSlots) (t rank : ℕ) → IsNext s before t
    → 0 < rank → Spoils (StandsIn s t rank) s
spoils-here s before t rank is some c =
    each-weaker (λ p. rank_of_entry (entry_in_slot p s) ≡ 0) (λ p. StandsIn s t rank (node_spot p s)) (remaining_in c s)
    (λ p none. inr (is.number, omega (arith, some, none))) (is.senders c)

spoils-past : (s : RunSlot) (t rank : ℕ) (u : RunSlot) → u.begun.number < t → Spoils (StandsIn s t rank) u
spoils-past s t rank u here c =
    each-any (λ p. StandsIn s t rank (node_spot p u)) (λ p. inl here) (remaining_in c u)

wait-stands : (k : ℕ) (s : RunSlot) (before : RunSlots) (t : ℕ) → IsNext s before t
    → HaveCauses (StandsIn s t 1) (wait_cause k s before)
wait-stands k s before t is =
    wait-have (StandsIn s t 1) k s before
    (past-stands s t 1 (listening_sources k before).entries (listening-past t k before is.past is.count)) (
      spoils-here s before t 1 is (omega arith),
      each-weaker (λ u. u.begun.number < t) (Spoils (StandsIn s t 1)) before (spoils-past s t 1) is.past,
    )

join-on : (k : ℕ) (s : RunSlot) (before : RunSlots) (t : ℕ) (joined : Option JoinedFrame) → IsNext s before t
    → HaveCauses (StandsIn s t 1) (join_cause_on k s before joined)
join-on k s before t None is = tt
join-on k s before t (Some joined) is =
    let spoilt : Sources =
    elim joined.is_as_sent as (λ c. Sources) [ true ↦ no_sources | false ↦ spoilt_in k s ] in
    each-append (StandsIn s t 1) (sources_before_join k before).entries spoilt.entries
    (past-stands s t 1 (sources_before_join k before).entries (before-join t k before is.past is.count))
    (elim-both joined.is_as_sent no_sources (spoilt_in k s) (Have (StandsIn s t 1)) (λ sent. tt)
    (λ changed. spoilt-have (StandsIn s t 1) k s (spoils-here s before t 1 is (omega arith))))

-- Answers.

against-stands : (k : ℕ) (s : RunSlot) (before : RunSlots) (t : ℕ) (signal : Signal) → 0 < t → IsNext s before t
    → Have (StandsIn s t 2) (against_sources k s before signal)
against-stands k s before t signal some is =
    elim-both (came_as_sent s signal) (only_entries (said (sender_heard signal) k before ∷ [])) (spoilt_in k s)
    (Have (StandsIn s t 2))
    (λ sent. (inl (said-past t (sender_heard signal) k before some is.past), tt))
    (λ changed. spoilt-have (StandsIn s t 2) k s (spoils-here s before t 2 is (omega arith)))

tentative-stands : (k : ℕ) (s : RunSlot) (before : RunSlots) (t : ℕ) → 0 < t → IsNext s before t
    → HaveCauses (StandsIn s t 2) (tentative_cause k s before)
tentative-stands k s before t some is =
    let signal = heard_in k s (second_channel k s) in
    each-append (StandsIn s t 2) (against_sources k s before signal).entries (judged_since_own is_miss k before)
    (against-stands k s before t signal some is)
    (past-stands s t 2 (judged_since_own is_miss k before) (judged-past t is_miss k before is.past))

denied-stands : (k : ℕ) (s : RunSlot) (before : RunSlots) (t : ℕ) → 0 < t → IsNext s before t
    → HaveCauses (StandsIn s t 2) (denied_cause k s before)
denied-stands k s before t some is =
    let signal = heard_in k s (second_channel k s) in
    each-append (StandsIn s t 2) (against_sources k s before signal).entries (doubt_entries k before)
    (against-stands k s before t signal some is)
    (past-stands s t 2 (doubt_entries k before) (doubts-past t k before is.past))

correct-stands : (k : ℕ) (s : RunSlot) (before : RunSlots) (t : ℕ) (x : Option ℕ) → IsNext s before t
    → HaveCauses (StandsIn s t 2) (correct_by k s before x)
correct-stands k s before t None is = tt
correct-stands k s before t (Some x) is =
    past-stands s t 2 (doubt_entries k before) (doubts-past t k before is.past)

-- Frames that did not come as they are due.

elsewhere-stands : (p k : ℕ) (s : RunSlot) (before : RunSlots) (t : ℕ) → IsNext s before t
    → HaveReason (StandsIn s t 2) (elsewhere p k before)
elsewhere-stands p k s before t is =
    past-stands s t 2 (path k before ++ path p before)
    (each-append (IsPast t) (path k before) (path p before)
    (path-past t k before is.past) (path-past t p before is.past))

one-here : (p : ℕ) (s : RunSlot) (before : RunSlots) (t : ℕ) (e : Entry) → IsNext s before t → entry_in_slot p s ≡ e
    → rank_of_entry e < 2 → AllByRecursion (StandsIn s t 2) (node_spot p s ∷ [])
one-here p s before t e is same low =
    let rank : rank_of_entry (entry_in_slot p s) ≡ rank_of_entry e = ap rank_of_entry same in
    (inr (is.number, omega (arith, rank, low)), tt)

absence-stands : (p k : ℕ) (s : RunSlot) (before : RunSlots) (t : ℕ) (e : Entry) → 0 < t → IsNext s before t
    → entry_in_slot p s ≡ e → HaveReason (StandsIn s t 2) (absence_reason p k s before e)
absence-stands p k s before t entry.Off some is same = tt
absence-stands p k s before t entry.Gone some is same = (inl (departure-past p t before some is.count), tt)
absence-stands p k s before t (entry.Left reason.Denied peer) some is same = elsewhere-stands p k s before t is
absence-stands p k s before t (entry.Left reason.Unacknowledged peer) some is same =
    one-here p s before t (entry.Left reason.Unacknowledged peer) is same (omega arith)
absence-stands p k s before t (entry.Left reason.Clique peer) some is same =
    one-here p s before t (entry.Left reason.Clique peer) is same (omega arith)
absence-stands p k s before t entry.Waited some is same = one-here p s before t entry.Waited is same (omega arith)
absence-stands p k s before t entry.Retried some is same = one-here p s before t entry.Retried is same (omega arith)
absence-stands p k s before t entry.Started some is same = elsewhere-stands p k s before t is
absence-stands p k s before t (entry.Sent message) some is same = elsewhere-stands p k s before t is
absence-stands p k s before t (entry.Joined sender cstate deviation) some is same = elsewhere-stands p k s before t is
absence-stands p k s before t (entry.Judged sender v deviation) some is same = elsewhere-stands p k s before t is

nobody-stands : (k : ℕ) (s : RunSlot) (before : RunSlots) (t : ℕ) (l : Option ScriptLine) → 0 < t → IsNext s before t
    → HaveReason (StandsIn s t 2) (nobody_reason_by k s before l)
nobody-stands k s before t (Some l) some is = tt
nobody-stands k s before t None some is =
    let p = (place_of_node k s).slot in
    absence-stands p k s before t (entry_in_slot p s) some is refl

started-is : (e : Entry) → is_started e ≡ true → e ≡ entry.Started
started-is entry.Started is = refl
started-is e is = absurd (false≢true is)

clock-stands : (p k : ℕ) (s : RunSlot) (before : RunSlots) (t : ℕ) → IsNext s before t
    → HaveReason (StandsIn s t 2) (clock_reason p k s before)
clock-stands p k s before t is = past-stands s t 2 _ (noted-past t p k s before _ is.past)

frame-stands : (p k : ℕ) (s : RunSlot) (before : RunSlots) (t : ℕ) → 0 < t → IsNext s before t
    → HaveReason (StandsIn s t 2) (frame_reason p k s before)
frame-stands p k s before t some is =
    let placed : ChannelReason =
    elim (is_same_place (place_of_node p s) (place_of_node k s)) as (λ c. ChannelReason) [
      | false ↦ elsewhere p k before
      | true ↦ members_reason p k s before
    ] in
    let seen : ChannelReason =
    elim (is_within_window s.begun.list (deviation_in s.begun k p)) as (λ c. ChannelReason) [
      | false ↦ clock_reason p k s before
      | true ↦ placed
    ] in
    elim-both (is_started (entry_in_slot p s)) (by_entries (miss.ColdStart p) (node_spot p s ∷ [])) seen
    (HaveReason (StandsIn s t 2))
    (λ started. one-here p s before t entry.Started is (started-is (entry_in_slot p s) started) (omega arith))
    (λ other. elim-both (is_within_window s.begun.list (deviation_in s.begun k p)) placed (clock_reason p k s before)
    (HaveReason (StandsIn s t 2))
    (λ near. elim-both (is_same_place (place_of_node p s) (place_of_node k s)) (members_reason p k s before)
    (elsewhere p k before) (HaveReason (StandsIn s t 2))
    (λ here. past-stands s t 2 (members_reason p k s before).sources.entries (members-past t p k s before some is.past))
    (λ away. elsewhere-stands p k s before t is))
    (λ far. clock-stands p k s before t is))

noise-stands : (s : RunSlot) (before : RunSlots) (t : ℕ) (c : Channel) (l : Option ScriptLine) → IsNext s before t
    → HaveReason (StandsIn s t 2) (noise_reason s c l)
noise-stands s before t c (Some l) is = tt
noise-stands s before t c None is =
    each-map (StandsIn s t 2) (λ p. node_spot p s) (remaining_in c s) (spoils-here s before t 2 is (omega arith) c)

signal-stands : (k : ℕ) (s : RunSlot) (before : RunSlots) (t : ℕ) (c : Channel) (signal : Signal)
    → 0 < t → IsNext s before t
    → HaveReason (StandsIn s t 2) (reason_of_signal k s before c signal)
signal-stands k s before t c Silence some is = tt
signal-stands k s before t c Noise some is = noise-stands s before t c (noisy_in k s c) is
signal-stands k s before t c (Bits p bytes) some is =
    elim-both (is_same_view (view_of_signal k s (Bits p bytes)) (view_of_signal k s (signal_sent s (Bits p bytes))))
    (frame_reason p k s before)
    (by_lines miss.Flipped (flipping_lines s.begun.script p c s.begun.number (length (bytes_sent s.frames p))))
    (HaveReason (StandsIn s t 2)) (λ same. frame-stands p k s before t some is) (λ changed. tt)

channel-stands : (k : ℕ) (s : RunSlot) (before : RunSlots) (t : ℕ) (c : Channel) → 0 < t → IsNext s before t
    → HaveReason (StandsIn s t 2) (channel_reason k s before c)
channel-stands k s before t c some is = signal-stands k s before t c (heard_in k s c) some is

missed-stands : (k : ℕ) (s : RunSlot) (before : RunSlots) (t : ℕ) (v : Verdict) → 0 < t → IsNext s before t
    → HaveCauses (StandsIn s t 2) (missed_cause k s before v)
missed-stands k s before t v some is =
    let P = StandsIn s t 2 in
    let a = channel_reason k s before channel.A in
    let b = channel_reason k s before channel.B in
    let by_b : Cause =
    elim (decides k s v channel.B) as (λ c. Cause) [ true ↦ missed_by b | false ↦ missed_by_each a b ] in
    let by_a : Cause = elim (decides k s v channel.A) as (λ c. Cause) [ true ↦ missed_by a | false ↦ by_b ] in
    let has_a : HaveReason P a = channel-stands k s before t channel.A some is in
    let has_b : HaveReason P b = channel-stands k s before t channel.B some is in
    elim-both (has_frames s.frames) by_a (missed_by (nobody_reason k s before)) (HaveCauses P)
    (λ sent. elim-both (decides k s v channel.A) (missed_by a) by_b (HaveCauses P) (λ first. has_a)
    (λ not_first. elim-both (decides k s v channel.B) (missed_by b)
    (missed_by_each a b) (HaveCauses P) (λ second. has_b)
    (λ both. each-append P a.sources.entries b.sources.entries has_a has_b)))
    (λ none. nobody-stands k s before t (first_line (lines_where (deafens k s.begun.number) s.begun.script)) some is)

-- All entries, of which some are made in no first slot.

abbrev pub is_late : Entry → Bool
is_late entry.Off = false
is_late entry.Waited = false
is_late (entry.Joined sender cstate deviation) = false
is_late _ = true

off-none : (P : Spot → Type 0) (k : ℕ) (on : Option ℕ) → HaveCauses P (off_cause k on)
off-none P k (Some slot) = tt
off-none P k None = tt

pub cause-stands : (k : ℕ) (s : RunSlot) (before : RunSlots) (t : ℕ) (e : Entry) → IsNext s before t
    → (is_late e ≡ true → 0 < t) → HaveCauses (StandsIn s t (rank_of_entry e)) (entry_cause k s before e)
cause-stands k s before t entry.Off is late = off-none (StandsIn s t 0) k (on_slot s.begun.script k)
cause-stands k s before t entry.Waited is late = wait-stands k s before t is
cause-stands k s before t entry.Retried is late =
    past-stands s t 0 (retry_cause k before).entries (retry-past t k before is.past)
cause-stands k s before t entry.Gone is late = (inl (departure-past k t before (late refl) is.count), tt)
cause-stands k s before t entry.Started is late =
    past-stands s t 0 (start_cause k s before).entries (start-past t k s before is.past is.count)
cause-stands k s before t (entry.Sent message) is late = tt
cause-stands k s before t (entry.Joined sender cstate deviation) is late = join-on k s before t (frame_joined k s) is
cause-stands k s before t (entry.Judged sender verdict.Correct deviation) is late =
    correct-stands k s before t (doubted_in k s) is
cause-stands k s before t (entry.Judged sender verdict.Tentative deviation) is late =
    tentative-stands k s before t (late refl) is
cause-stands k s before t (entry.Judged sender verdict.Denied deviation) is late =
    denied-stands k s before t (late refl) is
cause-stands k s before t (entry.Judged sender verdict.Null deviation) is late =
    missed-stands k s before t verdict.Null (late refl) is
cause-stands k s before t (entry.Judged sender verdict.Invalid deviation) is late =
    missed-stands k s before t verdict.Invalid (late refl) is
cause-stands k s before t (entry.Judged sender verdict.Incorrect deviation) is late =
    missed-stands k s before t verdict.Incorrect (late refl) is
cause-stands k s before t (entry.Left reason.Denied peer) is late = denied-stands k s before t (late refl) is
cause-stands k s before t (entry.Left reason.Unacknowledged peer) is late =
    past-stands s t 0 (judged_since_own is_miss_or_tentative k before)
    (judged-past t is_miss_or_tentative k before is.past)
cause-stands k s before t (entry.Left reason.Clique peer) is late =
    past-stands s t 0 (clique_cause k s before).entries (clique-past t k s before (late refl) is.past)
