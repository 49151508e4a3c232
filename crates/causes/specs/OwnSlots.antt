-- The causes of what a node does in its own slot, and of having left.
use Rattle.std.specs.Prelude.{Bool, List, None, Option, Some, [], drop, false, filter, flat_map, if◌then◌else◌}
use Rattle.std.specs.Prelude.{is_some, length, map, nat_lt, not, true, ℕ, ◌&&◌, ◌++◌, ◌+◌, ◌-◌, ◌==◌, ◌∷◌}
use Rattle.causes.specs.Listening.{listening_sources}
use Rattle.causes.specs.Members.{members_sent, newest_entry_of}
use Rattle.causes.specs.Missed.{missed_cause}
use Rattle.causes.specs.RunSlots.{RunSlot, RunSlots, back_to, doubted_in, entry_in_slot, is_incorrect, is_joined}
use Rattle.causes.specs.RunSlots.{is_miss_or_tentative, is_quiet, is_rejected, is_sent, judged_since_own, judged_so}
use Rattle.causes.specs.RunSlots.{newest_departure, node_spot, own_slot, past_in, place_of_node, since_own, slots_to}
use Rattle.causes.specs.RunSlots.{spots_at_node}
use Rattle.causes.specs.Said.{said}
use Rattle.causes.specs.Sources.{cause_by, only_entries}
use Rattle.causes.specs.declared.cause.Because.{Because}
use Rattle.causes.specs.declared.cause.Cause.{Cause}
use Rattle.causes.specs.declared.cause.Miss.{Miss}
use Rattle.causes.specs.declared.cause.Spot.{Spot}
use Rattle.ttp_base.specs.NodeSet.{below, has_node}
use Rattle.ttp_world.specs.Acknowledgement.{is_correct, is_sent_or_joined}
use Rattle.causes.specs.declared.cause.Because.TheVariants as because
use Rattle.causes.specs.declared.cause.Miss.TheVariants as miss
use Rattle.ttp_world.specs.declared.node.Verdict.TheVariants as verdict

-- its entries since its own that are no answer to its frame
abbrev pub unanswered_entries : ℕ → RunSlots → List Spot
unanswered_entries k before = judged_since_own is_miss_or_tentative k before

-- Retry.

-- the start itself, where before it the node listened after a retry or a departure
abbrev pub start_again : ℕ → RunSlots → List Spot
start_again k [] = []
start_again k (s ∷ before) =
    if length (listening_sources k before).entries == 0 then [] else node_spot k s ∷ []

abbrev pub retry_cause : ℕ → RunSlots → Cause
retry_cause k before =
    cause_by (because.NoneSinceColdStart (own_slot k before))
    (only_entries (unanswered_entries k before ++ start_again k (back_to is_sent_or_joined k before)))

-- Gone.

abbrev pub gone_cause : ℕ → RunSlots → Cause
gone_cause k before =
    let left = newest_departure k before in cause_by (because.LeftIn left.slot) (only_entries (left ∷ []))

-- Unacknowledged.

abbrev pub unacknowledged_cause : ℕ → RunSlots → Cause
unacknowledged_cause k before =
    cause_by (because.NoneSinceOwn (own_slot k before)) (only_entries (unanswered_entries k before))

-- Clique.

-- its correct entries in doubt since its own
abbrev pub settled_doubts : ℕ → RunSlots → List Spot
settled_doubts k before =
    spots_at_node k (filter (λ s. is_some (doubted_in k s)) (judged_so is_correct k (since_own k before)))

-- its entries that count as neither, where with them it would have accepted more than it rejected
abbrev pub quiet_entries : ℕ → RunSlot → RunSlots → List Spot
quiet_entries k s before =
    let quiet = judged_since_own is_quiet k before in
    if nat_lt (past_in k s).rejected ((past_in k s).accepted + length quiet) then quiet else []

-- the slots before one of these
abbrev pub slots_before_one : RunSlots → ℕ → RunSlots
slots_before_one run slot = drop (length run - slot) run

-- the nodes that, by the reason of an entry, a sender holds and node k does not
abbrev pub lacked_by_miss : ℕ → Miss → List ℕ
lacked_by_miss k (miss.Differs holds member lacks) = if lacks == k then member ∷ [] else []
lacked_by_miss k _ = []

abbrev pub lacked_by : ℕ → Because → List ℕ
lacked_by k (because.Missed why) = lacked_by_miss k why
lacked_by k (because.MissedOnEach a b) = lacked_by_miss k a ++ lacked_by_miss k b
lacked_by k _ = []

-- of an incorrect entry of node k in the newest of some slots
abbrev pub lacked_in : ℕ → RunSlots → List ℕ
lacked_in k [] = []
lacked_in k (s ∷ before) = lacked_by k (missed_cause k s before verdict.Incorrect).because

-- of all of them since its own
abbrev pub lacked_since_own : ℕ → RunSlots → List ℕ
lacked_since_own k before =
    flat_map (λ s. lacked_in k (slots_to before s.begun.number)) (judged_so is_incorrect k (since_own k before))

-- the peers of those that it rejected before a slot
abbrev pub rejected_peers : ℕ → RunSlots → ℕ → List ℕ
rejected_peers k before slot =
    map (λ s. (place_of_node k s).slot)
    (filter (λ s. nat_lt s.begun.number slot) (judged_so is_rejected k (since_own k before)))

-- the oldest of some slots
abbrev pub oldest : RunSlots → Option RunSlot
oldest [] = None
oldest (s ∷ []) = Some s
oldest (s ∷ others) = oldest others

-- the first correct frame since its own, where it came in no doubt, its sender sent, and the node's own entry is no
-- join
abbrev pub answers_node : ℕ → RunSlot → Bool
answers_node k u = not (is_some (doubted_in k u)) && is_sent (entry_in_slot (place_of_node k u).slot u)

abbrev pub if_answer : ℕ → Option RunSlot → Option RunSlot
if_answer k None = None
if_answer k (Some u) = if answers_node k u then Some u else None

abbrev pub answer_of : ℕ → RunSlots → Option RunSlot
answer_of k before =
    elim (is_joined (newest_entry_of k (back_to is_sent_or_joined k before))) [
      | true ↦ None
      | false ↦ if_answer k (oldest (judged_so is_correct k (since_own k before)))
    ]

-- the nodes that node k was told that it lacks, or whose frames it rejected, and that the sender of that frame lacks
-- too
abbrev pub lacked_too : ℕ → RunSlots → RunSlot → List ℕ
lacked_too k before u =
    let told = lacked_since_own k before ++ rejected_peers k before u.begun.number in
    let sent = members_sent (place_of_node k u).slot u in
    filter (λ j. has_node told j && not (has_node sent j)) (below (length u.begun.list.slots))

-- what that frame adds
pub record Shared : Type 0 where
  pub peer : ℕ
  pub lacked : List ℕ
  pub entries : List Spot

abbrev pub shared_by : ℕ → RunSlots → Option RunSlot → Shared
shared_by k before None = record { peer = k; lacked = []; entries = [] }
shared_by k before (Some u) =
    let p = (place_of_node k u).slot in
    let lacked = lacked_too k before u in
    record {
      peer = p;
      lacked = lacked;
      entries = map (λ j. said p j (slots_before_one before u.begun.number)) lacked;
    }

abbrev pub clique_cause : ℕ → RunSlot → RunSlots → Cause
clique_cause k s before =
    let shared = shared_by k before (answer_of k before) in
    cause_by
    (because.Outvoted (past_in k s).accepted (past_in k s).rejected (own_slot k before) shared.peer shared.lacked)
    (only_entries
    (judged_since_own is_rejected k before
    ++ (settled_doubts k before ++ (quiet_entries k s before ++ shared.entries))))
