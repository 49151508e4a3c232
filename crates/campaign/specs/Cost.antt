-- What is read of a run: who left, who was hurt, when memberships were split, and what is left at the end.
use Rattle.std.specs.Prelude.{ℕ, nat_le, Bool, true, false, ◌&&◌, ◌||◌, not, List}
use Rattle.std.specs.Prelude.{[], ◌∷◌, length, filter, Option, Some, None}
use Rattle.std.specs.Prelude.{if◌then◌else◌}
use Rattle.std.specs.List.{filter_map}
use Rattle.std.specs.Str.{bytes_eq}
use Rattle.ttp_world.specs.declared.keep.Back.{Back}
use Rattle.ttp_world.specs.declared.keep.Back.TheVariants as back
use Rattle.ttp_world.specs.declared.keep.Keep.{Keep}
use Rattle.ttp_world.specs.declared.keep.Keep.TheVariants as keep
use Rattle.ttp_world.specs.declared.medl.Medl.{Medl}
use Rattle.ttp_world.specs.declared.node.Entry.{Entry}
use Rattle.ttp_world.specs.declared.node.Entry.TheVariants as entry
use Rattle.ttp_world.specs.declared.script.Script.{Script}
use Rattle.ttp_world.specs.Acknowledgement.{ack_of, is_doubt}
use Rattle.ttp_world.specs.Diary.{Diary, History, entry_of, diary_of, is_active}
use Rattle.ttp_world.specs.Hypothesis.{nodes_of, numbers_of, faulty_after, keeps}
use Rattle.campaign.specs.declared.cost.Cost.{Cost}
use Rattle.campaign.specs.declared.cost.Leave.{Leave}
use Rattle.campaign.specs.declared.cost.Span.{Span}
use Rattle.ttp_world.specs.Returning.{has_arm, returns, back_faulty_after, is_sound}
use Rattle.ttp_world.specs.Safety.{newest_slot, members_of_node}

-- The test of a script: the one on armed nodes where a node is armed, and else the single-fault hypothesis.

-- the test of the hypothesis says yes
abbrev pub is_kept : Keep → Bool
is_kept (keep.Yes start) = true
is_kept (keep.No rule slot) = false

-- the test on armed nodes says yes
abbrev pub is_owed : Back → Bool
is_owed (back.Yes start) = true
is_owed (back.No rule slot) = false

-- the one or the other says yes
abbrev pub says_yes_if : Medl → Script → Bool → Bool
says_yes_if list script true = is_owed (returns list script)
says_yes_if list script false = is_kept (keeps list script)

-- the test of a script says yes: the one on armed nodes where a node is armed, and else that of the hypothesis
abbrev pub says_yes : Medl → Script → Bool
says_yes list script = says_yes_if list script (has_arm script)

-- The nodes that are faulty after a slot, by the rules of the test. A slot whose losses break them makes nobody faulty,
-- and nobody is where there is no start.

-- the nodes that are faulty after a slot by the one test or the other
abbrev pub faulty_if : Medl → Script → ℕ → Bool → List ℕ
faulty_if list script slot true = numbers_of (back_faulty_after list script slot)
faulty_if list script slot false = faulty_after list script slot

-- those by the test of the script; a slot whose losses break its rules makes nobody faulty by these
abbrev pub faulty_by_test : Medl → Script → ℕ → List ℕ
faulty_by_test list script slot = faulty_if list script slot (has_arm script)

-- Who left.

-- when node k left last and why, after its entry in a slot more
abbrev pub leave_after : ℕ → ℕ → Entry → Option Leave → Option Leave
leave_after k slot (entry.Left reason peer) before = Some (record { node = k; slot = slot; reason = reason })
leave_after k slot _ before = before

-- the newest time that node k left, if it ever did
abbrev pub newest_leave : History → ℕ → Option Leave
newest_leave [] k = None
newest_leave (row ∷ history) k = leave_after k (length history) (entry_of row k) (newest_leave history k)

-- for each node that ever left the newest time
abbrev pub leaves : Medl → History → List Leave
leaves list history = filter_map (newest_leave history) (nodes_of list)

-- Who was hurt: left in a slot after which it was correct, which is on and not faulty.

-- node k is hurt in a slot: it left, and is correct after it, which is on and not faulty
abbrev pub is_hurt_in : Medl → Script → ℕ → ℕ → Entry → Bool
is_hurt_in list script slot k (entry.Left reason peer) = is_sound script (faulty_by_test list script slot) slot k
is_hurt_in list script slot k _ = false

-- in some slot
abbrev pub is_hurt : Medl → Script → History → ℕ → Bool
is_hurt list script [] k = false
is_hurt list script (row ∷ history) k =
    is_hurt_in list script (length history) k (entry_of row k) || is_hurt list script history k

-- the nodes that were hurt
abbrev pub hurt_nodes : Medl → Script → History → List ℕ
hurt_nodes list script history = filter (is_hurt list script history) (nodes_of list)

-- Memberships: those that active nodes hold that are not in doubt, in the order of the lowest node that holds each.

-- active, and not in doubt
abbrev pub is_firm : Diary → Bool
is_firm diary = is_active diary && not (is_doubt (ack_of diary))

-- the members of node k, where it is one of those that a test names
abbrev pub firm_members : Medl → History → (ℕ → Bool) → ℕ → Option (List ℕ)
firm_members list history among k =
    if is_firm (diary_of history k) && among k then Some (members_of_node list history k) else None

-- some sets without those that stood before
abbrev pub each_once : List (List ℕ) → List (List ℕ)
each_once [] = []
each_once (members ∷ sets) = members ∷ filter (λ m. not (bytes_eq members m)) (each_once sets)

-- each once
abbrev pub memberships : Medl → History → (ℕ → Bool) → List (List ℕ)
memberships list history among = each_once (filter_map (firm_members list history among) (nodes_of list))

-- there are two or more
abbrev pub has_two : List (List ℕ) → Bool
has_two sets = nat_le 2 (length sets)

-- When memberships were split: correct nodes held two or more.

-- memberships are split after the newest slot: correct nodes hold two or more
abbrev pub is_split : Medl → Script → History → Bool
is_split list script history =
    let slot = newest_slot history in
    has_two (memberships list history (is_sound script (faulty_by_test list script slot) slot))

-- the first and the last slot after which they were
abbrev pub span_with : ℕ → Option Span → Span
span_with slot None = record { first = slot; last = slot }
span_with slot (Some span) = record { first = span.first; last = slot }

-- the first and the last split slot with one slot more, in which memberships are split or not
abbrev pub span_after : ℕ → Bool → Option Span → Option Span
span_after slot true before = Some (span_with slot before)
span_after slot false before = before

-- the first and the last slot of a history after which memberships were split
abbrev pub split_span : Medl → Script → History → Option Span
split_span list script [] = None
split_span list script (row ∷ history) =
    span_after (length history) (is_split list script (row ∷ history)) (split_span list script history)

-- what a run costs
abbrev pub cost_of : Medl → Script → History → Cost
cost_of list script history = record {
  left = leaves list history;
  hurt = hurt_nodes list script history;
  split = split_span list script history;
  end = memberships list history (λ k. true);
}
