-- Clocks: how far each node's clock is ahead, in microticks, read from its diary and its surroundings.
use Rattle.std.specs.Prelude.{ℕ, nat_lt, ℤ, pos, ◌+ℤ◌, Bool, true, false, ◌&&◌, ◌||◌, ◌==◌, List, [], ◌∷◌, ◌++◌, length}
use Rattle.std.specs.Prelude.{take, drop, Option, Some, None, int_div, int_le, if◌then◌else◌}
use Rattle.std.specs.Option.{option_to_list}
use Rattle.ttp_world.specs.declared.medl.Medl.{Medl}
use Rattle.ttp_world.specs.declared.node.Entry.{Entry}
use Rattle.ttp_world.specs.declared.node.Entry.TheVariants as entry
use Rattle.ttp_world.specs.declared.node.Phase.{Phase}
use Rattle.ttp_world.specs.Acknowledgement.{is_correct}
use Rattle.ttp_world.specs.Diary.{Diary, SlotSurroundings, Surroundings, phase_of, is_active_phase, is_active}
use Rattle.ttp_world.specs.Diary.{begins_stint, Place, ends_round, stint_place, place_of}
use Rattle.ttp_world.specs.Medl.{plan_at}
use Rattle.ttp_world.specs.Script.{sum_ℤ}

-- The notes of a round: the deviation of each correct frame, and 0 for its own frame and for a join,
-- in slots with sync.

-- what an entry notes in a slot with sync: the deviation of a correct frame, and 0 for an own frame or a join
abbrev pub deviation_noted : Entry → Option ℤ
deviation_noted entry.Started = Some (pos 0)
deviation_noted (entry.Sent message) = Some (pos 0)
deviation_noted (entry.Joined sender cstate deviation) = Some (pos 0)
deviation_noted (entry.Judged sender v deviation) = if is_correct v then Some deviation else None
deviation_noted _ = None

-- what a slot of this place adds to them
abbrev pub notes_in : Medl → Place → Entry → List ℤ
notes_in list place e = if (plan_at list place.slot).sync then option_to_list (deviation_noted e) else []

-- the first slot of a round, or of the node's stint
abbrev pub begins_round : Place → Entry → Bool
begins_round place e = (place.slot == 0) || begins_stint e

-- the notes of the newest slot's round within node k's stint, the newest first
abbrev pub stint_notes : Medl → ℕ → Diary → List ℤ
stint_notes list k [] = []
stint_notes list k (e ∷ diary) =
    notes_in list (stint_place list k (e ∷ diary)) e
    ++ elim (begins_round (stint_place list k (e ∷ diary)) e) [ true ↦ [] | false ↦ stint_notes list k diary ]

-- the notes of a node, none where it is not active
abbrev pub notes_of : Medl → ℕ → Diary → List ℤ
notes_of list k diary = elim (is_active diary) [ true ↦ stint_notes list k diary | false ↦ [] ]

-- The fault-tolerant average: of the last four notes the smallest and the largest are dropped.

-- a number put in its place among ascending ones
abbrev pub insert_sorted : ℤ → List ℤ → List ℤ
insert_sorted z [] = z ∷ []
insert_sorted z (y ∷ ys) = if int_le z y then z ∷ y ∷ ys else y ∷ insert_sorted z ys

-- some numbers in ascending order
abbrev pub sorted : List ℤ → List ℤ
sorted [] = []
sorted (z ∷ zs) = insert_sorted z (sorted zs)

-- the sum of the middle two of four, divided by two towards zero
abbrev pub middle_half : List ℤ → ℤ
middle_half four = int_div (sum_ℤ (take 2 (drop 1 (sorted four)))) (pos 2)

-- the average of notes, the newest first
abbrev pub fta : List ℤ → ℤ
fta notes = if nat_lt (length notes) 4 then pos 0 else middle_half (take 4 notes)

-- a node that is active after the last slot of a round corrects its clock by the average of the round's notes
abbrev pub is_corrected : Medl → Phase → Place → Bool
is_corrected list phase place = is_active_phase phase && ends_round list place

-- what the newest slot of node k's diary corrects
abbrev pub correction_of : Medl → ℕ → Diary → ℤ
correction_of list k diary =
    elim (is_corrected list (phase_of diary) (place_of list k diary)) [
      | true ↦ fta (notes_of list k diary)
      | false ↦ pos 0
    ]

-- The clock.

-- the deviation to the frame on which a node joins is added
abbrev pub join_deviation : Entry → ℤ
join_deviation (entry.Joined sender cstate deviation) = deviation
join_deviation _ = pos 0

-- what a slot adds to the clock of a node that is on: its jumps, its drift, what it joined by and its correction
abbrev pub slot_change : Entry → SlotSurroundings → ℤ → ℤ
slot_change entry.Off s corrected = pos 0
slot_change e s corrected = s.jump +ℤ (s.drift +ℤ (join_deviation e +ℤ corrected))

-- the clock after node k's diary, 0 while it is off
abbrev pub offset_of : Medl → ℕ → Diary → Surroundings → ℤ
offset_of list k [] surroundings = pos 0
offset_of list k (e ∷ diary) [] = pos 0
offset_of list k (e ∷ diary) (s ∷ surroundings) =
    offset_of list k diary surroundings +ℤ slot_change e s (correction_of list k (e ∷ diary))
