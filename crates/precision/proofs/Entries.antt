-- What one slot makes of a node that begins a stint in it or goes on: its place, its notes and its clock.
use Rattle.std.proofs.Common.{◌≡◌, ℕ, suc, ℤ, pos, ◌+ℤ◌, true, false, cond, ◌||◌, [], ◌∷◌, ◌++◌, length}
use Rattle.std.proofs.Common.{refl, ap, ◌∙◌, arith}
use Rattle.std.specs.Prelude.{◌==◌}
use Rattle.std.proofs.lemmas.Bool.{false≢true}
use Rattle.std.proofs.Math.Bool.{or-true}
use Rattle.std.proofs.lemmas.List.{append-nil}
use Rattle.std.proofs.lemmas.Int.{ints}
use Rattle.ttp_world.specs.declared.medl.Medl.{Medl}
use Rattle.ttp_world.specs.declared.node.Act.{Act}
use Rattle.ttp_world.specs.declared.node.Act.TheVariants as act
use Rattle.ttp_world.specs.declared.node.Entry.{Entry}
use Rattle.ttp_world.specs.declared.node.Entry.TheVariants as entry
use Rattle.ttp_world.specs.declared.script.Script.{Script}
use Rattle.ttp_world.specs.After.{is_active_entry}
use Rattle.ttp_world.specs.Clock.{notes_in, begins_round, stint_notes, notes_of, join_deviation, slot_change}
use Rattle.ttp_world.specs.Clock.{correction_of, offset_of}
use Rattle.ttp_world.specs.Diary.{Diary, History, SlotSurroundings, Surroundings, begins_stint, continues_stint, Place}
use Rattle.ttp_world.specs.Diary.{next_place, stint_place, place_of, ends_round, diary_of}
use Rattle.ttp_world.specs.Medium.{surroundings_of}
use Rattle.ttp_world.specs.Script.{jump_of}
use Rattle.ttp_world.specs.World.{jump_taken, node_after}
use Rattle.ttp_world.proofs.Pasts.{elim-cond}
use Rattle.precision.specs.Together.{clock_at}
use Rattle.precision.proofs.Rounds.{correction}
use Rattle.ttp_world.proofs.SmallTests.{not_zero as suc_not_zero, plus_none}

-- Entries of active nodes: those that begin or continue a stint.

pub begun_active : (e : Entry) → begins_stint e ≡ true → is_active_entry e ≡ true
begun_active entry.Started h = refl
begun_active (entry.Joined sender cstate deviation) h = refl
begun_active _ h = absurd (false≢true h)

pub continued_active : (e : Entry) → continues_stint e ≡ true → is_active_entry e ≡ true
continued_active (entry.Sent message) h = refl
continued_active (entry.Judged sender v deviation) h = refl
continued_active _ h = absurd (false≢true h)

pub place_of-active : (list : Medl) (k : ℕ) (diary : Diary) (e : Entry) → is_active_entry e ≡ true
    → place_of list k (e ∷ diary) ≡ stint_place list k (e ∷ diary)
place_of-active list k diary entry.Started h = refl
place_of-active list k diary (entry.Joined sender cstate deviation) h = refl
place_of-active list k diary (entry.Sent message) h = refl
place_of-active list k diary (entry.Judged sender v deviation) h = refl
place_of-active list k diary _ h = absurd (false≢true h)

pub notes_of-active : (list : Medl) (k : ℕ) (diary : Diary) (e : Entry) → is_active_entry e ≡ true
    → notes_of list k (e ∷ diary) ≡ stint_notes list k (e ∷ diary)
notes_of-active list k diary entry.Started h = refl
notes_of-active list k diary (entry.Joined sender cstate deviation) h = refl
notes_of-active list k diary (entry.Sent message) h = refl
notes_of-active list k diary (entry.Judged sender v deviation) h = refl
notes_of-active list k diary _ h = absurd (false≢true h)

-- Places and notes.

pub place_continued : (list : Medl) (k : ℕ) (diary : Diary) (e : Entry) → continues_stint e ≡ true
    → stint_place list k (e ∷ diary) ≡ next_place list (stint_place list k diary)
place_continued list k diary (entry.Sent message) h = refl
place_continued list k diary (entry.Judged sender v deviation) h = refl
place_continued list k diary _ h = absurd (false≢true h)

pub begins_no_stint : (e : Entry) → continues_stint e ≡ true → begins_stint e ≡ false
begins_no_stint (entry.Sent message) h = refl
begins_no_stint (entry.Judged sender v deviation) h = refl
begins_no_stint _ h = absurd (false≢true h)

-- the notes of a slot come to those of its round so far
pub notes_next : (list : Medl) (k : ℕ) (diary : Diary) (e : Entry) (place : Place)
    → stint_place list k (e ∷ diary) ≡ place
    → stint_notes list k (e ∷ diary)
    ≡ notes_in list place e ++ cond (begins_round place e) [] (stint_notes list k diary)
notes_next list k diary e place is =
    (λ i. notes_in list (is i) e ++ elim (begins_round (is i) e) [ true ↦ [] | false ↦ stint_notes list k diary ])
    ∙ ap (λ ns. notes_in list place e ++ ns) (elim-cond (begins_round place e) [] (stint_notes list k diary))

pub notes_anew : (list : Medl) (k : ℕ) (diary : Diary) (e : Entry) (place : Place)
    → stint_place list k (e ∷ diary) ≡ place → begins_round place e ≡ true
    → stint_notes list k (e ∷ diary) ≡ notes_in list place e
notes_anew list k diary e place is begins =
    notes_next list k diary e place is
    ∙ ap (λ b. notes_in list place e ++ cond b [] (stint_notes list k diary)) begins
    ∙ append-nil (notes_in list place e)

pub notes_more : (list : Medl) (k : ℕ) (diary : Diary) (e : Entry) (place : Place)
    → stint_place list k (e ∷ diary) ≡ place → begins_round place e ≡ false
    → stint_notes list k (e ∷ diary) ≡ notes_in list place e ++ stint_notes list k diary
notes_more list k diary e place is inside =
    notes_next list k diary e place is
    ∙ ap (λ b. notes_in list place e ++ cond b [] (stint_notes list k diary)) inside

-- a stint begins with a round's notes, and so does the first slot of a round
pub begun_round_first : (place : Place) (e : Entry) → begins_stint e ≡ true → begins_round place e ≡ true
begun_round_first place e h = ap (λ b. (place.slot == 0) || b) h ∙ or-true (place.slot == 0)

pub first_slot_first : (place : Place) (e : Entry) → place.slot ≡ 0 → begins_round place e ≡ true
first_slot_first place e h = ap (λ n. (n == 0) || begins_stint e) h

pub later_slot_later : (place : Place) (e : Entry) (m : ℕ) → place.slot ≡ suc m → continues_stint e ≡ true
    → begins_round place e ≡ false
later_slot_later place e m h goes =
    (λ i. (h i == 0) || begins_no_stint e goes i) ∙ ap (λ b. b || false) (suc_not_zero m)

-- Clocks.

-- the clock after the newest slot but for its correction
abbrev pub uncorrected : Medl → ℕ → Diary → Surroundings → Entry → SlotSurroundings → ℤ
uncorrected list k diary surroundings e s =
    offset_of list k diary surroundings +ℤ (s.jump +ℤ (s.drift +ℤ join_deviation e))

correction_of-active : (list : Medl) (k : ℕ) (diary : Diary) (e : Entry) → is_active_entry e ≡ true
    → correction_of list k (e ∷ diary)
    ≡ correction list (stint_place list k (e ∷ diary)).slot (stint_notes list k (e ∷ diary))
correction_of-active list k diary entry.Started h =
    elim-cond (ends_round list (stint_place list k (entry.Started ∷ diary))) _ _
correction_of-active list k diary (entry.Joined sender cstate deviation) h =
    elim-cond (ends_round list (stint_place list k (entry.Joined sender cstate deviation ∷ diary))) _ _
correction_of-active list k diary (entry.Sent message) h =
    elim-cond (ends_round list (stint_place list k (entry.Sent message ∷ diary))) _ _
correction_of-active list k diary (entry.Judged sender v deviation) h =
    elim-cond (ends_round list (stint_place list k (entry.Judged sender v deviation ∷ diary))) _ _
correction_of-active list k diary _ h = absurd (false≢true h)

slot_change-active : (e : Entry) (s : SlotSurroundings) (c : ℤ) → is_active_entry e ≡ true
    → slot_change e s c ≡ s.jump +ℤ (s.drift +ℤ (join_deviation e +ℤ c))
slot_change-active entry.Started s c h = refl
slot_change-active (entry.Joined sender cstate deviation) s c h = refl
slot_change-active (entry.Sent message) s c h = refl
slot_change-active (entry.Judged sender v deviation) s c h = refl
slot_change-active _ s c h = absurd (false≢true h)

pub offset_corrected : (list : Medl) (k : ℕ) (diary : Diary) (surroundings : Surroundings) (e : Entry)
    (s : SlotSurroundings) (place : Place)
    → is_active_entry e ≡ true → stint_place list k (e ∷ diary) ≡ place
    → offset_of list k (e ∷ diary) (s ∷ surroundings)
    ≡ uncorrected list k diary surroundings e s +ℤ correction list place.slot (stint_notes list k (e ∷ diary))
offset_corrected list k diary surroundings e s place active is =
    let change = slot_change-active e s (correction_of list k (e ∷ diary)) active in
    let corrected = correction_of-active list k diary e active
    ∙ ap (λ (p : Place). correction list p.slot (stint_notes list k (e ∷ diary))) is in
    rw (change, corrected) (omega (arith, ints))

-- The beginning of a slot.

no_jump_taken : (a : Act) → jump_taken a (pos 0) ≡ pos 0
no_jump_taken act.Off = refl
no_jump_taken _ = refl

-- a clock that doesn't jump there is as it was after the slot before
pub clock_at-still : (list : Medl) (script : Script) (history : History) (k : ℕ)
    → jump_of script k (length history) ≡ pos 0
    → clock_at list script history k ≡ offset_of list k (diary_of history k) (surroundings_of script history k)
clock_at-still list script history k still =
    rw (still, no_jump_taken (node_after list script history k).act)
    (plus_none (offset_of list k (diary_of history k) (surroundings_of script history k)))
