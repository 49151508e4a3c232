-- What a node notes of a frame, by its entry: its clock and the note together tell where the frame was.
use Rattle.std.proofs.Common.{◌≡◌, ℕ, ◌<◌, ℤ, pos, ◌+ℤ◌, ◌-ℤ◌, ◌≤ℤ◌, Bool, true, false, cond, List, [], ◌∷◌, length}
use Rattle.std.proofs.Common.{refl, ap, sym, ◌∙◌, arith}
use Rattle.std.proofs.lemmas.Bool.{false≢true}
use Rattle.std.proofs.lemmas.Int.{ints}
use Rattle.ttp_world.specs.declared.medl.Medl.{Medl}
use Rattle.ttp_world.specs.declared.node.Entry.{Entry}
use Rattle.ttp_world.specs.declared.node.Entry.TheVariants as entry
use Rattle.ttp_world.specs.declared.script.Script.{Script}
use Rattle.ttp_world.specs.Clock.{join_deviation, notes_in}
use Rattle.ttp_world.specs.Diary.{Diary, History, begins_stint, continues_stint, Place, stint_place}
use Rattle.ttp_world.specs.Medl.{plan_at}
use Rattle.ttp_world.specs.Script.{drift_of, reading_error}
use Rattle.ttp_world.specs.World.{BegunNode, slot_after, node_of}
use Rattle.ttp_world.proofs.Slots.{node_of-slot_after}
use Rattle.precision.specs.Together.{clock_at, measured, BeginsOn, TellsOf}
use Rattle.precision.proofs.Averages.{IsUpTo, Locate}

-- where a frame of node p lies in the slot after a history: as far as that node's clock is ahead
abbrev pub frame_of : Medl → Script → History → ℕ → ℤ
frame_of list script history p = (node_of (slot_after list script history) p).clock

-- by what it is in the slot
pub frame_of-node : (list : Medl) (script : Script) (history : History) (k : ℕ) → k < length list.slots
    → frame_of list script history k ≡ clock_at list script history k
frame_of-node list script history k node =
    ap (λ (n : BegunNode). n.clock) (node_of-slot_after list script history k node)

-- a node that runs within the list's bounds in the slot after a history, and whose clock was o before it and didn't
-- jump
pub record RunsFrom (list : Medl) (script : Script) (history : History) (k : ℕ) (o : ℤ) : Type 0 where
  pub inside : k < length list.slots
  pub before : clock_at list script history k ≡ o
  pub drift : IsUpTo list.drift (drift_of script k)
  pub error : IsUpTo list.error (reading_error script k (length history))
  pub error_up : pos 0 ≤ℤ list.error

-- its clock after the slot but for a correction, by what it takes from a frame
abbrev pub moved : Script → ℕ → ℤ → ℤ → ℤ
moved script k o deviation = o +ℤ (pos 0 +ℤ (drift_of script k +ℤ deviation))

-- Its own frame.

own_frame : (list : Medl) (script : Script) (history : History) (k p : ℕ) (o : ℤ)
    → RunsFrom list script history k o → k ≡ p → frame_of list script history p ≡ o
own_frame list script history k p o runs own =
    sym (ap (frame_of list script history) own) ∙ frame_of-node list script history k runs.inside ∙ runs.before

-- Another's frame.

-- what node k measured of a frame, added to its clock, tells where the frame was
other_frame : (list : Medl) (script : Script) (history : History) (k p : ℕ) (o deviation : ℤ)
    → RunsFrom list script history k o
    → deviation ≡ measured list script history k p
    → IsUpTo (list.error +ℤ list.drift) (moved script k o deviation -ℤ frame_of list script history p)
other_frame list script history k p o deviation runs is =
    omega (arith, ints, frame_of-node list script history k runs.inside)

-- The slot in which it begins.

pub begun_stint : (list : Medl) (script : Script) (history : History) (p k : ℕ) (place : Place) (e : Entry)
    → BeginsOn list script history p place k e → begins_stint e ≡ true
begun_stint list script history p k place entry.Started h = refl
begun_stint list script history p k place (entry.Joined sender cstate deviation) h = refl
begun_stint list script history p k place _ h = absurd h

pub begun_place : (list : Medl) (script : Script) (history : History) (p k : ℕ) (place : Place) (diary : Diary)
    (e : Entry) → BeginsOn list script history p place k e
    → stint_place list k (e ∷ diary) ≡ place
begun_place list script history p k place diary entry.Started h = sym h.1
begun_place list script history p k place diary (entry.Joined sender cstate deviation) h = sym h.0
begun_place list script history p k place diary _ h = absurd h

-- its clock as it is set by the frame
pub begun_set : (list : Medl) (script : Script) (history : History) (p k : ℕ) (place : Place) (o : ℤ) (e : Entry)
    → RunsFrom list script history k o
    → BeginsOn list script history p place k e
    → IsUpTo list.error ((o +ℤ join_deviation e) -ℤ frame_of list script history p)
begun_set list script history p k place o entry.Started runs h =
    omega (arith, ints, own_frame list script history k p o runs h.0)
begun_set list script history p k place o (entry.Joined sender cstate deviation) runs h =
    omega (arith, ints, frame_of-node list script history k runs.inside, h.1)
begun_set list script history p k place o _ runs h = absurd h

-- and after the slot
pub begun_near : (list : Medl) (script : Script) (history : History) (p k : ℕ) (place : Place) (o : ℤ) (e : Entry)
    → RunsFrom list script history k o
    → BeginsOn list script history p place k e
    → IsUpTo (list.error +ℤ list.drift) (moved script k o (join_deviation e) -ℤ frame_of list script history p)
begun_near list script history p k place o e runs h =
    omega (arith, ints, begun_set list script history p k place o e runs h)

-- Notes.

with_note : (w z d x : ℤ) (sync : Bool) → IsUpTo w ((z +ℤ d) -ℤ x)
    → Locate w z (cond sync (d ∷ []) []) (cond sync (x ∷ []) [])
with_note w z d x true near = (near, tt)
with_note w z d x false near = tt

-- where one of the nodes' frames is noted in a slot, the frames that are located
abbrev pub frames_at : Medl → Place → ℤ → List ℤ
frames_at list place frame = cond (plan_at list place.slot).sync (frame ∷ []) []

-- the first note of a stint is 0
pub begun_noted : (list : Medl) (script : Script) (history : History) (p k : ℕ) (place : Place) (w z x : ℤ) (e : Entry)
    → BeginsOn list script history p place k e
    → IsUpTo w (z -ℤ x) → Locate w z (notes_in list place e) (frames_at list place x)
begun_noted list script history p k place w z x entry.Started h near =
    with_note w z (pos 0) x (plan_at list place.slot).sync (omega (arith, ints))
begun_noted list script history p k place w z x (entry.Joined sender cstate deviation) h near =
    with_note w z (pos 0) x (plan_at list place.slot).sync (omega (arith, ints))
begun_noted list script history p k place w z x _ h near = absurd h

-- a later note is of its own frame or of another's
pub told_noted : (list : Medl) (script : Script) (history : History) (p k : ℕ) (place : Place) (o : ℤ) (e : Entry)
    → RunsFrom list script history k o
    → TellsOf list script history p k e
    → Locate (list.error +ℤ list.drift) (moved script k o (pos 0)) (notes_in list place e)
    (frames_at list place (frame_of list script history p))
told_noted list script history p k place o (entry.Sent message) runs h =
    with_note (list.error +ℤ list.drift) (moved script k o (pos 0)) (pos 0) (frame_of list script history p)
    (plan_at list place.slot).sync (omega (arith, ints, own_frame list script history k p o runs h))
told_noted list script history p k place o (entry.Judged sender v deviation) runs h =
    rw h.0 (with_note (list.error +ℤ list.drift) (moved script k o (pos 0)) deviation (frame_of list script history p)
    (plan_at list place.slot).sync (omega (arith, ints, other_frame list script history k p o deviation runs h.1)))
told_noted list script history p k place o _ runs h = absurd h

pub told_goes : (list : Medl) (script : Script) (history : History) (p k : ℕ) (e : Entry)
    → TellsOf list script history p k e → continues_stint e ≡ true
told_goes list script history p k (entry.Sent message) h = refl
told_goes list script history p k (entry.Judged sender v deviation) h = refl
told_goes list script history p k _ h = absurd h

pub joins_nothing : (e : Entry) → continues_stint e ≡ true → join_deviation e ≡ pos 0
joins_nothing (entry.Sent message) h = refl
joins_nothing (entry.Judged sender v deviation) h = refl
joins_nothing _ h = absurd (false≢true h)
