-- A job goes from the giver to the worker and back. The first word says how far it is: 1 where it is given, 4 where the
-- worker has begun it, and 2 where it is done. While no job is out it is 0 or 2, and 3 once the giver has stopped. The
-- two others say whether an end sleeps, and the rule says nothing of them.
use Rattle.std.specs.Prelude.{◌≡◌, ◌≢◌, ◌⊎◌, ℕ, List, [], ◌∷◌, Option, Some, None}
use mathlib.Core.Option.{some}
use mathlib.Core.Option as maybe
use Rattle.atomic_table.specs.Table.{State, Me}
use Rattle.errand.specs.declared.note.Note.{Note}
use Rattle.errand.specs.declared.note.Role.{Role}
use Rattle.errand.specs.declared.note.Role.TheVariants.{Alone, Fresh, Gives, Awaits, Stopped, Works, Ended}

-- tells roles apart: those of the worker come last
abbrev pub number : Role → ℕ
number Alone = 0
number Fresh = 1
number Gives = 2
number Awaits = 3
number Stopped = 4
number Works = 5
number Ended = 6

-- while the first word says this, there is nothing to do for an end with this role, and it may sleep
abbrev pub MaySleep : Role → ℕ → Type 0
MaySleep Awaits n = n ≡ 4
MaySleep Works n = (n ≡ 0) ⊎ (n ≡ 2)
MaySleep _ n = ⊥

abbrev pub note : {J : Type 0} → Role → Option J → Note J
note r j = record { role = r; job = j }

module _ {J : Type 0} where
  -- the table, with the seats of giver and worker
  abbrev pub paired : ℕ → ℕ → ℕ → maybe.Option (Option J) → Note J → Note J → State (Option J) (Note J)
  paired n p q h g w = record { words = n ∷ p ∷ q ∷ []; homes = h ∷ []; views = g ∷ w ∷ [] }

  -- the table, before there is a worker
  abbrev pub alone : State (Option J) (Note J)
  alone = record { words = 0 ∷ 0 ∷ 0 ∷ []; homes = some None ∷ []; views = note Alone None ∷ [] }

  -- a seat that holds no slot, and one that holds the slot with this in it
  abbrev pub bare : Role → Option J → Me (Option J) (Note J)
  bare r a = (note r a, [])

  abbrev pub laden : Role → Option J → Option J → Me (Option J) (Note J)
  laden r a x = (note r a, (0, x) ∷ [])

  abbrev pub content : List (ℕ × Option J) → Option J
  content [] = None
  content (c ∷ cs) = c.1

  -- what an errand needs of a job, and what it makes of it
  module _ (needs : J → Type 0) (does : J → J → Type 0) where
    -- the job j lies there, and is one that the errand may do
    abbrev pub Offered : ℕ → maybe.Option (Option J) → J → Option J → Type 0
    Offered n h j b = (n ≡ 1) × (h ≡ some (Some j)) × needs j × (b ≡ None)

    -- the worker has begun the job j, or it lies there done
    abbrev pub Begun : ℕ → maybe.Option (Option J) → J → Option J → Type 0
    Begun n h j None = (n ≡ 2) × ((k : J) × (h ≡ some (Some k)) × does j k)
    Begun n h j (Some x) = (n ≡ 4) × (x ≡ j)

    abbrev pub Stage : ℕ → maybe.Option (Option J) → Role → Option J → Role → Option J → Type 0
    Stage n h Alone a w b = ⊥
    Stage n h Fresh a w b = (w ≡ Works) × (b ≡ None) × (n ≡ 0) × (h ≡ some None)
    Stage n h Gives None w b = (w ≡ Works) × (b ≡ None) × ((n ≡ 0) ⊎ (n ≡ 2))
    Stage n h Gives (Some j) w b = (w ≡ Works) × (Offered n h j b ⊎ Begun n h j b)
    Stage n h Awaits None w b = ⊥
    Stage n h Awaits (Some j) w b = (w ≡ Works) × Begun n h j b
    Stage n h Stopped a w b = ((w ≡ Works) ⊎ (w ≡ Ended)) × (b ≡ None) × (n ≡ 3)
    Stage n h Works a w b = ⊥
    Stage n h Ended a w b = ⊥

    abbrev pub Turns : State (Option J) (Note J) → Type 0
    Turns s = (s ≡ alone) ⊎ ((n : ℕ) × (p : ℕ) × (q : ℕ) × (h : maybe.Option (Option J)) × (r : Role) × (a : Option J)
        × (w : Role) × (b : Option J) × (s ≡ paired n p q h (note r a) (note w b)) × Stage n h r a w b)

    -- the giver looks: at 2 it has the slot, in which is what work made of the job
    abbrev pub fetched : Me (Option J) (Note J) → ℕ → Me (Option J) (Note J) → Type 0
    fetched m n m' = (n ≡ 2 → (k : J) × (m' ≡ laden Gives None (Some k))
        × ((j : J) → m.0.job ≡ Some j → does j k)) × (n ≢ 2 → m' ≡ m)

    -- the giver takes back a job that was not begun: at 1 it has the slot, with the job as it was given; else it was
    -- begun
    abbrev pub brought : Me (Option J) (Note J) → ℕ → Me (Option J) (Note J) → Type 0
    brought m n m' = (n ≡ 1 → (j : J) × (m.0.job ≡ Some j) × (m' ≡ laden Gives None (Some j)) × needs j)
        × (n ≢ 1 → m' ≡ bare Awaits m.0.job)

    -- the worker begins a job: at 1 it has the slot, with the job
    abbrev pub took : Me (Option J) (Note J) → ℕ → Me (Option J) (Note J) → Type 0
    took m n m' = (n ≡ 1 → (j : J) × (m' ≡ laden Works (Some j) (Some j)) × needs j) × (n ≢ 1 → m' ≡ m)

  -- the worker looks: at 3 no job comes any more
  abbrev pub looked : Me (Option J) (Note J) → ℕ → Me (Option J) (Note J) → Type 0
  looked m n m' = (n ≡ 3 → m' ≡ bare Ended None) × (n ≢ 3 → m' ≡ m)

  abbrev pub began : Me (Option J) (Note J) → Type 0
  began m' = m' ≡ laden Gives None None

  abbrev pub asked : Me (Option J) (Note J) → Me (Option J) (Note J) → Type 0
  asked m m' = m' ≡ bare Gives (content m.1)

  abbrev pub gave : Me (Option J) (Note J) → Type 0
  gave m' = m' ≡ bare Works None

  abbrev pub stopped : Me (Option J) (Note J) → Type 0
  stopped m' = m' ≡ laden Stopped None None
