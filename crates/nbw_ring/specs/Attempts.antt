-- What an attempt to read answers.
use Rattle.std.specs.Prelude.{◌≡◌, ℕ, ◌+◌, ◌*◌, ◌/◌, ◌<◌, ◌≤◌, List, [], ◌∷◌, ◌++◌, length, nat_lt, if◌then◌else◌}
use Rattle.nbw_ring.specs.declared.reader.Try.{Try}
use Rattle.nbw_ring.specs.declared.reader.Try.TheVariants.{Got, Overrun}
use Rattle.nbw_ring.specs.Numbers.{limit}
use Rattle.nbw_ring.specs.States.{ReaderState}

-- the number that an attempt answers
abbrev pub number_answered : Try → ℕ
number_answered (Got number) = number
number_answered (Overrun number begin end) = number

-- the message of this number was intact at the last load: a pair of that number was added to what the reader got, and
-- the floor was raised to it
pub record Gets (old new : ReaderState) (number : ℕ) : Type 0 where
  pub intact : new.seen < limit new.ring.shape number
  pub words : List ℕ
  pub wide : length words ≡ new.ring.shape.width
  pub got : new.got ≡ old.got ++ record { number = number; words = words } ∷ []
  pub floor : new.floor ≡ number
  pub spare : new.spare + 1 ≡ old.spare

-- the message of this number was not intact at the last load, of `last`: what the reader got is as before. Where the
-- first load, of `start`, shows it already, it is the last
pub record GetsNothing (old new : ReaderState) (number start last : ℕ) : Type 0 where
  pub late : limit new.ring.shape number ≤ last
  pub first_load : start ≡ new.first
  pub last_load : last ≡ new.seen
  pub at_once : limit new.ring.shape number ≤ start → last ≡ start
  pub got : new.got ≡ old.got
  pub floor : new.floor ≡ old.floor
  pub spare : new.spare ≡ old.spare

-- `Got` comes only where a pair was added
abbrev pub OnGot : ReaderState → ReaderState → Try → Type 0
OnGot old new (Got number) = Gets old new number
OnGot old new (Overrun number begin end) = Unit {0}

-- `Overrun` comes only where none was added, with the counters of the first load and of the last
abbrev pub OnOverrun : ReaderState → ReaderState → Try → Type 0
OnOverrun old new (Got number) = Unit {0}
OnOverrun old new (Overrun number begin end) = GetsNothing old new number begin end

-- the steps of the newest attempt: a load for each word and two of the counter, but one alone where the first load
-- shows that it is too late
abbrev pub attempt_steps : ReaderState → ℕ
attempt_steps r = if nat_lt r.first (limit r.ring.shape (r.first / 2)) then r.ring.shape.width + 2 else 1

-- the steps of attempts that were repeated: `late` of them ended with their first load, which comes with one buffer
-- alone, and the others, one at least, loaded all words
pub record RepeatSteps (old new : ReaderState) : Type 0 where
  pub late : ℕ
  pub full : ℕ
  pub some : 0 < full
  pub none_late : 1 < new.ring.shape.buffers → late ≡ 0
  pub tries : new.tries ≡ old.tries + (late + full)
  pub steps : new.steps ≡ old.steps + (late + full * (new.ring.shape.width + 2))
