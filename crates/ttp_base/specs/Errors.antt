-- The errors that a source of bytes told, by what each of them says, and what reading it makes of them.
use Rattle.std.specs.Prelude.{◌≡◌, ◌≢◌, ℕ, ◌≤◌, ◌⊎◌, List, [], ◌∷◌, ◌++◌, replicate, Option, Some, None, ⊤}
use Rattle.ttp_base.specs.declared.source.Trouble.{Trouble}
use Rattle.ttp_base.specs.declared.source.Trouble.TheVariants.{Interrupted}

-- these were told, one after another, after those that were told before, where the source tells them
abbrev pub Tells : Option (List Trouble) → Option (List Trouble) → List Trouble → Type 0
Tells None now troubles = ⊤
Tells (Some before) None troubles = ⊥
Tells (Some before) (Some now) troubles = now ≡ before ++ troubles

-- a signal interrupted so often
abbrev pub interruptions : ℕ → List Trouble
interruptions n = replicate n Interrupted

-- no error was told but interruptions
abbrev pub ToldNoFault : Option (List Trouble) → Option (List Trouble) → Type 0
ToldNoFault before now = (n : ℕ) × Tells before now (interruptions n)

-- how many interruptions are a failure
abbrev pub most_tries : ℕ
most_tries = 1000000

-- One error was told beside interruptions before it, and says this. It is itself an interruption only where there were
-- too many of them.
abbrev pub ToldFault : Option (List Trouble) → Option (List Trouble) → Trouble → Type 0
ToldFault before now trouble =
    ((trouble ≢ Interrupted) × ((n : ℕ) × Tells before now (interruptions n ++ trouble ∷ [])))
    ⊎ ((trouble ≡ Interrupted) × ((n : ℕ) × (most_tries ≤ n) × Tells before now (interruptions n)))
