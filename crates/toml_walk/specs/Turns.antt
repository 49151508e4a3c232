-- How turns through a text stand to what the definitions give.
use Rattle.std.specs.Prelude.{◌≡◌, ℕ, suc, ◌<◌, List, length, Result, Ok, Err, ⊤, MatchResult}
use Rattle.toml_walk.specs.declared.halt.Halt.{Halt}
use Rattle.toml_walk.specs.declared.halt.Halt.TheVariants as halts
use Rattle.toml_walk.specs.declared.halt.Halted.{Halted}
use Rattle.toml_walk.specs.declared.names.Names.{Names}
use Rattle.toml_walk.specs.declared.walk.Turn.{Turn}
use Rattle.toml_walk.specs.declared.walk.Turn.TheVariants as turns
use Rattle.toml_walk.specs.declared.walk.Section.{Section}
use Rattle.toml_walk.specs.Names.{Noted}
use Rattle.toml_walk.specs.Reading.{NamesStandFor}
use Rattle.toml_walk.specs.Walk.{Sections, items, members, lines}

-- less text is left
abbrev pub TurnShortens : List ℕ → Turn → Type 0
TurnShortens text (turns.Ends rest) = length rest.now < length text
TurnShortens text (turns.Goes rest) = length rest.now < length text

-- or the text was over
abbrev pub LineShortens : List ℕ → Turn → Type 0
LineShortens text (turns.Ends rest) = ⊤
LineShortens text (turns.Goes rest) = length rest.now < length text

-- the reading stops, unless memory was refused
abbrev pub Halts : {A : Type 0} → Halt → Result A Halted → Type 0
Halts h expected = (x : Halted) → h ≡ halts.Stop x → expected ≡ Err x

-- a value is noted at a key, and the names stand for that
abbrev pub Notes : Result (Unit {0}) Halt → Names → Result Noted Halted → Type 0
Notes r names expected =
    MatchResult r (λ _. (noted : Noted) × (expected ≡ Ok noted) × NamesStandFor names noted) (λ h. Halts h expected)

module _ (value : List ℕ → Result (List ℕ) Halted) (n : ℕ) where
  -- what a turn leaves of an array
  abbrev pub items_on : Turn → Result (List ℕ) Halted
  items_on (turns.Ends rest) = Ok rest.now
  items_on (turns.Goes rest) = items value n rest.now

  -- a turn through an array
  abbrev pub ItemsGo : List ℕ → Result Turn Halt → Type 0
  ItemsGo text r =
      MatchResult r (λ turn. items value (suc n) text ≡ items_on turn) (λ h. Halts h (items value (suc n) text))

  -- a turn through an inline table, and the names stand for what is noted then
  abbrev pub MembersOn : Result (List ℕ) Halted → Names → Turn → Type 0
  MembersOn whole names (turns.Ends rest) = whole ≡ Ok rest.now
  MembersOn whole names (turns.Goes rest) =
      (more : Noted) × (whole ≡ members value n more rest.now) × NamesStandFor names more

  abbrev pub MembersGo : Noted → List ℕ → Result Turn Halt → Names → Type 0
  MembersGo noted text r names =
      MatchResult r (λ turn. MembersOn (members value (suc n) noted text) names turn)
      (λ h. Halts h (members value (suc n) noted text))

-- names and the table of the last header stand for those of a text
pub record SectionIs (section : Section) (sections : Sections) : Type 0 where
  pub noted : NamesStandFor section.names sections.noted
  pub table : section.table ≡ sections.table
  pub within : sections.table < sections.noted.tables

-- what a statement defines is noted
abbrev pub Opens : Result (Unit {0}) Halt → Section → Result Sections Halted → Type 0
Opens r section expected =
    MatchResult r (λ _. (s : Sections) × (expected ≡ Ok s) × SectionIs section s) (λ h. Halts h expected)

-- a turn through the statements of a text
abbrev pub LinesOn : ℕ → Result (List ℕ) Halted → Section → Turn → Type 0
LinesOn n whole section (turns.Ends rest) = whole ≡ Ok rest.now
LinesOn n whole section (turns.Goes rest) =
    (more : Sections) × (whole ≡ lines n more rest.now) × SectionIs section more

abbrev pub LinesGo : ℕ → Sections → List ℕ → Result Turn Halt → Section → Type 0
LinesGo n sections text r section =
    MatchResult r (λ turn. LinesOn n (lines (suc n) sections text) section turn)
    (λ h. Halts h (lines (suc n) sections text))
