-- Stops as the cases write them.
use Rattle.std.specs.Prelude.{ℕ, Bool, List, Option, Some}
use Rattle.toml_walk.specs.declared.stop.Due.{Due}
use Rattle.toml_walk.specs.declared.stop.NoValue.{NoValue}
use Rattle.toml_walk.specs.declared.stop.Stop.{Stop}
use Rattle.toml_walk.specs.declared.stop.Token.{Token}
use Rattle.toml_walk.specs.declared.stop.Why.TheVariants as why

-- another part is due
abbrev pub due_at : ℕ → Due → Token → Option Stop
due_at byte part token = Some (record { at = byte; why = why.Due part token })

-- a value can't be read, so many bytes of it
abbrev pub no_value_at : ℕ → ℕ → NoValue → Option Stop
no_value_at byte size reason = Some (record { at = byte; why = why.NoValue size reason })

-- a string has no end
abbrev pub no_string_at : ℕ → Option Stop
no_string_at byte = Some (record { at = byte; why = why.NoString })

-- a key was defined before
abbrev pub defined_at : ℕ → List ℕ → Bool → Option Stop
defined_at byte key in_brackets = Some (record { at = byte; why = why.Defined key in_brackets })
