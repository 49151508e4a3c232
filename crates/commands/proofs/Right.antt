-- What a list or a script that is taken was read as, and what the library holds where all of it was given.
use Rattle.std.proofs.Common.{◌≡◌, ℕ, ◌+◌, ◌≤◌, List, length, take, Result, Ok, Err, refl, ap, ◌∙◌, arith, cond, nat_lt}
use Rattle.std.proofs.Common.{Bool, true, false}
use Rattle.std.proofs.lemmas.Bool.{le-ltb, ltb-false}
use Rattle.std.proofs.lemmas.List.{take_all, length-take}
use Rattle.ttp_base.specs.Outside.{Held, untold, absent, holds, Gives}
use Rattle.ttp_world.specs.declared.medl.Medl.{Medl}
use Rattle.ttp_world.specs.declared.script.Script.{Script}
use Rattle.medl_text.specs.declared.error.MedlError.{MedlError}
use Rattle.medl_text.specs.ListFile.{medl_of}
use Rattle.script_text.specs.declared.error.ScriptError.{ScriptError}
use Rattle.script_text.specs.ScriptFile.{script_of}
use Rattle.commands.specs.declared.read.FileFault.TheVariants as wrong
use Rattle.commands.specs.Read.{list_limit, list_read, list_from, script_limit, script_read, script_from}
use Rattle.commands.specs.Right.{MayBe, AreRight}

-- it is not too large, and it was read as that
list_taken : (read : Result Medl MedlError) (large : Bool) (medl : Medl)
    → cond large (Err wrong.TooLarge) (list_read read) ≡ Ok medl → (large ≡ false) × (read ≡ Ok medl)
list_taken (Ok list) false medl taken = (refl, cc)
list_taken (Err fault) false medl taken = absurd (cc)
list_taken read true medl taken = absurd (cc)

script_taken : (read : Result Script ScriptError) (large : Bool) (right : Script)
    → cond large (Err wrong.TooLarge) (script_read read) ≡ Ok right → (large ≡ false) × (read ≡ Ok right)
script_taken (Ok script) false right taken = (refl, cc)
script_taken (Err fault) false right taken = absurd (cc)
script_taken read true right taken = absurd (cc)

-- bytes that are a list
pub record IsRight (bytes : List ℕ) (medl : Medl) : Type 0 where
  pub size : length bytes ≤ list_limit
  pub list : medl_of bytes ≡ Ok medl

pub right_list : (bytes : List ℕ) (medl : Medl) → list_from bytes ≡ Ok medl → IsRight bytes medl
unfolding list_from
right_list bytes medl taken =
    let read = list_taken (medl_of bytes) (nat_lt list_limit (length bytes)) medl taken in
    record {
      size = ltb-false list_limit (length bytes) read.0;
      list = read.1;
    }

pub right_script : (bytes script_bytes : List ℕ) (medl : Medl) (right : Script) → IsRight bytes medl
    → script_from medl script_bytes ≡ Ok right → AreRight bytes script_bytes medl right
unfolding script_from
right_script bytes script_bytes medl right list taken =
    let read = script_taken (script_of medl script_bytes) (nat_lt script_limit (length script_bytes)) right taken in
    record {
      size = list.size;
      list = list.list;
      script_size = ltb-false script_limit (length script_bytes) read.0;
      script = read.1;
    }

-- The other way round.

pub list_from-right : (bytes : List ℕ) (medl : Medl) → length bytes ≤ list_limit → medl_of bytes ≡ Ok medl
    → list_from bytes ≡ Ok medl
unfolding list_from
list_from-right bytes medl short right = rw (le-ltb list_limit (length bytes) short, right) refl

pub script_from-right : (medl : Medl) (bytes : List ℕ) (script : Script) → length bytes ≤ script_limit
    → script_of medl bytes ≡ Ok script → script_from medl bytes ≡ Ok script
unfolding script_from
script_from-right medl bytes script short right = rw (le-ltb script_limit (length bytes) short, right) refl

-- bytes that were given and are not too many are all that is held
pub may_be : (h : Held) (limit : ℕ) (given : List ℕ) → Gives h limit given → length given ≤ limit → MayBe h given
may_be untold limit given gives short = tt
may_be absent limit given gives short = absurd gives
may_be (holds all) limit given gives short =
    let cut : length given ≡ length (take (limit + 1) all) = ap length gives in
    gives ∙ take_all (limit + 1) all (omega (arith, cut, length-take (limit + 1) all))
