-- Of a file that is loaded with a limit, the first bytes decide what it is.
use Rattle.std.proofs.Common.{◌≡◌, ◌⊎◌, ℕ, ◌+◌, ◌<◌, ◌≤◌, List, length, take, Err, ap, inl, inr, arith, nat_lt, cond}
use Rattle.std.proofs.lemmas.List.{take_all, length-take-le}
use Rattle.std.proofs.lemmas.Bool.{lt-ltb, cases_lt}
use Rattle.ttp_world.specs.declared.medl.Medl.{Medl}
use Rattle.medl_text.specs.ListFile.{medl_of}
use Rattle.script_text.specs.ScriptFile.{script_of}
use Rattle.commands.specs.declared.read.FileFault.TheVariants as wrong
use Rattle.commands.specs.Read.{list_limit, list_read, list_from, script_limit, script_read, script_from}

-- what is read of bytes that are not too many
abbrev within : {X : Type 0} → ℕ → X → (List ℕ → X) → List ℕ → X
within limit large read bytes = cond (nat_lt limit (length bytes)) large (read bytes)

-- what stands past the limit doesn't matter
within-front_at : {X : Type 0} (limit : ℕ) (large : X) (read : List ℕ → X) (all : List ℕ)
    → (limit < length all) ⊎ (length all ≤ limit)
    → within limit large read (take (limit + 1) all) ≡ within limit large read all
within-front_at limit large read all (inr short) = ap (within limit large read) (take_all (limit + 1) all (omega arith))
within-front_at limit large read all (inl long) =
    let cut = length-take-le (limit + 1) all (omega arith) in
    let before = lt-ltb limit (length (take (limit + 1) all)) (omega (arith, cut)) in
    let after = lt-ltb limit (length all) long in
    rw (before, after)

within-front : {X : Type 0} (limit : ℕ) (large : X) (read : List ℕ → X) (all : List ℕ)
    → within limit large read (take (limit + 1) all) ≡ within limit large read all
within-front limit large read all = within-front_at limit large read all (cases_lt limit (length all))

pub list_from-front : (all : List ℕ) → list_from (take (list_limit + 1) all) ≡ list_from all
unfolding list_from
list_from-front all = within-front list_limit (Err wrong.TooLarge) (λ bytes. list_read (medl_of bytes)) all

pub script_from-front : (list : Medl) (all : List ℕ)
    → script_from list (take (script_limit + 1) all) ≡ script_from list all
unfolding script_from
script_from-front list all =
    within-front script_limit (Err wrong.TooLarge) (λ bytes. script_read (script_of list bytes)) all
