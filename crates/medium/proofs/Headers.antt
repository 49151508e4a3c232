-- The flips of a valid script leave headers as they were.
use Rattle.std.proofs.Common.{◌≡◌, ℕ, suc, ◌≤◌, List, [], ◌∷◌, Option, Some, None, IfSome, refl, ◌∙◌, arith}
use Rattle.std.specs.List.{All, cons_option, filter_map}
use Rattle.std.proofs.lemmas.Bool.{le-ltb, cond_both}
use Rattle.ttp_world.specs.declared.medl.Medl.{Medl}
use Rattle.ttp_world.specs.declared.script.Channel.{Channel}
use Rattle.ttp_world.specs.declared.script.Event.{Event}
use Rattle.ttp_world.specs.declared.script.Event.TheVariants as event
use Rattle.ttp_world.specs.declared.script.Script.{Script}
use Rattle.ttp_world.specs.declared.script.TheConstants.{FIRST_FLIPPED_BIT}
use Rattle.ttp_world.specs.Events.{flipped_bit}
use Rattle.ttp_world.specs.Fitting.{header_in}
use Rattle.ttp_world.specs.Medium.{flip_bit, flip_bits}
use Rattle.ttp_world.specs.Script.{flipped_bits, IsValidEvent, IsValidScript}

-- a bit behind the header
abbrev IsBehind : ℕ → Type 0
IsBehind bit = FIRST_FLIPPED_BIT ≤ bit

flip_bit-header : (bytes : List ℕ) (bit : ℕ) → IsBehind bit → header_in (flip_bit bytes bit) ≡ header_in bytes
flip_bit-header [] bit behind = refl
flip_bit-header (byte ∷ bytes) bit behind = rw (le-ltb bit 8 behind)

-- the bit that an event flips, if it does
flipped_bit-behind : (list : Medl) (script : Script) (k t : ℕ) (c : Channel) (e : Event) → IsValidEvent list script e
    → IfSome (flipped_bit k c t e) IsBehind
flipped_bit-behind list script k t c (event.Flip node channels bit at) valid =
    cond_both _ (Some bit) None (λ o. IfSome o IsBehind) (λ _. valid.1) (λ _. tt)
flipped_bit-behind list script k t c (event.Send node channels fault from to) valid = tt
flipped_bit-behind list script k t c e valid = tt

one_more : (flip : Option ℕ) (bits bytes : List ℕ) → IfSome flip IsBehind
    → ((there : List ℕ) → header_in (flip_bits there bits) ≡ header_in there)
    → header_in (flip_bits bytes (cons_option flip bits)) ≡ header_in bytes
one_more None bits bytes behind others = others bytes
one_more (Some bit) bits bytes behind others = others (flip_bit bytes bit) ∙ flip_bit-header bytes bit behind

flips-header : (list : Medl) (script : Script) (k t : ℕ) (c : Channel) (events : List Event) (bytes : List ℕ)
    → All (IsValidEvent list script) events
    → header_in (flip_bits bytes (filter_map (flipped_bit k c t) events)) ≡ header_in bytes
flips-header list script k t c [] bytes valid = refl
flips-header list script k t c (e ∷ events) bytes valid =
    one_more (flipped_bit k c t e) (filter_map (flipped_bit k c t) events) bytes
    (flipped_bit-behind list script k t c e (valid 0 e (omega arith)))
    (λ there. flips-header list script k t c events there (λ i d within. valid (suc i) d (omega arith)))

pub header_stays : (list : Medl) (script : Script) (k t : ℕ) (c : Channel) (bytes : List ℕ) → IsValidScript list script
    → header_in (flip_bits bytes (flipped_bits script k c t)) ≡ header_in bytes
header_stays list script k t c bytes valid = flips-header list script k t c script.events bytes valid.events
