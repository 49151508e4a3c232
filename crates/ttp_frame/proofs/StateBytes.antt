-- The bytes of a C-state, as the code puts them together.
use Rattle.std.proofs.Common.{◌≡◌, ℕ, ◌/◌, ◌%◌, ◌<◌, List, [], ◌∷◌, ◌++◌, get_or, ap, ◌∙◌, arith}
use Rattle.ttp_world.specs.Frame.{big_endian}

-- the bytes of a number of two, and of four
abbrev two : ℕ → List ℕ
two v = v / 256 % 256 ∷ v % 256 ∷ []

abbrev four : ℕ → List ℕ
four v = v / 16777216 % 256 ∷ v / 65536 % 256 ∷ v / 256 % 256 ∷ v % 256 ∷ []

-- a byte is its own lowest byte
small_byte : (v : ℕ) → v < 256 → v ≡ v % 256
small_byte v small = omega arith

third_byte : (v : ℕ) → v / 65536 % 256 ≡ v / 256 / 256 % 256
third_byte v = omega arith

-- the bytes of a C-state's fields
abbrev pub fields : ℕ → ℕ → ℕ → ℕ → ℕ → List ℕ
fields width time round slot members =
    big_endian 2 time ++ big_endian 1 round ++ big_endian 1 slot ++ big_endian width members

pub cstate_bytes-wide : (time round slot members : ℕ) (times words : List ℕ) → round < 256 → slot < 256
    → times ≡ two time → words ≡ four members
    → get_or times 0 0 ∷ get_or times 1 0 ∷ round ∷ slot ∷ get_or words 1 0 ∷ get_or words 2 0 ∷ get_or words 3 0 ∷ []
    ≡ fields 3 time round slot members
cstate_bytes-wide time round slot members times words round_small slot_small time_is is =
    let high = ap (λ bs. get_or bs 1 0) is ∙ third_byte members in
    λ i. get_or (time_is i) 0 0 ∷ get_or (time_is i) 1 0 ∷ small_byte round round_small i ∷ small_byte slot slot_small i
    ∷ high i ∷ get_or (is i) 2 0 ∷ get_or (is i) 3 0 ∷ []

pub cstate_bytes-narrow : (time round slot members : ℕ) (times words : List ℕ) → round < 256 → slot < 256
    → times ≡ two time → words ≡ four members
    → get_or times 0 0 ∷ get_or times 1 0 ∷ round ∷ slot ∷ get_or words 2 0 ∷ get_or words 3 0 ∷ []
    ≡ fields 2 time round slot members
cstate_bytes-narrow time round slot members times words round_small slot_small time_is is =
    λ i. get_or (time_is i) 0 0 ∷ get_or (time_is i) 1 0 ∷ small_byte round round_small i ∷ small_byte slot slot_small i
    ∷ get_or (is i) 2 0 ∷ get_or (is i) 3 0 ∷ []
