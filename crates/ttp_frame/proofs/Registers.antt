-- The register: what it makes of sums of rows, and that nothing which it holds is lost.
use Rattle.std.proofs.Common.{◌≡◌, ℕ, zero, suc, ◌+◌, ◌-◌, ◌≤◌, Bool, true, false, cond, List, [], ◌∷◌, ◌++◌, length}
use Rattle.std.proofs.Common.{get_or, take, drop, replicate, refl, ap, sym, ◌∙◌, arith, append_assoc, length-append}
use Rattle.std.proofs.lemmas.Bool.{false≢true}
use Rattle.std.proofs.lemmas.List.{append_cancel_right, append-nil, drop-drop, get_or-append_right, length-drop}
use Rattle.std.proofs.lemmas.List.{length-take, length-replicate, take-append-drop}
use Rattle.ttp_world.specs.CheckWord.{xor, xor_bits, generator, next_register, remainder}
use Rattle.ttp_frame.proofs.Bits.{xor-assoc, xor-four, xor-cancel, length-xor_bits, xor_bits-nil, xor_bits-right_comm}
use Rattle.ttp_frame.proofs.Bits.{xor_bits-assoc, xor_bits-twice, xor_bits-both, xor_bits-append, xor_bits-front}
use Rattle.ttp_frame.proofs.Bits.{xor_bits-zeros, xor_bits-self, xor_bits-cancel, get_or-xor_bits, zeros-xor_bits}

-- the rest of a register moves one place, and a row is added to it where this is asked for
abbrev moved : List Bool → List Bool → Bool → List Bool
moved row rest carry = cond carry (xor_bits (rest ++ false ∷ []) row) (rest ++ false ∷ [])

-- ---- lengths

length-moved : (row rest : List Bool) (carry : Bool) → length (moved row rest carry) ≡ suc (length rest)
length-moved row rest false = omega (arith, length-append rest (false ∷ []))
length-moved row rest true = omega (arith, length-xor_bits (rest ++ false ∷ []) row, length-append rest (false ∷ []))

pub length-next_register : (register : List Bool) (bit : Bool) → length (next_register register bit) ≡ length register
length-next_register [] bit = refl
length-next_register (front ∷ rest) bit = length-moved generator rest (xor front bit)

pub length-remainder : (register bits : List Bool) → length (remainder register bits) ≡ length register
length-remainder register [] = refl
length-remainder register (bit ∷ bits) =
    length-remainder (next_register register bit) bits ∙ length-next_register register bit

pub remainder-append : (register bits more : List Bool)
    → remainder register (bits ++ more) ≡ remainder (remainder register bits) more
remainder-append register [] more = refl
remainder-append register (bit ∷ bits) more = remainder-append (next_register register bit) bits more

-- ---- sums: the register of a sum is the sum of the registers

moved-xor : (row a b : List Bool) (p q : Bool) → length a ≡ length b
    → moved row (xor_bits a b) (xor p q) ≡ xor_bits (moved row a p) (moved row b q)
moved-xor row a b p q same = by p q
  where
    s : List Bool
    s = a ++ false ∷ []

    t : List Bool
    t = b ++ false ∷ []

    alike : length s ≡ length t
    alike = omega (arith, length-append a (false ∷ []), length-append b (false ∷ []))

    sum : xor_bits a b ++ false ∷ [] ≡ xor_bits s t
    sum = sym (xor_bits-append a b (false ∷ []) (false ∷ []) same)

    by : (p q : Bool) → moved row (xor_bits a b) (xor p q) ≡ xor_bits (moved row a p) (moved row b q)
    by false false = sum
    by false true = ap (λ xs. xor_bits xs row) sum ∙ xor_bits-assoc s t row alike
    by true false = ap (λ xs. xor_bits xs row) sum ∙ xor_bits-right_comm s t row
    by true true = sum ∙ sym (xor_bits-both s t row alike)

next_register-xor : (a b : List Bool) (p q : Bool) → length a ≡ length b
    → next_register (xor_bits a b) (xor p q) ≡ xor_bits (next_register a p) (next_register b q)
next_register-xor [] b p q same = refl
next_register-xor (f ∷ a) [] p q same = absurd (omega arith)
next_register-xor (f ∷ a) (g ∷ b) p q same =
    ap (moved generator (xor_bits a b)) (xor-four f g p q) ∙ moved-xor generator a b (xor f p) (xor g q) (omega arith)

pub remainder-xor : (a b xs ys : List Bool) → length a ≡ length b → length xs ≡ length ys
    → remainder (xor_bits a b) (xor_bits xs ys) ≡ xor_bits (remainder a xs) (remainder b ys)
remainder-xor a b [] [] same alike = refl
remainder-xor a b [] (y ∷ ys) same alike = absurd (omega arith)
remainder-xor a b (x ∷ xs) [] same alike = absurd (omega arith)
remainder-xor a b (x ∷ xs) (y ∷ ys) same alike =
    ap (λ r. remainder r (xor_bits xs ys)) (next_register-xor a b x y same)
    ∙ remainder-xor (next_register a x) (next_register b y) xs ys
    (length-next_register a x ∙ same ∙ sym (length-next_register b y)) (omega arith)

-- ---- what is added to the register's front may as well be added to the bits that are read

moved-front : (row rest xs : List Bool) (carry : Bool) → length xs ≤ length rest
    → moved row (xor_bits rest xs) carry ≡ xor_bits (moved row rest carry) xs
moved-front row rest xs false short = sym (xor_bits-front rest xs (false ∷ []) short)
moved-front row rest xs true short =
    ap (λ s. xor_bits s row) (sym (xor_bits-front rest xs (false ∷ []) short))
    ∙ xor_bits-right_comm (rest ++ false ∷ []) xs row

pub remainder-front : (register xs bits : List Bool) → length xs ≡ length bits → length xs ≤ length register
    → remainder (xor_bits register xs) bits ≡ remainder register (xor_bits xs bits)
remainder-front register [] [] same short = xor_bits-nil register
remainder-front register [] (bit ∷ bits) same short = absurd (omega arith)
remainder-front register (x ∷ xs) [] same short = absurd (omega arith)
remainder-front [] (x ∷ xs) (bit ∷ bits) same short = absurd (omega arith)
remainder-front (front ∷ rest) (x ∷ xs) (bit ∷ bits) same short =
    ap (λ r. remainder r bits)
    (ap (moved generator (xor_bits rest xs)) (xor-assoc front x bit)
    ∙ moved-front generator rest xs (xor front (xor x bit)) (omega arith))
    ∙ remainder-front (next_register (front ∷ rest) (xor x bit)) xs bits (omega arith)
    (omega (arith, length-next_register (front ∷ rest) (xor x bit)))

-- bits are read as zeros by the register with them at its front
pub remainder-read : (register bits : List Bool) → length bits ≤ length register
    → remainder register bits ≡ remainder (xor_bits register bits) (replicate (length bits) false)
remainder-read register bits short =
    ap (remainder register) (sym (xor_bits-zeros bits (length bits)))
    ∙ sym (remainder-front register bits (replicate (length bits) false)
    (sym (length-replicate (length bits) false)) short)

-- ---- nothing is lost

-- the last bit tells whether the row was added, where the row ends with true
last-moved : (row rest : List Bool) (carry : Bool) → length row ≡ suc (length rest)
    → get_or row (length rest) false ≡ true → get_or (moved row rest carry) (length rest) false ≡ carry
last-moved row rest carry same ends = by carry
  where
    last : get_or (rest ++ false ∷ []) (length rest) false ≡ false
    last =
        let none : length rest - length rest ≡ 0 = omega arith in
        get_or-append_right rest (false ∷ []) (length rest) (length rest) false refl (omega arith)
        ∙ ap (λ i. get_or (false ∷ []) i false) none

    by : (carry : Bool) → get_or (moved row rest carry) (length rest) false ≡ carry
    by false = last
    by true =
        get_or-xor_bits (rest ++ false ∷ []) row (length rest) (omega (arith, length-append rest (false ∷ [])))
        (omega (arith, length-append rest (false ∷ [])))
        ∙ ap (λ b. xor b (get_or row (length rest) false)) last ∙ ends

moved-injective : (row a b : List Bool) (p q : Bool) → length a ≡ length b → length row ≡ suc (length a)
    → get_or row (length a) false ≡ true → moved row a p ≡ moved row b q → (p ≡ q) × (a ≡ b)
moved-injective row a b p q same size ends alike =
    (carries, append_cancel_right a b (false ∷ []) (by p q carries alike))
  where
    ends_too : get_or row (length b) false ≡ true
    ends_too = ap (λ i. get_or row i false) (sym same) ∙ ends

    carries : p ≡ q
    carries =
        sym (last-moved row a p size ends) ∙ ap (λ xs. get_or xs (length a) false) alike
        ∙ ap (λ i. get_or (moved row b q) i false) same ∙ last-moved row b q (omega arith) ends_too

    by : (p q : Bool) → p ≡ q → moved row a p ≡ moved row b q → a ++ false ∷ [] ≡ b ++ false ∷ []
    by false false equal alike = alike
    by false true equal alike = absurd (false≢true equal)
    by true false equal alike = absurd (false≢true (sym equal))
    by true true equal alike =
        sym (xor_bits-twice (a ++ false ∷ []) row) ∙ ap (λ xs. xor_bits xs row) alike
        ∙ xor_bits-twice (b ++ false ∷ []) row

next_register-injective : (a b : List Bool) (bit : Bool) → length a ≡ 24 → length b ≡ 24
    → next_register a bit ≡ next_register b bit → a ≡ b
next_register-injective [] b bit size size_too alike = absurd (omega arith)
next_register-injective (f ∷ a) [] bit size size_too alike = absurd (omega arith)
next_register-injective (f ∷ a) (g ∷ b) bit size size_too alike =
    let rests : length a ≡ 23 = omega arith in
    let split =
    moved-injective generator a b (xor f bit) (xor g bit) (omega arith) (omega arith)
    (ap (λ i. get_or generator i false) rests) alike in
    let fronts : f ≡ g = xor-cancel f g bit split.0 in
    let rest : a ≡ b = split.1 in
    cc

-- registers that differ still do whatever both have read
pub remainder-injective : (a b bits : List Bool) → length a ≡ 24 → length b ≡ 24 → remainder a bits ≡ remainder b bits
    → a ≡ b
remainder-injective a b [] size size_too alike = alike
remainder-injective a b (bit ∷ bits) size size_too alike =
    next_register-injective a b bit size size_too
    (remainder-injective (next_register a bit) (next_register b bit) bits (length-next_register a bit ∙ size)
    (length-next_register b bit ∙ size_too) alike)

-- ---- bits read in parts

-- zeros in front are pushed out by as many zeros that are read
remainder-zeros : (k : ℕ) (rest : List Bool)
    → remainder (replicate k false ++ rest) (replicate k false) ≡ rest ++ replicate k false
remainder-zeros zero rest = sym (append-nil rest)
remainder-zeros (suc k) rest =
    ap (λ r. remainder r (replicate k false)) (append_assoc (replicate k false) rest (false ∷ []))
    ∙ remainder-zeros k (rest ++ false ∷ []) ∙ append_assoc rest (false ∷ []) (replicate k false)

-- bits change the register by its front alone, and the rest moves up
pub remainder-split : (front rest bits : List Bool) → length front ≡ length bits →
    remainder (front ++ rest) bits
    ≡ xor_bits (remainder (replicate (length front + length rest) false) (xor_bits front bits))
    (rest ++ replicate (length front) false)
remainder-split front rest bits same =
    ap (λ r. remainder r bits) of_front
    ∙ remainder-front (none ++ rest) front bits same (omega (arith, length-append none rest, length-replicate n false))
    ∙ ap (λ r. remainder r read) of_rest
    ∙ ap (remainder (xor_bits zeros (none ++ rest))) (sym (xor_bits-zeros read n))
    ∙ remainder-xor zeros (none ++ rest) read none
    (omega (arith, length-append none rest, length-replicate n false, length-replicate (n + length rest) false))
    (length-xor_bits front bits ∙ sym (length-replicate n false))
    ∙ ap (xor_bits (remainder zeros read)) (remainder-zeros n rest)
  where
    n : ℕ
    n = length front

    none : List Bool
    none = replicate n false

    zeros : List Bool
    zeros = replicate (n + length rest) false

    read : List Bool
    read = xor_bits front bits

    of_front : front ++ rest ≡ xor_bits (none ++ rest) front
    of_front = ap (λ xs. xs ++ rest) (sym (zeros-xor_bits front))
        ∙ sym (xor_bits-front none front rest (omega (arith, length-replicate n false)))

    of_rest : none ++ rest ≡ xor_bits zeros (none ++ rest)
    of_rest = sym (ap (λ k. xor_bits (replicate k false) (none ++ rest)) size ∙ zeros-xor_bits (none ++ rest))
      where
        size : n + length rest ≡ length (none ++ rest)
        size = omega (arith, length-append none rest, length-replicate n false)

-- ---- what a register tells

-- a register tells rows apart that are no longer than it is
pub remainder-tells : (register one other : List Bool) → length register ≡ 24 → length one ≡ length other
    → length one ≤ 24 → remainder register one ≡ remainder register other → one ≡ other
remainder-tells register one other size same short alike =
    xor_bits-cancel register one other same (omega arith)
    (remainder-injective (xor_bits register one) (xor_bits register other) zeros (length-xor_bits register one ∙ size)
    (length-xor_bits register other ∙ size) sums)
  where
    zeros : List Bool
    zeros = replicate (length one) false

    sums : remainder (xor_bits register one) zeros ≡ remainder (xor_bits register other) zeros
    sums =
        sym (remainder-read register one (omega arith)) ∙ alike ∙ remainder-read register other (omega arith)
        ∙ ap (λ n. remainder (xor_bits register other) (replicate n false)) (sym same)

-- a register that reads the bits that it holds becomes zeros
pub remainder-self : (register : List Bool) → length register ≡ 24 → remainder register register ≡ replicate 24 false
remainder-self register size =
    remainder-read register register (omega arith)
    ∙ ap (λ r. remainder r (replicate (length register) false)) (xor_bits-self register)
    ∙ ap (λ n. remainder (replicate n false) (replicate n false)) size

-- a row of bits is its first bits, so many from there on, and what follows
in_parts : (bits : List Bool) (from width : ℕ)
    → take from bits ++ (take width (drop from bits) ++ drop (from + width) bits) ≡ bits
in_parts bits from width =
    ap (λ xs. take from bits ++ (take width (drop from bits) ++ xs)) (sym (drop-drop width from bits))
    ∙ ap (λ xs. take from bits ++ xs) (take-append-drop width (drop from bits))
    ∙ take-append-drop from bits

remainder-parts : (register bits : List Bool) (from width : ℕ)
    → remainder register bits
    ≡ remainder (remainder (remainder register (take from bits)) (take width (drop from bits)))
    (drop (from + width) bits)
remainder-parts register bits from width =
    let first : List Bool = take from bits in
    let middle : List Bool = take width (drop from bits) in
    ap (remainder register) (sym (in_parts bits from width))
    ∙ remainder-append register first (middle ++ drop (from + width) bits)
    ∙ remainder-append (remainder register first) middle (drop (from + width) bits)

-- rows that differ only within 24 bits, and leave the same register, are equal
pub remainder-burst : (register one other : List Bool) (from width : ℕ) → length register ≡ 24 → width ≤ 24
    → length one ≡ length other
    → take from one ≡ take from other → drop (from + width) one ≡ drop (from + width) other
    → remainder register one ≡ remainder register other → one ≡ other
remainder-burst register one other from width size short same before after alike =
    sym (in_parts one from width)
    ∙ ap (λ xs. xs ++ (middle one ++ rest)) before
    ∙ ap (λ xs. take from other ++ (xs ++ rest)) middles
    ∙ ap (λ xs. take from other ++ (middle other ++ xs)) after
    ∙ in_parts other from width
  where
    middle : List Bool → List Bool
    middle bits = take width (drop from bits)

    rest : List Bool
    rest = drop (from + width) one

    held : List Bool
    held = remainder register (take from one)

    held_size : length held ≡ 24
    held_size = length-remainder register (take from one) ∙ size

    ends : remainder (remainder held (middle one)) rest ≡ remainder (remainder held (middle other)) rest
    ends =
        sym (remainder-parts register one from width) ∙ alike ∙ remainder-parts register other from width
        ∙ ap (λ xs. remainder (remainder (remainder register xs) (middle other)) (drop (from + width) other))
        (sym before)
        ∙ ap (remainder (remainder held (middle other))) (sym after)

    held_alike : remainder held (middle one) ≡ remainder held (middle other)
    held_alike = remainder-injective (remainder held (middle one)) (remainder held (middle other)) rest
        (length-remainder held (middle one) ∙ held_size) (length-remainder held (middle other) ∙ held_size) ends

    middles : middle one ≡ middle other
    middles = remainder-tells held (middle one) (middle other) held_size
        (omega (arith, length-take {A = Bool}, length-drop {A = Bool}))
        (omega (arith, length-take {A = Bool})) held_alike
