-- Rows of bits under exclusive or.
use Rattle.std.proofs.Common.{◌≡◌, ℕ, zero, suc, ◌<◌, ◌≤◌, Bool, true, false, List, [], ◌∷◌, ◌++◌, length, get_or}
use Rattle.std.proofs.Common.{replicate, refl, ap, sym, ◌∙◌, arith}
use Rattle.ttp_world.specs.CheckWord.{xor, xor_bits}

-- ---- one bit

xor-false : (a : Bool) → xor a false ≡ a
xor-false false = refl
xor-false true = refl

xor-self : (a : Bool) → xor a a ≡ false
xor-self false = refl
xor-self true = refl

xor-comm : (a b : Bool) → xor a b ≡ xor b a
xor-comm false b = sym (xor-false b)
xor-comm true false = refl
xor-comm true true = refl

pub xor-assoc : (a b c : Bool) → xor (xor a b) c ≡ xor a (xor b c)
xor-assoc false b c = refl
xor-assoc true false c = refl
xor-assoc true true false = refl
xor-assoc true true true = refl

pub xor-right_comm : (a b c : Bool) → xor (xor a b) c ≡ xor (xor a c) b
xor-right_comm a b c = xor-assoc a b c ∙ ap (xor a) (xor-comm b c) ∙ sym (xor-assoc a c b)

-- what is added twice falls out
pub xor-twice : (a b : Bool) → xor (xor a b) b ≡ a
xor-twice a b = xor-assoc a b b ∙ ap (xor a) (xor-self b) ∙ xor-false a

-- sums of four bits, in another order
pub xor-four : (a b c d : Bool) → xor (xor a b) (xor c d) ≡ xor (xor a c) (xor b d)
xor-four a b c d = sym (xor-assoc (xor a b) c d) ∙ ap (λ x. xor x d) (xor-right_comm a b c) ∙ xor-assoc (xor a c) b d

pub xor-cancel : (a b c : Bool) → xor a c ≡ xor b c → a ≡ b
xor-cancel a b c same = sym (xor-twice a c) ∙ ap (λ x. xor x c) same ∙ xor-twice b c

-- ---- rows of bits

pub length-xor_bits : (as_ bs : List Bool) → length (xor_bits as_ bs) ≡ length as_
length-xor_bits [] bs = refl
length-xor_bits (a ∷ as_) [] = refl
length-xor_bits (a ∷ as_) (b ∷ bs) = ap suc (length-xor_bits as_ bs)

pub xor_bits-nil : (as_ : List Bool) → xor_bits as_ [] ≡ as_
xor_bits-nil [] = refl
xor_bits-nil (a ∷ as_) = refl

pub xor_bits-right_comm : (as_ bs cs : List Bool) → xor_bits (xor_bits as_ bs) cs ≡ xor_bits (xor_bits as_ cs) bs
xor_bits-right_comm [] bs cs = refl
xor_bits-right_comm (a ∷ as_) [] cs = sym (xor_bits-nil (xor_bits (a ∷ as_) cs))
xor_bits-right_comm (a ∷ as_) (b ∷ bs) [] = refl
xor_bits-right_comm (a ∷ as_) (b ∷ bs) (c ∷ cs) = rw (xor-right_comm a b c, xor_bits-right_comm as_ bs cs)

pub xor_bits-assoc : (as_ bs cs : List Bool) → length as_ ≡ length bs
    → xor_bits (xor_bits as_ bs) cs ≡ xor_bits as_ (xor_bits bs cs)
xor_bits-assoc [] bs cs same = refl
xor_bits-assoc (a ∷ as_) [] cs same = absurd (omega arith)
xor_bits-assoc (a ∷ as_) (b ∷ bs) [] same = refl
xor_bits-assoc (a ∷ as_) (b ∷ bs) (c ∷ cs) same = rw (xor-assoc a b c, xor_bits-assoc as_ bs cs (omega arith))

-- what is added twice falls out
pub xor_bits-twice : (as_ bs : List Bool) → xor_bits (xor_bits as_ bs) bs ≡ as_
xor_bits-twice [] bs = refl
xor_bits-twice (a ∷ as_) [] = refl
xor_bits-twice (a ∷ as_) (b ∷ bs) = rw (xor-twice a b, xor_bits-twice as_ bs)

-- what is added to both falls out of their sum
pub xor_bits-both : (as_ bs cs : List Bool) → length as_ ≡ length bs
    → xor_bits (xor_bits as_ cs) (xor_bits bs cs) ≡ xor_bits as_ bs
xor_bits-both as_ bs cs same =
    xor_bits-right_comm as_ cs (xor_bits bs cs) ∙ ap (λ xs. xor_bits xs cs) (sym (xor_bits-assoc as_ bs cs same))
    ∙ xor_bits-twice (xor_bits as_ bs) cs

-- rows of equal length are added front and back apart
pub xor_bits-append : (as_ bs cs ds : List Bool) → length as_ ≡ length bs
    → xor_bits (as_ ++ cs) (bs ++ ds) ≡ xor_bits as_ bs ++ xor_bits cs ds
xor_bits-append [] [] cs ds same = refl
xor_bits-append [] (b ∷ bs) cs ds same = absurd (omega arith)
xor_bits-append (a ∷ as_) [] cs ds same = absurd (omega arith)
xor_bits-append (a ∷ as_) (b ∷ bs) cs ds same = ap (λ xs. xor a b ∷ xs) (xor_bits-append as_ bs cs ds (omega arith))

-- a row is added to the front of a longer one
pub xor_bits-front : (as_ bs cs : List Bool) → length bs ≤ length as_ → xor_bits (as_ ++ cs) bs ≡ xor_bits as_ bs ++ cs
xor_bits-front [] [] cs short = xor_bits-nil cs
xor_bits-front [] (b ∷ bs) cs short = absurd (omega arith)
xor_bits-front (a ∷ as_) [] cs short = refl
xor_bits-front (a ∷ as_) (b ∷ bs) cs short = ap (λ xs. xor a b ∷ xs) (xor_bits-front as_ bs cs (omega arith))

pub xor_bits-zeros : (as_ : List Bool) (n : ℕ) → xor_bits as_ (replicate n false) ≡ as_
xor_bits-zeros [] n = refl
xor_bits-zeros (a ∷ as_) zero = refl
xor_bits-zeros (a ∷ as_) (suc n) = rw (xor-false a, xor_bits-zeros as_ n)

pub zeros-xor_bits : (bs : List Bool) → xor_bits (replicate (length bs) false) bs ≡ bs
zeros-xor_bits [] = refl
zeros-xor_bits (b ∷ bs) = ap (λ xs. b ∷ xs) (zeros-xor_bits bs)

pub xor_bits-self : (as_ : List Bool) → xor_bits as_ as_ ≡ replicate (length as_) false
xor_bits-self [] = refl
xor_bits-self (a ∷ as_) = rw (xor-self a, xor_bits-self as_)

-- rows that change the front of a longer row alike are equal
pub xor_bits-cancel : (as_ bs cs : List Bool) → length bs ≡ length cs → length bs ≤ length as_
    → xor_bits as_ bs ≡ xor_bits as_ cs → bs ≡ cs
xor_bits-cancel as_ [] [] same short alike = refl
xor_bits-cancel as_ [] (c ∷ cs) same short alike = absurd (omega arith)
xor_bits-cancel as_ (b ∷ bs) [] same short alike = absurd (omega arith)
xor_bits-cancel [] (b ∷ bs) (c ∷ cs) same short alike = absurd (omega arith)
xor_bits-cancel (a ∷ as_) (b ∷ bs) (c ∷ cs) same short alike =
    let first : xor a b ≡ xor a c = cc in
    let others : xor_bits as_ bs ≡ xor_bits as_ cs = cc in
    let here : b ≡ c = xor-cancel b c a (xor-comm b a ∙ first ∙ xor-comm a c) in
    let rest : bs ≡ cs = xor_bits-cancel as_ bs cs (omega arith) (omega arith) others in
    cc

-- the bit at a place of a sum
pub get_or-xor_bits : (as_ bs : List Bool) (i : ℕ) → i < length as_ → length as_ ≡ length bs
    → get_or (xor_bits as_ bs) i false ≡ xor (get_or as_ i false) (get_or bs i false)
get_or-xor_bits [] bs i within same = absurd (omega arith)
get_or-xor_bits (a ∷ as_) [] i within same = absurd (omega arith)
get_or-xor_bits (a ∷ as_) (b ∷ bs) zero within same = refl
get_or-xor_bits (a ∷ as_) (b ∷ bs) (suc i) within same = get_or-xor_bits as_ bs i (omega arith) (omega arith)
