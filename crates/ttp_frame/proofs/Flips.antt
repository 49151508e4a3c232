-- Bytes with flipped bits, and their words.
use Rattle.std.proofs.Common.{◌≡◌, ℕ, zero, suc, ◌-◌, ◌<◌, ◌≤◌, ◌^◌, List, [], ◌∷◌, ◌++◌, length, get_or, take, drop}
use Rattle.std.proofs.Common.{refl, ap, sym, ◌∙◌, arith, append_assoc, length-append}
use Rattle.std.specs.Prelude.{◌==◌, slice_index}
use Rattle.std.specs.Int.Bits.{xor_assoc, xor_self, xor_zero_l, xor_zero_r}
use Rattle.std.specs.Int.RustNames.{bit_xor}
use Rattle.std.specs.List.{All}
use Rattle.std.proofs.lemmas.Bool.{eq-eqb, eqb-true}
use Rattle.std.proofs.lemmas.Bool.Decides.{same_from_decides}
use Rattle.std.proofs.lemmas.List.{length-drop, take-append-drop, take_at}
use Rattle.std.proofs.lemmas.Nat.{xor_of_8}
use Rattle.std.proofs.lemmas.Slice.Eq.{bytes_eq-Decides}
use Rattle.ttp_world.specs.CheckWord.{check_word}
use Rattle.ttp_world.specs.Frame.{word_bytes}
use Rattle.ttp_frame.specs.Bytes.{xor_bytes}
use Rattle.ttp_frame.proofs.WordLaws.{own_word_gives_zero, own_word_by_zero}
use Rattle.ttp_frame.proofs.Words.{check_word-xor}
use Rattle.ttp_frame.specs.Shape.{has_word}

-- Bytes combined by exclusive or.

pub length-xor_bytes : (as_ bs : List ℕ) → length (xor_bytes as_ bs) ≡ length as_
length-xor_bytes [] bs = refl
length-xor_bytes (a ∷ as_) [] = refl
length-xor_bytes (a ∷ as_) (b ∷ bs) = omega (arith, length-xor_bytes as_ bs)

xor_bytes-nil : (as_ : List ℕ) → xor_bytes as_ [] ≡ as_
xor_bytes-nil [] = refl
xor_bytes-nil (a ∷ as_) = refl

xor_bytes-append : (as_ bs cs ds : List ℕ) → length as_ ≡ length bs
    → xor_bytes (as_ ++ cs) (bs ++ ds) ≡ xor_bytes as_ bs ++ xor_bytes cs ds
xor_bytes-append [] [] cs ds same = refl
xor_bytes-append [] (b ∷ bs) cs ds same = absurd (omega arith)
xor_bytes-append (a ∷ as_) [] cs ds same = absurd (omega arith)
xor_bytes-append (a ∷ as_) (b ∷ bs) cs ds same =
    ap (λ xs. bit_xor a b ∷ xs) (xor_bytes-append as_ bs cs ds (omega arith))

xor-twice : (a b : ℕ) → bit_xor a (bit_xor a b) ≡ b
xor-twice a b = sym (xor_assoc a a b) ∙ ap (λ z. bit_xor z b) (xor_self a) ∙ xor_zero_l b

xor_bytes-twice : (as_ bs : List ℕ) → length as_ ≡ length bs → xor_bytes as_ (xor_bytes as_ bs) ≡ bs
xor_bytes-twice [] [] same = refl
xor_bytes-twice [] (b ∷ bs) same = absurd (omega arith)
xor_bytes-twice (a ∷ as_) [] same = absurd (omega arith)
xor_bytes-twice (a ∷ as_) (b ∷ bs) same = λ i. xor-twice a b i ∷ xor_bytes-twice as_ bs (omega arith) i

-- the front of bytes is flipped by the front of the flips, and what is behind it by the rest
pub take-xor_bytes : (as_ rest flips : List ℕ)
    → take (length as_) (xor_bytes (as_ ++ rest) flips) ≡ xor_bytes as_ (take (length as_) flips)
take-xor_bytes [] rest flips = refl
take-xor_bytes (a ∷ as_) rest [] = take_at (a ∷ as_) rest (length (a ∷ as_)) refl
take-xor_bytes (a ∷ as_) rest (b ∷ flips) = ap (λ xs. bit_xor a b ∷ xs) (take-xor_bytes as_ rest flips)

pub drop-xor_bytes : (as_ rest flips : List ℕ)
    → drop (length as_) (xor_bytes (as_ ++ rest) flips) ≡ xor_bytes rest (drop (length as_) flips)
drop-xor_bytes [] rest flips = refl
drop-xor_bytes (a ∷ as_) rest [] = drop-front as_ rest ∙ sym (xor_bytes-nil rest)
  where
    drop-front : (bs cs : List ℕ) → drop (length bs) (bs ++ cs) ≡ cs
    drop-front [] cs = refl
    drop-front (b ∷ bs) cs = drop-front bs cs
drop-xor_bytes (a ∷ as_) rest (b ∷ flips) = drop-xor_bytes as_ rest flips

-- a byte that isn't flipped stays
pub first-xor_bytes : (a : ℕ) (as_ flips : List ℕ) → slice_index flips 0 ≡ 0
    → slice_index (xor_bytes (a ∷ as_) flips) 0 ≡ a
first-xor_bytes a as_ [] none = refl
first-xor_bytes a as_ (b ∷ flips) none = ap (bit_xor a) none ∙ xor_zero_r a

-- Bytes.

-- each is below 256
abbrev pub AreBytes : List ℕ → Type 0
AreBytes bytes = (i : ℕ) → get_or bytes i 0 < 2 ^ 8

AreBytes-drop : (n : ℕ) (bytes : List ℕ) → AreBytes bytes → AreBytes (drop n bytes)
AreBytes-drop zero bytes small = small
AreBytes-drop (suc n) [] small = small
AreBytes-drop (suc n) (b ∷ bytes) small = AreBytes-drop n bytes (λ i. small (suc i))

byte_at-xor : (as_ bs : List ℕ) (k d : ℕ) → All (λ b. b < 2 ^ 8) as_ → AreBytes bs → k < length as_
    → get_or (xor_bytes as_ bs) k d < 2 ^ 8
byte_at-xor [] bs k d fit small within = absurd (omega arith)
byte_at-xor (a ∷ as_) [] k d fit small within = fit k d within
byte_at-xor (a ∷ as_) (b ∷ bs) zero d fit small within = xor_of_8 a b (fit 0 0 (omega arith)) (small 0)
byte_at-xor (a ∷ as_) (b ∷ bs) (suc k) d fit small within =
    byte_at-xor as_ bs k d (λ j e inside. fit (suc j) e (omega arith)) (λ i. small (suc i)) (omega arith)

-- bytes with flipped bits are bytes
pub All-xor_bytes : (as_ rest flips : List ℕ) → All (λ b. b < 2 ^ 8) rest → AreBytes flips
    → All (λ b. b < 2 ^ 8) (xor_bytes rest (drop (length as_) flips))
All-xor_bytes as_ rest flips fit small = λ k d within.
    byte_at-xor rest (drop (length as_) flips) k d fit (AreBytes-drop (length as_) flips small)
    (omega (arith, within, length-xor_bytes rest (drop (length as_) flips)))

-- Words.

-- The word of flipped bytes, behind other bytes than those before which they had the word 0, is that of the flips.
pub check_word-flipped : (start : ℕ) (before other bytes flips : List ℕ) → length before ≡ length other
    → length bytes ≡ length flips → check_word start (before ++ bytes) ≡ 0
    → check_word start (other ++ xor_bytes bytes flips) ≡ check_word 0 (xor_bytes before other ++ flips)
check_word-flipped start before other bytes flips same long zeros =
    ap (check_word start) shape
    ∙ ap (λ s. check_word s (xor_bytes (before ++ bytes) row)) (sym (xor_zero_r start))
    ∙ check_word-xor start 0 (before ++ bytes) row lengths
    ∙ ap (λ w. bit_xor w (check_word 0 row)) zeros
    ∙ xor_zero_l (check_word 0 row)
  where
    row : List ℕ
    row = xor_bytes before other ++ flips

    shape : other ++ xor_bytes bytes flips ≡ xor_bytes (before ++ bytes) row
    shape =
        ap (λ xs. xs ++ xor_bytes bytes flips) (sym (xor_bytes-twice before other same))
        ∙ sym (xor_bytes-append before (xor_bytes before other) bytes flips (sym (length-xor_bytes before other)))

    lengths : length (before ++ bytes) ≡ length row
    lengths = omega
        (arith, length-append before bytes, length-append (xor_bytes before other) flips, length-xor_bytes before other)

-- Bytes end with their word where the word of all is 0.
pub has_word-zero : (start : ℕ) (before bytes : List ℕ) → 3 ≤ length bytes
    → All (λ b. b < 2 ^ 8) (drop (length bytes - 3) bytes)
    → has_word start before bytes ≡ (check_word start (before ++ bytes) == 0)
has_word-zero start before bytes long fit =
    same_from_decides _ _ (bytes_eq-Decides tail (word_bytes start (before ++ body)))
    (λ told. back (eqb-true _ _ told), λ same. eq-eqb _ _ (there same))
  where
    body : List ℕ
    body = take (length bytes - 3) bytes

    tail : List ℕ
    tail = drop (length bytes - 3) bytes

    all : before ++ bytes ≡ (before ++ body) ++ tail
    all = ap (λ xs. before ++ xs) (sym (take-append-drop (length bytes - 3) bytes))
        ∙ sym (append_assoc before body tail)

    size : length tail ≡ 3
    size = omega (arith, length-drop (length bytes - 3) bytes)

    there : tail ≡ word_bytes start (before ++ body) → check_word start (before ++ bytes) ≡ 0
    there same =
        ap (check_word start) (all ∙ ap (λ xs. (before ++ body) ++ xs) same)
        ∙ own_word_gives_zero start (before ++ body)

    back : check_word start (before ++ bytes) ≡ 0 → tail ≡ word_bytes start (before ++ body)
    back zeros = own_word_by_zero start (before ++ body) tail size fit (ap (check_word start) (sym all) ∙ zeros)
