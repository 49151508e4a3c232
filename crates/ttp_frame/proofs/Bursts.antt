-- What shows that bytes differ only in a short run of bits.
use Rattle.std.proofs.Common.{◌≡◌, ◌≢◌, ℕ, zero, suc, ◌+◌, ◌*◌, ◌<◌, ◌≤◌, ◌^◌, Bool, List, [], ◌∷◌, ◌++◌, length, take}
use Rattle.std.proofs.Common.{drop, refl, ap, sym, ◌∙◌, arith, append_assoc, length-append}
use Rattle.std.proofs.Math.Nat.{mod-eq_of_lt}
use Rattle.std.proofs.Math.ListN.{drop_of_length-le}
use Rattle.std.proofs.Math.Seq.{take-append-add, drop-append-add}
use Rattle.std.proofs.lemmas.List.{append_cancel_left, append_cancel_right}
use Rattle.ttp_world.specs.CheckWord.{bits_of_bytes, number_of, check_word}
use Rattle.ttp_world.specs.Frame.{big_endian, word_bytes}
use Rattle.ttp_frame.specs.Bytes.{DifferWithin}
use Rattle.ttp_frame.proofs.Numbers.{number_of-bits_of}
use Rattle.ttp_frame.proofs.Words.{length-bits_of_bytes, length-big_endian, bits_of_bytes-append}
use Rattle.ttp_frame.proofs.Words.{bits_of_bytes-big_endian}
use Rattle.ttp_frame.proofs.WordLaws.{own_word_gives_zero, bursts_change_the_word}

-- rows that agree in their first bits do with anything behind them
take-append_alike : (n : ℕ) (xs ys more : List Bool) → length xs ≡ length ys → take n xs ≡ take n ys
    → take n (xs ++ more) ≡ take n (ys ++ more)
take-append_alike zero xs ys more same alike = refl
take-append_alike (suc n) [] [] more same alike = refl
take-append_alike (suc n) [] (y ∷ ys) more same alike = absurd (omega arith)
take-append_alike (suc n) (x ∷ xs) [] more same alike = absurd (omega arith)
take-append_alike (suc n) (x ∷ xs) (y ∷ ys) more same alike =
    let first : x ≡ y = cc in
    let others : take n xs ≡ take n ys = cc in
    let rest : take n (xs ++ more) ≡ take n (ys ++ more) = take-append_alike n xs ys more (omega arith) others in
    cc

drop-append_alike : (n : ℕ) (xs ys more : List Bool) → length xs ≡ length ys → drop n xs ≡ drop n ys
    → drop n (xs ++ more) ≡ drop n (ys ++ more)
drop-append_alike zero xs ys more same alike = ap (λ zs. zs ++ more) alike
drop-append_alike (suc n) [] [] more same alike = refl
drop-append_alike (suc n) [] (y ∷ ys) more same alike = absurd (omega arith)
drop-append_alike (suc n) (x ∷ xs) [] more same alike = absurd (omega arith)
drop-append_alike (suc n) (x ∷ xs) (y ∷ ys) more same alike = drop-append_alike n xs ys more (omega arith) alike

-- Lists that differ within some bits do so behind the same bytes.
pub DifferWithin-behind : (width : ℕ) (front one other : List ℕ) → DifferWithin width one other
    → DifferWithin width (front ++ one) (front ++ other)
DifferWithin-behind width front one other apart = record {
  same_length = omega (arith, apart.same_length, length-append front one, length-append front other);
  differ = λ same. apart.differ
      (append_cancel_left f (bits_of_bytes one) (bits_of_bytes other) (sym (shape one) ∙ same ∙ shape other));
  from = length f + apart.from;
  before = first one ∙ ap (λ xs. f ++ xs) apart.before ∙ sym (first other);
  after = tail one ∙ apart.after ∙ sym (tail other);
}
  where
    f : List Bool
    f = bits_of_bytes front

    shape : (bytes : List ℕ) → bits_of_bytes (front ++ bytes) ≡ f ++ bits_of_bytes bytes
    shape bytes = bits_of_bytes-append front bytes

    first : (bytes : List ℕ)
        → take (length f + apart.from) (bits_of_bytes (front ++ bytes)) ≡ f ++ take apart.from (bits_of_bytes bytes)
    first bytes = ap (take (length f + apart.from)) (shape bytes) ∙ take-append-add f (bits_of_bytes bytes) apart.from

    tail : (bytes : List ℕ)
        → drop (length f + apart.from + width) (bits_of_bytes (front ++ bytes))
        ≡ drop (apart.from + width) (bits_of_bytes bytes)
    tail bytes =
        let places : length f + apart.from + width ≡ length f + (apart.from + width) = omega arith in
        ap (drop (length f + apart.from + width)) (shape bytes) ∙ ap (λ n. drop n (f ++ bits_of_bytes bytes)) places
        ∙ drop-append-add f (bits_of_bytes bytes) (apart.from + width)

-- Lists that differ within some bits do so before the same bytes.
pub DifferWithin-before : (width : ℕ) (one other back : List ℕ) → DifferWithin width one other
    → DifferWithin width (one ++ back) (other ++ back)
DifferWithin-before width one other back apart = record {
  same_length = omega (arith, apart.same_length, length-append one back, length-append other back);
  differ = λ same. apart.differ (append_cancel_right a b z (sym (shape one) ∙ same ∙ shape other));
  from = apart.from;
  before = ap (take apart.from) (shape one) ∙ take-append_alike apart.from a b z lengths apart.before
      ∙ sym (ap (take apart.from) (shape other));
  after = ap (drop (apart.from + width)) (shape one) ∙ drop-append_alike (apart.from + width) a b z lengths apart.after
      ∙ sym (ap (drop (apart.from + width)) (shape other));
}
  where
    a : List Bool
    a = bits_of_bytes one

    b : List Bool
    b = bits_of_bytes other

    z : List Bool
    z = bits_of_bytes back

    shape : (bytes : List ℕ) → bits_of_bytes (bytes ++ back) ≡ bits_of_bytes bytes ++ z
    shape bytes = bits_of_bytes-append bytes back

    lengths : length a ≡ length b
    lengths = omega (arith, apart.same_length, length-bits_of_bytes one, length-bits_of_bytes other)

-- Two numbers in so many bytes differ within these bytes' bits.
pub DifferWithin-big_endian : (width count v w : ℕ) → 8 * count ≤ width → v < 2 ^ (8 * count) → w < 2 ^ (8 * count)
    → v ≢ w → DifferWithin width (big_endian count v) (big_endian count w)
DifferWithin-big_endian width count v w short fits fits_too other = record {
  same_length = length-big_endian count v ∙ sym (length-big_endian count w);
  differ = λ same. other (number v fits ∙ ap number_of same ∙ sym (number w fits_too));
  from = 0;
  before = refl;
  after = none v ∙ sym (none w);
}
  where
    number : (n : ℕ) → n < 2 ^ (8 * count) → n ≡ number_of (bits_of_bytes (big_endian count n))
    number n small =
        sym (ap number_of (bits_of_bytes-big_endian count n) ∙ number_of-bits_of (8 * count) n ∙ mod-eq_of_lt small)

    none : (n : ℕ) → drop (0 + width) (bits_of_bytes (big_endian count n)) ≡ []
    none n =
        drop_of_length-le (bits_of_bytes (big_endian count n))
        (omega (arith, length-bits_of_bytes (big_endian count n), length-big_endian count n))

-- Another number in up to three bytes, in its place among the same bytes, changes the word.
pub numbers_change_the_word : (start count v w : ℕ) (front back : List ℕ) → count ≤ 3 → v < 2 ^ (8 * count)
    → w < 2 ^ (8 * count) → v ≢ w
    → check_word start (front ++ (big_endian count v ++ back)) ≢ check_word start
    (front ++ (big_endian count w ++ back))
numbers_change_the_word start count v w front back short fits fits_too other =
    let one : List ℕ = big_endian count v ++ back in
    let another : List ℕ = big_endian count w ++ back in
    let apart : DifferWithin 24 one another =
    DifferWithin-before 24 (big_endian count v) (big_endian count w) back
    (DifferWithin-big_endian 24 count v w (omega arith) fits fits_too other) in
    bursts_change_the_word start (front ++ one) (front ++ another) (DifferWithin-behind 24 front one another apart)

-- Lists that end with their own words, be these over the same bytes before them too, never differ within 24 bits alone.
pub own_words_are_apart : (start : ℕ) (before one other : List ℕ)
    → DifferWithin 24 (one ++ word_bytes start (before ++ one)) (other ++ word_bytes start (before ++ other)) → ⊥
own_words_are_apart start before one other apart =
    bursts_change_the_word start (before ++ ended one) (before ++ ended other)
    (DifferWithin-behind 24 before (ended one) (ended other) apart) (zero_of one ∙ sym (zero_of other))
  where
    ended : List ℕ → List ℕ
    ended bytes = bytes ++ word_bytes start (before ++ bytes)

    zero_of : (bytes : List ℕ) → check_word start (before ++ ended bytes) ≡ 0
    zero_of bytes =
        ap (check_word start) (sym (append_assoc before bytes (word_bytes start (before ++ bytes))))
        ∙ own_word_gives_zero start (before ++ bytes)
