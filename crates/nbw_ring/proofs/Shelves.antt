-- The pairs that a reader got, as numbers and words that lie one pair after another.
use Rattle.std.proofs.Common.{◌≡◌, ℕ, zero, suc, ◌+◌, ◌-◌, ◌*◌, ◌<◌, ◌≤◌, List, [], ◌∷◌, ◌++◌, length, get_or, take}
use Rattle.std.proofs.Common.{drop, All, refl, sym, ap, ◌∙◌, subst, arith, Some, Option, IsSomeAnd, slice_get}
use Rattle.std.proofs.Common.{length-append, vec_len, vec_capacity, Vec, Global}
use Rattle.std.proofs.Math.Nat.{suc-mul}
use Rattle.std.proofs.lemmas.List.{append-nil, append_assoc, drop_more, take_rest, take_at, drop_at, map_push}
use Rattle.std.proofs.lemmas.List.{flat_map_more}
use Rattle.std.proofs.lemmas.List.Elements.{All-push}
use Rattle.nbw_ring.specs.declared.view.Message.{Message}
use Rattle.nbw_ring.specs.declared.view.Reading.{Reading}
use Rattle.nbw_ring.specs.declared.view.View.TheVariants.{Reader}
use Rattle.nbw_ring.specs.declared.reader.Reader.TheInside.{Inside}
use Rattle.nbw_ring.specs.Pairs.{pair_numbers, words_in, pairs_of}
use Rattle.nbw_ring.specs.Seats.{RingSeat, reading_of, ring_of}
use Rattle.nbw_ring.specs.Shelves.{IsShelved}

abbrev Wide : ℕ → List Message → Type 0
Wide width pairs = All (λ p. length p.words ≡ width) pairs

wide_head : (width : ℕ) (p : Message) (pairs : List Message) → Wide width (p ∷ pairs) → length p.words ≡ width
wide_head width p pairs wide = wide 0 p (omega arith)

wide_tail : (width : ℕ) (p : Message) (pairs : List Message) → Wide width (p ∷ pairs) → Wide width pairs
wide_tail width p pairs wide k d inside = wide (suc k) d (omega arith)

-- so many pairs have so many words
pub words_count : (width : ℕ) (pairs : List Message) → Wide width pairs
    → length (words_in pairs) ≡ length (pair_numbers pairs) * width
words_count width [] wide = omega arith
words_count width (p ∷ pairs) wide =
    let here = wide_head width p pairs wide in
    let rest = words_count width pairs (wide_tail width p pairs wide) in
    omega (arith, length-append p.words (words_in pairs), suc-mul (length (pair_numbers pairs)) width)

-- pairs are the pairs of their numbers and words
pub pairs_again : (width : ℕ) (pairs : List Message) → Wide width pairs
    → pairs_of (pair_numbers pairs) (words_in pairs) width ≡ pairs
pairs_again width [] wide = refl
pairs_again width (p ∷ pairs) wide =
    let here = wide_head width p pairs wide in
    let front : take width (p.words ++ words_in pairs) ≡ p.words = take_at p.words (words_in pairs) width here in
    let back : drop width (p.words ++ words_in pairs) ≡ words_in pairs = drop_at p.words (words_in pairs) width here in
    let rest : pairs_of (pair_numbers pairs) (drop width (p.words ++ words_in pairs)) width ≡ pairs =
    ap (λ ws. pairs_of (pair_numbers pairs) ws width) back ∙ pairs_again width pairs (wide_tail width p pairs wide) in
    λ i. record { number = p.number; words = front i } ∷ rest i

-- a pair alone takes all words
pub only_pair : (pairs : List Message) → length pairs ≤ 1
    → slice_get (pairs_of (pair_numbers pairs) (words_in pairs) (length (words_in pairs))) 0 ≡ slice_get pairs 0
only_pair [] few = refl
only_pair (p ∷ []) few =
    let long : length p.words ≡ length (p.words ++ []) = omega (arith, length-append p.words []) in
    let all : take (length (p.words ++ [])) (p.words ++ []) ≡ p.words =
    take_at p.words [] (length (p.words ++ [])) long in
    λ i. Some record { number = p.number; words = all i }
only_pair (p ∷ q ∷ pairs) few = absurd (omega arith)

drop_further : (xs ys : List ℕ) (n : ℕ) → drop (length xs + n) (xs ++ ys) ≡ drop n ys
drop_further [] ys n = ap (λ k. drop k ys) (omega arith)
drop_further (x ∷ xs) ys n =
    let e : length (x ∷ xs) + n ≡ suc (length xs + n) = omega arith in ap (λ k. drop k (x ∷ (xs ++ ys))) e
    ∙ drop_further xs ys n

-- the last words are those of the newest pair
pub newest_words : (width : ℕ) (pairs : List Message) → Wide width pairs → 0 < length pairs
    → (p : Message) × (slice_get pairs (length pairs - 1) ≡ Some p) × (width ≤ length (words_in pairs)) ×
    (drop (length (words_in pairs) - width) (words_in pairs) ≡ p.words)
newest_words width [] wide some_pair = absurd (omega arith)
newest_words width (p ∷ []) wide some_pair =
    let here = wide_head width p [] wide in
    let long = length-append p.words [] in
    let start : length (p.words ++ []) - width ≡ 0 = omega arith in
    (p, refl, omega arith, ap (λ k. drop k (p.words ++ [])) start ∙ append-nil p.words)
newest_words width (p ∷ q ∷ pairs) wide some_pair =
    let ws : List ℕ = words_in (q ∷ pairs) in
    let long = length-append p.words ws in
    let newest = newest_words width (q ∷ pairs) (wide_tail width p (q ∷ pairs) wide) (omega arith) in
    let inside : width ≤ length ws = newest.2 in
    let start : length (p.words ++ ws) - width ≡ length p.words + (length ws - width) = omega arith in
    let at : suc (suc (length pairs)) - 1 ≡ suc (suc (length pairs) - 1) = omega arith in (
      newest.0,
      ap (slice_get (p ∷ q ∷ pairs)) at ∙ newest.1,
      omega arith,
      ap (λ k. drop k (p.words ++ ws)) start
          ∙ (drop_further p.words ws (length ws - width) ∙ newest.3),
    )

-- one pair more on the shelf
one_less : (spare width : ℕ) → 1 ≤ spare → (spare - 1) * width + width ≡ spare * width
one_less zero width some_room = absurd (omega arith)
one_less (suc spare) width some_room =
    let e : suc spare - 1 ≡ spare = omega arith in ap (λ k. k * width + width) e ∙ omega (arith, suc-mul spare width)

module _ (r : Inside) (seat : RingSeat) (numbers words : Vec ℕ Global) where
  pub shelved_more : (y : Reading) (p : Message) → IsShelved r → 1 ≤ r.spare → seat.table_id ≡ r.seat.table_id
      → (reading_of r.seat.me.0).shape ≡ y.shape → y.got ≡ (reading_of r.seat.me.0).got ++ p ∷ []
      → seat.me ≡ (Reader y, []) → length p.words ≡ r.width → numbers.items ≡ r.numbers.items ++ p.number ∷ []
      → words.items ≡ r.words.items ++ p.words → vec_len numbers ≡ vec_len r.numbers + 1
      → vec_capacity numbers ≡ vec_capacity r.numbers → vec_len words ≡ vec_len r.words + r.width
      → vec_capacity words ≡ vec_capacity r.words
      → IsShelved record r { seat = seat; numbers = numbers; words = words; spare = r.spare - 1 }
  shelved_more y p shelved some_room table shape got is wide more_numbers more_words numbers_long numbers_room
      words_long words_room =
      let v : Reading = reading_of r.seat.me.0 in
      let known : reading_of seat.me.0 ≡ y = ap (λ m. reading_of m.0) is in
      let room = shelved.room in
      let word_room = shelved.word_room in
      let less = one_less r.spare r.width some_room in
      record {
        own = (λ i. ring_of (table i) ((ap (λ (z : Reading). z.shape) known ∙ sym shape) i)) ∙ shelved.own;
        seated = is ∙ (λ i. (Reader (sym known i), []));
        width = shelved.width ∙ (ap (λ s. s.width) shape ∙ ap (λ (z : Reading). z.shape.width) (sym known));
        wide = subst (λ (g : List Message). Wide r.width g) (sym got ∙ ap (λ (z : Reading). z.got) (sym known))
            (All-push (λ q. length q.words ≡ r.width) v.got p shelved.wide wide);
        numbers = more_numbers
            ∙ (ap (λ l. l ++ p.number ∷ []) shelved.numbers
            ∙ (sym (map_push (λ q. q.number) v.got p)
            ∙ ap pair_numbers (sym got ∙ ap (λ (z : Reading). z.got) (sym known))));
        words = more_words
            ∙ (ap (λ l. l ++ p.words) shelved.words
            ∙ (flat_map_more (λ q. q.words) [] v.got p
            ∙ ap words_in (sym got ∙ ap (λ (z : Reading). z.got) (sym known))));
        room = omega arith;
        word_room = omega arith;
      }

module _ (numbers words back : List ℕ) where
  -- one pair more of numbers and words
  pub pair_next : (i width n : ℕ) (front : List ℕ) (pairs pairs' total : List Message) → i < length numbers
      → pairs ++ pairs_of (drop i numbers) words width ≡ total → n ≡ get_or numbers i 0 → front ≡ take width words
      → back ≡ drop width words → pairs' ≡ pairs ++ record { number = n; words = front } ∷ []
      → pairs' ++ pairs_of (drop (i + 1) numbers) back width ≡ total
  pair_next i width n front pairs pairs' total inside so_far number first rest more =
      let p : Message = record { number = n; words = front } in
      let later : List Message = pairs_of (drop (i + 1) numbers) back width in
      let same : p ∷ later ≡ pairs_of (drop i numbers) words width =
      (λ k. record { number = number k; words = first k } ∷ pairs_of (drop (i + 1) numbers) (rest k) width)
      ∙ ap (λ ns. pairs_of ns words width) (sym (drop_more numbers i 0 inside)) in
      ap (λ ps. ps ++ later) more ∙ (append_assoc pairs (p ∷ []) later ∙ (ap (λ ps. pairs ++ ps) same ∙ so_far))

pub rest_shorter : (count i width rest : ℕ) → i < count → rest + width ≡ (count - i) * width
    → rest ≡ (count - (i + 1)) * width
rest_shorter count i width rest inside now =
    let e : count - i ≡ suc (count - (i + 1)) = omega arith in
    let now' : rest + width ≡ suc (count - (i + 1)) * width = now ∙ ap (λ k. k * width) e in
    omega (arith, suc-mul (count - (i + 1)) width)

pub room_for_one : (count i width rest : ℕ) → i < count → rest ≡ (count - i) * width → width ≤ rest
room_for_one count i width rest inside now =
    let e : count - i ≡ suc (count - (i + 1)) = omega arith in
    let now' : rest ≡ suc (count - (i + 1)) * width = now ∙ ap (λ k. k * width) e in
    omega (arith, suc-mul (count - (i + 1)) width)

-- the words that are cut off at the end are those of the newest pair
pub newest_slice : (width : ℕ) (got shown : List Message) (words : List ℕ) (count : ℕ) → Wide width got → shown ≡ got
    → 0 < length shown → words ≡ words_in got → count ≡ length words
    → IsSomeAnd (slice_get shown (length shown - 1))
    (λ pair. pair.words ≡ take (length words - (count - width)) (drop (count - width) words))
newest_slice width got shown words count wide same some_pair are counted =
    let some_got : 0 < length got = subst (λ (g : List Message). 0 < length g) same some_pair in
    let newest = newest_words width got wide some_got in
    let here : slice_get shown (length shown - 1) ≡ Some newest.0 =
    ap (λ (g : List Message). slice_get g (length g - 1)) same ∙ newest.1 in
    let cut : drop (count - width) words ≡ newest.0.words =
    ap (λ n. drop (n - width) words) counted ∙ (ap (λ ws. drop (length ws - width) ws) are ∙ newest.3) in
    subst (λ (o : Option Message). IsSomeAnd o
    (λ pair. pair.words ≡ take (length words - (count - width)) (drop (count - width) words))) (sym here)
    (sym (take_rest words (count - width) ∙ cut))
