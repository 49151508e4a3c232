-- Where the words of messages lie, and lists of messages.
use Rattle.std.proofs.Common.{◌≡◌, ℕ, suc, ◌+◌, ◌*◌, ◌/◌, ◌%◌, ◌<◌, ◌≤◌, ◌≢◌, ◌⊎◌, Bool, true, false, List, [], ◌∷◌}
use Rattle.std.proofs.Common.{◌++◌, length, get_or, take, refl, sym, ap, ◌∙◌, ⊎_elim, Some, arith, length-append}
use Rattle.std.proofs.Math.Nat.{mul-le-mul_right, suc-mul, mod-lt}
use Rattle.std.proofs.Math.ListN.{get_or-append}
use Rattle.std.proofs.lemmas.Bool.{cases_order}
use Rattle.std.proofs.lemmas.List.{take_all, take_more, get_or_push}
use Rattle.std.proofs.lemmas.Option.{slice_get-get_or, slice_get_within, get_or_from_slice_get}
use Rattle.atomic_table.proofs.Lists.{one_turn}
use Rattle.nbw_ring.specs.declared.view.Shape.{Shape}
use Rattle.nbw_ring.specs.declared.view.Message.{Message}
use Rattle.nbw_ring.specs.Numbers.{place, message_at, IsMessageOf, odd_part}

pub odd_part_small : (b : Bool) → odd_part b ≤ 1
odd_part_small true = omega arith
odd_part_small false = omega arith

-- a later row lies past an earlier one
row_further : (r q width : ℕ) → r < q → r * width + width ≤ q * width
row_further r q width h = let a : suc r * width ≤ q * width = mul-le-mul_right width h in omega (arith, suc-mul r width)

pub place_inside : (shape : Shape) (number k : ℕ) → 0 < shape.buffers → k < shape.width
    → place shape number k < 1 + shape.buffers * shape.width
place_inside shape number k some_buffer inside =
    let r : number % shape.buffers < shape.buffers = mod-lt number some_buffer in
    let f = row_further (number % shape.buffers) shape.buffers shape.width r in
    omega arith

-- words of two buffers lie apart
rows_apart : (r q width k j : ℕ) → r ≢ q → k < width → j < width → 1 + (r * width + k) ≢ 1 + (q * width + j)
rows_apart r q width k j apart inside within same = ⊎_elim
    (λ (e : r ≡ q). apart e)
    (λ (o : (r < q) ⊎ (q < r)). ⊎_elim
    (λ (h : r < q). let f = row_further r q width h in absurd (omega arith))
    (λ (h : q < r). let f = row_further q r width h in absurd (omega arith)) o)
    (cases_order r q)

-- a number in [n + 1 - B, n] has another buffer than n + 1
pub places_apart : (shape : Shape) (i n k j : ℕ) → i < n → n < i + shape.buffers → k < shape.width → j < shape.width
    → place shape i k ≢ place shape n j
places_apart shape i n k j less near inside within =
    rows_apart (i % shape.buffers) (n % shape.buffers) shape.width k j
    (λ same. let is : i ≡ n = one_turn i n shape.buffers (omega arith) near same in omega arith) inside within

-- two words of one buffer lie apart
pub words_apart : (shape : Shape) (n k j : ℕ) → k ≢ j → place shape n k ≢ place shape n j
words_apart shape n k j apart same =
    let r : ℕ = (n % shape.buffers) * shape.width in let e : 1 + (r + k) ≡ 1 + (r + j) = same in apart (omega arith)

module _ (messages : List (List ℕ)) (m : List ℕ) where
  pub message-before : (i : ℕ) → i < length messages → message_at (messages ++ m ∷ []) i ≡ message_at messages i
  message-before i inside = get_or-append messages (m ∷ []) [] i inside

  pub message-newest : message_at (messages ++ m ∷ []) (length messages) ≡ m
  message-newest = get_or_push messages m [] (length messages) refl

  pub still_message : (p : Message) → IsMessageOf messages p → IsMessageOf (messages ++ m ∷ []) p
  still_message p is =
      let inside : p.number < length messages = slice_get_within messages p.number p.words is in
      let longer : p.number < length (messages ++ m ∷ []) = omega (arith, length-append messages (m ∷ [])) in
      slice_get-get_or (messages ++ m ∷ []) p.number [] longer
      ∙ ap Some (message-before p.number inside ∙ get_or_from_slice_get messages p.number p.words [] is)

-- the first words of a message and its next word are its first words
pub attempt_more : (words m : List ℕ) (x : ℕ) → words ≡ take (length words) m → length words < length m
    → x ≡ get_or m (length words) 0
    → words ++ x ∷ [] ≡ take (length (words ++ x ∷ [])) m
attempt_more words m x so_far inside next =
    let n : ℕ = length words in
    let longer : length (words ++ x ∷ []) ≡ n + 1 = omega (arith, length-append words (x ∷ [])) in
    ap (λ l. l ++ x ∷ []) so_far
    ∙ (ap (λ y. take n m ++ y ∷ []) next ∙ (sym (take_more m n 0 inside) ∙ ap (λ k. take k m) (sym longer)))

-- an attempt that has as many words as its message is the message
pub attempt_whole : (words m : List ℕ) → words ≡ take (length words) m → length words ≡ length m → words ≡ m
attempt_whole words m so_far long = so_far ∙ take_all (length words) m (omega arith)

-- the words of a counter's half make a number below the number of messages
pub half_inside : (count counter x : ℕ) (b : Bool) → counter + 2 ≡ 2 * count + odd_part b → x ≤ counter → x / 2 < count
half_inside count counter x b counted small = let o = odd_part_small b in omega arith
