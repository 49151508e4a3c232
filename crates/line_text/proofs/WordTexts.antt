-- The digits of words and of their bytes, one word after another.
use Rattle.std.proofs.Common.{◌≡◌, ℕ, zero, suc, ◌+◌, ◌-◌, ◌*◌, ◌<◌, ◌≤◌, List, [], ◌∷◌, ◌++◌, length, get_or, take}
use Rattle.std.proofs.Common.{refl, sym, ap, ◌∙◌, arith, inl, inr, length-append, min}
use Rattle.std.specs.Int.{w64, to_be_bytes}
use Rattle.std.specs.List.{flat_map}
use Rattle.std.proofs.lemmas.Bool.{cases_lt}
use Rattle.std.proofs.lemmas.List.{append_assoc, append-nil, length-take, take_all, take_more}
use Rattle.std.proofs.lemmas.List.Concat.{flat_map-append}
use Rattle.ttp_base.specs.Text.{byte_hex, hex_bytes}
use Rattle.ttp_world.specs.Trace.{word_hex}
use Rattle.line_text.specs.HostLines.{bytes_in}
use Rattle.ttp_base.proofs.Hex.{length-hex_bytes}
use Rattle.ttp_world.proofs.ListFacts.{length-word_hexes}

flat_map-next : {A : Type 0} (f : ℕ → List A) (words : List ℕ) (i : ℕ) → i < length words
    → flat_map f (take (i + 1) words) ≡ flat_map f (take i words) ++ f (get_or words i 0)
flat_map-next f words i within =
    ap (flat_map f) (take_more words i 0 within) ∙ flat_map-append f (take i words) (get_or words i 0 ∷ [])
    ∙ ap (λ (t : List _). flat_map f (take i words) ++ t) (append-nil (f (get_or words i 0)))

-- The first bytes of words.

take-append : (n : ℕ) (xs ys : List ℕ) → take n (xs ++ ys) ≡ take n xs ++ take (n - length xs) ys
take-append zero [] ys = refl
take-append (suc n) [] ys = let e : suc n - 0 ≡ suc n = omega arith in rw e refl
take-append zero (x ∷ xs) ys = let e : 0 - suc (length xs) ≡ 0 = omega arith in rw e refl
take-append (suc n) (x ∷ xs) ys =
    let e : suc n - suc (length xs) ≡ n - length xs = omega arith in
    rw e (ap (λ (l : List ℕ). x ∷ l) (take-append n xs ys))

length-bytes : (words : List ℕ) → length (flat_map (to_be_bytes w64) words) ≡ 8 * length words
length-bytes [] = refl
length-bytes (word ∷ words) = omega (arith, length-bytes words)

bytes_in-next : (size : ℕ) (words : List ℕ) (i : ℕ) → i < length words
    → bytes_in size (take (i + 1) words)
    ≡ bytes_in size (take i words) ++ take (size - 8 * i) (to_be_bytes w64 (get_or words i 0))
bytes_in-next size words i within =
    let before = flat_map (to_be_bytes w64) (take i words) in
    let count : length before ≡ 8 * i = omega (arith, length-bytes (take i words), length-take i words) in
    ap (take size) (flat_map-next (to_be_bytes w64) words i within)
    ∙ take-append size before (to_be_bytes w64 (get_or words i 0))
    ∙ ap (λ (n : ℕ). take size before ++ take (size - n) (to_be_bytes w64 (get_or words i 0))) count

-- Room.

length_so_far : (line start words : List ℕ) (i : ℕ) → line ≡ start ++ flat_map word_hex (take i words)
    → length line ≡ length start + 16 * min i (length words)
length_so_far line start words i text =
    omega (
      arith,
      ap length text,
      length-append start (flat_map word_hex (take i words)),
      length-word_hexes (take i words),
      length-take i words,
    )

pub room_for_word : (line start words : List ℕ) (i : ℕ) → line ≡ start ++ flat_map word_hex (take i words)
    → i < length words → length start + 16 * length words ≤ 640 → length line + 16 ≤ 640
room_for_word line start words i text within room = omega (arith, length_so_far line start words i text)

pub words_are_short : (line start words : List ℕ) (i : ℕ) → line ≡ start ++ flat_map word_hex (take i words)
    → length line ≤ length start + 16 * length words
words_are_short line start words i text = omega (arith, length_so_far line start words i text)

pub room_for_bytes : (line start words piece : List ℕ) (size i count : ℕ)
    → line ≡ start ++ hex_bytes (bytes_in size (take i words)) → i < length words → count ≡ min (size - 8 * i) 8
    → length start + 2 * size ≤ 640 → length line + 2 * length (take count piece) ≤ 640
room_for_bytes line start words piece size i count text within taken room =
    let before = flat_map (to_be_bytes w64) (take i words) in
    omega (
      arith,
      ap length text,
      length-append start (hex_bytes (bytes_in size (take i words))),
      length-hex_bytes (bytes_in size (take i words)),
      length-take size before,
      length-bytes (take i words),
      length-take i words,
      length-take count piece,
      taken,
    )

hex_bytes-append : (xs ys : List ℕ) → hex_bytes (xs ++ ys) ≡ hex_bytes xs ++ hex_bytes ys
hex_bytes-append xs ys = flat_map-append byte_hex xs ys

take_eight : (m : ℕ) (bytes : List ℕ) → length bytes ≡ 8 → take (min m 8) bytes ≡ take m bytes
take_eight m bytes eight =
    elim (cases_lt m 8) [
      | inl less ↦ (let e : min m 8 ≡ m = omega (arith, less) in rw e refl)
      | inr more ↦ (let e : min m 8 ≡ 8 = omega (arith, more) in
          rw e (take_all 8 bytes (omega (arith, eight)) ∙ sym (take_all m bytes (omega (arith, more, eight)))))
    ]

-- one word more
pub put_bytes-next : (line new start words : List ℕ) (size i left count : ℕ)
    → line ≡ start ++ hex_bytes (bytes_in size (take i words)) → i < length words → left ≡ size - 8 * i
    → count ≡ min left 8 → new ≡ line ++ hex_bytes (take count (to_be_bytes w64 (get_or words i 0)))
    → (new ≡ start ++ hex_bytes (bytes_in size (take (i + 1) words))) × (left - count ≡ size - 8 * (i + 1))
put_bytes-next line new start words size i left count text within rest taken added =
    let before = bytes_in size (take i words) in
    let word = to_be_bytes w64 (get_or words i 0) in
    let piece : take count word ≡ take (size - 8 * i) word =
    ap (λ (n : ℕ). take n word) taken ∙ take_eight left word refl ∙ ap (λ (n : ℕ). take n word) rest in (
      added ∙ ap (λ (l : List ℕ). l ++ hex_bytes (take count word)) text
          ∙ append_assoc start (hex_bytes before) (hex_bytes (take count word))
          ∙ ap (λ (l : List ℕ). start ++ l) (sym (hex_bytes-append before (take count word))
          ∙ ap (λ (p : List ℕ). hex_bytes (before ++ p)) piece
          ∙ ap hex_bytes (sym (bytes_in-next size words i within))),
      omega (arith, rest, taken),
    )

pub length-bytes_in : (size : ℕ) (words : List ℕ) → length (bytes_in size words) ≤ size
length-bytes_in size words = omega (arith, length-take size (flat_map (to_be_bytes w64) words))

pub ruleset lengths = (length-append, length-word_hexes, length-hex_bytes, length-bytes_in)
