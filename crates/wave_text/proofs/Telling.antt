-- The values of a node's variables tell its line.
use Rattle.wave_text.proofs.Words.{◌≡◌, ℕ, zero, suc, ◌+◌, ◌-◌, ◌*◌, ◌/◌, ◌%◌, ◌<◌, Bool, true, false, List, [], ◌∷◌}
use Rattle.wave_text.proofs.Words.{◌++◌, refl, sym, ap, ◌∙◌, Option, Some, None, arith, codes, nat_lt, decimal, ◌==◌}
use Rattle.wave_text.proofs.Words.{if◌then◌else◌, signed_decimal, list_any, set_bits, hex, ack_word, Word, word_text}
use Rattle.wave_text.proofs.Words.{Head, NodeShown, is_active_word, binary, binary_number, most_binary_digits}
use Rattle.wave_text.proofs.Words.{number_text, wires_text, number_or_nothing, unless_off, held_text, node_value}
use Rattle.std.proofs.Common.{◌^◌}
use Rattle.std.specs.Prelude.{fold, IfSome, unwrap_or}
use Rattle.std.proofs.lemmas.Bool.{ltb-true}
use Rattle.std.proofs.Math.Nat.{pow-suc}
use Rattle.std.proofs.lemmas.List.Folds.{list_any-append}
use Rattle.std.proofs.lemmas.List.Sums.{fold-append}
use Rattle.ttp_world.specs.Medl.{member_bytes}
use Rattle.ttp_world.specs.Trace.{number_or_dash, node_line_text}
use Rattle.line_reader.specs.declared.trace_line.Word.TheVariants as word
use Rattle.shown_slot.specs.Trace.{node_text}
use Rattle.wave_text.specs.declared.variable.NodeVariable.TheVariants as of_node
use Rattle.wave_text.specs.Telling.{is_letter, with_bit, number_shown, count_told, line_told, IsRightNode}

-- Digits.

no_letter : (d : ℕ) → d < 2 → list_any is_letter ((48 + d) ∷ []) ≡ false
no_letter zero small = refl
no_letter (suc zero) small = refl
no_letter (suc (suc d)) small = absurd (omega arith)

none_more : (x : List ℕ) (d : ℕ) → d < 2 → list_any is_letter x ≡ false
    → list_any is_letter (x ++ (48 + d) ∷ []) ≡ false
none_more x d small none = rw (list_any-append is_letter x ((48 + d) ∷ []), none) (no_letter d small)

one_more : (x : List ℕ) (v d : ℕ) → fold with_bit 0 x ≡ v → fold with_bit 0 (x ++ (48 + d) ∷ []) ≡ 2 * v + d
one_more x v d is =
    fold-append with_bit 0 x ((48 + d) ∷ []) ∙ ap (λ n. 2 * n + (48 + d - 48)) is ∙ omega arith

-- the digits of a number, and of one that needs at most so many
pub binary-none : (digits v : ℕ) → list_any is_letter (binary digits v) ≡ false
unfolding binary
binary-none zero v = refl
binary-none (suc digits) v = none_more (binary digits (v / 2)) (v % 2) (omega arith) (binary-none digits (v / 2))

half_fits : (digits v : ℕ) → v < 2 ^ suc digits → v / 2 < 2 ^ digits
half_fits digits v fits =
    let twice : v < 2 ^ digits * 2 = rw (← pow-suc 2 digits) fits in
    omega arith

pub binary-again : (digits v : ℕ) → v < 2 ^ digits → fold with_bit 0 (binary digits v) ≡ v
unfolding binary
binary-again zero v fits = sym (omega arith)
binary-again (suc digits) v fits =
    one_more (binary digits (v / 2)) (v / 2) (v % 2) (binary-again digits (v / 2) (half_fits digits v fits))
    ∙ omega arith

number_digits-none : (most v : ℕ) → list_any is_letter (binary_number most v) ≡ false
unfolding binary_number
number_digits-none zero v = refl
number_digits-none (suc most) v = go (nat_lt v 2) refl (number_digits-none most (v / 2))
  where
    go : (small : Bool) → nat_lt v 2 ≡ small → list_any is_letter (binary_number most (v / 2)) ≡ false
        → list_any is_letter (if small then (48 + v)
        ∷ [] else (binary_number most (v / 2) ++ (48 + v % 2) ∷ [])) ≡ false
    go true is none = no_letter v (ltb-true v 2 is)
    go false is none = none_more (binary_number most (v / 2)) (v % 2) (omega arith) none

one_digit : (v : ℕ) → v < 2 → fold with_bit 0 ((48 + v) ∷ []) ≡ v
one_digit zero small = refl
one_digit (suc zero) small = refl
one_digit (suc (suc v)) small = absurd (omega arith)

number_digits-again : (most v : ℕ) → v < 2 ^ most → fold with_bit 0 (binary_number most v) ≡ v
unfolding binary_number
number_digits-again zero v fits = sym (omega arith)
number_digits-again (suc most) v fits =
    go (nat_lt v 2) refl (number_digits-again most (v / 2) (half_fits most v fits))
  where
    go : (small : Bool) → nat_lt v 2 ≡ small → fold with_bit 0 (binary_number most (v / 2)) ≡ v / 2
        → fold with_bit 0 (if small then (48 + v) ∷ [] else (binary_number most (v / 2) ++ (48 + v % 2) ∷ [])) ≡ v
    go true is half = one_digit v (ltb-true v 2 is)
    go false is half = one_more (binary_number most (v / 2)) (v / 2) (v % 2) half ∙ omega arith

-- Numbers.

told : (digits : List ℕ) (v : ℕ) → list_any is_letter digits ≡ false → fold with_bit 0 digits ≡ v
    → number_shown (98 ∷ digits) ≡ Some v
told digits v none is = rw none (ap (λ n. Some n) is)

number-again : (v : ℕ) → v < 2 ^ 64 → number_shown (number_text v) ≡ Some v
number-again v fits =
    told (binary_number most_binary_digits v) v (number_digits-none most_binary_digits v)
    (number_digits-again most_binary_digits v fits)

wires-again : (width v : ℕ) → v < 2 ^ width → number_shown (wires_text width v) ≡ Some v
wires-again width v fits = told (binary width v) v (binary-none width v) (binary-again width v fits)

or_nothing-again : (number : Option ℕ) → IfSome number (λ n. n < 2 ^ 64)
    → number_shown (number_or_nothing number) ≡ number
or_nothing-again None fits = refl
or_nothing-again (Some v) fits = number-again v fits

-- Values.

pub unless_off-told : (w : Word) (number : Option ℕ) → (w ≡ word.Off → number ≡ None) → IfSome number (λ n. n < 2 ^ 64)
    → number_shown (unless_off w (number_or_nothing number)) ≡ number
unless_off-told word.Off number off fits = sym (off refl)
unless_off-told w number off fits = or_nothing-again number fits

-- a value that tells this number where it is shown
pub held-told : (w : Word) (text : List ℕ) (v : ℕ) → (is_active_word w ≡ false → v ≡ 0) → number_shown text ≡ Some v
    → count_told (held_text w text) ≡ v
held-told word.Off text v none is = sym (none refl)
held-told word.Wait text v none is = sym (none refl)
held-told word.Retry text v none is = sym (none refl)
held-told word.Gone text v none is = sym (none refl)
held-told word.Denied text v none is = sym (none refl)
held-told word.Unacknowledged text v none is = sym (none refl)
held-told word.Clique text v none is = sym (none refl)
held-told w text v none is = ap (λ n. unwrap_or n 0) is

pub held_number-told : (w : Word) (v : ℕ) → (is_active_word w ≡ false → v ≡ 0) → v < 2 ^ 64
    → count_told (held_text w (number_text v)) ≡ v
held_number-told w v none fits = held-told w (number_text v) v none (number-again v fits)

pub held_wires-told : (w : Word) (width v : ℕ) → (is_active_word w ≡ false → v ≡ 0) → v < 2 ^ width
    → count_told (held_text w (wires_text width v)) ≡ v
held_wires-told w width v none fits = held-told w (wires_text width v) v none (wires-again width v fits)

-- Lines.

-- a line by its parts, where the members are these bits, in so many digits
abbrev line_of : ℕ → ℕ → ℕ → NodeShown → Option ℕ → Option ℕ → ℕ → ℕ → ℕ → List ℕ
line_of digits t k node peer message bits accepted rejected =
    node_line_text (decimal t) (decimal k) (word_text node.word) (number_or_dash peer) (number_or_dash message)
    (hex digits bits) (decimal accepted) (decimal rejected) (ack_word node.ack) (signed_decimal node.offset)

told_parts : (width digits t k : ℕ) (node : NodeShown) → IsRightNode width node
    → line_of digits t k node (number_shown (node_value width of_node.Peer node))
    (number_shown (node_value width of_node.Message node)) (count_told (node_value width of_node.Members node))
    (count_told (node_value width of_node.Accepted node)) (count_told (node_value width of_node.Rejected node))
    ≡ line_of digits t k node node.peer node.message (set_bits node.members) node.accepted node.rejected
told_parts width digits t k node is =
    λ i. line_of digits t k node (unless_off-told node.word node.peer is.peer is.fits_peer i)
    (unless_off-told node.word node.message is.message is.fits_message i)
    (held_wires-told node.word width (set_bits node.members) is.members is.fits_members i)
    (held_number-told node.word node.accepted is.accepted is.fits_accepted i)
    (held_number-told node.word node.rejected is.rejected is.fits_rejected i)

pub told_narrow : (head : Head) (t k : ℕ) (node : NodeShown) → head.version ≡ 1 → IsRightNode 16 node
    → line_told 4 t k (node_value 16 of_node.Word node) (node_value 16 of_node.Peer node)
    (node_value 16 of_node.Message node) (node_value 16 of_node.Members node) (node_value 16 of_node.Accepted node)
    (node_value 16 of_node.Rejected node) (node_value 16 of_node.Ack node) (node_value 16 of_node.Clock node)
    ≡ node_text head t k node
told_narrow head t k node narrow is =
    told_parts 16 4 t k node is
    ∙ (λ i. line_of (2 * member_bytes (sym narrow i == 2)) t k node node.peer node.message (set_bits node.members)
    node.accepted node.rejected)

pub told_wide : (head : Head) (t k : ℕ) (node : NodeShown) → head.version ≡ 2 → IsRightNode 24 node
    → line_told 6 t k (node_value 24 of_node.Word node) (node_value 24 of_node.Peer node)
    (node_value 24 of_node.Message node) (node_value 24 of_node.Members node) (node_value 24 of_node.Accepted node)
    (node_value 24 of_node.Rejected node) (node_value 24 of_node.Ack node) (node_value 24 of_node.Clock node)
    ≡ node_text head t k node
told_wide head t k node wide is =
    told_parts 24 6 t k node is
    ∙ (λ i. line_of (2 * member_bytes (sym wide i == 2)) t k node node.peer node.message (set_bits node.members)
    node.accepted node.rejected)
