-- How long the words of lines are.
use Rattle.std.proofs.Common.{ℕ, zero, suc, ◌+◌, ◌*◌, ◌/◌, ◌%◌, ◌^◌, ◌<◌, ◌≤◌, Bool, true, false, cond, ℤ, pos, negsuc}
use Rattle.std.proofs.Common.{List, [], ◌∷◌, length, Option, Some, None, IfSome, arith, refl, ◌≡◌}
use Rattle.std.specs.Fmt.{digit_glyph, digits_onto, digits, decimal, signed_decimal}
use Rattle.std.specs.Prelude.{◌==◌, unsigned_abs}
use Rattle.std.proofs.lemmas.Fmt.{length-decimal-le, length_signed_le}
use Rattle.ttp_base.specs.Text.{hex}
use Rattle.ttp_base.proofs.Room.{length-hex}
use Rattle.ttp_world.specs.declared.medl.Medl.{Medl}
use Rattle.ttp_world.specs.declared.node.Ack.{Ack}
use Rattle.ttp_world.specs.declared.node.Ack.TheVariants as ack
use Rattle.ttp_world.specs.declared.node.Entry.{Entry}
use Rattle.ttp_world.specs.declared.node.Entry.TheVariants as entry
use Rattle.ttp_world.specs.declared.node.Reason.{Reason}
use Rattle.ttp_world.specs.declared.node.Reason.TheVariants as reason
use Rattle.ttp_world.specs.declared.node.Verdict.{Verdict}
use Rattle.ttp_world.specs.declared.node.Verdict.TheVariants as verdict
use Rattle.ttp_world.specs.Medl.{is_wide, member_bytes}
use Rattle.ttp_world.specs.Trace.{number_or_dash, verdict_word, reason_word, entry_word, ack_word, member_digits}

-- Numbers.

length-digits_onto : (k n : ℕ) (text : List ℕ) → length (digits_onto k 10 false n text) ≤ k + length text
length-digits_onto zero n text = omega arith
length-digits_onto (suc k) n text =
    let more = digit_glyph false (n % 10) ∷ text in
    let go : (last : Bool) → length (cond last more (digits_onto k 10 false (n / 10) more)) ≤ suc k + length text =
    elim [ true ↦ omega arith | false ↦ omega (arith, length-digits_onto k (n / 10) more) ] in
    go (n / 10 == 0)

-- whichever number it is
pub decimal-any : (n : ℕ) → length (decimal n) ≤ 64
unfolding digits
decimal-any n = length-digits_onto 64 n []

pub decimal-byte : (n : ℕ) → n < 256 → length (decimal n) ≤ 3
decimal-byte n small = length-decimal-le 3 n (omega arith) (omega arith) (omega arith)

pub decimal-five : (n : ℕ) → n < 100000 → length (decimal n) ≤ 5
decimal-five n small = length-decimal-le 5 n (omega arith) (omega arith) (omega arith)

pub decimal-six : (n : ℕ) → n < 1000000 → length (decimal n) ≤ 6
decimal-six n small = length-decimal-le 6 n (omega arith) (omega arith) (omega arith)

-- a number of less than 17 digits, with its sign
pub signed-small : (z : ℤ) → unsigned_abs z < 10 ^ 16 → length (signed_decimal z) ≤ 18
signed-small (pos n) small = length_signed_le 17 (pos n) (omega arith) (omega arith)
signed-small (negsuc n) small = length_signed_le 17 (negsuc n) (omega arith) (omega arith)

pub dash-byte : (number : Option ℕ) → IfSome number (λ n. n < 256) → length (number_or_dash number) ≤ 3
dash-byte None small = omega arith
dash-byte (Some n) small = decimal-byte n small

pub dash-six : (number : Option ℕ) → IfSome number (λ n. n < 1000000) → length (number_or_dash number) ≤ 6
dash-six None small = omega arith
dash-six (Some n) small = decimal-six n small

-- Words.

verdict_word-short : (v : Verdict) → length (verdict_word v) ≤ 14
verdict_word-short verdict.Null = omega arith
verdict_word-short _ = omega arith

reason_word-short : (why : Reason) → length (reason_word why) ≤ 14
reason_word-short reason.Denied = omega arith
reason_word-short _ = omega arith

pub entry_word-short : (e : Entry) → length (entry_word e) ≤ 14
entry_word-short (entry.Judged sender v deviation) = verdict_word-short v
entry_word-short (entry.Left why peer) = reason_word-short why
entry_word-short _ = omega arith

pub ack_word-short : (a : Ack) → ((x : ℕ) → a ≡ ack.Doubt x → x < 256) → length (ack_word a) ≤ 9
ack_word-short ack.Closed small = omega arith
ack_word-short ack.First small = omega arith
ack_word-short (ack.Doubt x) small = omega (arith, decimal-byte x (small x refl))

-- Members.

digits_of_bytes : (wide : Bool) → 2 * member_bytes wide ≤ 6
digits_of_bytes true = omega arith
digits_of_bytes false = omega arith

pub members-short : (list : Medl) (bits : ℕ) → length (hex (member_digits list) bits) ≤ 6
members-short list bits = omega (arith, length-hex (member_digits list) bits, digits_of_bytes (is_wide list))
