-- Words that are numbers, channels, faults, sources and hexadecimal digits.
use Rattle.std.specs.Prelude.{ℕ, ◌+◌, ◌*◌, ℤ, pos, neg_ℤ, Bool, ◌&&◌, ◌||◌, ◌==◌, List, [], ◌∷◌}
use Rattle.std.specs.Prelude.{length, drop, codes, slice_index, nat_le, nat_lt, if◌then◌else◌}
use Rattle.std.specs.Char.{digit_value, is_ascii_digit}
use Rattle.std.specs.List.{list_all}
use Rattle.std.specs.Str.{bytes_eq}
use Rattle.std.specs.Str.Parse.{digits_value}
use Rattle.ttp_world.specs.declared.script.Channels.{Channels}
use Rattle.ttp_world.specs.declared.script.Fault.{Fault}
use Rattle.ttp_world.specs.declared.script.Fault.TheVariants as fault
use Rattle.ttp_world.specs.declared.script.Source.{Source}
use Rattle.ttp_world.specs.declared.script.Source.TheVariants as source

-- a word is spelled like this
abbrev pub is_text : List ℕ → List ℕ → Bool
is_text text word = bytes_eq word text

-- the most digits of a number
abbrev pub most_digits : ℕ
most_digits = 9

-- decimal digits, 1 to 9 of them, and the number that they are
abbrev pub is_number : List ℕ → Bool
is_number word = list_all is_ascii_digit word && (nat_le 1 (length word) && nat_le (length word) most_digits)

abbrev pub decimal_value : List ℕ → ℕ
decimal_value word = digits_value 10 word

-- a number that may have a `-` before it
abbrev pub is_negative : List ℕ → Bool
is_negative word = slice_index word 0 == 45

-- a word is such a number
abbrev pub is_value : List ℕ → Bool
is_value word = if is_negative word then is_number (drop 1 word) else is_number word

-- the number that it is
abbrev pub value_in : List ℕ → ℤ
value_in word = if is_negative word then neg_ℤ (pos (decimal_value (drop 1 word))) else pos (decimal_value word)

-- hexadecimal digits of either case, two for each byte
abbrev pub is_hex_digit : ℕ → Bool
is_hex_digit b = nat_lt (digit_value b) 16

-- a word is of such digits
abbrev pub is_hex_word : List ℕ → Bool
is_hex_word word = list_all is_hex_digit word

-- the bytes that it is
abbrev pub digit_bytes_in : List ℕ → List ℕ
digit_bytes_in [] = []
digit_bytes_in (high ∷ []) = []
digit_bytes_in (high ∷ low ∷ digits) = (16 * digit_value high + digit_value low) ∷ digit_bytes_in digits

-- what a host reads: `status`, or a sender's number
abbrev pub is_source : List ℕ → Bool
is_source word = is_text (codes "status") word || is_number word

abbrev pub source_named : List ℕ → Source
source_named word = if is_text (codes "status") word then source.Status else source.Node (decimal_value word)

-- `A`, `B` or `AB`
abbrev pub is_channels : List ℕ → Bool
is_channels word = is_text (codes "A") word || (is_text (codes "B") word || is_text (codes "AB") word)

abbrev pub channels_in : List ℕ → Channels
channels_in word = record {
  a = is_text (codes "A") word || is_text (codes "AB") word;
  b = is_text (codes "B") word || is_text (codes "AB") word;
}

-- `silence` or `noise`
abbrev pub is_fault : List ℕ → Bool
is_fault word = is_text (codes "silence") word || is_text (codes "noise") word

abbrev pub fault_in : List ℕ → Fault
fault_in word = if is_text (codes "silence") word then fault.Silence else fault.Noise
