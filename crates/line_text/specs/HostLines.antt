-- The lines of what hosts write and read, and how the words of a ring give the message.
use Rattle.std.specs.Prelude.{ℕ, ◌≡◌, ◌<◌, ◌≤◌, List, ◌++◌, length, take, codes, decimal, All}
use Rattle.std.specs.List.{flat_map}
use Rattle.ttp_base.specs.Text.{newline}
use Rattle.ttp_world.specs.declared.script.Source.{Source}
use Rattle.ttp_world.specs.declared.script.Source.TheVariants as source
use Rattle.std.specs.Int.{w64, to_be_bytes}
use Rattle.ttp_world.specs.Trace.{host_head, source_word, message_hex}
use Rattle.ttp_world.specs.Words.{word_count}

-- the line of a message that a host wrote, with its number
abbrev pub written_line : ℕ → ℕ → ℕ → List ℕ
written_line slot host number = host_head slot host ++ codes " write " ++ decimal number ++ newline

-- these are bytes
abbrev pub AreBytes : List ℕ → Type 0
AreBytes bytes = All (λ b. b < 256) bytes

-- the first bytes of some words, so many, each word's most significant byte first
abbrev pub bytes_in : ℕ → List ℕ → List ℕ
bytes_in size words = take size (flat_map (to_be_bytes w64) words)

-- the message that words of a source are: a status is its words, and a payload has so many bytes
abbrev pub message_in : Source → ℕ → List ℕ → List ℕ
message_in source.Status size words = words
message_in (source.Node p) size words = bytes_in size words

-- words of a source are as many as its messages have
abbrev pub HasWords : Source → ℕ → List ℕ → Type 0
HasWords source.Status size words = length words ≡ 4
HasWords (source.Node p) size words = (size ≤ 240) × (length words ≡ word_count size)

-- the line of a message that a host read, with its number
abbrev pub message_line : ℕ → ℕ → Source → ℕ → List ℕ → List ℕ
message_line slot host from number message =
    host_head slot host ++ codes " read " ++ source_word from ++ codes " " ++ decimal number
    ++ codes " " ++ message_hex from message ++ newline
