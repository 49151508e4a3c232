-- Payloads as words of eight bytes.
use Rattle.std.specs.Prelude.{ℕ, ◌+◌, ◌*◌, ◌/◌, List, length, get_or, map}
use Rattle.ttp_base.specs.NodeSet.{below}
use Rattle.ttp_world.specs.Fitting.{number_in}

-- how many words a payload of so many bytes has: the last one may be begun and not full
abbrev pub word_count : ℕ → ℕ
word_count bytes = (bytes + 7) / 8

-- a word of a payload, the first byte most significant, with zeros behind the last byte
abbrev pub payload_word : List ℕ → ℕ → ℕ
payload_word bytes i = number_in (map (λ j. get_or bytes (8 * i + j) 0) (below 8))

-- the words of a payload
abbrev pub words_of_payload : List ℕ → List ℕ
words_of_payload bytes = map (payload_word bytes) (below (word_count (length bytes)))
