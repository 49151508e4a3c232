-- What the values of a node's variables tell of its line.
use Rattle.std.specs.Prelude.{◌≡◌, ℕ, ◌+◌, ◌-◌, ◌*◌, ◌^◌, ◌<◌, nat_lt, Bool, false, List, drop, fold}
use Rattle.std.specs.Prelude.{Option, Some, None, IfSome, unwrap_or, decimal, if◌then◌else◌}
use Rattle.std.specs.List.{list_any}
use Rattle.ttp_base.specs.NodeSet.{set_bits}
use Rattle.ttp_base.specs.Text.{hex}
use Rattle.ttp_world.specs.Trace.{number_or_dash, node_line_text}
use Rattle.line_reader.specs.declared.trace_line.Word.TheVariants as word
use Rattle.whole_trace.specs.declared.shown.NodeShown.{NodeShown}
use Rattle.shown_slot.specs.Nodes.{is_active_word}

-- a byte behind the digits: a letter, or another such sign
abbrev pub is_letter : ℕ → Bool
is_letter c = nat_lt 57 c

-- a binary number with one digit more
abbrev pub with_bit : ℕ → ℕ → ℕ
with_bit v c = 2 * v + (c - 48)

-- the number that an integer or a wire shows, if it shows one
abbrev pub number_shown : List ℕ → Option ℕ
number_shown value = if list_any is_letter (drop 1 value) then None else Some (fold with_bit 0 (drop 1 value))

abbrev pub count_told : List ℕ → ℕ
count_told value = unwrap_or (number_shown value) 0

-- the line of node k after slot t by the values of its variables, with its members in so many digits
abbrev pub line_told : ℕ → ℕ → ℕ → (w peer message members accepted rejected a clock : List ℕ) → List ℕ
line_told digits t k w peer message members accepted rejected a clock =
    node_line_text (decimal t) (decimal k) (drop 1 w) (number_or_dash (number_shown peer))
    (number_or_dash (number_shown message)) (hex digits (count_told members)) (decimal (count_told accepted))
    (decimal (count_told rejected)) (drop 1 a) (drop 1 clock)

-- A node of a right trace: what isn't active has no members and no counts, what is off names no peer and no message,
-- and its numbers fit their variables, with members of nodes below a number.
pub record IsRightNode (width : ℕ) (node : NodeShown) : Type 0 where
  pub members : is_active_word node.word ≡ false → set_bits node.members ≡ 0
  pub accepted : is_active_word node.word ≡ false → node.accepted ≡ 0
  pub rejected : is_active_word node.word ≡ false → node.rejected ≡ 0
  pub peer : node.word ≡ word.Off → node.peer ≡ None
  pub message : node.word ≡ word.Off → node.message ≡ None
  pub fits_members : set_bits node.members < 2 ^ width
  pub fits_accepted : node.accepted < 2 ^ 64
  pub fits_rejected : node.rejected < 2 ^ 64
  pub fits_peer : IfSome node.peer (λ p. p < 2 ^ 64)
  pub fits_message : IfSome node.message (λ i. i < 2 ^ 64)
