-- The parts of the lines of a trace, and what a line asks of the state that it shows.
use Rattle.std.specs.Prelude.{◌≡◌, ℕ, ℤ, ◌*◌, ◌<◌, ◌≤◌, List, [], ◌∷◌, ◌++◌}
use Rattle.std.specs.Prelude.{length, take, codes, decimal, Option, IfSome}
use Rattle.std.specs.Fmt.{signed_decimal}
use Rattle.ttp_base.specs.NodeSet.{set_bits}
use Rattle.ttp_base.specs.Text.{hex, newline, gather}
use Rattle.ttp_world.specs.declared.medl.Medl.{Medl}
use Rattle.ttp_world.specs.declared.node.Ack.{Ack}
use Rattle.ttp_world.specs.declared.node.Entry.{Entry}
use Rattle.ttp_world.specs.declared.node.NodeState.{NodeState}
use Rattle.ttp_world.specs.Medl.{member_limit, member_bytes}
use Rattle.ttp_world.specs.Trace.{ack_word, entry_word, verdict_word, peer_of, number_or_dash, member_digits, node_line}
use Rattle.ttp_world.specs.Trace.{entry_pieces, told_pieces, ack_pieces}
use Rattle.line_text.specs.declared.node_line.Judged.{Judged}

-- a state's members can be written in the digits that a list gives them
abbrev pub HasDigits : Medl → NodeState → Type 0
HasDigits list state = set_bits state.members < member_limit list

-- the line of a node in a list's digits
abbrev pub listed_line : Medl → ℕ → ℕ → NodeState → Option ℕ → List ℕ
listed_line list slot k state message = node_line (member_digits list) slot k state message

-- The parts of a node's line.

-- what the lines of a slot begin with
abbrev pub head_text : ℕ → List ℕ
head_text slot = codes "slot " ++ decimal slot ++ codes " node "

-- the word for what node k did, and of whom it speaks
abbrev pub entry_text : ℕ → Entry → List ℕ
entry_text k entry = gather [] (entry_pieces (entry_word entry) (number_or_dash (peer_of k entry)))

-- between the node's number and its counts
abbrev pub shown_text : Medl → ℕ → NodeState → Option ℕ → List ℕ
shown_text list k state message =
    gather [] (told_pieces (entry_word state.entry) (number_or_dash (peer_of k state.entry)) (number_or_dash message)
    (hex (member_digits list) (set_bits state.members)))

-- behind the accepted frames
abbrev pub ack_text : ℕ → Ack → List ℕ
ack_text rejected ack = gather [] (ack_pieces (decimal rejected) (ack_word ack))

abbrev pub end_text : ℕ → Ack → ℤ → List ℕ
end_text rejected ack offset = ack_text rejected ack ++ signed_decimal offset ++ newline

-- a line that is begun, with all that comes behind
abbrev pub with_rest : List ℕ → Medl → ℕ → NodeState → Option ℕ → List ℕ
with_rest begun list k state message =
    gather begun (decimal k ∷ told_pieces (entry_word state.entry) (number_or_dash (peer_of k state.entry))
    (number_or_dash message) (hex (member_digits list) (set_bits state.members))
    ++ decimal state.accepted ∷ ack_pieces (decimal state.rejected) (ack_word state.ack)
    ++ signed_decimal state.offset ∷ newline ∷ [])

-- what is shown of a node that judged the slot so
abbrev pub text_of_judged : Judged → List ℕ
text_of_judged j =
    gather [] (told_pieces (verdict_word j.verdict) (decimal j.sender) (number_or_dash j.message)
    (hex (2 * member_bytes j.wide) j.bits))

-- a judgement, if there is one, and the text that tells it
pub record ToldState : Type 0 where
  pub judged : Option Judged
  pub text : List ℕ

-- a text of this length tells a judgement, if there is one, and is short
pub record TellsJudgement (judged : Option Judged) (len : ℕ) (text : List ℕ) : Type 0 where
  pub tells : IfSome judged (λ j. text ≡ text_of_judged j)
  pub short : len ≤ 64

-- so much of a line is what the lines of a slot begin with
pub record IsLineBegun (slot head : ℕ) (line : List ℕ) : Type 0 where
  pub begins : take head line ≡ head_text slot
  pub within : head ≤ length line
  pub short : head ≤ 40
