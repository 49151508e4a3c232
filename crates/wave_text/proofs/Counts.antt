-- The changes of a node whose line differs from the one before in its peer and the frames that it accepted alone.
use Rattle.wave_text.proofs.Words.{◌≡◌, ℕ, List, [], ◌++◌, ◌∷◌, Some, ap, ◌∙◌, codes, if◌then◌else◌, append-nil, Lines}
use Rattle.wave_text.proofs.Words.{Word, word_text, sends, NodeShown, NodeVariable, node_value, bit_text, phase_text}
use Rattle.wave_text.proofs.Words.{held_text, unless_off, number_or_nothing, number_text, wires_text, node_code}
use Rattle.wave_text.proofs.Words.{change_line, change_lines, changes_by, node_changes}
use Rattle.ttp_world.proofs.NumberWords.{bytes_eq-same}
use Rattle.wave_text.specs.declared.variable.NodeVariable.TheVariants as of_node
use Rattle.wave_text.specs.Moment.{DiffersInCounts}
use Rattle.wave_text.specs.Values.{node_ack_text, clock_text}

kept-none : (code before now : List ℕ) → before ≡ now → change_lines code (Some before) now ≡ []
kept-none code before now same =
    ap (λ (b : List ℕ). change_lines code (Some b) now) same
    ∙ ap (λ t. if t then [] else change_line now code ∷ []) (bytes_eq-same now)

abbrev of_variable : ℕ → ℕ → NodeShown → NodeShown → NodeVariable → Lines
of_variable width k before now v = changes_by (node_value width v) (node_code v k) (Some before) now

pub counted : (width k : ℕ) (b n : NodeShown) → DiffersInCounts b n
    → node_changes width k (Some b) n ≡ of_variable width k b n of_node.Peer ++ of_variable width k b n of_node.Accepted
counted width k b n same =
    let none = λ (v : NodeVariable) (e : node_value width v b ≡ node_value width v n).
    kept-none (node_code v k) (node_value width v b) (node_value width v n) e in
    let word = same.word in
    rw (
      none of_node.Sends (ap (λ (w : Word). bit_text (sends w)) word),
      none of_node.Phase (ap (λ (w : Word). codes "s" ++ phase_text w) word),
      none of_node.Word (ap (λ (w : Word). codes "s" ++ word_text w) word),
      none of_node.Message (λ i. unless_off (word i) (number_or_nothing (same.message i))),
      none of_node.Members (λ i. held_text (word i) (wires_text width (same.members i))),
      none of_node.Rejected (λ i. held_text (word i) (number_text (same.rejected i))),
      none of_node.Ack (ap node_ack_text same.ack),
      none of_node.Clock (ap clock_text same.offset),
    )
    (ap (λ (l : Lines). of_variable width k b n of_node.Peer ++ l)
    (append-nil (of_variable width k b n of_node.Accepted)))
