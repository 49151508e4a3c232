-- The words of the lines of a trace.
use Rattle.ttp_world.proofs.Words.{◌≡◌, ℕ, false, List, [], ◌∷◌, ◌++◌, Option, ◌<◌, arith, ◌+◌, length, get_or, refl}
use Rattle.ttp_world.proofs.Words.{ap, ◌∙◌, codes, decimal, ◌==◌, signed_decimal, All-nil, All-cons}
use Rattle.ttp_world.proofs.Words.{set_bits, newline, hex, Medl, NodeState, Script, History, ReadMessage, ring_messages}
use Rattle.ttp_world.proofs.Words.{messages_before, number_or_dash, entry_word, peer_of, ack_word, node_line}
use Rattle.ttp_world.proofs.Words.{entry_pieces, ack_pieces, node_pieces}
use Rattle.ttp_world.proofs.Words.{write_line, source_word, message_hex, read_line, words_of, word_in, has, has-decimal}
use Rattle.std.proofs.Common.{All}
use Rattle.std.specs.List.{concat}
use Rattle.std.proofs.lemmas.Bool.{or_parts}
use Rattle.std.proofs.lemmas.List.Splits.{slice_split_at}
use Rattle.ttp_base.proofs.Gathered.{gathered}
use Rattle.ttp_world.proofs.TraceWords.{has-entry_word, has-number_or_dash, has-source_word}

pub space_is_low : 32 < 45
space_is_low = omega arith

no_space : (word : List ℕ) → has 32 word ≡ false → All (λ c. (c == 32) ≡ false) word
no_space [] none = All-nil (λ c. (c == 32) ≡ false)
no_space (c ∷ word) none =
    let parts = or_parts (c == 32) (has 32 word) none in
    All-cons (λ c. (c == 32) ≡ false) c word parts.0 (no_space word parts.1)

-- a word, a space and the rest of the line
word_then : (word rest : List ℕ) (words : List (List ℕ)) → has 32 word ≡ false → words_of rest ≡ words
    → words_of (word ++ 32 ∷ rest) ≡ word ∷ words
word_then word rest words one then =
    slice_split_at (λ c. c == 32) word 32 rest (no_space word one) refl ∙ ap (λ (ws : List (List ℕ)). word ∷ ws) then

-- Node lines.

-- as far as the message
front_words : (slot k entry peer message : List ℕ) (rest : List (List ℕ))
    → has 32 slot ≡ false → has 32 k ≡ false → has 32 entry ≡ false
    → has 32 peer ≡ false → has 32 message ≡ false
    → words_of (concat (codes "slot " ∷ slot ∷ codes " node " ∷ k ∷ entry_pieces entry peer
    ++ codes " msg " ∷ message ∷ codes " mem " ∷ rest))
    ≡ codes "slot" ∷ slot ∷ codes "node" ∷ k ∷ entry ∷ codes "peer" ∷ peer ∷ codes "msg" ∷ message
    ∷ words_of (codes "mem " ++ concat rest)
front_words slot k entry peer message rest p q r s t =
    let after_message = codes "mem " ++ concat rest in
    let after_peer = codes "msg " ++ (message ++ 32 ∷ after_message) in
    let after_entry = codes "peer " ++ (peer ++ 32 ∷ after_peer) in
    let after_node = entry ++ 32 ∷ after_entry in
    let after_slot = codes "node " ++ (k ++ 32 ∷ after_node) in
    ap (λ (ws : List (List ℕ)). codes "slot" ∷ ws)
    (word_then slot after_slot _ p (ap (λ (ws : List (List ℕ)). codes "node" ∷ ws)
    (word_then k after_node _ q
    (word_then entry after_entry _ r (ap (λ (ws : List (List ℕ)). codes "peer" ∷ ws)
    (word_then peer after_peer _ s (ap (λ (ws : List (List ℕ)). codes "msg" ∷ ws)
    (word_then message after_message _ t refl))))))))

-- what a node line says of a slot and a node, by its words
pub record IsNodeLine (t k : ℕ) (does : List ℕ) (message : Option ℕ) (words : List (List ℕ)) : Type 0 where
  pub slot : word_in words 1 ≡ decimal t
  pub kind : word_in words 2 ≡ codes "node"
  pub node : word_in words 3 ≡ decimal k
  pub entry : word_in words 4 ≡ does
  pub number : word_in words 8 ≡ number_or_dash message

pub node_line-words : (width slot k : ℕ) (state : NodeState) (message : Option ℕ)
    → IsNodeLine slot k (entry_word state.entry) message (words_of (node_line width slot k state message))
node_line-words width slot k state message =
    let peer = number_or_dash (peer_of k state.entry) in
    let members = hex width (set_bits state.members) in
    let accepted = decimal state.accepted in
    let rejected = decimal state.rejected in
    let clock = signed_decimal state.offset in
    let same = ap words_of (gathered [] (node_pieces (decimal slot) (decimal k) (entry_word state.entry) peer
    (number_or_dash message) members accepted rejected (ack_word state.ack) clock ++ newline ∷ []))
    ∙ front_words (decimal slot) (decimal k) (entry_word state.entry) peer (number_or_dash message)
    (members ∷ codes " acc " ∷ accepted ∷ ack_pieces rejected (ack_word state.ack) ++ clock ∷ newline ∷ [])
    (has-decimal 32 slot space_is_low) (has-decimal 32 k space_is_low) (has-entry_word 32 state.entry space_is_low)
    (has-number_or_dash 32 (peer_of k state.entry) space_is_low) (has-number_or_dash 32 message space_is_low) in
    record {
      slot = ap (λ (ws : List (List ℕ)). word_in ws 1) same;
      kind = ap (λ (ws : List (List ℕ)). word_in ws 2) same;
      node = ap (λ (ws : List (List ℕ)). word_in ws 3) same;
      entry = ap (λ (ws : List (List ℕ)). word_in ws 4) same;
      number = ap (λ (ws : List (List ℕ)). word_in ws 8) same;
    }

-- Host lines.

host_words : (slot k rest : List ℕ) → has 32 slot ≡ false → has 32 k ≡ false
    → words_of (codes "slot " ++ (slot ++ (codes " host " ++ (k ++ 32 ∷ rest))))
    ≡ codes "slot" ∷ slot ∷ codes "host" ∷ k ∷ words_of rest
host_words slot k rest p q =
    ap (λ (ws : List (List ℕ)). codes "slot" ∷ ws)
    (word_then slot (codes "host " ++ (k ++ 32 ∷ rest)) _ p (ap (λ (ws : List (List ℕ)). codes "host" ∷ ws)
    (word_then k rest _ q refl)))

-- what a host line says, by its words
pub record IsHostLine (t : ℕ) (does : List ℕ) (words : List (List ℕ)) : Type 0 where
  pub slot : word_in words 1 ≡ decimal t
  pub kind : word_in words 2 ≡ codes "host"
  pub act : word_in words 4 ≡ does

pub write_line-words : (list : Medl) (script : Script) (slot k earlier : ℕ)
    → IsHostLine slot (codes "write") (words_of (write_line list script slot k earlier))
write_line-words list script slot k earlier =
    let number = decimal (length (messages_before list script k slot) + earlier) in
    let same = ap words_of
    (gathered [] (codes "slot " ∷ decimal slot ∷ codes " host " ∷ decimal k ∷ codes " write " ∷ number ∷ newline ∷ []))
    ∙ host_words (decimal slot) (decimal k) (codes "write " ++ number ++ newline)
    (has-decimal 32 slot space_is_low) (has-decimal 32 k space_is_low) in
    record {
      slot = ap (λ (ws : List (List ℕ)). word_in ws 1) same;
      kind = ap (λ (ws : List (List ℕ)). word_in ws 2) same;
      act = ap (λ (ws : List (List ℕ)). word_in ws 4) same;
    }

read_words : (from number rest : List ℕ) → has 32 from ≡ false → has 32 number ≡ false
    → words_of (codes "read " ++ (from ++ (32 ∷ (number ++ 32 ∷ rest)))) ≡ codes "read" ∷ from ∷ number ∷ words_of rest
read_words from number rest p q =
    ap (λ (ws : List (List ℕ)). codes "read" ∷ ws)
    (word_then from (number ++ 32 ∷ rest) _ p (word_then number rest _ q refl))

-- and the number that it read
pub read_line-words : (list : Medl) (script : Script) (slot : ℕ) (after : History) (r : ReadMessage)
    → IsHostLine slot (codes "read") (words_of (read_line list script slot after r))
    × (word_in (words_of (read_line list script slot after r)) 6 ≡ decimal r.number)
read_line-words list script slot after r =
    let from = source_word r.read.source in
    let number = decimal r.number in
    let ring = ring_messages list script after r.read.host r.read.source in
    let message = message_hex r.read.source (get_or ring r.number []) in
    let same = ap words_of
    (gathered [] (codes "slot " ∷ decimal slot ∷ codes " host " ∷ decimal r.read.host ∷ codes " read " ∷ from
    ∷ codes " " ∷ number ∷ codes " " ∷ message ∷ newline ∷ []))
    ∙ host_words (decimal slot) (decimal r.read.host)
    (codes "read " ++ (from ++ (codes " " ++ (number ++ (codes " " ++ message ++ newline)))))
    (has-decimal 32 slot space_is_low) (has-decimal 32 r.read.host space_is_low)
    ∙ ap (λ (ws : List (List ℕ)). codes "slot" ∷ decimal slot ∷ codes "host" ∷ decimal r.read.host ∷ ws)
    (read_words from number (message ++ newline) (has-source_word 32 r.read.source space_is_low)
    (has-decimal 32 r.number space_is_low)) in (
      record {
        slot = ap (λ (ws : List (List ℕ)). word_in ws 1) same;
        kind = ap (λ (ws : List (List ℕ)). word_in ws 2) same;
        act = ap (λ (ws : List (List ℕ)). word_in ws 4) same;
      },
      ap (λ (ws : List (List ℕ)). word_in ws 6) same,
    )
