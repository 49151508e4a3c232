-- No value, code, name or type of a variable has a line feed.
use Rattle.wave_text.proofs.Words.{◌≡◌, ℕ, zero, suc, ◌+◌, ◌/◌, ◌%◌, ◌<◌, Bool, true, false, List, [], ◌∷◌, ◌++◌}
use Rattle.wave_text.proofs.Words.{refl, Option, Some, None, arith, codes, decimal, nat_lt, ◌==◌, if◌then◌else◌}
use Rattle.wave_text.proofs.Words.{signed_decimal, flat_map, Source, ack_word, source_word, Word, word_text, NodeShown}
use Rattle.wave_text.proofs.Words.{Message, is_active_word, sends, set_bits, ClusterVariable, NodeVariable}
use Rattle.wave_text.proofs.Words.{PortVariable, binary, binary_number, most_binary_digits, number_text, wires_text}
use Rattle.wave_text.proofs.Words.{number_or_nothing, bit_text, cluster_value, phase_text, unless_off, held_text}
use Rattle.wave_text.proofs.Words.{node_value, port_value}
use Rattle.ttp_base.proofs.Numerals.{has, has-append, has-decimal, has-signed}
use Rattle.ttp_world.specs.declared.script.Source.TheVariants as source
use Rattle.ttp_world.proofs.TraceWords.{has-ack_word}
use Rattle.line_reader.specs.declared.trace_line.Word.TheVariants as word
use Rattle.shown_slot.specs.declared.node.ClockRange.{ClockRange}
use Rattle.shown_slot.specs.declared.node.Sender.{Sender}
use Rattle.shown_slot.specs.declared.node.Sender.TheVariants as sent_by
use Rattle.shown_slot.specs.Nodes.{is_leaving_word, agreement, sender_among, bits_where, clock_range}
use Rattle.shown_slot.specs.Nodes.{spread_in}
use Rattle.wave_text.specs.declared.variable.ClusterVariable.TheVariants as of_cluster
use Rattle.wave_text.specs.declared.variable.NodeVariable.TheVariants as of_node
use Rattle.wave_text.specs.declared.variable.PortVariable.TheVariants as of_port
use Rattle.std.specs.Prelude.{◌||◌}
use Rattle.std.proofs.lemmas.List.Folds.{list_any-append}
use Rattle.wave_text.specs.Values.{agreement_text, nothing_text, sender_text, spread_text}
use Rattle.ttp_world.proofs.TraceLines.{feed_is_low}

-- a text without a line feed
abbrev pub HasNone : List ℕ → Type 0
HasNone text = has 10 text ≡ false

pub none-append : (x y : List ℕ) → HasNone x → HasNone y → HasNone (x ++ y)
none-append x y p q = has-append 10 x y p q

pub feed-append : (x y : List ℕ) → has 10 (x ++ y) ≡ (has 10 x || has 10 y)
feed-append x y = list_any-append (λ c. c == 10) x y

pub none-decimal : (n : ℕ) → HasNone (decimal n)
none-decimal n = has-decimal 10 n feed_is_low

pub ruleset feeds = (feed-append, none-decimal)

-- a digit, and a letter
pub none-byte : (n : ℕ) → 10 < n → HasNone (n ∷ [])
none-byte n high =
    let differs : (n == 10) ≡ false = grind arith in
    rw differs refl

-- Values.

none-binary : (digits v : ℕ) → HasNone (binary digits v)
unfolding binary
none-binary zero v = refl
none-binary (suc digits) v =
    none-append (binary digits (v / 2)) ((48 + v % 2) ∷ [])
    (none-binary digits (v / 2)) (none-byte (48 + v % 2) (omega arith))

none-binary_number : (more v : ℕ) → HasNone (binary_number more v)
unfolding binary_number
none-binary_number zero v = refl
none-binary_number (suc more) v = go (nat_lt v 2) (none-binary_number more (v / 2))
  where
    go : (small : Bool) → HasNone (binary_number more (v / 2))
        → HasNone (if small then (48 + v) ∷ [] else (binary_number more (v / 2) ++ (48 + v % 2) ∷ []))
    go true none = none-byte (48 + v) (omega arith)
    go false none =
        none-append (binary_number more (v / 2)) ((48 + v % 2) ∷ []) none (none-byte (48 + v % 2) (omega arith))

none-number : (v : ℕ) → HasNone (number_text v)
none-number v = none-binary_number most_binary_digits v

none-wires : (width v : ℕ) → HasNone (wires_text width v)
none-wires width v = none-binary width v

none-bit : (b : Bool) → HasNone (bit_text b)
none-bit true = refl
none-bit b = refl

none-number_or_nothing : (number : Option ℕ) → HasNone (number_or_nothing number)
none-number_or_nothing None = refl
none-number_or_nothing (Some v) = none-number v

none-agreement : (same : Option Bool) → HasNone (agreement_text same)
none-agreement None = refl
none-agreement (Some b) = none-bit b

none-sender : (s : Sender) → HasNone (sender_text s)
none-sender sent_by.Nobody = refl
none-sender (sent_by.Node k) = none-number k
none-sender sent_by.Several = refl

none-spread : (range : Option ClockRange) → HasNone (spread_text range)
none-spread None = refl
none-spread (Some range) = none-number (spread_in range)

pub none-cluster_value : (width : ℕ) (v : ClusterVariable) (nodes : List NodeShown)
    → HasNone (cluster_value width v nodes)
none-cluster_value width of_cluster.Agree nodes = none-agreement (agreement nodes)
none-cluster_value width of_cluster.Sender nodes = none-sender (sender_among 0 nodes)
none-cluster_value width of_cluster.Active nodes = none-wires width (bits_where is_active_word nodes)
none-cluster_value width of_cluster.Leaving nodes = none-wires width (bits_where is_leaving_word nodes)
none-cluster_value width of_cluster.Spread nodes = none-spread (clock_range nodes)

none-phase : (w : Word) → HasNone (codes "s" ++ phase_text w)
none-phase word.Off = refl
none-phase w = refl

none-word : (w : Word) → HasNone (codes "s" ++ word_text w)
none-word word.Off = refl
none-word w = refl

none-unless_off : (w : Word) (text : List ℕ) → HasNone text → HasNone (unless_off w text)
none-unless_off word.Off text none = refl
none-unless_off w text none = none

none-held : (w : Word) (text : List ℕ) → HasNone text → HasNone (held_text w text)
none-held w text none = none-unless_off w _ (either (is_active_word w))
  where
    either : (active : Bool) → HasNone (if active then text else nothing_text)
    either true = none
    either false = refl

pub none-node_value : (width : ℕ) (v : NodeVariable) (node : NodeShown) → HasNone (node_value width v node)
none-node_value width of_node.Sends node = none-bit (sends node.word)
none-node_value width of_node.Phase node = none-phase node.word
none-node_value width of_node.Word node = none-word node.word
none-node_value width of_node.Peer node = none-unless_off node.word _ (none-number_or_nothing node.peer)
none-node_value width of_node.Message node = none-unless_off node.word _ (none-number_or_nothing node.message)
none-node_value width of_node.Members node = none-held node.word _ (none-wires width (set_bits node.members))
none-node_value width of_node.Accepted node = none-held node.word _ (none-number node.accepted)
none-node_value width of_node.Rejected node = none-held node.word _ (none-number node.rejected)
none-node_value width of_node.Ack node = has-ack_word 10 node.ack feed_is_low
none-node_value width of_node.Clock node = has-signed 10 node.offset feed_is_low

none-each_byte : (bytes : List ℕ) → HasNone (flat_map (binary 8) bytes)
none-each_byte [] = refl
none-each_byte (byte ∷ bytes) =
    none-append (binary 8 byte) (flat_map (binary 8) bytes) (none-binary 8 byte) (none-each_byte bytes)

pub none-port_value : (v : PortVariable) (message : Option Message) → HasNone (port_value v message)
none-port_value of_port.Number None = refl
none-port_value of_port.Number (Some message) = none-number message.number
none-port_value of_port.Data None = refl
none-port_value of_port.Data (Some message) = none-each_byte message.payload

pub none-source : (from : Source) → HasNone (source_word from)
none-source source.Status = refl
none-source (source.Node p) = none-decimal p
