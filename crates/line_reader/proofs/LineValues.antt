-- The lines of the definition of a trace as the lines of values.
use Rattle.std.proofs.Common.{◌≡◌, ℕ, suc, ◌+◌, ◌*◌, ◌/◌, ◌%◌, ◌^◌, ◌<◌, List, [], ◌∷◌, ◌++◌, length, Option, All, fold}
use Rattle.std.proofs.Common.{refl, sym, ap, ◌∙◌, arith, codes, decimal}
use Rattle.std.specs.Int.{w64, to_be_bytes, from_be_bytes}
use Rattle.std.specs.List.{flat_map, AllByRecursion}
use Rattle.std.proofs.lemmas.List.{append_assoc, append-nil}
use Rattle.std.proofs.lemmas.List.Concat.{flat_map-append}
use Rattle.std.proofs.lemmas.List.Elements.{All-get_or, All-tail}
use Rattle.std.proofs.lemmas.Nat.{from_be_bytes-to_be_bytes_8}
use Rattle.ttp_base.specs.Text.{newline, hex_digit, hex, byte_hex, hex_bytes}
use Rattle.ttp_world.specs.declared.keep.Back.{Back}
use Rattle.ttp_world.specs.declared.keep.Back.TheVariants as back
use Rattle.ttp_world.specs.declared.keep.Keep.{Keep}
use Rattle.ttp_world.specs.declared.keep.Keep.TheVariants as keep
use Rattle.ttp_world.specs.declared.medl.Medl.{Medl}
use Rattle.ttp_world.specs.declared.node.Entry.{Entry}
use Rattle.ttp_world.specs.declared.node.Entry.TheVariants as entry
use Rattle.ttp_world.specs.declared.node.NodeState.{NodeState}
use Rattle.ttp_world.specs.declared.node.Reason.TheVariants as reason
use Rattle.ttp_world.specs.declared.node.Verdict.TheVariants as verdict
use Rattle.ttp_world.specs.declared.script.Source.TheVariants as source
use Rattle.ttp_world.specs.Fitting.{append_byte}
use Rattle.ttp_world.specs.Trace.{entry_word, word_hex, host_head, keep_line, back_line}
use Rattle.line_reader.specs.declared.trace_line.TraceLine.TheVariants as line
use Rattle.line_reader.specs.TraceLines.{word_text, text_of}
use Rattle.line_text.specs.HostLines.{message_line}
use Rattle.line_reader.specs.WorldLines.{word_of, line_of_node, bytes_of_message}
use Rattle.line_text.specs.LineParts.{listed_line}
use Rattle.line_reader.proofs.FromBelow.{eight_bytes}

word_of-text : (e : Entry) → entry_word e ≡ word_text (word_of e)
word_of-text entry.Off = refl
word_of-text (entry.Judged sender verdict.Null deviation) = refl
word_of-text (entry.Left reason.Denied peer) = refl
word_of-text e = refl

pub node-value : (list : Medl) (slot k : ℕ) (state : NodeState) (message : Option ℕ)
    → listed_line list slot k state message ≡ text_of (line_of_node list slot k state message) ++ newline
node-value list slot k state message = rw (word_of-text state.entry) refl

-- The digits of a word are those of its bytes.

hex-byte : (k v b : ℕ) → b < 256 → hex (suc (suc k)) (256 * v + b) ≡ hex k v ++ byte_hex b
hex-byte k v b small =
    let front : (256 * v + b) / 16 / 16 ≡ v = omega (arith, small) in
    let high : (256 * v + b) / 16 % 16 ≡ b / 16 = omega (arith, small) in
    let low : (256 * v + b) % 16 ≡ b % 16 = omega (arith, small) in
    rw (front, high, low) (append_assoc (hex k v) (hex_digit (b / 16) ∷ []) (hex_digit (b % 16) ∷ []))

hex-bytes : (bytes : List ℕ) (k v : ℕ) → AllByRecursion (λ b. b < 256) bytes
    → hex (k + 2 * length bytes) (fold append_byte v bytes) ≡ hex k v ++ hex_bytes bytes
hex-bytes [] k v small = let same : k + 2 * 0 ≡ k = omega arith in rw same (sym (append-nil (hex k v)))
hex-bytes (b ∷ bytes) k v small =
    let more : k + 2 * suc (length bytes) ≡ suc (suc k) + 2 * length bytes = omega arith in
    ap (λ (m : ℕ). hex m (fold append_byte (256 * v + b) bytes)) more
    ∙ hex-bytes bytes (suc (suc k)) (256 * v + b) small.1
    ∙ ap (λ (t : List ℕ). t ++ hex_bytes bytes) (hex-byte k v b small.0)
    ∙ append_assoc (hex k v) (byte_hex b) (hex_bytes bytes)

eight_hex : (w a b c d e f g h : ℕ) → AllByRecursion (λ b. b < 256) (a ∷ b ∷ c ∷ d ∷ e ∷ f ∷ g ∷ h ∷ [])
    → from_be_bytes w64 (a ∷ b ∷ c ∷ d ∷ e ∷ f ∷ g ∷ h ∷ []) ≡ w
    → word_hex w ≡ hex_bytes (a ∷ b ∷ c ∷ d ∷ e ∷ f ∷ g ∷ h ∷ [])
eight_hex w a b c d e f g h small is =
    ap (hex 16) (sym (eight_bytes a b c d e f g h ∙ is))
    ∙ hex-bytes (a ∷ b ∷ c ∷ d ∷ e ∷ f ∷ g ∷ h ∷ []) 0 0 small

rest_below : (n : ℕ) → n % 256 < 256
rest_below n = omega arith

word-bytes : (w : ℕ) → w < 2 ^ 64 → word_hex w ≡ hex_bytes (to_be_bytes w64 w)
word-bytes w small =
    eight_hex w _ _ _ _ _ _ _ _ (
      rest_below _,
      (
        rest_below _,
        (
          rest_below _,
          (
            rest_below _,
            (
              rest_below _,
              (
                rest_below _,
                (
                  rest_below _,
                  (rest_below _, tt),
                ),
              ),
            ),
          ),
        ),
      ),
    ) (from_be_bytes-to_be_bytes_8 w small)

pub words-bytes : (words : List ℕ) → All (λ w. w < 2 ^ 64) words
    → flat_map word_hex words ≡ hex_bytes (flat_map (to_be_bytes w64) words)
words-bytes [] small = refl
words-bytes (w ∷ words) small =
    let one : w < 2 ^ 64 = All-get_or (λ x. x < 2 ^ 64) (w ∷ words) 0 0 (omega arith) small in
    ap (λ (t : List ℕ). t ++ flat_map word_hex words) (word-bytes w one)
    ∙ ap (λ (t : List ℕ). hex_bytes (to_be_bytes w64 w) ++ t)
    (words-bytes words (All-tail (λ x. x < 2 ^ 64) w words small))
    ∙ sym (flat_map-append byte_hex (to_be_bytes w64 w) (flat_map (to_be_bytes w64) words))

pub status-value : (slot host number : ℕ) (words : List ℕ) → All (λ w. w < 2 ^ 64) words
    → message_line slot host source.Status number words
    ≡ text_of (line.Read slot host source.Status number (bytes_of_message source.Status words)) ++ newline
status-value slot host number words small =
    ap (λ (t : List ℕ). host_head slot host ++ codes " read " ++ codes "status" ++ codes " " ++ decimal number
    ++ codes " " ++ t ++ newline) (words-bytes words small)

pub keep-value : (k : Keep) → keep_line k ≡ text_of (line.Keep k) ++ newline
keep-value (keep.Yes start) = refl
keep-value (keep.No rule slot) = refl

pub back-value : (b : Back) → back_line b ≡ text_of (line.Back b) ++ newline
back-value (back.Yes start) = refl
back-value (back.No rule slot) = refl
