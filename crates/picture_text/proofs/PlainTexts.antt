-- What no text in a line of a picture has: a line feed, or a byte that begins a tag or stands for another.
use Rattle.picture_text.proofs.Words.{◌≡◌, ℕ, suc, ◌+◌, ◌-◌, ◌/◌, ◌%◌, Bool, true, false, cond, ◌||◌, not, List, []}
use Rattle.picture_text.proofs.Words.{◌∷◌, ◌++◌, refl, ◌∙◌, Option, Some, None, arith, codes, length, get_or, ◌==◌}
use Rattle.picture_text.proofs.Words.{list_any, flat_map, signed_decimal, set_bits, Lines, hex, Back, Keep}
use Rattle.picture_text.proofs.Words.{number_or_dash, ack_word, word_text, keep_text, Head, HostLine, NodeShown}
use Rattle.picture_text.proofs.Words.{SlotLines, is_holder, header_text, node_text, host_text, Span}
use Rattle.picture_text.proofs.Words.{shown_memberships, node_class, each_node, membership_text, members_title}
use Rattle.picture_text.proofs.Words.{count_of, apart_text, apart_shown, more_text, words, letter, keep_meaning}
use Rattle.std.proofs.Common.{zero, ◌&&◌, nat_lt}
use Rattle.std.proofs.Common.{ℤ, pos, negsuc, decimal}
use Rattle.std.specs.Prelude.{is_some}
use Rattle.std.specs.List.{AllByRecursion, list_all}
use Rattle.std.specs.Fmt.{digit_glyph, digits_onto, digits}
use Rattle.std.proofs.lemmas.Bool.{and_parts, not-true}
use Rattle.std.proofs.lemmas.List.Folds.{list_any-append}
use Rattle.ttp_base.specs.Text.{hex_digit, byte_hex, hex_bytes}
use Rattle.ttp_world.specs.declared.keep.Back.TheVariants as back
use Rattle.ttp_world.specs.declared.keep.Keep.TheVariants as keep
use Rattle.ttp_world.specs.declared.node.Ack.{Ack}
use Rattle.ttp_world.specs.declared.node.Ack.TheVariants as ack
use Rattle.ttp_world.specs.declared.script.Source.{Source}
use Rattle.ttp_world.specs.declared.script.Source.TheVariants as source
use Rattle.ttp_world.specs.Trace.{source_word}
use Rattle.line_reader.specs.declared.trace_line.Word.{Word}
use Rattle.line_reader.specs.declared.trace_line.Word.TheVariants as word
use Rattle.line_reader.specs.TraceLines.{back_text}
use Rattle.whole_trace.specs.declared.shown.HostLine.TheVariants as by_host
use Rattle.shown_slot.specs.declared.node.ClockRange.{ClockRange}
use Rattle.shown_slot.specs.Nodes.{sends, spread_in}
use Rattle.picture_text.specs.Cells.{holders_of, doubt_class, other_class, data_class, refused_class, short_number}
use Rattle.picture_text.specs.Cells.{far_text, far_shown}
use Rattle.picture_text.specs.Picture.{before_text, behind_text, window_text}
use Rattle.picture_text.specs.Cells.{head_member_digits}
use Rattle.picture_text.specs.Tables.{word_meaning, rule_meanings, returning_meanings, back_meaning}
use Rattle.picture_text.specs.Tables.{keep_name, back_name}
use Rattle.ttp_world.specs.Acknowledgement.{is_doubt}

-- a line feed, `<` or `&`
abbrev pub is_special : ℕ → Bool
is_special c = (c == 10) || ((60 == c) || (38 == c))

-- a text without them
abbrev pub Plain : List ℕ → Type 0
Plain text = list_any is_special text ≡ false

pub plain-append : (x y : List ℕ) → Plain x → Plain y → Plain (x ++ y)
plain-append x y p q = rw (list_any-append is_special x y, p, q) refl

pub special-append : (x y : List ℕ) → list_any is_special (x ++ y) ≡ (list_any is_special x || list_any is_special y)
special-append x y = list_any-append is_special x y

-- Numbers.

glyph-plain : (small : Bool) (d : ℕ) → nat_lt d 10 ≡ small → is_special (cond small (48 + d) (87 + d)) ≡ false
glyph-plain true d less = grind (arith, less)
glyph-plain false d less = grind (arith, less)

special-onto : (k n : ℕ) (text : List ℕ)
    → list_any is_special (digits_onto k 10 false n text) ≡ list_any is_special text
special-onto zero n text = refl
special-onto (suc k) n text =
    let more = digit_glyph false (n % 10) ∷ text in
    let here : list_any is_special more ≡ list_any is_special text =
    rw (glyph-plain (nat_lt (n % 10) 10) (n % 10) refl) refl in
    let go : (last : Bool)
    → list_any is_special (cond last more (digits_onto k 10 false (n / 10) more)) ≡ list_any is_special text =
    elim [ true ↦ here | false ↦ special-onto k (n / 10) more ∙ here ] in
    go (n / 10 == 0)

pub plain-decimal : (n : ℕ) → Plain (decimal n)
unfolding digits
plain-decimal n = special-onto 64 n []

plain-signed : (z : ℤ) → Plain (signed_decimal z)
plain-signed (pos n) = plain-decimal n
plain-signed (negsuc n) = rw (plain-decimal (suc n)) refl

pub plain-hex : (digits v : ℕ) → Plain (hex digits v)
plain-hex zero v = refl
plain-hex (suc digits) v =
    plain-append (hex digits (v / 16)) (hex_digit (v % 16) ∷ []) (plain-hex digits (v / 16))
    (rw (glyph-plain (nat_lt (v % 16) 10) (v % 16) refl) refl)

plain-byte_hex : (byte : ℕ) → Plain (byte_hex byte)
plain-byte_hex byte =
    let high = glyph-plain (nat_lt (byte / 16) 10) (byte / 16) refl in
    rw (high, glyph-plain (nat_lt (byte % 16) 10) (byte % 16) refl) refl

plain-hex_bytes : (bytes : List ℕ) → Plain (hex_bytes bytes)
plain-hex_bytes [] = refl
plain-hex_bytes (byte ∷ bytes) =
    plain-append (byte_hex byte) (hex_bytes bytes) (plain-byte_hex byte) (plain-hex_bytes bytes)

pub ruleset parts = (special-append, plain-decimal, plain-hex)

-- Words.

plain-number : (number : Option ℕ) → Plain (number_or_dash number)
plain-number None = refl
plain-number (Some n) = plain-decimal n

plain-ack : (a : Ack) → Plain (ack_word a)
plain-ack ack.Closed = refl
plain-ack ack.First = refl
plain-ack (ack.Doubt x) = simp parts

plain-source : (from : Source) → Plain (source_word from)
plain-source source.Status = refl
plain-source (source.Node p) = plain-decimal p

pub plain-word : (w : Word) → Plain (word_text w)
plain-word word.Off = refl
plain-word w = refl

pub plain-letter : (w : Word) → Plain (letter w)
plain-letter word.Off = refl
plain-letter w = refl

pub plain-meaning : (w : Word) → Plain (word_text w ++ codes ": " ++ word_meaning w)
plain-meaning word.Off = refl
plain-meaning w = refl

-- Lines of the trace.

pub plain-head : (head : Head) → Plain (header_text head)
plain-head head =
    plain-append (codes "ttpbench trace " ++ decimal head.version ++ codes " nodes " ++ decimal head.nodes
    ++ codes " rounds " ++ decimal head.rounds ++ codes " slots " ++ decimal head.slots ++ codes " schedule ")
    (hex 6 head.schedule) (simp parts) (plain-hex 6 head.schedule)

pub plain-keep : (k : Keep) → Plain (keep_text k)
plain-keep (keep.Yes start) = simp parts
plain-keep (keep.No rule slot) = simp parts

pub plain-back : (b : Back) → Plain (back_text b)
plain-back (back.Yes start) = simp parts
plain-back (back.No rule slot) = simp parts

pub plain-node : (head : Head) (t k : ℕ) (node : NodeShown) → Plain (node_text head t k node)
plain-node head t k node = simp (parts, plain-word, plain-number, plain-ack, plain-signed)

pub plain-host : (t : ℕ) (line : HostLine) → Plain (host_text t line)
plain-host t (by_host.Write host number) = simp parts
plain-host t (by_host.Read host from number payload) = simp (parts, plain-source, plain-hex_bytes)

-- The head.

pub plain-more : (s : Option ℕ) → Plain (more_text s)
plain-more None = refl
plain-more (Some t) = simp parts

plain-if : (b : Bool) (x y : List ℕ) → Plain x → Plain y → Plain (cond b x y)
plain-if true x y p q = p
plain-if false x y p q = q

plain-before : (first : ℕ) (quiet : Bool) → Plain (before_text first quiet)
plain-before first quiet =
    let all = codes "; before: all nodes off or listening" in
    let some = codes "; before: ttplab picture TRACE 0 " ++ decimal (first - 1) in
    plain-if (first == 0) [] (cond quiet all some) refl (plain-if quiet all some refl (simp parts))

plain-behind : (last slots : ℕ) → Plain (behind_text last slots)
plain-behind last slots =
    plain-if (last + 1 == slots) []
    (codes "; behind: ttplab picture TRACE " ++ decimal (last + 1) ++ codes " "
    ++ decimal (slots - 1)) refl (simp parts)

pub plain-shown : (span : Span) (slots : ℕ) (quiet : Bool) (strange : Option ℕ)
    → Plain (window_text span slots quiet strange)
plain-shown span slots quiet strange =
    simp (parts, plain-before span.first quiet, plain-behind span.last slots, plain-more strange)

-- an entry of a table of such texts
plain-any : (table : Lines) (i : ℕ) → AllByRecursion (λ text. Plain text) table → Plain (get_or table i [])
plain-any [] i are = refl
plain-any (text ∷ table) zero are = are.0
plain-any (text ∷ table) (suc i) are = plain-any table i are.1

pub plain-keep_meaning : (k : Keep) → Plain (keep_meaning k)
plain-keep_meaning (keep.Yes start) = simp parts
plain-keep_meaning (keep.No rule slot) =
    plain-any rule_meanings (rule - 1) (refl, (refl, (refl, (refl, (refl, (refl, (refl, tt)))))))

pub plain-back_meaning : (b : Back) → Plain (back_meaning b)
plain-back_meaning (back.Yes start) = refl
plain-back_meaning (back.No rule slot) =
    plain-any returning_meanings (rule - 1) (refl, (refl, (refl, (refl, (refl, (refl, (refl, (refl, tt))))))))

-- Cells.

pub plain-class : (node : NodeShown) (most : Option ℕ) (refused : Bool) → Plain (node_class node most refused)
plain-class node most refused =
    let message = plain-if (is_some node.message) (codes " data") [] refl refl in
    let doubt = plain-if (is_doubt node.ack) (codes " doubt") [] refl refl in
    let sent = plain-if (sends node.word && refused) (codes " refused") [] refl refl in
    simp (special-append, plain-word node.word, doubt, other most, message, sent)
  where
    other : (held : Option ℕ) → Plain (other_class node held)
    other None = refl
    other (Some members) =
        plain-if (is_holder node && not (set_bits node.members == members)) (codes " other") [] refl refl

plain-flat : {X : Type 0} (f : X → List ℕ) (xs : List X) → ((x : X) → Plain (f x)) → Plain (flat_map f xs)
plain-flat f [] are = refl
plain-flat f (x ∷ xs) are = plain-append (f x) (flat_map f xs) (are x) (plain-flat f xs are)

plain-membership : (head : Head) (slot : SlotLines) (members : ℕ) → Plain (membership_text head slot members)
plain-membership head slot members =
    let holders = plain-flat (λ k. codes " " ++ decimal k) (holders_of members slot) plain-decimal in
    simp (parts, holders)

pub plain-members : (head : Head) (t : ℕ) (slot : SlotLines) → Plain (members_title head t slot)
plain-members head t slot =
    let held = plain-flat (membership_text head slot) (shown_memberships slot.nodes) (plain-membership head slot) in
    simp (parts, held)

pub plain-no_members : (t : ℕ) → Plain (codes "slot " ++ decimal t ++ codes " members -")
plain-no_members t = simp parts

pub plain-count : (nodes : List NodeShown) → Plain (count_of nodes)
plain-count [] = refl
plain-count (node ∷ nodes) =
    plain-if (is_holder node) (decimal (length node.members)) (count_of nodes) (plain-decimal (length node.members))
    (plain-count nodes)

plain-apart : (range : Option ClockRange) → Plain (apart_text range)
plain-apart None = refl
plain-apart (Some range) = plain-decimal (spread_in range)

pub plain-clocks : (t : ℕ) (range : Option ClockRange)
    → Plain (codes "slot " ++ decimal t ++ codes " clocks apart " ++ apart_text range)
plain-clocks t range = simp (parts, plain-apart range)

plain-short : (number : ℕ) → Plain (short_number number)
plain-short number =
    let thousands = decimal (number / 1000) ++ codes "k" in
    plain-if (nat_lt number 10000) (decimal number) (cond (nat_lt number 1000000) thousands (codes "1M+"))
    (plain-decimal number) (plain-if (nat_lt number 1000000) thousands (codes "1M+") (simp parts) refl)

pub plain-apart_shown : (range : Option ClockRange) → Plain (apart_shown range)
plain-apart_shown None = refl
plain-apart_shown (Some range) = plain-short (spread_in range)

plain-far_text : (far : Option ℕ) → Plain (far_text far)
plain-far_text None = refl
plain-far_text (Some k) = simp parts

pub plain-far : (t : ℕ) (far : Option ℕ)
    → Plain (codes "slot " ++ decimal t ++ codes " clock apart from most " ++ far_text far)
plain-far t far = simp (parts, plain-far_text far)

pub plain-far_shown : (far : Option ℕ) → Plain (far_shown far)
plain-far_shown None = refl
plain-far_shown (Some k) = plain-decimal k

-- Flags.

pub plain-keep_name : (k : Keep) → Plain (keep_name k)
plain-keep_name (keep.Yes start) = refl
plain-keep_name (keep.No rule slot) = simp parts

pub plain-back_name : (b : Back) → Plain (back_name b)
plain-back_name (back.Yes start) = refl
plain-back_name (back.No rule slot) = simp parts
