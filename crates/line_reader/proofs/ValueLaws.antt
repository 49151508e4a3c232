-- The values of words are what the line of a trace says of them, and both ways.
use Rattle.std.proofs.Common.{◌≡◌, ℕ, zero, suc, ◌*◌, ◌^◌, ◌<◌, ◌≤◌, Bool, true, false, ℤ, pos, negsuc}
use Rattle.std.proofs.Common.{List, [], ◌∷◌, length, get_or, Option, Some, None, IfSome, refl, sym, ap, ◌∙◌, arith}
use Rattle.std.proofs.Common.{unsigned_abs}
use Rattle.std.specs.Prelude.{nat_lt}
use Rattle.std.specs.List.{list_all}
use Rattle.std.proofs.lemmas.Bool.{and_parts, ltb-true, leb-true}
use Rattle.std.proofs.lemmas.Bool.Decides.{nat_tests}
use Rattle.std.proofs.lemmas.List.{get_or-map}
use Rattle.std.proofs.lemmas.List.Elements.{All-nil, All-cons, All-get_or, All-tail}
use Rattle.ttp_base.specs.NodeSet.{most_nodes, set_bits, members_in}
use Rattle.ttp_base.specs.NodeSetWord.{bits_of_members}
use Rattle.ttp_base.specs.Text.{hex}
use Rattle.ttp_world.specs.declared.node.Ack.{Ack}
use Rattle.ttp_world.specs.declared.node.Ack.TheVariants as ack
use Rattle.ttp_world.specs.declared.script.Source.{Source}
use Rattle.ttp_world.specs.declared.script.Source.TheVariants as source
use Rattle.ttp_world.specs.Medl.{member_bytes}
use Rattle.ttp_world.specs.Trace.{number_or_dash, ack_word, source_word}
use Rattle.line_text.specs.HostLines.{AreBytes}
use Rattle.line_form.specs.declared.named.Named.{Named}
use Rattle.line_form.specs.declared.named.Named.TheVariants as choice
use Rattle.line_form.specs.Kinds.{spell, fits_kind, number, hexed_or, or_dash, is_byte, count_of_digits}
use Rattle.line_reader.proofs.FromBelow.{is_lt, is_le, both_true}
use Rattle.line_reader.specs.declared.trace_line.NodeLine.{NodeLine}
use Rattle.line_reader.specs.declared.trace_line.TraceLine.{TraceLine}
use Rattle.line_reader.specs.declared.trace_line.TraceLine.TheVariants as line
use Rattle.line_reader.specs.declared.trace_line.Word.{Word}
use Rattle.line_reader.specs.declared.trace_line.Word.TheVariants as word
use Rattle.line_reader.specs.TraceForms.{node_words, word_place, word_at_place, ack_kind, ack_told, ack_of_named}
use Rattle.line_reader.specs.TraceForms.{source_kind, source_told, source_of_named}
use Rattle.line_reader.specs.TraceForms.{node_values, node_meaning, read_meaning}
use Rattle.line_reader.specs.TraceLines.{word_text, fits_word, has_size, FitsAck, FitsOffset, FitsMembers, FitsSource}

-- Words of nodes.

all_words : List Word
all_words =
    word.Off ∷ word.Wait ∷ word.Retry ∷ word.Gone ∷ word.Start ∷ word.Join ∷ word.Send ∷ word.Correct ∷ word.Tentative
    ∷ word.Incorrect ∷ word.Invalid ∷ word.Null ∷ word.Denied ∷ word.Unacknowledged ∷ word.Clique ∷ []

pub place-text : (w : ℕ) → w < 15 → get_or node_words w [] ≡ word_text (word_at_place w)
unfolding all_words
place-text w less = get_or-map word_text all_words w word.Clique [] less

pub word-back : (w : Word) → word_at_place (word_place w) ≡ w
word-back word.Off = refl
word-back w = refl

pub place-fits : (w : Word) → nat_lt (word_place w) 15 ≡ true
place-fits word.Off = refl
place-fits w = refl

-- Numbers or none.

pub dash-text : (limit : ℕ) (n : Option ℕ) → spell (or_dash (number limit)) n ≡ number_or_dash n
dash-text limit None = refl
dash-text limit (Some n) = refl

pub dash-small : (limit : ℕ) (n : Option ℕ) → fits_kind (or_dash (number limit)) n ≡ true → IfSome n (λ m. m < limit)
dash-small limit None fits = tt
dash-small limit (Some n) fits = ltb-true n limit fits

pub dash-fits : (limit : ℕ) (n : Option ℕ) → IfSome n (λ m. m < limit) → fits_kind (or_dash (number limit)) n ≡ true
dash-fits limit None small = refl
dash-fits limit (Some n) small = is_lt n limit small

-- Acknowledgements.

pub ack-text : (a : Named ℕ) → fits_kind ack_kind a ≡ true → spell ack_kind a ≡ ack_word (ack_of_named a)
ack-text (choice.Told (suc (suc i))) fits = absurd (omega (arith, ltb-true (suc (suc i)) 2 fits))
ack-text a fits = refl

pub ack-small : (a : Named ℕ) → fits_kind ack_kind a ≡ true → FitsAck (ack_of_named a)
ack-small (choice.Told zero) fits = tt
ack-small (choice.Told (suc i)) fits = tt
ack-small (choice.Other x) fits = ltb-true x 256 fits

pub ack-back : (a : Ack) → ack_of_named (ack_told a) ≡ a
ack-back ack.Closed = refl
ack-back a = refl

pub ack-fits : (a : Ack) → FitsAck a → fits_kind ack_kind (ack_told a) ≡ true
ack-fits ack.Closed fits = refl
ack-fits ack.First fits = refl
ack-fits (ack.Doubt x) fits = is_lt x 256 fits

-- Sources.

pub source-text : (s : Named ℕ) → fits_kind source_kind s ≡ true → spell source_kind s ≡ source_word (source_of_named s)
source-text (choice.Told zero) fits = refl
source-text (choice.Told (suc i)) fits = absurd (omega (arith, ltb-true (suc i) 1 fits))
source-text (choice.Other p) fits = refl

pub source-small : (s : Named ℕ) (size : ℕ) → fits_kind source_kind s ≡ true → has_size (source_of_named s) size ≡ true
    → size ≤ 240 → FitsSource (source_of_named s) size
source-small (choice.Told i) size fits right few = grind (arith, nat_tests)
source-small (choice.Other p) size fits some few = (ltb-true p 256 fits, leb-true 1 size some, few)

pub source-back : (s : Source) → source_of_named (source_told s) ≡ s
source-back source.Status = refl
source-back (source.Node p) = refl

pub source-fits : (s : Source) (size : ℕ) → FitsSource s size → fits_kind source_kind (source_told s) ≡ true
source-fits source.Status size fits = refl
source-fits (source.Node p) size fits = is_lt p 256 fits.0

pub size-right : (s : Source) (size : ℕ) → FitsSource s size → (has_size s size ≡ true) × (size ≤ 240)
size-right source.Status size fits = (grind (arith, nat_tests), omega (arith, fits))
size-right (source.Node p) size fits = (is_le 1 size fits.1, fits.2)

-- Bytes.

pub bytes-small : (bytes : List ℕ) → list_all is_byte bytes ≡ true → AreBytes bytes
bytes-small [] fits = All-nil (λ b. b < 256)
bytes-small (b ∷ bytes) fits =
    let t = and_parts (is_byte b) (list_all is_byte bytes) fits in
    All-cons (λ x. x < 256) b bytes (ltb-true b 256 t.0) (bytes-small bytes t.1)

pub bytes-fit : (bytes : List ℕ) → AreBytes bytes → list_all is_byte bytes ≡ true
bytes-fit [] small = refl
bytes-fit (b ∷ bytes) small =
    both_true (is_byte b) (list_all is_byte bytes)
    (is_lt b 256 (All-get_or (λ x. x < 256) (b ∷ bytes) 0 0 (omega arith) small))
    (bytes-fit bytes (All-tail (λ x. x < 256) b bytes small))

-- Clocks.

pub offset-small : (z : ℤ) → nat_lt (unsigned_abs z) (10 ^ 18) ≡ true → FitsOffset z
offset-small (pos n) fits = ltb-true n (10 ^ 18) fits
offset-small (negsuc n) fits = omega (arith, ltb-true (suc n) (10 ^ 18) fits)

pub offset-fits : (z : ℤ) → FitsOffset z → nat_lt (unsigned_abs z) (10 ^ 18) ≡ true
offset-fits (pos n) fits = is_lt n (10 ^ 18) fits
offset-fits (negsuc n) fits = is_lt (suc n) (10 ^ 18) (omega (arith, fits))

-- Members.

pub digits-of_members : (wide : Bool) → count_of_digits 4 6 wide ≡ 2 * member_bytes wide
digits-of_members true = refl
digits-of_members false = refl

few_bits : (wide : Bool) (bits : ℕ) → bits < 16 ^ count_of_digits 4 6 wide → bits < 2 ^ most_nodes
few_bits true bits small = omega (arith, small)
few_bits false bits small = omega (arith, small)

pub members-text : (m : Bool × ℕ) → fits_kind (hexed_or 4 6) m ≡ true
    → spell (hexed_or 4 6) m ≡ hex (2 * member_bytes m.0) (set_bits (members_in m.1))
members-text (wide, bits) fits =
    let back : set_bits (members_in bits) ≡ bits =
    bits_of_members bits (few_bits wide bits (ltb-true bits (16 ^ count_of_digits 4 6 wide) fits)) in
    (λ i. hex (digits-of_members wide i) (sym back i))

few_bytes : (wide : Bool) (bits : ℕ) → bits < 16 ^ count_of_digits 4 6 wide → bits < 256 ^ member_bytes wide
few_bytes true bits small = omega (arith, small)
few_bytes false bits small = omega (arith, small)

few_digits : (wide : Bool) (bits : ℕ) → bits < 256 ^ member_bytes wide → bits < 16 ^ count_of_digits 4 6 wide
few_digits true bits small = omega (arith, small)
few_digits false bits small = omega (arith, small)

pub members-small : (m : Bool × ℕ) → fits_kind (hexed_or 4 6) m ≡ true → FitsMembers (member_bytes m.0) (members_in m.1)
members-small (wide, bits) fits =
    let small = ltb-true bits (16 ^ count_of_digits 4 6 wide) fits in
    let back : set_bits (members_in bits) ≡ bits = bits_of_members bits (few_bits wide bits small) in record {
      set = ap members_in (sym back);
      few = omega (arith, back, few_bytes wide bits small);
    }

pub members-fit : (wide : Bool) (members : List ℕ) → FitsMembers (member_bytes wide) members
    → fits_kind (hexed_or 4 6) (wide, set_bits members) ≡ true
members-fit wide members fits =
    is_lt (set_bits members) (16 ^ count_of_digits 4 6 wide) (few_digits wide (set_bits members) fits.few)

-- What the values of a line with a node or a message say.

abbrev pub node_said : NodeLine → TraceLine
node_said n =
    line.Node n.slot n.node n.word n.peer n.message n.wide n.members n.accepted n.rejected n.ack n.offset

pub node-means : (slot k : ℕ) (w : Word) (peer message : Option ℕ)
    (members : Bool × ℕ) (set : List ℕ) (accepted rejected : ℕ)
    → (a : Ack) (offset clock : ℤ) → fits_word w peer message ≡ true → set ≡ members_in members.1 → clock ≡ offset
    → node_meaning (node_values slot k w peer message members accepted rejected a offset)
    ≡ Some (line.Node slot k w peer message members.0 set accepted rejected a clock)
node-means slot k w peer message members set accepted rejected a offset clock fits is same =
    rw (word-back w, ack-back a, fits, is, same) refl

pub node-no_line : (slot k : ℕ) (w : Word) (peer message : Option ℕ) (members : Bool × ℕ) (accepted rejected : ℕ)
    → (a : Ack) (offset : ℤ) → fits_word w peer message ≡ false
    → node_meaning (node_values slot k w peer message members accepted rejected a offset) ≡ None
node-no_line slot k w peer message members accepted rejected a offset fits = rw (word-back w, fits) refl

pub read-means : (slot host : ℕ) (from : Source) (n : ℕ) (bytes message : List ℕ) (size : ℕ) → message ≡ bytes
    → size ≡ length bytes → has_size from size ≡ true
    → read_meaning (slot, (host, (source_told from, (n, (bytes, tt))))) ≡ Some (line.Read slot host from n message)
read-means slot host from n bytes message size is long right =
    let fits : has_size from (length bytes) ≡ true = ap (has_size from) (sym long) ∙ right in
    rw (source-back from, fits, is) refl

pub read-no_line : (slot host : ℕ) (from : Source) (n : ℕ) (bytes : List ℕ) (size : ℕ) → size ≡ length bytes
    → has_size from size ≡ false → read_meaning (slot, (host, (source_told from, (n, (bytes, tt))))) ≡ None
read-no_line slot host from n bytes size long wrong =
    let unfit : has_size from (length bytes) ≡ false = ap (has_size from) (sym long) ∙ wrong in
    rw (source-back from, unfit) refl
