-- The line of a node that is made of the pieces of another.
use Rattle.std.proofs.Common.{◌≡◌, ℕ, ◌+◌, ◌-◌, ◌*◌, ◌/◌, ◌%◌, ◌^◌, ◌<◌, ℤ, List, [], ◌∷◌, ◌++◌, length}
use Rattle.std.proofs.Common.{get_or, take, drop, Option, Some, None, IfSome, refl, sym, ap, ◌∙◌, arith}
use Rattle.std.proofs.Common.{append_assoc, codes, length-append}
use Rattle.std.specs.Fmt.{decimal, signed_decimal}
use Rattle.std.specs.Str.{bytes_eq}
use Rattle.std.proofs.lemmas.List.{append-nil, take-append-drop}
use Rattle.std.proofs.lemmas.Slice.Eq.{bytes_eq-Decides}
use Rattle.std.proofs.Math.Seq.{take-append_seam, drop-append_seam}
use Rattle.std.proofs.lemmas.Fmt.{decimal_digit, decimal_step}
use Rattle.ttp_base.specs.NodeSet.{set_bits}
use Rattle.ttp_base.specs.Text.{newline, hex, lines_of, gather}
use Rattle.ttp_base.proofs.Numerals.{has}
use Rattle.ttp_world.specs.Medl.{member_bytes}
use Rattle.ttp_world.specs.Trace.{number_or_dash, ack_word, told_pieces, ack_pieces}
use Rattle.line_form.specs.Kinds.{signed, signed_numeral}
use Rattle.whole_trace.proofs.FromBelow.{takes, concat-lines_of, first_line, lines_of-behind, guarded, line-takes}
use Rattle.whole_trace.proofs.FromBelow.{offset-small, line-again, fed-is_line}
use Rattle.line_reader.specs.declared.trace_line.NodeLine.{NodeLine}
use Rattle.line_reader.specs.declared.trace_line.TraceLine.{TraceLine}
use Rattle.line_reader.specs.declared.trace_line.TraceLine.TheVariants as line
use Rattle.line_reader.specs.Reading.{line_in}
use Rattle.line_reader.specs.TraceLines.{word_text, text_of, Fits, FitsNode, FitsOffset}
use Rattle.whole_trace.specs.Alike.{HasPieces, IsNodeFront}
use Rattle.whole_trace.specs.Whole.{value_of}
use Rattle.whole_trace.proofs.Texts.{cut-front}

-- The value of a line with its line feed.

value-fed : (x : List ℕ) → value_of (x ++ newline) ≡ line_in x
value-fed x =
    let front : length (x ++ newline) - 1 ≡ length x = omega (arith, length-append x newline) in
    rw (front, drop-append_seam x newline, take-append_seam x newline) refl

pub value-again : (v : TraceLine) → Fits v → value_of (text_of v ++ newline) ≡ Some v
value-again v fits = value-fed (text_of v) ∙ line-again v fits

-- a line that is read is what it says
pub value-text : (text : List ℕ) (v : TraceLine) → value_of text ≡ Some v → text ≡ text_of v ++ newline
value-text text v e =
    let n = length text - 1 in
    let g = guarded (bytes_eq (drop n text) newline) (line_in (take n text)) v e in
    let end : drop n text ≡ newline = (bytes_eq-Decides (drop n text) newline).0 g.0 in
    sym (take-append-drop n text) ∙ (λ i. (line-takes (take n text) v g.1).1 i ++ end i)

-- what is read of a line fits into it
pub value_fits : (text : List ℕ) (v : TraceLine) → value_of text ≡ Some v → Fits v
value_fits text v e =
    let bytes = take (length text - 1) text in
    (line-takes bytes v (guarded (bytes_eq (drop (length text - 1) text) newline) (line_in bytes) v e).1).0

-- Numbers in front of bytes.

pub one_digit : (h : ℕ) (bytes rest : List ℕ) → bytes ≡ (48 + h) ∷ rest → h < 10 → bytes ≡ decimal h ++ rest
one_digit h bytes rest is small = is ∙ ap (λ (d : List ℕ). d ++ rest) (sym (decimal_digit h small))

pub two_digits : (h l : ℕ) (bytes rest behind : List ℕ) → bytes ≡ (48 + h) ∷ rest → rest ≡ (48 + l) ∷ behind → 0 < h
    → h < 10 → l < 10 → bytes ≡ decimal (10 * h + l) ++ behind
two_digits h l bytes rest behind first second some high low =
    let n = 10 * h + l in
    let tens : n / 10 ≡ h = omega (arith, low) in
    let ones : n % 10 ≡ l = omega (arith, low) in
    let text : decimal n ≡ (48 + h) ∷ (48 + l) ∷ [] =
    decimal_step n (omega (arith, some)) (omega (arith, high, low))
    ∙ (λ i. decimal (tens i) ++ (48 + ones i) ∷ []) ∙ ap (λ (d : List ℕ). d ++ (48 + l) ∷ []) (decimal_digit h high) in
    first ∙ ap (λ (l : List ℕ). (48 + h) ∷ l) second ∙ ap (λ (d : List ℕ). d ++ behind) (sym text)

-- a clock with its line feed
pub clock-takes : (bytes : List ℕ) (o : Option ℤ) → drop (length bytes - 1) bytes ≡ newline
    → o ≡ signed_numeral (10 ^ 18) (take (length bytes - 1) bytes)
    → IfSome o (λ z. (bytes ≡ signed_decimal z ++ newline) × FitsOffset z)
clock-takes bytes None end is = tt
clock-takes bytes (Some z) end is =
    let n = length bytes - 1 in
    let clock = takes (signed (10 ^ 18)) (take n bytes) z (sym is) in
    (sym (take-append-drop n bytes) ∙ (λ i. clock.text i ++ end i), offset-small z clock.fit)

-- Pieces.

-- pieces one behind the other, and then more
abbrev onto : List ℕ → List (List ℕ) → List ℕ
onto more [] = more
onto more (piece ∷ pieces) = piece ++ onto more pieces

gathered-onto : (text : List ℕ) (pieces : List (List ℕ)) (more : List ℕ)
    → gather text pieces ++ more ≡ text ++ onto more pieces
gathered-onto text [] more = refl
gathered-onto text (piece ∷ pieces) more =
    gathered-onto (text ++ piece) pieces more ∙ append_assoc text piece (onto more pieces)

module _ (n : NodeLine) (k a : ℕ) (z : ℤ) (head judged behind text r1 r2 r3 r4 r5 last rest : List ℕ) where
  -- the line of these pieces at the front of a text, with a node, a count of accepted frames and a clock of its own
  pub alike-front : HasPieces n head judged behind → k < 256 → a < 256 → FitsOffset z → text ≡ head ++ r1
      → r1 ≡ decimal k ++ r2 → r2 ≡ judged ++ r3 → r3 ≡ decimal a ++ r4 → r4 ≡ behind ++ r5 → r5 ≡ last ++ rest
      → last ≡ signed_decimal z ++ newline
      → IsNodeFront text (record {
        slot = n.slot;
        node = k;
        word = n.word;
        peer = n.peer;
        message = n.message;
        wide =
            n.wide;
        members = n.members;
        accepted = a;
        rejected = n.rejected;
        ack = n.ack;
        offset = z;
      }) rest
  alike-front has node count clock e1 e2 e3 e4 e5 e6 e7 =
      let v = line.Node n.slot k n.word n.peer n.message n.wide n.members a n.rejected n.ack z in
      let f : FitsNode n.slot n.node n.word n.peer n.message n.wide n.members
      n.accepted n.rejected n.ack n.offset = has.fits in
      let fits : Fits v = record {
        slot = f.slot;
        node = node;
        word = f.word;
        peer = f.peer;
        message = f.message;
        members = f.members;
        accepted = count;
        rejected = f.rejected;
        ack = f.ack;
        offset = clock;
      } in
      let fed = newline ++ rest in
      let front = codes "slot " ∷ decimal n.slot ∷ codes " node " ∷ [] in
      let words = told_pieces (word_text n.word) (number_or_dash n.peer) (number_or_dash n.message)
      (hex (2 * member_bytes n.wide) (set_bits n.members)) in
      let last_words = ack_pieces (decimal n.rejected) (ack_word n.ack) in
      let one = text_of v ++ newline in
      let all : text ≡ one ++ rest =
      e1 ∙ (λ i. has.begins i ++ e2 i) ∙ gathered-onto [] front (decimal k ++ r2)
      ∙ ap (λ (l : List ℕ). onto (decimal k ++ l) front)
      (e3 ∙ (λ i. has.tells i ++ e4 i) ∙ gathered-onto [] words (decimal a ++ r4)
      ∙ ap (λ (l : List ℕ). onto (decimal a ++ l) words)
      (e5 ∙ (λ i. has.goes_on i ++ e6 i) ∙ gathered-onto [] last_words (last ++ rest)
      ∙ ap (λ (l : List ℕ). onto l last_words)
      (ap (λ (l : List ℕ). l ++ rest) e7 ∙ append_assoc (signed_decimal z) newline rest)))
      ∙ sym (gathered-onto [] (front ++ (decimal k ∷ words ++ (decimal a ∷ last_words ++ (signed_decimal z ∷ [])))) fed)
      ∙ sym (append_assoc (text_of v) newline rest) in record {
        line = one;
        cut =
            ap lines_of all ∙ ap (λ (l : List ℕ). lines_of (l ++ rest)) (sym (append-nil one))
            ∙ lines_of-behind (one ∷ []) rest (fed-is_line v fits, tt);
        value = value-again v fits;
      }

-- the first line of a text that has some bytes, and the rest
pub cut-whole : (text line rest : List ℕ) → get_or (lines_of text) 0 [] ≡ line → drop 1 (lines_of text) ≡ lines_of rest
    → 0 < length line → text ≡ line ++ rest
cut-whole [] line rest first others some = absurd (omega (arith, some, ap length first))
cut-whole (b ∷ text) line rest first others some =
    first_line (b ∷ text) line (lines_of rest) (cut-front (b ∷ text) line rest first others (omega arith))
    ∙ ap (λ (r : List ℕ). line ++ r) (concat-lines_of rest)
