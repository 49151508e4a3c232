-- The line of a value that fits is read as that value, and is one line.
use Rattle.std.proofs.Common.{◌≡◌, ℕ, ◌+◌, ◌^◌, true, List, [], ◌∷◌, ◌++◌, length, take, drop, Option, Some, None}
use Rattle.std.proofs.Common.{refl, sym, ap, ◌∙◌, arith}
use Rattle.std.specs.List.{list_all}
use Rattle.std.proofs.lemmas.Bool.{and_parts}
use Rattle.ttp_base.specs.NodeSet.{set_bits}
use Rattle.ttp_base.specs.Text.{newline, is_line}
use Rattle.ttp_base.proofs.Lines.{is_line-append}
use Rattle.ttp_world.specs.declared.keep.Back.TheVariants as back
use Rattle.ttp_world.specs.declared.keep.Keep.TheVariants as keep
use Rattle.line_form.specs.Kinds.{has_byte, ◌>>=◌}
use Rattle.line_form.specs.Forms.{Values, spelled, fit, lines_part}
use Rattle.line_reader.proofs.FromBelow.{read_again, no_feed, other_line, is_lt, is_le}
use Rattle.line_reader.specs.declared.trace_line.TraceLine.{TraceLine}
use Rattle.line_reader.specs.declared.trace_line.TraceLine.TheVariants as line
use Rattle.line_reader.specs.Reading.{head_in, node_in, write_line_in, read_line_in}
use Rattle.line_reader.specs.Reading.{kept_in, broken_in, owed_in, refused_in}
use Rattle.line_reader.specs.Reading.{or_else, line_in}
use Rattle.line_reader.specs.TraceForms.{node_values, source_told}
use Rattle.line_reader.specs.TraceLines.{text_of, Fits}
use Rattle.line_reader.proofs.ReadLines.{LineReading, read_by, first_of, readings, node_reading}
use Rattle.line_reader.proofs.ReadLines.{read_reading, write_reading}
use Rattle.line_reader.proofs.ReadLines.{head_reading, kept_reading, broken_reading, owed_reading, refused_reading}
use Rattle.line_reader.proofs.ValueLaws.{word-back, place-fits, dash-fits, ack-back, ack-fits, source-back, source-fits}
use Rattle.line_reader.proofs.ValueLaws.{size-right, bytes-fit, offset-fits, members-fit}

-- a line says what some values say, which fit, of a form at a place from which those before it differ
record Written (v : TraceLine) : Type 0 where
  place : ℕ
  reading : LineReading
  values : Values reading.form
  fits : fit reading.form values ≡ true
  said : reading.meaning values ≡ Some v
  stands : take place readings ++ (reading ∷ drop (place + 1) readings) ≡ readings
  differs : list_all (λ (o : LineReading). lines_part o.form reading.form) (take place readings) ≡ true

stated : (v : TraceLine) (place : ℕ) (r : LineReading) (values : Values r.form) → fit r.form values ≡ true
    → r.meaning values ≡ Some v → take place readings ++ (r ∷ drop (place + 1) readings) ≡ readings
    → list_all (λ (o : LineReading). lines_part o.form r.form) (take place readings) ≡ true → Written v
stated v place r vs fits said stands differs =
    record { place = place; reading = r; values = vs; fits = fits; said = said; stands = stands; differs = differs }

written : (v : TraceLine) → Fits v → Written v
written (line.Node slot k w peer message wide members accepted rejected a offset) f =
    stated _ 0 node_reading (node_values slot k w peer message (wide, set_bits members) accepted rejected a offset)
    (rw (
      is_lt slot 100000 f.slot,
      is_lt k 256 f.node,
      place-fits w,
      dash-fits 256 peer f.peer,
      dash-fits 1000000 message f.message,
      members-fit wide members f.members,
      is_lt accepted 256 f.accepted,
      is_lt rejected 256 f.rejected,
      ack-fits a f.ack,
      offset-fits offset f.offset,
    ) refl)
    (rw (word-back w, f.word, ack-back a, sym f.members.set) refl) refl refl
written (line.Read slot host from n bytes) f =
    let size = size-right from (length bytes) f.source in
    stated _ 1 read_reading (slot, (host, (source_told from, (n, (bytes, tt)))))
    (rw (
      is_lt slot 100000 f.slot,
      is_lt host 256 f.host,
      source-fits from (length bytes) f.source,
      is_lt n 1000000 f.number,
      is_le (length bytes) 240 size.1,
      bytes-fit bytes f.payload,
    ) refl) (rw (source-back from, size.0) refl) refl refl
written (line.Write slot host n) f =
    stated _ 2 write_reading (slot, (host, (n, tt)))
    (rw (is_lt slot 100000 f.slot, is_lt host 256 f.host, is_lt n 1000000 f.number) refl) refl refl refl
written (line.Header version nodes rounds slots schedule) f =
    stated _ 3 head_reading (version, (nodes, (rounds, (slots, (schedule, tt)))))
    (rw (
      is_lt version 256 f.version,
      is_lt nodes 256 f.nodes,
      is_lt rounds 256 f.rounds,
      is_lt slots 100000 f.slots,
      is_lt schedule (16 ^ 6) (omega (arith, f.schedule)),
    ) refl) refl refl refl
written (line.Keep (keep.Yes start)) f =
    stated _ 4 kept_reading (start, tt) (rw (is_lt start 100000 f) refl) refl refl refl
written (line.Keep (keep.No rule slot)) f =
    stated _ 5 broken_reading (rule, (slot, tt)) (rw (is_lt rule 256 f.0, is_lt slot 100000 f.1) refl) refl refl refl
written (line.Back (back.Yes start)) f =
    stated _ 6 owed_reading (start, tt) (rw (is_lt start 100000 f) refl) refl refl refl
written (line.Back (back.No rule slot)) f =
    stated _ 7 refused_reading (rule, (slot, tt)) (rw (is_lt rule 256 f.0, is_lt slot 100000 f.1) refl) refl refl refl

text : (v : TraceLine) (w : Written v) → text_of v ≡ spelled w.reading.form w.values
text v w = sym (w.reading.says w.values v w.fits w.said).1

-- a form of other labels reads nothing
no_line : (v : TraceLine) (w : Written v) (other : LineReading) → lines_part other.form w.reading.form ≡ true
    → read_by other (text_of v) ≡ None
no_line v w other part =
    ap (read_by other) (text v w)
    ∙ ap (λ (o : Option (Values other.form)). o >>= other.meaning)
    (other_line other.form w.reading.form w.values part w.reading.is w.fits)

own_line : (v : TraceLine) (w : Written v) → read_by w.reading (text_of v) ≡ Some v
own_line v w =
    ap (read_by w.reading) (text v w)
    ∙ ap (λ (o : Option (Values w.reading.form)). o >>= w.reading.meaning)
    (read_again w.reading.form w.values w.reading.is w.fits)
    ∙ w.said

-- it is read by the first form that reads it
first_own : (v : TraceLine) (w : Written v) (before after : List LineReading)
    → list_all (λ (o : LineReading). lines_part o.form w.reading.form) before ≡ true
    → first_of (before ++ (w.reading ∷ after)) (text_of v) ≡ Some v
first_own v w [] [] differs = own_line v w
first_own v w [] (s ∷ after) differs =
    ap (λ (o : Option TraceLine). or_else o (first_of (s ∷ after) (text_of v))) (own_line v w)
first_own v w (o ∷ []) after differs =
    let p = and_parts (lines_part o.form w.reading.form) true differs in
    rw (no_line v w o p.0) (first_own v w [] after refl)
first_own v w (o ∷ p ∷ before) after differs =
    let parts = and_parts (lines_part o.form w.reading.form)
    (list_all (λ (q : LineReading). lines_part q.form w.reading.form)
    (p ∷ before)) differs in
    rw (no_line v w o parts.0) (first_own v w (p ∷ before) after parts.1)

pub line-again : (v : TraceLine) → Fits v → line_in (text_of v) ≡ Some v
unfolding line_in node_in read_line_in write_line_in head_in kept_in broken_in owed_in refused_in
line-again v fits =
    let w = written v fits in
    ap (λ (rs : List LineReading). first_of rs (text_of v)) (sym w.stands)
    ∙ first_own v w (take w.place readings) (drop (w.place + 1) readings) w.differs

pub fed-is_line : (v : TraceLine) → Fits v → is_line (text_of v ++ newline) ≡ true
fed-is_line v fits =
    let w = written v fits in
    is_line-append (text_of v) newline
    (ap (λ (t : List ℕ). has_byte 10 t) (text v w) ∙ no_feed w.reading.form w.values w.reading.is w.fits) refl
