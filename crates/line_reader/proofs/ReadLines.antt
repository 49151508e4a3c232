-- What is read of a line is what the line says, and it fits.
use Rattle.std.proofs.Common.{◌≡◌, ℕ, ◌^◌, true, List, [], ◌∷◌, ◌++◌, length, Option, Some, None}
use Rattle.std.proofs.Common.{IfSome, sym, ap, subst, ◌∙◌, arith, codes, decimal, refl}
use Rattle.std.specs.Prelude.{nat_le}
use Rattle.std.specs.Fmt.{signed_decimal}
use Rattle.std.specs.List.{list_all}
use Rattle.std.proofs.lemmas.Bool.{and_parts, ltb-true, leb-true}
use Rattle.ttp_base.specs.Text.{hex_bytes}
use Rattle.ttp_world.specs.Trace.{node_line_text}
use Rattle.line_reader.proofs.FromBelow.{guarded, some_same, reads-found, spelled-gathered, each_fits, bound}
use Rattle.line_form.specs.Kinds.{numeral, numeral_in, hex_number, is_byte, ◌>>=◌}
use Rattle.line_form.specs.Forms.{LineForm, Values, spelled, fit, well, line_values}
use Rattle.line_reader.specs.declared.trace_line.TraceLine.{TraceLine}
use Rattle.line_reader.specs.Reading.{head_in, node_in, write_line_in, read_line_in}
use Rattle.line_reader.specs.Reading.{kept_in, broken_in, owed_in, refused_in}
use Rattle.line_reader.specs.Reading.{or_else, line_in}
use Rattle.line_reader.specs.TraceForms.{head_form, node_form, write_form, read_form, kept_form, broken_form, owed_form}
use Rattle.line_reader.specs.TraceForms.{refused_form, head_meaning, node_meaning, write_meaning}
use Rattle.line_reader.specs.TraceForms.{read_meaning, kept_meaning}
use Rattle.line_reader.specs.TraceForms.{broken_meaning, owed_meaning, refused_meaning, word_at_place, source_of_named}
use Rattle.line_reader.specs.TraceLines.{fits_word, has_size, text_of, Fits}
use Rattle.line_reader.proofs.ValueLaws.{place-text, dash-text, dash-small, ack-text}
use Rattle.line_reader.proofs.ValueLaws.{ack-small, source-text, source-small}
use Rattle.line_reader.proofs.ValueLaws.{bytes-small, offset-small, members-text, members-small}

abbrev pub IsRead : List ℕ → TraceLine → Type 0
IsRead bytes v = Fits v × (bytes ≡ text_of v)

-- What the values of a form say is read of their text.
abbrev Says : (form : LineForm) → (Values form → Option TraceLine) → Type 0
Says form f = (vs : Values form) (v : TraceLine) → fit form vs ≡ true → f vs ≡ Some v → IsRead (spelled form vs) v

pub head-says : Says head_form head_meaning
head-says (version, (nodes, (rounds, (slots, (schedule, end))))) v fits e =
    let f = each_fits head_form (version, (nodes, (rounds, (slots, (schedule, end))))) fits in
    subst (IsRead (spelled head_form (version, (nodes, (rounds, (slots, (schedule, end))))))) (some_same _ v e) (
      record {
        version = ltb-true version 256 f.0;
        nodes = ltb-true nodes 256 f.1.0;
        rounds = ltb-true rounds 256 f.1.1.0;
        slots = ltb-true slots 100000 f.1.1.1.0;
        schedule = omega (arith, ltb-true schedule (16 ^ 6) f.1.1.1.1.0);
      },
      spelled-gathered head_form (version, (nodes, (rounds, (slots, (schedule, end))))),
    )

pub write-says : Says write_form write_meaning
write-says (slot, (host, (n, end))) v fits e =
    let f = each_fits write_form (slot, (host, (n, end))) fits in
    subst (IsRead (spelled write_form (slot, (host, (n, end))))) (some_same _ v e) (
      record {
        slot = ltb-true slot 100000 f.0;
        host = ltb-true host 256 f.1.0;
        number = ltb-true n 1000000 f.1.1.0;
      },
      spelled-gathered write_form (slot, (host, (n, end))),
    )

pub read-says : Says read_form read_meaning
read-says (slot, (host, (from, (n, (bytes, end))))) v fits e =
    let f = each_fits read_form (slot, (host, (from, (n, (bytes, end))))) fits in
    let p = and_parts (nat_le (length bytes) 240) (list_all is_byte bytes) f.1.1.1.1.0 in
    let g = guarded (has_size (source_of_named from) (length bytes)) _ v e in
    subst (IsRead (spelled read_form (slot, (host, (from, (n, (bytes, end))))))) (some_same _ v g.1) (
      record {
        slot = ltb-true slot 100000 f.0;
        host = ltb-true host 256 f.1.0;
        number = ltb-true n 1000000 f.1.1.1.0;
        source = source-small from (length bytes) f.1.1.0 g.0 (leb-true (length bytes) 240 p.0);
        payload = bytes-small bytes p.1;
      },
      spelled-gathered read_form (slot, (host, (from, (n, (bytes, end)))))
          ∙ ap (λ (s : List ℕ). (codes "slot " ++ decimal slot ++ codes " host " ++ decimal host) ++ codes " read " ++ s
          ++ codes " " ++ decimal n ++ codes " " ++ hex_bytes bytes) (source-text from f.1.1.0),
    )

pub kept-says : Says kept_form kept_meaning
kept-says (start, end) v fits e =
    let f = each_fits kept_form (start, end) fits in
    subst (IsRead (spelled kept_form (start, end))) (some_same _ v e)
    (ltb-true start 100000 f.0, spelled-gathered kept_form (start, end))

pub broken-says : Says broken_form broken_meaning
broken-says (rule, (slot, end)) v fits e =
    let f = each_fits broken_form (rule, (slot, end)) fits in
    subst (IsRead (spelled broken_form (rule, (slot, end)))) (some_same _ v e)
    ((ltb-true rule 256 f.0, ltb-true slot 100000 f.1.0), spelled-gathered broken_form (rule, (slot, end)))

pub owed-says : Says owed_form owed_meaning
owed-says (start, end) v fits e =
    let f = each_fits owed_form (start, end) fits in
    subst (IsRead (spelled owed_form (start, end))) (some_same _ v e)
    (ltb-true start 100000 f.0, spelled-gathered owed_form (start, end))

pub refused-says : Says refused_form refused_meaning
refused-says (rule, (slot, end)) v fits e =
    let f = each_fits refused_form (rule, (slot, end)) fits in
    subst (IsRead (spelled refused_form (rule, (slot, end)))) (some_same _ v e)
    ((ltb-true rule 256 f.0, ltb-true slot 100000 f.1.0), spelled-gathered refused_form (rule, (slot, end)))

pub node-says : Says node_form node_meaning
node-says (slot, (k, (w, (peer, (message, (members, (accepted, (rejected, (a, (offset, end)))))))))) v fits e =
    let vs : Values node_form =
    (slot, (k, (w, (peer, (message, (members, (accepted, (rejected, (a, (offset, end)))))))))) in
    let f = each_fits node_form vs fits in
    let words = f.1.1 in
    let rest = words.1.1.1 in
    let g = guarded (fits_word (word_at_place w) peer message) _ v e in
    subst (IsRead (spelled node_form vs)) (some_same _ v g.1) (
      record {
        slot = ltb-true slot 100000 f.0;
        node = ltb-true k 256 f.1.0;
        word = g.0;
        peer = dash-small 256 peer words.1.0;
        message = dash-small 1000000 message words.1.1.0;
        members = members-small members rest.0;
        accepted = ltb-true accepted 256 rest.1.0;
        rejected = ltb-true rejected 256 rest.1.1.0;
        ack = ack-small a rest.1.1.1.0;
        offset = offset-small offset rest.1.1.1.1.0;
      },
      spelled-gathered node_form vs
          ∙ (λ i. node_line_text (decimal slot) (decimal k)
          (place-text w (ltb-true w 15 words.0) i) (dash-text 256 peer i)
          (dash-text 1000000 message i) (members-text members rest.0 i) (decimal accepted) (decimal rejected)
          (ack-text a rest.1.1.1.0 i) (signed_decimal offset)),
    )

-- A form that is sound, and what its values say.
pub record LineReading : Type 0 where
  pub form : LineForm
  pub meaning : Values form → Option TraceLine
  pub says : Says form meaning
  pub is : well form ≡ true

pub node_well : well node_form ≡ true
unfolding numeral numeral_in hex_number
node_well = refl

pub read_well : well read_form ≡ true
unfolding numeral numeral_in
read_well = refl

abbrev pub node_reading : LineReading
node_reading = record { form = node_form; meaning = node_meaning; says = node-says; is = node_well }

abbrev pub read_reading : LineReading
read_reading = record { form = read_form; meaning = read_meaning; says = read-says; is = read_well }

abbrev pub write_reading : LineReading
write_reading = record { form = write_form; meaning = write_meaning; says = write-says; is = refl }

abbrev pub head_reading : LineReading
head_reading = record { form = head_form; meaning = head_meaning; says = head-says; is = refl }

abbrev pub kept_reading : LineReading
kept_reading = record { form = kept_form; meaning = kept_meaning; says = kept-says; is = refl }

abbrev pub broken_reading : LineReading
broken_reading = record { form = broken_form; meaning = broken_meaning; says = broken-says; is = refl }

abbrev pub owed_reading : LineReading
owed_reading = record { form = owed_form; meaning = owed_meaning; says = owed-says; is = refl }

abbrev pub refused_reading : LineReading
refused_reading = record { form = refused_form; meaning = refused_meaning; says = refused-says; is = refl }

-- in the order in which they are tried
abbrev pub readings : List LineReading
readings =
    node_reading ∷ read_reading ∷ write_reading ∷ head_reading ∷ kept_reading ∷ broken_reading ∷ owed_reading
    ∷ refused_reading ∷ []

abbrev pub read_by : LineReading → List ℕ → Option TraceLine
read_by r bytes = line_values r.form bytes >>= r.meaning

abbrev pub first_of : List LineReading → List ℕ → Option TraceLine
first_of [] bytes = None
first_of (r ∷ []) bytes = read_by r bytes
first_of (r ∷ s ∷ others) bytes = or_else (read_by r bytes) (first_of (s ∷ others) bytes)

took : (r : LineReading) (bytes : List ℕ) (v : TraceLine) → read_by r bytes ≡ Some v → IsRead bytes v
took r bytes v e =
    let b = bound (line_values r.form bytes) r.meaning v e in
    let found = subst (λ (o : Option (Values r.form)).
    IfSome o (λ vs. (fit r.form vs ≡ true) × (bytes ≡ spelled r.form vs)))
    b.read (reads-found r.form bytes) in
    subst (λ (t : List ℕ). IsRead t v) (sym found.1) (r.says b.value v found.0 b.gives)

one_or : (P : Type 0) (a b : Option TraceLine) (v : TraceLine) → (a ≡ Some v → P) → (b ≡ Some v → P)
    → or_else a b ≡ Some v → P
one_or P None b v one other e = other e
one_or P (Some u) b v one other e = one e

takes : (rs : List LineReading) (bytes : List ℕ) (v : TraceLine) → first_of rs bytes ≡ Some v → IsRead bytes v
takes [] bytes v e = cc
takes (r ∷ []) bytes v e = took r bytes v e
takes (r ∷ s ∷ others) bytes v e =
    one_or (IsRead bytes v) (read_by r bytes) (first_of (s ∷ others) bytes) v
    (took r bytes v) (takes (s ∷ others) bytes v) e

pub line-takes : (bytes : List ℕ) (v : TraceLine) → line_in bytes ≡ Some v → IsRead bytes v
unfolding line_in node_in read_line_in write_line_in head_in kept_in broken_in owed_in refused_in
line-takes bytes v e = takes readings bytes v e

pub read_is_line : (bytes : List ℕ) (result : Option TraceLine) → result ≡ line_in bytes
    → IfSome result (λ v. Fits v × (bytes ≡ text_of v))
read_is_line bytes None e = tt
read_is_line bytes (Some v) e = line-takes bytes v (sym e)
