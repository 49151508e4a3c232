use Rattle.std.proofs.Common.{sym, ◌∙◌, rules}
use Rattle.line_reader.proofs.FromBelow.{closes_with, closes_none, closing}
use Rattle.line_reader.specs.Reading.{read_line_in}
use Rattle.line_reader.specs.TraceForms.{read_form, read_meaning, source_told}
use Rattle.line_reader.proofs.ValueLaws.{read-means, read-no_line}
use Rattle.line_reader.proofs.read.read_line_in.Goals as goal

pub returns-then-not-has_size : goal.returns-then-not-has_size
unfolding read_line_in
returns-then-not-has_size c =
    closes_none read_form read_meaning c.args.bytes.now c.payload-payload.new.self (
      c.number-slot.result,
      (
        c.byte-host.result,
        (source_told c.source-source.result, (c.number-number.result, (c.payload-payload.result, tt))),
      ),
    )
    (read-no_line c.number-slot.result c.byte-host.result c.source-source.result c.number-number.result
    c.payload-payload.result c.len.result c.len.ensures (sym c.has_size.ensures ∙ c.if-not-has_size.true))
    (search (closing, rules) depth 40 fits 100000)

pub returns : goal.returns
unfolding read_line_in
returns c =
    closes_with read_form read_meaning c.args.bytes.now _ (
      c.number-slot.result,
      (
        c.byte-host.result,
        (source_told c.source-source.result, (c.number-number.result, (c.payload-payload.result, tt))),
      ),
    )
    _ c.close.result c.close.ensures
    (read-means c.number-slot.result c.byte-host.result c.source-source.result c.number-number.result
    c.payload-payload.result c.of.result c.len.result (c.of.ensures ∙ c.bytes.ensures) c.len.ensures
    (sym c.has_size.ensures ∙ c.if-not-has_size.false))
    (search (closing, rules) depth 40 fits 100000)
