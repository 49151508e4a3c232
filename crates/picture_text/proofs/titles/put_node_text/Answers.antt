use Rattle.picture_text.proofs.Words.{◌*◌, ◌==◌, sym, set_bits, hex, ack_word, number_or_dash}
use Rattle.picture_text.proofs.Words.{word_text, signed_decimal, arith}
use Rattle.std.proofs.Common.{SFits, w64, rules, decimal}
use Rattle.std.proofs.lemmas.Int.{to_z-of_z}
use Rattle.ttp_base.proofs.Gathered.{gather-behind}
use Rattle.ttp_world.specs.Medl.{member_bytes}
use Rattle.ttp_world.specs.Trace.{node_pieces}
use Rattle.ttp_base.proofs.Room.{room}
use Rattle.picture_text.proofs.titles.put_node_text.Goals as goal

pub put_head-requires : goal.put_head-requires
put_head-requires c = grind (arith, room)

pub put_number-requires : goal.put_number-requires
put_number-requires c = grind (arith, room)

pub put_told-requires : goal.put_told-requires
put_told-requires c = grind (arith, room)

pub put_number-requires-2 : goal.put_number-requires-2
put_number-requires-2 c = grind (arith, room)

pub put_behind-requires : goal.put_behind-requires
put_behind-requires c = grind (arith, room)

pub put_signed-requires : goal.put_signed-requires
put_signed-requires c = grind (arith, room)

pub returns-clause-short : goal.returns-clause-short
returns-clause-short c = grind (arith, room)

pub returns-clause-text : goal.returns-clause-text
returns-clause-text c =
    let node = c.args.node.now in
    let fits : SFits w64 node.offset = search rules in
    let signed = simp to_z-of_z at c.put_signed.ensures in
    rw (
      signed,
      c.put_behind.ensures.text,
      c.put_number-2.ensures,
      c.from-2.ensures,
      c.put_told.ensures.text,
      c.put_number.ensures,
      c.from.ensures,
      c.put_head.ensures.text,
    )
    (sym (gather-behind c.args.line.now (node_pieces (decimal c.args.slot) (decimal c.args.number) (word_text node.word)
    (number_or_dash node.peer) (number_or_dash node.message)
    (hex (2 * member_bytes (c.args.head.now.version == 2)) (set_bits node.members)) (decimal node.accepted)
    (decimal node.rejected) (ack_word node.ack) (signed_decimal node.offset))))
