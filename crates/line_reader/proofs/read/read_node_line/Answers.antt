use Rattle.std.proofs.Common.{ap, sym, ◌∙◌, option_map, rules}
use Rattle.line_reader.proofs.FromBelow.{closes_with, closes_none, map_closed, closing}
use Rattle.line_reader.specs.Reading.{node_in}
use Rattle.line_reader.specs.TraceForms.{node_form, node_values, node_meaning}
use Rattle.line_reader.proofs.ValueLaws.{node-means, node-no_line, node_said}
use Rattle.line_reader.proofs.read.read_node_line.Goals as goal

pub returns-then-not-fits_word : goal.returns-then-not-fits_word
unfolding node_in
returns-then-not-fits_word c =
    closes_none node_form node_meaning c.args.bytes.now c.signed-offset.new.self
    (node_values c.number-slot.result c.byte-node.result c.node_word-word.result c.byte_or_dash-peer.result
    c.number_or_dash-message.result c.hexed_or-members.result c.byte-accepted.result c.byte-rejected.result
    c.ack-ack.result c.signed-offset.result)
    (node-no_line c.number-slot.result c.byte-node.result c.node_word-word.result c.byte_or_dash-peer.result
    c.number_or_dash-message.result c.hexed_or-members.result c.byte-accepted.result c.byte-rejected.result
    c.ack-ack.result c.signed-offset.result (sym c.fits_word.ensures ∙ c.if-not-fits_word.true))
    (search (closing, rules) depth 40 fits 100000)

pub returns : goal.returns
unfolding node_in
returns c =
    closes_with node_form node_meaning c.args.bytes.now c.signed-offset.new.self
    (node_values c.number-slot.result c.byte-node.result c.node_word-word.result c.byte_or_dash-peer.result
    c.number_or_dash-message.result c.hexed_or-members.result c.byte-accepted.result c.byte-rejected.result
    c.ack-ack.result c.signed-offset.result) _ (option_map node_said c.close.result)
    (ap (option_map node_said) c.close.ensures ∙ map_closed node_said c.signed-offset.new.self _)
    (node-means c.number-slot.result c.byte-node.result c.node_word-word.result c.byte_or_dash-peer.result
    c.number_or_dash-message.result c.hexed_or-members.result c.members_of.result c.byte-accepted.result
    c.byte-rejected.result c.ack-ack.result c.signed-offset.result _
    (sym c.fits_word.ensures ∙ c.if-not-fits_word.false) c.members_of.ensures (search rules))
    (search (closing, rules) depth 40 fits 100000)
