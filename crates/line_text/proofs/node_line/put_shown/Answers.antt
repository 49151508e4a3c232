use Rattle.std.proofs.Common.{List, ℕ, ◌++◌, codes, refl, sym, ap, ◌∙◌}
use Rattle.ttp_base.specs.NodeSet.{set_bits}
use Rattle.ttp_base.specs.Text.{hex}
use Rattle.ttp_base.proofs.Gathered.{gather-behind}
use Rattle.ttp_world.specs.Trace.{entry_word, member_digits, number_or_dash, peer_of, entry_pieces, told_pieces}
use Rattle.line_text.proofs.node_line.put_shown.Goals as goal

pub returns-clause-text : goal.returns-clause-text
returns-clause-text c =
    let line = c.args.line.now in
    let word = entry_word c.args.state.now.entry in
    let peer = number_or_dash (peer_of c.args.node c.args.state.now.entry) in
    let message = number_or_dash c.args.message in
    let members = hex (member_digits c.args.list.now) (set_bits c.args.state.now.members) in
    rw (c.put_array.ensures, c.put_members.ensures.text, c.put_message.ensures.text, c.put_entry.ensures.text)
    (ap (λ (l : List ℕ). l ++ codes " msg " ++ message ++ codes " mem " ++ members ++ codes " acc ")
    (gather-behind line (entry_pieces word peer))
    ∙ sym (gather-behind line (told_pieces word peer message members)))
