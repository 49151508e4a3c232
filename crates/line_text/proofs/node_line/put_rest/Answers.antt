use Rattle.std.proofs.Common.{ℕ, List, [], ◌∷◌, ◌++◌, ap, ◌∙◌}
use Rattle.std.specs.Prelude.{decimal}
use Rattle.std.specs.Fmt.{signed_decimal}
use Rattle.ttp_base.specs.NodeSet.{set_bits}
use Rattle.ttp_base.specs.Text.{hex, newline, gather}
use Rattle.ttp_base.proofs.Gathered.{gather-behind}
use Rattle.ttp_world.specs.Trace.{ack_word, entry_word, member_digits, number_or_dash, peer_of, told_pieces, ack_pieces}
use Rattle.line_text.specs.LineParts.{shown_text, end_text}
use Rattle.line_text.proofs.node_line.put_rest.Goals as goal

pub returns : goal.returns
returns c =
    let line = c.args.line.now ++ decimal c.args.node in
    let list = c.args.list.now in
    let k = c.args.node in
    let state = c.args.state.now in
    let message = c.args.message in
    let told = told_pieces (entry_word state.entry) (number_or_dash (peer_of k state.entry)) (number_or_dash message)
    (hex (member_digits list) (set_bits state.members)) in
    let end = end_text state.rejected state.ack state.offset in
    c.put_end.ensures
    ∙ ap (λ (l : List ℕ). l ++ end)
    (c.put_number-2.ensures
    ∙ (λ i. c.put_state.ensures.text i ++ decimal (c.from-2.ensures i))
    ∙ ap (λ (l : List ℕ). l ++ shown_text list k state message ++ decimal state.accepted)
    (c.put_number.ensures ∙ ap (λ (n : ℕ). c.args.line.now ++ decimal n) c.from.ensures))
    ∙ ap (λ (l : List ℕ). l ++ decimal state.accepted ++ end) (gather-behind line told)
    ∙ gather-behind (gather line told ++ decimal state.accepted)
    (ack_pieces (decimal state.rejected) (ack_word state.ack) ++ signed_decimal state.offset ∷ newline ∷ [])
