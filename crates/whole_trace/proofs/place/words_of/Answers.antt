use Rattle.std.proofs.Common.{◌∙◌, ap, sym, true, List, ℕ}
use Rattle.std.specs.Prelude.{◌≡◌, ◌-◌, length, take, drop, option_map}
use Rattle.std.specs.Str.{bytes_eq}
use Rattle.ttp_base.specs.Text.{newline}
use Rattle.line_reader.specs.Reading.{node_in}
use Rattle.whole_trace.specs.Alike.{said_by}
use Rattle.whole_trace.proofs.Texts.{node-said}
use Rattle.whole_trace.proofs.place.words_of.Goals as goal

pub returns-then-eq : goal.returns-then-eq
returns-then-eq c =
    let text = c.args.text.now in
    let feed : bytes_eq (drop (length text - 1) text) newline ≡ true =
    ap (λ (bytes : List ℕ). bytes_eq bytes newline) (sym c.split_at.ensures.back)
    ∙ ap (λ (bytes : List ℕ). bytes_eq c.split_at.result.1.now bytes) (sym c.as_slice.ensures) ∙ sym c.eq.ensures
    ∙ c.if-eq.true in
    let is : option_map said_by c.read_node_line.result ≡ node_in (take (length text - 1) text) =
    c.read_node_line.ensures ∙ ap node_in c.split_at.ensures.front in
    node-said text c.read_node_line.result feed is
