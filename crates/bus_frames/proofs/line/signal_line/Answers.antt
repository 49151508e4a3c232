use Rattle.std.proofs.Common.{◌∙◌, ◌++◌, List, ℕ, ap, sym}
use Rattle.ttp_base.specs.Text.{newline}
use Rattle.ttp_world.specs.Medium.{Bits}
use Rattle.ttp_world.specs.Medl.{member_bytes}
use Rattle.bus_frames.specs.FrameText.{byte_words, line_front, signal_line}
use Rattle.bus_frames.proofs.Parts.{bytes_of, came-line, is_bits}
use Rattle.bus_frames.proofs.line.signal_line.Goals as goal

pub returns-in-Bits : goal.returns-in-Bits
returns-in-Bits c s clock shows =
    let list = c.args.list.now in
    let sending = c.args.sending.now in
    let bytes = c.in-Bits.bytes.now in
    let front = c.put_front-in-Bits.ensures.text
    ∙ ap (line_front list c.args.slot c.args.channel sending) c.found_word-word.ensures.text in
    let words = ap (λ b. byte_words (member_bytes b) sending.header sending.size bytes) c.is_wide.ensures in
    c.put_text-in-Bits.ensures
    ∙ ap (λ l. l ++ newline) (c.put_bytes.ensures.text ∙ (λ i. front i ++ words i))
    ∙ ap (λ (b : List ℕ). signal_line list c.args.slot c.args.channel sending (Bits 0 b))
    (sym (ap bytes_of c.in-Bits.is))
    ∙ came-line list c.args.slot c.args.channel sending c.args.there.now s clock (ap is_bits c.in-Bits.is) shows
