use Rattle.std.proofs.Common.{arith, ℕ, ◌++◌, ◌∙◌, List, ap, min, take}
use Rattle.ttp_base.specs.Text.{hex_bytes}
use Rattle.line_text.proofs.WordTexts.{room_for_bytes, put_bytes-next}
use Rattle.line_text.proofs.host_line.put_bytes.Goals as goal

pub put_hex_bytes-requires : goal.put_hex_bytes-requires
put_hex_bytes-requires c = (
  omega arith,
  room_for_bytes c.loop-word.line c.args.line.now c.args.words.now c.to_be_bytes.result c.args.size
      c.loop-word.word-index c.min-count.result c.loop-word.invariant.0 c.loop-word-test.true
      (c.min-count.ensures ∙ ap (λ (n : ℕ). min n 8) c.loop-word.invariant.1) c.requires,
)

pub loop-word-preserved : goal.loop-word-preserved
loop-word-preserved c =
    put_bytes-next c.loop-word.line c.put_hex_bytes.new.self c.args.line.now c.args.words.now c.args.size
    c.loop-word.word-index c.loop-word.left c.min-count.result c.loop-word.invariant.0 c.loop-word-test.true
    c.loop-word.invariant.1 c.min-count.ensures
    (c.put_hex_bytes.ensures
    ∙ ap (λ (p : List ℕ). c.loop-word.line ++ hex_bytes (take c.min-count.result p)) c.to_be_bytes.ensures)
