use Rattle.std.proofs.Common.{◌∙◌, ◌++◌, ap, sym}
use Rattle.ttp_base.specs.Text.{hex_bytes}
use Rattle.ttp_world.specs.Frame.{cstate_bytes}
use Rattle.ttp_world.specs.Medl.{member_bytes}
use Rattle.bus_frames.proofs.Digits.{narrow-line, wide-line}
use Rattle.bus_frames.proofs.line.put_state.Goals as goal

pub returns-then-wide-clause-text : goal.returns-then-wide-clause-text
returns-then-wide-clause-text c =
    wide-line c.args.line.now c.put_hex.new.self c.put_hex-2.new.self c.put_hex-3.new.self c.put_hex-then-wide.new.self
    c.from.result c.from-2.result c.from-3.result c.from-then-wide.result c.args.c.now c.put_hex.ensures c.from.ensures
    c.put_hex-2.ensures c.from-2.ensures c.put_hex-3.ensures c.from-3.ensures
    (c.from-then-wide.ensures ∙ c.bits.ensures) c.put_hex-then-wide.ensures
    ∙ ap (λ b. c.args.line.now ++ hex_bytes (cstate_bytes (member_bytes b) c.args.c.now)) (sym c.if-wide.true)

pub returns-else-wide-clause-text : goal.returns-else-wide-clause-text
returns-else-wide-clause-text c =
    narrow-line c.args.line.now c.put_hex.new.self c.put_hex-2.new.self
    c.put_hex-3.new.self c.put_hex-else-wide.new.self
    c.from.result c.from-2.result c.from-3.result c.from-else-wide.result c.args.c.now c.put_hex.ensures c.from.ensures
    c.put_hex-2.ensures c.from-2.ensures c.put_hex-3.ensures c.from-3.ensures
    (c.from-else-wide.ensures ∙ c.bits-else-wide.ensures) c.put_hex-else-wide.ensures
    ∙ ap (λ b. c.args.line.now ++ hex_bytes (cstate_bytes (member_bytes b) c.args.c.now)) (sym c.if-wide.false)
