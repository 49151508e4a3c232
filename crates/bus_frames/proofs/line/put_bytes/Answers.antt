use Rattle.bus_frames.proofs.Parts.{bytes-line}
use Rattle.bus_frames.proofs.line.put_bytes.Goals as goal

pub returns-clause-text : goal.returns-clause-text
returns-clause-text c =
    bytes-line _ _ _ _ _ c.args.bytes.now _ _ _ _ _ _ _ c.args.header c.args.size _ c.put_spaced.ensures.text
    c.split_at.ensures.front c.split_at.ensures.back c.put_spaced-2.ensures.text c.split_at-2.ensures.front
    c.split_at-2.ensures.back c.put_spaced-3.ensures.text c.split_at-3.ensures.front c.put_spaced-4.ensures.text
    c.split_at-3.ensures.back c.carried_length.ensures.value
