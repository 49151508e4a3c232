use Rattle.std.proofs.Common.{◌≤◌, length, take, ap, arith, length-append}
use Rattle.std.proofs.lemmas.List.{length-take-le}
use Rattle.ttp_base.proofs.Hex.{length-hex_bytes}
use Rattle.ttp_base.proofs.text.Text.put_hex_bytes.Goals as goal

pub put_bytes-requires : goal.put_bytes-requires
put_bytes-requires g c =
    let b = c.args.b.now in
    let i = c.loop-byte.byte-index in
    let within : i ≤ length b = omega arith in
    omega (
      arith,
      simp length-append at (ap length c.loop-byte.invariant),
      length-hex_bytes (take i b),
      length-take-le i b within,
    )
