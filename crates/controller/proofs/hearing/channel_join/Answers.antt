-- A join tells how late the frame is, by the node that sent it.
use Rattle.controller.proofs.Words.{◌≡◌, w64, FitsSigned, rules, to_z-of_z, channel_join}
use Rattle.controller.proofs.Heard.{of_bits}
use Rattle.controller.proofs.hearing.channel_join.Goals as goal

pub returns-in-Bits : goal.returns-in-Bits
returns-in-Bits c =
    let fits : FitsSigned w64 c.in-Bits.offset = search rules in
    let late_fits : FitsSigned w64 c.deviation_of.result = search rules in
    of_bits (λ sent deviation. c.join_entry.result ≡ channel_join c.args.list.now deviation sent) c.args.reading.now.own
    c.args.reading.now.error c.args.came.now c.in-Bits.bytes c.in-Bits.offset c.in-Bits.is
    (λ sender deviation is. search (rules, to_z-of_z, fits, late_fits, is))
