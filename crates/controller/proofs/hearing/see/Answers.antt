-- Bits are seen by how late they are, by the node that sent them.
use Rattle.controller.proofs.Words.{◌≡◌, Some, w64, FitsSigned, rules, ap, subst, ◌∙◌, to_z-of_z, Arrival, IsSeen}
use Rattle.controller.proofs.Words.{awaited_meant, BytesAre}
use Rattle.ttp_world.specs.Reception.{view_of_bits}
use Rattle.controller.proofs.Heard.{of_bits}
use Rattle.controller.proofs.hearing.see.Goals as goal

pub returns-in-Bits-clause-seen : goal.returns-in-Bits-clause-seen
returns-in-Bits-clause-seen c =
    let awaited = awaited_meant c.args.expected.now in
    let bytes : c.args.known.now.bytes ≡ c.in-Bits.bytes.now =
    subst (λ (a : Arrival). BytesAre a c.args.known.now.bytes) c.in-Bits.is c.requires.known.bytes in
    let fits : FitsSigned w64 c.in-Bits.offset = search rules in
    let late_fits : FitsSigned w64 c.deviation_of-deviation.result = search rules in
    let same = to_z-of_z w64 c.deviation_of-deviation.result late_fits in
    rw same
    (of_bits (λ sent deviation. IsSeen
    (record { view = c.view_of_bits.result; deviation = Some c.deviation_of-deviation.result }) c.args.list.now
    awaited sent deviation)
    c.args.reading.now.own c.args.reading.now.error c.args.came.now c.in-Bits.bytes c.in-Bits.offset c.in-Bits.is
    (λ sender deviation is.
    let late : c.deviation_of-deviation.result ≡ deviation sender =
    search (rules, to_z-of_z, fits, late_fits, is) in record {
      view = c.view_of_bits.ensures.view
          ∙ (λ i. view_of_bits c.args.list.now awaited (bytes i) ((same ∙ late) i));
      deviation = ap Some late;
    }))
