use Rattle.std.proofs.Common.{w64, FitsSigned, rules}
use Rattle.std.proofs.lemmas.Int.{to_z-of_z}
use Rattle.node_parts.proofs.KeptNotes.{kept_with}
use Rattle.node_parts.proofs.fta_sync.measures.Measures.note.Goals as goal

pub returns : goal.returns
returns c =
    let m = c.self.inside in
    let newest : FitsSigned w64 m.newest = search rules in
    let second : FitsSigned w64 m.second = search rules in
    let third : FitsSigned w64 m.third = search rules in
    rw (
      to_z-of_z w64 c.args.deviation c.ranges.deviation,
      to_z-of_z w64 m.newest newest,
      to_z-of_z w64 m.second second,
      to_z-of_z w64 m.third third,
      c.min-self-inside.ensures,
      ← c.self.view_is,
    )
    (kept_with m.count c.args.deviation m.newest m.second m.third m.fourth c.self.invariant.few)
