use Rattle.std.proofs.Common.{◌+◌, ◌%◌, Bool, true, false, not, drop, ap, refl, sym, ◌∙◌, ◌≡◌, arith}
use Rattle.std.specs.Prelude.{◌==◌, count_by}
use Rattle.causes.specs.Members.{is_one_of}
use Rattle.entry_causes.proofs.FlipFacts.{odd-next}
use Rattle.ttp_world.specs.Events.{bits_on}
use Rattle.entry_causes.proofs.flips.is_odd.Goals as goal
use Rattle.entry_causes.proofs.flips.is_odd.Goals.{then-is_of_bit, else-is_of_bit}

turned : (odd : Bool) → is_one_of odd true ≡ not odd
turned true = refl
turned false = refl

kept : (odd : Bool) → is_one_of odd false ≡ odd
kept true = refl
kept false = refl

pub loop-flip-preserved : goal.loop-flip-preserved
loop-flip-preserved c =
    let flips = c.args.flips.now in
    let rest = count_by (λ other. other == c.args.bit)
    (bits_on c.args.channel (drop (c.loop-flip.flip-index + 1) flips)) % 2 == 1 in
    let next = c.loop-flip.invariant
    ∙ odd-next c.args.channel flips c.loop-flip.flip-index _ c.args.bit c.loop-flip.odd c.is_of_bit.result (omega arith)
    c.is_of_bit.ensures in
    next
    ∙ ap (λ (b : Bool). is_one_of b rest)
    (elim c.if-is_of_bit.branch [
      | then-is_of_bit w ↦ ap (is_one_of c.loop-flip.odd) w.if-is_of_bit.true ∙ turned c.loop-flip.odd ∙ sym w.odd-is
      | else-is_of_bit w ↦ ap (is_one_of c.loop-flip.odd) w.if-is_of_bit.false ∙ kept c.loop-flip.odd ∙ sym w.odd-is
    ])
