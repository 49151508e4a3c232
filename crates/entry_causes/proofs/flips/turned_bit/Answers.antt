use Rattle.std.proofs.Common.{◌≡◌, ℕ, ◌<◌, Bool, false, cond, ◌&&◌, not, List, [], ◌∷◌}
use Rattle.std.proofs.Common.{get_or, length, take, ap, refl, sym, ◌∙◌, subst}
use Rattle.std.specs.Prelude.{IfSome, Option, filter, slice_get}
use Rattle.std.proofs.lemmas.Option.{slice_get-get_or}
use Rattle.causes.specs.LinesOf.{is_turned}
use Rattle.entry_causes.proofs.FlipFacts.{first-bits}
use Rattle.entry_causes.specs.Hearing.{first_bits}
use Rattle.ttp_base.specs.NodeSet.{has_node}
use Rattle.ttp_world.specs.Events.{bits_on, is_among}
use Rattle.ttp_world.specs.declared.events.FlippedBit.{FlippedBit}
use Rattle.ttp_world.specs.declared.script.Channel.{Channel}
use Rattle.entry_causes.proofs.flips.turned_bit.Goals as goal

abbrev is_new : Channel → List FlippedBit → ℕ → FlippedBit → Bool
is_new c flips at flip = is_among c flip.channels && not (has_node (bits_on c (take at flips)) flip.bit)

known : (c : Channel) (flips : List FlippedBit) (at : ℕ) (d : FlippedBit) (is : Bool) → at < length flips
    → IfSome (slice_get flips at) (λ flip. is ≡ is_new c flips at flip) → is ≡ is_new c flips at (get_or flips at d)
known c flips at d is within told =
    subst (λ (o : Option FlippedBit). IfSome o (λ flip. is ≡ is_new c flips at flip))
    (slice_get-get_or flips at d within) told

found : (c : Channel) (flips : List FlippedBit) (at size : ℕ) (d : FlippedBit) (first turned : Bool) → at < length flips
    → IfSome (slice_get flips at) (λ flip. first ≡ is_new c flips at flip)
    → turned ≡ is_turned (bits_on c flips) size (get_or flips at d).bit
    → cond (first && turned) ((get_or flips at d).bit ∷ []) []
    ≡ filter (is_turned (bits_on c flips) size) (first_bits c flips at)
found c flips at size d first turned within told is =
    (λ i. cond (known c flips at d first within told i && is i) ((get_or flips at d).bit ∷ []) [])
    ∙ sym (first-bits c flips at d (is_turned (bits_on c flips) size) within)

pub returns-else-is_first : goal.returns-else-is_first
returns-else-is_first c =
    let flips = c.args.flips.now in
    let d : FlippedBit = record { channels = record { a = false; b = false }; bit = 0 } in
    let bit = (get_or flips c.args.at d).bit in
    let turned = is_turned (bits_on c.args.channel flips) c.args.size bit in
    ap (λ (b : Bool). cond (b && turned) (bit ∷ []) []) (sym c.if-is_first.false)
    ∙ found c.args.channel flips c.args.at c.args.size d c.is_first.result turned c.requires.at c.is_first.ensures refl

pub returns-then-is_turned : goal.returns-then-is_turned
returns-then-is_turned c =
    let flips = c.args.flips.now in
    let d : FlippedBit = record { channels = record { a = false; b = false }; bit = 0 } in
    let bit = (get_or flips c.args.at d).bit in
    (λ i. cond (sym c.if-is_first.true i && sym c.if-is_turned.true i) (bit ∷ []) [])
    ∙ found c.args.channel flips c.args.at c.args.size d c.is_first.result c.is_turned.result c.requires.at
    c.is_first.ensures c.is_turned.ensures

pub returns-else-is_turned : goal.returns-else-is_turned
returns-else-is_turned c =
    let flips = c.args.flips.now in
    let d : FlippedBit = record { channels = record { a = false; b = false }; bit = 0 } in
    let bit = (get_or flips c.args.at d).bit in
    (λ i. cond (sym c.if-is_first.true i && sym c.if-is_turned.false i) (bit ∷ []) [])
    ∙ found c.args.channel flips c.args.at c.args.size d c.is_first.result c.is_turned.result c.requires.at
    c.is_first.ensures c.is_turned.ensures
