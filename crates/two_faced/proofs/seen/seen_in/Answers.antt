use Rattle.two_faced.proofs.Words.{◌≡◌, ℕ, ◌+◌, ℤ, w64, FitsSigned, to_z, of_z, ap, sym, ◌∙◌, rules, to_z-of_z, Medl}
use Rattle.two_faced.proofs.Words.{Script, zeros_world, Seen, apart_after, seen_with_slot, seen_in}
use Rattle.ttp_world.proofs.ZerosWorlds.{length-zeros_world, zeros_world-more}
use Rattle.two_faced.proofs.seen.seen_in.Goals as goal

-- one slot more
seen_more : (list : Medl) (script : Script) (z start slot : ℕ) (seen : Seen) (value : ℤ)
    → seen ≡ seen_in list script z start (zeros_world list script slot)
    → value ≡ apart_after list script z slot (zeros_world list script (slot + 1))
    → seen_with_slot start seen (record { value = value; slot = slot })
    ≡ seen_in list script z start (zeros_world list script (slot + 1))
seen_more list script z start slot seen value before now =
    let more = zeros_world-more list script slot in
    let count = sym (length-zeros_world list script slot) in
    let apart = now ∙ (λ i. apart_after list script z (count i) (more i)) in
    (λ i. seen_with_slot start (before i) (record { value = apart i; slot = count i }))
    ∙ sym (ap (seen_in list script z start) more)

pub loop-slot-preserved : goal.loop-slot-preserved
loop-slot-preserved c =
    let value = c.apart_after-value.result in
    let fits : FitsSigned w64 value = search rules in (
      c.step.ensures,
      c.seen_with_slot-seen.ensures
          ∙ seen_more c.args.list.now c.args.script.now c.args.node c.args.start c.loop-slot.slot c.loop-slot.seen
          (to_z w64 (of_z w64 value)) c.loop-slot.invariant.1 (to_z-of_z w64 value fits ∙ c.apart_after-value.ensures),
    )
