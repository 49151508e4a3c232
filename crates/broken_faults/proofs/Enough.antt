-- Whether four nodes to measure are left, by what a walk has seen.
use Rattle.std.proofs.Common.{◌≡◌, ℕ, suc, true, false, cond, length, ap, sym, ◌∙◌}
use Rattle.std.specs.Prelude.{filter, nat_le}
use Rattle.ttp_world.proofs.Lists.{nodes-most}
use Rattle.ttp_world.specs.declared.medl.Medl.{Medl}
use Rattle.ttp_world.specs.declared.script.Script.{Script}
use Rattle.ttp_world.specs.Hypothesis.{ClusterStart, is_steady, nodes_of, numbers_of}
use Rattle.ttp_world.specs.Medl.{IsValid}
use Rattle.ttp_world.specs.Returning.{has_four_before, slots_before, faulty_since}
use Rattle.broken_faults.proofs.FromBelow.{same_steady}
use Rattle.broken_faults.specs.declared.few.Seen.{Seen}
use Rattle.broken_faults.specs.Faults.{few_after, few_in}
use Rattle.broken_faults.specs.Seen.{IsSeenAt}

pub has-four : (list : Medl) (script : Script) (start : ClusterStart) (slot : ℕ) (seen : Seen) → IsValid list
    → IsSeenAt list script start slot seen → has_four_before list script start slot
    ≡ nat_le 4 (length (filter (is_steady list script seen.faulty) (nodes_of list)))
has-four list script start slot seen valid is =
    sym (ap (λ steady. nat_le 4 (length steady)) (same_steady list script seen.faulty
    (numbers_of (faulty_since (slots_before list script start slot))) (nodes-most list valid) is.faulty))

-- who is left after a slot, where there are enough at the start
pub in-slot : (list : Medl) (script : Script) (start : ClusterStart) (slot count : ℕ)
    → has_four_before list script start start.slot ≡ true → suc slot ≡ count
    → few_after list script start slot count ≡ few_in list script start slot
in-slot list script start slot count enough is =
    ap (few_after list script start slot) (sym is)
    ∙ sym (ap (λ b. few_after list script start slot (cond b (suc slot) slot)) enough)

-- and at the start, where there are not
pub at-start : (list : Medl) (script : Script) (start : ClusterStart)
    → has_four_before list script start start.slot ≡ false
    → few_after list script start start.slot start.slot ≡ few_in list script start start.slot
at-start list script start lacks =
    sym (ap (λ b. few_after list script start start.slot (cond b (suc start.slot) start.slot)) lacks)
