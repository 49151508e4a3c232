use Rattle.script_text.proofs.Terms.{◌≡◌, ℕ, ◌+◌, ◌*◌, ◌<◌, ◌==◌, ◌&&◌, length, get_or, arith, ap, ◌∙◌, if◌then◌else◌}
use Rattle.std.proofs.Common.{mul_comm}
use Rattle.std.proofs.lemmas.List.{get_or_read}
use Rattle.std.proofs.lemmas.Nat.{mul-add-lt}
use Rattle.script_text.proofs.Counts.{counted}
use Rattle.script_text.proofs.writes.WriteCounts.add.Goals as goal

pub returns-clause-more : goal.returns-clause-more
returns-clause-more c =
    let old = c.args.self.now in
    let grown = c.grow.new.self in
    let n = grown.nodes in
    let node = c.args.node in
    let slot = c.args.slot in
    let same : n ≡ old.nodes = c.grow.ensures.nodes in
    let within : slot * n + node < length grown.counts.items =
    omega (
      arith,
      mul-add-lt slot n node c.args.slots c.requires.slot (omega arith),
      mul_comm n c.args.slots,
      ap (λ (m : ℕ). c.args.slots * m) same,
      c.in_ok-grow.ensures.room,
      grown.counts.ok,
    ) in
    let is = get_or_read grown.counts.items _ _ within (rw c.place-place.ensures at c.index_mut.ensures.value) 0 in
    record {
      nodes = same;
      counts = λ k t near.
          rw c.place-place.ensures (
          counted grown.counts.items n node slot k t (c.index_mut.result.now + 1) (omega arith) (omega arith) within
          (ap (λ (m : ℕ). m + 1) is))
          ∙ ap (λ (m : ℕ). m + (if (node == k) && (slot == t) then 1 else 0))
          (c.grow.ensures.same (t * n + k) ∙ ap (λ (m : ℕ). get_or old.counts.items (t * m + k) 0) same);
    }
