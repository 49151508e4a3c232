use Rattle.wave_text.proofs.Words.{◌≡◌, ℕ, List, [], ◌++◌, Option, None, length, replicate, ap, sym, subst, ◌∙◌, arith}
use Rattle.wave_text.proofs.Words.{length-replicate, HostLine, HasMost}
use Rattle.wave_text.proofs.Noting.{AreSlotsTaken, slots-taken-more}
use Rattle.wave_text.proofs.PortLists.{none_noted}
use Rattle.wave_text.specs.declared.place.TheConstants.{PLACES}
use Rattle.wave_text.proofs.ports.sizes_in.Goals as goal

pub loop-lines-init : goal.loop-lines-init
loop-lines-init c =
    let none : c.no_sizes-sizes.result ≡ replicate PLACES None = c.no_sizes-sizes.ensures in
    record {
      done = [];
      whole = c.slots-slots.ensures;
      size = ap length none ∙ length-replicate {A = Option ℕ} PLACES None;
      most = λ k does has.
          subst (λ (sizes : List (Option ℕ)). HasMost sizes [] k does) (sym none) (none_noted k does has);
    }

pub loop-lines-preserved : goal.loop-lines-preserved
loop-lines-preserved c =
    let known = c.loop-lines.invariant in
    let next = c.in-Some.ensures.some in
    let sizes = c.note_sizes.new.sizes in
    slots-taken-more c.loop-lines.sizes sizes c.args.trace.now.slots c.next_hosts.new.self next.0
    (subst (AreSlotsTaken c.loop-lines.sizes c.args.trace.now.slots) next.1 known) (omega (arith, known.size))
    (λ k does before has is.
    subst (λ (lines : List HostLine). HasMost sizes (before ++ lines) k does) next.2
    (c.note_sizes.ensures k does before has is))
