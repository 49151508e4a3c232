-- What is counted of a run does not depend on the messages of its frames.
use Rattle.ttp_top.proofs.Terms.{◌≡◌, ℕ, ◌+◌, ◌<◌, Bool, cond, List, [], ◌∷◌, length, refl, ap, sym, ◌∙◌, arith, map}
use Rattle.ttp_top.proofs.Terms.{count_by, AllByRecursion, sum_by-cons, below, Medl, Entry, NodeState, Script, History}
use Rattle.ttp_top.proofs.Terms.{is_active_phase, IsLegalRun, state_of, IsValidScript, writes_in, reads_in, Numbers}
use Rattle.ttp_top.proofs.Terms.{node_past, world, length-world, states_after, shows_sent, shows_left, lowest_members}
use Rattle.ttp_top.proofs.Terms.{totals_of}
use Rattle.ttp_base.proofs.Below.{below-lt}
use Rattle.ttp_world.specs.declared.node.Entry.TheVariants as entry
use Rattle.ttp_world.specs.Medium.{is_sending}
use Rattle.ttp_world.specs.Past.{NodePast}
use Rattle.frame_fates.specs.Alike.{unnumbered}
use Rattle.frame_fates.specs.Runs.{AreRuns}
use Rattle.ttp_top.proofs.FromBelow.{named-run, legal-names, older, runs-pasts, is_sending-unnumbered}
use Rattle.ttp_top.specs.Samples.Totals.{is_leaving}

is_leaving-unnumbered : (e : Entry) → is_leaving (unnumbered e) ≡ is_leaving e
is_leaving-unnumbered entry.Off = refl
is_leaving-unnumbered e = refl

-- States of nodes below a number, which agree node by node in what is counted.

count-agree : (p : NodeState → Bool) (f g : ℕ → NodeState) (n : ℕ) (ks : List ℕ)
    → ((k : ℕ) → k < n → p (f k) ≡ p (g k)) → AllByRecursion (λ k. k < n) ks
    → count_by p (map f ks) ≡ count_by p (map g ks)
count-agree p f g n [] agree within = refl
count-agree p f g n (k ∷ ks) agree within =
    let one : NodeState → ℕ = λ state. cond (p state) 1 0 in
    sum_by-cons one (f k) (map f ks)
    ∙ (λ i. cond (agree k within.0 i) 1 0 + count-agree p f g n ks agree within.1 i)
    ∙ sym (sum_by-cons one (g k) (map g ks))

lowest-agree : (f g : ℕ → NodeState) (n : ℕ) (ks : List ℕ) → ((k : ℕ) → k < n → (f k).phase ≡ (g k).phase)
    → ((k : ℕ) → k < n → (f k).members ≡ (g k).members) → AllByRecursion (λ k. k < n) ks
    → lowest_members (map f ks) ≡ lowest_members (map g ks)
lowest-agree f g n [] phases members within = refl
lowest-agree f g n (k ∷ ks) phases members within = λ i.
    cond (is_active_phase (phases k within.0 i)) (members k within.0 i)
    (lowest-agree f g n ks phases members within.1 i)

sent-alike : (list : Medl) (script : Script) (one other : History) → AreRuns list script one other
    → count_by shows_sent (states_after list script one) ≡ count_by shows_sent (states_after list script other)
sent-alike list script one other runs =
    count-agree shows_sent (λ k. state_of (node_past list script one k)) (λ k. state_of (node_past list script other k))
    (length list.slots) (below (length list.slots))
    (λ k node.
    sym (is_sending-unnumbered (node_past list script one k).entry)
    ∙ ap (λ (past : NodePast). is_sending past.entry) ((runs-pasts list script one other runs).pasts k node)
    ∙ is_sending-unnumbered (node_past list script other k).entry)
    (below-lt (length list.slots))

left-alike : (list : Medl) (script : Script) (one other : History) → AreRuns list script one other
    → count_by shows_left (states_after list script one) ≡ count_by shows_left (states_after list script other)
left-alike list script one other runs =
    count-agree shows_left (λ k. state_of (node_past list script one k)) (λ k. state_of (node_past list script other k))
    (length list.slots) (below (length list.slots))
    (λ k node.
    sym (is_leaving-unnumbered (node_past list script one k).entry)
    ∙ ap (λ (past : NodePast). is_leaving past.entry) ((runs-pasts list script one other runs).pasts k node)
    ∙ is_leaving-unnumbered (node_past list script other k).entry)
    (below-lt (length list.slots))

members-alike : (list : Medl) (script : Script) (one other : History) → AreRuns list script one other
    → lowest_members (states_after list script one) ≡ lowest_members (states_after list script other)
members-alike list script one other runs =
    let pasts = (runs-pasts list script one other runs).pasts in
    lowest-agree (λ k. state_of (node_past list script one k)) (λ k. state_of (node_past list script other k))
    (length list.slots) (below (length list.slots))
    (λ k node. ap (λ (past : NodePast). past.phase) (pasts k node))
    (λ k node. ap (λ (past : NodePast). past.members) (pasts k node))
    (below-lt (length list.slots))

totals-alike : (list : Medl) (script : Script) (one other : History) → AreRuns list script one other
    → totals_of list script one ≡ totals_of list script other
totals-alike list script [] [] runs = refl
totals-alike list script [] (row ∷ other) runs = absurd (omega (arith, runs.slots))
totals-alike list script (row ∷ one) [] runs = absurd (omega (arith, runs.slots))
totals-alike list script (row ∷ one) (row_too ∷ other) runs =
    let before = totals-alike list script one other (older runs) in
    let slots : length one ≡ length other = (older runs).slots in
    let sent = sent-alike list script (row ∷ one) (row_too ∷ other) runs in
    let left = left-alike list script (row ∷ one) (row_too ∷ other) runs in
    let members = members-alike list script (row ∷ one) (row_too ∷ other) runs in
    λ i. record {
      sent = (before i).sent + sent i;
      left = (before i).left + left i;
      members = members i;
      writes = (before i).writes + length (writes_in script (slots i));
      reads = (before i).reads + length (reads_in script (slots i));
    }

-- all legal numbers give the same totals
pub totals-legal : (list : Medl) (script : Script) (numbers others : Numbers) → IsValidScript list script
    → IsLegalRun list script numbers → IsLegalRun list script others
    → totals_of list script (world list script numbers) ≡ totals_of list script (world list script others)
totals-legal list script numbers others valid legal other =
    totals-alike list script (world list script numbers) (world list script others) (record {
      valid = valid;
      first = named-run list script numbers valid (legal-names list script numbers legal.legal);
      second = named-run list script others valid (legal-names list script others other.legal);
      slots =
          length-world list script numbers ∙ legal.count ∙ sym (length-world list script others ∙ other.count);
    })
