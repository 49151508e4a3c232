-- What a verdict asks for leads to the members and counts of a judged entry.
use Rattle.std.proofs.Common.{◌≡◌, ◌≢◌, ℕ, ◌<◌, Bool, true, false, not, ◌&&◌, ◌||◌, List, refl, ap, sym, ◌∙◌}
use Rattle.std.specs.Prelude.{◌==◌, ◌↔◌}
use Rattle.std.proofs.lemmas.Bool.{eqb-true, ne_eqb, false≢true}
use Rattle.ttp_base.specs.NodeSet.{most_nodes, below, has_node, with_node, without_node}
use Rattle.ttp_base.proofs.NodeSets.{same_sieve, filter-filter, has_node-without}
use Rattle.ttp_world.specs.declared.node.Ack.{Ack}
use Rattle.ttp_world.specs.declared.node.Ack.TheVariants as ack
use Rattle.ttp_world.specs.declared.node.Verdict.{Verdict}
use Rattle.ttp_world.specs.declared.node.Verdict.TheVariants as verdict
use Rattle.ttp_world.specs.Acknowledgement.{is_correct}
use Rattle.ttp_world.specs.After.{judged_members}
use Rattle.ttp_world.specs.Counts.{is_rejection}
use Rattle.node_parts.specs.declared.acknowledgement.moves.AckMove.{AckMove}
use Rattle.node_parts.specs.declared.acknowledgement.moves.AckMove.TheVariants.{Accept, Reject, Hold, Resolve, Leave}
use Rattle.node_parts.specs.Moves.{moved_members, adds_accepted, adds_rejected, move_of, IsDoubtElsewhere}
use Rattle.node_parts.specs.Moves.{IsMoveOf}

-- Leaving.

is_leave : AckMove → Bool
is_leave Leave = true
is_leave _ = false

leave_refused : (m : AckMove) → is_leave m ≡ false → m ≢ Leave
unfolding is_leave
leave_refused m stays is = false≢true (sym stays ∙ ap is_leave is)

is_denied : Verdict → Bool
is_denied verdict.Denied = true
is_denied _ = false

denied_refused : (v : Verdict) → is_denied v ≡ false → v ≢ verdict.Denied
unfolding is_denied
denied_refused v other is = false≢true (sym other ∙ ap is_denied is)

-- a move that is none of leaving, for a verdict that does not deny
stays : (m : AckMove) (v : Verdict) → is_leave m ≡ false → is_denied v ≡ false → (m ≡ Leave) ↔ (v ≡ verdict.Denied)
stays m v stay other = (λ is. absurd (leave_refused m stay is), λ is. absurd (denied_refused v other is))

leaves-move_of : (a : Ack) (v : Verdict) → (move_of a v ≡ Leave) ↔ (v ≡ verdict.Denied)
unfolding is_leave is_denied
leaves-move_of ack.Closed verdict.Correct = stays Accept verdict.Correct refl refl
leaves-move_of ack.First verdict.Correct = stays Accept verdict.Correct refl refl
leaves-move_of (ack.Doubt x) verdict.Correct = stays (Resolve x) verdict.Correct refl refl
leaves-move_of a verdict.Tentative = stays Hold verdict.Tentative refl refl
leaves-move_of a verdict.Denied = (λ _. refl, λ _. refl)
leaves-move_of a verdict.Null = stays (Reject (is_rejection a verdict.Null)) verdict.Null refl refl
leaves-move_of a verdict.Incorrect = stays (Reject (is_rejection a verdict.Incorrect)) verdict.Incorrect refl refl
leaves-move_of a verdict.Invalid = stays (Reject (is_rejection a verdict.Invalid)) verdict.Invalid refl refl

-- Counts.

accepts-move_of : (a : Ack) (v : Verdict) → adds_accepted (move_of a v) ≡ is_correct v
accepts-move_of ack.Closed verdict.Correct = refl
accepts-move_of ack.First verdict.Correct = refl
accepts-move_of (ack.Doubt x) verdict.Correct = refl
accepts-move_of a verdict.Tentative = refl
accepts-move_of a verdict.Denied = refl
accepts-move_of a verdict.Null = refl
accepts-move_of a verdict.Incorrect = refl
accepts-move_of a verdict.Invalid = refl

rejects-move_of : (a : Ack) (v : Verdict) → adds_rejected (move_of a v) ≡ is_rejection a v
rejects-move_of ack.Closed verdict.Correct = refl
rejects-move_of ack.First verdict.Correct = refl
rejects-move_of (ack.Doubt x) verdict.Correct = refl
rejects-move_of a verdict.Tentative = refl
rejects-move_of a verdict.Denied = refl
rejects-move_of a verdict.Null = refl
rejects-move_of a verdict.Incorrect = refl
rejects-move_of a verdict.Invalid = refl

-- Members.

settled_test : (sent doubted held : Bool) → (sent ≡ true → doubted ≡ false)
    → ((sent || held) && not doubted) ≡ (sent || (not doubted && held))
settled_test true true held apart = absurd (false≢true (sym (apart refl)))
settled_test true false held apart = refl
settled_test false true true apart = refl
settled_test false true false apart = refl
settled_test false false true apart = refl
settled_test false false false apart = refl

-- another node may be taken out before or after the sender is put in
without_node-with : (members : List ℕ) (sender x : ℕ) → x ≢ sender
    → without_node (with_node members sender) x ≡ with_node (without_node members x) sender
unfolding with_node
without_node-with members sender x other =
    filter-filter (λ j. (j == sender) || has_node members j) (λ j. not (j == x)) (below most_nodes)
    ∙ same_sieve _ (λ j. (j == sender) || has_node (without_node members x) j) most_nodes each
  where
    apart : (j : ℕ) → (j == sender) ≡ true → (j == x) ≡ false
    apart j sent = ne_eqb j x (λ doubted. other (sym doubted ∙ eqb-true j sender sent))

    each : (j : ℕ) → j < most_nodes
        → (((j == sender) || has_node members j) && not (j == x))
        ≡ ((j == sender) || has_node (without_node members x) j)
    each j within =
        settled_test (j == sender) (j == x) (has_node members j) (apart j)
        ∙ ap (λ b. (j == sender) || b) (sym (has_node-without members x j))

moved_members-move_of : (a : Ack) (v : Verdict) (sender : ℕ) (members : List ℕ) → v ≢ verdict.Denied
    → IsDoubtElsewhere a sender
    → moved_members (move_of a v) members sender ≡ judged_members members a v sender
moved_members-move_of ack.Closed verdict.Correct sender members stays elsewhere = refl
moved_members-move_of ack.First verdict.Correct sender members stays elsewhere = refl
moved_members-move_of (ack.Doubt x) verdict.Correct sender members stays elsewhere =
    without_node-with members sender x elsewhere
moved_members-move_of a verdict.Denied sender members stays elsewhere = absurd (stays refl)
moved_members-move_of a v sender members stays elsewhere = refl

pub IsMoveOf-move_of : (a : Ack) (v : Verdict) (sender : ℕ) → IsMoveOf (move_of a v) a v sender
IsMoveOf-move_of a v sender = record {
  leaves = leaves-move_of a v;
  accepts = accepts-move_of a v;
  rejects = rejects-move_of a v;
  members = moved_members-move_of a v sender;
}
