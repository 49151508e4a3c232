-- What the first line says stays what a trace is gone on with.
use Rattle.std.proofs.Common.{◌≡◌, ℕ, ◌+◌, ◌≤◌, Bool, true, false, cond, ◌&&◌}
use Rattle.std.proofs.Common.{◌||◌, not, Some, None, inl, inr, subst, arith}
use Rattle.std.specs.Prelude.{◌==◌, nat_le, nat_lt, IsTrue}
use Rattle.std.proofs.lemmas.Bool.{and_parts, or_cases, leb-true}
use Rattle.line_reader.specs.declared.trace_line.TraceLine.{TraceLine}
use Rattle.line_reader.specs.declared.trace_line.TraceLine.TheVariants as line
use Rattle.whole_trace.proofs.FromBelow.{guarded, some_same}
use Rattle.whole_trace.specs.declared.due.Due.{Due}
use Rattle.whole_trace.specs.declared.due.Due.TheVariants as due
use Rattle.whole_trace.specs.declared.due.Outline.{Outline}
use Rattle.whole_trace.specs.declared.shown.Head.{Head}
use Rattle.whole_trace.specs.Due.{lies_within, is_head, is_below, source_node, is_node_line, is_keep, is_back}
use Rattle.whole_trace.specs.Due.{next_node, after_node, due_after, ending}
use Rattle.whole_trace.specs.Steps.{has_head}

-- Numbers of nodes.

within : (low high n : ℕ) → lies_within low high n ≡ true → (low ≤ n) × (n ≤ high)
within low high n is =
    let parts = and_parts (nat_le low n) (nat_le n high) is in (leb-true low n parts.0, leb-true n high parts.1)

pub few_nodes : (h : Head) → IsTrue (is_head h) → (4 ≤ h.nodes) × (h.nodes ≤ 24)
few_nodes h is =
    let one = (h.version == 1) && lies_within 4 16 h.nodes in
    let two = (h.version == 2) && lies_within 4 24 h.nodes in
    let first = and_parts ((one || two) && lies_within 1 64 h.rounds) (lies_within 1 20000 h.slots) is in
    let versions = and_parts (one || two) (lies_within 1 64 h.rounds) first.0 in
    elim (or_cases one two versions.0) [
      | inl narrow ↦ (let n = within 4 16 h.nodes (and_parts (h.version == 1) (lies_within 4 16 h.nodes) narrow).1 in
          (n.0, omega (arith, n.1)))
      | inr wide ↦ within 4 24 h.nodes (and_parts (h.version == 2) (lies_within 4 24 h.nodes) wide).1
    ]

pub few_slots : (h : Head) → IsTrue (is_head h) → (1 ≤ h.slots) × (h.slots ≤ 20000)
few_slots h is =
    let nodes = ((h.version == 1) && lies_within 4 16 h.nodes) || ((h.version == 2) && lies_within 4 24 h.nodes) in
    within 1 20000 h.slots (and_parts (nodes && lies_within 1 64 h.rounds) (lies_within 1 20000 h.slots) is).1

-- Going on.

next-head : (head : Head) (slot k : ℕ) → IsTrue (is_head head) → IsTrue (has_head (next_node head slot k))
next-head head slot k is = by_last (nat_lt (k + 1) head.nodes)
  where
    by_last : (b : Bool) → IsTrue (has_head (cond b (due.Node head slot (k + 1)) (due.Host head slot false)))
    by_last true = is
    by_last false = is

node-head : (head : Head) (slot k : ℕ) (v : TraceLine) (then : Due) → IsTrue (is_head head)
    → after_node head slot k v ≡ Some then → IsTrue (has_head then)
node-head head slot k v then is e =
    let g = guarded (is_node_line head slot k v) (Some (next_node head slot k)) then e in
    subst (λ (d : Due). IsTrue (has_head d)) (some_same (next_node head slot k) then g.1) (next-head head slot k is)

kept : (b : Bool) (at then : Due) → IsTrue (has_head at) → cond b (Some at) None ≡ Some then → IsTrue (has_head then)
kept b at then is e =
    subst (λ (d : Due). IsTrue (has_head d)) (some_same at then (guarded b (Some at) then e).1) is

next-slot : (head : Head) (slot : ℕ) (v : TraceLine) (then : Due) → IsTrue (is_head head)
    → cond (nat_lt (slot + 1) head.slots) (after_node head (slot + 1) 0 v) None ≡ Some then → IsTrue (has_head then)
next-slot head slot v then is e =
    node-head head (slot + 1) 0 v then is
    (guarded (nat_lt (slot + 1) head.slots) (after_node head (slot + 1) 0 v) then e).1

pub head_kept : (at then : Due) (v : TraceLine) → IsTrue (has_head at) → due_after at v ≡ Some then
    → IsTrue (has_head then)
head_kept due.First then (line.Header version nodes rounds slots schedule) is e =
    let head : Head =
    record { version = version; nodes = nodes; rounds = rounds; slots = slots; schedule = schedule } in
    let g = guarded (is_head head) (Some (due.Node head 0 0)) then e in
    subst (λ (d : Due). IsTrue (has_head d)) (some_same (due.Node head 0 0) then g.1) g.0
head_kept due.First then v is e = cc
head_kept (due.Node head slot k) then v is e = node-head head slot k v then is e
head_kept (due.Host head slot has_read) then (line.Write t h n) is e =
    kept ((t == slot) && nat_lt h head.nodes && not has_read) (due.Host head slot false) then is e
head_kept (due.Host head slot has_read) then (line.Read t h source n payload) is e =
    kept ((t == slot) && nat_lt h head.nodes && is_below head.nodes (source_node source))
    (due.Host head slot true) then is e
head_kept (due.Host head slot has_read) then (line.Keep k) is e =
    kept ((slot + 1 == head.slots) && is_keep k) (due.Back head k) then is e
head_kept (due.Host head slot has_read) then v is e = next-slot head slot v then is e
head_kept (due.Back head k) then (line.Back b) is e = kept (is_back b) (due.Nothing head k b) then is e
head_kept (due.Back head k) then v is e = cc
head_kept (due.Nothing head k b) then v is e = cc

pub ending_head : (at : Due) (o : Outline) → IsTrue (has_head at) → ending at ≡ Some o → IsTrue (is_head o.head)
ending_head due.First o is e = cc
ending_head (due.Node head slot k) o is e = cc
ending_head (due.Host head slot has_read) o is e = cc
ending_head (due.Back head k) o is e =
    let last : Outline = record { head = head; keep = k; back = None } in
    subst (λ (x : Outline). IsTrue (is_head x.head)) (some_same last o e) is
ending_head (due.Nothing head k b) o is e =
    let last : Outline = record { head = head; keep = k; back = Some b } in
    subst (λ (x : Outline). IsTrue (is_head x.head)) (some_same last o e) is
