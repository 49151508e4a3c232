-- A trace has as many slots as its first line says.
use Rattle.std.proofs.Common.{◌≡◌, ℕ, zero, suc, ◌+◌, Bool, true, false, cond, ◌&&◌, not, [], ◌∷◌, length, drop}
use Rattle.std.proofs.Common.{Option, Some, None, refl, sym, subst, arith}
use Rattle.std.specs.Prelude.{◌==◌, nat_lt, Result, Ok, Err, option_and_then}
use Rattle.std.proofs.lemmas.Bool.{and_parts, eqb-true, ne_eqb}
use Rattle.ttp_base.specs.Text.{Lines}
use Rattle.line_reader.specs.declared.trace_line.TraceLine.{TraceLine}
use Rattle.line_reader.specs.declared.trace_line.TraceLine.TheVariants as line
use Rattle.whole_trace.proofs.FromBelow.{guarded, some_same}
use Rattle.whole_trace.specs.declared.due.Due.{Due}
use Rattle.whole_trace.specs.declared.due.Due.TheVariants as due
use Rattle.whole_trace.specs.declared.due.Outline.{Outline}
use Rattle.whole_trace.specs.declared.shown.Head.{Head}
use Rattle.whole_trace.specs.declared.shown.NodeShown.{NodeShown}
use Rattle.whole_trace.specs.Due.{is_below, source_node, is_head, is_keep, is_back, next_node, due_after, ending}
use Rattle.whole_trace.specs.Whole.{one_line_later, or_missing, judged_behind, judged, with_line, with_value}
use Rattle.whole_trace.specs.Whole.{with_shown_node, with_node_line, no_lines, SlotsFrom, value_of, slots_from}
use Rattle.whole_trace.proofs.NodeSteps.{is_next}

-- the slots of the trace are so many, where this many begin in what is left
abbrev Totals : Due → ℕ → ℕ → Type 0
Totals due.First n s = Unit {0}
Totals (due.Node head slot k) n s = (cond (k == 0) slot (slot + 1)) + n ≡ s
Totals (due.Host head slot has_read) n s = slot + 1 + n ≡ s
Totals (due.Back head k) n s = head.slots ≡ s
Totals (due.Nothing head k b) n s = head.slots ≡ s

later : (k : ℕ) → (k + 1 == 0) ≡ false
later k = ne_eqb (k + 1) 0 (λ e. omega (arith, e))

next-total : (head : Head) (slot k n s : ℕ) → Totals (next_node head slot k) n s → slot + 1 + n ≡ s
next-total head slot k n s = by_last (nat_lt (k + 1) head.nodes)
  where
    by_last : (b : Bool) → Totals
        (cond b (due.Node head slot (k + 1)) (due.Host head slot false)) n s → slot + 1 + n ≡ s
    by_last true is = rw (later k) at is
    by_last false is = is

node-total : (head : Head) (slot k j : ℕ) (node : NodeShown) (from : SlotsFrom) (s : ℕ) → j ≡ k
    → slot + 1 + length from.slots ≡ s → Totals (due.Node head slot k) (length (with_node_line j node from).slots) s
node-total head slot k j node from s e is =
    subst (λ (m : ℕ). Totals (due.Node head slot m) (length (with_node_line j node from).slots) s) e (by_first (j == 0))
  where
    by_first : (b : Bool) → (cond b slot (slot + 1)) + length (cond b
        (let r : SlotsFrom = record { front = no_lines; slots = with_shown_node node from.front ∷ from.slots } in r)
        (record { front = with_shown_node node from.front; slots = from.slots })).slots ≡ s
    by_first true = omega (arith, is)
    by_first false = is

first-total : (slot j : ℕ) (node : NodeShown) (from : SlotsFrom) (s : ℕ) → j ≡ 0
    → slot + 1 + 1 + length from.slots ≡ s → slot + 1 + length (with_node_line j node from).slots ≡ s
first-total slot zero node from s e is = omega (arith, is)
first-total slot (suc j) node from s e is = cc

at-same : (at then : Due) (n s : ℕ) → Some at ≡ Some then → Totals then n s → Totals at n s
at-same at then n s e is = subst (λ (d : Due). Totals d n s) (sym (some_same at then e)) is

-- a line more
step-total : (at then : Due) (v : TraceLine) (from : SlotsFrom) (s : ℕ) → due_after at v ≡ Some then
    → Totals then (length from.slots) s → Totals at (length (with_line v from).slots) s
step-total due.First then v from s e is = tt
step-total (due.Node head slot k) then (line.Node t j w peer message wide members accepted rejected a z) from s e is =
    let n = is_next (due.Node head slot k) then t j w peer message wide members accepted rejected a z e in
    let next = subst (λ (d : Due). Totals d (length from.slots) s) n.next is in
    node-total head slot k j _ from s n.node (next-total head slot k (length from.slots) s next)
step-total (due.Node head slot k) then v from s e is = cc
step-total (due.Host head slot r) then (line.Node t j w peer message wide members accepted rejected a z) from s e is =
    let n = is_next (due.Host head slot r) then t j w peer message wide members accepted rejected a z e in
    let next = subst (λ (d : Due). Totals d (length from.slots) s) n.next is in
    first-total slot j _ from s n.node (next-total head (slot + 1) 0 (length from.slots) s next)
step-total (due.Host head slot r) then (line.Write t h n) from s e is =
    let g = guarded ((t == slot) && nat_lt h head.nodes && not r) (Some (due.Host head slot false)) then e in
    at-same (due.Host head slot false) then (length from.slots) s g.1 is
step-total (due.Host head slot r) then (line.Read t h source n payload) from s e is =
    let g = guarded ((t == slot) && nat_lt h head.nodes && is_below head.nodes (source_node source))
    (Some (due.Host head slot true)) then e in
    at-same (due.Host head slot true) then (length from.slots) s g.1 is
step-total (due.Host head slot r) then (line.Keep k) from s e is =
    let g = guarded ((slot + 1 == head.slots) && is_keep k) (Some (due.Back head k)) then e in
    let last = eqb-true (slot + 1) head.slots (and_parts (slot + 1 == head.slots) (is_keep k) g.0).0 in
    let same = at-same (due.Back head k) then (length from.slots) s g.1 is in
    omega (arith, last, same)
step-total (due.Host head slot r) then (line.Header version nodes rounds slots schedule) from s e is =
    let g = guarded (nat_lt (slot + 1) head.slots) None then e in cc
step-total (due.Host head slot r) then (line.Back b) from s e is =
    let g = guarded (nat_lt (slot + 1) head.slots) None then e in cc
step-total (due.Back head k) then (line.Back b) from s e is =
    let g = guarded (is_back b) (Some (due.Nothing head k b)) then e in
    at-same (due.Nothing head k b) then (length from.slots) s g.1 is
step-total (due.Back head k) then v from s e is = cc
step-total (due.Nothing head k b) then v from s e is = cc

-- all lines
end-total : (at : Due) (o : Outline) → or_missing (ending at) ≡ Ok o → Totals at 0 o.head.slots
end-total due.First o e = tt
end-total at o e = cc

later-ok : (r : Result Outline ℕ) (o : Outline) → one_line_later r ≡ Ok o → r ≡ Ok o
later-ok (Ok outline) o e = e
later-ok (Err n) o e = cc

value-total : (at : Due) (v : Option TraceLine) (lines : Lines) (o : Outline)
    → ((then : Due) → judged then lines ≡ Ok o → Totals then (length (slots_from lines).slots) o.head.slots)
    → judged_behind (λ d. judged d lines) (option_and_then (due_after at) v) ≡ Ok o
    → Totals at (length (with_value v (slots_from lines)).slots) o.head.slots
value-total at None lines o others e = cc
value-total at (Some v) lines o others e = on (due_after at v) refl e
  where
    on : (next : Option Due) → due_after at v ≡ next → judged_behind (λ d. judged d lines) next ≡ Ok o
        → Totals at (length (with_line v (slots_from lines)).slots) o.head.slots
    on None is judges = cc
    on (Some then) is judges =
        step-total at then v (slots_from lines) o.head.slots is (others then (later-ok (judged then lines) o judges))

lines-total : (at : Due) (lines : Lines) (o : Outline) → judged at lines ≡ Ok o
    → Totals at (length (slots_from lines).slots) o.head.slots
lines-total at [] o e = end-total at o e
lines-total at (first ∷ lines) o e =
    value-total at (value_of first) lines o (λ then judges. lines-total then lines o judges) e

-- a trace
pub slot_count : (lines : Lines) (o : Outline) → judged due.First lines ≡ Ok o
    → length (slots_from (drop 1 lines)).slots ≡ o.head.slots
slot_count [] o e = cc
slot_count (first ∷ lines) o e = on (value_of first) e
  where
    header : (v : TraceLine) (next : Option Due) → due_after due.First v ≡ next
        → judged_behind (λ d. judged d lines) next ≡ Ok o → length (slots_from lines).slots ≡ o.head.slots
    header v None is judges = cc
    header (line.Header version nodes rounds slots schedule) (Some then) is judges =
        let head : Head =
        record { version = version; nodes = nodes; rounds = rounds; slots = slots; schedule = schedule } in
        let g = guarded (is_head head) (Some (due.Node head 0 0)) then is in
        let all = lines-total then lines o (later-ok (judged then lines) o judges) in
        let same = at-same (due.Node head 0 0) then (length (slots_from lines).slots) o.head.slots g.1 all in
        omega (arith, same)
    header v (Some then) is judges = cc

    on : (v : Option TraceLine) → judged_behind (λ d. judged d lines) (option_and_then (due_after due.First) v) ≡ Ok o
        → length (slots_from lines).slots ≡ o.head.slots
    on None judges = cc
    on (Some v) judges = header v (due_after due.First v) refl judges
