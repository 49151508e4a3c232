-- The line of a node in a text: which node's it is, and what it adds to the slots behind it.
use Rattle.std.proofs.Common.{◌≡◌, ℕ, ◌+◌, Bool, true, false, ◌&&◌, ℤ, List, []}
use Rattle.std.proofs.Common.{◌∷◌, Option, Some, None, refl, sym, ap, ◌∙◌}
use Rattle.std.proofs.Common.{◌≤◌, IsTrue, cond, not, subst, get_or, drop, arith}
use Rattle.std.proofs.lemmas.Bool.{and_parts}
use Rattle.std.specs.Prelude.{◌==◌, nat_le, nat_lt, Result, Ok, Err, option_and_then}
use Rattle.std.proofs.lemmas.Bool.{eqb-true, eq-eqb, ne_eqb, le-leb, leb-true, ltb-true}
use Rattle.ttp_base.specs.NodeSet.{most_nodes}
use Rattle.ttp_base.specs.Text.{Lines, lines_of}
use Rattle.ttp_world.specs.declared.node.Ack.{Ack}
use Rattle.line_reader.specs.declared.trace_line.TraceLine.{TraceLine}
use Rattle.line_reader.specs.declared.trace_line.TraceLine.TheVariants as line
use Rattle.line_reader.specs.declared.trace_line.Word.{Word}
use Rattle.whole_trace.proofs.FromBelow.{guarded, some_same}
use Rattle.whole_trace.specs.declared.due.Due.{Due}
use Rattle.whole_trace.specs.declared.due.Due.TheVariants as due
use Rattle.whole_trace.specs.declared.due.Outline.{Outline}
use Rattle.whole_trace.specs.declared.shown.Head.{Head}
use Rattle.whole_trace.specs.declared.shown.NodeShown.{NodeShown}
use Rattle.whole_trace.specs.Due.{is_below, source_node, is_node_line, next_node, after_node, due_after}
use Rattle.whole_trace.specs.Steps.{IsLineStep, is_taken, GoesOn, node_due, behind_node, IsNodeStep, is_due_in_slot}
use Rattle.whole_trace.specs.Steps.{IsInSlot, are_few, is_due_between, is_host_line, IsHostPlace, IsHostStep}
use Rattle.whole_trace.specs.Steps.{IsSlotPlace}
use Rattle.whole_trace.specs.Whole.{due_behind, one_line_later, judged_behind, judged, with_line, with_value}
use Rattle.whole_trace.specs.Whole.{with_shown_node, with_node_line, SlotLines, SlotsFrom, value_of, slots_from}
use Rattle.whole_trace.proofs.Texts.{cut-front, rest-shorter}

-- Any line.

pub judged-step : (at : Due) (text : List ℕ) (v : TraceLine) (then : Due) (rest : List ℕ)
    → IsLineStep at text v then rest
    → judged at (lines_of text) ≡ one_line_later (judged then (lines_of rest))
judged-step at text v then rest s =
    let is : due_behind at s.line ≡ Some then = ap (option_and_then (due_after at)) s.value ∙ s.next in
    ap (judged at) s.cut ∙ ap (judged_behind (λ d. judged d (lines_of rest))) is

taken-later : (r : Result Outline ℕ) → is_taken (one_line_later r) ≡ is_taken r
taken-later (Ok outline) = refl
taken-later (Err line) = refl

pub goes-on : (at : Due) (text : List ℕ) (v : TraceLine) (then : Due) (rest : List ℕ) → IsLineStep at text v then rest
    → GoesOn at (lines_of text) → GoesOn then (lines_of rest)
goes-on at text v then rest s on =
    sym (taken-later (judged then (lines_of rest))) ∙ sym (ap is_taken (judged-step at text v then rest s)) ∙ on

pub slots-step : (at : Due) (text : List ℕ) (v : TraceLine) (then : Due) (rest : List ℕ)
    → IsLineStep at text v then rest
    → slots_from (lines_of text) ≡ with_line v (slots_from (lines_of rest))
slots-step at text v then rest s =
    ap slots_from s.cut ∙ ap (λ (o : Option TraceLine). with_value o (slots_from (lines_of rest))) s.value

-- The line of a node.

second : (p q r s u v x : Bool) → (p && q && r && s && u && v && x) ≡ true → q ≡ true
second true true r s u v x e = refl
second true false r s u v x e = cc
second false q r s u v x e = cc

-- what a line tells of which node's it is
pub record IsNext (at then : Due) (j : ℕ) : Type 0 where
  pub node : j ≡ node_due at
  pub next : then ≡ behind_node at

module _ (head : Head) where
  next-of :
      (slot k t j : ℕ) (w : Word) (peer message : Option ℕ) (wide : Bool) (members : List ℕ) (accepted rejected : ℕ)
      (a : Ack) (z : ℤ) (then : Due)
      → after_node head slot k (line.Node t j w peer message wide members accepted rejected a z) ≡ Some then
      → (j ≡ k) × (then ≡ next_node head slot k)
  next-of slot k t j w peer message wide members accepted rejected a z then e =
      let v = line.Node t j w peer message wide members accepted rejected a z in
      let g = guarded (is_node_line head slot k v) (Some (next_node head slot k)) then e in
      (eqb-true j k (second _ _ _ _ _ _ _ g.0), sym (some_same (next_node head slot k) then g.1))

pub is_next : (at then : Due) (t j : ℕ) (w : Word) (peer message : Option ℕ) (wide : Bool) (members : List ℕ)
    (accepted rejected : ℕ) (a : Ack) (z : ℤ)
    → due_after at (line.Node t j w peer message wide members accepted rejected a z) ≡ Some then → IsNext at then j
is_next due.First then t j w peer message wide members accepted rejected a z e = cc
is_next (due.Node head slot k) then t j w peer message wide members accepted rejected a z e =
    let n = next-of head slot k t j w peer message wide members accepted rejected a z then e in
    record { node = n.0; next = n.1 }
is_next (due.Host head slot has_read) then t j w peer message wide members accepted rejected a z e =
    let v = line.Node t j w peer message wide members accepted rejected a z in
    let g = guarded (nat_lt (slot + 1) head.slots) (after_node head (slot + 1) 0 v) then e in
    let n = next-of head (slot + 1) 0 t j w peer message wide members accepted rejected a z then g.1 in
    record { node = n.0; next = n.1 }
is_next (due.Back head k) then t j w peer message wide members accepted rejected a z e = cc
is_next (due.Nothing head k b) then t j w peer message wide members accepted rejected a z e = cc

module _ (at then : Due) where
  pub node-step :
      (text rest : List ℕ) (t j : ℕ) (w : Word) (peer message : Option ℕ) (wide : Bool) (members : List ℕ)
      (accepted rejected : ℕ) (a : Ack) (z : ℤ)
      → IsLineStep at text (line.Node t j w peer message wide members accepted rejected a z) then rest
      → IsNodeStep at text (record {
        word = w;
        peer = peer;
        message = message;
        members = members;
        accepted =
            accepted;
        rejected = rejected;
        ack = a;
        offset = z;
      }) then rest
  node-step text rest t j w peer message wide members accepted rejected a z s =
      let v = line.Node t j w peer message wide members accepted rejected a z in
      let shown : NodeShown = record {
        word = w;
        peer = peer;
        message = message;
        members = members;
        accepted = accepted;
        rejected = rejected;
        ack = a;
        offset = z;
      } in
      let n = is_next at then t j w peer message wide members accepted rejected a z s.next in record {
        slots =
            slots-step at text v then rest s
            ∙ ap (λ (k : ℕ). with_node_line k shown (slots_from (lines_of rest))) n.node;
        goes_on = goes-on at text v then rest s;
        next = n.next;
        shorter = s.shorter;
      }

-- a text begins with a line that is due
pub due-step : (head : Head) (slot k : ℕ) (text front rest : List ℕ) (v : TraceLine) (then : Due)
    → lines_of text ≡ front ∷ lines_of rest → value_of front ≡ Some v → is_node_line head slot k v ≡ true
    → then ≡ next_node head slot k → IsLineStep (due.Node head slot k) text v then rest
due-step head slot k text front rest v then cut value is next = record {
  line = front;
  cut = cut;
  value = value;
  next = rw is (ap (λ (d : Due). Some d) (sym next));
  shorter = rest-shorter text front rest v cut value;
}

-- where the line of a node is due in a trace, one stands
pub node-stands : (head : Head) (slot k : ℕ) (text front rest : List ℕ) → get_or (lines_of text) 0 [] ≡ front
    → drop 1 (lines_of text) ≡ lines_of rest → GoesOn (due.Node head slot k) (lines_of text)
    → (shown : NodeShown) × IsNodeStep (due.Node head slot k) text shown (next_node head slot k) rest
node-stands head slot k [] front rest first others on = cc
node-stands head slot k (b ∷ bytes) front rest first others on = by_value (value_of front) refl
  where
    at : Due
    at = due.Node head slot k

    text : List ℕ
    text = b ∷ bytes

    cut : lines_of text ≡ front ∷ lines_of rest
    cut = cut-front text front rest first others (omega arith)

    Stands : Option Due → Type 0
    Stands o = IsTrue (is_taken (judged_behind (λ d. judged d (lines_of rest)) o))

    by_due : (v : TraceLine) (o : Option Due) → value_of front ≡ Some v → due_after at v ≡ o → Stands o
        → (shown : NodeShown) × IsNodeStep at text shown (next_node head slot k) rest
    by_due v None value next is = cc
    by_due (line.Node t j w peer message wide members accepted rejected a z) (Some then) value next is =
        let v = line.Node t j w peer message wide members accepted rejected a z in
        let step = node-step at then text rest t j w peer message wide members accepted rejected a z (record {
          line = front;
          cut = cut;
          value = value;
          next = next;
          shorter = rest-shorter text front rest v cut value;
        }) in
        let shown : NodeShown = record {
          word = w;
          peer = peer;
          message = message;
          members = members;
          accepted = accepted;
          rejected = rejected;
          ack = a;
          offset = z;
        } in
        (shown, subst (λ (d : Due). IsNodeStep at text shown d rest) step.next step)
    by_due v (Some then) value next is = cc

    by_value : (o : Option TraceLine) → value_of front ≡ o
        → (shown : NodeShown) × IsNodeStep at text shown (next_node head slot k) rest
    by_value None is =
        let no : Stands (option_and_then (due_after at) None) =
        subst (λ (o : Option TraceLine). Stands (option_and_then (due_after at) o)) is
        (subst (λ (lines : Lines). GoesOn at lines) cut on) in cc
    by_value (Some v) is =
        by_due v (due_after at v) is refl
        (subst (λ (o : Option TraceLine). Stands (option_and_then (due_after at) o)) is
        (subst (λ (lines : Lines). GoesOn at lines) cut on))

-- Behind the nodes.

-- no line of a node follows in the slot where lines of hosts do
host-nodes : (head : Head) (slot : ℕ) (has_read : Bool) (lines : Lines) → GoesOn (due.Host head slot has_read) lines
    → (slots_from lines).front.nodes ≡ []
host-nodes head slot has_read [] on = refl
host-nodes head slot has_read (first ∷ lines) on = by_value (value_of first) on
  where
    by_value : (o : Option TraceLine)
        → IsTrue (is_taken (judged_behind (λ d. judged d lines)
        (option_and_then (due_after (due.Host head slot has_read)) o)))
        → (with_value o (slots_from lines)).front.nodes ≡ []
    by_value None on = refl
    by_value (Some (line.Header version nodes rounds slots schedule)) on = refl
    by_value (Some (line.Write t h n)) on = refl
    by_value (Some (line.Read t h source n payload)) on = refl
    by_value (Some (line.Keep k)) on = refl
    by_value (Some (line.Back b)) on = refl
    by_value (Some (line.Node t j w peer message wide members accepted rejected a z)) on =
        by_due (due_after (due.Host head slot has_read)
        (line.Node t j w peer message wide members accepted rejected a z)) refl on
      where
        by_due : (o : Option Due)
            → due_after (due.Host head slot has_read)
            (line.Node t j w peer message wide members accepted rejected a z) ≡ o
            → IsTrue (is_taken (judged_behind (λ d. judged d lines) o))
            → (with_line (line.Node t j w peer message wide members accepted rejected a z)
            (slots_from lines)).front.nodes ≡ []
        by_due None e on = cc
        by_due (Some then) e on =
            let n = is_next (due.Host head slot has_read) then t j w peer
            message wide members accepted rejected a z e in
            rw n.node refl

pub nodes-ended : (at : Due) (count : ℕ) (lines : Lines)
    → ((head : Head) (slot k : ℕ) → at ≡ due.Node head slot k → ⊥)
    → IsInSlot count at lines → (slots_from lines).front.nodes ≡ []
nodes-ended (due.Node head slot k) count lines other in_slot = absurd (other head slot k refl)
nodes-ended (due.Host head slot has_read) count lines other in_slot =
    host-nodes head slot has_read lines in_slot.goes_on
nodes-ended at count lines other in_slot = let no : false ≡ true = in_slot.in_slot in cc

pub same-slot : (s t : SlotLines) → s.nodes ≡ t.nodes → s.hosts ≡ t.hosts → s ≡ t
same-slot s t nodes hosts = λ i. record { nodes = nodes i; hosts = hosts i }

-- a slot's nodes are read, so hosts follow
pub hosts-follow : (at : Due) (count : ℕ) (lines : Lines)
    → ((head : Head) (slot k : ℕ) → at ≡ due.Node head slot k → ⊥)
    → IsInSlot count at lines → IsSlotPlace at lines
hosts-follow due.First count lines other in_slot = let no : false ≡ true = in_slot.in_slot in cc
hosts-follow (due.Node head slot k) count lines other in_slot = absurd (other head slot k refl)
hosts-follow (due.Host head slot has_read) count lines other in_slot = record {
  goes_on = in_slot.goes_on;
  between = (and_parts (nat_le count most_nodes) (are_few head) in_slot.in_slot).1;
}
hosts-follow (due.Back head k) count lines other in_slot = let no : false ≡ true = in_slot.in_slot in cc
hosts-follow (due.Nothing head k b) count lines other in_slot = let no : false ≡ true = in_slot.in_slot in cc

pub are-hosts : (at : Due) (count : ℕ) (lines : Lines)
    → ((head : Head) (slot k : ℕ) → at ≡ due.Node head slot k → ⊥)
    → IsInSlot count at lines → IsHostPlace at lines
are-hosts (due.Node head slot k) count lines other in_slot = absurd (other head slot k refl)
are-hosts (due.Host head slot has_read) count lines other in_slot = record { goes_on = in_slot.goes_on; host = refl }
are-hosts at count lines other in_slot = let no : false ≡ true = in_slot.in_slot in cc

-- the next node is due, or hosts are
next-in_slot : (head : Head) (slot k count : ℕ) → k ≡ count → nat_lt k head.nodes ≡ true → are_few head ≡ true
    → IsTrue (is_due_in_slot (count + 1) (next_node head slot k))
next-in_slot head slot k count same less few = by_last (nat_lt (k + 1) head.nodes) refl
  where
    by_last : (b : Bool) → nat_lt (k + 1) head.nodes ≡ b
        → IsTrue (is_due_in_slot (count + 1) (cond b (due.Node head slot (k + 1)) (due.Host head slot false)))
    by_last true is =
        let next : (k + 1 == count + 1) ≡ true = eq-eqb (k + 1) (count + 1) (omega (arith, same)) in
        rw next (rw is few)
    by_last false is =
        let most = leb-true head.nodes most_nodes
        (and_parts (nat_lt 0 head.nodes) (nat_le head.nodes most_nodes) few).1 in
        let below = ltb-true k head.nodes less in
        let within : nat_le (count + 1) most_nodes ≡ true =
        le-leb (count + 1) most_nodes (omega (arith, same, most, below)) in
        rw within few

-- what a line of a node leaves behind that of node 0
pub record IsPassed (count : ℕ) (text : List ℕ) (then : Due) (rest : List ℕ) : Type 0 where
  pub hosts : (slots_from (lines_of text)).front.hosts ≡ (slots_from (lines_of rest)).front.hosts
  pub others : (slots_from (lines_of text)).slots ≡ (slots_from (lines_of rest)).slots
  pub place : IsInSlot (count + 1) then (lines_of rest)

pub passed : (head : Head) (slot k count : ℕ) (text rest : List ℕ) (shown : NodeShown) (then : Due) → 1 ≤ count
    → IsInSlot count (due.Node head slot k) (lines_of text) → IsNodeStep (due.Node head slot k) text shown then rest
    → IsPassed count text then rest
passed head slot k count text rest shown then some in_slot step =
    let from = slots_from (lines_of rest) in
    let parts = and_parts ((k == count) && nat_lt k head.nodes) (are_few head) in_slot.in_slot in
    let first = and_parts (k == count) (nat_lt k head.nodes) parts.0 in
    let same = eqb-true k count first.0 in
    let later : (k == 0) ≡ false = ne_eqb k 0 (λ none. omega (arith, none, same, some)) in
    let adds : slots_from (lines_of text) ≡ record { front = with_shown_node shown from.front; slots = from.slots } =
    step.slots ∙ rw later refl in record {
      hosts = ap (λ (f : SlotsFrom). f.front.hosts) adds;
      others = ap (λ (f : SlotsFrom). f.slots) adds;
      place = record {
        goes_on = step.goes_on in_slot.goes_on;
        in_slot =
            subst (λ (d : Due). IsTrue (is_due_in_slot (count + 1) d)) (sym step.next)
            (next-in_slot head slot k count same first.1 parts.1);
      };
    }

-- The line of a host.

is-host : (at then : Due) (v : TraceLine) → IsTrue (is_host_line v) → due_after at v ≡ Some then
    → IsTrue (is_due_between at) → IsTrue (is_due_between then)
is-host due.First then v is e between = cc
is-host (due.Node head slot k) then (line.Write t h n) is e between = cc
is-host (due.Node head slot k) then (line.Read t h source n payload) is e between = cc
is-host (due.Node head slot k) then v is e between = cc
is-host (due.Host head slot has_read) then (line.Write t h n) is e between =
    let g = guarded ((t == slot) && nat_lt h head.nodes && not has_read) (Some (due.Host head slot false)) then e in
    subst (λ (d : Due). IsTrue (is_due_between d)) (some_same (due.Host head slot false) then g.1) between
is-host (due.Host head slot has_read) then (line.Read t h source n payload) is e between =
    let g = guarded ((t == slot) && nat_lt h head.nodes && is_below head.nodes (source_node source))
    (Some (due.Host head slot true)) then e in
    subst (λ (d : Due). IsTrue (is_due_between d)) (some_same (due.Host head slot true) then g.1) between
is-host (due.Host head slot has_read) then v is e between = cc
is-host at then v is e between = cc

with-host : (v : TraceLine) (from : SlotsFrom) → IsTrue (is_host_line v) → (with_line v from).slots ≡ from.slots
with-host (line.Write t h n) from is = refl
with-host (line.Read t h source n payload) from is = refl
with-host v from is = cc

pub host-step : (at then : Due) (text rest : List ℕ) (v : TraceLine) → IsLineStep at text v then rest
    → IsTrue (is_host_line v) → IsHostStep at text then rest
host-step at then text rest v s is = record {
  slots =
      ap (λ (from : SlotsFrom). from.slots) (slots-step at text v then rest s)
      ∙ with-host v (slots_from (lines_of rest)) is;
  place = λ p. record {
    goes_on = goes-on at text v then rest s p.goes_on;
    between = is-host at then v is s.next p.between;
  };
  shorter = s.shorter;
}
