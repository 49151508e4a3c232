-- A text that is a trace has the lines that its value gives, and no others.
use Rattle.std.proofs.Common.{◌≡◌, ℕ, zero, suc, ◌+◌, ◌-◌, ◌<◌, ◌≤◌, Bool, true}
use Rattle.std.proofs.Common.{false, cond, ◌&&◌, not, nat_lt, ℤ, map, length}
use Rattle.std.proofs.Common.{List, [], ◌∷◌, ◌++◌, take, drop, get_or, refl, sym}
use Rattle.std.proofs.Common.{ap, subst, ◌∙◌, arith, Option, Some, None}
use Rattle.std.proofs.Common.{option_map, option_to_list, option_and_then}
use Rattle.std.specs.Prelude.{◌==◌, Result, Ok, Err}
use Rattle.std.specs.List.{flat_map, range_with_len}
use Rattle.std.specs.Str.{bytes_eq}
use Rattle.std.proofs.lemmas.Bool.{and_parts, eqb-true, ltb-true, ltb-false, ne_eqb}
use Rattle.std.proofs.lemmas.List.{append_assoc, take-append-drop, get_or-drop, drop-drop}
use Rattle.ttp_base.specs.NodeSet.{below}
use Rattle.ttp_base.specs.Text.{Lines, newline, lines_of}
use Rattle.ttp_world.specs.declared.keep.Back.{Back}
use Rattle.ttp_world.specs.declared.keep.Keep.{Keep}
use Rattle.ttp_world.specs.declared.node.Ack.{Ack}
use Rattle.view_laws.proofs.FromBelow.{guarded, some_same, line-takes, few_slots, few_nodes, slot_count}
use Rattle.line_reader.specs.declared.trace_line.TraceLine.{TraceLine}
use Rattle.line_reader.specs.declared.trace_line.TraceLine.TheVariants as line
use Rattle.line_reader.specs.declared.trace_line.Word.{Word}
use Rattle.line_reader.specs.Reading.{line_in}
use Rattle.line_reader.specs.TraceLines.{text_of, keep_text, back_text}
use Rattle.whole_trace.specs.declared.due.Due.{Due}
use Rattle.whole_trace.specs.declared.due.Due.TheVariants as due
use Rattle.whole_trace.specs.declared.due.Outline.{Outline}
use Rattle.whole_trace.specs.declared.shown.Head.{Head}
use Rattle.whole_trace.specs.declared.shown.HostLine.{HostLine}
use Rattle.whole_trace.specs.declared.shown.HostLine.TheVariants as by_host
use Rattle.whole_trace.specs.declared.shown.NodeShown.{NodeShown}
use Rattle.whole_trace.specs.Due.{is_below, source_node, has_digits, are_members, doubted}
use Rattle.whole_trace.specs.Due.{is_node_line, is_head, is_keep, is_back}
use Rattle.whole_trace.specs.Due.{next_node, after_node, due_after, ending}
use Rattle.whole_trace.specs.Whole.{SlotLines, SlotsFrom, WholeTrace, value_of, one_line_later, or_missing}
use Rattle.whole_trace.specs.Whole.{judged_behind, judged, no_lines, no_slots, with_shown_node, with_node_line}
use Rattle.whole_trace.specs.Whole.{with_line, with_value, slots_from, with_slots, whole_or_line, whole_in}
use Rattle.shown_slot.specs.Trace.{no_shown_node, header_text, first_text, node_text, host_text}
use Rattle.picture_text.specs.Picture.{ended, no_slot_lines, slot_at}
use Rattle.view_laws.specs.Titles.{texts_of_hosts, texts_of_slot, texts_of_trace}
use Rattle.ttp_world.proofs.SmallTests.{spelled}

-- A line.

-- a value that a line has is what the line says
value-says : (text : List ℕ) (v : TraceLine) → value_of text ≡ Some v → text ≡ ended (text_of v)
value-says text v is =
    let n = length text - 1 in
    let g = guarded (bytes_eq (drop n text) newline) (line_in (take n text)) v is in
    let said = (line-takes (take n text) v g.1).1 in
    sym (take-append-drop n text) ∙ (λ i. said i ++ spelled (drop n text) newline g.0 i)

-- Lines that are left.

-- of nodes from one on, so many, and of slots from one on
abbrev nodes_left : Head → ℕ → ℕ → ℕ → List NodeShown → Lines
nodes_left head t k zero nodes = []
nodes_left head t k (suc n) nodes = node_text head t k (get_or nodes 0 no_shown_node) ∷ nodes_left head t (k + 1) n
    (drop 1 nodes)

abbrev slot_left : Head → ℕ → SlotLines → Lines
slot_left head t slot = nodes_left head t 0 head.nodes slot.nodes ++ map (host_text t) slot.hosts

abbrev slots_left : Head → ℕ → ℕ → List SlotLines → Lines
slots_left head t zero slots = []
slots_left head t (suc n) slots = slot_left head t (get_or slots 0 no_slot_lines) ++ slots_left head (t + 1) n
    (drop 1 slots)

abbrev ends_left : Outline → Lines
ends_left o = keep_text o.keep ∷ option_to_list (option_map back_text o.back)

-- behind the nodes of slot t
abbrev behind : Head → ℕ → SlotsFrom → Outline → Lines
behind head t from o =
    map (host_text t) from.front.hosts ++ (slots_left head (t + 1) (head.slots - (t + 1)) from.slots ++ ends_left o)

-- from node k of slot t on, and from slot t on
abbrev from_node : Head → ℕ → ℕ → SlotsFrom → Outline → Lines
from_node head t k from o = nodes_left head t k (head.nodes - k) from.front.nodes ++ behind head t from o

abbrev from_slot : Head → ℕ → List SlotLines → Outline → Lines
from_slot head t slots o = slots_left head t (suc (head.slots - (t + 1))) slots ++ ends_left o

-- what lines say of the slots and the ends, where this is due before them
pub record SaysSlots (head : Head) (lines texts : Lines) (o : Outline) : Type 0 where
  pub of : o.head ≡ head
  pub are : lines ≡ map ended texts

pub record SaysEnds (head : Head) (k : Keep) (lines : Lines) (o : Outline) : Type 0 where
  pub of : o.head ≡ head
  pub keep : o.keep ≡ k
  pub are : lines ≡ map ended (option_to_list (option_map back_text o.back))

pub record SaysNothing (head : Head) (k : Keep) (b : Back) (lines : Lines) (o : Outline) : Type 0 where
  pub of : o.head ≡ head
  pub keep : o.keep ≡ k
  pub back : o.back ≡ Some b
  pub are : lines ≡ []

abbrev Say : Due → Lines → SlotsFrom → Outline → Type 0
Say due.First lines from o = Unit {0}
Say (due.Node head t k) lines from o =
    SaysSlots head lines (cond (k == 0) (from_slot head t from.slots o) (from_node head t k from o)) o
Say (due.Host head t has_read) lines from o = SaysSlots head lines (behind head t from o) o
Say (due.Back head k) lines from o = SaysEnds head k lines o
Say (due.Nothing head k b) lines from o = SaysNothing head k b lines o

-- The line of a node.

firsts : (p q r s u v x : Bool) → (p && q && r && s && u && v && x) ≡ true
    → ((p ≡ true) × (q ≡ true)) × ((r ≡ true) × (s ≡ true))
firsts true true true true u v x e = ((refl, refl), (refl, refl))
firsts true true true false u v x e = cc
firsts true true false s u v x e = cc
firsts true false r s u v x e = cc
firsts false q r s u v x e = cc

digits-of : (wide : Bool) (version : ℕ) → has_digits wide version ≡ true → wide ≡ (version == 2)
digits-of true version is = sym is
digits-of false version is = go (version == 2) is
  where
    go : (two : Bool) → not two ≡ true → false ≡ two
    go true none = cc
    go false none = refl

-- which line it is
record IsLineOf (head : Head) (t k s j : ℕ) (six : Bool) (then : Due) : Type 0 where
  slot : s ≡ t
  node : j ≡ k
  within : k < head.nodes
  wide : six ≡ (head.version == 2)
  next : then ≡ next_node head t k

module _ (head : Head) where
  is-line_of :
      (t k s j : ℕ) (w : Word) (peer message : Option ℕ) (wide : Bool) (members : List ℕ) (accepted rejected : ℕ)
      (a : Ack) (z : ℤ) (then : Due)
      → after_node head t k (line.Node s j w peer message wide members accepted rejected a z) ≡ Some then
      → IsLineOf head t k s j wide then
  is-line_of t k s j w peer message wide members accepted rejected a z then e =
      let v = line.Node s j w peer message wide members accepted rejected a z in
      let g = guarded (is_node_line head t k v) (Some (next_node head t k)) then e in
      let f = firsts (s == t) (j == k) (nat_lt k head.nodes) (has_digits wide head.version) (is_below head.nodes peer)
      (are_members head.nodes members) (is_below head.nodes (doubted a)) g.0 in record {
        slot = eqb-true s t f.0.0;
        node = eqb-true j k f.0.1;
        within = ltb-true k head.nodes f.1.0;
        wide = digits-of wide head.version f.1.1;
        next = sym (some_same (next_node head t k) then g.1);
      }

next-says : (head : Head) (t k : ℕ) (lines : Lines) (from : SlotsFrom) (o : Outline)
    → Say (next_node head t k) lines from o → SaysSlots head lines (from_node head t (k + 1) from o) o
next-says head t k lines from o says = by (nat_lt (k + 1) head.nodes) refl says
  where
    by : (b : Bool) → nat_lt (k + 1) head.nodes ≡ b
        → Say (cond b (due.Node head t (k + 1)) (due.Host head t false)) lines from o
        → SaysSlots head lines (from_node head t (k + 1) from o) o
    by true is say =
        let later : (k + 1 == 0) ≡ false = ne_eqb (k + 1) 0 (λ e. omega (arith, e)) in
        subst (λ (first : Bool). SaysSlots head lines
        (cond first (from_slot head t from.slots o) (from_node head t (k + 1) from o)) o) later say
    by false is say =
        let past = ltb-false (k + 1) head.nodes is in
        let none : 0 ≡ head.nodes - (k + 1) = omega (arith, past) in
        subst (λ (n : ℕ). SaysSlots head lines
        (nodes_left head t (k + 1) n from.front.nodes ++ behind head t from o) o) none say

node-says : (head : Head) (t k : ℕ) (node : NodeShown) (text : List ℕ) (lines : Lines) (from : SlotsFrom) (o : Outline)
    → k < head.nodes → text ≡ ended (node_text head t k node) → Say (next_node head t k) lines from o
    → SaysSlots head (text ∷ lines)
    (nodes_left head t k (head.nodes - k) (node ∷ from.front.nodes) ++ behind head t from o) o
node-says head t k node text lines from o within is says =
    let next = next-says head t k lines from o says in
    let count : suc (head.nodes - (k + 1)) ≡ head.nodes - k = omega (arith, within) in record {
      of = next.of;
      are =
          (λ i. is i ∷ next.are i)
          ∙ ap (λ (n : ℕ). map ended (nodes_left head t k n (node ∷ from.front.nodes) ++ behind head t from o)) count;
    }

-- before the line of a node, which is that of node 0 where a slot begins
say-node : (head : Head) (t k : ℕ) (node : NodeShown) (text : List ℕ) (lines : Lines) (from : SlotsFrom) (o : Outline)
    → k < head.nodes → text ≡ ended (node_text head t k node) → Say (next_node head t k) lines from o
    → Say (due.Node head t k) (text ∷ lines) (with_node_line k node from) o
say-node head t k node text lines from o within is says = by (k == 0) refl
  where
    by : (b : Bool) → (k == 0) ≡ b
        → SaysSlots head (text ∷ lines)
        (cond b (from_slot head t (cond b
        (let begun : SlotsFrom =
        record { front = no_lines; slots = with_shown_node node from.front ∷ from.slots } in begun)
        (record { front = with_shown_node node from.front; slots = from.slots })).slots o)
        (from_node head t k (cond b
        (let begun : SlotsFrom =
        record { front = no_lines; slots = with_shown_node node from.front ∷ from.slots } in begun)
        (record { front = with_shown_node node from.front; slots = from.slots })) o)) o
    by false other = node-says head t k node text lines from o within is says
    by true same =
        let all = node-says head t k node text lines from o within is says in
        let zero_is = eqb-true k 0 same in
        let count : head.nodes - k ≡ head.nodes = omega (arith, zero_is) in
        let nodes = nodes_left head t 0 head.nodes (node ∷ from.front.nodes) in
        let hosts = map (host_text t) from.front.hosts in
        let later = slots_left head (t + 1) (head.slots - (t + 1)) from.slots in record {
          of = all.of;
          are =
              all.are
              ∙ (λ i. map ended (nodes_left head t (zero_is i) (count i) (node ∷ from.front.nodes)
              ++ behind head t from o))
              ∙ ap (map ended) (sym (append_assoc nodes hosts (later ++ ends_left o))
              ∙ sym (append_assoc (nodes ++ hosts) later (ends_left o)));
        }

-- A line more.

say-same : (at then : Due) (lines : Lines) (from : SlotsFrom) (o : Outline)
    → Some at ≡ Some then → Say then lines from o
    → Say at lines from o
say-same at then lines from o e says = subst (λ (d : Due). Say d lines from o) (sym (some_same at then e)) says

module _ (head : Head) (t k s j : ℕ) (w : Word) (peer message : Option ℕ) where
  node-step :
      (wide : Bool) (members : List ℕ) (accepted rejected : ℕ) (a : Ack) (z : ℤ) (then : Due) (text : List ℕ)
      (lines : Lines) (from : SlotsFrom) (o : Outline)
      → text ≡ ended (text_of (line.Node s j w peer message wide members accepted rejected a z))
      → after_node head t k (line.Node s j w peer message wide members accepted rejected a z) ≡ Some then
      → Say then lines from o
      → Say (due.Node head t k) (text ∷ lines)
      (with_line (line.Node s j w peer message wide members accepted rejected a z) from) o
  node-step wide members accepted rejected a z then text lines from o is e says =
      let n = is-line_of head t k s j w peer message wide members accepted rejected a z then e in
      let node : NodeShown = record {
        word = w;
        peer = peer;
        message = message;
        members = members;
        accepted = accepted;
        rejected = rejected;
        ack = a;
        offset = z;
      } in
      let same : ended (text_of (line.Node s j w peer message wide members accepted rejected a z))
      ≡ ended (node_text head t k node) = λ i. ended (text_of
      (line.Node (n.slot i) (n.node i) w peer message (n.wide i) members accepted rejected a z)) in
      subst (λ (m : ℕ). Say (due.Node head t k) (text ∷ lines) (with_node_line m node from) o) (sym n.node)
      (say-node head t k node text lines from o n.within (is ∙ same)
      (subst (λ (d : Due). Say d lines from o) n.next says))

host-step : (head : Head) (t s : ℕ) (by : HostLine) (text : List ℕ) (lines : Lines)
    (from : SlotsFrom) (o : Outline) → s ≡ t
    → text ≡ ended (host_text s by) → SaysSlots head lines (behind head t from o) o
    → SaysSlots head (text ∷ lines)
    (map (host_text t) (by ∷ from.front.hosts)
    ++ (slots_left head (t + 1) (head.slots - (t + 1)) from.slots ++ ends_left o)) o
host-step head t s by text lines from o same is says = record {
  of = says.of;
  are = λ i. (is ∙ (λ j. ended (host_text (same j) by))) i ∷ says.are i;
}

-- the first node's line of a slot, behind what hosts did in the one before
begun-slot : (head : Head) (t j : ℕ) (node : NodeShown) (text : List ℕ) (lines : Lines) (from : SlotsFrom) (o : Outline)
    → j ≡ 0 → suc (head.slots - (t + 1 + 1)) ≡ head.slots - (t + 1)
    → SaysSlots head (text ∷ lines)
    (cond (0 == 0) (from_slot head (t + 1) (with_node_line j node from).slots o)
    (from_node head (t + 1) 0 (with_node_line j node from) o)) o
    → SaysSlots head (text ∷ lines) (behind head t (with_node_line j node from) o) o
begun-slot head t j node text lines from o is count says =
    subst (λ (m : ℕ). SaysSlots head (text ∷ lines) (behind head t (with_node_line m node from) o) o) (sym is) (record {
      of = says.of;
      are =
          says.are
          ∙ ap (λ (m : ℕ). map ended (from_slot head (t + 1) (with_node_line m node from).slots o)) is
          ∙ ap (λ (n : ℕ). map ended (slots_left head (t + 1) n
          (with_shown_node node from.front ∷ from.slots) ++ ends_left o)) count;
    })

step : (at then : Due) (v : TraceLine) (text : List ℕ) (lines : Lines) (from : SlotsFrom) (o : Outline)
    → text ≡ ended (text_of v) → due_after at v ≡ Some then → Say then lines from o
    → Say at (text ∷ lines) (with_line v from) o
step due.First then v text lines from o is e says = tt
step (due.Node head t k) then (line.Node s j w peer message wide members accepted rejected a z) text
    lines from o is e says =
    node-step head t k s j w peer message wide members accepted rejected a z then text lines from o is e says
step (due.Node head t k) then v text lines from o is e says = cc
step (due.Host head t r) then (line.Node s j w peer message wide members accepted rejected a z) text
    lines from o is e says =
    let v = line.Node s j w peer message wide members accepted rejected a z in
    let g = guarded (nat_lt (t + 1) head.slots) (after_node head (t + 1) 0 v) then e in
    let n = is-line_of head (t + 1) 0 s j w peer message wide members accepted rejected a z then g.1 in
    let begun = node-step head (t + 1) 0 s j w peer message wide members accepted
    rejected a z then text lines from o is g.1
    says in
    let few = ltb-true (t + 1) head.slots g.0 in
    let count : suc (head.slots - (t + 1 + 1)) ≡ head.slots - (t + 1) = omega (arith, few) in
    begun-slot head t j _ text lines from o n.node count begun
step (due.Host head t r) then (line.Write s host number) text lines from o is e says =
    let g = guarded ((s == t) && nat_lt host head.nodes && not r) (Some (due.Host head t false)) then e in
    let same = eqb-true s t (and_parts (s == t) (nat_lt host head.nodes)
    (and_parts ((s == t) && nat_lt host head.nodes) (not r) g.0).0).0 in
    host-step head t s (by_host.Write host number) text lines from o same is
    (say-same (due.Host head t false) then lines from o g.1 says)
step (due.Host head t r) then (line.Read s host source number payload) text lines from o is e says =
    let g = guarded ((s == t) && nat_lt host head.nodes && is_below head.nodes (source_node source))
    (Some (due.Host head t true)) then e in
    let same = eqb-true s t (and_parts (s == t) (nat_lt host head.nodes)
    (and_parts ((s == t) && nat_lt host head.nodes) (is_below head.nodes (source_node source)) g.0).0).0 in
    host-step head t s (by_host.Read host source number payload) text lines from o same is
    (say-same (due.Host head t true) then lines from o g.1 says)
step (due.Host head t r) then (line.Keep k) text lines from o is e says =
    let g = guarded ((t + 1 == head.slots) && is_keep k) (Some (due.Back head k)) then e in
    let last = eqb-true (t + 1) head.slots (and_parts (t + 1 == head.slots) (is_keep k) g.0).0 in
    let none : 0 ≡ head.slots - (t + 1) = omega (arith, last) in
    let ends = say-same (due.Back head k) then lines from o g.1 says in record {
      of = ends.of;
      are =
          (λ i. (is ∙ (λ j. ended (keep_text (sym ends.keep j)))) i ∷ ends.are i)
          ∙ ap (λ (n : ℕ). map ended (slots_left head (t + 1) n [] ++ ends_left o)) none;
    }
step (due.Host head t r) then (line.Header version nodes rounds slots schedule) text lines from o is e says =
    let g = guarded (nat_lt (t + 1) head.slots) None then e in cc
step (due.Host head t r) then (line.Back b) text lines from o is e says =
    let g = guarded (nat_lt (t + 1) head.slots) None then e in cc
step (due.Back head k) then (line.Back b) text lines from o is e says =
    let g = guarded (is_back b) (Some (due.Nothing head k b)) then e in
    let ends = say-same (due.Nothing head k b) then lines from o g.1 says in record {
      of = ends.of;
      keep = ends.keep;
      are =
          (λ i. is i ∷ ends.are i)
          ∙ ap (λ (last : Option Back). map ended (option_to_list (option_map back_text last))) (sym ends.back);
    }
step (due.Back head k) then v text lines from o is e says = cc
step (due.Nothing head k b) then v text lines from o is e says = cc

-- All lines.

ok_same : {A B : Type 0} (x y : A) → (let r : Result A B = Ok x in r) ≡ Ok y → x ≡ y
ok_same x y e = cc

end : (at : Due) (o : Outline) → or_missing (ending at) ≡ Ok o → Say at [] no_slots o
end due.First o e = tt
end (due.Node head t k) o e = cc
end (due.Host head t r) o e = cc
end (due.Back head k) o e =
    let last : Outline = record { head = head; keep = k; back = None } in
    subst (λ (x : Outline). SaysEnds head k [] x) (ok_same last o e) (record { of = refl; keep = refl; are = refl })
end (due.Nothing head k b) o e =
    let last : Outline = record { head = head; keep = k; back = Some b } in
    subst (λ (x : Outline). SaysNothing head k b [] x) (ok_same last o e)
    (record { of = refl; keep = refl; back = refl; are = refl })

-- what is judged of lines from one on is judged of the others
judged-later : (then : Due) (lines : Lines) (o : Outline) → one_line_later (judged then lines) ≡ Ok o
    → judged then lines ≡ Ok o
judged-later then lines o e = by (judged then lines) e
  where
    by : (r : Result Outline ℕ) → one_line_later r ≡ Ok o → r ≡ Ok o
    by (Ok outline) e = e
    by (Err n) e = cc

value-step : (at : Due) (v : Option TraceLine) (text : List ℕ) (lines : Lines) (o : Outline) → value_of text ≡ v
    → ((then : Due) → judged then lines ≡ Ok o → Say then lines (slots_from lines) o)
    → judged_behind (λ d. judged d lines) (option_and_then (due_after at) v) ≡ Ok o
    → Say at (text ∷ lines) (with_value v (slots_from lines)) o
value-step at None text lines o is others e = cc
value-step at (Some v) text lines o is others e = on (due_after at v) refl e
  where
    on : (next : Option Due) → due_after at v ≡ next → judged_behind (λ d. judged d lines) next ≡ Ok o
        → Say at (text ∷ lines) (with_line v (slots_from lines)) o
    on None then judges = cc
    on (Some due) then judges =
        step at due v text lines (slots_from lines) o (value-says text v is) then
        (others due (judged-later due lines o judges))

lines-say : (at : Due) (lines : Lines) (o : Outline) → judged at lines ≡ Ok o → Say at lines (slots_from lines) o
lines-say at [] o e = end at o e
lines-say at (text ∷ lines) o e =
    value-step at (value_of text) text lines o refl (λ then judges. lines-say then lines o judges) e

-- In numbers.

nodes-numbered : (head : Head) (t k n : ℕ) (nodes : List NodeShown)
    → nodes_left head t k n (drop k nodes) ≡ map (λ j. node_text head t j (get_or nodes j no_shown_node))
    (range_with_len k n)
nodes-numbered head t k zero nodes = refl
nodes-numbered head t k (suc n) nodes =
    let here : get_or (drop k nodes) 0 no_shown_node ≡ get_or nodes k no_shown_node =
    get_or-drop k nodes 0 no_shown_node
    ∙ (let e : k + 0 ≡ k = omega arith in ap (λ (j : ℕ). get_or nodes j no_shown_node) e) in
    let rest : drop 1 (drop k nodes) ≡ drop (k + 1) nodes = drop-drop 1 k nodes in
    λ i. node_text head t k (here i)
    ∷ (ap (nodes_left head t (k + 1) n) rest ∙ nodes-numbered head t (k + 1) n nodes) i

slots-numbered : (head : Head) (t n : ℕ) (slots : List SlotLines)
    → slots_left head t n (drop t slots) ≡ flat_map (λ s. slot_left head s (get_or slots s no_slot_lines))
    (range_with_len t n)
slots-numbered head t zero slots = refl
slots-numbered head t (suc n) slots =
    let here : get_or (drop t slots) 0 no_slot_lines ≡ get_or slots t no_slot_lines =
    get_or-drop t slots 0 no_slot_lines
    ∙ (let e : t + 0 ≡ t = omega arith in ap (λ (j : ℕ). get_or slots j no_slot_lines) e) in
    let rest : drop 1 (drop t slots) ≡ drop (t + 1) slots = drop-drop 1 t slots in
    λ i. slot_left head t (here i)
    ++ (ap (slots_left head (t + 1) n) rest ∙ slots-numbered head (t + 1) n slots) i

slot-numbered : (trace : WholeTrace) (t : ℕ) → slot_left trace.head t (slot_at trace t) ≡ texts_of_slot trace t
slot-numbered trace t =
    λ i. nodes-numbered trace.head t 0 trace.head.nodes (slot_at trace t).nodes i ++ texts_of_hosts trace t

flat-same : (f g : ℕ → Lines) (ts : List ℕ) → ((t : ℕ) → f t ≡ g t) → flat_map f ts ≡ flat_map g ts
flat-same f g [] same = refl
flat-same f g (t ∷ ts) same = λ i. same t i ++ flat-same f g ts same i

-- The whole.

-- what a text says that is a trace
pub record IsTextOf (lines : Lines) (trace : WholeTrace) : Type 0 where
  pub are : lines ≡ map ended (texts_of_trace trace)
  pub some : 1 ≤ length trace.slots
  pub slots : length trace.slots ≤ 20000
  pub nodes : trace.head.nodes ≤ 24

header-says : (first : List ℕ) (lines : Lines) (o : Outline) (head : Head) → first ≡ ended (header_text head)
    → is_head head ≡ true → Say (due.Node head 0 0) lines (slots_from lines) o
    → length (slots_from lines).slots ≡ o.head.slots
    → IsTextOf (first ∷ lines) (with_slots (first ∷ lines) o)
header-says first lines o head is right says counted =
    let whole = with_slots (first ∷ lines) o in
    let slots = (slots_from lines).slots in
    let few = few_slots head right in
    let same : o.head.slots ≡ head.slots = ap (λ (h : Head). h.slots) says.of in
    let count : suc (head.slots - (0 + 1)) ≡ length slots = omega (arith, few.0, counted, same) in
    let numbered : slots_left head 0 (suc (head.slots - (0 + 1))) slots
    ≡ flat_map (texts_of_slot whole) (below (length slots)) =
    (λ i. slots_left (sym says.of i) 0 (count i) slots) ∙ slots-numbered o.head 0 (length slots) slots
    ∙ flat-same (λ s. slot_left o.head s (get_or slots s no_slot_lines)) (texts_of_slot whole) (below (length slots))
    (slot-numbered whole) in record {
      are =
          (λ i. (is ∙ (λ j. ended (header_text (sym says.of j)))) i ∷ says.are i)
          ∙ (λ i. ended (first_text whole) ∷ map ended (numbered i ++ ends_left o));
      some = omega (arith, counted, same, few.0);
      slots = omega (arith, counted, same, few.1);
      nodes = subst (λ (h : Head). h.nodes ≤ 24) (sym says.of) (few_nodes head right).1;
    }

first-says : (first : List ℕ) (lines : Lines) (o : Outline) → judged due.First (first ∷ lines) ≡ Ok o
    → IsTextOf (first ∷ lines) (with_slots (first ∷ lines) o)
first-says first lines o e = on (value_of first) refl e
  where
    header : (v : TraceLine) (next : Option Due) → value_of first ≡ Some v → due_after due.First v ≡ next
        → judged_behind (λ d. judged d lines) next ≡ Ok o → IsTextOf (first ∷ lines) (with_slots (first ∷ lines) o)
    header v None said is judges = cc
    header (line.Header version nodes rounds slots schedule) (Some then) said is judges =
        let head : Head =
        record { version = version; nodes = nodes; rounds = rounds; slots = slots; schedule = schedule } in
        let g = guarded (is_head head) (Some (due.Node head 0 0)) then is in
        let all = lines-say then lines o (judged-later then lines o judges) in
        header-says first lines o head (value-says first (line.Header version nodes rounds slots schedule) said) g.0
        (say-same (due.Node head 0 0) then lines (slots_from lines) o g.1 all) (slot_count (first ∷ lines) o e)
    header v (Some then) said is judges = cc

    on : (v : Option TraceLine) → value_of first ≡ v
        → judged_behind (λ d. judged d lines) (option_and_then (due_after due.First) v) ≡ Ok o
        → IsTextOf (first ∷ lines) (with_slots (first ∷ lines) o)
    on None said judges = cc
    on (Some v) said judges = header v (due_after due.First v) said refl judges

lines-are : (lines : Lines) (o : Outline) → judged due.First lines ≡ Ok o → IsTextOf lines (with_slots lines o)
lines-are [] o e = cc
lines-are (first ∷ lines) o e = first-says first lines o e

pub text-lines : (text : List ℕ) (trace : WholeTrace) → whole_in text ≡ Ok trace → IsTextOf (lines_of text) trace
text-lines text trace e = on (judged due.First (lines_of text)) refl e
  where
    on : (r : Result Outline ℕ) → judged due.First (lines_of text) ≡ r → whole_or_line (lines_of text) r ≡ Ok trace
        → IsTextOf (lines_of text) trace
    on (Ok o) is whole =
        subst (IsTextOf (lines_of text))
        (ok_same (with_slots (lines_of text) o) trace whole) (lines-are (lines_of text) o is)
    on (Err n) is whole = cc
