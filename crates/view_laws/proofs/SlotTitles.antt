-- Of a slot that is shown the titles are the lines of its nodes and of its hosts.
use Rattle.std.proofs.Common.{◌≡◌, ◌≢◌, ℕ, zero, suc, ◌+◌, ◌-◌, ◌*◌, ◌<◌, ◌≤◌, ◌^◌}
use Rattle.std.proofs.Common.{Bool, true, false, cond, ◌||◌, min, map, nat_le}
use Rattle.std.proofs.Common.{List, [], ◌∷◌, ◌++◌, length, drop, filter, refl, sym, ap}
use Rattle.std.proofs.Common.{◌∙◌, arith, codes, decimal, Option, Some, None, inl, inr}
use Rattle.std.specs.Prelude.{◌==◌}
use Rattle.std.specs.List.{concat, flat_map, range_with_len}
use Rattle.std.specs.Fmt.{signed_decimal}
use Rattle.std.proofs.lemmas.Bool.{and_parts, and_from, leb-true, le-leb, cases_eq}
use Rattle.std.proofs.lemmas.List.{append-nil}
use Rattle.std.proofs.lemmas.List.Elements.{filter-append}
use Rattle.ttp_base.specs.NodeSet.{below, set_bits}
use Rattle.ttp_base.specs.Text.{Lines, hex, hex_bytes}
use Rattle.ttp_world.specs.Medl.{member_bytes}
use Rattle.ttp_world.specs.Trace.{number_or_dash, ack_word, source_word, node_pieces}
use Rattle.ttp_base.proofs.Gathered.{gathered}
use Rattle.line_reader.specs.TraceLines.{word_text}
use Rattle.whole_trace.specs.declared.shown.Head.{Head}
use Rattle.whole_trace.specs.declared.shown.HostLine.{HostLine}
use Rattle.whole_trace.specs.declared.shown.HostLine.TheVariants as by_host
use Rattle.whole_trace.specs.declared.shown.NodeShown.{NodeShown}
use Rattle.whole_trace.specs.Whole.{SlotLines, WholeTrace}
use Rattle.shown_slot.specs.Nodes.{clock_range, node_apart}
use Rattle.shown_slot.specs.Trace.{node_at, first_text, node_text, host_text}
use Rattle.picture_text.specs.declared.window.Span.{Span}
use Rattle.picture_text.specs.Cells.{shown_memberships, membership_text, apart_text, far_text}
use Rattle.picture_text.specs.Picture.{slot_at, shown_slots, is_shown}
use Rattle.picture_text.specs.Window.{span_shown}
use Rattle.view_laws.specs.Titles.{begins_with, texts_of_nodes, texts_of_hosts, is_of_slot}
use Rattle.view_laws.specs.Titles.{node_start, members_said, clocks_said}
use Rattle.view_laws.specs.Titles.{far_said}
use Rattle.view_laws.specs.Titles.{cell_titles, legend_titles, shown_of, picture_titles}
use Rattle.view_laws.proofs.LineStarts.{of-other, of-own, start-other, start-own, start-node, start-neighbour}

-- Lists of lines in which some are asked for.

pub filter-flat : {X : Type 0} (p : List ℕ → Bool) (f : X → Lines) (xs : List X)
    → filter p (flat_map f xs) ≡ flat_map (λ x. filter p (f x)) xs
filter-flat p f [] = refl
filter-flat p f (x ∷ xs) =
    filter-append p (f x) (flat_map f xs) ∙ ap (λ (lines : Lines). filter p (f x) ++ lines) (filter-flat p f xs)

kept : (b : Bool) (line : List ℕ) (lines : Lines) → b ≡ true → cond b (line ∷ lines) lines ≡ line ∷ lines
kept true line lines is = refl
kept false line lines is = cc

pub left_out : (b : Bool) (line : List ℕ) (lines : Lines) → b ≡ false → cond b (line ∷ lines) lines ≡ lines
left_out true line lines is = cc
left_out false line lines is = refl

pub filter-all : {X : Type 0} (p : List ℕ → Bool) (f : X → List ℕ) (xs : List X) → ((x : X) → p (f x) ≡ true)
    → filter p (map f xs) ≡ map f xs
filter-all p f [] all = refl
filter-all p f (x ∷ xs) all =
    kept (p (f x)) (f x) (filter p (map f xs)) (all x) ∙ ap (λ (lines : Lines). f x ∷ lines) (filter-all p f xs all)

pub filter-no : {X : Type 0} (p : List ℕ → Bool) (f : X → List ℕ) (xs : List X) → ((x : X) → p (f x) ≡ false)
    → filter p (map f xs) ≡ []
filter-no p f [] none = refl
filter-no p f (x ∷ xs) none = left_out (p (f x)) (f x) (filter p (map f xs)) (none x) ∙ filter-no p f xs none

-- of numbers in a row, one alone has lines
pub none-past : (f : ℕ → Lines) (a n : ℕ)
    → ((s : ℕ) → a ≤ s → s < a + n → f s ≡ []) → flat_map f (range_with_len a n) ≡ []
none-past f a zero none = refl
none-past f a (suc n) none =
    let rest = none-past f (a + 1) n (λ s low high. none s (omega arith) (omega arith)) in
    λ i. none a (omega arith) (omega arith) i ++ rest i

pub one-alone : (f : ℕ → Lines) (a n t : ℕ) → a ≤ t → t < a + n → ((s : ℕ) → s < a + n → s ≢ t → f s ≡ [])
    → flat_map f (range_with_len a n) ≡ f t
one-alone f a zero t low high others = absurd (omega arith)
one-alone f a (suc n) t low high others =
    elim (cases_eq a t) [
      | inl same ↦ (let rest = none-past f (a + 1) n (λ s above less.
          others s (omega arith) (λ e. omega (arith, e, same, above))) in
          (λ i. f (same i) ++ rest i) ∙ append-nil (f t))
      | inr other ↦ (let rest = one-alone f (a + 1) n t (omega (arith, other)) (omega arith) (λ s less ne.
          others s (omega arith) ne) in
          λ i. others a (omega arith) other i ++ rest i)
    ]

-- a test that one of such lines passes
pub one-passes : (p : List ℕ → Bool) (f : ℕ → List ℕ) (n k : ℕ) → k < n → p (f k) ≡ true
    → ((j : ℕ) → j < n → j ≢ k → p (f j) ≡ false) → filter p (map f (below n)) ≡ f k ∷ []
one-passes p f n k within is others =
    singles (below n)
    ∙ one-alone (λ j. cond (p (f j)) (f j ∷ []) []) 0 n k (omega arith) (omega arith) (λ j less ne.
    ap (λ (b : Bool). cond b (f j ∷ []) []) (others j (omega (arith, less)) ne))
    ∙ ap (λ (b : Bool). cond b (f k ∷ []) []) is
  where
    single : (b : Bool) (line : List ℕ) (lines : Lines) → cond b (line ∷ lines) lines ≡ cond b (line ∷ []) [] ++ lines
    single true line lines = refl
    single false line lines = refl

    singles : (js : List ℕ) → filter p (map f js) ≡ flat_map (λ j. cond (p (f j)) (f j ∷ []) []) js
    singles [] = refl
    singles (j ∷ js) =
        single (p (f j)) (f j) (filter p (map f js))
        ∙ ap (λ (lines : Lines). cond (p (f j)) (f j ∷ []) [] ++ lines) (singles js)

-- Lines, by the words that they begin with.

-- what stands behind the number of a node in its line
abbrev pieces_of_node : Head → ℕ → ℕ → NodeShown → Lines
pieces_of_node head t k node =
    node_pieces (decimal t) (decimal k) (word_text node.word) (number_or_dash node.peer) (number_or_dash node.message)
    (hex (2 * member_bytes (head.version == 2)) (set_bits node.members)) (decimal node.accepted) (decimal node.rejected)
    (ack_word node.ack) (signed_decimal node.offset)

abbrev node_rest : Head → NodeShown → List ℕ
node_rest head node = concat (drop 5 (pieces_of_node head 0 0 node))

node-begins : (head : Head) (t k : ℕ) (node : NodeShown)
    → node_text head t k node ≡ codes "slot "
    ++ (decimal t ++ (codes " node " ++ (decimal k ++ 32 ∷ node_rest head node)))
node-begins head t k node = gathered [] (pieces_of_node head t k node)

-- the pieces of a host's line behind the word host
abbrev host_pieces : HostLine → Lines
host_pieces (by_host.Write host number) = decimal host ∷ codes " write " ∷ decimal number ∷ []
host_pieces (by_host.Read host from number payload) =
    decimal host ∷ codes " read " ∷ source_word from ∷ codes " " ∷ decimal number ∷ codes " " ∷ hex_bytes payload ∷ []

abbrev host_rest : HostLine → List ℕ
host_rest by = concat (host_pieces by)

host-begins : (t : ℕ) (by : HostLine) → host_text t by ≡ codes "slot "
    ++ (decimal t ++ (codes " host " ++ host_rest by))
host-begins t (by_host.Write host number) =
    gathered [] (codes "slot " ∷ decimal t ∷ codes " host " ∷ host_pieces (by_host.Write host number))
host-begins t (by_host.Read host from number payload) =
    gathered [] (codes "slot " ∷ decimal t ∷ codes " host " ∷ host_pieces (by_host.Read host from number payload))

-- what the titles below the nodes' rows say behind the number of the slot
abbrev said_rest : Head → SlotLines → List ℕ → List ℕ
said_rest head slot [] = codes "members -"
said_rest head slot (members ∷ others) = codes "members" ++ flat_map (membership_text head slot)
    (shown_memberships slot.nodes)

members-begin : (head : Head) (t : ℕ) (slot : SlotLines) (held : List ℕ)
    → members_said head t slot held ≡ codes "slot " ++ (decimal t ++ 32 ∷ said_rest head slot held)
members-begin head t slot [] = refl
members-begin head t slot (members ∷ others) =
    let held = flat_map (membership_text head slot) (shown_memberships slot.nodes) in
    gathered [] (codes "slot " ∷ decimal t ∷ codes " members" ∷ held ∷ [])
    ∙ ap (λ (l : List ℕ). codes "slot " ++ (decimal t ++ (codes " members" ++ l))) (append-nil held)

abbrev clocks_rest : SlotLines → List ℕ
clocks_rest slot = codes "clocks apart " ++ apart_text (clock_range slot.nodes)

clocks-begin : (t : ℕ) (slot : SlotLines) → clocks_said t slot ≡ codes "slot " ++ (decimal t ++ 32 ∷ clocks_rest slot)
clocks-begin t slot =
    let apart = apart_text (clock_range slot.nodes) in
    gathered [] (codes "slot " ∷ decimal t ∷ codes " clocks apart " ∷ apart ∷ [])
    ∙ ap (λ (l : List ℕ). codes "slot " ++ (decimal t ++ (codes " clocks apart " ++ l))) (append-nil apart)

abbrev far_rest : SlotLines → List ℕ
far_rest slot = codes "clock apart from most " ++ far_text (node_apart slot.nodes)

far-begins : (t : ℕ) (slot : SlotLines) → far_said t slot ≡ codes "slot " ++ (decimal t ++ 32 ∷ far_rest slot)
far-begins t slot =
    let far = far_text (node_apart slot.nodes) in
    gathered [] (codes "slot " ∷ decimal t ∷ codes " clock apart from most " ∷ far ∷ [])
    ∙ ap (λ (l : List ℕ). codes "slot " ++ (decimal t ++ (codes " clock apart from most " ++ l))) (append-nil far)

no-node : (head : Head) (slot : SlotLines) (held bytes : List ℕ)
    → begins_with (codes " node " ++ bytes) (32 ∷ said_rest head slot held) ≡ false
no-node head slot [] bytes = refl
no-node head slot (members ∷ others) bytes = refl

no-line : (head : Head) (slot : SlotLines) (held : List ℕ)
    → (begins_with (codes " node ") (32 ∷ said_rest head slot held)
    || begins_with (codes " host ") (32 ∷ said_rest head slot held)) ≡ false
no-line head slot [] = refl
no-line head slot (members ∷ others) = refl

-- A slot.

-- lines that pass a test, before three that don't
three-left : (p : List ℕ → Bool) (lines kept : Lines) (one two other : List ℕ) → filter p lines ≡ kept → p one ≡ false
    → p two ≡ false → p other ≡ false → filter p (lines ++ (one ∷ two ∷ other ∷ [])) ≡ kept
three-left p lines kept one two other is first second third =
    filter-append p lines (one ∷ two ∷ other ∷ [])
    ∙ (λ i. is i
    ++ (left_out (p one) one (filter p (two ∷ other ∷ [])) first ∙ left_out (p two) two (filter p (other ∷ [])) second
    ∙ left_out (p other) other [] third) i)
    ∙ append-nil kept

pub nodes-own : (trace : WholeTrace) (t : ℕ) → filter (is_of_slot t) (texts_of_nodes trace t) ≡ texts_of_nodes trace t
nodes-own trace t =
    let head = trace.head in
    let slot = slot_at trace t in
    filter-all (is_of_slot t) (λ k. node_text head t k (node_at slot k)) (below head.nodes) (λ k.
    ap (is_of_slot t) (node-begins head t k (node_at slot k))
    ∙ of-own t (codes " node " ++ (decimal k ++ 32 ∷ node_rest head (node_at slot k))))

cells-own : (trace : WholeTrace) (t : ℕ) → filter (is_of_slot t) (cell_titles trace t) ≡ texts_of_nodes trace t
cells-own trace t =
    let head = trace.head in
    let slot = slot_at trace t in
    let held = shown_memberships slot.nodes in
    three-left (is_of_slot t) (texts_of_nodes trace t) (texts_of_nodes trace t)
    (members_said head t slot held) (clocks_said t slot)
    (far_said t slot) (nodes-own trace t)
    (ap (is_of_slot t) (members-begin head t slot held)
    ∙ of-own t (32 ∷ said_rest head slot held) ∙ no-line head slot held)
    (ap (is_of_slot t) (clocks-begin t slot) ∙ of-own t (32 ∷ clocks_rest slot))
    (ap (is_of_slot t) (far-begins t slot) ∙ of-own t (32 ∷ far_rest slot))

-- a test that no line of the slot passes
abbrev pub FailsIn : (List ℕ → Bool) → ℕ → Type 0
FailsIn p s = (rest : List ℕ) → p (codes "slot " ++ (decimal s ++ 32 ∷ rest)) ≡ false

pub nodes-other : (trace : WholeTrace) (p : List ℕ → Bool) (s : ℕ) → FailsIn p s
    → filter p (texts_of_nodes trace s) ≡ []
nodes-other trace p s none =
    let head = trace.head in
    let slot = slot_at trace s in
    filter-no p (λ k. node_text head s k (node_at slot k)) (below head.nodes) (λ k.
    ap p (node-begins head s k (node_at slot k))
    ∙ none (codes "node " ++ (decimal k ++ 32 ∷ node_rest head (node_at slot k))))

cells-other : (trace : WholeTrace) (p : List ℕ → Bool) (s : ℕ) → FailsIn p s → filter p (cell_titles trace s) ≡ []
cells-other trace p s none =
    let slot = slot_at trace s in
    let held = shown_memberships slot.nodes in
    three-left p (texts_of_nodes trace s) []
    (members_said trace.head s slot held) (clocks_said s slot) (far_said s slot)
    (nodes-other trace p s none)
    (ap p (members-begin trace.head s slot held) ∙ none (said_rest trace.head slot held))
    (ap p (clocks-begin s slot) ∙ none (clocks_rest slot)) (ap p (far-begins s slot) ∙ none (far_rest slot))

pub hosts-own : (trace : WholeTrace) (t : ℕ) → filter (is_of_slot t) (texts_of_hosts trace t) ≡ texts_of_hosts trace t
hosts-own trace t =
    filter-all (is_of_slot t) (host_text t) (slot_at trace t).hosts (λ by.
    ap (is_of_slot t) (host-begins t by) ∙ of-own t (codes " host " ++ host_rest by)
    ∙ either (begins_with (codes " node ") (codes " host " ++ host_rest by)))
  where
    either : (b : Bool) → (b || true) ≡ true
    either true = refl
    either false = refl

pub hosts-other : (trace : WholeTrace) (p : List ℕ → Bool) (s : ℕ) → FailsIn p s
    → filter p (texts_of_hosts trace s) ≡ []
hosts-other trace p s none =
    filter-no p (host_text s) (slot_at trace s).hosts (λ by.
    ap p (host-begins s by) ∙ none (codes "host " ++ host_rest by))

-- The slots shown.

-- the last of them is none past the trace
pub last-shown : (n : ℕ) (slots : List SlotLines) (asked : Option Span)
    → (span_shown n slots asked).last ≤ length slots - 1
last-shown n slots None =
    at-most _ (length slots)
  where
    at-most : (end count : ℕ) → min end count - 1 ≤ count - 1
    at-most end count = omega arith
last-shown n slots (Some asked) = omega arith

-- The picture.

-- of all titles, those of one slot that pass a test, where none of another slot does, nor the others
passed : (trace : WholeTrace) (asked : Option Span) (p : List ℕ → Bool) (t : ℕ) (nodes hosts : Lines)
    → length trace.slots ≤ 20000 → is_shown (shown_of trace asked) t ≡ true
    → p (first_text trace) ≡ false → filter p legend_titles ≡ []
    → filter p (cell_titles trace t) ≡ nodes → filter p (texts_of_hosts trace t) ≡ hosts
    → ((s : ℕ) → s < 2 ^ 64 → s ≢ t → FailsIn p s)
    → filter p (picture_titles trace asked) ≡ nodes ++ hosts
passed trace asked p t nodes hosts few shows first legend cells marks others =
    let span = shown_of trace asked in
    let n = span.last + 1 - span.first in
    let parts = and_parts (nat_le span.first t) (nat_le t span.last) shows in
    let low = leb-true span.first t parts.0 in
    let high = leb-true t span.last parts.1 in
    let last = last-shown trace.head.nodes trace.slots asked in
    let upper : Lines = flat_map (cell_titles trace) (shown_slots span) in
    let lower : Lines = flat_map (texts_of_hosts trace) (shown_slots span) in
    let above : filter p upper ≡ nodes =
    filter-flat p (cell_titles trace) (shown_slots span)
    ∙ one-alone (λ s. filter p (cell_titles trace s)) span.first n t low (omega (arith, low, high)) (λ s less ne.
    cells-other trace p s (others s
    (below_limit span.first span.last s t (length trace.slots) low high last few less) ne))
    ∙ cells in
    let below : filter p lower ≡ hosts =
    filter-flat p (texts_of_hosts trace) (shown_slots span)
    ∙ one-alone (λ s. filter p (texts_of_hosts trace s)) span.first n t low (omega (arith, low, high)) (λ s less ne.
    hosts-other trace p s (others s
    (below_limit span.first span.last s t (length trace.slots) low high last few less) ne))
    ∙ marks in
    left_out (p (first_text trace)) (first_text trace) (filter p (upper ++ (lower ++ legend_titles))) first
    ∙ filter-append p upper (lower ++ legend_titles)
    ∙ (λ i. above i ++ filter-append p lower legend_titles i) ∙ (λ i. nodes ++ (below i ++ legend i))
    ∙ ap (λ (lines : Lines). nodes ++ lines) (append-nil hosts)
  where
    below_limit : (first last s t count : ℕ) → first ≤ t → t ≤ last → last ≤ count - 1 → count ≤ 20000
        → s < first + (last + 1 - first) → s < 2 ^ 64
    below_limit first last s t count low high top few less = omega (arith, low, high, top, few, less)

-- where the test passes no line of a slot that is shown, no title passes
pub none-passed : (trace : WholeTrace) (asked : Option Span) (p : List ℕ → Bool)
    → p (first_text trace) ≡ false → filter p legend_titles ≡ []
    → ((s : ℕ) → is_shown (shown_of trace asked) s ≡ true → FailsIn p s) → filter p (picture_titles trace asked) ≡ []
none-passed trace asked p first legend others =
    let span = shown_of trace asked in
    let n = span.last + 1 - span.first in
    let upper : Lines = flat_map (cell_titles trace) (shown_slots span) in
    let lower : Lines = flat_map (texts_of_hosts trace) (shown_slots span) in
    let is : (s : ℕ) → span.first ≤ s → s < span.first + n → is_shown span s ≡ true = λ s low high.
    and_from (nat_le span.first s) (nat_le s span.last) (le-leb span.first s low)
    (le-leb s span.last (omega (arith, low, high))) in
    let above : filter p upper ≡ [] =
    filter-flat p (cell_titles trace) (shown_slots span)
    ∙ none-past (λ s. filter p (cell_titles trace s)) span.first n (λ s low high.
    cells-other trace p s (others s (is s low high))) in
    let below : filter p lower ≡ [] =
    filter-flat p (texts_of_hosts trace) (shown_slots span)
    ∙ none-past (λ s. filter p (texts_of_hosts trace s)) span.first n (λ s low high.
    hosts-other trace p s (others s (is s low high))) in
    left_out (p (first_text trace)) (first_text trace) (filter p (upper ++ (lower ++ legend_titles))) first
    ∙ filter-append p upper (lower ++ legend_titles)
    ∙ (λ i. above i ++ filter-append p lower legend_titles i) ∙ (λ i. below i ++ legend i)

-- a slot that is shown has a number of at most five digits
pub shown-limit : (trace : WholeTrace) (asked : Option Span) (t : ℕ) → length trace.slots ≤ 20000
    → is_shown (shown_of trace asked) t ≡ true → t < 2 ^ 64
shown-limit trace asked t few shows =
    let span = shown_of trace asked in
    let high = leb-true t span.last (and_parts (nat_le span.first t) (nat_le t span.last) shows).1 in
    let last = last-shown trace.head.nodes trace.slots asked in
    below_limit t span.last (length trace.slots) high last few
  where
    below_limit : (t last count : ℕ) → t ≤ last → last ≤ count - 1 → count ≤ 20000 → t < 2 ^ 64
    below_limit t last count high top few = omega (arith, high, top, few)

pub no-title-past : (trace : WholeTrace) (asked : Option Span) (t : ℕ) → length trace.slots ≤ 20000 → t < 2 ^ 64
    → is_shown (shown_of trace asked) t ≡ false → filter (is_of_slot t) (picture_titles trace asked) ≡ []
no-title-past trace asked t few limit hidden =
    none-passed trace asked (is_of_slot t) refl refl (λ s shows rest.
    of-other t s rest limit (shown-limit trace asked s few shows) (λ same.
    absurd (no (is_shown (shown_of trace asked) s) shows (ap (is_shown (shown_of trace asked)) same ∙ hidden))))
  where
    no : (b : Bool) → b ≡ true → b ≡ false → ⊥
    no true is not = cc
    no false is not = cc

pub titles-of_slot : (trace : WholeTrace) (asked : Option Span) (t : ℕ) → length trace.slots ≤ 20000
    → is_shown (shown_of trace asked) t ≡ true
    → filter (is_of_slot t) (picture_titles trace asked) ≡ texts_of_nodes trace t ++ texts_of_hosts trace t
titles-of_slot trace asked t few shows =
    passed trace asked (is_of_slot t) t (texts_of_nodes trace t)
    (texts_of_hosts trace t) few shows refl refl (cells-own trace t)
    (hosts-own trace t) (λ s less ne rest. of-other t s rest (shown-limit trace asked t few shows) less ne)

pub title-of_node : (trace : WholeTrace) (asked : Option Span) (t k : ℕ) → length trace.slots ≤ 20000
    → trace.head.nodes ≤ 24 → is_shown (shown_of trace asked) t ≡ true → k < trace.head.nodes
    → filter (begins_with (node_start t k)) (picture_titles trace asked)
    ≡ node_text trace.head t k (node_at (slot_at trace t) k) ∷ []
title-of_node trace asked t k few small shows within =
    let head = trace.head in
    let slot = slot_at trace t in
    let held = shown_memberships slot.nodes in
    let text : ℕ → List ℕ = λ j. node_text head t j (node_at slot j) in
    let p = begins_with (node_start t k) in
    let nodes : filter p (texts_of_nodes trace t) ≡ text k ∷ [] =
    one-passes p text head.nodes k within
    (ap p (node-begins head t k (node_at slot k)) ∙ start-node t k (node_rest head (node_at slot k))) (λ j less ne.
    ap p (node-begins head t j (node_at slot j))
    ∙ start-neighbour t k j (node_rest head (node_at slot j))
    (omega (arith, within, small)) (omega (arith, less, small)) ne) in
    let cells =
    three-left p (texts_of_nodes trace t) (text k ∷ []) (members_said head t slot held) (clocks_said t slot)
    (far_said t slot) nodes
    (ap p (members-begin head t slot held) ∙ start-own t k (32 ∷ said_rest head slot held)
    ∙ no-node head slot held (decimal k ++ codes " "))
    (ap p (clocks-begin t slot) ∙ start-own t k (32 ∷ clocks_rest slot))
    (ap p (far-begins t slot) ∙ start-own t k (32 ∷ far_rest slot)) in
    let hosts =
    filter-no p (host_text t) slot.hosts
    (λ by. ap p (host-begins t by) ∙ start-own t k (codes " host " ++ host_rest by)) in
    passed trace asked p t (text k ∷ []) [] few shows refl refl cells hosts (λ s less ne rest.
    start-other t k s rest (shown-limit trace asked t few shows) less ne)
