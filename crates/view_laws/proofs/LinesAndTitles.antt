-- The lines of a text that is a trace are the titles of its picture.
use Rattle.std.proofs.Common.{◌≡◌, ℕ, ◌<◌, ◌≤◌, ◌^◌, true, false, List, [], ◌∷◌}
use Rattle.std.proofs.Common.{length, filter, refl, sym, ap, ◌∙◌, arith}
use Rattle.std.proofs.Common.{◌||◌, nat_le, not, map, subst, ◌++◌, Option}
use Rattle.std.specs.Prelude.{◌==◌, Ok}
use Rattle.std.specs.List.{AllByRecursion, flat_map, list_all, list_any}
use Rattle.std.proofs.lemmas.Bool.{and_parts, or_parts, or_from, leb-true, not-true}
use Rattle.ttp_base.specs.NodeSet.{below}
use Rattle.ttp_base.specs.Text.{Lines}
use Rattle.ttp_world.proofs.LineLists.{each-append}
use Rattle.ttp_world.proofs.TraceLines.{IsLine}
use Rattle.whole_trace.specs.declared.shown.Head.{Head}
use Rattle.whole_trace.specs.Whole.{SlotLines, WholeTrace, whole_in}
use Rattle.shown_slot.specs.Nodes.{clock_range, node_apart}
use Rattle.shown_slot.specs.Trace.{node_at, first_text, node_text, host_text}
use Rattle.picture_text.specs.declared.window.Span.{Span}
use Rattle.picture_text.specs.Cells.{shown_memberships}
use Rattle.picture_text.specs.Picture.{slot_at, shown_slots, is_shown, picture_lines}
use Rattle.picture_text.specs.Window.{span_shown}
use Rattle.view_laws.specs.Titles.{begins_with, titles, is_of_slot, node_start}
use Rattle.view_laws.specs.Titles.{texts_of_lines, shown_of, picture_titles}
use Rattle.view_laws.specs.Titles.{is_markup, texts_of_nodes, texts_of_hosts, members_said}
use Rattle.view_laws.specs.Titles.{clocks_said, far_said, cell_titles}
use Rattle.view_laws.specs.Titles.{legend_titles}
use Rattle.view_laws.proofs.FromBelow.{is_special, Plain, plain-head, plain-node, plain-host, plain-members}
use Rattle.view_laws.proofs.FromBelow.{plain-no_members, plain-clocks, plain-far}
use Rattle.view_laws.proofs.TitlesIn.{HasOne}
use Rattle.view_laws.proofs.PictureTitles.{picture_of-titles}
use Rattle.view_laws.proofs.SlotTitles.{titles-of_slot, title-of_node, no-title-past, last-shown}
use Rattle.view_laws.proofs.SlotTexts.{bare-text, texts-of_slot}
use Rattle.view_laws.proofs.TextLines.{text-lines}

pub picture_lines-titles : (trace : WholeTrace) (asked : Option Span)
    → titles (picture_lines trace asked) ≡ picture_titles trace asked
picture_lines-titles trace asked = (picture_of-titles trace (span_shown trace.head.nodes trace.slots asked)).are

pub picture_lines-once : (trace : WholeTrace) (asked : Option Span) → AllByRecursion HasOne (picture_lines trace asked)
picture_lines-once trace asked = (picture_of-titles trace (span_shown trace.head.nodes trace.slots asked)).once

pub picture_lines-each : (trace : WholeTrace) (asked : Option Span) → AllByRecursion IsLine (picture_lines trace asked)
picture_lines-each trace asked = (picture_of-titles trace (span_shown trace.head.nodes trace.slots asked)).each

-- The titles need no escapes.

abbrev pub Unmarked : List ℕ → Type 0
Unmarked text = list_any is_markup text ≡ false

-- A plain text has no markup.
pub unmarked : (text : List ℕ) → Plain text → Unmarked text
unmarked [] is = refl
unmarked (c ∷ text) is =
    let parts = or_parts (is_special c) (list_any is_special text) is in
    or_from (is_markup c) (list_any is_markup text) (or_parts (c == 10) ((60 == c) || (38 == c)) parts.0).1
    (unmarked text parts.1)

plain-map : {X : Type 0} (f : X → List ℕ) (xs : List X) → ((x : X) → Plain (f x)) → AllByRecursion Unmarked (map f xs)
plain-map f [] each = tt
plain-map f (x ∷ xs) each = (unmarked (f x) (each x), plain-map f xs each)

plain-flat : {X : Type 0} (f : X → Lines) (xs : List X) → ((x : X) → AllByRecursion Unmarked (f x))
    → AllByRecursion Unmarked (flat_map f xs)
plain-flat f [] each = tt
plain-flat f (x ∷ xs) each = each-append Unmarked (f x) (flat_map f xs) (each x) (plain-flat f xs each)

plain-said : (head : Head) (t : ℕ) (slot : SlotLines) (held : List ℕ) → Plain (members_said head t slot held)
plain-said head t slot [] = plain-no_members t
plain-said head t slot (members ∷ others) = plain-members head t slot

plain-cells : (trace : WholeTrace) (t : ℕ) → AllByRecursion Unmarked (cell_titles trace t)
plain-cells trace t =
    let head = trace.head in
    let slot = slot_at trace t in
    let held = shown_memberships slot.nodes in
    each-append Unmarked (texts_of_nodes trace t)
    (members_said head t slot held ∷ clocks_said t slot ∷ far_said t slot ∷ [])
    (plain-map (λ k. node_text head t k (node_at slot k)) (below head.nodes)
    (λ k. plain-node head t k (node_at slot k))) (
      unmarked (members_said head t slot held) (plain-said head t slot held),
      (
        unmarked (clocks_said t slot) (plain-clocks t (clock_range slot.nodes)),
        (unmarked (far_said t slot) (plain-far t (node_apart slot.nodes)), tt),
      ),
    )

plain-all : (texts : Lines)
    → list_all (λ text. not (list_any is_markup text)) texts ≡ true → AllByRecursion Unmarked texts
plain-all [] are = tt
plain-all (text ∷ texts) are =
    let parts = and_parts (not (list_any is_markup text))
    (list_all (λ other. not (list_any is_markup other)) texts) are in
    (not-true (list_any is_markup text) parts.0, plain-all texts parts.1)

pub picture_lines-plain : (trace : WholeTrace) (asked : Option Span)
    → AllByRecursion Unmarked (titles (picture_lines trace asked))
picture_lines-plain trace asked =
    let shown = shown_slots (shown_of trace asked) in
    let cells = flat_map (cell_titles trace) shown in
    let hosts = flat_map (texts_of_hosts trace) shown in
    subst (AllByRecursion Unmarked) (sym (picture_lines-titles trace asked)) (
      unmarked (first_text trace) (plain-head trace.head),
      each-append Unmarked cells (hosts ++ legend_titles) (plain-flat (cell_titles trace) shown (plain-cells trace))
          (each-append Unmarked hosts legend_titles
          (plain-flat (texts_of_hosts trace) shown (λ t.
          plain-map (host_text t) (slot_at trace t).hosts (plain-host t))) (plain-all legend_titles refl)),
    )

-- A slot.

slot-within : (trace : WholeTrace) (asked : Option Span) (t : ℕ) → 1 ≤ length trace.slots
    → is_shown (shown_of trace asked) t ≡ true → t < length trace.slots
slot-within trace asked t some shows =
    let span = shown_of trace asked in
    let high = leb-true t span.last (and_parts (nat_le span.first t) (nat_le t span.last) shows).1 in
    let last = last-shown trace.head.nodes trace.slots asked in
    omega (arith, high, last, some)

pub slot-lines : (text : List ℕ) (trace : WholeTrace) (asked : Option Span) (t : ℕ) → whole_in text ≡ Ok trace
    → is_shown (shown_of trace asked) t ≡ true
    → filter (is_of_slot t) (titles (picture_lines trace asked)) ≡ filter (is_of_slot t) (texts_of_lines text)
slot-lines text trace asked t is shows =
    let whole = text-lines text trace is in
    ap (filter (is_of_slot t)) (picture_lines-titles trace asked) ∙ titles-of_slot trace asked t whole.slots shows
    ∙ sym (texts-of_slot trace t whole.slots (slot-within trace asked t whole.some shows))
    ∙ ap (filter (is_of_slot t)) (sym (bare-text text trace whole))

pub node-line : (text : List ℕ) (trace : WholeTrace) (asked : Option Span) (t k : ℕ) → whole_in text ≡ Ok trace
    → is_shown (shown_of trace asked) t ≡ true → k < trace.head.nodes
    → filter (begins_with (node_start t k)) (titles (picture_lines trace asked))
    ≡ node_text trace.head t k (node_at (slot_at trace t) k) ∷ []
node-line text trace asked t k is shows within =
    let whole = text-lines text trace is in
    ap (filter (begins_with (node_start t k))) (picture_lines-titles trace asked)
    ∙ title-of_node trace asked t k whole.slots whole.nodes shows within

pub hidden-lines : (text : List ℕ) (trace : WholeTrace) (asked : Option Span) (t : ℕ)
    → whole_in text ≡ Ok trace → t < 2 ^ 64
    → is_shown (shown_of trace asked) t ≡ false → filter (is_of_slot t) (titles (picture_lines trace asked)) ≡ []
hidden-lines text trace asked t is few hidden =
    ap (filter (is_of_slot t)) (picture_lines-titles trace asked)
    ∙ no-title-past trace asked t (text-lines text trace is).slots few hidden
