-- The picture as its head, its rows and what stands behind them.
use Rattle.picture_text.proofs.Words.{◌≡◌, ℕ, ◌+◌, List, [], ◌∷◌, ◌++◌, Bool, codes, sym, ap, subst}
use Rattle.picture_text.proofs.Words.{append_assoc, Option, flat_map, Output, Lines, lines_below, Back, Keep, keep_text}
use Rattle.picture_text.proofs.Words.{Head, WholeTrace, header_text, Span, title_element, ended}
use Rattle.picture_text.proofs.Words.{svg_line, word_entries, class_entries, mark_entries, picture_of, band_lines}
use Rattle.picture_text.proofs.Words.{cell_lines, beside_lines, slot_at, keep_flag, back_flag, Puts, keep_meaning}
use Rattle.picture_text.proofs.Words.{words, strange_past}
use Rattle.picture_text.specs.Picture.{ground_line, style_lines, window_text, said_line, back_said, text_line}
use Rattle.picture_text.specs.Picture.{picture_head_lines}
use Rattle.picture_text.specs.Picture.{shown_slots}
use Rattle.picture_text.specs.Window.{height, bands, legend_top, is_quiet_before}
use Rattle.std.specs.Prelude.{fold}
use Rattle.ttp_base.proofs.Puts.{puts_then}

-- each of the parts, by what it is written from
abbrev pub front_lines : Head → Span → Bool → Option ℕ → Keep → Option Back → Lines
front_lines head span quiet strange keep back =
    svg_line (height head.nodes span) ∷ ended (title_element (header_text head)) ∷ style_lines
    ++ ground_line (height head.nodes span)
    ∷ text_line [] 12 20 (header_text head)
    ∷ text_line [] 12 40 (window_text span head.slots quiet strange)
    ∷ said_line 60 (keep_text keep) (keep_meaning keep) ∷ back_said back

abbrev pub row_lines : WholeTrace → Span → Head → Lines
row_lines trace span head =
    lines_below (band_lines head.nodes span) (bands head.nodes span)
    ++ flat_map (λ t. cell_lines head span t (slot_at trace t)) (shown_slots span)
    ++ flat_map (λ t. beside_lines head.nodes span t (slot_at trace t)) (shown_slots span)

abbrev pub end_lines : Span → Head → Keep → Option Back → Lines
end_lines span head keep back =
    keep_flag head.nodes span keep ++ back_flag head.nodes span back
    ++ word_entries (legend_top head.nodes span) 0 words
    ++ class_entries (legend_top head.nodes span + 118) ++ mark_entries (legend_top head.nodes span + 118)
    ++ ended (codes "</svg>") ∷ []

-- lists of lines, one behind the other
abbrev in_row : Lines → List Lines → Lines
in_row lines others = fold (λ (ls : Lines) other. ls ++ other) lines others

-- they are put behind lines
puts_row : {f g h : Bool} {a b c : Output} (front lines : Lines) (others : List Lines) → Puts f a g b front
    → Puts g b h c (in_row lines others) → Puts f a h c (in_row (front ++ lines) others)
puts_row {f} {g} {h} {a} {b} {c} front lines [] p q = puts_then f g h a b c front lines p q
puts_row {f} {g} {h} {a} {b} {c} front lines (other ∷ others) p q =
    subst (λ (ls : Lines). Puts f a h c (in_row ls others)) (sym (append_assoc front lines other))
    (puts_row front (lines ++ other) others p q)

module _ (trace : WholeTrace) (span : Span) (head : Head) (quiet : Bool) (strange : Option ℕ) (keep again : Keep)
    (back once : Option Back) (f g h i : Bool) where
  pub picture_put : (a b c d : Output) → head ≡ trace.head → quiet ≡ is_quiet_before span.first trace.slots
      → strange ≡ strange_past span.last trace.slots → keep ≡ trace.keep → again ≡ trace.keep → back ≡ trace.back
      → once ≡ trace.back → Puts f a g b (front_lines head span quiet strange keep back)
      → Puts g b h c (row_lines trace span head) → Puts h c i d (end_lines span head again once)
      → Puts f a i d (picture_of trace span)
  picture_put a b c d is calm past kept kept-too due due-too p q r =
      let n = trace.head.nodes in
      let front : front_lines head span quiet strange keep back ≡ picture_head_lines trace span =
      λ j. front_lines (is j) span (calm j) (past j) (kept j) (due j) in
      let rows : row_lines trace span head ≡ row_lines trace span trace.head = ap (row_lines trace span) is in
      let ends : end_lines span head again once ≡ end_lines span trace.head trace.keep trace.back =
      λ j. end_lines span (is j) (kept-too j) (due-too j) in
      let head_lines = picture_head_lines trace span in
      let names = lines_below (band_lines n span) (bands n span) in
      let cells = flat_map (λ t. cell_lines trace.head span t (slot_at trace t)) (shown_slots span) in
      let beside = flat_map (λ t. beside_lines n span t (slot_at trace t)) (shown_slots span) in
      puts_row (head_lines ++ names ++ cells ++ beside) (keep_flag n span trace.keep)
      (back_flag n span trace.back ∷ word_entries (legend_top n span) 0 words ∷ class_entries (legend_top n span + 118)
      ∷ mark_entries (legend_top n span + 118) ∷ (ended (codes "</svg>") ∷ []) ∷ [])
      (puts_row head_lines names (cells ∷ beside ∷ []) (subst (Puts f a g b) front p) (subst (Puts g b h c) rows q))
      (subst (Puts h c i d) ends r)
