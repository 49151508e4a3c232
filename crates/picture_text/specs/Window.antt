-- Which slots a picture shows, and where they stand.
use Rattle.std.specs.Prelude.{ℕ, ◌+◌, ◌-◌, ◌*◌, ◌/◌, ◌%◌, min, nat_le, Bool, true, false, ◌||◌, not, List, length, drop}
use Rattle.std.specs.Prelude.{Option, Some, None, unwrap_or, position, option_map, if◌then◌else◌}
use Rattle.std.specs.List.{list_any, list_all}
use Rattle.line_reader.specs.declared.trace_line.Word.{Word}
use Rattle.line_reader.specs.declared.trace_line.Word.TheVariants as word
use Rattle.whole_trace.specs.declared.shown.NodeShown.{NodeShown}
use Rattle.whole_trace.specs.Whole.{SlotLines}
use Rattle.shown_slot.specs.Nodes.{agreement}
use Rattle.picture_text.specs.declared.window.Sought.{Sought}
use Rattle.picture_text.specs.declared.window.Sought.TheVariants as sought
use Rattle.picture_text.specs.declared.window.Span.{Span}

-- Strange slots.

abbrev pub is_strange_word : Word → Bool
is_strange_word word.Tentative = true
is_strange_word word.Incorrect = true
is_strange_word word.Invalid = true
is_strange_word word.Denied = true
is_strange_word word.Unacknowledged = true
is_strange_word word.Clique = true
is_strange_word _ = false

-- two holders hold different members
abbrev pub differ : List NodeShown → Bool
differ nodes = not (unwrap_or (agreement nodes) true)

-- holders differ in the slot, or a node has such a word
abbrev pub is_strange : SlotLines → Bool
is_strange slot = differ slot.nodes || list_any (λ node. is_strange_word node.word) slot.nodes

-- Quiet slots.

abbrev pub is_quiet_word : Word → Bool
is_quiet_word word.Off = true
is_quiet_word word.Wait = true
is_quiet_word _ = false

-- a node does something in the slot: not all are off or listen
abbrev pub is_busy : SlotLines → Bool
is_busy slot = not (list_all (λ node. is_quiet_word node.word) slot.nodes)

-- the slot is one that is sought
abbrev pub is_sought : Sought → SlotLines → Bool
is_sought sought.Strange slot = is_strange slot
is_sought sought.Busy slot = is_busy slot

-- the first slot that is sought, or else 0
abbrev pub first_or_0 : Sought → List SlotLines → ℕ
first_or_0 sought slots = unwrap_or (position (is_sought sought) slots) 0

-- how many slots at the beginning are quiet, or 0 where all are
abbrev pub quiet_slots : List SlotLines → ℕ
quiet_slots slots = first_or_0 sought.Busy slots

-- the first strange slot past a slot
abbrev pub strange_past : ℕ → List SlotLines → Option ℕ
strange_past last slots = option_map (λ s. last + 1 + s) (position is_strange (drop (last + 1) slots))

-- The slots that are shown.

-- how many columns whole rounds of n nodes need
abbrev pub columns : ℕ → ℕ
columns n = n * (48 / n)

-- how many whole rounds behind the quiet slots are left out, of so many slots: up to two rounds before the first
-- strange one, or as many as four bands behind them leave over
abbrev pub rounds_left_out : ℕ → ℕ → ℕ → ℕ → ℕ
rounds_left_out n slots quiet strange =
    min ((strange - (quiet + 2 * n)) / n) ((slots - (quiet + 4 * columns n) + n - 1) / n)

-- the first slot that is shown, where none were asked for
abbrev pub first_by : ℕ → ℕ → ℕ → ℕ → ℕ
first_by n slots quiet strange =
    if nat_le slots (quiet + 4 * columns n) then quiet else quiet + n * rounds_left_out n slots quiet strange

-- at most four bands of slots, from there on
abbrev pub span_from : ℕ → ℕ → ℕ → Span
span_from n slots first = record { first = first; last = min (first + 4 * columns n) slots - 1 }

abbrev pub chosen_span : ℕ → List SlotLines → Span
chosen_span n slots =
    span_from n (length slots) (first_by n (length slots) (quiet_slots slots) (first_or_0 sought.Strange slots))

-- the slots that were asked for, as far as there are any, or else those that are chosen
abbrev pub span_shown : ℕ → List SlotLines → Option Span → Span
span_shown n slots None = chosen_span n slots
span_shown n slots (Some asked) = record { first = asked.first; last = min asked.last (length slots - 1) }

-- only quiet slots are left out before a slot
abbrev pub is_quiet_before : ℕ → List SlotLines → Bool
is_quiet_before first slots = nat_le first (quiet_slots slots)

-- Places.

abbrev pub band_height : ℕ → ℕ
band_height n = 20 * n + 104

abbrev pub bands : ℕ → Span → ℕ
bands n span = (span.last - span.first) / columns n + 1

-- where the legend begins, and how high the picture is
abbrev pub legend_top : ℕ → Span → ℕ
legend_top n span = 92 + band_height n * bands n span

abbrev pub height : ℕ → Span → ℕ
height n span = legend_top n span + 234

-- the left edge of slot t, and the upper edge of its row r
abbrev pub column_x : ℕ → Span → ℕ → ℕ
column_x n span t = 72 + 20 * ((t - span.first) % columns n)

abbrev pub row_y : ℕ → Span → ℕ → ℕ → ℕ
row_y n span t r = 120 + band_height n * ((t - span.first) / columns n) + 20 * r
