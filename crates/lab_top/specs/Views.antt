-- The views of a text: what kind of text each wants, what a text is read as, and what is written of it.
use Rattle.std.specs.Prelude.{◌≡◌, ◌≤◌, ℕ, ◌-◌, nat_le, nat_lt, Bool, true, ◌&&◌, List, ◌++◌, length, codes}
use Rattle.std.specs.Prelude.{Option, Some, None, Result, Ok, Err, IsTrue, if◌then◌else◌}
use Rattle.ttp_base.specs.Text.{Lines, newline}
use Rattle.whole_trace.specs.Whole.{WholeTrace, whole_in}
use Rattle.wave_text.specs.Wave.{wave_lines}
use Rattle.picture_text.specs.declared.window.Span.{Span}
use Rattle.picture_text.specs.Picture.{picture_lines}
use Rattle.whole_campaign.specs.Whole.{WholeCampaign, campaign_in}
use Rattle.chart_text.specs.Chart.{chart_lines}
use Rattle.chart_text.specs.Columns.{slots_shown}
use Rattle.commands.specs.Plan.{File}
use Rattle.commands.specs.Read.{trace_limit}
use Rattle.lab_top.specs.declared.refusal.TextFault.{TextFault}
use Rattle.lab_top.specs.declared.refusal.TextFault.TheVariants as fault
use Rattle.lab_top.specs.Refusals.{value_from}

-- what a view wants, and what it writes of the value that a text is taken for
pub record View (Value : Type 0) : Type 0 where
  -- the word for its text where that can't be loaded or is refused
  pub kind : List ℕ
  -- the value that a text is, or the first of its lines that is not due
  pub taken : List ℕ → Result Value ℕ
  -- whether there is something to show, and what is wrong where there is not
  pub has : Value → Bool
  pub why : Value → TextFault
  -- the lines that are written
  pub lines : Value → Lines

-- the file of this name that may hold a text of this kind
abbrev pub text_file : List ℕ → List ℕ → File
text_file kind name = record { name = name; limit = trace_limit; missing = codes "load: " ++ kind ++ newline }

-- what was read, if there is something to show of it
abbrev pub if_shown : {Value : Type 0} → View Value → Result Value TextFault → Result Value TextFault
if_shown view (Ok value) = if view.has value then Ok value else Err (view.why value)
if_shown view (Err fault) = Err fault

-- the value that a text is, if the view can be written of it, or why not
abbrev pub viewed : {Value : Type 0} → View Value → List ℕ → Result Value TextFault
viewed view text = if_shown view (value_from view.taken text)

-- a text that is this value, of which there is something to show
pub record CanBeShown {Value : Type 0} (view : View Value) (text : List ℕ) (value : Value) : Type 0 where
  pub size : length text ≤ trace_limit
  pub whole : view.taken text ≡ Ok value
  pub slots : IsTrue (view.has value)

-- The views of a trace.

-- whether a trace has the slots that are asked for: the first of them is one of its slots and not behind the last
abbrev pub has_slots : WholeTrace → Option Span → Bool
has_slots trace None = true
has_slots trace (Some asked) = nat_le asked.first asked.last && nat_lt asked.first (length trace.slots)

-- of the slots that are asked for, if any are
abbrev pub trace_view : Option Span → (WholeTrace → Lines) → View WholeTrace
trace_view asked lines = record {
  kind = codes "trace";
  taken = whole_in;
  has = λ trace. has_slots trace asked;
  why = λ trace. fault.Slots (length trace.slots - 1);
  lines = lines;
}

-- the waveform, and the picture of the slots that are asked for, or else of those that are chosen
abbrev pub wave_view : View WholeTrace
wave_view = trace_view None wave_lines

abbrev pub picture_view : Option Span → View WholeTrace
picture_view asked = trace_view asked (λ trace. picture_lines trace asked)

-- The view of a campaign.

-- whether faults of a slot that is asked for are tried
abbrev pub has_columns : WholeCampaign → Option Span → Bool
has_columns campaign asked = nat_lt 0 (length (slots_shown campaign asked))

-- the chart of the slots that are asked for, or else of those that are chosen
abbrev pub chart_view : Option Span → View WholeCampaign
chart_view asked = record {
  kind = codes "campaign";
  taken = campaign_in;
  has = λ campaign. has_columns campaign asked;
  why = λ campaign. fault.NoSlot;
  lines = λ campaign. chart_lines campaign asked;
}
