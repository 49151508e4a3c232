-- The promises of `wave TRACE`, of `picture TRACE [FIRST LAST]` and of `chart CAMPAIGN [FIRST LAST]` in their own
-- words.
use Rattle.std.specs.Prelude.{◌≡◌, ◌⊎◌, ℕ, List, [], ◌∷◌, Option, Err}
use Rattle.ttp_base.specs.Outside.{holds, Gives, HasRisen, Output, Wrote, WroteLines, CutShort}
use Rattle.ttp_base.specs.Text.{Lines}
use Rattle.picture_text.specs.declared.window.Span.{Span}
use Rattle.commands.specs.Plan.{Outside}
use Rattle.commands.specs.Read.{trace_limit}
use Rattle.commands.specs.Right.{MayBe}
use Rattle.lab_top.specs.declared.refusal.TextFault.{TextFault}
use Rattle.lab_top.specs.Refusals.{text_fault_line}
use Rattle.lab_top.specs.Views.{View, CanBeShown, viewed, wave_view, picture_view, chart_view}

-- the view was written of the value that the file of this name may be
pub record WroteView {Value : Type 0} (view : View Value) (name : List ℕ) (before now : Outside) : Type 0 where
  pub text : List ℕ
  pub value : Value
  pub file : MayBe (before.files.held name) text
  pub can : CanBeShown view text value
  pub wrote : WroteLines before.output now.output (view.lines value)

-- the line was written that says why the text that was loaded is not shown
pub record ToldWhy {Value : Type 0} (view : View Value) (name : List ℕ) (before now : Outside) : Type 0 where
  pub text : List ℕ
  pub gives : Gives (before.files.held name) trace_limit text
  pub fault : TextFault
  pub wrong : viewed view text ≡ Err fault
  pub wrote : WroteLines before.output now.output (text_fault_line view.kind fault ∷ [])

-- the file of this name holds a text, and the count of its name did not rise
pub record HoldsText (name : List ℕ) (before now : Outside) (text : List ℕ) : Type 0 where
  pub file : before.files.held name ≡ holds text
  pub quiet : ¬ HasRisen (before.files.faults name) (now.files.faults name)

-- these lines were written with this status, or memory was refused and nothing was
abbrev pub WroteOrNone : ℕ → Lines → Output → Output → ℕ → Type 0
WroteOrNone due lines before now status =
    ((status ≡ due) × WroteLines before now lines) ⊎ ((status ≡ 7) × Wrote before now [])

-- a call that is asked for a view of the text of this name promises
pub record ViewPromise {Value : Type 0} (view : View Value) (name : List ℕ) (before now : Outside) (status : ℕ) : Type 0
  where
    -- Status 0 says that the file is a text of which the view can be written, and that it was written.
    pub shown : status ≡ 0 → WroteView view name before now
    -- Status 4 says that it is none, and that the line was written that says why.
    pub refused : status ≡ 4 → ToldWhy view name before now
    -- Such a text gives its view, unless a count rose or memory was refused.
    pub complete : (text : List ℕ) (value : Value) → HoldsText name before now text
        → ¬ HasRisen before.output.faults now.output.faults → CanBeShown view text value
        → WroteOrNone 0 (view.lines value) before.output now.output status
    -- Any other text, however long, gives the line on it, and nothing of a view.
    pub told : (text : List ℕ) (fault : TextFault) → HoldsText name before now text
        → ¬ HasRisen before.output.faults now.output.faults → viewed view text ≡ Err fault
        → WroteOrNone 4 (text_fault_line view.kind fault ∷ []) before.output now.output status
    -- With status 6 the view was cut short, or the line.
    pub cut : (text : List ℕ) (value : Value) → HoldsText name before now text → CanBeShown view text value
        → status ≡ 6 → CutShort before.output now.output (view.lines value)
    pub cut_line : (text : List ℕ) (fault : TextFault) → HoldsText name before now text → viewed view text ≡ Err fault
        → status ≡ 6 → CutShort before.output now.output (text_fault_line view.kind fault ∷ [])

-- the promises of the three views
abbrev pub WavePromise : (name : List ℕ) (before now : Outside) (status : ℕ) → Type 0
WavePromise name before now status = ViewPromise wave_view name before now status

abbrev pub PicturePromise : (name : List ℕ) (asked : Option Span) (before now : Outside) (status : ℕ) → Type 0
PicturePromise name asked before now status = ViewPromise (picture_view asked) name before now status

abbrev pub ChartPromise : (name : List ℕ) (asked : Option Span) (before now : Outside) (status : ℕ) → Type 0
ChartPromise name asked before now status = ViewPromise (chart_view asked) name before now status
