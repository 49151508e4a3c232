-- The promise of a view in its own words, from the promise of every form.
use Rattle.std.proofs.Common.{◌≡◌, ◌⊎◌, ℕ, ◌≤◌, List, [], ◌∷◌, Some, Result, Ok, Err, refl, sym, subst}
use Rattle.std.proofs.Common.{inl, inr, arith}
use Rattle.ttp_base.specs.Outside.{Held, Load, Gives, HasRisen, Wrote, WroteLines, CutShort}
use Rattle.ttp_base.specs.Text.{Lines}
use Rattle.commands.specs.Outcome.{Showed}
use Rattle.commands.specs.Plan.{Outside, ends, Comes, told_ending}
use Rattle.commands.specs.Promise.{Promise}
use Rattle.commands.specs.Read.{trace_limit}
use Rattle.lab_top.proofs.FromBelow.{AllAsk, end_comes, may_be, Quiet, told_shows, told_cut}
use Rattle.lab_top.specs.declared.refusal.TextFault.{TextFault}
use Rattle.lab_top.specs.Forms.{viewed_ending, view_plan}
use Rattle.lab_top.specs.Refusals.{text_fault_line}
use Rattle.lab_top.specs.Texts.{LabEnding, LabAnswer, ttplab}
use Rattle.lab_top.specs.ViewPromise.{WroteView, ToldWhy, HoldsText, WroteOrNone, ViewPromise}
use Rattle.lab_top.specs.Views.{View, CanBeShown, viewed}
use Rattle.lab_top.proofs.Refusals.{viewed-front, viewed-right, viewed-taken}

-- the text that was loaded, and the ending that it comes to
record Came {Value : Type 0} (view : View Value) (held : Held) (ending : LabEnding) : Type 0 where
  text : List ℕ
  gives : Gives held trace_limit text
  same : viewed_ending view (viewed view text) ≡ ending

came : {Value : Type 0} (view : View Value) (name : List ℕ) (held : List ℕ → Held) (loads : List Load)
    (ending : LabEnding) → Comes held (view_plan view name) loads (ends ending) → Came view (held name) ending
came view name held [] ending comes = absurd (cc)
came view name held (load ∷ loads) ending comes = record {
  text = comes.1.0;
  gives = comes.1.1;
  same = end_comes held loads (viewed_ending view (viewed view comes.1.0)) ending comes.1.2;
}

module _ {Value : Type 0} (view : View Value) (name : List ℕ) (before now : Outside) (answer : LabAnswer)
    (call : Promise ttplab (view_plan view name) before now answer) where
  abbrev ShowedBy : Result Value TextFault → Type 0
  ShowedBy read = Showed ttplab (viewed_ending view read) before.output now.output answer

  -- what was read of the text, and shown by that
  record ShowedOf : Type 0 where
    text : List ℕ
    gives : Gives (before.files.held name) trace_limit text
    showed : ShowedBy (viewed view text)

  showed_of : answer.status ≤ 4 → ShowedOf
  showed_of few =
      let final = call.ended few in
      let c = came view name before.files.held call.loads final.0 final.1.comes in record {
        text = c.text;
        gives = c.gives;
        showed = subst (λ (e : LabEnding). Showed ttplab e before.output now.output answer) (sym c.same) final.2;
      }

  wrote : (value : Value) → ShowedBy (Ok value) → WroteLines before.output now.output (view.lines value)
  wrote value showed = subst
      (λ (lines : Lines). WroteLines before.output now.output lines) showed.text.among showed.text.wrote

  wrote_line : (fault : TextFault) → ShowedBy (Err fault)
      → WroteLines before.output now.output (text_fault_line view.kind fault ∷ [])
  wrote_line fault showed =
      subst (λ (lines : Lines). WroteLines before.output now.output lines) showed.text.among showed.text.wrote

  -- by the status

  shown_by : (s : ShowedOf) (read : Result Value TextFault) → viewed view s.text ≡ read → ShowedBy read
      → answer.status ≡ 0 → WroteView view name before now
  shown_by s (Ok value) is showed zero =
      let can = viewed-taken view s.text value is in record {
        text = s.text;
        value = value;
        file = may_be (before.files.held name) trace_limit s.text s.gives can.size;
        can = can;
        wrote = wrote value showed;
      }
  shown_by s (Err fault) is showed zero = absurd (omega (arith, showed.status, zero))

  refused_by : (s : ShowedOf) (read : Result Value TextFault) → viewed view s.text ≡ read → ShowedBy read
      → answer.status ≡ 4 → ToldWhy view name before now
  refused_by s (Ok value) is showed four = absurd (omega (arith, showed.status, four))
  refused_by s (Err fault) is showed four =
      record { text = s.text; gives = s.gives; fault = fault; wrong = is; wrote = wrote_line fault showed }

  -- over a text that is told
  module _ (text : List ℕ) (file : HoldsText name before now text) where
    told : (read : Result Value TextFault) → viewed view text ≡ read
        → told_ending before.files.held (view_plan view name) ≡ Some (viewed_ending view read)
    told read is = rw (file.file, viewed-front view text, is) refl

    quiet : AllAsk (Quiet before now) (view_plan view name)
    quiet = (file.quiet, λ bytes. tt)

    shows : (read : Result Value TextFault) → viewed view text ≡ read
        → ¬ HasRisen before.output.faults now.output.faults → ShowedBy read ⊎ (answer.status ≡ 7)
    shows read is sink =
        told_shows ttplab (view_plan view name) before now answer
        (viewed_ending view read) call (told read is) quiet sink

    completed : (value : Value) → (answer.status ≡ 7 → Wrote before.output now.output [])
        → ¬ HasRisen before.output.faults now.output.faults → CanBeShown view text value
        → WroteOrNone 0 (view.lines value) before.output now.output answer.status
    completed value empty sink can =
        elim (shows (Ok value) (viewed-right view text value can) sink) [
          | inl showed ↦ inl (showed.status, wrote value showed)
          | inr seven ↦ inr (seven, empty seven)
        ]

    line_told : (fault : TextFault) → (answer.status ≡ 7 → Wrote before.output now.output [])
        → ¬ HasRisen before.output.faults now.output.faults → viewed view text ≡ Err fault
        → WroteOrNone 4 (text_fault_line view.kind fault ∷ []) before.output now.output answer.status
    line_told fault empty sink is =
        elim (shows (Err fault) is sink) [
          | inl showed ↦ inl (showed.status, wrote_line fault showed)
          | inr seven ↦ inr (seven, empty seven)
        ]

    cut_view : (value : Value) → CanBeShown view text value → answer.status ≡ 6
        → CutShort before.output now.output (view.lines value)
    cut_view value can six =
        let cut = told_cut ttplab (view_plan view name) before now answer (viewed_ending view (Ok value)) call
        (told (Ok value) (viewed-right view text value can)) quiet six in
        subst (λ (lines : Lines). CutShort before.output now.output lines) cut.among cut.cut

    cut_said : (fault : TextFault) → viewed view text ≡ Err fault → answer.status ≡ 6
        → CutShort before.output now.output (text_fault_line view.kind fault ∷ [])
    cut_said fault is six =
        let cut = told_cut ttplab (view_plan view name) before now answer (viewed_ending view (Err fault)) call
        (told (Err fault) is) quiet six in
        subst (λ (lines : Lines). CutShort before.output now.output lines) cut.among cut.cut

pub view_promise : {Value : Type 0} (view : View Value) (name : List ℕ) (before now : Outside) (answer : LabAnswer)
    → Promise ttplab (view_plan view name) before now answer
    → (answer.status ≡ 7 → Wrote before.output now.output []) → ViewPromise view name before now answer.status
view_promise view name before now answer call empty = record {
  shown = λ zero.
      let s = showed_of view name before now answer call (omega (arith, zero)) in
      shown_by view name before now answer call s (viewed view s.text) refl s.showed zero;
  refused = λ four.
      let s = showed_of view name before now answer call (omega (arith, four)) in
      refused_by view name before now answer call s (viewed view s.text) refl s.showed four;
  complete = λ text value file sink can.
      completed view name before now answer call text file value empty sink can;
  told = λ text fault file sink is. line_told view name before now answer call text file fault empty sink is;
  cut = λ text value file can six. cut_view view name before now answer call text file value can six;
  cut_line = λ text fault file is six. cut_said view name before now answer call text file fault is six;
}
