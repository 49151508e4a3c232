-- The promise of a generated script in its own words, from the promise of every form.
use Rattle.std.proofs.Common.{◌≡◌, ◌⊎◌, ℕ, ◌≤◌, List, [], ◌∷◌, Some, Result, Ok, Err, refl, sym, subst}
use Rattle.std.proofs.Common.{codes, inl, inr, arith}
use Rattle.ttp_base.specs.Outside.{Held, Load, Gives, HasRisen, Wrote, WroteLines, CutShort}
use Rattle.ttp_base.specs.Text.{Lines}
use Rattle.ttp_world.specs.declared.medl.Medl.{Medl}
use Rattle.script_gen.specs.Generator.{generated}
use Rattle.script_lines.specs.ScriptLines.{script_lines}
use Rattle.commands.specs.declared.read.FileFault.{FileFault}
use Rattle.commands.specs.Faults.{file_fault_line}
use Rattle.commands.specs.Files.{refused_list}
use Rattle.commands.specs.Outcome.{Showed}
use Rattle.commands.specs.Plan.{Outside, ends, said_ending, after, Comes, told_ending}
use Rattle.commands.specs.Promise.{Promise}
use Rattle.commands.specs.Read.{list_limit, list_from}
use Rattle.lab_top.proofs.FromBelow.{list_from-front, AllAsk, list_every, end_comes, right_list, may_be, Quiet}
use Rattle.lab_top.proofs.FromBelow.{told_shows, told_cut}
use Rattle.lab_top.specs.LinesPromise.{ToldList}
use Rattle.lab_top.specs.Forms.{script_ending, script_form_plan}
use Rattle.lab_top.specs.ScriptPromise.{WroteScript, ScriptPromise}
use Rattle.lab_top.specs.Texts.{LabEnding, LabPlan, LabAnswer, ttplab}
use Rattle.lab_top.specs.ViewPromise.{HoldsText, WroteOrNone}

-- the ending by what was read
abbrev ending_of : ℕ → ℕ → Result Medl FileFault → LabEnding
ending_of slots number (Ok medl) = script_ending slots number medl
ending_of slots number (Err fault) = said_ending (refused_list fault)

-- the plan that is left of it
abbrev plan_of : ℕ → ℕ → Result Medl FileFault → LabPlan
plan_of slots number read = after refused_list (λ medl. ends (script_ending slots number medl)) read

ends_so : (slots number : ℕ) (read : Result Medl FileFault)
    → plan_of slots number read ≡ ends (ending_of slots number read)
ends_so slots number (Ok medl) = refl
ends_so slots number (Err fault) = refl

-- the list that was loaded, and the ending that it comes to
record CameBy (slots number : ℕ) (held : Held) (ending : LabEnding) : Type 0 where
  bytes : List ℕ
  gives : Gives held list_limit bytes
  same : ending_of slots number (list_from bytes) ≡ ending

came_by : (list : List ℕ) (slots number : ℕ) (held : List ℕ → Held) (loads : List Load) (ending : LabEnding)
    → Comes held (script_form_plan list slots number) loads (ends ending) → CameBy slots number (held list) ending
came_by list slots number held [] ending comes = absurd (cc)
came_by list slots number held (load ∷ loads) ending comes =
    let bytes = comes.1.0 in record {
      bytes = bytes;
      gives = comes.1.1;
      same =
          end_comes held loads (ending_of slots number (list_from bytes)) ending
          (subst (λ (p : LabPlan). Comes held p loads (ends ending))
          (ends_so slots number (list_from bytes)) comes.1.2);
    }

module _ (list : List ℕ) (slots number : ℕ) (before now : Outside) (answer : LabAnswer)
    (call : Promise ttplab (script_form_plan list slots number) before now answer) where
  abbrev ShowedBy : Result Medl FileFault → Type 0
  ShowedBy read = Showed ttplab (ending_of slots number read) before.output now.output answer

  -- what was read of the list, and shown by that
  record ShowedOf : Type 0 where
    bytes : List ℕ
    gives : Gives (before.files.held list) list_limit bytes
    showed : ShowedBy (list_from bytes)

  showed_of : answer.status ≤ 4 → ShowedOf
  showed_of few =
      let final = call.ended few in
      let c = came_by list slots number before.files.held call.loads final.0 final.1.comes in record {
        bytes = c.bytes;
        gives = c.gives;
        showed = subst (λ (e : LabEnding). Showed ttplab e before.output now.output answer) (sym c.same) final.2;
      }

  wrote : (medl : Medl) → ShowedBy (Ok medl)
      → WroteLines before.output now.output (script_lines (generated medl slots number))
  wrote medl showed = subst
      (λ (lines : Lines). WroteLines before.output now.output lines) showed.text.among showed.text.wrote

  wrote_line : (fault : FileFault) → ShowedBy (Err fault)
      → WroteLines before.output now.output (file_fault_line (codes "list") fault ∷ [])
  wrote_line fault showed =
      subst (λ (lines : Lines). WroteLines before.output now.output lines) showed.text.among showed.text.wrote

  -- by the status

  shown_by : (s : ShowedOf) (read : Result Medl FileFault) → list_from s.bytes ≡ read → ShowedBy read
      → answer.status ≡ 0 → WroteScript list slots number before now
  shown_by s (Ok medl) is showed zero = record {
    bytes = s.bytes;
    medl = medl;
    list_file = may_be (before.files.held list) list_limit s.bytes s.gives (right_list s.bytes medl is).size;
    right = is;
    wrote = wrote medl showed;
  }
  shown_by s (Err fault) is showed zero = absurd (omega (arith, showed.status, zero))

  refused_by : (s : ShowedOf) (read : Result Medl FileFault) → list_from s.bytes ≡ read → ShowedBy read
      → answer.status ≡ 3 → ToldList list before now
  refused_by s (Ok medl) is showed three = absurd (omega (arith, showed.status, three))
  refused_by s (Err fault) is showed three =
      record { bytes = s.bytes; gives = s.gives; fault = fault; wrong = is; wrote = wrote_line fault showed }

  -- over a list that is told
  module _ (bytes : List ℕ) (file : HoldsText list before now bytes) where
    told : (read : Result Medl FileFault) → list_from bytes ≡ read
        → told_ending before.files.held (script_form_plan list slots number) ≡ Some (ending_of slots number read)
    told (Ok medl) is = rw (file.file, list_from-front bytes, is) refl
    told (Err fault) is = rw (file.file, list_from-front bytes, is) refl

    quiet : AllAsk (Quiet before now) (script_form_plan list slots number)
    quiet =
        list_every (λ ending. Unit {0}) (λ f. Quiet before now f.name) list
        (λ medl. ends (script_ending slots number medl)) file.quiet (λ fault. tt) (λ medl. tt)

    shows : (read : Result Medl FileFault) → list_from bytes ≡ read
        → ¬ HasRisen before.output.faults now.output.faults → ShowedBy read ⊎ (answer.status ≡ 7)
    shows read is sink =
        told_shows ttplab (script_form_plan list slots number) before now answer (ending_of slots number read) call
        (told read is) quiet sink

    completed : (medl : Medl) → (answer.status ≡ 7 → Wrote before.output now.output [])
        → ¬ HasRisen before.output.faults now.output.faults → list_from bytes ≡ Ok medl
        → WroteOrNone 0 (script_lines (generated medl slots number)) before.output now.output answer.status
    completed medl empty sink is =
        elim (shows (Ok medl) is sink) [
          | inl showed ↦ inl (showed.status, wrote medl showed)
          | inr seven ↦ inr (seven, empty seven)
        ]

    line_told : (fault : FileFault) → (answer.status ≡ 7 → Wrote before.output now.output [])
        → ¬ HasRisen before.output.faults now.output.faults → list_from bytes ≡ Err fault
        → WroteOrNone 3 (file_fault_line (codes "list") fault ∷ []) before.output now.output answer.status
    line_told fault empty sink is =
        elim (shows (Err fault) is sink) [
          | inl showed ↦ inl (showed.status, wrote_line fault showed)
          | inr seven ↦ inr (seven, empty seven)
        ]

    cut_script : (medl : Medl) → list_from bytes ≡ Ok medl → answer.status ≡ 6
        → CutShort before.output now.output (script_lines (generated medl slots number))
    cut_script medl is six =
        let cut = told_cut ttplab (script_form_plan list slots number) before now
        answer (script_ending slots number medl)
        call (told (Ok medl) is) quiet six in
        subst (λ (lines : Lines). CutShort before.output now.output lines) cut.among cut.cut

pub script_promise : (list : List ℕ) (slots number : ℕ) (before now : Outside) (answer : LabAnswer)
    → Promise ttplab (script_form_plan list slots number) before now answer
    → (answer.status ≡ 7 → Wrote before.output now.output []) → ScriptPromise list slots number before now answer.status
script_promise list slots number before now answer call empty = record {
  shown = λ zero.
      let s = showed_of list slots number before now answer call (omega (arith, zero)) in
      shown_by list slots number before now answer call s (list_from s.bytes) refl s.showed zero;
  no_list = λ three.
      let s = showed_of list slots number before now answer call (omega (arith, three)) in
      refused_by list slots number before now answer call s (list_from s.bytes) refl s.showed three;
  complete = λ bytes medl file sink is.
      completed list slots number before now answer call bytes file medl empty sink is;
  list_told = λ bytes fault file sink is.
      line_told list slots number before now answer call bytes file fault empty sink is;
  cut = λ bytes medl file is six. cut_script list slots number before now answer call bytes file medl is six;
}
