-- A call of a form that reads a list and a script, of which one is refused.
use Rattle.std.proofs.Common.{◌≡◌, ◌⊎◌, ℕ, ◌+◌, ◌≤◌, List, [], ◌∷◌, take, Some}
use Rattle.std.proofs.Common.{Result, Ok, Err, refl, ap, sym, subst, ◌∙◌}
use Rattle.std.proofs.Common.{codes, inl, inr, arith}
use Rattle.ttp_base.specs.Outside.{Held, holds, Load, Gives, HasRisen, Wrote, WroteLines}
use Rattle.ttp_base.specs.Text.{Lines}
use Rattle.ttp_world.specs.declared.medl.Medl.{Medl}
use Rattle.ttp_world.specs.declared.script.Script.{Script}
use Rattle.commands.specs.declared.read.FileFault.{FileFault}
use Rattle.commands.specs.Faults.{file_fault_line}
use Rattle.commands.specs.Files.{list_file, refused_list, script_file, refused_script}
use Rattle.commands.specs.Lines.{Notice}
use Rattle.commands.specs.Outcome.{Showed}
use Rattle.commands.specs.Plan.{Outside, File, ends, asks, line_ending, said_ending, after, Comes, AsksFirst}
use Rattle.commands.specs.Plan.{told_ending}
use Rattle.commands.specs.Promise.{EachName, NoneAskedRose, Promise}
use Rattle.commands.specs.Read.{list_limit, list_from, script_limit, script_from}
use Rattle.commands.specs.Texts.{WroteAmong}
use Rattle.lab_top.proofs.FromBelow.{list_from-front, script_from-front, Every, all_come, end_comes, told_comes}
use Rattle.lab_top.proofs.FromBelow.{wrote_nothing, Quiet}
use Rattle.lab_top.specs.LinesPromise.{ToldList, ToldScript}
use Rattle.lab_top.specs.Texts.{LabEnding, LabPlan, LabAnswer, ttplab}
use Rattle.lab_top.specs.ViewPromise.{HoldsText, WroteOrNone}
use Rattle.lab_top.specs.Why.{read_script_plan, read_both_plan}

-- what comes behind right files refuses neither of them
abbrev pub RefusesNone : LabPlan → Type 0
RefusesNone plan = Every (λ (ending : LabEnding). ending.status ≤ 2) (λ file. Unit {0}) plan

-- behind a file that is refused nothing is asked for
module _ {X F : Type 0} (Q : List ℕ → Type 0) (held : List ℕ → Held) (file : File) (read : List ℕ → Result X F)
    (refused : F → Notice) (next : List ℕ → X → LabPlan) (bytes : List ℕ) (fault : F) where
  read_asked : held file.name ≡ holds bytes → read (take (file.limit + 1) bytes) ≡ Err fault → Q file.name
      → (loads : List Load) → AsksFirst held (asks file (λ b. after refused (next b) (read b))) loads → EachName Q loads
  read_asked is wrong quiet [] asked = tt
  read_asked is wrong quiet (load ∷ []) asked = (subst (λ (l : Load). Q l.name) (sym asked) quiet, tt)
  read_asked is wrong quiet (load ∷ other ∷ loads) asked =
      let given : asked.1.0 ≡ take (file.limit + 1) bytes =
      subst (λ (h : Held). Gives h file.limit asked.1.0) is asked.1.1 in
      absurd (subst (λ (r : Result X F). AsksFirst held (after refused (next asked.1.0) r) (other ∷ loads))
      (ap read given ∙ wrong) asked.1.2)

module _ (list script : List ℕ) (next : Medl → List ℕ → Script → LabPlan) (before now : Outside) (answer : LabAnswer)
    (call : Promise ttplab (read_both_plan list script next) before now answer) where
  abbrev held : List ℕ → Held
  held = before.files.held

  abbrev from_list : Medl → LabPlan
  from_list medl = read_script_plan script (next medl) medl

  wrote_line : (line : List ℕ) (status : ℕ) → Showed ttplab (line_ending status line) before.output now.output answer
      → WroteLines before.output now.output (line ∷ [])
  wrote_line line status showed =
      subst (λ (lines : Lines). WroteLines before.output now.output lines) showed.text.among showed.text.wrote

  -- the right files behind which an ending comes
  pub record CameBehind (ending : LabEnding) : Type 0 where
    pub bytes : List ℕ
    pub gives : Gives (held list) list_limit bytes
    pub medl : Medl
    pub is : list_from bytes ≡ Ok medl
    pub script_bytes : List ℕ
    pub script_gives : Gives (held script) script_limit script_bytes
    pub right : Script
    pub script_is : script_from medl script_bytes ≡ Ok right
    pub loads : List Load
    pub comes : Comes held (next medl script_bytes right) loads (ends ending)

  -- An ending that is shown tells of a list that is refused, with status 3, or of a script, with status 4, or it comes
  -- behind right ones.
  abbrev pub CameTo : LabEnding → Type 0
  CameTo ending =
      ((ending.status ≡ 3) × ToldList list before now)
      ⊎ (((ending.status ≡ 4) × ToldScript list script before now) ⊎ CameBehind ending)

  abbrev IsShown : LabEnding → Type 0
  IsShown ending = Showed ttplab ending before.output now.output answer

  by_script : (bytes : List ℕ) (medl : Medl) → Gives (held list) list_limit bytes → list_from bytes ≡ Ok medl
      → (script_bytes : List ℕ) → Gives (held script) script_limit script_bytes
      → (read : Result Script FileFault) → script_from medl script_bytes ≡ read
      → (loads : List Load) (ending : LabEnding)
      → Comes held (after refused_script (next medl script_bytes) read) loads (ends ending)
      → IsShown ending → CameTo ending
  by_script bytes medl gives is script_bytes script_gives (Ok right) read loads ending comes showed =
      inr (inr (record {
        bytes = bytes;
        gives = gives;
        medl = medl;
        is = is;
        script_bytes = script_bytes;
        script_gives = script_gives;
        right = right;
        script_is = read;
        loads = loads;
        comes = comes;
      }))
  by_script bytes medl gives is script_bytes script_gives (Err fault) read loads ending comes showed =
      let same = end_comes held loads (said_ending (refused_script fault)) ending comes in
      inr (inl (
        sym (ap (λ (e : LabEnding). e.status) same),
        record {
          list_bytes = bytes;
          list_gives = gives;
          medl = medl;
          right = is;
          bytes = script_bytes;
          gives = script_gives;
          fault = fault;
          wrong = read;
          wrote = wrote_line (file_fault_line (codes "script") fault) 4 (subst IsShown (sym same) showed);
        },
      ))

  behind_list : (bytes : List ℕ) (medl : Medl) → Gives (held list) list_limit bytes → list_from bytes ≡ Ok medl
      → (loads : List Load) (ending : LabEnding) → Comes held (from_list medl) loads (ends ending) → IsShown ending
      → CameTo ending
  behind_list bytes medl gives is [] ending comes showed = absurd (cc)
  behind_list bytes medl gives is (load ∷ loads) ending comes showed =
      by_script bytes medl gives is comes.1.0 comes.1.1 (script_from medl comes.1.0) refl loads ending comes.1.2 showed

  by_list : (bytes : List ℕ) → Gives (held list) list_limit bytes → (read : Result Medl FileFault)
      → list_from bytes ≡ read → (loads : List Load) (ending : LabEnding)
      → Comes held (after refused_list from_list read) loads (ends ending) → IsShown ending → CameTo ending
  by_list bytes gives (Ok medl) read loads ending comes showed =
      behind_list bytes medl gives read loads ending comes showed
  by_list bytes gives (Err fault) read loads ending comes showed =
      let same = end_comes held loads (said_ending (refused_list fault)) ending comes in
      inl (
        sym (ap (λ (e : LabEnding). e.status) same),
        record {
          bytes = bytes;
          gives = gives;
          fault = fault;
          wrong = read;
          wrote = wrote_line (file_fault_line (codes "list") fault) 3 (subst IsShown (sym same) showed);
        },
      )

  pub came_to : (loads : List Load) (ending : LabEnding)
      → Comes held (read_both_plan list script next) loads (ends ending) → IsShown ending → CameTo ending
  came_to [] ending comes showed = absurd (cc)
  came_to (load ∷ loads) ending comes showed =
      by_list comes.1.0 comes.1.1 (list_from comes.1.0) refl loads ending comes.1.2 showed

  -- where what comes behind right files refuses neither
  module _ (none : (medl : Medl) (bytes : List ℕ) (right : Script) → RefusesNone (next medl bytes right)) where
    few_behind : (ending : LabEnding) → CameBehind ending → ending.status ≤ 2
    few_behind ending c =
        all_come (λ (e : LabEnding). e.status ≤ 2) (λ file. Unit {0}) held
        (next c.medl c.script_bytes c.right) c.loads ending
        (none c.medl c.script_bytes c.right) c.comes

    list_of : (ending : LabEnding) → ending.status ≡ 3 → CameTo ending → ToldList list before now
    list_of ending three (inl told) = told.1
    list_of ending three (inr (inl told)) = absurd (omega (arith, three, told.0))
    list_of ending three (inr (inr behind)) = absurd (omega (arith, three, few_behind ending behind))

    script_of : (ending : LabEnding) → ending.status ≡ 4 → CameTo ending → ToldScript list script before now
    script_of ending four (inl told) = absurd (omega (arith, four, told.0))
    script_of ending four (inr (inl told)) = told.1
    script_of ending four (inr (inr behind)) = absurd (omega (arith, four, few_behind ending behind))

    pub list_refused : answer.status ≡ 3 → ToldList list before now
    list_refused three =
        let final = call.ended (omega (arith, three)) in
        list_of final.0 (sym final.2.status ∙ three) (came_to call.loads final.0 final.1.comes final.2)

    pub script_refused : answer.status ≡ 4 → ToldScript list script before now
    script_refused four =
        let final = call.ended (omega (arith, four)) in
        script_of final.0 (sym final.2.status ∙ four) (came_to call.loads final.0 final.1.comes final.2)

  -- A wrong list, or a wrong script behind a right list, that is told.

  none_stands : (due : ℕ) (line : List ℕ)
      → told_ending held (read_both_plan list script next) ≡ Some (line_ending due line) → answer.status ≡ 7
      → Wrote before.output now.output []
  none_stands due line told seven =
      elim (call.refused seven).1 [
        | inl none ↦ none
        | inr some ↦
            let same = told_comes held (read_both_plan list script next) call.loads some.0 (line_ending due line)
            some.1.comes told in
            wrote_nothing ttplab before.output now.output
            (subst (λ (e : LabEnding). WroteAmong ttplab e.unfinished before.output now.output) same some.2)
      ]

  line_due : (due : ℕ) (line : List ℕ)
      → told_ending held (read_both_plan list script next) ≡ Some (line_ending due line)
      → NoneAskedRose before now call.loads → ¬ HasRisen before.output.faults now.output.faults
      → WroteOrNone due (line ∷ []) before.output now.output answer.status
  line_due due line told none sink =
      elim (call.told (line_ending due line) told none sink) [
        | inl showed ↦ inl (showed.status, wrote_line line due showed)
        | inr seven ↦ inr (seven, none_stands due line told seven)
      ]

  list_end : (bytes : List ℕ) (fault : FileFault) → HoldsText list before now bytes → list_from bytes ≡ Err fault
      → told_ending before.files.held (read_both_plan list script next)
      ≡ Some (line_ending 3 (file_fault_line (codes "list") fault))
  list_end bytes fault file wrong = rw (file.file, list_from-front bytes, wrong) refl

  pub list_due : (bytes : List ℕ) (fault : FileFault) → HoldsText list before now bytes
      → ¬ HasRisen before.output.faults now.output.faults → list_from bytes ≡ Err fault
      → WroteOrNone 3 (file_fault_line (codes "list") fault ∷ []) before.output now.output answer.status
  list_due bytes fault file sink wrong =
      line_due 3 (file_fault_line (codes "list") fault) (list_end bytes fault file wrong)
      (read_asked (Quiet before now) held (list_file list) list_from refused_list (λ b. from_list) bytes fault file.file
      (list_from-front bytes ∙ wrong) file.quiet call.loads call.in_order) sink

  script_end : (bytes : List ℕ) (medl : Medl) (script_bytes : List ℕ) (fault : FileFault)
      → HoldsText list before now bytes → list_from bytes ≡ Ok medl → HoldsText script before now script_bytes
      → script_from medl script_bytes ≡ Err fault
      → told_ending before.files.held (read_both_plan list script next)
      ≡ Some (line_ending 4 (file_fault_line (codes "script") fault))
  script_end bytes medl script_bytes fault file right script_file wrong =
      rw (
        file.file,
        list_from-front bytes,
        right,
        script_file.file,
        script_from-front medl script_bytes,
        wrong,
      ) refl

  script_asked : (bytes : List ℕ) (medl : Medl) (script_bytes : List ℕ) (fault : FileFault)
      → HoldsText list before now bytes → list_from bytes ≡ Ok medl → HoldsText script before now script_bytes
      → script_from medl script_bytes ≡ Err fault → (loads : List Load)
      → AsksFirst held (read_both_plan list script next) loads → NoneAskedRose before now loads
  script_asked bytes medl script_bytes fault file right script_text wrong [] asked = tt
  script_asked bytes medl script_bytes fault file right script_text wrong (load ∷ []) asked =
      (subst (λ (l : Load). Quiet before now l.name) (sym asked) file.quiet, tt)
  script_asked bytes medl script_bytes fault file right script_text wrong (load ∷ other ∷ loads) asked =
      let given : asked.1.0 ≡ take (list_limit + 1) bytes =
      subst (λ (h : Held). Gives h list_limit asked.1.0) file.file asked.1.1 in
      let read : list_from asked.1.0 ≡ Ok medl = ap list_from given ∙ list_from-front bytes ∙ right in
      let behind : AsksFirst held (from_list medl) (other ∷ loads) =
      subst (λ (r : Result Medl FileFault). AsksFirst held (after refused_list from_list r) (other ∷ loads)) read
      asked.1.2 in (
        subst (λ (l : Load). Quiet before now l.name) (sym asked.0) file.quiet,
        read_asked (Quiet before now) held (script_file script)
            (script_from medl) refused_script (next medl) script_bytes
            fault script_text.file (script_from-front medl script_bytes ∙ wrong)
            script_text.quiet (other ∷ loads) behind,
      )

  pub script_due : (bytes : List ℕ) (medl : Medl) (script_bytes : List ℕ) (fault : FileFault)
      → HoldsText list before now bytes → list_from bytes ≡ Ok medl → HoldsText script before now script_bytes
      → ¬ HasRisen before.output.faults now.output.faults → script_from medl script_bytes ≡ Err fault
      → WroteOrNone 4 (file_fault_line (codes "script") fault ∷ []) before.output now.output answer.status
  script_due bytes medl script_bytes fault file right script_text sink wrong =
      line_due 4 (file_fault_line (codes "script") fault)
      (script_end bytes medl script_bytes fault file right script_text wrong)
      (script_asked bytes medl script_bytes fault file right script_text wrong call.loads call.in_order) sink
