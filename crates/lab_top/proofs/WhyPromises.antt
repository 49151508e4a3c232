-- The promise of `why` in its own words, from the promise of every form.
use Rattle.std.proofs.Common.{◌≡◌, ◌⊎◌, ℕ, ◌+◌, ◌≤◌, List, [], take, Option, Some, ap, sym, subst}
use Rattle.std.proofs.Common.{◌∙◌, inl, inr, arith}
use Rattle.std.proofs.lemmas.List.{take_all}
use Rattle.ttp_base.specs.Outside.{HasRisen, Wrote, WroteLines, CutShort}
use Rattle.ttp_base.specs.Text.{Lines}
use Rattle.ttp_world.specs.declared.medl.Medl.{Medl}
use Rattle.ttp_world.specs.declared.script.Script.{Script}
use Rattle.lab_top.proofs.FromBelow.{medl_of-valid, script_of-valid, list_from-front, script_from-front, AllAsk}
use Rattle.lab_top.proofs.FromBelow.{after_every, end_comes, list_every, right_list, right_script, may_be}
use Rattle.lab_top.proofs.FromBelow.{list_from-right, script_from-right, Quiet, told_shows, told_cut}
use Rattle.commands.specs.Files.{refused_script}
use Rattle.commands.specs.Outcome.{Showed}
use Rattle.commands.specs.Plan.{Outside, told_ending}
use Rattle.commands.specs.Promise.{Promise}
use Rattle.commands.specs.Read.{list_limit, script_limit, script_from}
use Rattle.lab_top.specs.LinesPromise.{ToldList, ToldScript}
use Rattle.lab_top.specs.Texts.{LabEnding, LabAnswer, ttplab}
use Rattle.lab_top.specs.ViewPromise.{WroteOrNone}
use Rattle.lab_top.specs.Why.{ends_why, why_ending, why_plan}
use Rattle.lab_top.specs.WhyPromise.{AreReadTold, WroteWhy, WhyPromise}
use Rattle.lab_top.proofs.RefusedFiles.{CameBehind, CameTo, came_to, list_due, script_due}
use Rattle.why_answers.specs.Answer.{why_answer}

module _ (list script : List ℕ) (node : ℕ) (slot : Option ℕ) (before now : Outside) (answer : LabAnswer)
    (call : Promise ttplab (why_plan list script node slot) before now answer)
    (empty : answer.status ≡ 7 → Wrote before.output now.output []) where
  -- the ending of a right list and a right script
  abbrev ending_of : Medl → List ℕ → Script → LabEnding
  ending_of medl bytes right = why_ending (why_answer medl right bytes node slot)

  abbrev Behind : LabEnding → Type 0
  Behind ending = CameBehind list script (ends_why node slot) before now answer call ending

  abbrev Came : LabEnding → Type 0
  Came ending = CameTo list script (ends_why node slot) before now answer call ending

  -- what was due behind right files was written
  wrote_behind : (ending : LabEnding) → Behind ending → Showed ttplab ending before.output now.output answer
      → WroteWhy list script node slot before now answer.status
  wrote_behind ending c shown =
      let is_list = right_list c.bytes c.medl c.is in
      let are = right_script c.bytes c.script_bytes c.medl c.right is_list c.script_is in
      let valid = medl_of-valid c.bytes c.medl are.list in
      let same = end_comes before.files.held c.loads (ending_of c.medl c.script_bytes c.right) ending c.comes in
      let showed = subst (λ (e : LabEnding). Showed ttplab e before.output now.output answer) (sym same) shown in
      record {
        medl = c.medl;
        right = c.right;
        script_bytes = c.script_bytes;
        files = record {
          bytes = c.bytes;
          list_file = may_be (before.files.held list) list_limit c.bytes c.gives are.size;
          script_file = may_be (before.files.held script) script_limit c.script_bytes c.script_gives are.script_size;
          are = are;
          valid = valid;
          valid_script = script_of-valid c.medl c.script_bytes c.right valid are.script_size are.script;
        };
        due = sym showed.status;
        wrote = subst (λ (lines : Lines). WroteLines before.output now.output lines)
            showed.text.among showed.text.wrote;
      }

  -- what a status says
  abbrev Says : ℕ → Type 0
  Says status =
      ((status ≡ 3) × ToldList list before now)
      ⊎ (((status ≡ 4) × ToldScript list script before now) ⊎ WroteWhy list script node slot before now status)

  says_by : (ending : LabEnding)
      → Showed ttplab ending before.output now.output answer → Came ending → Says answer.status
  says_by ending showed (inl told) = inl (showed.status ∙ told.0, told.1)
  says_by ending showed (inr (inl told)) = inr (inl (showed.status ∙ told.0, told.1))
  says_by ending showed (inr (inr behind)) = inr (inr (wrote_behind ending behind showed))

  says : (status : ℕ) → answer.status ≡ status → status ≤ 4 → Says status
  says status is few =
      let final = call.ended (omega (arith, is, few)) in
      subst Says is
      (says_by final.0 final.2
      (came_to list script (ends_why node slot) before now answer call call.loads final.0 final.1.comes final.2))

  low : (status : ℕ) → status ≤ 2 → Says status → WroteWhy list script node slot before now status
  low status few (inl told) = absurd (omega (arith, few, told.0))
  low status few (inr (inl told)) = absurd (omega (arith, few, told.0))
  low status few (inr (inr wrote)) = wrote

  on_list : Says 3 → ToldList list before now ⊎ WroteWhy list script node slot before now 3
  on_list (inl told) = inl told.1
  on_list (inr (inl told)) = absurd (omega (arith, told.0))
  on_list (inr (inr wrote)) = inr wrote

  on_script : Says 4 → ToldScript list script before now ⊎ WroteWhy list script node slot before now 4
  on_script (inl told) = absurd (omega (arith, told.0))
  on_script (inr (inl told)) = inl told.1
  on_script (inr (inr wrote)) = inr wrote

  -- files that are told
  module _ (medl : Medl) (right : Script) (script_bytes : List ℕ)
      (files : AreReadTold list script before now medl right script_bytes) where
    told : told_ending before.files.held (why_plan list script node slot) ≡ Some (ending_of medl script_bytes right)
    told =
        let taken = list_from-right files.bytes medl files.are.size files.are.list in
        let script_taken = script_from-right medl script_bytes right files.are.script_size files.are.script in
        let whole : take (script_limit + 1) script_bytes ≡ script_bytes =
        take_all (script_limit + 1) script_bytes (omega (arith, files.are.script_size)) in
        rw (
          files.list_file,
          list_from-front files.bytes,
          taken,
          files.script_file,
          script_from-front medl script_bytes,
          script_taken,
        ) (ap (λ (b : List ℕ). Some (ending_of medl b right)) whole)

    quiet : AllAsk (Quiet before now) (why_plan list script node slot)
    quiet =
        list_every (λ (ending : LabEnding). Unit {0})
        (λ file. Quiet before now file.name) list _ files.list_quiet (λ fault. tt)
        (λ m. (
          files.script_quiet,
          λ bytes.
              after_every (λ (ending : LabEnding). Unit {0}) (λ file. Quiet before now file.name) refused_script
              (ends_why node slot m bytes) (λ fault. tt) (λ s. tt) (script_from m bytes),
        ))

    completed : ¬ HasRisen before.output.faults now.output.faults
        → WroteOrNone (why_answer medl right script_bytes node slot).status
        (why_answer medl right script_bytes node slot).lines
        before.output now.output answer.status
    completed sink =
        elim (told_shows ttplab (why_plan list script node slot) before now answer
        (ending_of medl script_bytes right) call told
        quiet sink) [
          | inl showed ↦
              inl (
                showed.status,
                subst (λ (lines : Lines). WroteLines before.output now.output lines)
                    showed.text.among showed.text.wrote,
              )
          | inr seven ↦ inr (seven, empty seven)
        ]

    cut_short : answer.status ≡ 6
        → CutShort before.output now.output (why_answer medl right script_bytes node slot).lines
    cut_short six =
        let cut = told_cut ttplab (why_plan list script node slot) before now answer
        (ending_of medl script_bytes right) call told
        quiet six in
        subst (λ (lines : Lines). CutShort before.output now.output lines) cut.among cut.cut

pub why_promise : (list script : List ℕ) (node : ℕ) (slot : Option ℕ) (before now : Outside) (answer : LabAnswer)
    → Promise ttplab (why_plan list script node slot) before now answer
    → (answer.status ≡ 7 → Wrote before.output now.output [])
    → WhyPromise list script node slot before now answer.status
why_promise list script node slot before now answer call empty =
    let next = ends_why node slot in
    record {
      shown = λ zero.
          low list script node slot before now answer call empty 0 (omega arith)
          (says list script node slot before now answer call empty 0 zero (omega arith));
      stays = λ one.
          low list script node slot before now answer call empty 1 (omega arith)
          (says list script node slot before now answer call empty 1 one (omega arith));
      no_list = λ three.
          on_list list script node slot before now answer call empty
          (says list script node slot before now answer call empty 3 three (omega arith));
      no_script = λ four.
          on_script list script node slot before now answer call empty
          (says list script node slot before now answer call empty 4 four (omega arith));
      complete = λ medl right script_bytes files sink.
          completed list script node slot before now answer call empty medl right script_bytes files sink;
      list_told = list_due list script next before now answer call;
      script_told = script_due list script next before now answer call;
      cut = λ medl right script_bytes files six.
          cut_short list script node slot before now answer call empty medl right script_bytes files six;
      empty = empty;
    }
