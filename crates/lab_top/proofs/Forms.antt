-- What holds of each ending of a form: what its texts are made of, and what its status and the form tell of each other.
use Rattle.std.proofs.Common.{◌≡◌, ℕ, true, false, ◌++◌, [], ◌∷◌, Option, Some}
use Rattle.std.proofs.Common.{None, Result, Ok, Err, refl, subst, arith}
use Rattle.std.proofs.Common.{List, Bool}
use Rattle.std.specs.Prelude.{codes, if◌then◌else◌}
use Rattle.ttp_base.specs.Text.{Lines, lines_of, newline, is_line}
use Rattle.ttp_base.proofs.Lines.{is_line-append}
use Rattle.ttp_base.proofs.Numerals.{has}
use Rattle.ttp_world.specs.declared.medl.Medl.{Medl}
use Rattle.ttp_world.specs.declared.script.Script.{Script}
use Rattle.ttp_world.specs.TraceNumbers.{numbers_in}
use Rattle.trace_check.specs.Answer.{is_trace}
use Rattle.campaign.specs.Lines.{campaign_lines}
use Rattle.clock_margins.specs.MarginText.{margin_lines}
use Rattle.fault_pairs.specs.PairText.{pairs_lines}
use Rattle.lab_top.proofs.FromBelow.{wave_lines-each, picture_lines-each, campaign-draws, check_lines-each}
use Rattle.lab_top.proofs.FromBelow.{check_status-one, AreOfLines, IsFinal, SaysLine, one_text, lines_front, text_final}
use Rattle.lab_top.proofs.FromBelow.{line_final, refused_list-final, refused_script-final, Every, after_every}
use Rattle.lab_top.proofs.FromBelow.{list_every, both_every}
use Rattle.check_text.specs.Check.{Named, check_lines}
use Rattle.script_gen.specs.Generator.{generated}
use Rattle.script_lines.specs.ScriptLines.{script_lines}
use Rattle.commands.specs.declared.read.FileFault.{FileFault}
use Rattle.commands.specs.Files.{refused_list, refused_script, trace_plan}
use Rattle.commands.specs.Lines.{AreLines}
use Rattle.commands.specs.Plan.{ends, said_ending, whole_ending}
use Rattle.commands.specs.Read.{script_from}
use Rattle.commands.specs.Texts.{one, those, no_texts}
use Rattle.lab_top.specs.declared.refusal.TextFault.{TextFault}
use Rattle.lab_top.specs.Forms.{lab_usage_line, viewed_ending, view_plan, lines_ending, lines_plan, script_ending}
use Rattle.lab_top.specs.Forms.{script_form_plan, frames_ending, frames_plan, check_ending, check_plan, lab_plan_of}
use Rattle.lab_top.specs.Frames.{frames_named}
use Rattle.lab_top.specs.Help.{help_lines, version_line}
use Rattle.lab_top.specs.Refusals.{text_fault_line}
use Rattle.lab_top.specs.Texts.{begun, differences, LabEnding, ttplab}
use Rattle.lab_top.specs.Views.{View, viewed, wave_view, picture_view, chart_view}
use Rattle.lab_top.specs.Words.{LabForm, wave, picture, campaign, chart, check, frames}
use Rattle.lab_top.specs.Words.{margins, pairs, script_by, help, version, why}
use Rattle.lab_top.specs.Words.{may_be_begun, tells_differences, reads_list}
use Rattle.lab_top.proofs.CampaignLines.{campaign_lines-each}
use Rattle.lab_top.proofs.Differences.{differences-each}
use Rattle.lab_top.proofs.FrameLines.{frame_lines-each}
use Rattle.lab_top.proofs.GeneratedLines.{script_lines-each}
use Rattle.lab_top.proofs.MarginLines.{margin_lines-each}
use Rattle.lab_top.proofs.PairLines.{pairs_lines-each}
use Rattle.lab_top.proofs.Refusals.{text_fault_line-is_line, viewed-taken}
use Rattle.lab_top.proofs.WhyLines.{why-answer}
use Rattle.lab_top.specs.Why.{ends_why, why_ending, why_plan}
use Rattle.why_answers.specs.Answer.{why_answer}

-- an ending that a form may come to
pub record IsOfForm (form : Option LabForm) (ending : LabEnding) : Type 0 where
  pub final : IsFinal ttplab ending
  -- the usage line answers words of no form alone
  pub usage : ending.status ≡ 2 → form ≡ None
  -- status 1 answers `frames`, `check` and `why` alone
  pub differs : ending.status ≡ 1 → tells_differences form ≡ true
  -- only forms that read a list refuse one
  pub lists : ending.status ≡ 3 → reads_list form ≡ true
  -- where memory is refused, nothing stands, unless the form writes lines of a list and a script
  pub lets : may_be_begun form ≡ false → ending.unfinished ≡ no_texts

-- Each line that a view writes of what a text is taken for is one line, and the kind that a refusal names has no line
-- feed.
record IsOfLines {Value : Type 0} (view : View Value) : Type 0 where
  plain : has 10 view.kind ≡ false
  each : (text : List ℕ) (value : Value) → view.taken text ≡ Ok value → AreLines (view.lines value)

view_ends : {Value : Type 0} (form : Option LabForm) (view : View Value) (text : List ℕ) (read : Result Value TextFault)
    → viewed view text ≡ read → IsOfLines view → IsOfForm form (viewed_ending view read)
view_ends form view text (Ok value) is lines = record {
  final = text_final ttplab 0 (view.lines value) (omega arith)
      (lines.each text value (viewed-taken view text value is).whole);
  usage = λ two. absurd (omega (arith, two));
  differs = λ one. absurd (omega (arith, one));
  lists = λ three. absurd (omega (arith, three));
  lets = λ other. refl;
}
view_ends form view text (Err fault) is lines = record {
  final = line_final ttplab 4 (text_fault_line view.kind fault) (omega arith)
      (text_fault_line-is_line view.kind fault lines.plain);
  usage = λ two. absurd (omega (arith, two));
  differs = λ one. absurd (omega (arith, one));
  lists = λ three. absurd (omega (arith, three));
  lets = λ other. refl;
}

missing-line : (kind : List ℕ) → has 10 kind ≡ false → is_line (codes "load: " ++ kind ++ newline) ≡ true
missing-line kind plain =
    is_line-append (codes "load: ") (kind ++ newline) refl (is_line-append kind newline plain refl)

of_view : {Value : Type 0} (form : Option LabForm) (view : View Value) (name : List ℕ) → IsOfLines view
    → Every (IsOfForm form) SaysLine (view_plan view name)
of_view form view name lines =
    (missing-line view.kind lines.plain, λ text. view_ends form view text (viewed view text) refl lines)

-- the endings of a list or a script that is refused are those of the forms that read them

no_list : (form : Option LabForm) → reads_list form ≡ true → (fault : FileFault)
    → IsOfForm form (said_ending (refused_list fault))
no_list form is fault = record {
  final = refused_list-final ttplab fault;
  usage = λ two. absurd (omega (arith, two));
  differs = λ one. absurd (omega (arith, one));
  lists = λ three. is;
  lets = λ other. refl;
}

no_script : (form : Option LabForm) (fault : FileFault) → IsOfForm form (said_ending (refused_script fault))
no_script form fault = record {
  final = refused_script-final ttplab fault;
  usage = λ two. absurd (omega (arith, two));
  differs = λ one. absurd (omega (arith, one));
  lists = λ three. absurd (omega (arith, three));
  lets = λ other. refl;
}

-- First lines of a text of lines are lines.

begun-each : (text : Lines) → AreLines text → AreOfLines ttplab (those (begun text))
begun-each text each lines some = lines_front lines (some.next ∷ some.rest) (subst AreLines some.begins each)

lines_ends : (form : Option LabForm) → may_be_begun form ≡ true → (text : Lines) → AreLines text
    → IsOfForm form (lines_ending text)
lines_ends form may text each = record {
  final = record { status = omega arith; texts = one_text ttplab text each; unfinished = begun-each text each };
  usage = λ two. absurd (omega (arith, two));
  differs = λ one. absurd (omega (arith, one));
  lists = λ three. absurd (omega (arith, three));
  lets = λ other. absurd (cc);
}

of_both : (form : Option LabForm) → may_be_begun form ≡ true → reads_list form ≡ true → (lines : Medl → Script → Lines)
    → ((medl : Medl) (right : Script) → AreLines (lines medl right)) → (list script : List ℕ)
    → Every (IsOfForm form) SaysLine (lines_plan lines list script)
of_both form may reads lines each list script =
    both_every (IsOfForm form) SaysLine list script (λ medl right. ends (lines_ending (lines medl right))) refl refl
    (no_list form reads) (no_script form) (λ medl right. lines_ends form may (lines medl right) (each medl right))

-- what is told of a list, or of a list and a script

check_ends : (list : List ℕ) (script : Option (List ℕ)) (file : Named) (beside : Option Named)
    → IsOfForm (Some (check list script)) (check_ending file beside)
check_ends list script file beside =
    let one = check_status-one file beside in
    let each = check_lines-each file beside in
    record {
      final = record {
        status = one.0;
        texts = one_text ttplab (check_lines file beside) each;
        unfinished = begun-each (check_lines file beside) each;
      };
      usage = λ two. absurd (one.1 two);
      differs = λ one. refl;
      lists = λ three. refl;
      lets = λ other. absurd (cc);
    }

of_check : (list : List ℕ) (script : Option (List ℕ))
    → Every (IsOfForm (Some (check list script))) SaysLine (check_plan list script)
of_check list None = (refl, λ text. check_ends list None (record { name = list; text = text }) None)
of_check list (Some script) = (
  refl,
  λ text. (
    refl,
    λ other.
        check_ends list (Some script) (record { name = list; text = text })
        (Some (record { name = script; text = other })),
  ),
)

-- lines that are written whole
of_lines : (form : Option LabForm) (text : Lines) → AreLines text → IsOfForm form (whole_ending 0 (one text))
of_lines form text each = record {
  final = text_final ttplab 0 text (omega arith) each;
  usage = λ two. absurd (omega (arith, two));
  differs = λ one. absurd (omega (arith, one));
  lists = λ three. absurd (omega (arith, three));
  lets = λ other. refl;
}

-- of a text, a trace has its frames, and any other the line on it

difference_ends : (list script trace : List ℕ) (medl : Medl) (right : Script) (text : List ℕ)
    → IsOfForm (Some (frames list script trace)) (whole_ending 1 (those (differences medl right text)))
difference_ends list script trace medl right text = record {
  final = record {
    status = omega arith;
    texts = differences-each medl right text;
    unfinished = one_text ttplab [] tt;
  };
  usage = λ two. absurd (omega (arith, two));
  differs = λ one. refl;
  lists = λ three. absurd (omega (arith, three));
  lets = λ other. refl;
}

frames_ends : (list script trace : List ℕ) (medl : Medl) (right : Script) (text : List ℕ) (same : Bool)
    → IsOfForm (Some (frames list script trace)) (if same then whole_ending 0 (one (frames_named medl right text))
    else whole_ending 1 (those (differences medl right text)))
frames_ends list script trace medl right text true =
    of_lines (Some (frames list script trace)) (frames_named medl right text)
    (frame_lines-each medl right (numbers_in medl right (lines_of text)))
frames_ends list script trace medl right text false = difference_ends list script trace medl right text

of_frames : (list script trace : List ℕ)
    → Every (IsOfForm (Some (frames list script trace))) SaysLine (frames_plan list script trace)
of_frames list script trace =
    let form = Some (frames list script trace) in
    both_every (IsOfForm form) SaysLine list script
    (λ medl right. trace_plan trace (λ text. ends (frames_ending medl right text)))
    refl refl (no_list form refl) (no_script form)
    (λ medl right. (refl, λ text. frames_ends list script trace medl right text (is_trace medl right text)))

-- a generated script is made of lines

script_ends : (list : List ℕ) (slots number : ℕ) (medl : Medl)
    → IsOfForm (Some (script_by list slots number)) (script_ending slots number medl)
script_ends list slots number medl =
    let text = script_lines (generated medl slots number) in
    record {
      final = text_final ttplab 0 text (omega arith) (script_lines-each (generated medl slots number));
      usage = λ two. absurd (omega (arith, two));
      differs = λ one. absurd (omega (arith, one));
      lists = λ three. refl;
      lets = λ other. refl;
    }

of_script : (list : List ℕ) (slots number : ℕ)
    → Every (IsOfForm (Some (script_by list slots number))) SaysLine (script_form_plan list slots number)
of_script list slots number =
    let form = Some (script_by list slots number) in
    list_every (IsOfForm form) SaysLine list (λ medl. ends (script_ending slots number medl)) refl (no_list form refl)
    (script_ends list slots number)

-- why an entry came about, or why there is nothing to tell

why_ends : (list script : List ℕ) (k : ℕ) (slot : Option ℕ) (medl : Medl) (bytes : List ℕ) (right : Script)
    → IsOfForm (Some (why list script k slot)) (why_ending (why_answer medl right bytes k slot))
why_ends list script k slot medl bytes right =
    let is = why-answer medl right bytes k slot in
    let answer = why_answer medl right bytes k slot in
    record {
      final = text_final ttplab answer.status answer.lines is.few is.each;
      usage = λ two. absurd (is.not_usage two);
      differs = λ one. refl;
      lists = λ three. refl;
      lets = λ other. refl;
    }

of_why : (list script : List ℕ) (k : ℕ) (slot : Option ℕ)
    → Every (IsOfForm (Some (why list script k slot))) SaysLine (why_plan list script k slot)
of_why list script k slot =
    let form = Some (why list script k slot) in
    list_every (IsOfForm form) SaysLine list _ refl (no_list form refl)
    (λ medl. (
      refl,
      λ bytes.
          after_every (IsOfForm form) SaysLine refused_script (ends_why k slot medl bytes) (no_script form)
          (why_ends list script k slot medl bytes) (script_from medl bytes),
    ))

help-each : AreLines help_lines
help-each = (
  refl,
  (
    refl,
    (refl, (refl, (refl, (refl, (refl, (refl, (refl, (refl, (refl, (refl, (refl, (refl, tt)))))))))))),
  ),
)

pub lab_forms : (form : Option LabForm) → Every (IsOfForm form) SaysLine (lab_plan_of form)
lab_forms None = record {
  final = line_final ttplab 2 lab_usage_line (omega arith) refl;
  usage = λ two. refl;
  differs = λ one. absurd (omega (arith, one));
  lists = λ three. absurd (omega (arith, three));
  lets = λ other. refl;
}
lab_forms (Some (wave trace)) =
    of_view (Some (wave trace)) wave_view trace (record { plain = refl; each = λ text whole is. wave_lines-each whole })
lab_forms (Some (picture trace asked)) =
    of_view (Some (picture trace asked)) (picture_view asked) trace
    (record { plain = refl; each = λ text whole is. picture_lines-each whole asked })
lab_forms (Some (campaign list script first last)) =
    of_both (Some (campaign list script first last)) refl refl (λ medl right. campaign_lines medl right first last)
    (λ medl right. campaign_lines-each medl right first last) list script
lab_forms (Some (chart name asked)) =
    of_view (Some (chart name asked)) (chart_view asked) name
    (record { plain = refl; each = λ text whole is. (campaign-draws text whole asked is).each })
lab_forms (Some (check list script)) = of_check list script
lab_forms (Some (frames list script trace)) = of_frames list script trace
lab_forms (Some (margins list script asked)) =
    of_both (Some (margins list script asked)) refl refl (λ medl right. margin_lines medl right asked)
    (λ medl right. margin_lines-each medl right asked) list script
lab_forms (Some (pairs list script first last within)) =
    of_both (Some (pairs list script first last within)) refl refl
    (λ medl right. pairs_lines medl right first last within)
    (λ medl right. pairs_lines-each medl right first last within) list script
lab_forms (Some (script_by list slots number)) = of_script list slots number
lab_forms (Some (why list script k slot)) = of_why list script k slot
lab_forms (Some help) = of_lines (Some help) help_lines help-each
lab_forms (Some version) = of_lines (Some version) (version_line ∷ []) (refl, tt)
