-- The promise of frames in its own words, from the promise of every form.
use Rattle.std.proofs.Common.{◌≡◌, ◌⊎◌, ℕ, ◌+◌, ◌≤◌, Bool, true, false, List, [], ◌∷◌, take, Some, refl, ap, sym, subst}
use Rattle.std.proofs.Common.{◌∙◌, inl, inr, arith}
use Rattle.std.specs.Prelude.{if◌then◌else◌}
use Rattle.std.proofs.lemmas.List.{take_all}
use Rattle.ttp_base.specs.Outside.{Held, untold, absent, holds, Load, Gives, HasRisen}
use Rattle.ttp_base.specs.Outside.{Output, Wrote, WroteLines, CutShort}
use Rattle.ttp_base.specs.Text.{Lines}
use Rattle.ttp_world.specs.declared.medl.Medl.{Medl}
use Rattle.ttp_world.specs.declared.script.Script.{Script}
use Rattle.lab_top.proofs.FromBelow.{medl_of-valid, script_of-valid, trace-short, both_came, both_told, both_ask}
use Rattle.lab_top.proofs.FromBelow.{AllAsk, end_comes, Quiet, told_shows, told_cut, HaveAtMost, is_trace-short}
use Rattle.lab_top.proofs.FromBelow.{is_trace-front, first_wrong-front}
use Rattle.trace_check.specs.Answer.{is_trace}
use Rattle.commands.specs.Files.{trace_plan}
use Rattle.commands.specs.Outcome.{Showed}
use Rattle.commands.specs.Plan.{Outside, whole_ending, ends, Comes, told_ending}
use Rattle.commands.specs.Promise.{Promise}
use Rattle.commands.specs.Read.{trace_limit}
use Rattle.commands.specs.Right.{MayBe, AreRight}
use Rattle.commands.specs.Texts.{one, those, IsAmong, CutAmong}
use Rattle.lab_top.specs.Forms.{frames_ending, frames_plan}
use Rattle.trace_check.specs.Difference.{IsDifference}
use Rattle.lab_top.specs.Frames.{frames_named}
use Rattle.lab_top.specs.FramesPromise.{MayBeAll, WroteFrames, WroteDifference, CutDifference}
use Rattle.lab_top.specs.FramesPromise.{ToldDifference, AreAllTold}
use Rattle.lab_top.specs.FramesPromise.{FramesPromise}
use Rattle.lab_top.specs.Texts.{differences, LabEnding, LabPlan, LabAnswer, ttplab}
use Rattle.lab_top.specs.ViewPromise.{WroteOrNone}
use Rattle.lab_top.proofs.RefusedFiles.{RefusesNone, list_refused, script_refused, list_due, script_due}

-- ---- the verdict

-- the frames of a trace, with status 0, or the line that names the first wrong line of another text, with status 1
abbrev IsVerdict : Medl → Script → List ℕ → ℕ → Lines → Type 0
IsVerdict medl right text status lines =
    ((status ≡ 0) × ((is_trace medl right text ≡ true) × (lines ≡ frames_named medl right text)))
    ⊎ ((status ≡ 1) × ((is_trace medl right text ≡ false) × IsDifference medl right text lines))

-- it was written
record HasJudged (medl : Medl) (right : Script) (text : List ℕ) (before now : Output) (status : ℕ) : Type 0 where
  lines : Lines
  verdict : IsVerdict medl right text status lines
  wrote : WroteLines before now lines

-- it was cut short
record CutVerdict (medl : Medl) (right : Script) (text : List ℕ) (before now : Output) : Type 0 where
  status : ℕ
  lines : Lines
  verdict : IsVerdict medl right text status lines
  cut : CutShort before now lines

abbrev ending_by : Medl → Script → List ℕ → Bool → LabEnding
ending_by medl right text same =
    if same then whole_ending 0 (one (frames_named medl right text))
    else whole_ending 1 (those (differences medl right text))

-- an ending is a verdict on the text
ending-verdict : (medl : Medl) (right : Script) (text : List ℕ) (status : ℕ) (lines : Lines) (same : Bool)
    → is_trace medl right text ≡ same → status ≡ (ending_by medl right text same).status
    → IsAmong ttplab (ending_by medl right text same).texts lines → IsVerdict medl right text status lines
ending-verdict medl right text status lines true is end among = inl (end, (is, among))
ending-verdict medl right text status lines false is end among = inr (end, (is, among))

module _ (medl : Medl) (right : Script) (limit : ℕ) (most : HaveAtMost medl right limit) (text : List ℕ) where
  -- the verdict on the first bytes of a text is that on all of it
  verdict-whole : (status : ℕ) (lines : Lines) → IsVerdict medl right (take (limit + 1) text) status lines
      → IsVerdict medl right text status lines
  verdict-whole status lines (inl same) =
      let trace : is_trace medl right text ≡ true = sym (is_trace-front medl right limit most text) ∙ same.1.0 in
      let short = is_trace-short medl right limit most text trace in
      let whole : take (limit + 1) text ≡ text = take_all (limit + 1) text (omega (arith, short)) in
      inl (same.0, (trace, same.1.1 ∙ ap (frames_named medl right) whole))
  verdict-whole status lines (inr differs) =
      let d = differs.1.1 in
      inr (
        differs.0,
        (
          sym (is_trace-front medl right limit most text) ∙ differs.1.0,
          record { line = d.line; first = first_wrong-front medl right limit most text d.line d.first; said = d.said },
        ),
      )

  showed-judged : (before now : Output) (answer : LabAnswer)
      → Showed ttplab (frames_ending medl right (take (limit + 1) text)) before now answer
      → HasJudged medl right text before now answer.status
  showed-judged before now answer showed =
      let front = take (limit + 1) text in
      record {
        lines = showed.text.lines;
        verdict =
            verdict-whole answer.status showed.text.lines
            (ending-verdict medl right front answer.status showed.text.lines
            (is_trace medl right front) refl showed.status
            showed.text.among);
        wrote = showed.text.wrote;
      }

  cut-verdict : (before now : Output)
      → CutAmong ttplab (frames_ending medl right (take (limit + 1) text)).texts before now
      → CutVerdict medl right text before now
  cut-verdict before now cut =
      let front = take (limit + 1) text in
      let status = (frames_ending medl right front).status in
      record {
        status = status;
        lines = cut.lines;
        verdict =
            verdict-whole status cut.lines
            (ending-verdict medl right front status cut.lines (is_trace medl right front) refl refl cut.among);
        cut = cut.cut;
      }

-- what a verdict is where it is known whether the text is a trace

right-verdict : (medl : Medl) (right : Script) (text : List ℕ) (status : ℕ) (lines : Lines)
    → IsVerdict medl right text status lines → is_trace medl right text ≡ true
    → (status ≡ 0) × (lines ≡ frames_named medl right text)
right-verdict medl right text status lines (inl same) is = (same.0, same.1.1)
right-verdict medl right text status lines (inr differs) is = absurd (cc)

wrong-verdict : (medl : Medl) (right : Script) (text : List ℕ) (status : ℕ) (lines : Lines)
    → IsVerdict medl right text status lines → is_trace medl right text ≡ false
    → (status ≡ 1) × IsDifference medl right text lines
wrong-verdict medl right text status lines (inl same) is = absurd (cc)
wrong-verdict medl right text status lines (inr differs) is = (differs.0, differs.1.1)

-- ---- the text that was loaded, and the whole one

-- bytes that were given are the first of a text that the library may hold
record LoadedFrom (held : Held) (limit : ℕ) (given : List ℕ) : Type 0 where
  text : List ℕ
  may : MayBe held text
  front : given ≡ take (limit + 1) text

loaded_from : (held : Held) (limit : ℕ) (given : List ℕ) → Gives held limit given → LoadedFrom held limit given
loaded_from untold limit given gives =
    record { text = given; may = tt; front = sym (take_all (limit + 1) given gives) }
loaded_from absent limit given gives = absurd gives
loaded_from (holds all) limit given gives = record { text = all; may = refl; front = gives }

abbrev from_script : List ℕ → Medl → Script → LabPlan
from_script trace medl right = trace_plan trace (λ text. ends (frames_ending medl right text))

-- the load of the text before an ending
record CameText (held : Held) (medl : Medl) (right : Script) (ending : LabEnding) : Type 0 where
  given : List ℕ
  gives : Gives held trace_limit given
  is : frames_ending medl right given ≡ ending

text_came : (held : List ℕ → Held) (trace : List ℕ) (medl : Medl) (right : Script) (loads : List Load)
    (ending : LabEnding) → Comes held (from_script trace medl right) loads (ends ending)
    → CameText (held trace) medl right ending
text_came held trace medl right [] ending comes = absurd (cc)
text_came held trace medl right (load ∷ loads) ending comes = record {
  given = comes.1.0;
  gives = comes.1.1;
  is = end_comes held loads (frames_ending medl right comes.1.0) ending comes.1.2;
}

-- ---- the promise

have_at_most : (bytes script_bytes : List ℕ) (medl : Medl) (right : Script) → AreRight bytes script_bytes medl right
    → HaveAtMost medl right trace_limit
have_at_most bytes script_bytes medl right are =
    let valid = medl_of-valid bytes medl are.list in
    let valid_script = script_of-valid medl script_bytes right valid are.script_size are.script in
    λ numbers legal. trace-short medl right numbers valid valid_script legal.count legal.legal

-- neither a list nor a script is refused behind right ones
ending-low : (medl : Medl) (right : Script) (text : List ℕ) (same : Bool) → (ending_by medl right text same).status ≤ 2
ending-low medl right text true = omega arith
ending-low medl right text false = omega arith

behind-none : (trace : List ℕ) (medl : Medl) (right : Script) → RefusesNone (from_script trace medl right)
behind-none trace medl right = (tt, λ text. ending-low medl right text (is_trace medl right text))

module _ (list script trace : List ℕ) (before now : Outside) (answer : LabAnswer)
    (call : Promise ttplab (frames_plan list script trace) before now answer)
    (empty : answer.status ≡ 7 → Wrote before.output now.output []) where
  -- what was judged
  record Judged : Type 0 where
    text : List ℕ
    medl : Medl
    right : Script
    files : MayBeAll list script trace before medl right text
    judged : HasJudged medl right text before.output now.output answer.status

  judged : answer.status ≤ 1 → Judged
  judged few =
      let held = before.files.held in
      let final = call.ended (omega (arith, few)) in
      let both = both_came held final.0 (omega (arith, few, final.2.status)) list script (from_script trace) call.loads
      final.1.comes in
      let loaded = text_came held trace both.medl both.right both.loads final.0 both.comes in
      let whole = loaded_from (held trace) trace_limit loaded.given loaded.gives in
      let ending : final.0 ≡ frames_ending both.medl both.right (take (trace_limit + 1) whole.text) =
      sym loaded.is ∙ ap (frames_ending both.medl both.right) whole.front in
      let most = have_at_most both.bytes both.script_bytes both.medl both.right both.are in
      let valid = medl_of-valid both.bytes both.medl both.are.list in
      record {
        text = whole.text;
        medl = both.medl;
        right = both.right;
        files = record {
          both = record {
            bytes = both.bytes;
            script_bytes = both.script_bytes;
            list_file = both.list_file;
            script_file = both.script_file;
            are = both.are;
            valid = valid;
            valid_script =
                script_of-valid both.medl both.script_bytes both.right valid both.are.script_size both.are.script;
          };
          trace_file = whole.may;
        };
        judged =
            showed-judged both.medl both.right trace_limit most whole.text before.output now.output answer
            (subst (λ (e : LabEnding). Showed ttplab e before.output now.output answer) ending final.2);
      }

  shown_by : (j : Judged) → IsVerdict j.medl j.right j.text answer.status j.judged.lines → answer.status ≡ 0
      → WroteFrames list script trace before now
  shown_by j (inl same) zero = record {
    medl = j.medl;
    right = j.right;
    text = j.text;
    files = j.files;
    same = same.1.0;
    wrote = subst (λ (lines : Lines). WroteLines before.output now.output lines) same.1.1 j.judged.wrote;
  }
  shown_by j (inr differs) zero = absurd (omega (arith, zero, differs.0))

  differs_by : (j : Judged) → IsVerdict j.medl j.right j.text answer.status j.judged.lines → answer.status ≡ 1
      → ToldDifference list script trace before now
  differs_by j (inl same) is = absurd (omega (arith, is, same.0))
  differs_by j (inr differs) is = record {
    medl = j.medl;
    right = j.right;
    text = j.text;
    files = j.files;
    other = differs.1.0;
    wrote = record { lines = j.judged.lines; first = differs.1.1; wrote = j.judged.wrote };
  }

  -- files that are told
  module _ (medl : Medl) (right : Script) (text : List ℕ)
      (files : AreAllTold list script trace before now medl right text) where
    most_told : HaveAtMost medl right trace_limit
    most_told = have_at_most files.files.bytes files.files.script_bytes medl right files.files.are

    text_told : told_ending before.files.held (frames_plan list script trace)
        ≡ Some (frames_ending medl right (take (trace_limit + 1) text))
    text_told =
        let last : told_ending before.files.held (from_script trace medl right)
        ≡ Some (frames_ending medl right (take (trace_limit + 1) text)) = rw files.trace_file refl in
        both_told list script (from_script trace) before now medl right files.files ∙ last

    quiet : AllAsk (Quiet before now) (frames_plan list script trace)
    quiet =
        both_ask (Quiet before now) list script (from_script trace) files.files.list_quiet files.files.script_quiet
        (λ m s. (files.trace_quiet, λ bytes. tt))

    judged_told : ¬ HasRisen before.output.faults now.output.faults
        → HasJudged medl right text before.output now.output answer.status
        ⊎ ((answer.status ≡ 7) × Wrote before.output now.output [])
    judged_told sink =
        elim (told_shows ttplab (frames_plan list script trace) before now answer
        (frames_ending medl right (take (trace_limit + 1) text)) call text_told quiet sink) [
          | inl showed ↦
              inl (showed-judged medl right trace_limit most_told text before.output now.output answer showed)
          | inr seven ↦ inr (seven, empty seven)
        ]

    completed : ¬ HasRisen before.output.faults now.output.faults → is_trace medl right text ≡ true
        → WroteOrNone 0 (frames_named medl right text) before.output now.output answer.status
    completed sink is =
        elim (judged_told sink) [
          | inl j ↦
              let v = right-verdict medl right text answer.status j.lines j.verdict is in
              inl (v.0, subst (λ (lines : Lines). WroteLines before.output now.output lines) v.1 j.wrote)
          | inr seven ↦ inr seven
        ]

    line_told : ¬ HasRisen before.output.faults now.output.faults → is_trace medl right text ≡ false
        → ((answer.status ≡ 1) × WroteDifference medl right text before.output now.output)
        ⊎ ((answer.status ≡ 7) × Wrote before.output now.output [])
    line_told sink is =
        elim (judged_told sink) [
          | inl j ↦
              let v = wrong-verdict medl right text answer.status j.lines j.verdict is in
              inl (v.0, record { lines = j.lines; first = v.1; wrote = j.wrote })
          | inr seven ↦ inr seven
        ]

    cut_told : answer.status ≡ 6 → CutVerdict medl right text before.output now.output
    cut_told six =
        cut-verdict medl right trace_limit most_told text before.output now.output
        (told_cut ttplab (frames_plan list script trace) before now answer
        (frames_ending medl right (take (trace_limit + 1) text)) call text_told quiet six)

    cut_frames : is_trace medl right text ≡ true → answer.status ≡ 6
        → CutShort before.output now.output (frames_named medl right text)
    cut_frames is six =
        let c = cut_told six in
        let v = right-verdict medl right text c.status c.lines c.verdict is in
        subst (λ (lines : Lines). CutShort before.output now.output lines) v.1 c.cut

    cut_line : is_trace medl right text ≡ false → answer.status ≡ 6
        → CutDifference medl right text before.output now.output
    cut_line is six =
        let c = cut_told six in
        let v = wrong-verdict medl right text c.status c.lines c.verdict is in
        record { lines = c.lines; first = v.1; cut = c.cut }

pub frames_promise : (list script trace : List ℕ) (before now : Outside) (answer : LabAnswer)
    → Promise ttplab (frames_plan list script trace) before now answer
    → (answer.status ≡ 7 → Wrote before.output now.output [])
    → FramesPromise list script trace before now answer.status
frames_promise list script trace before now answer call empty =
    let next : Medl → List ℕ → Script → LabPlan = λ medl bytes. from_script trace medl in
    let none : (medl : Medl) (bytes : List ℕ) (right : Script) → RefusesNone (next medl bytes right) =
    λ medl bytes. behind-none trace medl in
    record {
      shown = λ zero.
          let j = judged list script trace before now answer call empty (omega (arith, zero)) in
          shown_by list script trace before now answer call empty j j.judged.verdict zero;
      differs = λ one.
          let j = judged list script trace before now answer call empty (omega (arith, one)) in
          differs_by list script trace before now answer call empty j j.judged.verdict one;
      no_list = list_refused list script next before now answer call none;
      no_script = script_refused list script next before now answer call none;
      complete = λ medl right text files sink is.
          completed list script trace before now answer call empty medl right text files sink is;
      difference = λ medl right text files sink is.
          line_told list script trace before now answer call empty medl right text files sink is;
      list_told = list_due list script next before now answer call;
      script_told = script_due list script next before now answer call;
      cut = λ medl right text files is six.
          cut_frames list script trace before now answer call empty medl right text files is six;
      cut_line = λ medl right text files is six.
          cut_line list script trace before now answer call empty medl right text files is six;
    }
