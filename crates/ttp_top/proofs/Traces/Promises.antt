-- The promises of `verify` and of `modes`, from the promise of every form.
use Rattle.ttp_top.proofs.Terms.{◌≡◌, ◌⊎◌, ℕ, ◌+◌, ◌≤◌, Bool, true, false, List, [], ◌∷◌, take, Option, Some, refl, ap}
use Rattle.ttp_top.proofs.Terms.{sym, subst, ◌∙◌, inl, inr, arith, if◌then◌else◌, take_all, HasRisen, Output, Wrote}
use Rattle.ttp_top.proofs.Terms.{Lines, lines_of, Medl, Script, IsLegalRun, IsValid, IsValidScript, trace_lines}
use Rattle.ttp_top.proofs.Terms.{trace_lines-each, numbers_in-trace, medl_of-valid, script_of-valid, is_trace}
use Rattle.ttp_top.proofs.Terms.{is_trace-numbers, trace-short, both_came, both_told, both_ask, end_comes, AllAsk}
use Rattle.ttp_top.proofs.Terms.{Quiet, told_shows, told_cut, both_plan, trace_plan, Showed, Outside, whole_ending}
use Rattle.ttp_top.proofs.Terms.{ends, Comes, told_ending, trace_limit, AreRight, one, those, IsAmong, BenchAnswer}
use Rattle.ttp_top.proofs.Terms.{BenchEnding, BenchPlan, ttpbench, plan_of, BenchPromise, differences, Form, is_run}
use Rattle.ttp_top.proofs.Terms.{verify, modes, OfTrace, HasJudged, CutVerdict, AreAllTold, TextPromise}
use Rattle.ttp_base.specs.Outside.{Held, untold, absent, holds, Load, Gives}
use Rattle.ttp_world.specs.TraceNumbers.{numbers_in}
use Rattle.ttp_base.proofs.Lines.{lines_of-concat}
use Rattle.theorems.specs.ModeText.{ShowsOneMode}
use Rattle.ttp_top.proofs.FromBelow.{mode-text, HaveAtMost, is_trace-short, is_trace-front, first_wrong-front}
use Rattle.commands.specs.Right.{MayBe}
use Rattle.commands.specs.Texts.{CutAmong}
use Rattle.ttp_top.specs.Traces.Promise.{said_same, said_modes, IsVerdict, IsJudged}
use Rattle.ttp_top.specs.Traces.Promise.{ShowOneMode, VerifyPromise, ModesPromise}

-- ---- what both forms ask for, and how they end

abbrev judged_ending : OfTrace → Medl → Script → List ℕ → Bool → BenchEnding
judged_ending said medl right text same =
    if same then whole_ending 0 (one (said medl right text)) else whole_ending 1 (those (differences medl right text))

abbrev ending_of : OfTrace → Medl → Script → List ℕ → BenchEnding
ending_of said medl right text = judged_ending said medl right text (is_trace medl right text)

abbrev from_script : OfTrace → List ℕ → Medl → Script → BenchPlan
from_script said trace medl right = trace_plan trace (λ text. ends (ending_of said medl right text))

abbrev judged_plan : OfTrace → List ℕ → List ℕ → List ℕ → BenchPlan
judged_plan said list script trace = both_plan list script (from_script said trace)

-- ---- the verdict

-- an ending is a verdict on the text
ending_verdict : (said : OfTrace) (medl : Medl) (right : Script) (text : List ℕ) (status : ℕ) (lines : Lines)
    (same : Bool) → is_trace medl right text ≡ same → status ≡ (judged_ending said medl right text same).status
    → IsAmong ttpbench (judged_ending said medl right text same).texts lines
    → IsVerdict said medl right text status lines
ending_verdict said medl right text status lines true is end among = inl (end, (is, among))
ending_verdict said medl right text status lines false is end among = inr (end, (is, among))

module _ (said : OfTrace) (medl : Medl) (right : Script) (limit : ℕ) (most : HaveAtMost medl right limit)
    (text : List ℕ) where
  -- the verdict on the first bytes of a text is that on all of it
  verdict-whole : (status : ℕ) (lines : Lines) → IsVerdict said medl right (take (limit + 1) text) status lines
      → IsVerdict said medl right text status lines
  verdict-whole status lines (inl same) =
      let trace : is_trace medl right text ≡ true = sym (is_trace-front medl right limit most text) ∙ same.1.0 in
      let short = is_trace-short medl right limit most text trace in
      let whole : take (limit + 1) text ≡ text = take_all (limit + 1) text (omega (arith, short)) in
      inl (same.0, (trace, same.1.1 ∙ ap (said medl right) whole))
  verdict-whole status lines (inr differs) =
      let d = differs.1.1 in
      inr (
        differs.0,
        (
          sym (is_trace-front medl right limit most text) ∙ differs.1.0,
          record { line = d.line; first = first_wrong-front medl right limit most text d.line d.first; said = d.said },
        ),
      )

  showed-judged : (before now : Output) (answer : BenchAnswer)
      → Showed ttpbench (ending_of said medl right (take (limit + 1) text)) before now answer
      → HasJudged said medl right text before now answer.status
  showed-judged before now answer showed =
      let front = take (limit + 1) text in
      record {
        lines = showed.text.lines;
        verdict =
            verdict-whole answer.status showed.text.lines
            (ending_verdict said medl right front answer.status showed.text.lines (is_trace medl right front) refl
            showed.status showed.text.among);
        wrote = showed.text.wrote;
      }

  cut-verdict : (before now : Output)
      → CutAmong ttpbench (ending_of said medl right (take (limit + 1) text)).texts before now
      → CutVerdict said medl right text before now
  cut-verdict before now cut =
      let front = take (limit + 1) text in
      let status = (ending_of said medl right front).status in
      record {
        status = status;
        lines = cut.lines;
        verdict =
            verdict-whole status cut.lines
            (ending_verdict said medl right front status cut.lines (is_trace medl right front) refl refl cut.among);
        cut = cut.cut;
      }

-- ---- the text that was loaded, and the whole one

-- bytes that were given are the first of a text that the library may hold
record LoadedFrom (held : Held) (limit : ℕ) (given : List ℕ) : Type 0 where
  pub text : List ℕ
  pub may : MayBe held text
  pub front : given ≡ take (limit + 1) text

loaded_from : (held : Held) (limit : ℕ) (given : List ℕ) → Gives held limit given → LoadedFrom held limit given
loaded_from untold limit given gives =
    record { text = given; may = tt; front = sym (take_all (limit + 1) given gives) }
loaded_from absent limit given gives = absurd gives
loaded_from (holds all) limit given gives = record { text = all; may = refl; front = gives }

-- the load of the text before an ending
record CameText (said : OfTrace) (held : Held) (medl : Medl) (right : Script) (ending : BenchEnding) : Type 0 where
  pub given : List ℕ
  pub gives : Gives held trace_limit given
  pub is : ending_of said medl right given ≡ ending

text_came : (said : OfTrace) (held : List ℕ → Held) (trace : List ℕ) (medl : Medl) (right : Script)
    (loads : List Load) (ending : BenchEnding) → Comes held (from_script said trace medl right) loads (ends ending)
    → CameText said (held trace) medl right ending
text_came said held trace medl right [] ending comes = absurd (cc)
text_came said held trace medl right (load ∷ loads) ending comes = record {
  given = comes.1.0;
  gives = comes.1.1;
  is = end_comes held loads (ending_of said medl right comes.1.0) ending comes.1.2;
}

-- ---- the promise

have_at_most : (bytes script_bytes : List ℕ) (medl : Medl) (right : Script) → AreRight bytes script_bytes medl right
    → HaveAtMost medl right trace_limit
have_at_most bytes script_bytes medl right are =
    let valid = medl_of-valid bytes medl are.list in
    let valid_script = script_of-valid medl script_bytes right valid are.script_size are.script in
    λ numbers legal. trace-short medl right numbers valid valid_script legal.count legal.legal

module _ (said : OfTrace) (form : Option Form) (list script trace : List ℕ)
    (is : plan_of form ≡ judged_plan said list script trace) (before now : Outside) (answer : BenchAnswer)
    (p : BenchPromise form before now answer) where
  judged : answer.status ≤ 1 → IsJudged said list script trace before now answer.status
  judged few =
      let held = before.files.held in
      let final = p.ended (omega (arith, few)) in
      let both = both_came held final.0 (omega (arith, few, final.2.status)) list script (from_script said trace)
      p.loads (subst (λ (plan : BenchPlan). Comes held plan p.loads (ends final.0)) is final.1.comes) in
      let loaded = text_came said held trace both.medl both.right both.loads final.0 both.comes in
      let whole = loaded_from (held trace) trace_limit loaded.given loaded.gives in
      let ending : final.0 ≡ ending_of said both.medl both.right (take (trace_limit + 1) whole.text) =
      sym loaded.is ∙ ap (ending_of said both.medl both.right) whole.front in
      let most = have_at_most both.bytes both.script_bytes both.medl both.right both.are in
      record {
        bytes = both.bytes;
        script_bytes = both.script_bytes;
        text = whole.text;
        medl = both.medl;
        right = both.right;
        list_file = both.list_file;
        script_file = both.script_file;
        trace_file = whole.may;
        are = both.are;
        judged =
            showed-judged said both.medl both.right trace_limit most whole.text before.output now.output answer
            (subst (λ (e : BenchEnding). Showed ttpbench e before.output now.output answer) ending final.2);
      }

  -- files that are told
  module _ (medl : Medl) (right : Script) (text : List ℕ)
      (files : AreAllTold list script trace before now medl right text) where
    most_told : HaveAtMost medl right trace_limit
    most_told = have_at_most files.files.bytes files.files.script_bytes medl right files.files.are

    text_told : told_ending before.files.held (plan_of form)
        ≡ Some (ending_of said medl right (take (trace_limit + 1) text))
    text_told =
        let last : told_ending before.files.held (from_script said trace medl right)
        ≡ Some (ending_of said medl right (take (trace_limit + 1) text)) = rw files.trace_file refl in
        ap (told_ending before.files.held) is
        ∙ both_told list script (from_script said trace) before now medl right files.files
        ∙ last

    quiet : AllAsk (Quiet before now) (plan_of form)
    quiet =
        subst (AllAsk (Quiet before now)) (sym is)
        (both_ask (Quiet before now) list script (from_script said trace)
        files.files.list_quiet files.files.script_quiet
        (λ m s. (files.trace_quiet, λ bytes. tt)))

    complete : is_run form ≡ false → ¬ HasRisen before.output.faults now.output.faults
        → HasJudged said medl right text before.output now.output answer.status
        ⊎ ((answer.status ≡ 7) × Wrote before.output now.output [])
    complete other sink =
        elim (told_shows ttpbench (plan_of form) before now answer
        (ending_of said medl right (take (trace_limit + 1) text)) p.call text_told quiet sink) [
          | inl showed ↦
              inl (showed-judged said medl right trace_limit most_told text before.output now.output answer showed)
          | inr seven ↦ inr (seven, p.empty seven other)
        ]

    cut : answer.status ≡ 6 → CutVerdict said medl right text before.output now.output
    cut six =
        cut-verdict said medl right trace_limit most_told text before.output now.output
        (told_cut ttpbench (plan_of form) before now answer (ending_of said medl right (take (trace_limit + 1) text))
        p.call text_told quiet six)

  text_promise : is_run form ≡ false → TextPromise said list script trace before now answer
  text_promise other = record {
    judged = judged;
    complete = λ medl right text files sink. complete medl right text files other sink;
    cut = λ medl right text files six. cut medl right text files six;
  }

pub verify_promise : (list script trace : List ℕ) (before now : Outside) (answer : BenchAnswer)
    → BenchPromise (Some (verify list script trace)) before now answer
    → VerifyPromise list script trace before now answer
verify_promise list script trace before now answer p =
    text_promise said_same (Some (verify list script trace)) list script trace refl before now answer p refl

-- ---- the modes that a text of modes shows

-- the numbers that a trace names are legal
legal_named : (medl : Medl) (right : Script) (text : List ℕ) → IsValid medl → IsValidScript medl right
    → is_trace medl right text ≡ true → IsLegalRun medl right (numbers_in medl right (lines_of text))
legal_named medl right text valid valid_script is =
    let t = is_trace-numbers medl right text is in
    let own = ap (λ (bytes : List ℕ). numbers_in medl right (lines_of bytes)) t.whole
    ∙ ap (numbers_in medl right) (lines_of-concat (trace_lines medl right t.numbers)
    (trace_lines-each medl right t.numbers))
    ∙ numbers_in-trace medl right t.numbers valid valid_script t.legal.count t.legal.legal in
    subst (IsLegalRun medl right) (sym own) t.legal

shows_one : (medl : Medl) (right : Script) (text : List ℕ) (status : ℕ) (lines : Lines) → IsValid medl
    → IsValidScript medl right → status ≡ 0 → IsVerdict said_modes medl right text status lines
    → ShowOneMode medl right lines
shows_one medl right text status lines valid valid_script zero (inl same) start kept slot since within =
    let numbers = numbers_in medl right (lines_of text) in
    subst (λ (ls : Lines). ShowsOneMode medl right ls slot) (sym same.1.1)
    (mode-text medl right start valid valid_script kept numbers
    (legal_named medl right text valid valid_script same.1.0) slot since within)
shows_one medl right text status lines valid valid_script zero (inr differs) start kept slot since within =
    absurd (omega (arith, zero, differs.0))

pub modes_promise : (list script trace : List ℕ) (before now : Outside) (answer : BenchAnswer)
    → BenchPromise (Some (modes list script trace)) before now answer → ModesPromise list script trace before now answer
modes_promise list script trace before now answer p = record {
  text = text_promise said_modes (Some (modes list script trace)) list script trace refl before now answer p refl;
  one_mode = λ zero was.
      let valid = medl_of-valid was.bytes was.medl was.are.list in
      shows_one was.medl was.right was.text answer.status was.judged.lines valid
      (script_of-valid was.medl was.script_bytes was.right valid was.are.script_size was.are.script) zero
      was.judged.verdict;
}
