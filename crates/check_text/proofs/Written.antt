-- Each piece that `check` writes is one line, and its status is one of four.
use Rattle.std.proofs.Common.{◌≡◌, ◌≢◌, ◌==◌, ℕ, ℤ, ◌<◌, ◌≤◌, Bool, true, false, cond, List}
use Rattle.std.proofs.Common.{[], ◌∷◌, ◌++◌, length, map, nat_lt, refl, sym, ap, ◌∙◌}
use Rattle.std.proofs.Common.{◌+◌, append_assoc, length-append, arith, Option, Some, None}
use Rattle.std.proofs.lemmas.Bool.{eqb-true}
use Rattle.std.proofs.lemmas.List.{append-nil}
use Rattle.std.proofs.lemmas.List.Concat.{flat_map-append}
use Rattle.std.specs.Prelude.{codes, if◌then◌else◌}
use Rattle.std.specs.Fmt.{decimal}
use Rattle.std.specs.List.{AllByRecursion}
use Rattle.ttp_base.specs.NodeSet.{below}
use Rattle.ttp_base.specs.Outside.{Output}
use Rattle.ttp_base.specs.Text.{Lines, newline, is_newline, is_line, before_lines, lines_of}
use Rattle.ttp_world.specs.declared.medl.Medl.{Medl}
use Rattle.ttp_world.specs.declared.script.Script.{Script}
use Rattle.ttp_world.specs.Trace.{keep_line, back_line}
use Rattle.ttp_world.proofs.TraceLines.{keep_line-IsLine, back_line-IsLine}
use Rattle.script_text.specs.Lines.{lines_of_file}
use Rattle.commands.specs.Lines.{AreLines}
use Rattle.commands.specs.Read.{list_from, script_from, script_limit}
use Rattle.fault_runs.specs.Ends.{WroteFewer}
use Rattle.check_text.proofs.FromBelow.{fewer-none}
use Rattle.list_errors.specs.declared.error.Wrong.TheVariants as wrong
use Rattle.list_errors.specs.Errors.{list_wrongs, rounds_said, modes_said}
use Rattle.list_places.specs.Places.{found_places, stop_told}
use Rattle.stop_words.specs.Stops.{stop_words}
use Rattle.broken_arms.specs.declared.arms.BrokenArm.{BrokenArm}
use Rattle.broken_faults.specs.declared.early.EarlyFault.{EarlyFault}
use Rattle.broken_faults.specs.declared.few.TooFew.{TooFew}
use Rattle.broken_faults.specs.declared.losses.LostFrame.{LostFrame}
use Rattle.broken_rules.specs.declared.clocks.PastBound.{PastBound}
use Rattle.broken_rules.specs.declared.clocks.PastBound.TheVariants as past
use Rattle.broken_rules.specs.declared.jumps.Disturbed.{Disturbed}
use Rattle.broken_rules.specs.declared.rules.Answer.{Answer}
use Rattle.broken_rules.specs.declared.rules.Answer.TheVariants as answer
use Rattle.broken_rules.specs.declared.rules.BrokenRules.{BrokenRules}
use Rattle.broken_rules.specs.declared.start.NoStart.{NoStart}
use Rattle.broken_rules.specs.declared.start.NoStart.TheVariants as why
use Rattle.broken_rules.specs.Clocks.{narrow_window}
use Rattle.broken_rules.specs.Rules.{broken_rules}
use Rattle.check_words.specs.Lines.{last_line, counts_text}
use Rattle.warning_words.specs.Warnings.{RightFiles, line_if, warning_lines, window_alone}
use Rattle.warning_words.specs.Warnings.{clocks_line, window_line, disturbed_line, no_start_line, lost_line, early_line}
use Rattle.warning_words.specs.Warnings.{few_line, arm_line}
use Rattle.check_text.specs.Check.{Named, Checked, read_value, test_line, no_answer}
use Rattle.check_text.specs.Check.{files_with, both_checked, checked_by}
use Rattle.check_text.specs.Check.{check_found, lines_with_last, check_lines, check_status, status_by_list}
use Rattle.check_text.specs.Lines.{list_fault_lines, list_line, nth_place, script_fault_lines}
use Rattle.check_text.specs.Lines.{script_line, script_found}
use Rattle.check_text.specs.Lines.{too_large_line, window_place}
use Rattle.check_text.specs.Page.{pieces_of}
use Rattle.std.specs.Prelude.{get_or}

-- a line ends with a line feed
abbrev EndsLine : List ℕ → Type 0
EndsLine line = (front : List ℕ) × (line ≡ front ++ newline)

abbrev AllEnd : Lines → Type 0
AllEnd lines = AllByRecursion EndsLine lines

-- The pieces of a line that ends with a line feed are lines.

each_before : (b : ℕ) (lines : Lines) → is_newline b ≡ false → 0 < length lines → AreLines lines
    → AreLines (before_lines b lines)
each_before b [] plain some are = absurd (omega (arith, some))
each_before b (l ∷ lines) plain some are = (rw plain are.0, are.1)

before_some : (b : ℕ) (lines : Lines) → 0 < length (before_lines b lines)
before_some b [] = omega arith
before_some b (l ∷ lines) = omega arith

record Cut (lines : Lines) : Type 0 where
  some : 0 < length lines
  each : AreLines lines

cut_by : (b : ℕ) (feed : Bool) (lines : Lines) → is_newline b ≡ feed → Cut lines
    → Cut (cond feed (newline ∷ lines) (before_lines b lines))
cut_by b true lines is cut = record { some = omega arith; each = (refl, cut.each) }
cut_by b false lines is cut =
    record { some = before_some b lines; each = each_before b lines is cut.some cut.each }

cut_front : (front : List ℕ) → Cut (lines_of (front ++ newline))
cut_front [] = record { some = omega arith; each = (refl, tt) }
cut_front (b ∷ front) = cut_by b (is_newline b) (lines_of (front ++ newline)) refl (cut_front front)

cut_line : (line : List ℕ) → EndsLine line → AreLines (lines_of line)
cut_line line ends = rw ends.1 (cut_front ends.0).each

join : (x y : Lines) → AreLines x → AreLines y → AreLines (x ++ y)
join [] y one other = other
join (l ∷ x) y one other = (one.0, join x y one.1 other)

pieces_each : (lines : Lines) → AllEnd lines → AreLines (pieces_of lines)
pieces_each [] all = tt
pieces_each (line ∷ lines) all = join (lines_of line) (pieces_of lines) (cut_line line all.0) (pieces_each lines all.1)

-- Lines that end.

behind : (x y : List ℕ) → EndsLine y → EndsLine (x ++ y)
behind x y ends = (x ++ ends.0, ap (λ (l : List ℕ). x ++ l) ends.1 ∙ sym (append_assoc x ends.0 newline))

all_map : {X : Type 0} (line : X → List ℕ) → ((x : X) → EndsLine (line x)) → (xs : List X) → AllEnd (map line xs)
all_map line each [] = tt
all_map line each (x ∷ xs) = (each x, all_map line each xs)

all_join : (x y : Lines) → AllEnd x → AllEnd y → AllEnd (x ++ y)
all_join [] y one other = other
all_join (l ∷ x) y one other = (one.0, all_join x y one.1 other)

all_if : {X : Type 0} (line : X → List ℕ) → ((x : X) → EndsLine (line x))
    → (found : Option X) → AllEnd (line_if line found)
all_if line each None = tt
all_if line each (Some x) = (each x, tt)

list_ends : (name text : List ℕ) → AllEnd (list_fault_lines name text)
unfolding list_fault_lines
list_ends name text =
    let wrongs = list_wrongs text in
    all_map (λ i. list_line name (rounds_said text) (modes_said text) (stop_words text (stop_told text wrongs))
    (nth_place (found_places text wrongs) i) (get_or wrongs i wrong.NotToml)) (λ i. (_, refl)) (below (length wrongs))

script_ends : (list : Option Medl) (name text : List ℕ) → AllEnd (script_fault_lines list name text)
unfolding script_fault_lines
script_ends list name text = by (nat_lt script_limit (length text))
  where
    by : (large : Bool) → AllEnd (if large then too_large_line name ∷ []
        else map (script_line name (lines_of_file text)) (script_found list text))
    by true = ((_, refl), tt)
    by false = all_map (script_line name (lines_of_file text)) (λ e. (_, refl)) (script_found list text)

clocks_ends : (f : RightFiles) (x : PastBound) → EndsLine (clocks_line f x)
unfolding clocks_line
clocks_ends f (past.Drifts nodes) = (_, refl)
clocks_ends f (past.Errors slot node sum) = (_, refl)

window_ends : (f : RightFiles) (due : ℤ) → EndsLine (window_line f due)
unfolding window_line
window_ends f due = (_, refl)

disturbed_ends : (f : RightFiles) (d : Disturbed) → EndsLine (disturbed_line f d)
unfolding disturbed_line
disturbed_ends f d = (_, refl)

start_ends : (f : RightFiles) (x : NoStart) → EndsLine (no_start_line f x)
unfolding no_start_line
start_ends f why.NoStarter = (_, refl)
start_ends f x = (_, refl)

lost_ends : (f : RightFiles) (lost : LostFrame) → EndsLine (lost_line f lost)
unfolding lost_line
lost_ends f lost = (_, refl)

early_ends : (f : RightFiles) (fault : EarlyFault) → EndsLine (early_line f fault)
unfolding early_line
early_ends f fault = (_, refl)

few_ends : (f : RightFiles) (few : TooFew) → EndsLine (few_line f few)
unfolding few_line
few_ends f few = (_, refl)

arm_ends : (f : RightFiles) (arm : BrokenArm) → EndsLine (arm_line f arm)
unfolding arm_line
arm_ends f arm = (_, refl)

rules_end : (f : RightFiles) (b : BrokenRules) → AllEnd (warning_lines f b)
unfolding warning_lines
rules_end f b =
    all_join _ _
    (all_join _ _ (all_if (clocks_line f) (clocks_ends f) b.conditions.clocks)
    (all_join _ _ (all_if (window_line f) (window_ends f) b.conditions.window)
    (all_join _ _ (all_if (disturbed_line f) (disturbed_ends f) b.conditions.disturbed)
    (all_if (no_start_line f) (start_ends f) b.conditions.start))))
    (all_join _ _ (all_if (lost_line f) (lost_ends f) b.faults.lost)
    (all_join _ _ (all_if (early_line f) (early_ends f) b.faults.early)
    (all_join _ _ (all_if (few_line f) (few_ends f) b.faults.few) (all_if (arm_line f) (arm_ends f) b.arm))))

ends_of : (line : List ℕ) → is_line line ≡ true → EndsLine line
ends_of [] is = absurd (cc)
ends_of (b ∷ line) is = by (is_newline b) refl is (λ more. ends_of line more)
  where
    last : (rest : List ℕ) → is_newline b ≡ true → (length rest == 0) ≡ true → EndsLine (b ∷ rest)
    last [] feed none = ([], ap (λ (c : ℕ). c ∷ []) (eqb-true b 10 feed))
    last (c ∷ rest) feed none = absurd (grind arith)

    by : (feed : Bool) → is_newline b ≡ feed → cond feed (length line == 0) (is_line line) ≡ true
        → (is_line line ≡ true → EndsLine line) → EndsLine (b ∷ line)
    by true feed none ends = last line feed none
    by false feed more ends = (b ∷ (ends more).0, ap (λ (l : List ℕ). b ∷ l) (ends more).1)

test_ends : (a : Answer) → EndsLine (test_line a)
test_ends (answer.Keeps keep) = ends_of (keep_line keep) (keep_line-IsLine keep)
test_ends (answer.Returns back) = ends_of (back_line back) (back_line-IsLine back)

none_ends : EndsLine no_answer
none_ends = (codes "keeps -", refl)

-- What is told.

record Ends (c : Checked) : Type 0 where
  list : AllEnd c.list
  script : AllEnd c.script
  warnings : AllEnd c.warnings
  answer : EndsLine c.answer

both_end : (file script : Named) (list : Medl) (right : Option Script) → Ends (both_checked file script list right)
both_end file script list None =
    record { list = tt; script = script_ends (Some list) script.name script.text; warnings = tt; answer = none_ends }
both_end file script list (Some right) = record {
  list = tt;
  script = tt;
  warnings = rules_end (files_with file script list right) (broken_rules list right);
  answer = test_ends (broken_rules list right).answer;
}

ends_by : (file : Named) (script : Option Named) (found : Option Medl) → Ends (checked_by file script found)
ends_by file None None =
    record { list = list_ends file.name file.text; script = tt; warnings = tt; answer = none_ends }
ends_by file (Some script) None = record {
  list = list_ends file.name file.text;
  script = script_ends None script.name script.text;
  warnings = tt;
  answer = none_ends;
}
ends_by file None (Some list) = record {
  list = tt;
  script = tt;
  warnings = all_if (window_alone list file.name (window_place file.text)) (λ due. (_, refl)) (narrow_window list);
  answer = none_ends;
}
ends_by file (Some script) (Some list) = both_end file script list (read_value (script_from list script.text))

all_end : (c : Checked) → Ends c → AllEnd (lines_with_last c)
unfolding last_line
all_end c ends =
    all_join c.list _ ends.list
    (all_join c.script _ ends.script
    (all_join c.warnings _ ends.warnings (behind (counts_text _ _) c.answer ends.answer, tt)))

pub check_lines-each : (file : Named) (script : Option Named) → AreLines (check_lines file script)
unfolding check_found
check_lines-each file script =
    pieces_each _ (all_end _ (ends_by file script (read_value (list_from file.text))))

-- A last line at least.

pieces_some : (x y : Lines) → 0 < length (pieces_of y) → 0 < length (pieces_of (x ++ y))
pieces_some x y some =
    rw (flat_map-append lines_of x y, length-append (pieces_of x) (pieces_of y)) (omega (arith, some))

last_some : (line : List ℕ) → EndsLine line → 0 < length (pieces_of (line ∷ []))
last_some line ends = rw (append-nil (lines_of line), ends.1) (cut_front ends.0).some

pub last_line-some : (errors warnings : ℕ) (answer : List ℕ) → 0 < length (last_line errors warnings answer)
unfolding last_line
last_line-some errors warnings answer =
    omega (
      arith,
      length-append (codes "errors ") (decimal errors ++ (codes " warnings " ++ (decimal warnings ++ codes " "))),
      length-append (counts_text errors warnings) answer,
    )

some_of : (c : Checked) → Ends c → 0 < length (pieces_of (lines_with_last c))
unfolding last_line
some_of c ends =
    pieces_some c.list _ (pieces_some c.script _ (pieces_some c.warnings _
    (last_some _ (behind (counts_text (length c.list + length c.script) (length c.warnings)) c.answer ends.answer))))

pub check_lines-some : (file : Named) (script : Option Named) → 0 < length (check_lines file script)
unfolding check_found
check_lines-some file script = some_of _ (ends_by file script (read_value (list_from file.text)))

nothing_put : (o : Output) (lines : Lines) → 0 < length lines → WroteFewer o o lines
nothing_put o [] some = absurd (omega (arith, some))
nothing_put o (line ∷ lines) some = fewer-none o line lines

-- Where nothing was written, less was written than `check` has to.
pub check_fewer : (o : Output) (file : Named) (script : Option Named) → WroteFewer o o (check_lines file script)
check_fewer o file script = nothing_put o (check_lines file script) (check_lines-some file script)

-- The status.

abbrev IsOne : ℕ → Type 0
IsOne status = (status ≤ 4) × (status ≢ 2)

one_by : (list script warnings : Lines) → IsOne (status_by_list list script warnings)
one_by (e ∷ list) script warnings = (omega arith, λ two. absurd (omega (arith, two)))
one_by [] (e ∷ script) warnings = (omega arith, λ two. absurd (omega (arith, two)))
one_by [] [] (w ∷ warnings) = (omega arith, λ two. absurd (omega (arith, two)))
one_by [] [] [] = (omega arith, λ two. absurd (omega (arith, two)))

pub check_status-one : (file : Named) (script : Option Named)
    → (check_status file script ≤ 4) × (check_status file script ≢ 2)
check_status-one file script =
    let c = check_found file script in one_by c.list c.script c.warnings
