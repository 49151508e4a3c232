-- What is told of files, beside the answers of the readers and of the test.
use Rattle.std.proofs.Common.{◌≡◌, ℕ, ℤ, ◌≤◌, Bool, true, false, cond, List, [], ◌∷◌}
use Rattle.std.proofs.Common.{◌++◌, length, map, nat_lt, refl, sym, ap, subst, ◌∙◌}
use Rattle.std.proofs.Common.{append_assoc, Option, Some, None, option_map, Result, Ok, Err, inl, inr}
use Rattle.std.specs.Option.{option_or}
use Rattle.std.specs.List.{AllByRecursion}
use Rattle.ttp_base.specs.Text.{Lines}
use Rattle.ttp_world.specs.declared.medl.Medl.{Medl}
use Rattle.ttp_world.specs.declared.script.Script.{Script}
use Rattle.ttp_world.specs.Returning.{has_arm}
use Rattle.medl_text.specs.ListFile.{document_of}
use Rattle.script_text.specs.declared.error.LineFault.{LineFault}
use Rattle.script_text.specs.declared.error.ScriptError.{ScriptError as Refusal}
use Rattle.script_text.specs.declared.error.ScriptError.TheVariants as script_error
use Rattle.script_text.specs.Lines.{lines_of_file}
use Rattle.script_text.specs.ScriptFile.{script_of}
use Rattle.commands.specs.declared.read.FileFault.{FileFault}
use Rattle.commands.specs.declared.read.FileFault.TheVariants as refused
use Rattle.commands.specs.Faults.{line_fault_text, fault_text}
use Rattle.commands.specs.Read.{list_from, script_limit, script_read, script_from}
use Rattle.list_errors.specs.declared.error.Wrong.{Wrong}
use Rattle.list_errors.specs.Errors.{rounds_said, modes_said}
use Rattle.list_places.specs.declared.lines.Place.{Place as ListPlace}
use Rattle.list_places.specs.Places.{found_places, stop_told}
use Rattle.list_words.specs.Words.{list_fault_name}
use Rattle.stop_words.specs.Stops.{stop_words}
use Rattle.script_errors.specs.declared.error.ScriptError.{ScriptError}
use Rattle.script_errors.specs.Agrees.{Agrees, TellsFault}
use Rattle.script_errors.proofs.WholeAgree.{agrees}
use Rattle.broken_arms.specs.declared.arms.BrokenArm.{BrokenArm}
use Rattle.broken_faults.specs.declared.early.EarlyFault.{EarlyFault}
use Rattle.broken_faults.specs.declared.few.TooFew.{TooFew}
use Rattle.broken_faults.specs.declared.losses.LostFrame.{LostFrame}
use Rattle.broken_rules.specs.declared.clocks.PastBound.{PastBound}
use Rattle.broken_rules.specs.declared.clocks.PastBound.TheVariants as past
use Rattle.broken_rules.specs.declared.jumps.Disturbed.{Disturbed}
use Rattle.broken_rules.specs.declared.rules.BrokenRules.{BrokenRules}
use Rattle.broken_rules.specs.declared.start.NoStart.{NoStart}
use Rattle.broken_rules.specs.declared.start.NoStart.TheVariants as why
use Rattle.broken_rules.specs.Clocks.{past_slot}
use Rattle.broken_rules.specs.Conditions.{window_named}
use Rattle.broken_rules.specs.Rules.{RuleSlot, rule_in, first_broken, start_named, broken_rules}
use Rattle.check_text.proofs.FromBelow.{named}
use Rattle.warning_words.specs.Warnings.{RightFiles, line_if, warning_lines}
use Rattle.warning_words.specs.Warnings.{clocks_line, window_line, disturbed_line, no_start_line, lost_line, early_line}
use Rattle.warning_words.specs.Warnings.{few_line, arm_line}
use Rattle.check_text.specs.Check.{Named, Checked, read_value, files_with, both_checked, checked_by, check_found}
use Rattle.check_text.specs.Check.{status_of, status_by_list}
use Rattle.check_text.specs.Laws.{TellsFaultFirst, IsErrorLine, IsFrom, TellsErrorOf, TellsRefusal}
use Rattle.check_text.specs.Laws.{IsRuleLine, TellsRule, ListTold, ScriptTold}
use Rattle.check_text.specs.Laws.{TestTold, AgreesWithReaders}
use Rattle.check_text.specs.Lines.{has_member, list_fault_lines_at, list_fault_lines, script_fault_lines}
use Rattle.check_text.specs.Lines.{script_found, script_line, too_large_line}
use Rattle.check_text.proofs.FaultNames.{begins_as}
use Rattle.check_text.proofs.Told.{none_broken}

-- The list.

no_errors : (r : Result Medl FileFault) (list : Medl) (file : Named) (beside : Option Named) → r ≡ Ok list
    → (checked_by file beside (read_value r)).list ≡ []
no_errors r list file None is = rw is refl
no_errors r list file (Some other) is = rw is (by (read_value (script_from list other.text)))
  where
    by : (right : Option Script) → (both_checked file other list right).list ≡ []
    by None = refl
    by (Some script) = refl

-- the first line on some faults is on the first of them
first_line : (name : List ℕ) (rounds modes : Option ℕ) (stop : List ℕ) (w : Wrong)
    (ws : List Wrong) (places : List ListPlace)
    (fault : List ℕ) → list_fault_name w ≡ fault
    → TellsFaultFirst name fault (list_fault_lines_at name rounds modes stop (w ∷ ws) places)
first_line name rounds modes stop w ws places fault called = record {
  first = _;
  rest = _;
  lines_are = refl;
  error = record { place = _; fault = list_fault_name w; said = _; is = refl };
  is = called;
}

first_told : (name text : List ℕ) (fault : FileFault) → list_from text ≡ Err fault
    → TellsFaultFirst name (fault_text fault) (list_fault_lines name text)
unfolding list_fault_lines
first_told name text fault read =
    let begins = begins_as text fault read in
    let wrongs = begins.first ∷ begins.rest in
    subst
    (λ (ws : List Wrong). TellsFaultFirst name (fault_text fault)
    (list_fault_lines_at name (rounds_said text) (modes_said text)
    (stop_words text (stop_told text ws)) ws (found_places text ws)))
    (sym begins.wrongs_are)
    (first_line name (rounds_said text) (modes_said text)
    (stop_words text (stop_told text wrongs)) begins.first begins.rest
    (found_places text wrongs) (fault_text fault) begins.called)

three_of : (name fault : List ℕ) (lines script warnings : Lines) → TellsFaultFirst name fault lines
    → status_by_list lines script warnings ≡ 3
three_of name fault [] script warnings tells = let none = tells.lines_are in absurd (cc)
three_of name fault (e ∷ lines) script warnings tells = refl

told_list : (file : Named) (beside : Option Named) → ListTold file beside
unfolding check_found
told_list file beside = record {
  right = λ list is. no_errors (list_from file.text) list file beside is;
  wrong = λ fault is.
      subst (λ (r : Result Medl FileFault). status_of (checked_by file beside (read_value r)) ≡ 3) (sym is)
      (three_of file.name (fault_text fault) _ _ _ (first_told file.name file.text fault is));
  first = λ fault is.
      subst
      (λ (r : Result Medl FileFault).
      TellsFaultFirst file.name (fault_text fault) (checked_by file beside (read_value r)).list)
      (sym is) (first_told file.name file.text fault is);
}

-- The script.

-- the error lines of a script
abbrev of_line : (name : List ℕ) (lines : List (List ℕ)) (e : ScriptError) → IsErrorLine name (script_line name lines e)
of_line name lines e = record { place = _; fault = _; said = _; is = refl }

tells_of : (name : List ℕ) (lines : List (List ℕ)) (number : ℕ) (fault : LineFault) (found : List ScriptError)
    → TellsFault number fault found
    → TellsErrorOf name number (line_fault_text fault) (map (script_line name lines) found)
tells_of name lines number fault [] tells = absurd tells
tells_of name lines number fault (e ∷ found) (inl here) =
    inl (of_line name lines e, (here.0, ap line_fault_text here.1))
tells_of name lines number fault (e ∷ found) (inr later) = inr (tells_of name lines number fault found later)

none_before : (name : List ℕ) (lines : List (List ℕ)) (number : ℕ) (found : List ScriptError)
    → AllByRecursion (λ (e : ScriptError). number ≤ e.line) found
    → AllByRecursion (IsFrom name number) (map (script_line name lines) found)
none_before name lines number [] all = tt
none_before name lines number (e ∷ found) all =
    (record { error = of_line name lines e; from = all.0 }, none_before name lines number found all.1)

some_told : (number : ℕ) (fault : LineFault) (found : List ScriptError) → TellsFault number fault found → found ≡ [] → ⊥
some_told number fault [] tells none = tells
some_told number fault (e ∷ found) tells none = absurd (cc)

-- what is told of a script that is refused, by its size and by what the reader says
record IsRefusal (name : List ℕ) (fault : FileFault) (lines : Lines) : Type 0 where
  some : lines ≡ [] → ⊥
  tells : TellsRefusal name fault lines

by_reader : (name text : List ℕ) (lines : List (List ℕ)) (found : List ScriptError) (r : Result Script Refusal)
    (fault : FileFault) → Agrees found r → script_read r ≡ Err fault
    → IsRefusal name fault (map (script_line name lines) found)
by_reader name text lines found (Ok script) fault told read = absurd (cc)
by_reader name text lines found (Err script_error.Memory) fault told read = absurd told
by_reader name text lines found (Err (script_error.Line number why)) fault told read =
    let same : refused.Script (script_error.Line number why) ≡ fault = cc in
    subst (λ (f : FileFault). IsRefusal name f (map (script_line name lines) found)) same
    (record {
      some = λ none. some_told number why found told.tells (no_error found none);
      tells = (tells_of name lines number why found told.tells, none_before name lines number found told.none_before);
    })
  where
    no_error : (es : List ScriptError) → map (script_line name lines) es ≡ [] → es ≡ []
    no_error [] none = refl
    no_error (e ∷ es) none = absurd (cc)

refusal : (list : Medl) (name text : List ℕ) (fault : FileFault) → script_from list text ≡ Err fault
    → IsRefusal name fault (script_fault_lines (Some list) name text)
unfolding script_from script_fault_lines script_found
refusal list name text fault read = by (nat_lt script_limit (length text)) read
  where
    by : (large : Bool) → cond large (Err refused.TooLarge) (script_read (script_of list text)) ≡ Err fault
        → IsRefusal name fault (cond large (too_large_line name ∷ [])
        (map (script_line name (lines_of_file text)) (script_found (Some list) text)))
    by true taken =
        let same : refused.TooLarge ≡ fault = cc in
        subst (λ (f : FileFault). IsRefusal name f (too_large_line name ∷ [])) same
        (record { some = λ none. absurd (cc); tells = tt })
    by false taken =
        by_reader name text (lines_of_file text) (script_found (Some list) text) (script_of list text) fault
        (agrees list (has_member (document_of text)) text) taken

four_of : (lines warnings : Lines) → (lines ≡ [] → ⊥) → status_by_list [] lines warnings ≡ 4
four_of [] warnings some = absurd (some refl)
four_of (e ∷ lines) warnings some = refl

-- what is told of a right list and a script
beside_right : (file other : Named) (list : Medl) → list_from file.text ≡ Ok list
    → check_found file (Some other) ≡ both_checked file other list (read_value (script_from list other.text))
unfolding check_found
beside_right file other list is =
    ap (λ (r : Result Medl FileFault). checked_by file (Some other) (read_value r)) is

told_script : (file other : Named) (list : Medl) → list_from file.text ≡ Ok list → ScriptTold file other list
told_script file other list is =
    let found = beside_right file other list is in
    record {
      right = λ script read.
          ap (λ (c : Checked). c.script) found
          ∙ ap (λ (r : Result Script FileFault). (both_checked file other list (read_value r)).script) read;
      wrong = λ fault read.
          ap status_of found
          ∙ ap (λ (r : Result Script FileFault). status_of (both_checked file other list (read_value r))) read
          ∙ four_of _ _ (refusal list other.name other.text fault read).some;
      tells = λ fault read.
          subst (TellsRefusal other.name fault)
          (sym (ap (λ (c : Checked). c.script) found
          ∙ ap (λ (r : Result Script FileFault). (both_checked file other list (read_value r)).script) read))
          (refusal list other.name other.text fault read).tells;
    }

-- The rules.

on_rule : {X : Type 0} (armed : Bool) (rule : ℕ) (of : X → ℕ) (line : X → List ℕ) (found : Option X)
    (other : Option RuleSlot) (rest : Lines) (r : RuleSlot) → ((x : X) → IsRuleLine armed rule (of x) (line x))
    → (other ≡ Some r → TellsRule armed r rest) → option_or (rule_in rule (option_map of found)) other ≡ Some r
    → TellsRule armed r (line_if line found ++ rest)
on_rule armed rule of line None other rest r each later is = later is
on_rule armed rule of line (Some x) other rest r each later is =
    let here : RuleSlot = record { rule = rule; slot = of x } in
    let same : here ≡ r = cc in
    subst (λ (s : RuleSlot). TellsRule armed s (line x ∷ rest)) same
    (record { first = line x; rest = rest; lines_are = refl; is = each x })

last_rule : {X : Type 0} (armed : Bool) (rule : ℕ) (of : X → ℕ) (line : X → List ℕ) (found : Option X) (r : RuleSlot)
    → ((x : X) → IsRuleLine armed rule (of x) (line x)) → rule_in rule (option_map of found) ≡ Some r
    → TellsRule armed r (line_if line found)
last_rule armed rule of line None r each is = absurd (cc)
last_rule armed rule of line (Some x) r each is =
    let here : RuleSlot = record { rule = rule; slot = of x } in
    let same : here ≡ r = cc in
    subst (λ (s : RuleSlot). TellsRule armed s (line x ∷ [])) same
    (record { first = line x; rest = []; lines_are = refl; is = each x })

clocks_rule : (f : RightFiles) (x : PastBound) → IsRuleLine f.armed 1 (past_slot x) (clocks_line f x)
unfolding clocks_line
clocks_rule f (past.Drifts nodes) =
    record { name = _; place = _; at = None; said = _; is = refl; named = inl refl }
clocks_rule f (past.Errors slot node sum) =
    record { name = _; place = _; at = Some slot; said = _; is = refl; named = inr refl }

window_rule : (f : RightFiles) (due : ℤ) → IsRuleLine f.armed 2 0 (window_line f due)
unfolding window_line
window_rule f due = record { name = _; place = _; at = None; said = _; is = refl; named = inl refl }

disturbed_rule : (f : RightFiles) (d : Disturbed) → IsRuleLine f.armed 3 d.slot (disturbed_line f d)
unfolding disturbed_line
disturbed_rule f d = record { name = _; place = _; at = Some d.slot; said = _; is = refl; named = inr refl }

start_rule : (f : RightFiles) (x : NoStart) → IsRuleLine f.armed 4 0 (no_start_line f x)
unfolding no_start_line
start_rule f why.NoStarter = record { name = _; place = _; at = None; said = _; is = refl; named = inl refl }
start_rule f why.NobodyOn = record { name = _; place = _; at = None; said = _; is = refl; named = inl refl }
start_rule f (why.NoStarterOn starters) =
    record { name = _; place = _; at = None; said = _; is = refl; named = inl refl }
start_rule f (why.Rivals slot first second) =
    record { name = _; place = _; at = None; said = _; is = refl; named = inl refl }
start_rule f (why.Late slot nodes) = record { name = _; place = _; at = None; said = _; is = refl; named = inl refl }

lost_rule : (f : RightFiles) (l : LostFrame) → IsRuleLine f.armed 5 l.slot (lost_line f l)
unfolding lost_line
lost_rule f l = record { name = _; place = _; at = Some l.slot; said = _; is = refl; named = inr refl }

early_rule : (f : RightFiles) (e : EarlyFault) → IsRuleLine f.armed 6 e.slot (early_line f e)
unfolding early_line
early_rule f e = record { name = _; place = _; at = Some e.slot; said = _; is = refl; named = inr refl }

few_rule : (f : RightFiles) (w : TooFew) → IsRuleLine f.armed 7 w.slot (few_line f w)
unfolding few_line
few_rule f w = record { name = _; place = _; at = Some w.slot; said = _; is = refl; named = inr refl }

arm_rule : (f : RightFiles) (a : BrokenArm) → IsRuleLine f.armed 8 a.slot (arm_line f a)
unfolding arm_line
arm_rule f a = record { name = _; place = _; at = Some a.slot; said = _; is = refl; named = inr refl }

window_map : (found : Option ℤ) → window_named found ≡ option_map (λ (due : ℤ). 0) found
window_map None = refl
window_map (Some due) = refl

start_map : (found : Option NoStart) → start_named found ≡ option_map (λ (x : NoStart). 0) found
start_map None = refl
start_map (Some x) = refl

on_window : (f : RightFiles) (found : Option ℤ) (other : Option RuleSlot) (rest : Lines) (r : RuleSlot)
    → (other ≡ Some r → TellsRule f.armed r rest) → option_or (rule_in 2 (window_named found)) other ≡ Some r
    → TellsRule f.armed r (line_if (window_line f) found ++ rest)
on_window f found other rest r later is =
    on_rule f.armed 2 (λ (due : ℤ). 0) (window_line f) found other rest r (window_rule f) later
    (subst (λ (s : Option ℕ). option_or (rule_in 2 s) other ≡ Some r) (window_map found) is)

on_start : (f : RightFiles) (found : Option NoStart) (other : Option RuleSlot) (rest : Lines) (r : RuleSlot)
    → (other ≡ Some r → TellsRule f.armed r rest) → option_or (rule_in 4 (start_named found)) other ≡ Some r
    → TellsRule f.armed r (line_if (no_start_line f) found ++ rest)
on_start f found other rest r later is =
    on_rule f.armed 4 (λ (x : NoStart). 0) (no_start_line f) found other rest r (start_rule f) later
    (subst (λ (s : Option ℕ). option_or (rule_in 4 s) other ≡ Some r) (start_map found) is)

-- lines of which the first are a list in two parts
parted : (armed : Bool) (r : RuleSlot) (first others rest : Lines) → TellsRule armed r (first ++ (others ++ rest))
    → TellsRule armed r ((first ++ others) ++ rest)
parted armed r first others rest = subst (TellsRule armed r) (sym (append_assoc first others rest))

first_line_told : (f : RightFiles) (b : BrokenRules) (r : RuleSlot) → first_broken b ≡ Some r
    → TellsRule f.armed r (warning_lines f b)
unfolding warning_lines
first_line_told f b r is =
    parted f.armed r (line_if (clocks_line f) b.conditions.clocks) _ _
    (on_rule f.armed 1 past_slot (clocks_line f) b.conditions.clocks _ _ r (clocks_rule f) (λ is2.
    parted f.armed r (line_if (window_line f) b.conditions.window) _ _
    (on_window f b.conditions.window _ _ r (λ is3.
    parted f.armed r (line_if (disturbed_line f) b.conditions.disturbed) _ _
    (on_rule f.armed 3 (λ (d : Disturbed). d.slot) (disturbed_line f)
    b.conditions.disturbed _ _ r (disturbed_rule f) (λ is4.
    on_start f b.conditions.start _ _ r (λ is5.
    on_rule f.armed 5 (λ (l : LostFrame). l.slot) (lost_line f) b.faults.lost _ _ r (lost_rule f) (λ is6.
    on_rule f.armed 6 (λ (e : EarlyFault). e.slot) (early_line f) b.faults.early _ _ r (early_rule f) (λ is7.
    on_rule f.armed 7 (λ (w : TooFew). w.slot) (few_line f) b.faults.few _ _ r (few_rule f) (λ is8.
    last_rule f.armed 8 (λ (a : BrokenArm). a.slot) (arm_line f) b.arm r (arm_rule f) is8) is7) is6) is5) is4) is3))
    is2)) is)

zero_of : (warnings : Lines) → [] ≡ warnings → status_by_list [] [] warnings ≡ 0
zero_of [] none = refl
zero_of (w ∷ warnings) none = absurd (cc)

one_of : (armed : Bool) (r : RuleSlot) (warnings : Lines)
    → TellsRule armed r warnings → status_by_list [] [] warnings ≡ 1
one_of armed r [] tells = let none = tells.lines_are in absurd (cc)
one_of armed r (w ∷ warnings) tells = refl

told_test : (file other : Named) (list : Medl) (script : Script) → list_from file.text ≡ Ok list
    → script_from list other.text ≡ Ok script → TestTold file other list script
told_test file other list script is read =
    let b = broken_rules list script in
    let f = files_with file other list script in
    let found : check_found file (Some other) ≡ both_checked file other list (Some script) =
    beside_right file other list is
    ∙ ap (λ (r : Result Script FileFault). both_checked file other list (read_value r)) read in
    record {
      answer = ap (λ (c : Checked). c.answer) found;
      kept = λ none. ap status_of found ∙ zero_of (warning_lines f b) (none_broken f b (named list script ∙ none));
      broken = λ r says.
          let tells = first_line_told f b r (named list script ∙ says) in (
            ap status_of found ∙ one_of (has_arm script) r (warning_lines f b) tells,
            subst (TellsRule (has_arm script) r) (sym (ap (λ (c : Checked). c.warnings) found)) tells,
          );
    }

-- All of it.

pub is_told : (file : Named) (beside : Option Named) → AgreesWithReaders file beside
is_told file beside = record {
  list = told_list file beside;
  script = λ list other same is. told_script file other list is;
  test = λ list script other same is read. told_test file other list script is read;
}
