-- A slot of a run within the trace of the whole: where a text goes on or departs in the slot, it does in the trace.
use Rattle.trace_check.proofs.Words.{◌≡◌, ℕ, zero, suc, ◌+◌, ◌-◌, ◌<◌, ◌≤◌, List, [], ◌∷◌, ◌++◌, length, take, drop}
use Rattle.trace_check.proofs.Words.{get_or, refl, ap, sym, subst, ◌∙◌, arith, append_assoc, length-append, concat}
use Rattle.trace_check.proofs.Words.{get_or-append-add, concat-append, get_or-append, take-append_seam}
use Rattle.trace_check.proofs.Words.{get_or-append_seam, Lines, Medl, Script, IsLegal, IsLegalRun, IsValid}
use Rattle.trace_check.proofs.Words.{IsValidScript, trace_head, history_lines, test_lines, trace_lines, SlotNumbers}
use Rattle.trace_check.proofs.Words.{Numbers, world, legal-none, legal-older, BeginsWith, Departs, DepartsAfter}
use Rattle.trace_check.proofs.Words.{IsTraceAnd, IsAmissAt, lines_of_slot}
use Rattle.std.proofs.Common.{append-nil}
use Rattle.std.proofs.lemmas.List.{take-append-le, length-drop}
use Rattle.std.proofs.Math.Seq.{take-append-add}
use Rattle.ttp_world.proofs.LegalRuns.{LegalWhole, legal-whole}
use Rattle.trace_check.specs.Following.{GoesOnBySlot}
use Rattle.trace_check.proofs.Counts.{lines_of_slots, lines_in, length-history_lines, length-legal_slot}
use Rattle.trace_check.proofs.Told.{front-same, rest-same, one_run}

-- the first line of a trace and those of the slots of some numbers
abbrev pub lines_so_far : Medl → Script → Numbers → Lines
lines_so_far list script numbers =
    trace_head list script ∷ history_lines list script (world list script numbers) numbers

-- The lines of a run begin with those of its first slots.

history_lines-first : (list : Medl) (script : Script) (whole : Numbers) (more : ℕ)
    → (later : Lines)
    × (history_lines list script (world list script whole) whole
    ≡ history_lines list script (world list script (drop more whole)) (drop more whole) ++ later)
history_lines-first list script whole zero = ([], sym (append-nil _))
history_lines-first list script [] (suc more) = ([], refl)
history_lines-first list script (new ∷ numbers) (suc more) =
    let first = history_lines-first list script numbers more in
    let here = lines_of_slot list script new numbers in
    let front = history_lines list script (world list script (drop more numbers)) (drop more numbers) in
    (first.0 ++ here, ap (λ (lines : Lines). lines ++ here) first.1 ∙ append_assoc front first.0 here)

pub trace-cut : (list : Medl) (script : Script) (whole : Numbers) (more : ℕ) (new : SlotNumbers) (numbers : Numbers)
    → drop more whole ≡ new ∷ numbers
    → (later : Lines)
    × (trace_lines list script whole
    ≡ lines_so_far list script numbers ++ (lines_of_slot list script new numbers ++ later))
trace-cut list script whole more new numbers older =
    let first = history_lines-first list script whole more in
    let front = history_lines list script (world list script numbers) numbers in
    let here = lines_of_slot list script new numbers in
    let tests = test_lines list script in
    let head = trace_head list script in
    let all : history_lines list script (world list script whole) whole ≡ (front ++ here) ++ first.0 =
    first.1
    ∙ ap (λ (ns : Numbers). history_lines list script (world list script ns) ns ++ first.0) older in (
      first.0 ++ tests,
      ap (λ (lines : Lines). head ∷ (lines ++ tests)) all
          ∙ ap (λ (lines : Lines). head ∷ lines)
          (append_assoc (front ++ here) first.0 tests ∙ append_assoc front here (first.0 ++ tests)),
    )

-- Numbers of a whole run.

pub legal-drop : (list : Medl) (script : Script) (whole : Numbers) (more : ℕ) → IsLegal list script whole
    → IsLegal list script (drop more whole)
legal-drop list script whole zero legal = legal
legal-drop list script [] (suc more) legal = legal
legal-drop list script (new ∷ numbers) (suc more) legal =
    legal-drop list script numbers more (legal-older list script new numbers legal)

newest_of : {X : Type 0} (xs : List X) (n : ℕ) → length xs ≡ suc n
    → (x : X) × ((others : List X) × (xs ≡ x ∷ others))
newest_of [] n long = absurd (omega (arith, long))
newest_of (x ∷ xs) n long = (x, (xs, refl))

-- A slot.

pub goes_on-begins : (list : Medl) (script : Script) (numbers : Numbers) (text before rest : List ℕ)
    → BeginsWith text (lines_so_far list script numbers) before → (on : GoesOnBySlot list script numbers before rest)
    → BeginsWith text (lines_so_far list script (on.new ∷ numbers)) rest
goes_on-begins list script numbers text before rest begins on =
    let front = lines_so_far list script numbers in
    let here = lines_of_slot list script on.new numbers in
    begins ∙ ap (λ (bytes : List ℕ). concat front ++ bytes) on.begins
    ∙ sym (append_assoc (concat front) (concat here) rest)
    ∙ ap (λ (bytes : List ℕ). bytes ++ rest) (sym (concat-append front here))

module _ (list : Medl) (script : Script) (valid : IsValid list) (valid_script : IsValidScript list script) where
  -- first lines of a slot within those of the whole
  take-cut : (front here later : Lines) (right : ℕ) → right < length here
      → take (length front + right) (front ++ (here ++ later)) ≡ front ++ take right here
  take-cut front here later right within =
      take-append-add front (here ++ later) right
      ∙ ap (λ (lines : Lines). front ++ lines) (take-append-le right here later (omega arith))

  line-cut : (front here later : Lines) (right : ℕ) → right < length here
      → get_or (front ++ (here ++ later)) (length front + right) [] ≡ get_or here right []
  line-cut front here later right within =
      get_or-append-add front (here ++ later) right [] ∙ get_or-append here later [] right within

  length-so_far : (numbers : Numbers) → IsLegal list script numbers
      → length (lines_so_far list script numbers) ≡ suc (lines_of_slots list script (length numbers))
  length-so_far numbers legal = ap suc (length-history_lines list script numbers legal)

  -- another run of which the first lines are those, up to some of a slot, has the same numbers before the slot
  same_before : (numbers olds : Numbers) (one other : Lines) → IsLegal list script numbers
      → IsLegal list script olds → length olds ≡ length numbers → length numbers ≤ script.slots
      → lines_so_far list script olds ++ other ≡ lines_so_far list script numbers ++ one
      → (olds ≡ numbers) × (other ≡ one)
  same_before numbers olds one other legal legal_too long few same =
      let many = length-so_far olds legal_too ∙ ap (λ n. suc (lines_of_slots list script n)) long
      ∙ sym (length-so_far numbers legal) in
      let fronts = front-same (lines_so_far list script olds)
      (lines_so_far list script numbers) other one many same in (
        one_run list script olds numbers valid valid_script long (omega (arith, long, few)) legal_too legal
            (ap (λ (lines : Lines). drop 1 lines) fronts),
        rest-same (lines_so_far list script olds) (lines_so_far list script numbers) other one many same,
      )

  other-wrong : (numbers : Numbers) (before rest : List ℕ) → length numbers < script.slots
      → IsLegal list script numbers → (departs : DepartsAfter list script numbers before rest) → (whole : Numbers)
      (later : Lines)
      → trace_lines list script whole
      ≡ lines_so_far list script numbers ++ (lines_of_slot list script departs.new numbers ++ later)
      → (others : Numbers) → IsLegalRun list script others
      → take (length (lines_so_far list script numbers) + departs.right) (trace_lines list script others)
      ≡ take (length (lines_so_far list script numbers) + departs.right) (trace_lines list script whole)
      → (more : List ℕ)
      → ¬ (rest
      ≡ get_or (trace_lines list script others) (length (lines_so_far list script numbers) + departs.right) [] ++ more)
  other-wrong numbers before rest less legal departs whole later cut others run same more = λ is.
      departs.wrong o more (subst (λ (ns : Numbers). IsLegal list script (o ∷ ns)) both.0 legal_too)
      (ap (λ (ns : Numbers). take right (lines_of_slot list script o ns)) (sym both.0) ∙ both.1)
      (is ∙ ap (λ (line : List ℕ). line ++ more)
      (line ∙ ap (λ (ns : Numbers). get_or (lines_of_slot list script o ns) right []) both.0))
    where
      more_slots : ℕ
      more_slots = script.slots - suc (length numbers)

      right : ℕ
      right = departs.right

      front : Lines
      front = lines_so_far list script numbers

      here : Lines
      here = lines_of_slot list script departs.new numbers

      newest : (o : SlotNumbers) × ((olds : Numbers) × (drop more_slots others ≡ o ∷ olds))
      newest =
          newest_of (drop more_slots others) (length numbers)
          (omega (arith, length-drop more_slots others, run.count, less))

      o : SlotNumbers
      o = newest.0

      olds : Numbers
      olds = newest.1.0

      legal_too : IsLegal list script (o ∷ olds)
      legal_too = subst (IsLegal list script) newest.1.1 (legal-drop list script others more_slots run.legal)

      older_too : IsLegal list script olds
      older_too = legal-older list script o olds legal_too

      long : length olds ≡ length numbers
      long = omega (arith, ap length newest.1.1, length-drop more_slots others, run.count, less)

      front_too : Lines
      front_too = lines_so_far list script olds

      here_too : Lines
      here_too = lines_of_slot list script o olds

      cut_too : (later_too : Lines) × (trace_lines list script others ≡ front_too ++ (here_too ++ later_too))
      cut_too = trace-cut list script others more_slots o olds newest.1.1

      fronts : length front_too ≡ length front
      fronts =
          length-so_far olds older_too ∙ ap (λ n. suc (lines_of_slots list script n)) long
          ∙ sym (length-so_far numbers legal)

      within_too : right < length here_too
      within_too =
          omega (
            arith,
            departs.within,
            length-legal_slot list script departs.new numbers departs.legal,
            length-legal_slot list script o olds legal_too,
            ap (lines_in list script) long,
          )

      first_lines : front_too ++ take right here_too ≡ front ++ take right here
      first_lines =
          sym (take-cut front_too here_too cut_too.0 right within_too)
          ∙ ap (λ n. take (n + right) (front_too ++ (here_too ++ cut_too.0))) fronts
          ∙ ap (λ (lines : Lines). take (length front + right) lines) (sym cut_too.1)
          ∙ same
          ∙ ap (λ (lines : Lines). take (length front + right) lines) cut
          ∙ take-cut front here later right departs.within

      both : (olds ≡ numbers) × (take right here_too ≡ take right here)
      both =
          same_before numbers olds (take right here) (take right here_too) legal older_too long (omega (arith, less))
          first_lines

      line : get_or (trace_lines list script others) (length front + right) [] ≡ get_or here_too right []
      line =
          ap (λ (lines : Lines). get_or lines (length front + right) []) cut_too.1
          ∙ ap (λ n. get_or (front_too ++ (here_too ++ cut_too.0)) (n + right) []) (sym fronts)
          ∙ line-cut front_too here_too cut_too.0 right within_too

  pub departs-amiss : (numbers : Numbers) (text before rest : List ℕ) → length numbers < script.slots
      → IsLegal list script numbers → BeginsWith text (lines_so_far list script numbers) before
      → DepartsAfter list script numbers before rest → IsAmissAt list script text rest
  departs-amiss numbers text before rest less legal begins departs = record {
    numbers = whole.whole;
    legal = record { count = whole.slots ∙ omega (arith, less); legal = whole.legal };
    right = length front + right;
    within =
        omega (
          arith,
          departs.within,
          ap length cut.1,
          length-append front (here ++ cut.0),
          length-append here cut.0,
        );
    begins =
        begins
        ∙ ap (λ (bytes : List ℕ). concat front ++ bytes) departs.begins
        ∙ sym (append_assoc (concat front) (concat (take right here)) rest)
        ∙ ap (λ (bytes : List ℕ). bytes ++ rest)
        (sym (concat-append front (take right here))
        ∙ ap concat (sym (take-cut front here cut.0 right departs.within)
        ∙ ap (λ (lines : Lines). take (length front + right) lines) (sym cut.1)));
    wrong = λ others more run same.
        other-wrong numbers before rest less legal departs whole.whole cut.0 cut.1 others run same more;
  }
    where
      more_slots : ℕ
      more_slots = script.slots - suc (length numbers)

      whole : LegalWhole list script (departs.new ∷ numbers) more_slots
      whole = legal-whole list script (departs.new ∷ numbers) more_slots departs.legal

      right : ℕ
      right = departs.right

      front : Lines
      front = lines_so_far list script numbers

      here : Lines
      here = lines_of_slot list script departs.new numbers

      cut : (later : Lines) × (trace_lines list script whole.whole ≡ front ++ (here ++ later))
      cut = trace-cut list script whole.whole more_slots departs.new numbers whole.older

  -- The first line and the last ones.

  pub head-amiss : (text : List ℕ) → ((more : List ℕ) → ¬ (text ≡ trace_head list script ++ more))
      → IsAmissAt list script text text
  head-amiss text wrong =
      let whole = legal-whole list script [] script.slots (legal-none list script) in
      record {
        numbers = whole.whole;
        legal = record { count = whole.slots ∙ omega arith; legal = whole.legal };
        right = 0;
        within = omega arith;
        begins = refl;
        wrong = λ others more run same. wrong more;
      }

  pub tests-amiss : (numbers : Numbers) (text before rest : List ℕ) → IsLegalRun list script numbers
      → BeginsWith text (lines_so_far list script numbers) before → Departs before (test_lines list script) rest
      → IsAmissAt list script text rest
  tests-amiss numbers text before rest run begins departs = record {
    numbers = numbers;
    legal = run;
    right = length front + length right;
    within =
        omega (
          arith,
          length-append front tests,
          ap length departs.parts,
          length-append right (departs.due ∷ departs.others),
        );
    begins =
        begins
        ∙ ap (λ (bytes : List ℕ). concat front ++ bytes) departs.begins
        ∙ sym (append_assoc (concat front) (concat right) rest)
        ∙ ap (λ (bytes : List ℕ). bytes ++ rest) (sym (concat-append front right))
        ∙ ap (λ (lines : Lines). concat lines ++ rest) (sym first_lines);
    wrong = λ others more run_too same is.
        let front_too = lines_so_far list script others in
        let fronts : length front ≡ length front_too = length-so_far numbers run.legal
        ∙ ap (λ n. suc (lines_of_slots list script n)) (run.count ∙ sym run_too.count)
        ∙ sym (length-so_far others run_too.legal) in
        let due : get_or (trace_lines list script others) (length front + length right) [] ≡ departs.due =
        ap (λ n. get_or (front_too ++ tests) (n + length right) []) fronts
        ∙ get_or-append-add front_too tests (length right) []
        ∙ ap (λ (lines : Lines). get_or lines (length right) []) departs.parts
        ∙ get_or-append_seam right departs.due departs.others [] in
        departs.wrong more (is ∙ ap (λ (line : List ℕ). line ++ more) due);
  }
    where
      front : Lines
      front = lines_so_far list script numbers

      tests : Lines
      tests = test_lines list script

      right : Lines
      right = departs.right

      first_lines : take (length front + length right) (front ++ tests) ≡ front ++ right
      first_lines =
          take-append-add front tests (length right)
          ∙ ap (λ (lines : Lines). front ++ take (length right) lines) departs.parts
          ∙ ap (λ (lines : Lines). front ++ lines) (take-append_seam right (departs.due ∷ departs.others))

  pub tests-trace : (numbers : Numbers) (text before rest : List ℕ) → IsLegalRun list script numbers
      → BeginsWith text (lines_so_far list script numbers) before → BeginsWith before (test_lines list script) rest
      → IsTraceAnd list script text rest
  tests-trace numbers text before rest run begins tests = record {
    numbers = numbers;
    legal = run;
    begins =
        begins ∙ ap (λ (bytes : List ℕ). concat front ++ bytes) tests
        ∙ sym (append_assoc (concat front) (concat (test_lines list script)) rest)
        ∙ ap (λ (bytes : List ℕ). bytes ++ rest) (sym (concat-append front (test_lines list script)));
  }
    where
      front : Lines
      front = lines_so_far list script numbers
