-- The whole text of a run: the first line, the slots and the lines of the tests.
use Rattle.std.proofs.Common.{◌≡◌, ℕ, zero, suc, ◌+◌, ◌*◌, ◌≤◌, Bool, true, false, cond, ◌&&◌, ◌||◌, []}
use Rattle.std.proofs.Common.{◌∷◌, ◌++◌, All, length, Some, None, refl, ap, ◌∙◌, arith, append-nil, length-append}
use Rattle.std.specs.Prelude.{◌==◌, Ok}
use Rattle.std.specs.List.{concat}
use Rattle.std.proofs.lemmas.Bool.{eq-eqb, le-leb}
use Rattle.ttp_base.specs.Text.{Lines, lines_of}
use Rattle.ttp_base.proofs.Lines.{lines_of-concat}
use Rattle.ttp_world.specs.declared.medl.Medl.{Medl}
use Rattle.ttp_world.specs.declared.script.Script.{Script}
use Rattle.ttp_world.specs.Hypothesis.{keeps}
use Rattle.ttp_world.specs.Legal.{IsLegal}
use Rattle.ttp_world.specs.Medl.{IsValid, member_bytes}
use Rattle.ttp_world.specs.Returning.{has_arm, returns}
use Rattle.ttp_world.specs.Script.{IsValidScript}
use Rattle.ttp_world.specs.Trace.{back_line, back_lines_if, history_lines, keep_line}
use Rattle.ttp_world.specs.Trace.{test_lines, trace_head, trace_lines}
use Rattle.ttp_world.specs.World.{Numbers, world}
use Rattle.ttp_world.proofs.Lists.{nodes-most}
use Rattle.ttp_world.proofs.TraceLines.{trace_lines-each}
use Rattle.ttp_world.proofs.Worlds.{length-world, row_of_world}
use Rattle.line_reader.specs.declared.trace_line.TraceLine.TheVariants as line
use Rattle.line_reader.specs.TraceLines.{FitsHeader}
use Rattle.line_reader.specs.WorldLines.{head_of}
use Rattle.lab_laws.proofs.FromBelow.{back-value, keep-value, value-again}
use Rattle.whole_trace.specs.declared.due.Due.TheVariants as due
use Rattle.whole_trace.specs.declared.due.Outline.{Outline}
use Rattle.whole_trace.specs.Due.{is_head, lies_within}
use Rattle.whole_trace.specs.Whole.{SlotsFrom, WholeTrace, judged, no_slots, value_of, whole_in, whole_or_line}
use Rattle.lab_laws.specs.TakenTrace.{IsOfBytes, back_if, head_of_run, slot_listed, slots_listed}
use Rattle.lab_laws.specs.TakenTrace.{trace_of_run}
use Rattle.lab_laws.proofs.Reading.{EndsWith, one_line}
use Rattle.lab_laws.proofs.SlotsTaken.{behind, fronted, history-end}
use Rattle.lab_laws.proofs.TestBounds.{keeps-fits, returns-fits, valid-slots}

-- The first line.

within-is : (low high n : ℕ) → low ≤ n → n ≤ high → lies_within low high n ≡ true
within-is low high n above few = λ i. le-leb low n above i && le-leb n high few i

versions : (v n : ℕ) → 1 ≤ v → v ≤ 2 → 4 ≤ n → n ≤ 8 * member_bytes (v == 2)
    → (((v == 1) && lies_within 4 16 n) || ((v == 2) && lies_within 4 24 n)) ≡ true
versions zero n some few nodes most = absurd (omega (arith, some))
versions (suc zero) n some few nodes most = λ i.
    ((1 == 1) && within-is 4 16 n nodes most i) || ((1 == 2) && lies_within 4 24 n)
versions (suc (suc zero)) n some few nodes most = λ i.
    ((2 == 1) && lies_within 4 16 n) || ((2 == 2) && within-is 4 24 n nodes most i)
versions (suc (suc (suc v))) n some few nodes most = absurd (omega (arith, few))

head-is : (list : Medl) (script : Script) → IsValid list → IsValidScript list script
    → is_head (head_of_run list script) ≡ true
head-is list script valid valid_script =
    let slots = valid_script.slots in
    let nodes = valid.count in λ i.
    versions list.version (length list.slots) valid.version.0 valid.version.1 nodes.0 nodes.1 i
    && within-is 1 64 list.rounds valid.rounds.0 valid.rounds.1 i
    && within-is 1 20000 script.slots slots.0 slots.1 i

head-value : (list : Medl) (script : Script) → IsValid list → IsValidScript list script
    → value_of (trace_head list script) ≡ Some (head_of list script)
head-value list script valid valid_script =
    let fits : FitsHeader list.version (length list.slots) list.rounds script.slots list.schedule = record {
      version = omega (arith, valid.version);
      nodes = omega (arith, nodes-most list valid);
      rounds = omega (arith, valid.rounds);
      slots = omega (arith, valid_script.slots);
      schedule = omega (arith, valid.schedule);
    } in
    value-again (head_of list script) fits

-- The lines of the tests.
module _ (list : Medl) (script : Script) (valid : IsValid list) (valid_script : IsValidScript list script) where
  abbrev outline : Bool → Outline
  outline arms = record { head = head_of_run list script; keep = keeps list script; back = back_if list script arms }

  back-end : (arms : Bool) → EndsWith (due.Back (head_of_run list script) (keeps list script))
      (back_lines_if list script arms) (outline arms) no_slots
  back-end true =
      let head = head_of_run list script in
      let k = keeps list script in
      let b = returns list script in
      let fits = returns-fits list script valid (valid-slots list script valid_script) in
      one_line (due.Back head k) (due.Nothing head k b) (line.Back b) (back_line b) [] (outline true) no_slots
      (ap value_of (back-value b) ∙ value-again (line.Back b) fits.fits)
      (ap (λ (c : Bool). cond c (Some (due.Nothing head k b)) None) fits.is) (record { judges = refl; slots = refl })
  back-end false = record { judges = refl; slots = refl }

  tests-end : (last : ℕ) (has_read : Bool) → last + 1 ≡ script.slots
      → EndsWith (due.Host (head_of_run list script) last has_read) (test_lines list script)
      (outline (has_arm script)) no_slots
  tests-end last has_read all =
      let head = head_of_run list script in
      let k = keeps list script in
      let fits = keeps-fits list script valid (valid-slots list script valid_script) in
      one_line (due.Host head last has_read) (due.Back head k) (line.Keep k) (keep_line k)
      (back_lines_if list script (has_arm script)) (outline (has_arm script)) no_slots
      (ap value_of (keep-value k) ∙ value-again (line.Keep k) fits.fits)
      (λ i. cond (eq-eqb (last + 1) script.slots all i && fits.is i) (Some (due.Back head k)) None)
      (back-end (has_arm script))

  behind-end : (numbers : Numbers) (has_read : Bool) → length numbers ≡ script.slots
      → EndsWith (behind (head_of_run list script) (world list script numbers) has_read) (test_lines list script)
      (outline (has_arm script)) no_slots
  behind-end [] has_read all = absurd (omega (arith, all, valid_script.slots))
  behind-end (new ∷ numbers) has_read all =
      tests-end (length (world list script numbers)) has_read (omega (arith, all, length-world list script numbers))

  -- The whole.

  pub whole-taken : (numbers : Numbers) → All IsOfBytes script.events → length numbers ≡ script.slots
      → IsLegal list script numbers
      → whole_in (concat (trace_lines list script numbers)) ≡ Ok (trace_of_run list script numbers)
  whole-taken numbers bytes count legal =
      let head = head_of_run list script in
      let o = outline (has_arm script) in
      let lines = trace_lines list script numbers in
      let history = history_lines list script (world list script numbers) numbers in
      let listed = slots_listed list script (world list script numbers) numbers in
      let rest = history-end list script valid valid_script bytes o numbers (test_lines list script) []
      (omega (arith, count)) legal (λ b. behind-end numbers b count) in
      let all = one_line due.First (due.Node head 0 0) (head_of list script) (trace_head list script)
      (history ++ test_lines list script) o (fronted [] (listed ++ [])) (head-value list script valid valid_script)
      (ap (λ (c : Bool). cond c (Some (due.Node head 0 0)) None) (head-is list script valid valid_script)) rest in
      let cut : lines_of (concat lines) ≡ lines = lines_of-concat lines (trace_lines-each list script numbers) in
      let made = λ (from : SlotsFrom). (let w : WholeTrace = record {
        head = head;
        slots = from.slots;
        keep = keeps list script;
        back = back_if list script (has_arm script);
      } in w) in
      ap (λ (ls : Lines). whole_or_line ls (judged due.First ls)) cut ∙ ap (whole_or_line lines) all.judges
      ∙ ap (λ (from : SlotsFrom). Ok (made from)) rest.slots
      ∙ ap (λ ss. Ok (made (fronted [] ss))) (append-nil listed)

-- It has as many slots as there are numbers.
pub slots-counted : (list : Medl) (script : Script) (numbers : Numbers)
    → length (slots_listed list script (world list script numbers) numbers) ≡ length numbers
slots-counted list script [] = refl
slots-counted list script (new ∷ numbers) =
    let before = world list script numbers in
    let row = row_of_world list script new numbers in
    omega (
      arith,
      length-append (slots_listed list script before numbers) (slot_listed list script row before new ∷ []),
      slots-counted list script numbers,
    )
