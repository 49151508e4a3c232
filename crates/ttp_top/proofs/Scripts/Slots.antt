-- What the lines of a slot add to those that were written.
use Rattle.ttp_top.proofs.Terms.{◌≤◌, [], ◌∷◌, sym, subst, arith, Output, WroteLines, CutShort, Wrote-join}
use Rattle.ttp_top.proofs.Terms.{CutShort-after, Medl, Script, IsLegal, IsValid, IsValidScript, trace_head, slot_lines}
use Rattle.ttp_top.proofs.Terms.{run_lines, Numbers, world, legal-none, next_row, HasDoneSlot, ClusterView}
use Rattle.ttp_top.proofs.Terms.{ClusterStandsFor, WroteOf, CutOf, fronts, traces, HasWritten}
use Rattle.trace_text.specs.ReportText.{report_lines}
use Rattle.cluster_run.specs.Report.{report_numbers}
use Rattle.cluster_run.specs.Texts.{TellsNext}
use Rattle.ttp_top.proofs.FromBelow.{tells_next}
use Rattle.ttp_top.proofs.Scripts.Fronts.{wrote_front, cut_in}

-- what is so of list and script before the slot is so after it
pub after : {old new : ClusterView} (P : Medl → Script → Type 0) → HasDoneSlot old new → P old.list old.script
    → P new.list new.script
after {old} {new} P s before =
    subst (λ (script : Script). P new.list script) (sym s.script)
    (subst (λ (list : Medl). P list old.script) (sym s.list) before)

before_it : {old new : ClusterView} (P : Medl → Script → Type 0) → HasDoneSlot old new → P new.list new.script
    → P old.list old.script
before_it {old} {new} P s now =
    subst (λ (script : Script). P old.list script) s.script (subst (λ (list : Medl). P list new.script) s.list now)

-- the report may be written, and its text is the slot's
pub tells : (old new : ClusterView) → HasDoneSlot old new → (numbers : Numbers) → ClusterStandsFor old numbers
    → IsLegal old.list old.script numbers → TellsNext new.list new.script numbers new.report
tells old new s numbers stands legal =
    tells_next new numbers (after (λ list script. IsValid list) s s.valid)
    (after IsValidScript s s.valid_script) s.bytes (s.steps numbers stands)
    (after (λ list script. IsLegal list script numbers) s legal)

-- once it is written, the trace is written so far
pub slot_written : (old new : ClusterView) → HasDoneSlot old new → (first before now : Output)
    → WroteLines before now (report_lines new.list new.report) → HasWritten first before old
    → HasWritten first now new
slot_written old new s first before now wrote w =
    let told = tells old new s w.numbers w.stands w.legal in
    let next = s.steps w.numbers w.stands in
    let slot = slot_lines new.list new.script (next_row new.list new.script (report_numbers new.report) w.numbers)
    (world new.list new.script w.numbers) (report_numbers new.report) in
    record {
      numbers = report_numbers new.report ∷ w.numbers;
      stands = next.stands;
      legal = next.legal (after (λ list script. IsLegal list script w.numbers) s w.legal);
      lines =
          Wrote-join first before now (run_lines new.list new.script w.numbers) slot
          (after (λ list script. WroteLines first before (run_lines list script w.numbers)) s w.lines)
          (subst (WroteLines before now) told.lines wrote);
    }

-- A slot's lines that are cut short leave one of the traces cut short.
pub slot_cut : (old new : ClusterView) → HasDoneSlot old new → (first before now : Output)
    → CutShort before now (report_lines new.list new.report) → HasWritten first before old
    → CutOf (traces old.list old.script) first now
slot_cut old new s first before now cut w =
    let told = tells old new s w.numbers w.stands w.legal in
    let next = s.steps w.numbers w.stands in
    let numbers = report_numbers new.report ∷ w.numbers in
    let slot = slot_lines new.list new.script (next_row new.list new.script (report_numbers new.report) w.numbers)
    (world new.list new.script w.numbers) (report_numbers new.report) in
    let all = CutShort-after first before now (run_lines new.list new.script w.numbers) slot
    (after (λ list script. WroteLines first before (run_lines list script w.numbers)) s w.lines)
    (subst (CutShort before now) told.lines cut) in
    let legal = next.legal (after (λ list script. IsLegal list script w.numbers) s w.legal) in
    cut_in old.list old.script first now s.valid s.valid_script numbers
    (before_it (λ list script. IsLegal list script numbers) s legal)
    (omega (arith, next.stands.done, s.done, s.within))
    (before_it (λ list script. CutShort first now (run_lines list script numbers)) s all)

-- where memory is refused for a slot, what was written begins a trace
pub slot_refused : (c : ClusterView) (first now : Output) → IsValid c.list → IsValidScript c.list c.script
    → c.done ≤ c.script.slots → HasWritten first now c → WroteOf (fronts c.list c.script) first now
slot_refused c first now valid valid_script few w =
    wrote_front c.list c.script first now valid valid_script w.numbers w.legal (omega (arith, w.stands.done, few))
    w.lines

-- The first line.

pub head_written : (c : ClusterView) (before now : Output) → ClusterStandsFor c []
    → WroteLines before now (trace_head c.list c.script ∷ []) → HasWritten before now c
head_written c before now stands wrote =
    record { numbers = []; stands = stands; legal = legal-none c.list c.script; lines = wrote }

pub head_cut : (list : Medl) (script : Script) (before now : Output) → IsValid list → IsValidScript list script
    → CutShort before now (trace_head list script ∷ []) → CutOf (traces list script) before now
head_cut list script before now valid valid_script cut =
    cut_in list script before now valid valid_script [] (legal-none list script) (omega arith) cut
