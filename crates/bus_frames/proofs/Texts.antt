-- The text of frames, slot by slot, as it is written beside the trace that is read.
use Rattle.std.proofs.Common.{◌≡◌, ℕ, zero, suc, ◌+◌, ◌-◌, ◌<◌, ◌≤◌, List, []}
use Rattle.std.proofs.Common.{◌∷◌, ◌++◌, drop, refl, ap, sym, subst, ◌∙◌}
use Rattle.std.proofs.Common.{append_assoc, append-nil, arith}
use Rattle.std.specs.Prelude.{ℤ, Result, Ok, Err, OnOk, OnErr}
use Rattle.ttp_base.specs.Outside.{Output, WroteLines, CutShort}
use Rattle.ttp_base.specs.Text.{Lines}
use Rattle.ttp_base.proofs.Outputs.{CutShort-after, CutShort-more, Wrote-join}
use Rattle.ttp_world.specs.declared.medl.Medl.{Medl}
use Rattle.ttp_world.specs.declared.script.Script.{Script}
use Rattle.ttp_world.specs.declared.script.TheConstants.{SLOT_LIMIT}
use Rattle.ttp_world.specs.Diary.{History}
use Rattle.ttp_world.specs.Medl.{IsValid}
use Rattle.ttp_world.specs.Script.{IsValidScript}
use Rattle.ttp_world.specs.World.{Numbers, world}
use Rattle.ttp_world.proofs.Places.{coming_place-of_list}
use Rattle.ttp_world.proofs.Worlds.{row_of_world, world-of_list}
use Rattle.trace_run.specs.declared.run.TraceRun.{TraceRun}
use Rattle.trace_run.specs.Run.{IsMade, first_numbers}
use Rattle.bus_frames.specs.FrameText.{frame_head, frame_history_lines, frame_lines, frame_slot_lines}
use Rattle.bus_frames.specs.Standing.{AreOffsets, AreClocksShown, SlotStands}

pub on-ok : {A B P Q : Type 0} (r : Result A B) → (P → Q) → OnOk r P → OnOk r Q
on-ok (Ok a) f p = f p
on-ok (Err e) f p = tt

pub on-err : {A B P Q : Type 0} (r : Result A B) → (P → Q) → OnErr r P → OnErr r Q
on-err (Ok a) f p = tt
on-err (Err e) f p = f p

-- the lines of the first slots, with the first line
abbrev pub lines_so_far : Medl → Script → Numbers → Lines
lines_so_far list script numbers = frame_head list script ∷ frame_history_lines list script (world list script numbers)

lines-first : (list : Medl) (script : Script) (numbers : Numbers) (more : ℕ)
    → (later : Lines)
    × (frame_history_lines list script (world list script numbers)
    ≡ frame_history_lines list script (world list script (drop more numbers)) ++ later)
lines-first list script numbers zero = ([], sym (append-nil _))
lines-first list script [] (suc more) = ([], refl)
lines-first list script (new ∷ numbers) (suc more) =
    let first = lines-first list script numbers more in
    let here = frame_slot_lines list script (row_of_world list script new numbers) (world list script numbers) in (
      first.0 ++ here,
      ap (λ (lines : Lines). lines ++ here) first.1
          ∙ append_assoc (frame_history_lines list script (world list script (drop more numbers))) first.0 here,
    )

module _ (run : TraceRun) (list : Medl) (script : Script) (whole : Numbers) (slot : ℕ) (text : List ℕ)
    (made : IsMade run list script whole slot text) (valid : IsValid list) where
  -- what stands in the slot
  pub slot-stands : (offsets : List ℤ)
      → AreOffsets offsets list script (world list script (first_numbers script whole slot))
      → SlotStands run.plant run.outgoing.chosen.items offsets list script slot made.row
      (world list script (first_numbers script whole slot))
  slot-stands offsets are =
      let older = first_numbers script whole slot in
      record {
        made = made.made;
        long = made.long;
        offsets_are = are;
        round = λ k node. (coming_place-of_list list script (world list script older) k valid node
            (world-of_list list script older valid)).round;
        place = λ k node. (coming_place-of_list list script (world list script older) k valid node
            (world-of_list list script older valid)).slot;
      }

  pub early : IsValidScript list script → slot < script.slots → run.plant.slot ≤ SLOT_LIMIT
  early valid_script less =
      let at = made.made.stands.slot in
      let long = made.long in
      let most = valid_script.slots in
      omega (arith, at, long, less, most)

  -- the clocks after it
  pub offsets-next : (offsets : List ℤ) → AreClocksShown offsets run.plant
      → AreOffsets offsets list script (world list script (first_numbers script whole (slot + 1)))
  offsets-next offsets shown =
      subst (AreOffsets offsets list script) (sym made.next)
      (subst (λ (l : Medl). AreOffsets offsets l script
      (made.row ∷ world list script (first_numbers script whole slot)))
      made.made.same
      (shown script (made.row ∷ world list script (first_numbers script whole slot)) made.made.stands))

  module _ (a b c : Output) (before : WroteLines a b (lines_so_far list script (first_numbers script whole slot))) where
    -- the lines of the slot are written
    pub wrote-next : WroteLines b c
        (frame_slot_lines list script made.row (world list script (first_numbers script whole slot)))
        → WroteLines a c (lines_so_far list script (first_numbers script whole (slot + 1)))
    wrote-next more =
        let older = world list script (first_numbers script whole slot) in
        subst (λ (h : History). WroteLines a c
        (frame_head list script ∷ frame_history_lines list script h)) (sym made.next)
        (Wrote-join a b c (lines_so_far list script (first_numbers script whole slot))
        (frame_slot_lines list script made.row older) before more)

    -- the lines of the slot are cut short, and with them the whole text
    pub cut-next : CutShort b c
        (frame_slot_lines list script made.row (world list script (first_numbers script whole slot)))
        → CutShort a c (frame_lines list script whole)
    cut-next more =
        let older = world list script (first_numbers script whole slot) in
        let lines = frame_slot_lines list script made.row older in
        let later = lines-first list script whole (script.slots - (slot + 1)) in
        let all : frame_lines list script whole
        ≡ (lines_so_far list script (first_numbers script whole slot) ++ lines) ++ later.0 =
        ap (λ (ls : Lines). frame_head list script ∷ ls) later.1
        ∙ ap (λ (h : History). (frame_head list script ∷ frame_history_lines list script h) ++ later.0) made.next in
        subst (CutShort a c) (sym all)
        (CutShort-more a c (lines_so_far list script (first_numbers script whole slot) ++ lines) later.0
        (CutShort-after a b c (lines_so_far list script (first_numbers script whole slot)) lines before more))

-- all are written
pub wrote-all : (list : Medl) (script : Script) (numbers : Numbers) (slot : ℕ) (a b : Output) → slot ≡ script.slots
    → WroteLines a b (lines_so_far list script (first_numbers script numbers slot))
    → WroteLines a b (frame_lines list script numbers)
wrote-all list script numbers slot a b all wrote =
    let none : script.slots - slot ≡ 0 = omega (arith, all) in
    subst (λ n. WroteLines a b (lines_so_far list script (drop n numbers))) none wrote
