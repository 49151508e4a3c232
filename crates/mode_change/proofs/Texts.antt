-- The text of modes, slot by slot, as it is written beside the trace that is read.
use Rattle.std.proofs.Common.{◌≡◌, ℕ, zero, suc, ◌+◌, ◌-◌, List, [], ◌∷◌, ◌++◌, length, drop, refl, ap, sym, subst}
use Rattle.std.proofs.Common.{◌∙◌, append_assoc, append-nil, arith}
use Rattle.ttp_base.specs.Outside.{Output, WroteLines, CutShort}
use Rattle.ttp_base.specs.Text.{Lines}
use Rattle.ttp_base.proofs.Outputs.{CutShort-after, CutShort-more, Wrote-join}
use Rattle.ttp_world.specs.declared.medl.Medl.{Medl}
use Rattle.ttp_world.specs.declared.node.Entry.{Entry}
use Rattle.ttp_world.specs.declared.script.Script.{Script}
use Rattle.ttp_world.specs.Diary.{History}
use Rattle.ttp_world.specs.World.{Numbers, world}
use Rattle.ttp_world.proofs.Worlds.{row_of_world}
use Rattle.trace_run.specs.declared.run.TraceRun.{TraceRun}
use Rattle.trace_run.specs.Run.{IsMade, first_numbers}
use Rattle.mode_change.specs.declared.node.NodeModes.{NodeModes}
use Rattle.mode_change.specs.Knowing.{IsKnownAfter, KnowAll}
use Rattle.mode_change.specs.ModeText.{mode_head, mode_history_lines, mode_lines, mode_slot_lines}

-- the lines of the first slots, with the first line
abbrev pub mode_lines_so_far : Medl → Script → Numbers → Lines
mode_lines_so_far list script numbers =
    mode_head list script ∷ mode_history_lines list script (world list script numbers)

mode_lines-first : (list : Medl) (script : Script) (numbers : Numbers) (more : ℕ)
    → (later : Lines)
    × (mode_history_lines list script (world list script numbers)
    ≡ mode_history_lines list script (world list script (drop more numbers)) ++ later)
mode_lines-first list script numbers zero = ([], sym (append-nil _))
mode_lines-first list script [] (suc more) = ([], refl)
mode_lines-first list script (new ∷ numbers) (suc more) =
    let first = mode_lines-first list script numbers more in
    let here = mode_slot_lines list script (row_of_world list script new numbers) (world list script numbers) in (
      first.0 ++ here,
      ap (λ (lines : Lines). lines ++ here) first.1
          ∙ append_assoc (mode_history_lines list script (world list script (drop more numbers))) first.0 here,
    )

-- the slot that was made, after which all is known of the nodes
module _ (run : TraceRun) (list : Medl) (script : Script) (numbers : Numbers) (slot : ℕ) (text : List ℕ)
    (made : IsMade run list script numbers slot text) (nodes : List NodeModes)
    (known : KnowAll nodes list script (made.row ∷ world list script (first_numbers script numbers slot))) where
  before : History
  before = world list script (first_numbers script numbers slot)

  pub known-after : IsKnownAfter nodes list slot
  unfolding before
  known-after = record {
    script = script;
    row = made.row;
    history = before;
    slots = sym made.long;
    known = known;
  }

  pub known-next : KnowAll nodes list script (world list script (first_numbers script numbers (slot + 1)))
  known-next = subst (KnowAll nodes list script) (sym made.next) known

  module _ (a b c : Output) (wrote : WroteLines a b (mode_lines_so_far list script (first_numbers script numbers slot)))
    where
      -- the lines of the slot are written
      pub wrote-next : ((said : Script) (row : List Entry) (history : History) → slot ≡ length history
          → KnowAll nodes list said (row ∷ history) → WroteLines b c (mode_slot_lines list said row history))
          → WroteLines a c (mode_lines_so_far list script (first_numbers script numbers (slot + 1)))
      unfolding before
      wrote-next more =
          subst (λ (h : History). WroteLines a c (mode_head list script ∷ mode_history_lines list script h))
          (sym made.next)
          (Wrote-join a b c (mode_head list script ∷ mode_history_lines list script before)
          (mode_slot_lines list script made.row before) wrote (more script made.row before (sym made.long) known))

      -- the lines of the slot are cut short, and with them the whole text
      pub cut-next : ((said : Script) (row : List Entry) (history : History) → slot ≡ length history
          → KnowAll nodes list said (row ∷ history) → CutShort b c (mode_slot_lines list said row history))
          → CutShort a c (mode_lines list script numbers)
      unfolding before
      cut-next more =
          let first = mode_head list script ∷ mode_history_lines list script before in
          let later = mode_lines-first list script numbers (script.slots - (slot + 1)) in
          let here = mode_slot_lines list script made.row before in
          let all : mode_lines list script numbers ≡ (first ++ here) ++ later.0 =
          ap (λ (lines : Lines). mode_head list script ∷ lines) later.1
          ∙ ap (λ (h : History). mode_head list script ∷ mode_history_lines list script h ++ later.0) made.next in
          subst (CutShort a c) (sym all)
          (CutShort-more a c (first ++ here) later.0
          (CutShort-after a b c first here wrote (more script made.row before (sym made.long) known)))

-- all are written
pub wrote-all : (list : Medl) (script : Script) (numbers : Numbers) (slot : ℕ) (a b : Output) → slot ≡ script.slots
    → WroteLines a b (mode_lines_so_far list script (first_numbers script numbers slot))
    → WroteLines a b (mode_lines list script numbers)
wrote-all list script numbers slot a b all wrote =
    let none : script.slots - slot ≡ 0 = omega (arith, all) in
    subst (λ n. WroteLines a b (mode_lines_so_far list script (drop n numbers))) none wrote
