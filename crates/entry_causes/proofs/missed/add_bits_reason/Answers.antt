use Rattle.std.proofs.Common.{◌≡◌, Bool, true, false, List, drop, length, length-append, ap, subst, sym, ◌∙◌, arith}
use Rattle.causes.specs.LinesOf.{bytes_sent, flipping_lines}
use Rattle.causes.specs.Missed.{bits_reason, frame_reason, is_same_view, signal_sent, view_of_signal}
use Rattle.causes.specs.Sources.{ChannelReason, by_lines, only_lines}
use Rattle.causes.specs.declared.cause.Miss.TheVariants as miss
use Rattle.causes.specs.declared.cause.ScriptLine.{ScriptLine}
use Rattle.entry_causes.proofs.Drops.{drop-added}
use Rattle.entry_causes.proofs.Reasons.{reason-same, tells-same}
use Rattle.run_looks.specs.Added.{AddsSources}
use Rattle.entry_causes.proofs.FromBelow.{slot_in-number, slot_in-script}
use Rattle.run_rows.specs.Rows.{past_slots, run_slot}
use Rattle.ttp_world.specs.Medium.{Bits}
use Rattle.entry_causes.proofs.missed.add_bits_reason.Goals as goal

-- by whether flips change the view
abbrev bits_if : Bool → ChannelReason → List ScriptLine → ChannelReason
bits_if same frame lines = elim same [ true ↦ frame | false ↦ by_lines miss.Flipped lines ]

pub returns-then-is_same_view : goal.returns-then-is_same_view
returns-then-is_same_view c =
    let run = c.args.run.now in
    let p = c.args.sender in
    let k = c.args.node in
    let ch = c.args.channel in
    let s = run_slot run c.args.slot in
    let before = past_slots run c.args.slot in
    let signal = Bits p c.args.bytes.now in
    let lines = flipping_lines s.begun.script p ch s.begun.number (length (bytes_sent s.frames p)) in
    let same : is_same_view (view_of_signal k s signal) (view_of_signal k s (signal_sent s signal)) ≡ true =
    sym (λ i. is_same_view (c.view_of_bytes-seen.ensures i) (c.view_of_sent.ensures i))
    ∙ sym c.is_same_view.ensures ∙ c.if-is_same_view.true in
    tells-same c.add_frame_reason.result c.args.out.now c.add_frame_reason.new.out (frame_reason p k s before)
    (bits_reason k s before ch p signal) (ap (λ (b : Bool). bits_if b (frame_reason p k s before) lines) (sym same))
    c.add_frame_reason.ensures

pub lines_from-requires : goal.lines_from-requires
lines_from-requires c =
    let all = ap length c.in_ok-add_flipping.ensures.lines in
    omega (arith, all, c.len-from.ensures, length-append {A = ScriptLine})

pub returns : goal.returns
returns c =
    let run = c.args.run.now in
    let p = c.args.sender in
    let k = c.args.node in
    let ch = c.args.channel in
    let s = run_slot run c.args.slot in
    let before = past_slots run c.args.slot in
    let signal = Bits p c.args.bytes.now in
    let scripts = sym (slot_in-script run.list run.script c.args.slot) in
    let numbers = sym (slot_in-number run.list run.script c.args.slot) in
    let size = c.size_of.ensures.value ∙ ap length c.frame_sent-sent.ensures in
    let lines = flipping_lines s.begun.script p ch s.begun.number (length (bytes_sent s.frames p)) in
    let same : is_same_view (view_of_signal k s signal) (view_of_signal k s (signal_sent s signal)) ≡ false =
    sym (λ i. is_same_view (c.view_of_bytes-seen.ensures i) (c.view_of_sent.ensures i))
    ∙ sym c.is_same_view.ensures ∙ c.if-is_same_view.false in
    let is : c.in_ok-lines_from.field-0 ≡ lines =
    c.in_ok-lines_from.ensures ∙ (λ i. drop (c.len-from.ensures i) (c.in_ok-add_flipping.ensures.lines i))
    ∙ drop-added c.args.out.now.lines _ ∙ (λ i. flipping_lines (scripts i) p ch (numbers i) (size i)) in
    reason-same _ c.args.out.now c.add_flipping.new.out
    (by_lines miss.Flipped lines) (bits_reason k s before ch p signal)
    (ap (λ (b : Bool). bits_if b (frame_reason p k s before) lines) (sym same)) (
      (λ i. miss.Flipped (is i)),
      subst (λ (all : List ScriptLine). AddsSources c.args.out.now c.add_flipping.new.out (only_lines all))
          (λ i. flipping_lines (scripts i) p ch (numbers i) (size i)) c.in_ok-add_flipping.ensures,
    )
