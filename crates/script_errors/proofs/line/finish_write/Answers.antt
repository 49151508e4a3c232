use Rattle.std.proofs.Common.{◌≡◌, ℕ, ap, sym, ◌∙◌, subst, get_or}
use Rattle.std.proofs.lemmas.Result.{on_ok_weaker}
use Rattle.script_text.specs.Statement.{Statement, says_event}
use Rattle.script_text.specs.Numbers.{decimal_value, digit_bytes_in}
use Rattle.ttp_world.specs.declared.script.Event.TheVariants as event
use Rattle.script_errors.specs.Spots.{spot, spot_text}
use Rattle.script_errors.specs.Errors.{stated_wrong, with_taken, buffer_wrong}
use Rattle.script_errors.specs.SoFar.{StandsFor}
use Rattle.script_errors.proofs.Stated.{states_write, finishes_told, finishes_kept, counted_wrong}
use Rattle.script_errors.proofs.line.finish_write.Goals as goal

pub returns-in-Some : goal.returns-in-Some
returns-in-Some c = on_ok_weaker c.tell.result (λ now before stands.
    let node : c.number_at-node.result
    ≡ decimal_value (spot_text c.args.line.now (get_or c.args.words.now 0 (spot 0 0))) =
    c.number_at-node.ensures c.requires.number in
    let slot : c.number_at-slot.result
    ≡ decimal_value (spot_text c.args.line.now (get_or c.args.words.now 1 (spot 0 0))) =
    c.number_at-slot.ensures c.requires.slot_number in
    finishes_told c.args.list.now before _ _ _ _ _ _ _ _ c.in-Some.wrong
    (ap (stated_wrong c.args.list.now before)
    (states_write c.args.line.now c.args.first c.args.words.now c.requires.full)
    ∙ counted_wrong c.args.list.now before c.args.so_far.now _ _ _ _ stands c.requires.node node slot
    ∙ (sym c.buffer_wrong.ensures.wrong ∙ c.in-Some.is))
    (c.name.ensures c.args.list.now before stands) now) c.tell.ensures

pub returns : goal.returns
returns c = on_ok_weaker c.take_write.result (λ kept before stands.
    let node : c.number_at-node.result
    ≡ decimal_value (spot_text c.args.line.now (get_or c.args.words.now 0 (spot 0 0))) =
    c.number_at-node.ensures c.requires.number in
    let slot : c.number_at-slot.result
    ≡ decimal_value (spot_text c.args.line.now (get_or c.args.words.now 1 (spot 0 0))) =
    c.number_at-slot.ensures c.requires.slot_number in
    let says = states_write c.args.line.now c.args.first c.args.words.now c.requires.full in
    finishes_kept c.args.list.now before _ _ _ _ _ _ _
    (ap (stated_wrong c.args.list.now before) says
    ∙ counted_wrong c.args.list.now before c.args.so_far.now _ _ _ _ stands c.requires.node node slot
    ∙ (sym c.buffer_wrong.ensures.wrong ∙ c.in_default.is))
    (subst (λ (s : Statement). StandsFor c.args.list.now c.take_write.new.self (with_taken before c.args.number s))
    (ap (λ (k : ℕ). says_event (event.Write k c.number_at-slot.result
    (digit_bytes_in (spot_text c.args.line.now (get_or c.args.words.now 2 (spot 0 0)))))) node
    ∙ (ap (λ (t : ℕ). says_event
    (event.Write (decimal_value (spot_text c.args.line.now (get_or c.args.words.now 0 (spot 0 0)))) t
    (digit_bytes_in (spot_text c.args.line.now (get_or c.args.words.now 2 (spot 0 0)))))) slot ∙ sym says))
    (kept c.args.list.now before (digit_bytes_in (spot_text c.args.line.now (get_or c.args.words.now 2 (spot 0 0))))
    (sym c.is_some.ensures) stands))) c.take_write.ensures
