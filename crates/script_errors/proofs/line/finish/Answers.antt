use Rattle.std.proofs.Common.{ap, sym, subst}
use Rattle.std.proofs.lemmas.Result.{on_ok_weaker}
use Rattle.script_errors.specs.declared.error.Form.{Form}
use Rattle.script_errors.specs.SoFar.{Finishes}
use Rattle.script_errors.proofs.Stated.{other_form, finishes_other}
use Rattle.script_errors.proofs.Right.{first_right, second_right, slots_right, node_right, writer_right, slot_right}
use Rattle.script_errors.proofs.Right.{node_few, slot_fits}
use Rattle.script_errors.proofs.line.finish.Goals as goal
use Rattle.script_errors.specs.Words.{parts_of}

pub finish_slots-requires-clause-number : goal.finish_slots-requires-clause-number
finish_slots-requires-clause-number c =
    slots_right _ _ _ _ (first_right c.args.list.now c.args.slots c.args.number c.args.line.now c.args.form _ _
    c.args.words.now (ap parts_of c.in-Slots.is) c.requires.full c.requires.right)

pub finish_on-requires-clause-number : goal.finish_on-requires-clause-number
finish_on-requires-clause-number c =
    (node_right _ _ _ _ (first_right c.args.list.now c.args.slots c.args.number c.args.line.now c.args.form _ _
    c.args.words.now (ap parts_of c.in-On.is) c.requires.full c.requires.right)).0

pub finish_on-requires-clause-node : goal.finish_on-requires-clause-node
finish_on-requires-clause-node c =
    node_few c.args.list.now _ c.requires.valid
    (node_right _ _ _ _ (first_right c.args.list.now c.args.slots c.args.number c.args.line.now c.args.form _ _
    c.args.words.now (ap parts_of c.in-On.is) c.requires.full c.requires.right)).1

pub finish_drift-requires-clause-number : goal.finish_drift-requires-clause-number
finish_drift-requires-clause-number c =
    (node_right _ _ _ _ (first_right c.args.list.now c.args.slots c.args.number c.args.line.now c.args.form _ _
    c.args.words.now (ap parts_of c.in-Drift.is) c.requires.full c.requires.right)).0

pub finish_drift-requires-clause-node : goal.finish_drift-requires-clause-node
finish_drift-requires-clause-node c =
    node_few c.args.list.now _ c.requires.valid
    (node_right _ _ _ _ (first_right c.args.list.now c.args.slots c.args.number c.args.line.now c.args.form _ _
    c.args.words.now (ap parts_of c.in-Drift.is) c.requires.full c.requires.right)).1

pub finish_write-requires-clause-number : goal.finish_write-requires-clause-number
finish_write-requires-clause-number c =
    (writer_right _ _ _ _ (first_right c.args.list.now c.args.slots c.args.number c.args.line.now c.args.form _ _
    c.args.words.now (ap parts_of c.in-Write.is) c.requires.full c.requires.right)).0

pub finish_write-requires-clause-node : goal.finish_write-requires-clause-node
finish_write-requires-clause-node c =
    node_few c.args.list.now _ c.requires.valid
    (writer_right _ _ _ _ (first_right c.args.list.now c.args.slots c.args.number c.args.line.now c.args.form _ _
    c.args.words.now (ap parts_of c.in-Write.is) c.requires.full c.requires.right)).1

pub finish_write-requires-clause-slot_number : goal.finish_write-requires-clause-slot_number
finish_write-requires-clause-slot_number c =
    (slot_right _ _ _ _ (second_right c.args.list.now c.args.slots c.args.number c.args.line.now c.args.form _ _ _
    c.args.words.now (ap parts_of c.in-Write.is) c.requires.full c.requires.right)).0

pub finish_write-requires-clause-slot : goal.finish_write-requires-clause-slot
finish_write-requires-clause-slot c =
    slot_fits _ c.args.slots c.ranges.slots.fits
    (slot_right _ _ _ _ (second_right c.args.list.now c.args.slots c.args.number c.args.line.now c.args.form _ _ _
    c.args.words.now (ap parts_of c.in-Write.is) c.requires.full c.requires.right)).1

pub returns-in-Slots : goal.returns-in-Slots
returns-in-Slots c = on_ok_weaker c.finish_slots.result (λ finishes before stands.
    subst (λ (f : Form). Finishes c.args.list.now before c.args.number c.args.line.now f c.args.first c.args.words.now
    c.finish_slots.new.so_far c.args.found.now c.finish_slots.new.found) (sym c.in-Slots.is)
    (finishes c.args.list.now before stands)) c.finish_slots.ensures

pub returns-in_default : goal.returns-in_default
returns-in_default c = λ before stands.
    finishes_other c.args.list.now before c.args.number c.args.line.now c.args.form c.args.first c.args.words.now _ _
    (other_form c.args.form c.in_default.not-Slots c.in_default.not-On c.in_default.not-Drift c.in_default.not-Write)
    (λ e quiet. c.take_other.ensures c.args.list.now before e quiet stands)
