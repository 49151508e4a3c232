use Rattle.wave_text.proofs.Words.{◌≡◌, ◌∙◌, ap, sym, subst, ℕ, List, ◌++◌, length}
use Rattle.wave_text.proofs.Words.{get_or, take, arith, Option, Message}
use Rattle.wave_text.proofs.Words.{HasNewest}
use Rattle.std.proofs.Common.{drop}
use Rattle.std.proofs.Math.Seq.{take-append_seam}
use Rattle.wave_text.proofs.wave.moment.Goals as goal

-- what is written over whole
all-new : {X : Type 0} (n : ℕ) (new old : List X) → n ≡ length new → take n (new ++ drop (length new) old) ≡ new
all-new n new old is =
    ap (λ (k : ℕ). take k (new ++ drop (length new) old)) is ∙ take-append_seam new (drop (length new) old)

pub returns-clause-messages : goal.returns-clause-messages
returns-clause-messages c =
    let size : c.args.table.len ≡ length c.note_slot.new.messages =
    omega (arith, c.args.table.ok, c.note_slot.auto.messages, ap length c.deref_mut.ensures.value) in
    λ k d low.
    subst (λ (messages : List (Option Message)). HasNewest messages c.args.slot.hosts (get_or c.args.ports.now k d).host
    (get_or c.args.ports.now k d).what)
    (sym (all-new c.args.table.len c.note_slot.new.messages c.args.table.items size)) (c.note_slot.ensures k d low)

pub returns-clause-size : goal.returns-clause-size
returns-clause-size c =
    let size : c.args.table.len ≡ length c.note_slot.new.messages =
    omega (arith, c.args.table.ok, c.note_slot.auto.messages, ap length c.deref_mut.ensures.value) in
    ap length (all-new c.args.table.len c.note_slot.new.messages c.args.table.items size) ∙ sym size
    ∙ omega (arith, c.args.table.ok, c.requires.size)
