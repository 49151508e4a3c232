use Rattle.std.proofs.Common.{◌-◌, true, false, [], ◌∷◌, ap, sym, ◌∙◌, arith}
use Rattle.causes.specs.OwnSlots.{start_again}
use Rattle.causes.specs.RunSlots.{back_to}
use Rattle.causes.specs.Sources.{no_sources, only_entries}
use Rattle.entry_causes.proofs.Adding.{adds-none, on-ok}
use Rattle.entry_causes.proofs.OwnFacts.{again-down, again-none}
use Rattle.entry_causes.proofs.Remaining.{adds-same}
use Rattle.run_rows.specs.Rows.{past_slots}
use Rattle.ttp_world.specs.Acknowledgement.{is_sent_or_joined}
use Rattle.entry_causes.proofs.own.add_start_again.Goals as goal

pub returns-then-behind-eq0 : goal.returns-then-behind-eq0
returns-then-behind-eq0 c =
    let run = c.args.run.now in
    let k = c.args.node in
    adds-same c.args.out.now c.args.out.now no_sources
    (only_entries (start_again k (back_to is_sent_or_joined k (past_slots run c.args.before))))
    (ap only_entries
    (sym
    (ap (start_again k) c.back_to-behind.ensures.is
    ∙ again-none run.list run.script c.back_to-behind.result k c.if-behind-eq0.true)))
    (adds-none c.args.out.now)

pub returns-then-listens_by_entry : goal.returns-then-listens_by_entry
returns-then-listens_by_entry c =
    let run = c.args.run.now in
    let k = c.args.node in
    let behind = c.back_to-behind.result in
    on-ok c.add_entry.result
    (adds-same c.args.out.now c.add_entry.new.self (only_entries (record { slot = behind - 1; node = k } ∷ []))
    (only_entries (start_again k (back_to is_sent_or_joined k (past_slots run c.args.before))))
    (ap only_entries
    (sym
    (ap (start_again k) c.back_to-behind.ensures.is
    ∙ again-down run.list run.script behind k true (omega (arith, c.if-behind-eq0.false))
    (sym c.listens_by_entry.ensures ∙ c.if-listens_by_entry.true)))))
    c.add_entry.ensures

pub returns : goal.returns
returns c =
    let run = c.args.run.now in
    let k = c.args.node in
    let behind = c.back_to-behind.result in
    adds-same c.args.out.now c.args.out.now no_sources
    (only_entries (start_again k (back_to is_sent_or_joined k (past_slots run c.args.before))))
    (ap only_entries
    (sym
    (ap (start_again k) c.back_to-behind.ensures.is
    ∙ again-down run.list run.script behind k false (omega (arith, c.if-behind-eq0.false))
    (sym c.listens_by_entry.ensures ∙ c.if-listens_by_entry.false))))
    (adds-none c.args.out.now)
