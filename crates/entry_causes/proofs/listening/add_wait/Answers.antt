use Rattle.std.proofs.Common.{◌+◌, ◌-◌, map, take, sym}
use Rattle.causes.specs.Listening.{kept_from_joining, listening_sources, wait_sources}
use Rattle.causes.specs.Sources.{all_sources, with_sources}
use Rattle.entry_causes.proofs.Adding.{adds-both, on-ok}
use Rattle.entry_causes.proofs.Listens.{wait-next}
use Rattle.entry_causes.proofs.Remaining.{adds-same}
use Rattle.run_rows.specs.Rows.{past_slots, run_slot}
use Rattle.entry_causes.proofs.listening.add_wait.Goals as goal

pub returns : goal.returns
returns c =
    let run = c.args.run.now in
    let k = c.args.node in
    let slot = c.args.slot in
    let from = c.listening_from.result in
    let listens = listening_sources k (past_slots run slot) in
    let here = kept_from_joining k (run_slot run slot) in
    let kept = all_sources (map (kept_from_joining k) (take (slot - from) (past_slots run slot))) in
    on-ok c.add_kept.result (λ added.
    adds-same c.args.out.now c.add_kept.new.out (with_sources listens (with_sources here kept))
    (wait_sources k (past_slots run (slot + 1)))
    (sym (wait-next run.list run.script slot from k c.listening_from.ensures.within c.listening_from.ensures.value))
    (adds-both c.args.out.now c.add_listening.new.out c.add_kept.new.out listens (with_sources here kept)
    c.in_ok-add_listening.ensures
    (adds-both c.add_listening.new.out c.add_kept_in.new.out c.add_kept.new.out here
    kept c.in_ok-add_kept_in.ensures added)))
    c.add_kept.ensures
