use Rattle.hypothesis.proofs.Words.{◌≡◌, ◌-◌, rules, four_rounds, faulty_then, slots_before, faulty_since, faulty_at}
use Rattle.hypothesis.proofs.Words.{told_start}
use Rattle.hypothesis.proofs.SlotSteps.{stayed-at, back-faults}
use Rattle.hypothesis.proofs.back_walk.back_faults_in.Goals as goal

pub returns : goal.returns
returns c =
    let list = c.args.list.now in
    let script = c.args.script.now in
    let start = told_start c.args.start in
    let slot = c.args.newest.now.end in
    let before = slots_before list script start slot in
    let past : c.saturating_sub.result ≡ slot - four_rounds list = search rules in
    let then =
    c.faulty_then-then.ensures list script start c.four_rounds-rounds.ensures c.requires.newest in
    let stayed =
    stayed-at list script start slot c.saturating_sub.result c.stayed_in-stayed.result past
    (c.stayed_in-stayed.ensures (faulty_then list before) (faulty_since before) then c.requires.faulty) in
    let made = c.faults_in-faults.ensures.faults (faulty_at list script start slot) stayed in
    record {
      kept = c.faults_in-faults.ensures.kept;
      newest = c.add_slot.ensures.newest list script start c.requires.newest
          (record { stayed = stayed; joined = made.count });
      end = search rules;
      faults = back-faults list script start slot c.faults_in-faults.result made;
      nodes = made;
    }
