use Rattle.cluster_run.proofs.by_hand.slot_staffed.Goals as goal

pub returns : goal.returns
returns g c =
    let said = c.slot-done.ensures in record {
      within = said.within;
      steps = said.steps;
      bytes = said.bytes;
      done = said.done;
      undone = said.undone;
      gone = said.gone;
      for_good = said.for_good;
    }
