use Rattle.ttp_top.proofs.Terms.{sym}
use Rattle.ttp_top.proofs.Samples.Counted.{slot_fits, slot_counted}
use Rattle.ttp_top.proofs.totals.SlotCounterWatch.told.Goals as goal

pub add-requires : goal.add-requires
add-requires c =
    let t = c.requires.3 in
    rw (sym t.report_is) (slot_fits c.requires.1 c.requires.2 t.stepped c.args.out.now c.requires.4)

pub returns : goal.returns
returns c = record {
  ok = λ start before now t counted.
      rw (c.add.ensures, sym t.report_is) (slot_counted before now t.stepped c.args.out.now counted);
}
