use Rattle.std.proofs.Common.{◌≡◌, ◌+◌, ◌-◌, length, arith}
use Rattle.std.proofs.lemmas.Grind.{common_steps, pow_more}
use Rattle.medl_text.proofs.slot.live_of.Goals as goal

pub loop-m-preserved : goal.loop-m-preserved
loop-m-preserved c =
    let n = length c.args.letters.now - c.loop-m.m in
    let next : length c.args.letters.now - (c.loop-m.m - 1) ≡ n + 1 = omega arith in
    record {
      within = grind (arith, common_steps);
      value = grind (arith, common_steps);
      small = rw (next, pow_more 2 n) (grind (arith, common_steps));
    }
