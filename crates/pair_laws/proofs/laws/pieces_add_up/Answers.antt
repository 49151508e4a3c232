use Rattle.std.proofs.Common.{refl, sym, not}
use Rattle.std.proofs.lemmas.List.Elements.{filter-append}
use Rattle.ttp_world.specs.ZerosWorld.{zeros_world}
use Rattle.fault_pairs.specs.PairText.{first_fault_lines}
use Rattle.fault_pairs.specs.Pairs.{firsts_in}
use Rattle.fault_pairs.specs.Sums.{PairTold, are_so_far_apart}
use Rattle.pair_laws.specs.Ranges.{own_harm, pairs_of_first}
use Rattle.pair_laws.proofs.Counted.{counts-append}
use Rattle.pair_laws.proofs.Joined.{each-cut}
use Rattle.pair_laws.proofs.laws.pieces_add_up.Goals as goal

pub returns : goal.returns
returns c =
    let list = c.args.list.now in
    let script = c.args.script.now in
    let firsts = firsts_in list script (zeros_world list script script.slots) in
    record {
      text = λ first last within. refl;
      lines = λ first middle last within order more.
          each-cut (first_fault_lines list script within (own_harm list script))
          firsts script first middle last order more;
      pairs = λ first middle last within order more.
          each-cut (pairs_of_first list script within) firsts script first middle last order more;
      apart = λ some others d. sym (filter-append (are_so_far_apart d) some others);
      kept = λ some others. sym (filter-append (λ (told : PairTold). told.yes) some others);
      broken = λ some others. sym (filter-append (λ (told : PairTold). not told.yes) some others);
      counts = λ some others. counts-append some others;
    }
