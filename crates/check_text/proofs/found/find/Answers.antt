use Rattle.std.proofs.Common.{option_map}
use Rattle.check_text.specs.Check.{named_by}
use Rattle.check_text.proofs.Sides.{found_list, found_beside}
use Rattle.check_text.proofs.found.find.Goals as goal

pub returns : goal.returns
returns c =
    let file = named_by c.args.file in
    let script = option_map named_by c.args.script in
    record {
      list = found_list file script c.in_ok-list.list c.in_ok-list.ensures.list c.in_ok-list.ensures.right
          (c.in_ok-list.ensures.lines file.name);
      beside = found_beside file script c.in_ok-list.list.list c.in_ok-beside.beside c.in_ok-list.ensures.list
          c.in_ok-beside.ensures;
    }
