use Rattle.std.proofs.Common.{rules, ◌≡◌, ◌++◌, List, map, ap, ◌∙◌}
use Rattle.std.specs.BTreeMap.{keys}
use Rattle.std.proofs.lemmas.Map.Iter.{iter_end}
use Rattle.list_errors.specs.declared.error.Wrong.{Wrong}
use Rattle.list_errors.proofs.Keys.{told_all}
use Rattle.list_errors.proofs.file.tell_unknown.Goals as goal

pub returns : goal.returns
returns c =
    let all : map (λ k. k.now) c.loop-key.yielded ≡ keys c.args.table.now = search (rules, iter_end) in
    c.loop-key.invariant
    ∙ ap (λ (w : List Wrong). c.args.wrongs.now ++ w)
    (told_all c.args.slot c.args.known.now c.args.table.now.entries c.loop-key.yielded all)
