use Rattle.two_faced.proofs.Words.{◌≡◌, Some, ap, sym, ◌∙◌, start_of, world, told_start_if}
use Rattle.hypothesis.specs.Standing.{told_start}
use Rattle.two_faced.specs.Seen.{seen_since}
use Rattle.two_faced.proofs.SeenAlike.{seen_of-zeros}
use Rattle.two_faced.proofs.seen.find_seen.Goals as goal

pub returns-in-Some : goal.returns-in-Some
returns-in-Some c = λ numbers legal.
    let list = c.args.list.now in
    let script = c.args.script.now in
    let start : start_of list script ≡ Some (told_start c.in-Some.start) =
    sym c.start_of.ensures.value ∙ ap told_start_if c.in-Some.is in
    c.seen_in.ensures
    ∙ seen_of-zeros list script c.args.node (told_start c.in-Some.start).slot numbers c.requires.script legal
    ∙ sym (λ i. seen_since list script c.args.node (world list script numbers) (start i))
