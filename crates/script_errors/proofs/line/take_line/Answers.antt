use Rattle.std.proofs.Common.{◌-◌, List, ◌∷◌, drop, arith, ap, length, length-drop}
use Rattle.std.proofs.lemmas.List.{take_all}
use Rattle.script_errors.specs.declared.spots.Spot.{Spot}
use Rattle.script_errors.specs.Spots.{behind_mark}
use Rattle.std.proofs.lemmas.Result.{on_ok_weaker}
use Rattle.script_errors.proofs.Cutting.{count_spots}
use Rattle.script_errors.proofs.Taken.{takes_plain, takes_marked}
use Rattle.script_errors.proofs.line.take_line.Goals as goal

pub take_words-requires-clause-count : goal.take_words-requires-clause-count
take_words-requires-clause-count c =
    omega (arith, count_spots c.args.line.now, ap length c.requires.words, c.requires.size)

pub returns-in_default : goal.returns-in_default
returns-in_default c = on_ok_weaker c.take_words.result (λ takes before stands.
    takes_plain c.args.list.now before _ _ _ _ _ _ c.requires.words c.in_default.ensures.none (takes before stands))
    c.take_words.ensures

pub returns : goal.returns
returns c = on_ok_weaker c.take_marked.result (λ takes before stands.
    takes_marked c.args.list.now before _ _ _ _ _ _ _ _ _ _ c.requires.words c.in-Some.ensures.marked
    c.in-Some.ensures.first
    (ap (λ (ws : List Spot). behind_mark (c.in-Some.first ∷ ws))
    (take_all (length c.args.words.now - 1) (drop 1 c.args.words.now) (omega (arith, length-drop 1 c.args.words.now))))
    c.in_ok-tell.ensures (takes before stands)) c.take_marked.ensures

pub take_marked-requires-clause-count : goal.take_marked-requires-clause-count
take_marked-requires-clause-count c = let count = count_spots c.args.line.now in
    let words = ap length c.requires.words in
    let size = c.requires.size in
    let less = length-drop 1 c.args.words.now in
    omega (
      arith,
      take_all (length c.args.words.now - 1) (drop 1 c.args.words.now)
          (omega (arith, less)),
      count,
      words,
      size,
      less,
    )
