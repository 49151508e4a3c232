use Rattle.std.proofs.Common.{ap, ◌∙◌}
use Rattle.campaign.specs.CostText.{cost_words}
use Rattle.pair_runs.proofs.FromBelow.{err-cut, err-fewer}
use Rattle.fault_pairs.specs.Classes.{harm_of}
use Rattle.fault_pairs.specs.PairText.{pairs_lines}
use Rattle.pair_runs.proofs.Harms.{cost-ordered}
use Rattle.pair_runs.proofs.Wholes.{none-written}
use Rattle.pair_runs.proofs.put.put_pairs.Goals as goal

pub words_of-requires-clause-cost : goal.words_of-requires-clause-cost
words_of-requires-clause-cost g c = (c.args.script.now, c.in-Ok.ensures)

pub harm_of-requires : goal.harm_of-requires
harm_of-requires g c = cost-ordered c.args.list.now c.args.script.now c.in-Ok.cost c.requires.valid c.in-Ok.ensures

pub put_all-requires-clause-may : goal.put_all-requires-clause-may
put_all-requires-clause-may g c κs within = record {
  valid = c.requires.valid;
  script = c.requires.script;
  room = c.requires.room;
  own = c.harm_of.ensures ∙ ap harm_of c.in-Ok.ensures;
}

pub put_all-requires-clause-words : goal.put_all-requires-clause-words
put_all-requires-clause-words g c κs within =
    c.bytes.ensures ∙ c.in-Ok-words_of.ensures ∙ ap (cost_words c.args.list.now) c.in-Ok.ensures

pub returns-clause-failed : goal.returns-clause-failed
returns-clause-failed g c =
    err-cut c.put_all.result _ _ (pairs_lines c.args.list.now c.args.script.now c.args.first c.args.last c.args.within)
    c.put_all.ensures.err

pub returns-clause-memory : goal.returns-clause-memory
returns-clause-memory g c =
    err-fewer c.put_all.result _ _
    (pairs_lines c.args.list.now c.args.script.now c.args.first c.args.last c.args.within)
    c.put_all.ensures.err

pub returns-in_default-clause-memory : goal.returns-in_default-clause-memory
returns-in_default-clause-memory g c = λ same.
    none-written c.args.list.now c.args.script.now c.args.first c.args.last
    c.args.within (g.K.Sink.output c.args.out.now)

pub returns-in_default-words_of-clause-memory : goal.returns-in_default-words_of-clause-memory
returns-in_default-words_of-clause-memory g c = λ same.
    none-written c.args.list.now c.args.script.now c.args.first c.args.last
    c.args.within (g.K.Sink.output c.args.out.now)
