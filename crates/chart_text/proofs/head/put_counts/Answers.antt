use Rattle.chart_text.proofs.Words.{[], ◌∷◌, sym, codes, decimal}
use Rattle.ttp_base.proofs.Gathered.{gather-behind}
use Rattle.chart_text.proofs.head.put_counts.Goals as goal

pub returns-clause-text : goal.returns-clause-text
returns-clause-text c =
    let counts = c.args.counts.now in
    rw (
      c.put_many-6.ensures.text,
      c.put_many-5.ensures.text,
      c.put_many-4.ensures.text,
      c.put_many-3.ensures.text,
      c.put_many-2.ensures.text,
      c.put_text-2.ensures,
      c.put_text.ensures,
      c.put_many.ensures.text,
    )
    (sym (gather-behind c.args.line.now (decimal counts.runs ∷ codes " faults " ∷ c.args.place.now
    ∷ codes " the single-fault hypothesis: " ∷ decimal counts.same ∷ codes " changed nothing, " ∷ decimal counts.hurt
    ∷ codes " cost healthy nodes, " ∷ decimal counts.split ∷ codes " split them, " ∷ decimal counts.torn
    ∷ codes " left several memberships, " ∷ decimal counts.dead ∷ codes " left no two nodes together" ∷ [])))
