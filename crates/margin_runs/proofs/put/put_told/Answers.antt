use Rattle.std.proofs.Common.{ℕ, List, [], ◌∷◌, ◌++◌, length, subst}
use Rattle.ttp_base.specs.Outside.{WroteLines}
use Rattle.ttp_base.proofs.Outputs.{Wrote-none}
use Rattle.clock_margins.specs.Ranges.{ranges_of}
use Rattle.margin_laws.specs.Behind.{closed_ranges}
use Rattle.margin_text.specs.Taken.{value_told, range_of}
use Rattle.fault_runs.specs.declared.put.CampaignFault.{CampaignFault}
use Rattle.fault_runs.specs.Ends.{LeftBy, LeftFewerBy}
use Rattle.margin_runs.proofs.FromBelow.{ok-weaker, err-weaker}
use Rattle.margin_runs.specs.Written.{IsPutOf, closed_lines}
use Rattle.margin_runs.proofs.Puts.{put-next, left-next, fewer-left}
use Rattle.margin_runs.proofs.Writable.{closed-writable}
use Rattle.margin_runs.proofs.put.put_told.Goals as goal

pub take-requires-clause-node : goal.take-requires-clause-node
take-requires-clause-node g c = c.requires.swept.1.fold.node

pub form_range-requires-clause-outcome : goal.form_range-requires-clause-outcome
form_range-requires-clause-outcome g c =
    let tolds = c.requires.swept.0 in
    closed-writable (tolds ++ value_told c.args.told ∷ []) (closed_ranges (ranges_of tolds)) (range_of c.in-Some.range)
    c.requires.swept.2 (c.in-Some.ensures.closed tolds c.requires.swept.1)

pub returns-in-Some-clause-ok : goal.returns-in-Some-clause-ok
returns-in-Some-clause-ok g c = λ start tolds put.
    let list = c.args.list.now in
    let sweep = c.args.sweep in
    let told = value_told c.args.told in
    let old = c.args.swept.now in
    let new = c.take.new.self in
    let before = g.K.Sink.output c.args.out.now in
    let now = g.K.Sink.output c.put_line.new.out in
    ok-weaker (WroteLines before now (c.form_range.new.line ∷ []))
    (IsPutOf start now list sweep (tolds ++ told ∷ []) new)
    c.put_line.result
    (λ wrote. put-next list sweep start before now tolds told old new (range_of c.in-Some.range ∷ []) put
    (c.in-Some.ensures.swept tolds put.swept) c.in-Some.ensures.node (c.in-Some.ensures.few (length tolds) put.few)
    (c.in-Some.ensures.closed tolds put.swept)
    (subst (λ (line : List ℕ). WroteLines before now (line ∷ [])) c.form_range.ensures wrote))
    c.put_line.ensures.ok

pub returns-in-Some-clause-err : goal.returns-in-Some-clause-err
returns-in-Some-clause-err g c = λ start tolds put.
    let list = c.args.list.now in
    let sweep = c.args.sweep in
    let told = value_told c.args.told in
    let before = g.K.Sink.output c.args.out.now in
    let now = g.K.Sink.output c.put_line.new.out in
    let line = c.form_range.new.line in
    err-weaker (λ (why : CampaignFault). LeftFewerBy why before now (line ∷ []))
    (λ (why : CampaignFault). LeftBy why start now (closed_lines list sweep (tolds ++ told ∷ []))) c.put_line.result
    (λ why few. left-next list sweep why start before now tolds told
    c.args.swept.now (range_of c.in-Some.range ∷ []) put
    (c.in-Some.ensures.closed tolds put.swept)
    (subst (λ (text : List ℕ). LeftBy why before now (text ∷ [])) c.form_range.ensures
    (fewer-left why before now (line ∷ []) few)))
    c.put_line.ensures.err

pub returns-in-None-clause-ok : goal.returns-in-None-clause-ok
returns-in-None-clause-ok g c = λ start tolds put.
    let before = g.K.Sink.output c.args.out.now in
    put-next c.args.list.now c.args.sweep start before before tolds
    (value_told c.args.told) c.args.swept.now c.take.new.self
    [] put (c.in-None.ensures.swept tolds put.swept) c.in-None.ensures.node
    (c.in-None.ensures.few (length tolds) put.few)
    (c.in-None.ensures.closed tolds put.swept) (Wrote-none before)
