use Rattle.std.proofs.Common.{Bool, not, length, ap, sym, ◌∙◌, true, false, refl, ◌≡◌, cond, ◌∷◌, [], ℕ}
use Rattle.std.specs.Prelude.{◌==◌}
use Rattle.causes.specs.Listening.{listening_sources, on_line_unless}
use Rattle.causes.specs.Sources as causes
use Rattle.causes.specs.Sources.{no_sources, only_lines}
use Rattle.causes.specs.declared.cause.ScriptLine.TheVariants as line
use Rattle.entry_causes.proofs.Adding.{adds-none, on-ok}
use Rattle.entry_causes.proofs.Remaining.{adds-same}
use Rattle.run_rows.specs.Rows.{past_slots}
use Rattle.entry_causes.proofs.listening.add_on_line_unless.Goals as goal

on_line-unless : (none : Bool) (k : ℕ) (sources : causes.Sources) → not (length sources.entries == 0) ≡ none
    → cond none no_sources (only_lines (line.On k ∷ [])) ≡ on_line_unless k sources
on_line-unless none k sources is =
    ap (λ (b : Bool). cond b no_sources (only_lines (line.On k ∷ []))) (sym is)
    ∙ turned (length sources.entries == 0) k
  where
    turned : (b : Bool) (k : ℕ)
        → cond (not b) no_sources (only_lines (line.On k ∷ [])) ≡ cond b (only_lines (line.On k ∷ [])) no_sources
    turned true k = refl
    turned false k = refl

pub returns-then-listens_by_entry : goal.returns-then-listens_by_entry
returns-then-listens_by_entry c =
    let k = c.args.node in
    let listens = listening_sources k (past_slots c.args.run.now c.args.before) in
    adds-same c.args.out.now c.args.out.now no_sources (on_line_unless k listens)
    (on_line-unless true k listens (sym c.listens_by_entry.ensures ∙ c.if-listens_by_entry.true))
    (adds-none c.args.out.now)

pub returns-else-listens_by_entry : goal.returns-else-listens_by_entry
returns-else-listens_by_entry c =
    let k = c.args.node in
    let listens = listening_sources k (past_slots c.args.run.now c.args.before) in
    on-ok c.add_line.result
    (adds-same c.args.out.now c.add_line.new.self (only_lines (line.On k ∷ [])) (on_line_unless k listens)
    (on_line-unless false k listens (sym c.listens_by_entry.ensures ∙ c.if-listens_by_entry.false)))
    c.add_line.ensures
