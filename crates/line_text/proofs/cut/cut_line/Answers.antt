use Rattle.std.proofs.Common.{List, ℕ, ap, sym, ◌∙◌, add-one, take, drop}
use Rattle.ttp_base.specs.Text.{lines_of}
use Rattle.line_text.proofs.FirstLines.{cut-Some, cut-None}
use Rattle.line_text.proofs.cut.cut_line.Goals as goal

pub returns-in-Some-clause-first : goal.returns-in-Some-clause-first
returns-in-Some-clause-first c =
    (cut-Some c.args.text.now c.in-Some.end (sym c.line_feed.ensures ∙ c.in-Some.is)).first
    ∙ ap (λ (n : ℕ). take n c.args.text.now) (sym (add-one c.in-Some.end)) ∙ sym c.split_at.ensures.front

pub returns-in-Some-clause-others : goal.returns-in-Some-clause-others
returns-in-Some-clause-others c =
    (cut-Some c.args.text.now c.in-Some.end (sym c.line_feed.ensures ∙ c.in-Some.is)).others
    ∙ ap (λ (n : ℕ). lines_of (drop n c.args.text.now)) (sym (add-one c.in-Some.end))
    ∙ ap (λ (bytes : List ℕ). lines_of bytes) (sym c.split_at.ensures.back)

pub returns-in-None-clause-first : goal.returns-in-None-clause-first
returns-in-None-clause-first c = (cut-None c.args.text.now (sym c.line_feed.ensures ∙ c.in-None.is)).first

pub returns-in-None-clause-others : goal.returns-in-None-clause-others
returns-in-None-clause-others c = (cut-None c.args.text.now (sym c.line_feed.ensures ∙ c.in-None.is)).others
