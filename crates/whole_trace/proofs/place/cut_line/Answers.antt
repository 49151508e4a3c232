use Rattle.std.proofs.Common.{List, ℕ, ap, sym, ◌∙◌, add-one, take, drop}
use Rattle.ttp_base.specs.Text.{lines_of}
use Rattle.whole_trace.proofs.Texts.{cut-behind_feed, cut-no_feed}
use Rattle.whole_trace.proofs.place.cut_line.Goals as goal

pub returns-in-Some-clause-first : goal.returns-in-Some-clause-first
returns-in-Some-clause-first c =
    (cut-behind_feed c.args.text.now c.in-Some.end c.in-Some.ensures).first
    ∙ ap (λ (n : ℕ). take n c.args.text.now) (sym (add-one c.in-Some.end)) ∙ sym c.split_at.ensures.front

pub returns-in-Some-clause-others : goal.returns-in-Some-clause-others
returns-in-Some-clause-others c =
    (cut-behind_feed c.args.text.now c.in-Some.end c.in-Some.ensures).others
    ∙ ap (λ (n : ℕ). lines_of (drop n c.args.text.now)) (sym (add-one c.in-Some.end))
    ∙ ap (λ (bytes : List ℕ). lines_of bytes) (sym c.split_at.ensures.back)

pub returns-in-None-clause-first : goal.returns-in-None-clause-first
returns-in-None-clause-first c = (cut-no_feed c.args.text.now c.in-None.ensures).first

pub returns-in-None-clause-others : goal.returns-in-None-clause-others
returns-in-None-clause-others c = (cut-no_feed c.args.text.now c.in-None.ensures).others
