use Rattle.std.proofs.Common.{◌≡◌, List, ℕ, [], ◌∷◌, OnOk, OnErr, ap, subst, ◌∙◌}
use Rattle.ttp_base.specs.Outside.{WroteLines, CutShort}
use Rattle.line_text.specs.LineParts.{listed_line, with_rest}
use Rattle.line_text.proofs.node_line.NodeLines.put.Goals as goal

pub returns-clause-ok : goal.returns-clause-ok
returns-clause-ok g c =
    let list = c.args.list.now in
    let k = c.args.node in
    let state = c.args.state.now in
    let message = c.args.message in
    let line : c.bytes.result.now ≡ listed_line list c.args.self.now k state message =
    c.bytes.ensures ∙ c.put_rest.ensures
    ∙ ap (λ begun. with_rest begun list k state message) (c.cut.ensures ∙ c.self.invariant.begins)
    ∙ ap (λ slot. listed_line list slot k state message) c.self.view_is in
    subst (λ (l : List ℕ). OnOk c.write.result
    (WroteLines (g.K.Sink.output c.args.out.now) (g.K.Sink.output c.write.new.self) (l ∷ []))) line c.write.ensures.ok

pub returns-clause-failed : goal.returns-clause-failed
returns-clause-failed g c =
    let list = c.args.list.now in
    let k = c.args.node in
    let state = c.args.state.now in
    let message = c.args.message in
    let line : c.bytes.result.now ≡ listed_line list c.args.self.now k state message =
    c.bytes.ensures ∙ c.put_rest.ensures
    ∙ ap (λ begun. with_rest begun list k state message) (c.cut.ensures ∙ c.self.invariant.begins)
    ∙ ap (λ slot. listed_line list slot k state message) c.self.view_is in
    subst (λ (l : List ℕ). OnErr c.write.result
    (CutShort (g.K.Sink.output c.args.out.now) (g.K.Sink.output c.write.new.self) (l ∷ []))) line c.write.ensures.failed
