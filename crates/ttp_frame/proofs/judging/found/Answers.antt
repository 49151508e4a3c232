use Rattle.std.proofs.Common.{◌≡◌, true, false, not, arith, ap, refl, sym, ◌∙◌}
use Rattle.std.proofs.lemmas.Bool.{ne_eqb}
use Rattle.std.proofs.lemmas.Grind.{common_steps}
use Rattle.ttp_world.specs.Frame.{is_explicit}
use Rattle.ttp_world.specs.Medl.{member_bytes}
use Rattle.ttp_frame.specs.Shape.{sent, unsent, has_word, carries}
use Rattle.ttp_frame.proofs.Frames.{match_of-found}
use Rattle.ttp_frame.proofs.judging.found.Goals as goal

pub returns-then-not-has_shape : goal.returns-then-not-has_shape
returns-then-not-has_shape c =
    let e = c.args.expect.now in
    match_of-found e.wide c.args.bytes.now e.header e.payload c.args.start c.args.cstate.now false _ _ _
    (sym c.if-not-has_shape.true ∙ c.has_shape.ensures) refl refl refl

pub returns-then-expect-eq-IMPLICIT : goal.returns-then-expect-eq-IMPLICIT
returns-then-expect-eq-IMPLICIT c =
    let e = c.args.expect.now in
    let before : c.unsent_of.result.now ≡ unsent (member_bytes e.wide) e.header c.args.cstate.now =
    grind (arith, common_steps) in
    let word =
    sym c.if-not-ends_with_word.true ∙ c.ends_with_word.ensures
    ∙ ap (λ bs. has_word c.args.start bs c.args.bytes.now) before in
    let explicit : false ≡ is_explicit e.header = sym (ap is_explicit c.if-expect-eq-IMPLICIT.true) in
    match_of-found e.wide c.args.bytes.now e.header e.payload c.args.start c.args.cstate.now true false _ false
    (sym c.if-not-has_shape.false ∙ c.has_shape.ensures) word refl explicit

pub returns-else-expect-eq-IMPLICIT : goal.returns-else-expect-eq-IMPLICIT
returns-else-expect-eq-IMPLICIT c =
    let e = c.args.expect.now in
    let before : c.unsent_of.result.now ≡ unsent (member_bytes e.wide) e.header c.args.cstate.now =
    grind (arith, common_steps) in
    let word =
    sym c.if-not-ends_with_word.true ∙ c.ends_with_word.ensures
    ∙ ap (λ bs. has_word c.args.start bs c.args.bytes.now) before in
    let explicit : true ≡ is_explicit e.header = sym (ap not (ne_eqb e.header 0 c.if-expect-eq-IMPLICIT.false)) in
    match_of-found e.wide c.args.bytes.now e.header e.payload c.args.start c.args.cstate.now true false _ true
    (sym c.if-not-has_shape.false ∙ c.has_shape.ensures) word refl explicit

pub returns-then-carries : goal.returns-then-carries
returns-then-carries c =
    let e = c.args.expect.now in
    let before : c.unsent_of.result.now ≡ unsent (member_bytes e.wide) e.header c.args.cstate.now =
    grind (arith, common_steps) in
    let piece : c.sent_of.result.now ≡ sent (member_bytes e.wide) e.header c.args.cstate.now =
    grind (arith, common_steps) in
    let word =
    sym c.if-not-ends_with_word.false ∙ c.ends_with_word.ensures
    ∙ ap (λ bs. has_word c.args.start bs c.args.bytes.now) before in
    let carried = sym c.if-carries.true ∙ c.carries.ensures ∙ ap (λ bs. carries bs c.args.bytes.now) piece in
    match_of-found e.wide c.args.bytes.now e.header e.payload c.args.start c.args.cstate.now true true true _
    (sym c.if-not-has_shape.false ∙ c.has_shape.ensures) word carried refl

pub returns-else-carries : goal.returns-else-carries
returns-else-carries c =
    let e = c.args.expect.now in
    let before : c.unsent_of.result.now ≡ unsent (member_bytes e.wide) e.header c.args.cstate.now =
    grind (arith, common_steps) in
    let piece : c.sent_of.result.now ≡ sent (member_bytes e.wide) e.header c.args.cstate.now =
    grind (arith, common_steps) in
    let word =
    sym c.if-not-ends_with_word.false ∙ c.ends_with_word.ensures
    ∙ ap (λ bs. has_word c.args.start bs c.args.bytes.now) before in
    let carried = sym c.if-carries.false ∙ c.carries.ensures ∙ ap (λ bs. carries bs c.args.bytes.now) piece in
    match_of-found e.wide c.args.bytes.now e.header e.payload c.args.start c.args.cstate.now true true false _
    (sym c.if-not-has_shape.false ∙ c.has_shape.ensures) word carried refl
