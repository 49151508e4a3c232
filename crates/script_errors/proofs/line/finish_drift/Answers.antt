use Rattle.std.proofs.Common.{◌≡◌, ℕ, ap, sym, ◌∙◌, subst, get_or}
use Rattle.std.proofs.lemmas.Result.{on_ok_weaker}
use Rattle.script_text.specs.Statement.{Statement, says_drift}
use Rattle.script_text.specs.Numbers.{decimal_value, value_in}
use Rattle.script_errors.specs.declared.error.Wrong.TheVariants as wrong
use Rattle.script_errors.specs.Spots.{spot, spot_text}
use Rattle.script_errors.specs.Errors.{again, stated_wrong, with_taken, line_stating_drift}
use Rattle.script_errors.specs.SoFar.{StandsFor}
use Rattle.script_errors.proofs.Stated.{states_drift, finishes_told, finishes_kept}
use Rattle.script_errors.proofs.line.finish_drift.Goals as goal

pub returns-in-Some : goal.returns-in-Some
returns-in-Some c = on_ok_weaker c.tell.result (λ now list before stands.
    let node : c.number_at-node.result
    ≡ decimal_value (spot_text c.args.line.now (get_or c.args.words.now 0 (spot 0 0))) =
    c.number_at-node.ensures c.requires.number in
    finishes_told list before _ _ _ _ _ _ _ _ (wrong.DriftAgain c.number_at-node.result c.in-Some.line)
    (ap (stated_wrong list before) (states_drift c.args.line.now c.args.first c.args.words.now c.requires.full)
    ∙ ap (λ (k : ℕ). again (wrong.DriftAgain k) (line_stating_drift before k)) (sym node)
    ∙ ap (again (wrong.DriftAgain c.number_at-node.result))
    (sym (c.line_stating_drift.ensures list before stands) ∙ c.in-Some.is))
    (c.name.ensures list before stands) now) c.tell.ensures

pub returns : goal.returns
returns c = λ list before stands.
    let node : c.number_at-node.result
    ≡ decimal_value (spot_text c.args.line.now (get_or c.args.words.now 0 (spot 0 0))) =
    c.number_at-node.ensures c.requires.number in
    let says = states_drift c.args.line.now c.args.first c.args.words.now c.requires.full in
    finishes_kept list before _ _ _ _ _ _ _
    (ap (stated_wrong list before) says
    ∙ ap (λ (k : ℕ). again (wrong.DriftAgain k) (line_stating_drift before k)) (sym node)
    ∙ ap (again (wrong.DriftAgain c.number_at-node.result))
    (sym (c.line_stating_drift.ensures list before stands) ∙ c.in_default.is))
    (subst (λ (s : Statement). StandsFor list c.take_drift.new.self (with_taken before c.args.number s))
    (ap (λ (k : ℕ). says_drift k (value_in (spot_text c.args.line.now (get_or c.args.words.now 1 (spot 0 0))))) node
    ∙ sym says)
    (c.take_drift.ensures list before
    (value_in (spot_text c.args.line.now (get_or c.args.words.now 1 (spot 0 0)))) stands))
