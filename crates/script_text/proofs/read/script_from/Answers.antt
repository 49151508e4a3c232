use Rattle.script_text.proofs.Terms.{sym, ap, ◌∙◌, inr, map, pos, unwrap_or}
use Rattle.script_text.proofs.Told.{stated_script-kept}
use Rattle.script_text.proofs.read.script_from.Goals as goal

pub returns : goal.returns
returns c = λ said stands.
    inr (sym (stated_script-kept c.args.list.now c.args.so_far said c.args.number c.in-Some.slots c.from_vec.result
    c.in_ok-drift.drift c.in_ok-events.events stands c.requires.nodes c.in-Some.is c.from_vec.ensures
    (c.in_ok-drift.ensures ∙ ap (map (λ d. unwrap_or d (pos 0))) c.deref.ensures.value) c.in_ok-events.ensures))
