use Rattle.std.proofs.Common.{◌≡◌, [], ◌∷◌, cond, ap, subst, ◌∙◌, arith}
use Rattle.causes.specs.Judged.{against_sources, came_as_sent, sender_heard}
use Rattle.causes.specs.LinesOf.{heard_in, spoilt_in}
use Rattle.causes.specs.Said.{said}
use Rattle.causes.specs.Sources.{only_entries}
use Rattle.entry_causes.proofs.Remaining.{adds-same, cond-elim}
use Rattle.run_looks.specs.Added.{AddsSources}
use Rattle.run_rows.specs.Rows.{past_slots, run_slot}
use Rattle.ttp_world.specs.declared.script.Channel.{Channel}
use Rattle.entry_causes.proofs.judged.add_against.Goals as goal

pub add_said-requires-clause-sender : goal.add_said-requires-clause-sender
add_said-requires-clause-sender c =
    let run = c.args.run.now in
    c.sender_heard-sender.ensures.node run.list (run_slot run c.args.slot) (omega (arith, c.requires.node))
    c.heard_in-heard.ensures.sender

pub returns : goal.returns
returns c =
    let run = c.args.run.now in
    let k = c.args.node in
    let s = run_slot run c.args.slot in
    let before = past_slots run c.args.slot in
    let ch = c.second_channel.result in
    let p = c.sender_heard-sender.result in
    let signal = c.heard_in-heard.ensures.signal in
    let heard = c.sender_heard-sender.ensures.value ∙ ap sender_heard signal in
    let as_sent = c.came_as_sent.ensures ∙ c.heard_in-heard.ensures.as_sent in
    subst (λ (ch : Channel).
    (p ≡ sender_heard (heard_in k s ch))
    × AddsSources c.args.out.now c.add_said.new.out (against_sources k s before (heard_in k s ch)))
    c.second_channel.ensures (
      heard,
      adds-same c.args.out.now c.add_said.new.out
          (cond c.came_as_sent.result (only_entries (said p k before ∷ [])) (spoilt_in k s))
          (against_sources k s before (heard_in k s ch))
          ((λ i. cond (as_sent i) (only_entries (said (heard i) k before ∷ [])) (spoilt_in k s))
          ∙ cond-elim (came_as_sent s (heard_in k s ch))
          (only_entries (said (sender_heard (heard_in k s ch)) k before ∷ []))
          (spoilt_in k s)) c.in_ok-add_said.ensures,
    )
