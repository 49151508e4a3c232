use Rattle.hypothesis.proofs.Words.{◌≡◌, false, ap, sym, ◌∙◌, rules, loses, incidents_of, may_lose, told_start}
use Rattle.hypothesis.proofs.Kept.{loss-before, loss-none, no-jumpers, loses-none}
use Rattle.hypothesis.proofs.losses.is_calm.Goals as goal

pub returns-then-slot-start : goal.returns-then-slot-start
returns-then-slot-start c = λ script faulty kept calm.
    let list = c.args.list.now in
    let still : c.args.kept.now.jump ≡ false = search rules in (
      loss-before list script (told_start c.args.start) faulty c.args.slot c.if-slot-start.true,
      no-jumpers list script faulty c.args.slot (kept.jumps still),
    )

pub returns : goal.returns
returns c = λ script faulty kept calm.
    let list = c.args.list.now in
    let slot = c.args.slot in
    let sender = c.expected_sender-sender.result in
    let unheard = c.args.kept.now.incidents.kinds.unheard in
    let still : c.args.kept.now.jump ≡ false = search rules in
    let none : may_lose (incidents_of script sender slot) unheard ≡ false =
    ap (λ sending. may_lose sending unheard) (sym (kept.nodes sender _ c.expected_sender-sender.ensures.bound))
    ∙ sym c.may_lose.ensures ∙ search rules in (
      loss-none list script (told_start c.args.start) faulty slot
          (λ k less. ap (λ s. loses script s slot k) (sym c.expected_sender-sender.ensures.value)
          ∙ loses-none script sender slot k c.args.kept.now.incidents.kinds (kept.kinds k less) none),
      no-jumpers list script faulty slot (kept.jumps still),
    )
