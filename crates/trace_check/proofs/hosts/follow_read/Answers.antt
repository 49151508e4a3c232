use Rattle.trace_check.proofs.Words.{◌≡◌, ◌∙◌, ◌+◌, ◌≤◌, ℕ, None, set, ap, sym, subst, arith, false≢true, ReadsNone}
use Rattle.trace_check.proofs.Words.{behind_read, floor_of, floor_place, newest_before}
use Rattle.trace_check.proofs.Labels.{passed_up}
use Rattle.trace_check.proofs.OneRead.{floor_within, reads-newer, reads-none, reads-older}
use Rattle.trace_check.proofs.Rings.{newest-few}
use Rattle.trace_check.proofs.hosts.follow_read.Goals as goal
use Rattle.trace_check.proofs.hosts.follow_read.Goals.{then-may_read+in_default, else-may_read}

pub may_read-requires-clause-place : goal.may_read-requires-clause-place
may_read-requires-clause-place c =
    floor_within c.args.incoming.now c.args.list.now c.args.read.now.host c.args.read.now.source
    c.requires.past.ended.rings.places c.requires.ring

pub read_new-requires-clause-place : goal.read_new-requires-clause-place
read_new-requires-clause-place c =
    floor_within c.args.incoming.now c.args.list.now c.args.read.now.host c.args.read.now.source
    c.requires.past.ended.rings.places c.requires.ring

pub overflow_add-before : goal.overflow_add-before
overflow_add-before c =
    let past = c.requires.past in
    omega (
      arith,
      c.newest-before.ensures c.args.list.now past.script past.history (sym past.few) past.ended.rings c.requires.ring,
      newest-few c.args.list.now past.script past.history c.args.read.now,
      past.few,
      past.small,
    )

pub returns-in-Some-clause-ok : goal.returns-in-Some-clause-ok
returns-in-Some-clause-ok c = λ script history chosen earlier ended count knows.
    let list = c.args.list.now in
    let read = c.args.read.now in
    let incoming = c.args.incoming.now in
    let before : c.newest-before.result ≡ newest_before list script history read =
    c.newest-before.ensures list script history count ended.rings c.requires.ring in
    let low : floor_of incoming read.host read.source ≤ c.newest-before.result =
    c.may_read.ensures.0 c.if-may_read.true in
    reads-older list script history chosen earlier read incoming knows c.requires.ring c.args.text.now
    c.in-Some.rest.now (omega (arith, low, before))
    (sym (c.in-Some.ensures script history chosen count ended.rings))

pub returns-in_err-rest-clause-wrong : goal.returns-in_err-rest-clause-wrong
returns-in_err-rest-clause-wrong c = λ script history chosen earlier ended count knows.
    let list = c.args.list.now in
    let read = c.args.read.now in
    let incoming = c.args.incoming.now in
    let text = c.args.text.now in
    let older = newest_before list script history read in
    let before : c.newest-before.result ≡ older =
    c.newest-before.ensures list script history count ended.rings c.requires.ring in
    let no_older : floor_of incoming read.host read.source ≤ older
    → behind_read list script history chosen read older text ≡ None =
    λ low. elim c.if-may_read.branch [
      | then-may_read+in_default w ↦ sym (w.in_default.ensures script history chosen count ended.rings)
      | else-may_read w ↦
          absurd (false≢true (sym w.if-may_read.false ∙ c.may_read.ensures.1 (omega (arith, low, before))))
    ] in
    passed_up c.from_residual.result c.in_err-rest.field-0.0 _ c.from_residual.ensures.1
    (subst (ReadsNone list script history chosen earlier read text) (sym c.in_err-rest.ensures.wrong)
    (reads-none list script history chosen earlier read incoming knows c.requires.ring text no_older
    (sym (c.behind_newer-behind.ensures script history chosen ended count) ∙ c.in_err-rest.ensures.none)))

pub returns-clause-ok : goal.returns-clause-ok
returns-clause-ok c = λ script history chosen earlier ended count knows.
    let list = c.args.list.now in
    let read = c.args.read.now in
    let incoming = c.args.incoming.now in
    let before : c.newest-before.result ≡ newest_before list script history read =
    c.newest-before.ensures list script history count ended.rings c.requires.ring in
    reads-newer list script history chosen earlier read incoming knows c.requires.ring c.read_new.new.self
    ended.rings.places c.read_new.ensures.nodes
    (c.read_new.ensures.floors
    ∙ ap (λ (n : ℕ). set incoming.floors.items (floor_place incoming.nodes read.host read.source) (n + 1)) before)
    c.args.text.now c.in_ok-rest.rest.now
    (sym (c.behind_newer-behind.ensures script history chosen ended count) ∙ c.in_ok-rest.ensures.ok)
