use Rattle.trace_check.proofs.Words.{◌≡◌, ◌∙◌, ◌+◌, ℕ, List, Some, ap, sym, subst, arith, delivered_of, after_label}
use Rattle.trace_check.proofs.Words.{row_after, IsHostAndSource, newest_before}
use Rattle.ttp_world.specs.declared.script.Source.TheVariants as source
use Rattle.trace_check.proofs.Ended.{delivered-none, delivered-other, ended-delivered}
use Rattle.trace_check.proofs.Rings.{after-own, after-same, after-status, line_read, new_read-none, new_read-some}
use Rattle.trace_check.proofs.Rings.{newer_payload, newer_status, newest-payload, newest-status}
use Rattle.trace_check.proofs.Shown.{number-few}
use Rattle.trace_check.proofs.hosts.behind_newer.Goals as goal
use Rattle.trace_check.proofs.hosts.behind_newer.Goals.{in_default-via-in-Some+else-delivered-from}
use Rattle.trace_check.proofs.hosts.behind_newer.Goals.{in_default-via-in_default}

pub overflow_add-number : goal.overflow_add-number
overflow_add-number c =
    let list = c.args.list.now in
    let read = c.args.read.now in
    let both = subst (IsHostAndSource list read.host) c.in-Node.is c.requires.ring in
    let few = number-few c.args.plant.now c.args.incoming.now list c.args.slot read.host c.in-Some.delivered.now
    both.0 c.in-Some.ensures c.requires.past c.in-Node.from c.payload.result.now both.1 c.payload.ensures in
    omega arith

pub returns-in-Status : goal.returns-in-Status
returns-in-Status c = λ script history chosen ended count.
    let list = c.args.list.now in
    let read = c.args.read.now in
    let plant = c.args.plant.now in
    let before = newest_before list script history read in
    let number : c.from.result ≡ before =
    c.from.ensures ∙ newest-status list script history read c.args.slot c.in-Status.is count in
    c.behind_status_line.ensures
    ∙ ap (λ (line : List ℕ). after_label line c.args.text.now)
    (line_read list script history chosen read c.args.slot source.Status (c.from.result + 1) (before + 1)
    c.status-status.result.words count c.in-Status.is (ap (λ (n : ℕ). n + 1) number)
    (ap (λ s. s.words) c.status-status.ensures
    ∙ newer_status list script history chosen read plant c.args.incoming.now c.in-Status.is c.requires.ring ended))
    ∙ sym (new_read-some list script history chosen read c.args.text.now
    (omega (arith, after-status list script history chosen read c.in-Status.is)))

pub returns-in-Some : goal.returns-in-Some
returns-in-Some c = λ script history chosen ended count.
    let list = c.args.list.now in
    let read = c.args.read.now in
    let plant = c.args.plant.now in
    let incoming = c.args.incoming.now in
    let p = c.in-Node.from in
    let d = c.in-Some.delivered.now in
    let both = subst (IsHostAndSource list read.host) c.in-Node.is c.requires.ring in
    let before = newest_before list script history read in
    let there : delivered_of list script history (row_after list script history chosen) read.host ≡ Some d =
    sym (c.in-Some.ensures ∙ ended-delivered plant incoming list script history chosen ended read.host both.0) in
    let own = c.if-delivered-from.true in
    let number : c.payload.result.now.number ≡ before =
    newest-payload incoming list script history read p c.payload.result.now c.in-Node.is c.requires.ring ended.rings
    c.payload.ensures in
    c.behind_payload_line.ensures
    ∙ ap (λ (line : List ℕ). after_label line c.args.text.now)
    (line_read list script history chosen read c.args.slot (source.Node p) (c.payload.result.now.number + 1)
    (before + 1) c.bytes-bytes.result.now count c.in-Node.is (ap (λ (n : ℕ). n + 1) number)
    (c.bytes-bytes.ensures.value ∙ newer_payload list script history chosen read p c.in-Node.is d there own))
    ∙ sym (new_read-some list script history chosen read c.args.text.now
    (omega (arith, after-own list script history chosen read p c.in-Node.is d there own)))

pub returns-in_default : goal.returns-in_default
returns-in_default c = λ script history chosen ended count.
    let list = c.args.list.now in
    let read = c.args.read.now in
    let plant = c.args.plant.now in
    let incoming = c.args.incoming.now in
    let p = c.in-Node.from in
    let row = row_after list script history chosen in
    let both = subst (IsHostAndSource list read.host) c.in-Node.is c.requires.ring in
    let same = ended-delivered plant incoming list script history chosen ended read.host both.0 in
    sym (new_read-none list script history chosen read c.args.text.now
    (after-same list script history chosen read p c.in-Node.is
    (elim c.in_default.branch [
      | in_default-via-in-Some+else-delivered-from w ↦
          delivered-other list script row history read.host w.in-Some.delivered.now p
          (sym (w.in-Some.ensures ∙ same)) w.if-delivered-from.false
      | in_default-via-in_default w ↦
          delivered-none list script row history read.host p (sym (w.in_default.ensures ∙ same))
    ])))
