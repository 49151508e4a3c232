use Rattle.trace_check.proofs.Words.{◌≡◌, ◌∙◌, ℕ, ◌-◌, Some, set, refl, ap, sym, arith, slice_get, messages_written}
use Rattle.trace_check.proofs.Words.{number_taken, oldest_number}
use Rattle.trace_check.proofs.Taken.{chooses-found, chooses-oldest, oldest-read, taken-none}
use Rattle.trace_check.proofs.outgoing.Outgoing.take.Goals as goal

pub returns-in-Some : goal.returns-in-Some
returns-in-Some c = λ list f chooses within old.
    let script = c.args.script.now in
    let slot = c.args.slot in
    let node = c.args.node in
    let o = c.args.self.now in
    let read = c.index-newest.result.now in
    let is : read ≡ oldest_number list script slot node =
    oldest-read o list script slot f node c.from.result read chooses within c.from.ensures c.index-newest.ensures in
    let found : slice_get (messages_written script node slot) (c.args.number - oldest_number list script slot node - 1)
    ≡ Some c.in-Some.payload.now =
    ap (λ (n : ℕ). slice_get (messages_written script node slot) (c.args.number - n - 1)) (sym is)
    ∙ sym c.in-Some.ensures in
    chooses-found o _ list script slot f node c.args.number c.in-Some.payload.now
    (record { number = c.args.number; payload = c.of.result }) chooses within
    (omega (arith, is, c.if-number-newest.false)) found refl
    (ap (λ (j : ℕ). set o.chosen.items j
    (record { number = c.args.number; payload = c.of.result })) c.from-in-Some.ensures)
    (λ i. record { number = c.args.number; payload = (c.of.ensures ∙ c.bytes.ensures.value) i })

pub returns-in_default : goal.returns-in_default
returns-in_default c = λ list f chooses within old.
    let script = c.args.script.now in
    let slot = c.args.slot in
    let node = c.args.node in
    let o = c.args.self.now in
    let read = c.index-newest.result.now in
    let is : read ≡ oldest_number list script slot node =
    oldest-read o list script slot f node c.from.result read chooses within c.from.ensures c.index-newest.ensures in
    chooses-oldest o list script slot f node (number_taken list script slot node (Some c.args.number)) chooses old
    (taken-none list script slot node c.args.number (omega (arith, is, c.if-number-newest.false))
    (ap (λ (n : ℕ). slice_get (messages_written script node slot) (c.args.number - n - 1)) (sym is)
    ∙ sym c.in_default.ensures))
