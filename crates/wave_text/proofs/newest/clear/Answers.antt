use Rattle.wave_text.proofs.Words.{ℕ, None, set, ◌+◌, subst, sym, arith, Port}
use Rattle.shown_slot.specs.declared.host.What.TheVariants as what
use Rattle.wave_text.proofs.Noting.{AreCleared, cleared-more}
use Rattle.wave_text.proofs.newest.clear.Goals as goal

pub loop-port-init : goal.loop-port-init
loop-port-init c = record { size = c.requires.size; none = λ i d below within. absurd (omega (arith, below)) }

pub loop-port-preserved : goal.loop-port-preserved
loop-port-preserved c =
    let ports = c.args.ports.now in
    let i = c.loop-port.port-index in
    let e : Port = record { host = 0; what = what.Write; size = 0 } in
    subst (λ (p : ℕ). AreCleared ports (set c.loop-port.messages p None) (i + 1)) (sym c.table_place.ensures.value)
    (cleared-more ports c.loop-port.messages i e (omega (arith, c.loop-port-test.true))
    (c.requires.ports i e (omega (arith, c.loop-port-test.true))) c.loop-port.invariant)

pub returns : goal.returns
returns c = λ i d less. c.loop-port.invariant.none i d (omega (arith, less, c.loop-port-test.false)) less
