use Rattle.trace_check.proofs.Words.{◌≡◌, ◌∙◌, ◌+◌, ◌++◌, ◌∷◌, [], ℕ, List, length, get_or, take, Some, sym, ap, arith}
use Rattle.trace_check.proofs.Words.{length-append, slice_get, option_map, filter_map, take_all, host_write, write_at}
use Rattle.trace_check.proofs.Words.{messages_written}
use Rattle.std.proofs.lemmas.Option.{slice_get_past}
use Rattle.trace_check.proofs.Writes.{found, messages_at, messages_at-own, messages_at-other}
use Rattle.trace_check.proofs.Writes.{messages_at-none, messages_by}
use Rattle.trace_check.proofs.outgoing.written_in.Goals as goal
use Rattle.trace_check.proofs.outgoing.written_in.Goals.{in-Some+then-written-host+else-before-eq0}
use Rattle.trace_check.proofs.outgoing.written_in.Goals.{in-Some+else-written-host, in_default}

pub returns-then-before-eq0 : goal.returns-then-before-eq0
returns-then-before-eq0 c =
    let at = write_at c.args.script.now in
    let places = c.writes-places.result.now in
    let w = host_write c.in-Some.written in
    let is : at (get_or places c.loop-at.at-index 0) ≡ Some w = sym c.in-Some.ensures in
    sym (ap (λ ws. slice_get (messages_by c.args.host ws) c.args.place) (sym c.writes-places.ensures)
    ∙ found at c.args.host places c.loop-at.at-index w c.args.place c.loop-at-test.true is c.if-written-host.true
    (omega (arith, c.loop-at.invariant, c.if-before-eq0.true)))

pub loop-at-preserved : goal.loop-at-preserved
loop-at-preserved c =
    let at = write_at c.args.script.now in
    let host = c.args.host in
    let places = c.writes-places.result.now in
    let i = c.loop-at.at-index in
    elim c.match-write.branch [
      | in-Some+then-written-host+else-before-eq0 v ↦
          let w = host_write v.in-Some.written in
          let next : messages_at at host places (i + 1) ≡ messages_at at host places i ++ w.payload ∷ [] =
          messages_at-own at host places i w c.loop-at-test.true (sym v.in-Some.ensures) v.if-written-host.true in
          omega (
            arith,
            c.loop-at.invariant,
            ap length next,
            length-append (messages_at at host places i) (w.payload ∷ []),
            v.before-is,
            v.if-before-eq0.false,
          )
      | in-Some+else-written-host v ↦
          let w = host_write v.in-Some.written in
          let next : messages_at at host places (i + 1) ≡ messages_at at host places i =
          messages_at-other at host places i w c.loop-at-test.true (sym v.in-Some.ensures) v.if-written-host.false in
          omega (arith, c.loop-at.invariant, ap length next, v.before-is)
      | in_default v ↦
          let next : messages_at at host places (i + 1) ≡ messages_at at host places i =
          messages_at-none at host places i c.loop-at-test.true
          (sym c.write.ensures ∙ ap (option_map host_write) v.in_default.is) in
          omega (arith, c.loop-at.invariant, ap length next, v.before-is)
    ]

pub returns : goal.returns
returns c =
    let at = write_at c.args.script.now in
    let host = c.args.host in
    let places = c.writes-places.result.now in
    let all : take c.loop-at.at-index places ≡ places = take_all c.loop-at.at-index places (omega arith) in
    sym (slice_get_past (messages_written c.args.script.now host c.args.slot) c.args.place
    (omega (
      arith,
      c.loop-at.invariant,
      ap (λ (ps : List ℕ). length (messages_by host (filter_map at ps))) all,
      ap (λ ws. length (messages_by host ws)) c.writes-places.ensures,
    )))
