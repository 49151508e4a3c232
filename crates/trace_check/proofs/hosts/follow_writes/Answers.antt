use Rattle.trace_check.proofs.Words.{◌≡◌, ◌∙◌, ℕ, ◌+◌, List, Some, None, Bor, take, drop, sym, ap, subst, arith}
use Rattle.trace_check.proofs.Words.{option_map, filter_map, take_all, host_write, write_at, writes_in, write_lines}
use Rattle.trace_check.proofs.Words.{Departs}
use Rattle.std.proofs.lemmas.List.{append-nil}
use Rattle.ttp_world.proofs.HostMessages.{valid_write_at}
use Rattle.trace_check.proofs.Labels.{passed_up}
use Rattle.trace_check.proofs.Writes.{split_at, taken}
use Rattle.trace_check.proofs.Written.{HasWrittenLines, lines_along, lines-depart, lines-next}
use Rattle.trace_check.proofs.Written.{lines-none, number-small, written-all}
use Rattle.trace_check.proofs.hosts.follow_writes.Goals as goal
use Rattle.trace_check.proofs.hosts.follow_writes.Goals.{in-Some+in_ok-rest, in_default}

pub loop-at-init : goal.loop-at-init
loop-at-init c = lines-none c.args.outgoing.now c.args.list.now c.args.script.now
    c.args.slot c.args.text.now c.requires.chosen

pub write-number-requires-clause-newest : goal.write-number-requires-clause-newest
write-number-requires-clause-newest c =
    let write = valid_write_at c.args.list.now c.args.script.now _ (host_write c.in-Some.written) c.requires.script
    (sym c.in-Some.ensures) in
    omega (arith, write.node, c.loop-at.invariant.written.hosts)

pub write-number-requires-clause-chosen : goal.write-number-requires-clause-chosen
write-number-requires-clause-chosen c =
    let write = valid_write_at c.args.list.now c.args.script.now _ (host_write c.in-Some.written) c.requires.script
    (sym c.in-Some.ensures) in
    omega (arith, write.node, c.loop-at.invariant.written.nodes)

pub write-number-requires-clause-few : goal.write-number-requires-clause-few
write-number-requires-clause-few c =
    let script = c.args.script.now in
    let at = write_at script in
    let places = c.writes-places.result.now in
    let i = c.loop-at.at-index in
    let w = host_write c.in-Some.written in
    let write = valid_write_at c.args.list.now script _ w c.requires.script (sym c.in-Some.ensures) in
    number-small c.loop-at.outgoing c.args.list.now script c.args.slot c.args.text.now c.loop-at.rest.now
    (filter_map at (take i places)) (filter_map at (drop (i + 1) places)) w c.loop-at.invariant write.node
    (sym c.writes-places.ensures ∙ split_at at places i 0 w c.loop-at-test.true (sym c.in-Some.ensures))
    c.requires.list c.requires.script (omega arith)

pub returns-in_err-rest-clause-wrong : goal.returns-in_err-rest-clause-wrong
returns-in_err-rest-clause-wrong c =
    let script = c.args.script.now in
    let at = write_at script in
    let places = c.writes-places.result.now in
    let i = c.loop-at.at-index in
    let w = host_write c.in-Some.written in
    let write = valid_write_at c.args.list.now script _ w c.requires.script (sym c.in-Some.ensures) in
    passed_up c.from_residual.result c.in_err-rest.field-0.0 _ c.from_residual.ensures.1
    (subst (Departs c.args.text.now (write_lines c.args.list.now script c.args.slot)) (sym c.in_err-rest.ensures.wrong)
    (lines-depart c.loop-at.outgoing c.args.list.now script c.args.slot c.args.text.now c.loop-at.rest.now
    (filter_map at (take i places)) (filter_map at (drop (i + 1) places)) w c.loop-at.invariant write.node
    (sym c.writes-places.ensures ∙ split_at at places i 0 w c.loop-at-test.true (sym c.in-Some.ensures))
    c.write-number.result c.write-number.ensures.number
    (sym c.behind_write_line-behind.ensures ∙ c.in_err-rest.ensures.none)))

pub loop-at-preserved : goal.loop-at-preserved
loop-at-preserved c =
    let list = c.args.list.now in
    let script = c.args.script.now in
    let at = write_at script in
    let places = c.writes-places.result.now in
    let i = c.loop-at.at-index in
    elim c.match-write.branch [
      | in-Some+in_ok-rest v ↦
          let w = host_write v.in-Some.written in
          let write = valid_write_at list script _ w c.requires.script (sym v.in-Some.ensures) in
          lines_along list script c.args.slot c.args.text.now
          (taken at places i 0 (Some w) c.loop-at-test.true (sym v.in-Some.ensures)) v.outgoing-is
          (ap (λ (r : Bor (List ℕ)). r.now) v.rest-is)
          (lines-next c.loop-at.outgoing list script c.args.slot c.args.text.now c.loop-at.rest.now
          (filter_map at (take i places)) (filter_map at (drop (i + 1) places)) w c.loop-at.invariant write.node
          (sym c.writes-places.ensures ∙ split_at at places i 0 w c.loop-at-test.true (sym v.in-Some.ensures))
          v.write-number.new.self v.write-number.result v.in_ok-rest.rest.now v.write-number.ensures.number
          v.write-number.ensures.newest v.write-number.ensures.chosen
          (sym v.behind_write_line-behind.ensures ∙ v.in_ok-rest.ensures.ok))
      | in_default v ↦
          lines_along list script c.args.slot c.args.text.now
          (taken at places i 0 None c.loop-at-test.true
          (sym c.write.ensures ∙ ap (option_map host_write) v.in_default.is)
          ∙ append-nil (filter_map at (take i places))) v.outgoing-is
          (ap (λ (r : Bor (List ℕ)). r.now) v.rest-is) c.loop-at.invariant
    ]

all_written : (c : goal.After-loop-at)
    → HasWrittenLines c.loop-at.outgoing c.args.list.now c.args.script.now c.args.slot c.args.text.now
    c.loop-at.rest.now (writes_in c.args.script.now c.args.slot)
all_written c =
    let at = write_at c.args.script.now in
    let places = c.writes-places.result.now in
    let all : take c.loop-at.at-index places ≡ places = take_all c.loop-at.at-index places (omega arith) in
    subst (HasWrittenLines c.loop-at.outgoing c.args.list.now c.args.script.now c.args.slot c.args.text.now
    c.loop-at.rest.now) (ap (filter_map at) all ∙ c.writes-places.ensures) c.loop-at.invariant

pub returns-clause-ok : goal.returns-clause-ok
returns-clause-ok c = (all_written c).begins

pub returns-clause-holds : goal.returns-clause-holds
returns-clause-holds c =
    let all = all_written c in
    written-all c.loop-at.outgoing c.args.list.now c.args.script.now c.args.slot all.number all.written all.legal
