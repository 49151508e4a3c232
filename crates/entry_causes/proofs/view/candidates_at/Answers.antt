use Rattle.std.proofs.Common.{ℕ, ◌<◌, ◌≤◌, length, subst, sym, ◌∙◌, arith}
use Rattle.entry_causes.proofs.FromBelow.{HaveRooms, candidates-room}
use Rattle.entry_causes.proofs.MemberFacts.{doubt-in, doubt-of, members-in}
use Rattle.entry_causes.specs.Differences.{IfDoubted}
use Rattle.run_rows.specs.declared.row.NodeRow.{NodeRow}
use Rattle.ttp_world.proofs.Lists.{nodes-most}
use Rattle.ttp_world.specs.Membership.{AreNodes}
use Rattle.ttp_world.specs.Reception.{Candidates, candidates}
use Rattle.ttp_world.specs.declared.node.Ack.{Ack}
use Rattle.ttp_world.specs.declared.node.Ack.TheVariants as ack
use Rattle.entry_causes.proofs.view.candidates_at.Goals as goal
use Rattle.entry_causes.proofs.view.candidates_at.Goals.{After-candidates}

-- a doubt about a node of few is one about a node of more
doubted-less : (a : Ack) (n m : ℕ) → n ≤ m → IfDoubted a (λ x. x < n) → IfDoubted a (λ x. x < m)
doubted-less (ack.Doubt x) n m few is = omega (arith, few, is)
doubted-less _ n m few is = tt

pub candidates-requires-clause-doubt : goal.candidates-requires-clause-doubt
candidates-requires-clause-doubt c =
    let run = c.args.run.now in
    subst (λ (r : NodeRow). IfDoubted r.begun.ack (λ x. x < 24)) (sym c.row.ensures)
    (doubted-less _ (length run.list.slots) 24 (nodes-most run.list c.requires.valid)
    (doubt-in run.list run.script c.args.slot c.args.node c.requires.valid c.requires.node))

rooms : (c : After-candidates)
    → HaveRooms c.args.run.now.list (record { first = c.candidates.result.0; second = c.candidates.result.1 })
rooms c =
    let run = c.args.run.now in
    let row = c.row.result.now in
    let doubt : IfDoubted row.begun.ack (λ x. x < length run.list.slots) =
    subst (λ (r : NodeRow). IfDoubted r.begun.ack (λ x. x < length run.list.slots)) (sym c.row.ensures)
    (doubt-in run.list run.script c.args.slot c.args.node c.requires.valid c.requires.node) in
    let members : AreNodes run.list row.begun.cstate.members =
    subst (λ (r : NodeRow). AreNodes run.list r.begun.cstate.members) (sym c.row.ensures)
    (members-in run.list run.script c.args.slot c.args.node c.requires.node) in
    subst (λ (some : Candidates). HaveRooms run.list some) (sym c.candidates.ensures)
    (candidates-room run.list row.begun.ack c.args.node c.requires.valid c.requires.node
    (doubt-of row.begun.ack (length run.list.slots) doubt) row.begun.cstate.members
    c.args.sender c.requires.sender members)

pub returns-clause-value : goal.returns-clause-value
returns-clause-value c =
    c.candidates.ensures
    ∙ (λ i. candidates (c.row.ensures i).begun.ack c.args.node
    (c.row.ensures i).begun.cstate.members (c.requires.place i))

pub returns-clause-first : goal.returns-clause-first
returns-clause-first c = (rooms ((goal.at.returns-clause-first c).After-candidates)).first

pub returns-clause-second : goal.returns-clause-second
returns-clause-second c = (rooms ((goal.at.returns-clause-second c).After-candidates)).second
