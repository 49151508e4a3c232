use Rattle.two_faced.proofs.Judged.{runs-active, runs-judged, runs-members, runs-clocks}
use Rattle.two_faced.proofs.Rules.{rules-hold}
use Rattle.two_faced.proofs.SeenWithin.{runs-seen}
use Rattle.two_faced.proofs.law.halved.Goals as goal

pub returns-clause-active : goal.returns-clause-active
returns-clause-active c numbers legal after within =
    runs-active c.args.list.now c.args.script.now c.args.node c.args.start c.requires.valid c.requires.script
    (rules-hold c.args.list.now c.args.script.now c.args.node c.args.start c.requires.faced) numbers legal after within

pub returns-clause-correct : goal.returns-clause-correct
returns-clause-correct c numbers legal after within =
    runs-judged c.args.list.now c.args.script.now c.args.node c.args.start c.requires.valid c.requires.script
    (rules-hold c.args.list.now c.args.script.now c.args.node c.args.start c.requires.faced) numbers legal within

pub returns-clause-members : goal.returns-clause-members
returns-clause-members c numbers legal after within =
    runs-members c.args.list.now c.args.script.now c.args.node c.args.start c.requires.valid c.requires.script
    (rules-hold c.args.list.now c.args.script.now c.args.node c.args.start c.requires.faced) numbers legal after within

pub returns-clause-clocks : goal.returns-clause-clocks
returns-clause-clocks c numbers legal after within =
    runs-clocks c.args.list.now c.args.script.now c.args.node c.args.start c.requires.valid c.requires.script
    (rules-hold c.args.list.now c.args.script.now c.args.node c.args.start c.requires.faced) numbers legal after within

pub returns-clause-seen : goal.returns-clause-seen
returns-clause-seen c =
    runs-seen c.args.list.now c.args.script.now c.args.node c.args.start c.requires.valid c.requires.script
    (rules-hold c.args.list.now c.args.script.now c.args.node c.args.start c.requires.faced)
