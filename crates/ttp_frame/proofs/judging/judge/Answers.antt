use Rattle.ttp_frame.proofs.FrameLaws.{Match-fits, Differs-formed, Invalid-formed, other_members_never_fit}
use Rattle.ttp_frame.proofs.FrameLaws.{bursts_never_match}
use Rattle.ttp_frame.proofs.judging.judge.Goals as goal

pub returns : goal.returns
returns c =
    let e = c.args.expect.now in
    let is = c.found.ensures in
    record {
      answer = is;
      matches = Match-fits c.found.result e.wide c.args.bytes.now e.header e.payload c.args.start c.args.cstate.now is;
      differs = Differs-formed c.found.result e.wide c.args.bytes.now e.header e.payload c.args.start
          c.args.cstate.now is;
      invalid = Invalid-formed c.found.result e.wide c.args.bytes.now e.header e.payload c.args.start
          c.args.cstate.now is;
      told = other_members_never_fit c.found.result e.wide c.args.bytes.now e.header e.payload c.args.start
          c.args.cstate.now is c.requires.members;
      bursts = bursts_never_match c.found.result e.wide c.args.bytes.now e.header e.payload c.args.start
          c.args.cstate.now is;
    }
